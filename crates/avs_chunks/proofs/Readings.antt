-- Reads of the shadow, part by part, and a copy ahead of a state.
use Rattle.std.proofs.Common.{◌≡◌, ◌≢◌, inr, ℕ, ◌+◌, ◌*◌, ◌/◌, ◌<◌, ◌≤◌, Bool, true, false, eqb, List, length, Option, Some, None, is_some, Result, Ok, Err, OnOk, refl, sym, ◌∙◌, ap, subst, arith}
use Rattle.std.proofs.lemmas.Bool.{false≢true, eqb-true, eq-eqb}
use Rattle.std.proofs.lemmas.Result.{on_ok_weaker}
use Rattle.avs_seg.specs.Image.{range, blocks_of}
use Rattle.avs_seg.specs.Segment.{seg_len}
use Rattle.avs_dev.specs.Seen.{Seen, IsTold, Reads, GoesOn}
use Rattle.avs_dev.specs.Devices.{AllGoOn}
use Rattle.avs_dev.proofs.Going.{all_go, all_same, all_err}
use Rattle.avs_flip.specs.Areas.{live}
use Rattle.avs_chunks.specs.ChunkSet.{ChunkSet, disk_of, state_of, chunks_of, shadow_image, IsKnown, IsOnePlace}
use Rattle.avs_chunks.specs.Disks.{ChunkDisk, Master, Shadow, Bitmap, three, disk_at}
use Rattle.avs_chunks.specs.Steps.{ReadsOne}
use Rattle.avs_chunks.specs.Calls.{ReadsShadow, CopiesAhead}
use Rattle.avs_chunks.proofs.Going.{master_or, shadow_goes, both_go}
use Rattle.avs_chunks.proofs.Copied.{Copied}
use Rattle.avs_chunks.proofs.Images.{range_alone, range_there}
use Rattle.avs_chunks.proofs.Settled.{outside, inside, same_states, may_split}

master_goes : {T E : Type 0} (m m' s b : Seen) (r : Result T E) → GoesOn m r m' → AllGoOn (three m s b) r (three m' s b)
master_goes m m' s b r g = all_go (three m s b) (three m' s b) Master master_or (λ d ne. other d ne) r g
  where
    other : (d : ChunkDisk) → d ≢ Master → three m' s b d ≡ three m s b d
    other Master ne = absurd (ne refl)
    other Shadow ne = refl
    other Bitmap ne = refl

same_option : (X Y : Option Seen) → is_some X ≡ is_some Y → disk_of X ≡ disk_of Y → X ≡ Y
same_option None None there same = refl
same_option None (Some y) there same = absurd (false≢true there)
same_option (Some x) None there same = absurd (false≢true (sym there))
same_option (Some x) (Some y) there same = ap (λ (d : Seen). Some d) same

same_read : {T E : Type 0} (d d' : Seen) (at : ℕ) (out : List ℕ) (x : T) → Reads {E = E} d at out (Ok x) d' → d' ≡ d
same_read d d' at out x q = q.rest ∙ ap (λ (n : ℕ). record d { faults = n }) q.goes.done.faults

not_zero : (n : ℕ) → eqb n 0 ≡ false → n ≢ 0
not_zero n away zero = absurd (false≢true (sym away ∙ eq-eqb n 0 zero))

-- ---- one part

module _ (a : ChunkSet) (m m' : Seen) (X : Option Seen) (at : ℕ) (out : List ℕ) (fits : at + length out / 512 ≤ a.blocks)
    (still : is_some X ≡ is_some a.shadow) (one : IsOnePlace a at (length out / 512)) where
  abbrev pub after_read : ChunkSet
  after_read = record a { shadow = X }

  inside_chunk : (i : ℕ) → i < length out / 512 → (at + i) / 64 < chunks_of a
  inside_chunk i lt = omega (arith, lt, fits)

  from_master : {T E : Type 0} (r : Result T E) → eqb (state_of a (at / 64)) 0 ≡ true → X ≡ a.shadow → Reads m at out r m' → ReadsShadow a m at out r after_read m'
  from_master r alone is q = record {
    rest = refl;
    there = still;
    goes = subst (λ (x : Option Seen). AllGoOn (disk_at a m) r (disk_at (record a { shadow = x }) m')) (sym is) (master_goes m m' (disk_of a.shadow) a.areas.disk r q.goes);
    same = kept r q;
    shadow = ap disk_of is ∙ ap (λ (n : ℕ). record (disk_of a.shadow) { faults = n }) (sym (ap (λ (x : Option Seen). (disk_of x).faults) is));
    master = q.rest;
    sure = λ sure_m sure_s. q.sure sure_m;
    shows = λ kn told. shows r kn (q.shows told);
  }
    where
      kept : {T E : Type 0} (z : Result T E) → Reads m at out z m' → OnOk z ((after_read ≡ a) × (m' ≡ m))
      kept (Ok x) h = (ap (λ (o : Option Seen). record a { shadow = o }) is, same_read m m' at out x h)
      kept (Err e) h = tt

      shows : {T E : Type 0} (z : Result T E) → IsKnown a → OnOk z (blocks_of out ≡ range m.image at (length out / 512)) → OnOk z (blocks_of out ≡ range (shadow_image a m.image) at (length out / 512))
      shows (Ok x) kn shown = shown ∙ range_alone a.blocks (live a.areas) m.image (disk_of a.shadow).image at (length out / 512) fits (λ i lt. sym (kn.step.each ((at + i) / 64) (inside_chunk i lt)) ∙ eqb-true (state_of a ((at + i) / 64)) 0 (one.same i lt ∙ alone))
      shows (Err e) kn shown = tt

  from_shadow : {T E : Type 0} (r : Result T E) → eqb (state_of a (at / 64)) 0 ≡ false → m' ≡ m → Reads (disk_of a.shadow) at out r (disk_of X) → ReadsShadow a m at out r after_read m'
  from_shadow r away is q = record {
    rest = refl;
    there = still;
    goes = subst (λ (d : Seen). AllGoOn (disk_at a m) r (disk_at after_read d)) (sym is) (shadow_goes m (disk_of a.shadow) (disk_of X) a.areas.disk r q.goes);
    same = kept r q;
    shadow = q.rest;
    master = is ∙ ap (λ (n : ℕ). record m { faults = n }) (sym (ap (λ (d : Seen). d.faults) is));
    sure = λ sure_m sure_s. q.sure sure_s;
    shows = λ kn told. shows r kn (q.shows kn.shadow);
  }
    where
      kept : {T E : Type 0} (z : Result T E) → Reads (disk_of a.shadow) at out z (disk_of X) → OnOk z ((after_read ≡ a) × (m' ≡ m))
      kept (Ok x) h = (ap (λ (o : Option Seen). record a { shadow = o }) (same_option X a.shadow still (same_read (disk_of a.shadow) (disk_of X) at out x h)), is)
      kept (Err e) h = tt

      shows : {T E : Type 0} (z : Result T E) → IsKnown a → OnOk z (blocks_of out ≡ range (disk_of a.shadow).image at (length out / 512)) → OnOk z (blocks_of out ≡ range (shadow_image a m.image) at (length out / 512))
      shows (Ok x) kn shown = shown ∙ range_there a.blocks (live a.areas) m.image (disk_of a.shadow).image at (length out / 512) fits (λ i lt zero. not_zero (state_of a ((at + i) / 64)) (one.same i lt ∙ away) (kn.step.each ((at + i) / 64) (inside_chunk i lt) ∙ zero))
      shows (Err e) kn shown = tt

  pub reads_one : {T E : Type 0} (alone : Bool) (r : Result T E) → alone ≡ eqb (state_of a (at / 64)) 0 → ReadsOne alone m (disk_of a.shadow) at out r m' (disk_of X) → ReadsShadow a m at out r after_read m'
  reads_one true r is q = from_master r (sym is) (same_option X a.shadow still (q.shadow_rest refl)) (q.from_master refl)
  reads_one false r is q = from_shadow r (sym is) (q.master_rest refl) (q.from_shadow refl)

-- ---- all parts

pub reads_done : {T E : Type 0} (a : ChunkSet) (m : Seen) (at : ℕ) (out : List ℕ) (x : T) → (IsKnown a → IsTold m → blocks_of out ≡ range (shadow_image a m.image) at (length out / 512)) → ReadsShadow {E = E} a m at out (Ok x) a m
reads_done a m at out x shown = record {
  rest = refl;
  there = refl;
  goes = all_same (disk_at a m) x;
  same = (refl, refl);
  shadow = refl;
  master = refl;
  sure = λ sure_m sure_s. refl;
  shows = shown;
}

pub reads_failed : {T T' E E' : Type 0} (a : ChunkSet) (m : Seen) (at at' : ℕ) (out out' : List ℕ) (e : E) (e' : E') (b : ChunkSet) (m' : Seen) → ReadsShadow {T = T'} a m at' out' (Err e') b m' → ReadsShadow {T = T} a m at out (Err e) b m'
reads_failed a m at at' out out' e e' b m' q = record {
  rest = q.rest;
  there = q.there;
  goes = all_err (disk_at a m) (disk_at b m') e' e q.goes;
  same = tt;
  shadow = q.shadow;
  master = q.master;
  sure = λ sure_m sure_s. absurd (false≢true (q.sure sure_m sure_s));
  shows = λ kn told. tt;
}

-- ---- a copy ahead

pub copies_ahead : {T E : Type 0} (s : ChunkSet) (m m' : Seen) (X : Option Seen) (chunk : ℕ) (r : Result T E) → is_some X ≡ is_some s.shadow → chunk < chunks_of s → state_of s chunk ≡ 0 → Copied 0 m (disk_of s.shadow) (64 * chunk) (seg_len chunk s.blocks) r m' (disk_of X) → CopiesAhead s m chunk r (record s { shadow = X }) m'
copies_ahead {T} {E} s m m' X chunk r still there left cp =
    let may = may_split s chunk there (λ two. zero_two (state_of s chunk) left two) in
    let cq = subst (λ (n : ℕ). Copied n m (disk_of s.shadow) (64 * chunk) (seg_len chunk s.blocks) r m' (disk_of X)) (sym left) cp in
    record {
      is = refl;
      keeps = record {
        shape = record { kind = refl; blocks = refl; there = still; first = refl; len = refl; live_b = refl; next = refl };
        goes = both_go m (disk_of s.shadow) s.areas.disk m' (disk_of X) r cp.go;
        bitmap = λ told. record { label = refl; staged = refl; clean = λ zeros. record { each = zeros.each } };
        behind = λ told. record { behind = λ i past. (cp.shadow_within told).outside i (inr (omega (arith, past, there))) };
        blocks = λ kn td. same_states s (record s { shadow = X }) m m' chunk 2 refl kn.step.each may r cq td kn.shadow (record { each = λ c _. refl });
      };
      master = cp.master_same (λ e. zero_three 0 refl e);
      outside = λ told i ne. (cp.shadow_within told).outside i (outside chunk s.blocks i ne);
      copied = λ told told'. on_ok_weaker r (λ same i lt is. inside (disk_of X).image m.image chunk s.blocks i same lt is) (cp.to_shadow told told' refl);
      adds = cp.adds s.areas.disk;
    }
  where
    zero_two : (n : ℕ) → n ≡ 0 → n ≢ 2
    zero_two n a b = omega (arith, a, b)

    zero_three : (n : ℕ) → n ≡ 0 → n ≢ 3
    zero_three n a b = omega (arith, a, b)
