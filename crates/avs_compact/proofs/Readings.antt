-- Reads of the shadow, chunk by chunk.
use Rattle.std.proofs.Common.{◌≡◌, ◌≢◌, inl, inr, ℕ, ◌+◌, ◌-◌, ◌*◌, ◌/◌, ◌%◌, ◌<◌, ◌≤◌, Bool, IsTrue, cond, eqb, List, length, Option, Some, None, is_some, Result, Ok, Err, OnOk, refl, sym, ◌∙◌, ap, subst, arith}
use Rattle.std.proofs.lemmas.Bool.{cases_lt, false≢true, lt-ltb, le-ltb}
use Rattle.avs_seg.specs.Image.{Image, block_at, range, blocks_of}
use Rattle.avs_seg.proofs.Blocks.{block_at-tabulate, same_place}
use Rattle.avs_seg.proofs.Ranges.{same_ranges}
use Rattle.avs_dev.specs.Seen.{Seen, IsTold, Reads}
use Rattle.avs_dev.specs.Devices.{AllGoOn}
use Rattle.avs_dev.proofs.Going.{all_same, all_err}
use Rattle.avs_flip.specs.Areas.{live}
use Rattle.avs_over.specs.Over.{OverSet, ReadsSlot, slot_from}
use Rattle.avs_entries.specs.Entries.{entry_on, slot_by}
use Rattle.avs_entries.proofs.Counted.{cond_is, cond_not}
use Rattle.avs_compact.specs.CompactSet.{CompactSet, disk_of, entry_of, chunks_of, shadow_by, shadow_image, in_slot}
use Rattle.avs_compact.specs.Disks.{four, disk_at}
use Rattle.avs_compact.specs.Calls.{AreThere, IsKnown, IsInSlot, ReadsOne, ReadsShadow}
use Rattle.avs_compact.proofs.Going.{master_goes, shadow_goes, over_goes}

-- ---- a block of the shadow

pub shadow_at : (n own : ℕ) (area s o m : Image) (i : ℕ) → i < n → block_at (shadow_by n own area s o m) i ≡ cond (eqb (entry_on area (i / 64)) 0) (block_at m i) (in_slot own s o (slot_by (entry_on area (i / 64))) (i % 64))
unfolding shadow_by
shadow_at n own area s o m i lt = block_at-tabulate _ _ i lt

-- the blocks of a range that lies in one chunk
module _ (n own : ℕ) (area s o m : Image) (at k e : ℕ) (fits : at + k ≤ n) (one : at % 64 + k ≤ 64) (is : entry_on area (at / 64) ≡ e) where
  chunk_is : (i : ℕ) → i < k → (at + i) / 64 ≡ at / 64
  chunk_is i lt = omega (arith, lt, one)

  place_is : (i : ℕ) → i < k → (at + i) % 64 ≡ at % 64 + i
  place_is i lt = omega (arith, lt, one)

  entry_is : (i : ℕ) → i < k → entry_on area ((at + i) / 64) ≡ e
  entry_is i lt = ap (λ (c : ℕ). entry_on area c) (chunk_is i lt) ∙ is

  block_is : (i : ℕ) → i < k → block_at (shadow_by n own area s o m) (at + i) ≡ cond (eqb e 0) (block_at m (at + i)) (in_slot own s o (slot_by e) (at % 64 + i))
  block_is i lt =
      shadow_at n own area s o m (at + i) (omega (arith, lt, fits))
      ∙ ap (λ (x : ℕ). cond (eqb x 0) (block_at m (at + i)) (in_slot own s o (slot_by x) ((at + i) % 64))) (entry_is i lt)
      ∙ ap (λ (j : ℕ). cond (eqb e 0) (block_at m (at + i)) (in_slot own s o (slot_by e) j)) (place_is i lt)

  on_master : e ≡ 0 → range m at k ≡ range (shadow_by n own area s o m) at k
  on_master none = same_ranges m (shadow_by n own area s o m) at at k (λ i lt. sym (block_is i lt ∙ cond_is e 0 _ _ none))

  in_own : e ≢ 0 → slot_by e < own → range s (64 * slot_by e + at % 64) k ≡ range (shadow_by n own area s o m) at k
  in_own some lt_own = same_ranges s (shadow_by n own area s o m) (64 * slot_by e + at % 64) at k (λ i lt.
      let here : 64 * slot_by e + at % 64 + i ≡ 64 * slot_by e + (at % 64 + i) = omega arith in
      same_place s _ _ here
      ∙ sym (block_is i lt ∙ cond_not e 0 _ _ some ∙ ap (λ (b : Bool). cond b (block_at s (64 * slot_by e + (at % 64 + i))) (block_at o (slot_from (slot_by e - own) + (at % 64 + i)))) (lt-ltb (slot_by e) own lt_own)))

  in_over : e ≢ 0 → own ≤ slot_by e → range o (slot_from (slot_by e - own) + at % 64) k ≡ range (shadow_by n own area s o m) at k
  in_over some past = same_ranges o (shadow_by n own area s o m) (slot_from (slot_by e - own) + at % 64) at k (λ i lt.
      let here : slot_from (slot_by e - own) + at % 64 + i ≡ slot_from (slot_by e - own) + (at % 64 + i) = omega arith in
      same_place o _ _ here
      ∙ sym (block_is i lt ∙ cond_not e 0 _ _ some ∙ ap (λ (b : Bool). cond b (block_at s (64 * slot_by e + (at % 64 + i))) (block_at o (slot_from (slot_by e - own) + (at % 64 + i)))) (le-ltb (slot_by e) own past)))

-- ---- small facts

same_option : (X Y : Option Seen) → is_some X ≡ is_some Y → disk_of X ≡ disk_of Y → X ≡ Y
same_option None None there same = refl
same_option None (Some y) there same = absurd (false≢true there)
same_option (Some x) None there same = absurd (false≢true (sym there))
same_option (Some x) (Some y) there same = ap (λ (d : Seen). Some d) same

same_read : {T E : Type 0} (d d' : Seen) (at : ℕ) (out : List ℕ) (x : T) → Reads {E = E} d at out (Ok x) d' → d' ≡ d
same_read d d' at out x q = q.rest ∙ ap (λ (n : ℕ). record d { faults = n }) q.goes.done.faults

-- the slot of a chunk is there
pub slot_there : (s : CompactSet) (o : OverSet) (c at len : ℕ) → ((d : Seen) → s.shadow ≡ Some d → 64 * s.own ≤ d.size) → IsTrue (is_some s.shadow) → AreThere s o → c < chunks_of s → entry_of s c ≢ 0 → 0 < len → 512 * (len / 512) ≡ len → at + len / 512 ≤ 64 → IsInSlot (disk_of s.shadow) o s.own (slot_by (entry_of s c)) at len
slot_there s o c at len room there placed lt some positive whole inside = record {
  some = positive;
  whole = whole;
  inside = inside;
  in_own = λ _. large s.shadow room there;
  in_over = λ past. placed.each c lt some past;
}
  where
    large : (X : Option Seen) → ((d : Seen) → X ≡ Some d → 64 * s.own ≤ d.size) → IsTrue (is_some X) → 64 * s.own ≤ (disk_of X).size
    large None r t = absurd (false≢true t)
    large (Some d) r t = r d refl

-- ---- one chunk

module _ (a : CompactSet) (o o' : OverSet) (m m' : Seen) (X : Option Seen) (at : ℕ) (out : List ℕ) (fits : at + length out / 512 ≤ a.blocks) (one : at % 64 + length out / 512 ≤ 64) (some : 0 < length out / 512)
    (still : is_some X ≡ is_some a.shadow) where
  abbrev pub after_read : CompactSet
  after_read = record a { shadow = X }

  here : at / 64 < chunks_of a
  here = omega (arith, fits, some)

  pub from_master : {T E : Type 0} (r : Result T E) → entry_of a (at / 64) ≡ 0 → X ≡ a.shadow → o' ≡ o → Reads m at out r m' → ReadsShadow a o m at out r after_read o' m'
  from_master r none is o_is q = record {
    goes = subst (λ (x : Option Seen). AllGoOn (disk_at a o m) r (disk_at (record a { shadow = x }) o' m')) (sym is) (subst (λ (z : OverSet). AllGoOn (disk_at a o m) r (disk_at a z m')) (sym o_is) (master_goes m m' (disk_of a.shadow) a.areas.disk o.disk r q.goes));
    same = kept r q;
    set = refl;
    shadow = (still, ap disk_of is ∙ ap (λ (n : ℕ). record (disk_of a.shadow) { faults = n }) (sym (ap (λ (x : Option Seen). (disk_of x).faults) is)));
    over = o_is ∙ ap (λ (n : ℕ). record o { disk = record o.disk { faults = n } }) (sym (ap (λ (z : OverSet). z.disk.faults) o_is));
    master = q.rest;
    sure = λ sure_m sure_s sure_o. q.sure sure_m;
    shows = λ kn told. shows r kn (q.shows told);
  }
    where
      kept : {T E : Type 0} (z : Result T E) → Reads m at out z m' → OnOk z ((after_read ≡ a) × ((o' ≡ o) × (m' ≡ m)))
      kept (Ok x) h = (ap (λ (y : Option Seen). record a { shadow = y }) is, (o_is, same_read m m' at out x h))
      kept (Err e) h = tt

      shows : {T E : Type 0} (z : Result T E) → IsKnown a o → OnOk z (blocks_of out ≡ range m.image at (length out / 512)) → OnOk z (blocks_of out ≡ range (shadow_image a o m.image) at (length out / 512))
      shows (Ok x) kn shown = shown ∙ on_master a.blocks a.own (live a.areas) (disk_of a.shadow).image o.disk.image m.image at (length out / 512) (entry_of a (at / 64)) fits one (sym (kn.step.each (at / 64) here)) none
      shows (Err e) kn shown = tt

  module _ (touched : entry_of a (at / 64) ≢ 0) where
    abbrev slot : ℕ
    slot = slot_by (entry_of a (at / 64))

    from_own : {T E : Type 0} (r : Result T E) → slot < a.own → m' ≡ m → o' ≡ o → Reads (disk_of a.shadow) (64 * slot + at % 64) out r (disk_of X) → ReadsShadow a o m at out r after_read o' m'
    from_own r lt is o_is q = record {
      goes = subst (λ (d : Seen). AllGoOn (disk_at a o m) r (disk_at after_read o' d)) (sym is) (subst (λ (z : OverSet). AllGoOn (disk_at a o m) r (disk_at after_read z m)) (sym o_is) (shadow_goes m (disk_of a.shadow) (disk_of X) a.areas.disk o.disk r q.goes));
      same = kept r q;
      set = refl;
      shadow = (still, q.rest);
      over = o_is ∙ ap (λ (n : ℕ). record o { disk = record o.disk { faults = n } }) (sym (ap (λ (z : OverSet). z.disk.faults) o_is));
      master = is ∙ ap (λ (n : ℕ). record m { faults = n }) (sym (ap (λ (d : Seen). d.faults) is));
      sure = λ sure_m sure_s sure_o. q.sure sure_s;
      shows = λ kn told. shows r kn (q.shows kn.shadow);
    }
      where
        kept : {T E : Type 0} (z : Result T E) → Reads (disk_of a.shadow) (64 * slot + at % 64) out z (disk_of X) → OnOk z ((after_read ≡ a) × ((o' ≡ o) × (m' ≡ m)))
        kept (Ok x) h = (ap (λ (y : Option Seen). record a { shadow = y }) (same_option X a.shadow still (same_read (disk_of a.shadow) (disk_of X) (64 * slot + at % 64) out x h)), (o_is, is))
        kept (Err e) h = tt

        shows : {T E : Type 0} (z : Result T E) → IsKnown a o → OnOk z (blocks_of out ≡ range (disk_of a.shadow).image (64 * slot + at % 64) (length out / 512)) → OnOk z (blocks_of out ≡ range (shadow_image a o m.image) at (length out / 512))
        shows (Ok x) kn shown = shown ∙ in_own a.blocks a.own (live a.areas) (disk_of a.shadow).image o.disk.image m.image at (length out / 512) (entry_of a (at / 64)) fits one (sym (kn.step.each (at / 64) here)) touched lt
        shows (Err e) kn shown = tt

    from_over : {T E : Type 0} (r : Result T E) → a.own ≤ slot → m' ≡ m → disk_of X ≡ disk_of a.shadow → ReadsSlot o (slot - a.own) (at % 64) out r o' → ReadsShadow a o m at out r after_read o' m'
    from_over r past is s_is q =
        let x_is = same_option X a.shadow still s_is in
        record {
          goes = subst (λ (d : Seen). AllGoOn (disk_at a o m) r (disk_at after_read o' d)) (sym is) (subst (λ (d : Seen). AllGoOn (disk_at a o m) r (four m d a.areas.disk o'.disk)) (sym s_is) (over_goes m (disk_of a.shadow) a.areas.disk o.disk o'.disk r q.reads.goes));
          same = kept r q.reads;
          set = refl;
          shadow = (still, s_is ∙ ap (λ (n : ℕ). record (disk_of a.shadow) { faults = n }) (sym (ap (λ (d : Seen). d.faults) s_is)));
          over = q.rest ∙ ap (λ (d : Seen). record o { disk = d }) q.reads.rest;
          master = is ∙ ap (λ (n : ℕ). record m { faults = n }) (sym (ap (λ (d : Seen). d.faults) is));
          sure = λ sure_m sure_s sure_o. q.reads.sure sure_o;
          shows = λ kn told. shows r kn (q.reads.shows kn.over);
        }
      where
        kept : {T E : Type 0} (z : Result T E) → Reads o.disk (slot_from (slot - a.own) + at % 64) out z o'.disk → OnOk z ((after_read ≡ a) × ((o' ≡ o) × (m' ≡ m)))
        kept (Ok x) h = (ap (λ (y : Option Seen). record a { shadow = y }) (same_option X a.shadow still s_is), (q.rest ∙ ap (λ (d : Seen). record o { disk = d }) (same_read o.disk o'.disk (slot_from (slot - a.own) + at % 64) out x h), is))
        kept (Err e) h = tt

        shows : {T E : Type 0} (z : Result T E) → IsKnown a o → OnOk z (blocks_of out ≡ range o.disk.image (slot_from (slot - a.own) + at % 64) (length out / 512)) → OnOk z (blocks_of out ≡ range (shadow_image a o m.image) at (length out / 512))
        shows (Ok x) kn shown = shown ∙ in_over a.blocks a.own (live a.areas) (disk_of a.shadow).image o.disk.image m.image at (length out / 512) (entry_of a (at / 64)) fits one (sym (kn.step.each (at / 64) here)) touched past
        shows (Err e) kn shown = tt

    pub from_slot : {T E : Type 0} (r : Result T E) → m' ≡ m → ReadsOne (disk_of a.shadow) o a.own slot (at % 64) out r (disk_of X) o' → ReadsShadow a o m at out r after_read o' m'
    from_slot r is q = elim (cases_lt slot a.own) [
      | inl lt ↦ from_own r lt is (q.over_rest lt) (q.from_own lt)
      | inr past ↦ from_over r past is (q.shadow_rest past) (q.from_over past)
    ]

-- ---- all chunks

pub reads_done : {T E : Type 0} (a : CompactSet) (o : OverSet) (m : Seen) (at : ℕ) (out : List ℕ) (x : T) → (IsKnown a o → IsTold m → blocks_of out ≡ range (shadow_image a o m.image) at (length out / 512)) → ReadsShadow {E = E} a o m at out (Ok x) a o m
reads_done a o m at out x shown = record {
  goes = all_same (disk_at a o m) x;
  same = (refl, (refl, refl));
  set = refl;
  shadow = (refl, refl);
  over = refl;
  master = refl;
  sure = λ sure_m sure_s sure_o. refl;
  shows = shown;
}

pub reads_failed : {T T' E E' : Type 0} (a : CompactSet) (o : OverSet) (m : Seen) (at at' : ℕ) (out out' : List ℕ) (e : E) (e' : E') (b : CompactSet) (o' : OverSet) (m' : Seen) → ReadsShadow {T = T'} a o m at' out' (Err e') b o' m' → ReadsShadow {T = T} a o m at out (Err e) b o' m'
reads_failed a o m at at' out out' e e' b o' m' q = record {
  goes = all_err (disk_at a o m) (disk_at b o' m') e' e q.goes;
  same = tt;
  set = q.set;
  shadow = q.shadow;
  over = q.over;
  master = q.master;
  sure = λ sure_m sure_s sure_o. absurd (false≢true (q.sure sure_m sure_s sure_o));
  shows = λ kn told. tt;
}
