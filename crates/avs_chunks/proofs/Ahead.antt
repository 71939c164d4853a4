-- Chunks that are told are copied ahead, one after another, and then their part is staged.
use Rattle.std.proofs.Common.{◌≡◌, ◌≢◌, ◌⊎◌, inl, inr, ℕ, ◌+◌, ◌-◌, ◌*◌, ◌/◌, ◌<◌, ◌≤◌, Bool, true, false, ◌&&◌, cond, eqb, List, Option, IsTrue, is_some, Result, Ok, Err, ◌∙◌, sym, refl, ap, subst, arith}
use Rattle.std.proofs.lemmas.Bool.{cases_lt, eq-eqb, false≢true}
use Rattle.std.proofs.lemmas.Result.{on_ok_weaker, on_err_weaker}
use Rattle.avs_seg.specs.declared.fault.Failed.{Failed}
use Rattle.avs_seg.specs.Image.{Image, block_at}
use Rattle.avs_seg.specs.Segment.{seg_len}
use Rattle.avs_seg.proofs.Exits.{ok_exit, err_exit}
use Rattle.avs_dev.specs.Seen.{Seen}
use Rattle.avs_dev.specs.Devices.{AllGoOn}
use Rattle.avs_dev.proofs.Going.{all_then}
use Rattle.avs_flip.specs.Areas.{live}
use Rattle.avs_chunks.specs.States.{state_on}
use Rattle.avs_chunks.specs.ChunkSet.{ChunkSet, disk_of, state_of, next_of, staged_state, disk_state, chunks_of, IsKnown, CanSave}
use Rattle.avs_chunks.specs.Disks.{ChunkDisk, Master, Shadow, Bitmap, three, disk_at, raised, Adds, copy_work}
use Rattle.avs_chunks.specs.Calls.{KeepsBlocks, CopiesAhead}
use Rattle.avs_chunks.specs.Staging.{is_ahead, told_work, ahead_work, CopiesTold, told_by, part_end, stage_work, part_work, StagesParts, AreAhead, StagesPart, split_to, AreSetTo}
use Rattle.avs_chunks.proofs.Going.{bitmap_goes, raised-none}
use Rattle.avs_chunks.proofs.Sums.{sum_none, sum_more, sum_one, sum_less}
use Rattle.avs_chunks.proofs.Chained.{keeps_nothing, keeps_then, adds_then, adds_as, adds_wider}

-- ---- one chunk

here_is : (told : ℕ → Bool) (s : ChunkSet) (c : ℕ) → told c ≡ true → state_of s c ≡ 0 → is_ahead told s c ≡ true
here_is told s c is alone = ap (λ (b : Bool). b && eqb (state_of s c) 0) is ∙ eq-eqb (state_of s c) 0 alone

apart : (c k : ℕ) → (k < c) ⊎ (c + 1 ≤ k) → k ≢ c
apart c k (inl low) e = omega (arith, low, e)
apart c k (inr high) e = omega (arith, high, e)

pub told_one : {T E : Type 0} (s s' : ChunkSet) (m m' : Seen) (told : ℕ → Bool) (c : ℕ) (r : Result T E) → told c ≡ true → state_of s c ≡ 0 → CopiesAhead s m c r s' m' → CopiesTold s m told c (c + 1) r s' m'
told_one s s' m m' told c r is alone p = record {
  is = p.is;
  keeps = p.keeps;
  master = p.master;
  outside = λ t i out. p.outside t i (apart c (i / 64) out);
  copied = λ t t'. on_ok_weaker r (λ same i lt low high ahead. same i lt (omega (arith, low, high))) (p.copied t t');
  adds = adds_as (disk_at s m) (disk_at s' m') (copy_work 0 (seg_len c s.blocks)) (ahead_work told s c (c + 1 - c)) r
      (λ d. sym (sum_one (told_work told s d) c ∙ ap (λ (b : Bool). cond b (copy_work 0 (seg_len c s.blocks) d) 0) (here_is told s c is alone))) p.adds;
}

pub told_not : {T E : Type 0} (s : ChunkSet) (m : Seen) (told : ℕ → Bool) (c : ℕ) (x : T) → is_ahead told s c ≡ false → CopiesTold {E = E} s m told c (c + 1) (Ok x) s m
told_not s m told c x not_so = record {
  is = refl;
  keeps = keeps_nothing s m x;
  master = refl;
  outside = λ t i out. refl;
  copied = λ t t' i lt low high ahead. (let here : i / 64 ≡ c = omega (arith, low, high) in absurd (false≢true (sym not_so ∙ sym (ap (λ (k : ℕ). is_ahead told s k) here) ∙ ahead)));
  adds = record {
    done = λ d. sym (raised-none (disk_at s m d).written _ (sum_one (told_work told s d) c ∙ ap (λ (b : Bool). cond b (copy_work 0 (seg_len c s.blocks) d) 0) not_so));
    most = tt;
  };
}

-- a chunk that stands on the master alone has the shadow's disk beside it
pub there_by : (s : ChunkSet) (c : ℕ) → c < chunks_of s → state_of s c ≡ 0 → CanSave s → IsTrue (is_some s.shadow)
there_by s c lt alone (inl there) = there
there_by s c lt alone (inr settled) = elim (settled.settled c lt) [ inl both ↦ absurd (omega (arith, both, alone)) | inr split ↦ absurd (omega (arith, split, alone)) ]

-- ---- a range

pub told_none : (s : ChunkSet) (m : Seen) (told : ℕ → Bool) (first : ℕ) → CopiesTold {T = Unit {0}} {E = Failed} s m told first first (Ok tt) s m
told_none s m told first = record {
  is = refl;
  keeps = keeps_nothing s m tt;
  master = refl;
  outside = λ t i out. refl;
  copied = λ t t' i lt low high ahead. absurd (omega (arith, low, high));
  adds = record { done = λ d. sym (raised-none (disk_at s m d).written _ (sum_none (told_work told s d) first)); most = tt };
}

module _ (s now new : ChunkSet) (m mn m' : Seen) (told : ℕ → Bool) (first c : ℕ) (low : first ≤ c) (so : CopiesTold {T = Unit {0}} {E = Failed} s m told first c (Ok tt) now mn) where
  known : IsKnown s → IsKnown now
  known kn = record {
    shadow = (so.keeps.goes.lasts Shadow).told kn.shadow;
    bitmap = (so.keeps.goes.lasts Bitmap).told kn.bitmap;
    step = record { each = λ k lt. ap (λ (x : ChunkSet). state_of x k) so.is ∙ kn.step.each k (omega (arith, lt, so.keeps.shape.blocks)) ∙ sym (ap (λ (x : ChunkSet). disk_state x k) so.is) };
  }

  work_then : (d : ChunkDisk) → ahead_work told s first (c - first) d + ahead_work told now c (c + 1 - c) d ≡ ahead_work told s first (c + 1 - first) d
  work_then d =
      ap (λ (k : ℕ). ahead_work told s first (c - first) d + k) (sum_one (told_work told now d) c ∙ ap (λ (x : ChunkSet). told_work told x d c) so.is)
      ∙ sym (sum_more (told_work told s d) first c low)

  before : (k : ℕ) → (k < first) ⊎ (c + 1 ≤ k) → (k < first) ⊎ (c ≤ k)
  before k (inl l) = inl l
  before k (inr h) = inr (omega (arith, h))

  behind : (k : ℕ) → (k < first) ⊎ (c + 1 ≤ k) → (k < c) ⊎ (c + 1 ≤ k)
  behind k (inl l) = inl (omega (arith, l, low))
  behind k (inr h) = inr h

  then_told : {T E : Type 0} (r : Result T E) → CopiesTold now mn told c (c + 1) r new m' → CopiesTold s m told first (c + 1) r new m'
  then_told r q = record {
    is = q.is ∙ ap (λ (x : ChunkSet). record x { shadow = new.shadow }) so.is;
    keeps = keeps_then s now new m mn m' tt r so.keeps q.keeps known;
    master = q.master ∙ so.master;
    outside = λ t i out. q.outside ((so.keeps.goes.lasts Shadow).told t) i (behind (i / 64) out) ∙ so.outside t i (before (i / 64) out);
    copied = λ t t'. on_ok_weaker r (λ fresh i lt from to ahead. elim (cases_lt (i / 64) c) [
      | inl below ↦ q.outside ((so.keeps.goes.lasts Shadow).told t') i (inl below) ∙ so.copied t t' i lt from below ahead
      | inr above ↦ fresh i (omega (arith, lt, so.keeps.shape.blocks)) above to (ap (λ (x : ChunkSet). is_ahead told x (i / 64)) so.is ∙ ahead) ∙ ap (λ (l : Image). block_at l i) so.master
    ]) (q.copied ((so.keeps.goes.lasts Master).told t) ((so.keeps.goes.lasts Shadow).told t'));
    adds = adds_as (disk_at s m) (disk_at new m') (λ d. ahead_work told s first (c - first) d + ahead_work told now c (c + 1 - c) d) (ahead_work told s first (c + 1 - first)) r work_then
        (adds_then (disk_at s m) (disk_at now mn) (disk_at new m') (ahead_work told s first (c - first)) (ahead_work told now c (c + 1 - c)) tt r so.adds q.adds);
  }

  pub told_more : (q : Result (Unit {0}) Failed) → q ≡ Ok tt → CopiesTold now mn told c (c + 1) q new m' → CopiesTold {T = Unit {0}} {E = Failed} s m told first (c + 1) (Ok tt) new m'
  told_more q is p = subst (λ (r : Result (Unit {0}) Failed). CopiesTold s m told first (c + 1) r new m') is (then_told q p)

  pub told_fail : (end : ℕ) (e : Failed) (q : Result (Unit {0}) Failed) → c < end → q ≡ Err e → CopiesTold now mn told c (c + 1) q new m' → CopiesTold {T = Unit {0}} s m told first end (Err e) new m'
  told_fail end e q lt is p =
      let t = subst (λ (r : Result (Unit {0}) Failed). CopiesTold s m told first (c + 1) r new m') is (then_told q p) in
      record {
        is = t.is;
        keeps = t.keeps;
        master = t.master;
        outside = λ td i out. t.outside td i (wider (i / 64) out);
        copied = λ td td'. tt;
        adds = adds_wider (disk_at s m) (disk_at new m') (ahead_work told s first (c + 1 - first)) (ahead_work told s first (end - first)) e (λ d. sum_less (told_work told s d) first (c + 1) end (omega (arith, low)) (omega (arith, lt))) t.adds;
      }
    where
      wider : (k : ℕ) → (k < first) ⊎ (end ≤ k) → (k < first) ⊎ (c + 1 ≤ k)
      wider k (inl l) = inl l
      wider k (inr h) = inr (omega (arith, h, lt))

-- the set can still be saved
pub can_still : {T E : Type 0} (a b : ChunkSet) (m m' : Seen) (told : ℕ → Bool) (first end : ℕ) (r : Result T E) → CopiesTold a m told first end r b m' → CanSave a → CanSave b
can_still a b m m' told first end r p (inl there) = inl (subst (λ (t : Bool). IsTrue t) (sym p.keeps.shape.there) there)
can_still a b m m' told first end r p (inr settled) = inr (record {
  kind = p.keeps.shape.kind ∙ settled.kind;
  settled = λ k lt. elim (settled.settled k (omega (arith, lt, p.keeps.shape.blocks))) [
    | inl both ↦ inl (ap (λ (x : ChunkSet). state_of x k) p.is ∙ both)
    | inr split ↦ inr (ap (λ (x : ChunkSet). state_of x k) p.is ∙ split)
  ];
})

-- ---- a part

keeps_by : (a mid new : ChunkSet) (M M' : Image) → live new.areas ≡ live mid.areas → new.shadow ≡ mid.shadow → new.blocks ≡ mid.blocks → KeepsBlocks a M mid M' → KeepsBlocks a M new M'
keeps_by a mid new M M' same there blocks f = record {
  shadow = λ i lt. ap (λ (l : Image). cond (eqb (state_on l (i / 64)) 0) (block_at M' i) (block_at (disk_of new.shadow).image i)) same ∙ ap (λ (x : Option Seen). cond (eqb (disk_state mid (i / 64)) 0) (block_at M' i) (block_at (disk_of x).image i)) there ∙ f.shadow i lt;
  master = λ i lt. ap (λ (l : Image). cond (eqb (state_on l (i / 64)) 3) (block_at (disk_of new.shadow).image i) (block_at M' i)) same ∙ ap (λ (x : Option Seen). cond (eqb (disk_state mid (i / 64)) 3) (block_at (disk_of x).image i) (block_at M' i)) there ∙ f.master i lt;
  only = f.only;
  alike = λ al. record { same = λ i lt both. ap (λ (x : Option Seen). block_at (disk_of x).image i) there ∙ (f.alike al).same i (omega (arith, lt, blocks)) (sym (state (i / 64)) ∙ both) };
  back = λ c lt e. f.back c lt (sym (state c) ∙ e);
  split = λ c lt e. state c ∙ f.split c lt e;
}
  where
    state : (c : ℕ) → disk_state new c ≡ disk_state mid c
    state c = ap (λ (l : Image). state_on l c) same

module _ (s mid new : ChunkSet) (m m' : Seen) (part : ℕ) (bits : List ℕ) where
  staged_adds : {T E : Type 0} (r : Result T E) (to : ℕ → ℕ) → StagesParts mid to part 1 r new → Adds (disk_at mid m') stage_work r (disk_at new m')
  staged_adds r to p = record {
    done = on_ok_weaker r (λ w d. done w d) p.written;
    most = on_err_weaker r (λ w d. most w d) p.most;
  }
    where
      shadow : new.shadow ≡ mid.shadow
      shadow = ap (λ (x : ChunkSet). x.shadow) p.is

      done : new.areas.disk.written ≡ raised mid.areas.disk.written 1 → (d : ChunkDisk) → (disk_at new m' d).written ≡ raised (disk_at mid m' d).written (stage_work d)
      done w Master = refl
      done w Shadow = ap (λ (x : Option Seen). (disk_of x).written) shadow
      done w Bitmap = w

      most : new.areas.disk.written ≤ mid.areas.disk.written + 1 → (d : ChunkDisk) → (disk_at new m' d).written ≤ (disk_at mid m' d).written + stage_work d
      most w Master = omega arith
      most w Shadow = (let e = ap (λ (x : Option Seen). (disk_of x).written) shadow in omega (arith, e))
      most w Bitmap = w

  module _ (cp : CopiesTold {T = Unit {0}} {E = Failed} s m (told_by bits part) (2048 * part) (part_end (chunks_of s) part) (Ok tt) mid m') where
    as_mid : (k : ℕ) → split_to (chunks_of mid) bits (2048 * part) (state_of mid) k ≡ split_to (chunks_of s) bits (2048 * part) (state_of s) k
    as_mid k = ap (λ (x : ChunkSet). split_to (chunks_of x) bits (2048 * part) (state_of x) k) cp.is

    set_as : (f g : ChunkSet → ℕ → ℕ) (b : ℕ → ℕ) → f mid ≡ f s → AreSetTo (f mid) b (split_to (chunks_of mid) bits (2048 * part) (state_of mid)) (2048 * part) (2048 * (part + 1)) → AreSetTo (f s) b (split_to (chunks_of s) bits (2048 * part) (state_of s)) (2048 * part) (2048 * (part + 1))
    set_as f g b same p = record { inside = λ c low high. p.inside c low high ∙ as_mid c; outside = λ c out. p.outside c out ∙ ap (λ (h : ℕ → ℕ). h c) same }

    pub stages_part : {T E : Type 0} (r : Result T E) → StagesParts mid (split_to (chunks_of mid) bits (2048 * part) (state_of mid)) part 1 r new → StagesPart s m part bits r new m'
    stages_part r p = record {
      is = p.is ∙ ap (λ (x : ChunkSet). record x { areas = record x.areas { disk = new.areas.disk }; next = new.next }) cp.is
          ∙ ap (λ (x : Option Seen). record s { shadow = x; areas = record s.areas { disk = new.areas.disk }; next = new.next }) (sym shadow);
      goes = all_then (disk_at s m) (disk_at mid m') (disk_at new m') tt r cp.keeps.goes
          (subst (λ (x : Option Seen). AllGoOn (disk_at mid m') r (three m' (disk_of x) new.areas.disk)) (sym shadow) (bitmap_goes m' (disk_of mid.shadow) mid.areas.disk new.areas.disk r p.goes));
      around = record {
        live = λ told. (let k = p.kept ((cp.keeps.goes.lasts Bitmap).told told) in record { label = k.label ∙ ap (λ (x : ChunkSet). block_at x.areas.disk.image 0) cp.is; live = k.live ∙ ap (λ (x : ChunkSet). live x.areas) cp.is });
        behind = λ told. record { behind = λ i past. ap (λ (x : Option Seen). block_at (disk_of x).image i) shadow ∙ (cp.keeps.behind told).behind i past };
        master = cp.master;
      };
      seen = λ kn td. keeps_by s mid new m.image m'.image (p.kept ((cp.keeps.goes.lasts Bitmap).told kn.bitmap)).live shadow (ap (λ (x : ChunkSet). x.blocks) p.is) (cp.keeps.blocks kn td);
      copied = λ t t'. (let all : AreAhead s m.image part bits new = record { each = λ i lt low high ahead. ap (λ (x : Option Seen). block_at (disk_of x).image i) shadow ∙ cp.copied t t' i lt low (omega (arith, high, lt)) ahead } in record { done = ok_exit r all; stopped = err_exit r (inr all) });
      staged = λ told. on_ok_weaker r (set_as staged_state staged_state (staged_state new) (ap (λ (x : ChunkSet). staged_state x) cp.is)) (p.staged ((cp.keeps.goes.lasts Bitmap).told told));
      held = on_ok_weaker r (set_as next_of next_of (next_of new) (ap (λ (x : ChunkSet). next_of x) cp.is)) p.held;
      adds = adds_then (disk_at s m) (disk_at mid m') (disk_at new m') (ahead_work (told_by bits part) s (2048 * part) (part_end (chunks_of s) part - 2048 * part)) stage_work tt r cp.adds (staged_adds r (split_to (chunks_of mid) bits (2048 * part) (state_of mid)) p);
    }
      where
        shadow : new.shadow ≡ mid.shadow
        shadow = ap (λ (x : ChunkSet). x.shadow) p.is

pub stops_part : {T : Type 0} (s mid : ChunkSet) (m m' : Seen) (part : ℕ) (bits : List ℕ) (e : Failed) (q : Result (Unit {0}) Failed) → q ≡ Err e → CopiesTold s m (told_by bits part) (2048 * part) (part_end (chunks_of s) part) q mid m' → StagesPart {T = T} s m part bits (Err e) mid m'
stops_part s mid m m' part bits e q err p =
    let cp = subst (λ (r : Result (Unit {0}) Failed). CopiesTold s m (told_by bits part) (2048 * part) (part_end (chunks_of s) part) r mid m') err p in
    record {
      is = cp.is ∙ ap (λ (x : ChunkSet). record s { shadow = mid.shadow; areas = record s.areas { disk = x.areas.disk }; next = x.next }) (sym cp.is);
      goes = record { lasts = cp.keeps.goes.lasts; done = tt; failed = cp.keeps.goes.failed };
      around = record {
        live = λ told. record { label = ap (λ (x : ChunkSet). block_at x.areas.disk.image 0) cp.is; live = ap (λ (x : ChunkSet). live x.areas) cp.is };
        behind = cp.keeps.behind;
        master = cp.master;
      };
      seen = cp.keeps.blocks;
      copied = λ t t'. record { done = tt; stopped = inl (ap (λ (x : ChunkSet). x.areas) cp.is) };
      staged = λ told. tt;
      held = tt;
      adds = adds_wider (disk_at s m) (disk_at mid m') (ahead_work (told_by bits part) s (2048 * part) (part_end (chunks_of s) part - 2048 * part)) (part_work s part bits) e (λ d. omega arith) cp.adds;
    }
