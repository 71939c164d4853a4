-- A chunk is settled: in a slot that it takes, and in the one that it has.
use Rattle.std.proofs.Common.{◌≡◌, inl, ℕ, ◌+◌, ◌-◌, ◌*◌, ◌^◌, ◌<◌, ◌≤◌, List, length, take, Option, Some, is_some, Result, Ok, Err, ◌∙◌, sym, refl, ap, subst, arith}
use Rattle.avs_seg.specs.Segment.{seg_len}
use Rattle.avs_dev.specs.Seen.{Seen}
use Rattle.avs_dev.proofs.Going.{all_err}
use Rattle.avs_flip.specs.Areas.{Areas}
use Rattle.avs_over.specs.Slots.{Owners, owner_at, used_in}
use Rattle.avs_over.specs.Over.{OverSet, slots}
use Rattle.avs_entries.specs.Entries.{IsEntry, state_by, slot_by, entry_for}
use Rattle.avs_entries.specs.Slots.{IsClean, Marks}
use Rattle.avs_entries.specs.Putting.{WritesEntry}
use Rattle.avs_entries.specs.declared.marks.Counts.{Counts}
use Rattle.avs_compact.specs.CompactSet.{CompactSet, disk_of, entry_of, chunks_of}
use Rattle.avs_compact.specs.Disks.{disk_at}
use Rattle.avs_compact.specs.Calls.{AreThere}
use Rattle.avs_compact.specs.Places.{OnlyTakes}
use Rattle.avs_compact.specs.Steps.{TakesSlot, CopiesIn, CopiesBack}
use Rattle.avs_compact.specs.Keeping.{IsPlaced, MaySettle, Settles}
use Rattle.avs_compact.proofs.Copied.{Copied, copied_in, copied_back, back_owners}
use Rattle.avs_compact.proofs.Placed.{only_takes_none}
use Rattle.avs_compact.proofs.Settled.{IsNewEntry, zero_state, some_state, fails_copy, settles}
use Rattle.avs_compact.proofs.SettlingNew.{new_entry, settling_new, free_slot, takes_slot, mine_slot, room_slot, disk_slot, first_new, counts_new, settling_old, apart_old, counts_old, first_old}

-- ---- in a slot that it takes

module _ (s : CompactSet) (chunk slot : ℕ) (o o1 o' : OverSet) (table : Owners) (counts : Counts) (marks : Marks (entry_of s) s.own (chunks_of s) table counts) (inside : s.low ≤ length table) (kept : used_in (take s.low table) + s.ahead ≡ s.low)
    (t : TakesSlot table s.low s.set o (Some slot) o1)
    (there : chunk < chunks_of s) (none : entry_of s chunk ≡ 0) (X : Option Seen) (still : is_some X ≡ is_some s.shadow) (m m' : Seen) {T E : Type 0} (r : Result T E)
    (at len : ℕ) (at_is : at ≡ 64 * chunk) (len_is : len ≡ seg_len chunk s.blocks) (copies : CopiesIn m (disk_of s.shadow) o1 s.own slot at len r m' (disk_of X) o') where
  pub owners_is : o'.owners ≡ o1.owners
  owners_is = ap (λ (z : OverSet). z.owners) copies.over

  pub takes : OnlyTakes s.set o.owners o'.owners
  takes = subst (λ (l : Owners). OnlyTakes s.set o.owners l) (sym owners_is) (takes_slot s chunk slot o o1 table counts marks inside kept t there none)

  pub mine : s.own ≤ slot → owner_at o'.owners (slot - s.own) ≡ Some s.set
  mine past = ap (λ (l : Owners). owner_at l (slot - s.own)) owners_is ∙ mine_slot s chunk slot o o1 table counts marks inside kept t there none past

  room : s.own ≤ slot → slot - s.own < slots o'
  room past = (let below = room_slot s chunk slot o o1 table counts marks inside kept t there none past in let k = ap length owners_is in omega (arith, below, k))

  disk_is : o1.disk ≡ o.disk
  disk_is = ap (λ (z : OverSet). z.disk) (disk_slot s chunk slot o o1 table counts marks inside kept t there none)

  pub cp : Copied s.own (state_by (entry_of s chunk)) m (disk_of s.shadow) o.disk slot (64 * chunk) (seg_len chunk s.blocks) r m' (disk_of X) o'.disk
  cp =
      subst (λ (k : ℕ). Copied s.own k m (disk_of s.shadow) o.disk slot (64 * chunk) (seg_len chunk s.blocks) r m' (disk_of X) o'.disk) (sym (zero_state (entry_of s chunk) none))
      (subst (λ (d : Seen). Copied s.own 0 m (disk_of s.shadow) d slot (64 * chunk) (seg_len chunk s.blocks) r m' (disk_of X) o'.disk) disk_is
      (subst (λ (k : ℕ). Copied s.own 0 m (disk_of s.shadow) o1.disk slot k (seg_len chunk s.blocks) r m' (disk_of X) o'.disk) at_is
      (subst (λ (k : ℕ). Copied s.own 0 m (disk_of s.shadow) o1.disk slot at k r m' (disk_of X) o'.disk) len_is
      (copied_in m m' (disk_of s.shadow) (disk_of X) o1 o' s.own slot at len r copies))))

  pub new_fails : {U G : Type 0} (e : E) (e' : G) → r ≡ Err e → Settles {T = U} s o m chunk 2 (Err e') (record s { shadow = X }) o' m'
  new_fails e e' is = fails_copy s X still o o' m m' chunk 2 slot 0 (settling_new s chunk slot there none marks.form) (free_slot s chunk slot o o1 table counts marks inside kept t there none) takes (λ _. mine) r cp e e' is

  pub new_settles : slot < 2 ^ 30 - 1 → IsClean s.memory (chunks_of s) → s.areas.first ≡ 1 → (a' : Areas) (M' : List ℕ) (L : ℕ) (x : T) → r ≡ Ok x → {V H : Type 0} (q : Result V H) → WritesEntry s.areas s.memory chunk (entry_for 2 slot) q a' M'
      → Settles s o m chunk 2 q (record s { shadow = X; areas = a'; memory = M'; low = L }) o' m'
  new_settles small clean first a' M' L x is q p =
      settles s X still o o' m m' chunk 2 slot (entry_for 2 slot) (settling_new s chunk slot there none marks.form) (free_slot s chunk slot o o1 table counts marks inside kept t there none) takes (λ _. mine) r cp
      (new_entry 2 slot (inl refl) small) clean first room a' M' L x is q p
      (λ one. counts_new s chunk slot o o1 table counts marks inside kept t there none (record s { shadow = X; areas = a'; memory = M'; low = L }) o' refl refl refl refl owners_is one)
      (λ F one. first_new s chunk slot o o1 table counts marks inside kept t there none F one)

-- the same where the error is told by another word
pub settles_err : {T E T' E' : Type 0} (s s' : CompactSet) (o o' : OverSet) (m m' : Seen) (chunk target : ℕ) (q : Result T E) (e : E) (e' : E') → q ≡ Err e → Settles s o m chunk target q s' o' m' → Settles {T = T'} s o m chunk target (Err e') s' o' m'
settles_err {T} {E} {T'} {E'} s s' o o' m m' chunk target q e e' is st = by_err (subst (λ (z : Result T E). Settles s o m chunk target z s' o' m') is st)
  where
    by_err : Settles {T = T} s o m chunk target (Err e) s' o' m' → Settles {T = T'} s o m chunk target (Err e') s' o' m'
    by_err p = record {
      keeps = record { shape = p.keeps.shape; goes = all_err (disk_at s o m) (disk_at s' o' m') e e' p.keeps.goes; bitmap = p.keeps.bitmap; slots = p.keeps.slots; over = p.keeps.over; blocks = p.keeps.blocks; own_first = p.keeps.own_first };
      done = λ kn. tt;
      stopped = p.stopped;
      known = λ kn. tt;
      memory = tt;
      unset = p.unset;
      counts = tt;
      work = record { done = tt; stopped = p.work.stopped };
    }

pub settles_ok : {T E T' E' : Type 0} (s s' : CompactSet) (o o' : OverSet) (m m' : Seen) (chunk target : ℕ) (q : Result T E) (x : T) (x' : T') → q ≡ Ok x → Settles s o m chunk target q s' o' m' → Settles {E = E'} s o m chunk target (Ok x') s' o' m'
settles_ok {T} {E} {T'} {E'} s s' o o' m m' chunk target q x x' is st = by_ok (subst (λ (z : Result T E). Settles s o m chunk target z s' o' m') is st)
  where
    by_ok : Settles {E = E} s o m chunk target (Ok x) s' o' m' → Settles {E = E'} s o m chunk target (Ok x') s' o' m'
    by_ok p = record {
      keeps = record { shape = p.keeps.shape; goes = record { lasts = p.keeps.goes.lasts; done = p.keeps.goes.done; failed = tt }; bitmap = p.keeps.bitmap; slots = p.keeps.slots; over = p.keeps.over; blocks = p.keeps.blocks; own_first = p.keeps.own_first };
      done = p.done;
      stopped = λ kn. tt;
      known = p.known;
      memory = p.memory;
      unset = tt;
      counts = p.counts;
      work = record { done = p.work.done; stopped = tt };
    }

-- ---- in the slot that it has

module _ (s : CompactSet) (chunk target e : ℕ) (o o' : OverSet) (is : e ≡ entry_of s chunk) (may : MaySettle s chunk target) (served : AreThere s o) (form : (c : ℕ) → c < chunks_of s → IsEntry (entry_of s c))
    (X : Option Seen) (still : is_some X ≡ is_some s.shadow) (m m' : Seen) {T E : Type 0} (r : Result T E)
    (at len : ℕ) (at_is : at ≡ 64 * chunk) (len_is : len ≡ seg_len chunk s.blocks) (copies : CopiesBack e m (disk_of s.shadow) o s.own at len r m' (disk_of X) o') where
  back : CopiesBack (entry_of s chunk) m (disk_of s.shadow) o s.own at len r m' (disk_of X) o'
  back = subst (λ (k : ℕ). CopiesBack k m (disk_of s.shadow) o s.own at len r m' (disk_of X) o') is copies

  old_owners : o'.owners ≡ o.owners
  old_owners = ap (λ (z : OverSet). z.owners) (back_owners (entry_of s chunk) m m' (disk_of s.shadow) (disk_of X) o o' s.own at len r back)

  old_takes : OnlyTakes s.set o.owners o'.owners
  old_takes = subst (λ (l : Owners). OnlyTakes s.set o.owners l) (sym old_owners) (only_takes_none s.set o.owners)

  old_mine : IsPlaced s o → s.own ≤ slot_by (entry_of s chunk) → owner_at o'.owners (slot_by (entry_of s chunk) - s.own) ≡ Some s.set
  old_mine placed past = ap (λ (l : Owners). owner_at l (slot_by (entry_of s chunk) - s.own)) old_owners ∙ placed.mine chunk may.there may.slot past

  old_room : s.own ≤ slot_by (entry_of s chunk) → slot_by (entry_of s chunk) - s.own < slots o'
  old_room past = (let below = served.each chunk may.there may.slot past in let k = ap length old_owners in omega (arith, below, k))

  old_cp : Copied s.own (state_by (entry_of s chunk)) m (disk_of s.shadow) o.disk (slot_by (entry_of s chunk)) (64 * chunk) (seg_len chunk s.blocks) r m' (disk_of X) o'.disk
  old_cp =
      subst (λ (k : ℕ). Copied s.own (state_by (entry_of s chunk)) m (disk_of s.shadow) o.disk (slot_by (entry_of s chunk)) k (seg_len chunk s.blocks) r m' (disk_of X) o'.disk) at_is
      (subst (λ (k : ℕ). Copied s.own (state_by (entry_of s chunk)) m (disk_of s.shadow) o.disk (slot_by (entry_of s chunk)) at k r m' (disk_of X) o'.disk) len_is
      (copied_back (entry_of s chunk) (some_state (entry_of s chunk) (form chunk may.there) may.slot) m m' (disk_of s.shadow) (disk_of X) o o' s.own at len r back))

  pub old_fails : {U G : Type 0} (f : E) (f' : G) → r ≡ Err f → Settles {T = U} s o m chunk target (Err f') (record s { shadow = X }) o' m'
  old_fails f f' err = fails_copy s X still o o' m m' chunk target (slot_by (entry_of s chunk)) 0 (settling_old s chunk target may form) (apart_old s o chunk may.there may.slot) old_takes old_mine r old_cp f f' err

  pub old_settles : (slot : ℕ) → slot ≡ slot_by (entry_of s chunk) → slot < 2 ^ 30 - 1 → IsClean s.memory (chunks_of s) → s.areas.first ≡ 1 → (a' : Areas) (M' : List ℕ) (x : T) → r ≡ Ok x → {V H : Type 0} (q : Result V H)
      → WritesEntry s.areas s.memory chunk (entry_for target slot) q a' M' → Settles s o m chunk target q (record s { shadow = X; areas = a'; memory = M' }) o' m'
  old_settles slot slot_is small clean first a' M' x ok q p =
      settles s X still o o' m m' chunk target (slot_by (entry_of s chunk)) (entry_for target slot) (settling_old s chunk target may form) (apart_old s o chunk may.there may.slot) old_takes old_mine r old_cp
      (subst (λ (k : ℕ). IsNewEntry (entry_for target slot) target k) slot_is (new_entry target slot may.targets small)) clean first old_room a' M' s.low x ok q p
      (λ one. counts_old s (record s { shadow = X; areas = a'; memory = M' }) o o' chunk (slot_by (entry_of s chunk)) refl refl refl refl old_owners may.slot refl one)
      (λ F one. first_old (entry_of s) F s.own (chunks_of s) s.ahead chunk (slot_by (entry_of s chunk)) may.slot refl one)
