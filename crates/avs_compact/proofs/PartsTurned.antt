-- A set that is updated part by part.
use Rattle.std.proofs.Common.{◌≡◌, ◌≢◌, ◌⊎◌, inl, inr, ℕ, ◌+◌, ◌-◌, ◌*◌, ◌/◌, ◌<◌, ◌≤◌, Bool, true, false, cond, eqb, List, Result, Ok, ◌∙◌, sym, refl, ap, subst, arith}
use Rattle.std.specs.Prelude.{nat_lt, ◌&&◌}
use Rattle.std.proofs.lemmas.Bool.{cases_Bool, false_from_ne_true, eqb-true, cases_lt, cases_eq, false≢true, lt-ltb, eq-eqb}
use Rattle.std.proofs.lemmas.Result.{on_ok_weaker}
use Rattle.avs_seg.specs.declared.fault.Failed.{Failed}
use Rattle.avs_seg.specs.Segment.{seg_len}
use Rattle.avs_seg.proofs.Exits.{ok_exit, err_exit}
use Rattle.avs_dev.specs.Seen.{Seen}
use Rattle.avs_over.specs.Slots.{given_to}
use Rattle.avs_over.specs.Over.{OverSet}
use Rattle.avs_entries.specs.Entries.{IsEntry, slot_by, entry_for}
use Rattle.avs_entries.specs.Counting.{is_own, is_over, is_touched, count_of}
use Rattle.avs_entries.specs.Slots.{AreEntries}
use Rattle.avs_entries.specs.Parts.{told_by, part_end, is_ahead, part_blocks, split_to}
use Rattle.avs_entries.proofs.Counted.{cond_is, cond_not, count_same}
use Rattle.avs_compact.specs.CompactSet.{CompactSet, chunks_of, entry_of, next_of, own_used, over_used}
use Rattle.avs_compact.specs.Disks.{CompactDisk, Shadow, Bitmap, Over, disk_at}
use Rattle.avs_compact.specs.Places.{ArePlaced}
use Rattle.avs_compact.specs.Keeping.{IsPlaced, AreOwnFull}
use Rattle.avs_compact.specs.Staging.{StagesBlocks}
use Rattle.avs_compact.specs.Ahead.{CopiesTold, KeepsSlotsFor, kept_count, split_of, told_from}
use Rattle.avs_compact.specs.Updating.{is_ahead_in, lacking_in, CopiesBelow, CopiesNext, split_in, StagesBelow, StagesNextPart, UpdatesParts, LeavesSlots}
use Rattle.avs_compact.specs.Work.{slot_work, slot_most, ahead_work, ahead_most}
use Rattle.avs_compact.proofs.Work.{up_to_as, sum_same}
use Rattle.avs_compact.proofs.Placed.{placed_same, only_takes_none}
use Rattle.avs_compact.proofs.Ahead.{count_same_on}
use Rattle.avs_compact.proofs.AheadThen.{told_none, then_told}
use Rattle.avs_compact.proofs.Staged.{blocks_none, blocks_more}
use Rattle.avs_compact.proofs.SplitCounts.{SplitsWith, split_entry, own_kept, over_kept, need_kept, split_placed}
use Rattle.avs_compact.proofs.Updated.{updated_known, updated_entries, placed_entries}

-- ---- the same by another list that tells the same chunks

module _ (s new : CompactSet) (o o' : OverSet) (m m' : Seen) (p q : ℕ → Bool) (first end : ℕ) (same : (c : ℕ) → first ≤ c → c < end → q c ≡ p c) where
  within : (c : ℕ) → c < first + (end - first) → first ≤ c → c < end
  within c lt low = omega (arith, lt, low)

  kept_as : (test : ℕ → Bool) → kept_count test new q first end ≡ kept_count test new p first end
  kept_as test = count_same_on (λ c. p c && test (next_of new c)) (λ c. q c && test (next_of new c)) first (end - first) (λ c low lt. ap (λ (b : Bool). b && test (next_of new c)) (same c low (within c lt low)))

  slots_as : KeepsSlotsFor s o (told_from p first end) new o' → KeepsSlotsFor s o (told_from q first end) new o'
  slots_as k = record {
    kept = λ c low lt is. k.kept c low lt (sym (same c low lt) ∙ is);
    others = λ c out. k.others c (outside c out);
    apart = λ c d low less lt is is'. k.apart c d low less lt (sym (same c low (omega (arith, less, lt))) ∙ is) (sym (same d (omega (arith, low, less)) lt) ∙ is');
    room = (let e = count_same_on p q first (end - first) (λ c low lt. same c low (within c lt low)) in omega (arith, k.room, e));
    low = k.low;
    own = (let e = kept_as (is_own s.own) in omega (arith, k.own, e));
    over = (let e = kept_as (is_over s.own) in omega (arith, k.over, e));
    own_first = λ before. elim before [ inl full ↦ k.own_first (inl full) | inr more ↦ k.own_first (inr (let e = kept_as (is_over s.own) in omega (arith, more, e))) ];
  }
    where
      outside : (c : ℕ) → (c < first) ⊎ ((end ≤ c) ⊎ (q c ≡ false)) → (c < first) ⊎ ((end ≤ c) ⊎ (p c ≡ false))
      outside c (inl low) = inl low
      outside c (inr (inl high)) = inr (inl high)
      outside c (inr (inr is)) = elim (cases_lt c first) [
        | inl low ↦ inl low
        | inr from ↦ elim (cases_lt c end) [
          | inl lt ↦ inr (inr (sym (same c from lt) ∙ is))
          | inr high ↦ inr (inl high)
        ]
      ]

  pub told_as : {T E : Type 0} (r : Result T E) → CopiesTold s o m p first end r new o' m' → CopiesTold s o m q first end r new o' m'
  told_as r t = record {
    keeps = t.keeps;
    kept = on_ok_weaker r slots_as t.kept;
    copied = λ tm ts to. on_ok_weaker r (λ a. record {
      each = λ i lt low high is. a.each i lt low high (sym (same (i / 64) low high) ∙ is);
      others = λ k i b other. a.others k i b (λ c low lt is. other c low lt (same c low lt ∙ is));
    }) (t.copied tm ts to);
    work = up_to_as (disk_at s o m) (disk_at new o' m') (ahead_work s new p first (end - first)) (ahead_work s new q first (end - first)) (ahead_most s p first (end - first)) (ahead_most s q first (end - first)) r
        (ok_exit r work_as) (err_exit r (λ d. (let e = most_as d in omega (arith, e)))) t.work;
  }
    where
      work_as : (d : CompactDisk) → ahead_work s new p first (end - first) d ≡ ahead_work s new q first (end - first) d
      work_as d = sym (sum_same (λ c. cond (p c) (slot_work s.own (slot_by (next_of new c)) (seg_len c s.blocks) d) 0) (λ c. cond (q c) (slot_work s.own (slot_by (next_of new c)) (seg_len c s.blocks) d) 0) first (end - first)
          (λ c low lt. ap (λ (b : Bool). cond b (slot_work s.own (slot_by (next_of new c)) (seg_len c s.blocks) d) 0) (same c low (within c lt low))))

      most_as : (d : CompactDisk) → ahead_most s p first (end - first) d ≡ ahead_most s q first (end - first) d
      most_as d = sym (sum_same (λ c. cond (p c) (slot_most (seg_len c s.blocks) d) 0) (λ c. cond (q c) (slot_most (seg_len c s.blocks) d) 0) first (end - first)
          (λ c low lt. ap (λ (b : Bool). cond b (slot_most (seg_len c s.blocks) d) 0) (same c low (within c lt low))))

-- ---- the copies

pub copies_begin : (s : CompactSet) (o : OverSet) (m : Seen) (bits : ℕ → List ℕ) → CopiesBelow s o m bits 0 s o m
copies_begin s o m bits = told_none s o m (is_ahead_in bits (entry_of s)) 0

pub copies_next : (old now new : CompactSet) (o o1 o2 : OverSet) (m m1 m2 : Seen) (bits : ℕ → List ℕ) (part : ℕ) → 2048 * part ≤ chunks_of old → CopiesBelow old o m bits (2048 * part) now o1 m1 → CopiesNext now o1 m1 part (bits part) new o2 m2
    → CopiesBelow old o m bits (part_end (chunks_of old) part) new o2 m2
copies_next old now new o o1 o2 m m1 m2 bits part inside so next =
    then_told old now new o o1 o2 m m1 m2 (is_ahead_in bits (entry_of old)) 0 (2048 * part) (part_end (chunks_of old) part) (omega arith) (omega (arith, inside)) so (Ok tt)
    (told_as now new o1 o2 m1 m2 (is_ahead (bits part) part (entry_of now)) (is_ahead_in bits (entry_of old)) (2048 * part) (part_end (chunks_of old) part) same (Ok tt) next_here)
  where
    count : chunks_of now ≡ chunks_of old
    count = ap (λ (x : CompactSet). chunks_of x) so.keeps.is

    next_here : CopiesTold {T = Unit {0}} {E = Failed} now o1 m1 (is_ahead (bits part) part (entry_of now)) (2048 * part) (part_end (chunks_of old) part) (Ok tt) new o2 m2
    next_here = subst (λ (n : ℕ). CopiesTold {T = Unit {0}} {E = Failed} now o1 m1 (is_ahead (bits part) part (entry_of now)) (2048 * part) (part_end n part) (Ok tt) new o2 m2) count next

    same : (c : ℕ) → 2048 * part ≤ c → c < part_end (chunks_of old) part → is_ahead_in bits (entry_of old) c ≡ is_ahead (bits part) part (entry_of now) c
    same c low lt =
        let here : c / 2048 ≡ part = omega (arith, low, lt) in
        ap (λ (k : ℕ). is_ahead (bits k) k (entry_of old) c) here
        ∙ ap (λ (e : ℕ). told_by (bits part) part c && eqb e 0) (sym (ap (λ (x : CompactSet). entry_of x c) so.keeps.is))

-- ---- the blocks

pub stages_begin : (s : CompactSet) (bits : ℕ → List ℕ) → StagesBelow s bits 0 s
stages_begin s bits = blocks_none s (split_in s bits) 0

pub stages_then : (mid now new : CompactSet) (bits : ℕ → List ℕ) (part : ℕ) → StagesBelow mid bits (16 * part) now → StagesNextPart now part (bits part) new → StagesBelow mid bits (16 * part + part_blocks (chunks_of mid) part) new
stages_then mid now new bits part so next =
    blocks_more mid now new (split_in mid bits) (split_of now part (bits part)) 0 (16 * part) (part_blocks (chunks_of mid) part) same so (Ok tt) refl next_here
  where
    count : chunks_of now ≡ chunks_of mid
    count = ap (λ (x : CompactSet). chunks_of x) so.is

    place : 16 * part ≡ 0 + 16 * part
    place = omega arith

    next_here : StagesBlocks {T = Unit {0}} {E = Failed} now (split_of now part (bits part)) (0 + 16 * part) (part_blocks (chunks_of mid) part) (Ok tt) new
    next_here = subst (λ (n : ℕ). StagesBlocks {T = Unit {0}} {E = Failed} now (split_of now part (bits part)) n (part_blocks (chunks_of mid) part) (Ok tt) new) place
        (subst (λ (n : ℕ). StagesBlocks {T = Unit {0}} {E = Failed} now (split_of now part (bits part)) (16 * part) (part_blocks n part) (Ok tt) new) count next)

    same : (c : ℕ) → 128 * (0 + 16 * part) ≤ c → c < 128 * (0 + 16 * part + part_blocks (chunks_of mid) part) → split_of now part (bits part) c ≡ split_in mid bits c
    same c low lt =
        let here : c / 2048 ≡ part = omega (arith, low, lt) in
        ap (λ (x : CompactSet). split_to (chunks_of x) (bits part) part (entry_of x) (next_of now) c) so.is
        ∙ ap (λ (k : ℕ). cond (nat_lt c (chunks_of mid) && told_by (bits part) part c) (cond (eqb (entry_of mid c) 0) k (entry_for 2 (slot_by (entry_of mid c)))) (entry_of mid c)) (so.held.outside c (inr low))
        ∙ ap (λ (k : ℕ). split_of mid k (bits k) c) (sym here)

-- ---- the turn

module _ (old mid : CompactSet) (o o' : OverSet) (m m' : Seen) (bits : ℕ → List ℕ) (so : CopiesBelow old o m bits (chunks_of old) mid o' m') (form : (c : ℕ) → c < chunks_of old → IsEntry (entry_of old c)) where
  entry_same : (c : ℕ) → entry_of mid c ≡ entry_of old c
  entry_same c = ap (λ (x : CompactSet). entry_of x c) so.keeps.is

  count_mid : chunks_of mid ≡ chunks_of old
  count_mid = ap (λ (x : CompactSet). chunks_of x) so.keeps.is

  abbrev told : ℕ → Bool
  told c = told_by (bits (c / 2048)) (c / 2048) c

  pub by_told : (c : ℕ) → c < chunks_of old → (b : Bool) → told c ≡ b → split_in mid bits c ≡ cond b (cond (eqb (entry_of old c) 0) (next_of mid c) (entry_for 2 (slot_by (entry_of old c)))) (entry_of old c)
  by_told c lt b is =
      ap (λ (t : Bool). cond (t && told c) (cond (eqb (entry_of mid c) 0) (next_of mid c) (entry_for 2 (slot_by (entry_of mid c)))) (entry_of mid c)) (lt-ltb c (chunks_of mid) (omega (arith, lt, count_mid)))
      ∙ ap (λ (t : Bool). cond t (cond (eqb (entry_of mid c) 0) (next_of mid c) (entry_for 2 (slot_by (entry_of mid c)))) (entry_of mid c)) is
      ∙ ap (λ (e : ℕ). cond b (cond (eqb e 0) (next_of mid c) (entry_for 2 (slot_by e))) e) (entry_same c)

  ahead_is : (c : ℕ) (b : Bool) → told c ≡ b → is_ahead_in bits (entry_of old) c ≡ (b && eqb (entry_of old c) 0)
  ahead_is c b is = ap (λ (t : Bool). t && eqb (entry_of old c) 0) is

  zero_test : (e : ℕ) → e ≢ 0 → eqb e 0 ≡ false
  zero_test e some = false_from_ne_true (eqb e 0) (λ is. some (eqb-true e 0 is))

  pub splits_with : SplitsWith (entry_of old) (split_in mid bits) (next_of mid) (is_ahead_in bits (entry_of old)) (chunks_of old)
  splits_with = record {
    had = λ c lt some. elim (cases_Bool (told c)) [
      | inl is ↦
          let e : split_in mid bits c ≡ entry_for 2 (slot_by (entry_of old c)) = by_told c lt true is ∙ cond_not (entry_of old c) 0 _ _ some in
          let t = split_entry (entry_of old c) (form c lt) some in
          record { some = λ z. t.some (sym e ∙ z); slot = ap slot_by e ∙ t.slot; form = subst (λ (k : ℕ). IsEntry k) (sym e) t.form }
      | inr not_told ↦
          let e : split_in mid bits c ≡ entry_of old c = by_told c lt false not_told in
          record { some = λ z. some (sym e ∙ z); slot = ap slot_by e; form = subst (λ (k : ℕ). IsEntry k) (sym e) (form c lt) }
    ];
    none = λ c lt is_zero not_ahead. elim (cases_Bool (told c)) [
      | inl is ↦ absurd (false≢true (sym not_ahead ∙ ahead_is c true is ∙ eq-eqb (entry_of old c) 0 is_zero))
      | inr not_told ↦ by_told c lt false not_told ∙ is_zero
    ];
    took = λ c lt is_ahead. elim (cases_Bool (told c)) [
      | inl is ↦ elim (cases_eq (entry_of old c) 0) [
        | inl is_zero ↦ (is_zero, by_told c lt true is ∙ cond_is (entry_of old c) 0 _ _ is_zero)
        | inr some ↦ absurd (false≢true (sym (zero_test (entry_of old c) some) ∙ sym (ahead_is c true is) ∙ is_ahead))
      ]
      | inr not_told ↦ absurd (false≢true (sym (ahead_is c false not_told) ∙ is_ahead))
    ];
  }

module _ (old new : CompactSet) (o o' : OverSet) (bits : ℕ → List ℕ) (u : UpdatesParts old o bits new o') (p : IsPlaced old o) where
  pub parts_slots : SplitsWith (entry_of old) (split_in u.mid bits) (next_of u.mid) (is_ahead_in bits (entry_of old)) (chunks_of old)
  parts_slots = splits_with old u.mid o o' u.master u.master_mid bits u.copies p.form

  kept : KeepsSlotsFor old o (told_from (is_ahead_in bits (entry_of old)) 0 (chunks_of old)) u.mid o'
  kept = u.copies.kept

  pub parts_placed : ArePlaced (split_in u.mid bits) old.own (chunks_of old) old.set o'.owners
  parts_placed = split_placed old u.mid o o' (is_ahead_in bits (entry_of old)) kept (split_in u.mid bits) parts_slots u.copies.keeps.slots.owners p

  own_mid : u.mid.own ≡ old.own
  own_mid = ap (λ (x : CompactSet). x.own) u.copies.keeps.is

  count_is : chunks_of u.mid ≡ chunks_of old
  count_is = ap (λ (x : CompactSet). chunks_of x) u.copies.keeps.is

  good : AreEntries (split_in u.mid bits) u.mid.own (chunks_of u.mid)
  good =
      subst (λ (n : ℕ). AreEntries (split_in u.mid bits) n (chunks_of u.mid)) (sym own_mid)
      (subst (λ (n : ℕ). AreEntries (split_in u.mid bits) old.own n) (sym count_is) (placed_entries (split_in u.mid bits) old.own (chunks_of old) old.set o'.owners parts_placed))

  pub parts_entries : (c : ℕ) → c < chunks_of old → entry_of new c ≡ split_in u.mid bits c
  parts_entries c lt = updated_entries u.mid u.staged new (split_in u.mid bits) u.stages u.turns good c (omega (arith, lt, count_is))

  own_is : new.own ≡ old.own
  own_is = ap (λ (x : CompactSet). x.own) u.turns.rest ∙ ap (λ (x : CompactSet). x.own) u.stages.is ∙ own_mid

  set_is : new.set ≡ old.set
  set_is = ap (λ (x : CompactSet). x.set) u.turns.rest ∙ ap (λ (x : CompactSet). x.set) u.stages.is ∙ ap (λ (x : CompactSet). x.set) u.copies.keeps.is

  blocks_is : chunks_of new ≡ chunks_of old
  blocks_is = ap (λ (x : CompactSet). chunks_of x) u.turns.rest ∙ ap (λ (x : CompactSet). chunks_of x) u.stages.is ∙ count_is

  ahead_none : new.ahead ≡ 0
  ahead_none = ap (λ (x : CompactSet). x.ahead) u.turns.rest

  counts : (test : ℕ → Bool) → count_of test (entry_of new) (chunks_of new) ≡ count_of test (split_in u.mid bits) (chunks_of old)
  counts test = ap (λ (n : ℕ). count_of test (entry_of new) n) blocks_is ∙ count_same (λ c. test (split_in u.mid bits c)) (λ c. test (entry_of new c)) (chunks_of old) (λ c lt. ap test (parts_entries c lt))

  own_now : own_used new ≡ own_used old + kept_count (is_own old.own) u.mid (is_ahead_in bits (entry_of old)) 0 (chunks_of old)
  own_now = ap (λ (n : ℕ). count_of (is_own n) (entry_of new) (chunks_of new)) own_is ∙ counts (is_own old.own) ∙ own_kept old u.mid o o' (is_ahead_in bits (entry_of old)) kept (split_in u.mid bits) parts_slots

  over_now : over_used new ≡ over_used old + kept_count (is_over old.own) u.mid (is_ahead_in bits (entry_of old)) 0 (chunks_of old)
  over_now = ap (λ (n : ℕ). count_of (is_over n) (entry_of new) (chunks_of new)) own_is ∙ counts (is_over old.own) ∙ over_kept old u.mid o o' (is_ahead_in bits (entry_of old)) kept (split_in u.mid bits) parts_slots

  pub parts_leave : LeavesSlots old o (lacking_in bits (entry_of old) (chunks_of old)) new o'
  parts_leave = record {
    need = counts is_touched ∙ need_kept old u.mid o o' (is_ahead_in bits (entry_of old)) kept (split_in u.mid bits) parts_slots;
    placed = subst (λ (n : ℕ). ArePlaced (entry_of new) n (chunks_of new) new.set o'.owners) (sym own_is)
        (subst (λ (n : ℕ). ArePlaced (entry_of new) old.own n new.set o'.owners) (sym blocks_is)
        (subst (λ (n : ℕ). ArePlaced (entry_of new) old.own (chunks_of old) n o'.owners) (sym set_is)
        (placed_same (split_in u.mid bits) (entry_of new) old.own (chunks_of old) old.set o'.owners o'.owners parts_entries (only_takes_none old.set o'.owners) parts_placed)));
    taken = λ taken. (ap (λ (n : ℕ). given_to n o'.owners) set_is ∙ (let e = kept.over in omega (arith, e, taken, over_now)), ahead_none);
    own_first = λ none first more. elim (cases_lt 0 (over_used old)) [
      | inl some ↦ full (kept.own_first (inl (first some))) none
      | inr nothing ↦ full (kept.own_first (inr (omega (arith, nothing, more, over_now)))) none
    ];
    known = λ kn. updated_known u.mid u.staged new (split_in u.mid bits) u.stages u.turns good o' ((u.copies.keeps.goes.lasts Shadow).told kn.shadow) ((u.copies.keeps.goes.lasts Bitmap).told kn.bitmap) ((u.copies.keeps.goes.lasts Over).told kn.over);
  }
    where
      own_same : own_used u.mid ≡ own_used old
      own_same = ap (λ (x : CompactSet). own_used x) u.copies.keeps.is

      full : AreOwnFull u.mid → old.ahead ≡ 0 → own_used new + new.ahead ≡ new.own
      full is none = (let kept_own = kept.own in omega (arith, is, none, kept_own, own_same, own_now, own_is, own_mid, ahead_none))
