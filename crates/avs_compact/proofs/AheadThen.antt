-- Chunks that are copied ahead, one after another and part after part.
use Rattle.std.proofs.Common.{◌≡◌, ◌≢◌, ◌⊎◌, inl, inr, ℕ, ◌+◌, ◌-◌, ◌*◌, ◌/◌, ◌%◌, ◌<◌, ◌≤◌, Bool, true, false, cond, eqb, List, length, filter, None, Some, Result, Ok, Err, OnOk, ◌∙◌, sym, refl, ap, subst, arith}
use Rattle.std.specs.Prelude.{◌&&◌}
use Rattle.std.specs.List.{range_with_len}
use Rattle.std.proofs.lemmas.Bool.{cases_lt, eq-eqb}
use Rattle.std.proofs.lemmas.Result.{on_ok_weaker}
use Rattle.avs_seg.specs.declared.fault.Failed.{Failed}
use Rattle.avs_seg.specs.Image.{block_at}
use Rattle.avs_seg.specs.Segment.{seg_len}
use Rattle.avs_seg.proofs.Exits.{err_exit}
use Rattle.avs_dev.specs.Seen.{Seen}
use Rattle.avs_dev.proofs.Going.{all_then}
use Rattle.avs_over.specs.Slots.{owner_at, given_to}
use Rattle.avs_over.specs.Over.{OverSet}
use Rattle.avs_entries.specs.Entries.{slot_by, entry_for}
use Rattle.avs_entries.specs.Counting.{is_own, is_over}
use Rattle.avs_entries.specs.Parts.{is_ahead}
use Rattle.avs_entries.proofs.Marking.{some_none}
use Rattle.avs_compact.specs.CompactSet.{CompactSet, disk_of, entry_of, next_of, disk_entry, in_slot, need_of, room_of}
use Rattle.avs_compact.specs.Disks.{CompactDisk, Master, Shadow, Bitmap, Over, disk_at}
use Rattle.avs_compact.specs.Work.{slot_work, slot_most, ahead_work, ahead_most}
use Rattle.avs_compact.specs.Calls.{IsKnown}
use Rattle.avs_bits.specs.Bit.{bit_of}
use Rattle.avs_compact.specs.Ahead.{KeepsAhead, IsKeptFor, KeepsSlotsFor, AreCopied, CopiesTold, slot_ahead, kept_count, told_from}
use Rattle.avs_compact.proofs.Work.{up_to_none, up_to_as, up_to_then, slot_less, sum_parts, sum_same, sum_below, sum_longer}
use Rattle.avs_compact.proofs.Placed.{stays}
use Rattle.avs_compact.proofs.Chained.{slots_then, over_then, blocks_then}
use Rattle.avs_compact.proofs.Ahead.{count_same_on, count_split, count_upto, keeps_none}

pub told_none : (s : CompactSet) (o : OverSet) (m : Seen) (told : ℕ → Bool) (first : ℕ) → CopiesTold {T = Unit {0}} {E = Failed} s o m told first first (Ok tt) s o m
told_none s o m told first = record {
  keeps = keeps_none s o m tt;
  kept = record {
    kept = λ k low high is. absurd (omega (arith, low, high));
    others = λ k out. refl;
    apart = λ k d low lt high is is'. absurd (omega (arith, low, lt, high));
    room = (let none : first - first ≡ 0 = omega arith in let count : length (filter told (range_with_len first (first - first))) ≡ 0 = ap (λ (k : ℕ). length (filter told (range_with_len first k))) none in omega (arith, count));
    low = omega arith;
    own = (let none = nothing (is_own s.own) in omega (arith, none));
    over = (let none = nothing (is_over s.own) in omega (arith, none));
    own_first = λ before. elim before [ inl full ↦ full | inr more ↦ absurd (let none = nothing (is_over s.own) in omega (arith, more, none)) ];
  };
  copied = λ a b d. record {
    each = λ i lt low high is. absurd (omega (arith, low, high));
    others = λ k i b other. refl;
  };
  work = up_to_none (disk_at s o m) (ahead_work s s told first (first - first)) (ahead_most s told first (first - first)) tt
      (λ d. (let none : first - first ≡ 0 = omega arith in ap (λ (n : ℕ). ahead_work s s told first n d) none));
}
  where
    nothing : (test : ℕ → Bool) → kept_count test s told first first ≡ 0
    nothing test = (let none : first - first ≡ 0 = omega arith in ap (λ (k : ℕ). length (filter (λ c. told c && test (next_of s c)) (range_with_len first k))) none)

both : {T E : Type 0} (P Q : Type 0) (r : Result T E) → OnOk r P → OnOk r Q → OnOk r (P × Q)
both P Q (Ok x) p q = (p, q)
both P Q (Err e) p q = tt

module _ (s now new : CompactSet) (o o1 o2 : OverSet) (m mn m' : Seen) (told : ℕ → Bool) (first c end : ℕ) (low : first ≤ c) (high : c ≤ end) (so : CopiesTold {T = Unit {0}} {E = Failed} s o m told first c (Ok tt) now o1 mn) where
  own_same : now.own ≡ s.own
  own_same = ap (λ (x : CompactSet). x.own) so.keeps.is

  set_same : now.set ≡ s.set
  set_same = ap (λ (x : CompactSet). x.set) so.keeps.is

  blocks_same : now.blocks ≡ s.blocks
  blocks_same = ap (λ (x : CompactSet). x.blocks) so.keeps.is

  entry_same : (k : ℕ) → entry_of now k ≡ entry_of s k
  entry_same k = ap (λ (x : CompactSet). entry_of x k) so.keeps.is

  known : IsKnown s o → IsKnown now o1
  known kn = record {
    shadow = (so.keeps.goes.lasts Shadow).told kn.shadow;
    bitmap = (so.keeps.goes.lasts Bitmap).told kn.bitmap;
    over = (so.keeps.goes.lasts Over).told kn.over;
    step = record { each = λ k lt. entry_same k ∙ kn.step.each k (omega (arith, lt, blocks_same)) ∙ sym (ap (λ (x : CompactSet). disk_entry x k) so.keeps.is) };
  }

  keeps_both : {T E : Type 0} (r : Result T E) → KeepsAhead now o1 mn r new o2 m' → KeepsAhead s o m r new o2 m'
  keeps_both r q = record {
    is = q.is ∙ ap (λ (x : CompactSet). record x { shadow = new.shadow; next = new.next; low = new.low; ahead = new.ahead }) so.keeps.is;
    there = q.there ∙ so.keeps.there;
    master = q.master ∙ ap (λ (d : Seen). record d { faults = m'.faults }) so.keeps.master;
    goes = all_then (disk_at s o m) (disk_at now o1 mn) (disk_at new o2 m') tt r so.keeps.goes q.goes;
    slots = slots_then s now new o o1 o2 set_same so.keeps.slots q.slots;
    over = λ placed td. over_then s.set now.set o o1 o2 set_same q.slots.owners (so.keeps.over placed td) (q.over (so.keeps.slots.placed placed) ((so.keeps.goes.lasts Over).told td));
    seen = λ kn placed td. blocks_then s now new o o1 o2 m mn m' set_same own_same blocks_same (so.keeps.seen kn placed td) (q.seen (known kn) (so.keeps.slots.placed placed) ((so.keeps.goes.lasts Master).told td));
  }

  module _ (own_new : new.own ≡ now.own) (takes : (k : ℕ) → owner_at o1.owners k ≡ Some s.set → owner_at o2.owners k ≡ Some s.set) (k : KeepsSlotsFor now o1 (told_from told c end) new o2) where
    early : (d : ℕ) → d < c → next_of new d ≡ next_of now d
    early d lt = k.others d (inl lt)

    slot_early : (d : ℕ) → d < c → slot_ahead new d ≡ slot_ahead now d
    slot_early d lt = ap slot_by (early d lt)

    fresh : (d e : ℕ) → first ≤ d → d < c → c ≤ e → e < end → told d ≡ true → told e ≡ true → slot_ahead now d ≢ slot_ahead new e
    fresh d e from lt late below is here same = elim (cases_lt (slot_ahead now d) s.own) [
      | inl own ↦
          let p = ((so.kept.kept d from lt is).own own).1 in
          let q = ((k.kept e late below here).own (omega (arith, own, same, own_same))).0 in
          omega (arith, p, q, same)
      | inr past ↦
          let p = ((so.kept.kept d from lt is).over past).1 in
          let q = ((k.kept e late below here).over (omega (arith, past, same, own_same))).0 in
          let at : slot_ahead new e - now.own ≡ slot_ahead now d - s.own = omega (arith, same, own_same) in
          some_none (owner_at o1.owners (slot_ahead now d - s.own)) s.set (ap (λ (j : ℕ). owner_at o1.owners j) (sym at) ∙ q) p
    ]

    -- a slot that was kept before is kept on
    kept_on : (d : ℕ) → first ≤ d → d < c → told d ≡ true → IsKeptFor s o d new o2
    kept_on d from lt is =
        let p = so.kept.kept d from lt is in
        let e = slot_early d lt in
        record {
          entry = early d lt ∙ p.entry ∙ ap (λ (j : ℕ). entry_for 2 j) (sym e);
          own = λ own. (let q = p.own (omega (arith, own, e)) in (omega (arith, q.0, e), omega (arith, q.1, e, k.low)));
          over = λ past. (let q = p.over (omega (arith, past, e)) in let at : slot_ahead new d - s.own ≡ slot_ahead now d - s.own = ap (λ (j : ℕ). j - s.own) e in
              (ap (λ (j : ℕ). owner_at o.owners j) at ∙ q.0, ap (λ (j : ℕ). owner_at o2.owners j) at ∙ takes (slot_ahead now d - s.own) q.1));
          apart = λ placed j j_lt some same. p.apart placed j j_lt some (same ∙ e);
        }

    free_before : (j : ℕ) → owner_at o1.owners j ≡ None → owner_at o.owners j ≡ None
    free_before j free = elim (so.keeps.slots.owners.each j) [ inl same ↦ sym same ∙ free | inr was ↦ was.0 ]

    kept_now : (e : ℕ) → c ≤ e → e < end → told e ≡ true → IsKeptFor s o e new o2
    kept_now e late below is =
        let p = k.kept e late below is in
        record {
          entry = p.entry;
          own = λ own. (let q = p.own (omega (arith, own, own_same)) in (omega (arith, q.0, so.kept.low), q.1));
          over = λ past. (let q = p.over (omega (arith, past, own_same)) in let at : slot_ahead new e - s.own ≡ slot_ahead new e - now.own = omega (arith, own_same) in
              (ap (λ (j : ℕ). owner_at o.owners j) at ∙ free_before (slot_ahead new e - now.own) q.0, ap (λ (j : ℕ). owner_at o2.owners j) at ∙ q.1 ∙ ap (λ (j : ℕ). Some j) set_same));
          apart = λ placed j lt some same. p.apart (so.keeps.slots.placed placed) j (omega (arith, lt, blocks_same)) (λ z. some (sym (entry_same j) ∙ z)) (ap slot_by (entry_same j) ∙ same);
        }

    -- the counts of both
    count_both : (test : ℕ → Bool) → kept_count test new told first end ≡ kept_count test now told first c + kept_count test new told c end
    count_both test =
        let p : ℕ → Bool = λ d. told d && test (next_of new d) in
        let q : ℕ → Bool = λ d. told d && test (next_of now d) in
        let same = count_same_on q p first (c - first) (λ d from lt. ap (λ (e : ℕ). told d && test e) (early d (omega (arith, lt, low)))) in
        omega (arith, count_split p first c end low high, same)

    pub kept_both : KeepsSlotsFor s o (told_from told first end) new o2
    kept_both = record {
      kept = λ d from lt is. elim (cases_lt d c) [
        | inl before ↦ kept_on d from before is
        | inr late ↦ kept_now d late lt is
      ];
      others = λ d out. k.others d (later d out) ∙ so.kept.others d (sooner d out);
      apart = λ d e from lt below is is'. elim (cases_lt e c) [
        | inl before ↦ (λ same. so.kept.apart d e from lt before is is' (sym (slot_early d (omega (arith, lt, before))) ∙ same ∙ slot_early e before))
        | inr late ↦ elim (cases_lt d c) [
          | inl before ↦ (λ same. fresh d e from before late below is is' (sym (slot_early d before) ∙ same))
          | inr both_late ↦ k.apart d e both_late lt below is is'
        ]
      ];
      room = omega (arith, so.kept.room, k.room, count_split told first c end low high);
      low = omega (arith, so.kept.low, k.low);
      own = (let one : kept_count (is_own now.own) new told c end ≡ kept_count (is_own s.own) new told c end = ap (λ (n : ℕ). kept_count (is_own n) new told c end) own_same in
          omega (arith, k.own, so.kept.own, one, count_both (is_own s.own)));
      over = (let one : kept_count (is_over now.own) new told c end ≡ kept_count (is_over s.own) new told c end = ap (λ (n : ℕ). kept_count (is_over n) new told c end) own_same in
          let then_given : given_to s.set o2.owners ≡ given_to s.set o1.owners + kept_count (is_over now.own) new told c end = subst (λ (n : ℕ). given_to n o2.owners ≡ given_to n o1.owners + kept_count (is_over now.own) new told c end) set_same k.over in
          omega (arith, then_given, so.kept.over, one, count_both (is_over s.own)));
      own_first = λ before. elim before [
        | inl full ↦ k.own_first (inl (so.kept.own_first (inl full)))
        | inr more ↦ elim (cases_lt 0 (kept_count (is_over s.own) now told first c)) [
          | inl sooner_some ↦ k.own_first (inl (so.kept.own_first (inr sooner_some)))
          | inr none ↦ k.own_first (inr (let one : kept_count (is_over now.own) new told c end ≡ kept_count (is_over s.own) new told c end = ap (λ (n : ℕ). kept_count (is_over n) new told c end) own_same in
              omega (arith, more, none, one, count_both (is_over s.own))))
        ]
      ];
    }
      where
        later : (d : ℕ) → (d < first) ⊎ ((end ≤ d) ⊎ (told d ≡ false)) → (d < c) ⊎ ((end ≤ d) ⊎ (told d ≡ false))
        later d (inl l) = inl (omega (arith, l, low))
        later d (inr out) = inr out

        sooner : (d : ℕ) → (d < first) ⊎ ((end ≤ d) ⊎ (told d ≡ false)) → (d < first) ⊎ ((c ≤ d) ⊎ (told d ≡ false))
        sooner d (inl l) = inl l
        sooner d (inr (inl h)) = inr (inl (omega (arith, h, high)))
        sooner d (inr (inr is)) = inr (inr is)

    pub copied_both : AreCopied s o m.image (told_from told first c) now o1 → AreCopied now o1 mn.image (told_from told c end) new o2 → AreCopied s o m.image (told_from told first end) new o2
    copied_both p q = record {
      each = λ i lt from below is. elim (cases_lt (i / 64) c) [
        | inl before ↦
            ap (λ (j : ℕ). in_slot new.own (disk_of new.shadow).image o2.disk.image j (i % 64)) (slot_early (i / 64) before)
            ∙ ap (λ (j : ℕ). in_slot j (disk_of new.shadow).image o2.disk.image (slot_ahead now (i / 64)) (i % 64)) new_own
            ∙ q.others (slot_ahead now (i / 64)) (i % 64) (omega arith) (λ d d_from d_below d_is same. fresh (i / 64) d from before d_from d_below is d_is (sym same))
            ∙ p.each i lt from before is
        | inr late ↦ q.each i (omega (arith, lt, blocks_same)) late below is ∙ ap (λ (d : Seen). block_at d.image i) so.keeps.master
      ];
      others = λ j i b other.
          ap (λ (n : ℕ). in_slot n (disk_of new.shadow).image o2.disk.image j i) (sym own_same)
          ∙ q.others j i b (λ d from below is. other d (omega (arith, from, low)) below is)
          ∙ ap (λ (n : ℕ). in_slot n (disk_of now.shadow).image o1.disk.image j i) own_same
          ∙ p.others j i b (λ d from before is same. other d from (omega (arith, before, high)) is (slot_early d before ∙ same));
    }
      where
        new_own : new.own ≡ now.own
        new_own = own_new

  -- the blocks of both
  abbrev copies_of : CompactSet → CompactSet → CompactDisk → ℕ → ℕ
  copies_of a b d k = cond (told k) (slot_work a.own (slot_by (next_of b k)) (seg_len k a.blocks) d) 0

  abbrev most_of : CompactSet → CompactDisk → ℕ → ℕ
  most_of a d k = cond (told k) (slot_most (seg_len k a.blocks) d) 0

  blocks_both : KeepsSlotsFor now o1 (told_from told c end) new o2 → (d : CompactDisk) → ahead_work s now told first (c - first) d + ahead_work now new told c (end - c) d ≡ ahead_work s new told first (end - first) d
  blocks_both k d =
      let before = sum_same (copies_of s now d) (copies_of s new d) first (c - first) (λ j from lt. ap (λ (e : ℕ). cond (told j) (slot_work s.own (slot_by e) (seg_len j s.blocks) d) 0) (k.others j (inl (omega (arith, lt, low))))) in
      let last = sum_same (copies_of s new d) (copies_of now new d) c (end - c) (λ j _ _. ap (λ (n : ℕ). cond (told j) (slot_work n (slot_by (next_of new j)) (seg_len j now.blocks) d) 0) own_same
      ∙ ap (λ (n : ℕ). cond (told j) (slot_work s.own (slot_by (next_of new j)) (seg_len j n) d) 0) blocks_same) in
      omega (arith, before, last, sum_parts (copies_of s new d) first c end low high)

  most_both : (d : CompactDisk) → ahead_most s told first (c - first) d + ahead_most now told c (end - c) d ≡ ahead_most s told first (end - first) d
  most_both d =
      let last = sum_same (most_of s d) (most_of now d) c (end - c) (λ j _ _. ap (λ (n : ℕ). cond (told j) (slot_most (seg_len j n) d) 0) blocks_same) in
      omega (arith, last, sum_parts (most_of s d) first c end low high)

  pub then_told : {T E : Type 0} (r : Result T E) → CopiesTold now o1 mn told c end r new o2 m' → CopiesTold s o m told first end r new o2 m'
  then_told r q = record {
    keeps = keeps_both r q.keeps;
    kept = on_ok_weaker r (λ k. kept_both (own_of q) (on q) k) q.kept;
    copied = λ tm ts to.
        let p = so.copied tm ts to in
        on_ok_weaker r (λ b. copied_both (own_of q) (on q) b.0 p b.1) (both _ _ r q.kept (q.copied ((so.keeps.goes.lasts Master).told tm) ((so.keeps.goes.lasts Shadow).told ts) ((so.keeps.goes.lasts Over).told to)));
    work = up_to_as (disk_at s o m) (disk_at new o2 m') (λ d. ahead_work s now told first (c - first) d + ahead_work now new told c (end - c) d) (ahead_work s new told first (end - first))
        (λ d. ahead_most s told first (c - first) d + ahead_most now told c (end - c) d) (ahead_most s told first (end - first)) r
        (on_ok_weaker r blocks_both q.kept) (err_exit r (λ d. (let e = most_both d in omega (arith, e))))
        (up_to_then (disk_at s o m) (disk_at now o1 mn) (disk_at new o2 m') (ahead_work s now told first (c - first)) (ahead_work now new told c (end - c)) (ahead_most s told first (c - first)) (ahead_most now told c (end - c)) tt r
        (λ d. sum_below (copies_of s now d) (most_of s d) first (c - first) (λ k. told_less (told k) _ _ (slot_less s.own (slot_by (next_of now k)) (seg_len k s.blocks) d))) so.work q.work);
  }
    where
      told_less : (b : Bool) (x y : ℕ) → x ≤ y → cond b x 0 ≤ cond b y 0
      told_less true x y p = p
      told_less false x y p = omega arith

      own_of : {T E : Type 0} {r : Result T E} → CopiesTold now o1 mn told c end r new o2 m' → new.own ≡ now.own
      own_of q = ap (λ (x : CompactSet). x.own) q.keeps.is

      on : {T E : Type 0} {r : Result T E} → CopiesTold now o1 mn told c end r new o2 m' → (k : ℕ) → owner_at o1.owners k ≡ Some s.set → owner_at o2.owners k ≡ Some s.set
      on q k is = stays now.set o1.owners o2.owners k q.keeps.slots.owners (is ∙ ap (λ (j : ℕ). Some j) (sym set_same)) ∙ ap (λ (j : ℕ). Some j) set_same

  pub told_more : (q : Result (Unit {0}) Failed) → q ≡ Ok tt → CopiesTold now o1 mn told c end q new o2 m' → CopiesTold {T = Unit {0}} {E = Failed} s o m told first end (Ok tt) new o2 m'
  told_more q is p = subst (λ (r : Result (Unit {0}) Failed). CopiesTold s o m told first end r new o2 m') is (then_told q p)

  pub told_fail : (past : ℕ) → end ≤ past → (e : Failed) (q : Result (Unit {0}) Failed) → q ≡ Err e → CopiesTold now o1 mn told c end q new o2 m' → CopiesTold {T = Unit {0}} s o m told first past (Err e) new o2 m'
  told_fail past more e q is p =
      let t = subst (λ (r : Result (Unit {0}) Failed). CopiesTold s o m told first end r new o2 m') is (then_told q p) in
      record { keeps = t.keeps; kept = tt; copied = λ a b d. tt; work = record { done = tt; stopped = λ d. omega (arith, t.work.stopped d, sum_longer (most_of s d) first (end - first) (past - first) (omega (arith, more))) } }

-- ---- a part

pub told_here : (s now : CompactSet) (o o1 : OverSet) (m mn : Seen) (bits : List ℕ) (part c : ℕ) → CopiesTold {T = Unit {0}} {E = Failed} s o m (is_ahead bits part (entry_of s)) (2048 * part) c (Ok tt) now o1 mn
    → (told : Bool) → told ≡ bit_of bits (c - 2048 * part) → is_ahead bits part (entry_of s) c ≡ (told && eqb (entry_of now c) 0)
told_here s now o o1 m mn bits part c so told is =
    ap (λ (k : ℕ). bit_of bits (c - 2048 * part) && eqb k 0) (sym (ap (λ (x : CompactSet). entry_of x c) so.keeps.is))
    ∙ ap (λ (b : Bool). b && eqb (entry_of now c) 0) (sym is)

-- there is room for one more
pub room_here : (s now : CompactSet) (o o1 : OverSet) (m mn : Seen) (bits : List ℕ) (part c end : ℕ) → 2048 * part ≤ c → c < end → CopiesTold {T = Unit {0}} {E = Failed} s o m (is_ahead bits part (entry_of s)) (2048 * part) c (Ok tt) now o1 mn
    → bit_of bits (c - 2048 * part) ≡ true → entry_of now c ≡ 0 → need_of s + length (filter (is_ahead bits part (entry_of s)) (range_with_len (2048 * part) (end - 2048 * part))) ≤ room_of s o → need_of now < room_of now o1
room_here s now o o1 m mn bits part c end low lt so told none room =
    let here : is_ahead bits part (entry_of s) c ≡ true = told_here s now o o1 m mn bits part c so true (sym told) ∙ eq-eqb (entry_of now c) 0 none in
    let one : ◌≡◌ {A = ℕ} (cond (is_ahead bits part (entry_of s) c) 1 0) 1 = ap (λ (b : Bool). cond b 1 0) here in
    let need : need_of now ≡ need_of s = ap (λ (x : CompactSet). need_of x) so.keeps.is in
    omega (arith, count_upto (is_ahead bits part (entry_of s)) (2048 * part) c end low lt, one, need, room, so.kept.room)
