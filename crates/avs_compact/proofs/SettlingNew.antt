-- When a chunk is settled: in a slot that it takes, or in the one that it has.
use Rattle.std.proofs.Common.{◌≡◌, ◌≢◌, ◌⊎◌, inl, inr, ℕ, ◌+◌, ◌-◌, ◌^◌, ◌<◌, ◌≤◌, cond, eqb, length, take, Some, None, ◌∙◌, sym, refl, ap, subst, arith}
use Rattle.std.proofs.lemmas.Bool.{cases_lt}
use Rattle.avs_over.specs.Slots.{Owners, owner_at, used_in, given_to}
use Rattle.avs_over.specs.Over.{OverSet, slots, used}
use Rattle.avs_entries.specs.Entries.{IsEntry, slot_by, entry_for}
use Rattle.avs_entries.specs.Counting.{is_own, is_over, is_touched, count_of}
use Rattle.avs_entries.specs.Slots.{Marks}
use Rattle.avs_entries.specs.declared.marks.Counts.{Counts}
use Rattle.avs_entries.proofs.Counted.{cond_is, cond_not}
use Rattle.avs_entries.proofs.Marking.{some_none, need_is}
use Rattle.avs_compact.specs.CompactSet.{CompactSet, entry_of, chunks_of, need_of, room_of, own_used, over_used}
use Rattle.avs_compact.specs.Places.{OnlyTakes}
use Rattle.avs_compact.specs.Steps.{TakesSlot}
use Rattle.avs_compact.specs.Keeping.{IsPlaced, OwnFirst, UsesOwnFirst, MaySettle, CountsSlots}
use Rattle.avs_compact.proofs.Kept.{used_or_kept, free_behind}
use Rattle.avs_compact.proofs.Placed.{SetsOne, IsApart, only_takes_none, taken_now, taken_only, given_more, used_below, need_more, own_slot, over_slot, own_stays, over_stays}
use Rattle.avs_compact.proofs.Settled.{Settling, IsNewEntry, zero_state}

-- the entry of a state and a slot
pub new_entry : (target slot : ℕ) → (target ≡ 2) ⊎ (target ≡ 1) → slot < 2 ^ 30 - 1 → IsNewEntry (entry_for target slot) target slot
new_entry target slot (inl two) small = record { state = omega (arith, two, small); slot_is = omega (arith, two, small); some = λ z. omega (arith, z); form = inr (omega (arith, two, small), omega (arith, two, small)) }
new_entry target slot (inr one) small = record { state = omega (arith, one, small); slot_is = omega (arith, one, small); some = λ z. omega (arith, z); form = inr (omega (arith, one, small), omega (arith, one, small)) }

-- ---- a slot is taken

pub settling_new : (s : CompactSet) (chunk slot : ℕ) → chunk < chunks_of s → entry_of s chunk ≡ 0 → ((c : ℕ) → c < chunks_of s → IsEntry (entry_of s c)) → Settling s chunk 2 slot
settling_new s chunk slot there none form = record {
  there = there;
  targets = inl refl;
  whole = λ two. (let z = zero_state (entry_of s chunk) none in omega (arith, z, two));
  copies = λ one. absurd (omega (arith, one));
  had = λ some. absurd (some none);
  form = form;
}

module _ (s : CompactSet) (chunk slot : ℕ) (o o1 : OverSet) (table : Owners) (counts : Counts) (marks : Marks (entry_of s) s.own (chunks_of s) table counts) (inside : s.low ≤ length table) (kept : used_in (take s.low table) + s.ahead ≡ s.low)
    (t : TakesSlot table s.low s.set o (Some slot) o1) (there : chunk < chunks_of s) (none : entry_of s chunk ≡ 0) where
  in_own : slot < s.own → slot < length table
  in_own lt = omega (arith, lt, marks.long)

  past_own : s.own ≤ slot → length table ≤ slot
  past_own past = omega (arith, past, marks.long)

  over_is : slot - length table ≡ slot - s.own
  over_is = omega (arith, marks.long)

  pub free_slot : IsPlaced s o → IsApart (entry_of s) (chunks_of s) chunk slot
  free_slot placed = record {
    each = λ c lt ne some is. elim (cases_lt slot s.own) [
      | inl low ↦ some_none (owner_at table slot) c (t.own (in_own low)).0
          (ap (λ (k : ℕ). owner_at table k) (sym is) ∙ marks.marked.given c lt some (omega (arith, is, low, marks.long)))
      | inr past ↦ some_none (owner_at o.owners (slot - s.own)) s.set (ap (λ (k : ℕ). owner_at o.owners k) (sym over_is) ∙ (t.over (past_own past)).least.free)
          (ap (λ (k : ℕ). owner_at o.owners (k - s.own)) (sym is) ∙ placed.mine c lt some (omega (arith, is, past)))
    ];
  }

  pub takes_slot : OnlyTakes s.set o.owners o1.owners
  takes_slot = elim (cases_lt slot s.own) [
    | inl low ↦ subst (λ (z : OverSet). OnlyTakes s.set o.owners z.owners) (sym (t.own (in_own low)).1) (only_takes_none s.set o.owners)
    | inr past ↦ taken_only o o1 s.set (slot - length table) (t.over (past_own past))
  ]

  pub mine_slot : s.own ≤ slot → owner_at o1.owners (slot - s.own) ≡ Some s.set
  mine_slot past = ap (λ (k : ℕ). owner_at o1.owners k) (sym over_is) ∙ taken_now o o1 s.set (slot - length table) (t.over (past_own past))

  pub room_slot : s.own ≤ slot → slot - s.own < slots o1
  room_slot past = (let below = (t.over (past_own past)).least.inside.1 in omega (arith, below, over_is, takes_slot.long))

  -- the disk of the overflow volume stays
  pub disk_slot : o1 ≡ record o { owners = o1.owners }
  disk_slot = elim (cases_lt slot s.own) [
    | inl low ↦ (let e = (t.own (in_own low)).1 in e ∙ ap (λ (l : Owners). record o { owners = l }) (sym (ap (λ (z : OverSet). z.owners) e)))
    | inr past ↦ (let e = (t.over (past_own past)).given in e ∙ ap (λ (l : Owners). record o { owners = l }) (sym (ap (λ (z : OverSet). z.owners) e)))
  ]

  some_free : slot < s.own → used_in table + s.ahead < length table
  some_free low = free_behind table s.low s.ahead inside kept slot (t.least (in_own low)).0 (in_own low) (t.own (in_own low)).0

  -- entries with the slot use own ones first
  pub first_new : (F : ℕ → ℕ) → SetsOne (entry_of s) F (chunks_of s) chunk slot → UsesOwnFirst s → OwnFirst F s.own (chunks_of s) s.ahead
  first_new F one first more = elim (cases_lt slot s.own) [
    | inl low ↦ absurd (let c = own_slot (entry_of s) F s.own (chunks_of s) chunk slot one none low in
        let full = first (omega (arith, more, c.1)) in
        omega (arith, full, some_free low, marks.in_table, marks.own_count, marks.long))
    | inr past ↦ (let c = over_slot (entry_of s) F s.own (chunks_of s) chunk slot one none past in
        let full = used_or_kept table s.low s.ahead inside kept (t.full (past_own past)) in
        omega (arith, c.0, full, marks.in_table, marks.own_count, marks.long))
  ]

  module _ (s' : CompactSet) (o' : OverSet) (own : s'.own ≡ s.own) (n : chunks_of s' ≡ chunks_of s) (by : s'.set ≡ s.set) (ahead : s'.ahead ≡ s.ahead) (owners : o'.owners ≡ o1.owners) (one : SetsOne (entry_of s) (entry_of s') (chunks_of s) chunk slot) where
    need_now : need_of s' ≡ need_of s + 1
    need_now = ap (λ (k : ℕ). count_of is_touched (entry_of s') k) n ∙ need_more (entry_of s) (entry_of s') s.own (chunks_of s) chunk slot one none

    over_now : over_used s' ≡ count_of (is_over s.own) (entry_of s') (chunks_of s)
    over_now = ap (λ (k : ℕ). count_of (is_over k) (entry_of s') (chunks_of s')) own ∙ ap (λ (k : ℕ). count_of (is_over s.own) (entry_of s') k) n

    one_slot : ◌≡◌ {A = ℕ} (cond (eqb (entry_of s chunk) 0) 1 0) 1
    one_slot = cond_is {A = ℕ} (entry_of s chunk) 0 1 0 none

    pub counts_new : CountsSlots s o (cond (eqb (entry_of s chunk) 0) 1 0) s' o'
    counts_new = elim (cases_lt slot s.own) [
      | inl low ↦
          let e : o'.owners ≡ o.owners = owners ∙ ap (λ (z : OverSet). z.owners) (t.own (in_own low)).1 in
          let u : used o' ≡ used o = ap (λ (l : Owners). used_in l) e in
          let k : slots o' ≡ slots o = ap length e in
          let c = own_slot (entry_of s) (entry_of s') s.own (chunks_of s) chunk slot one none low in
          let over_same : over_used s' ≡ over_used s = over_now ∙ c.1 in
          record {
            need = omega (arith, need_now, one_slot);
            room = omega (arith, over_same, u, k, own, ahead);
            taken = λ taken. (ap (λ (b : ℕ). given_to b o'.owners) by ∙ ap (λ (l : Owners). given_to s.set l) e ∙ taken.0 ∙ sym over_same, ahead ∙ taken.1);
          }
      | inr past ↦
          let tk = t.over (past_own past) in
          let u : used o' ≡ used o + 1 = ap (λ (l : Owners). used_in l) owners ∙ tk.more in
          let k : slots o' ≡ slots o = ap length owners ∙ takes_slot.long in
          let c = over_slot (entry_of s) (entry_of s') s.own (chunks_of s) chunk slot one none past in
          let over_more : over_used s' ≡ over_used s + 1 = over_now ∙ c.1 in
          let below = used_below o o1 s.set (slot - length table) tk in
          record {
            need = omega (arith, need_now, one_slot);
            room = omega (arith, over_more, u, k, own, below, ahead);
            taken = λ taken. (ap (λ (b : ℕ). given_to b o'.owners) by ∙ ap (λ (l : Owners). given_to s.set l) owners ∙ given_more o o1 s.set (slot - length table) tk ∙ ap (λ (j : ℕ). j + 1) taken.0 ∙ sym over_more, ahead ∙ taken.1);
          }
    ]

-- a slot is free where the set needs fewer than it has room for
pub slot_free : (s : CompactSet) (o o1 : OverSet) (table : Owners) (counts : Counts) → Marks (entry_of s) s.own (chunks_of s) table counts → s.low ≤ length table → used_in (take s.low table) + s.ahead ≡ s.low
    → TakesSlot table s.low s.set o None o1 → need_of s < room_of s o → ⊥
slot_free s o o1 table counts marks inside kept t room =
    let need = need_is s.own (entry_of s) (chunks_of s) in
    let full = used_or_kept table s.low s.ahead inside kept t.none.0 in
    omega (arith, room, need, full, t.none.1, marks.in_table, marks.own_count, marks.long)

-- ---- the slot that it has

pub settling_old : (s : CompactSet) (chunk target : ℕ) → MaySettle s chunk target → ((c : ℕ) → c < chunks_of s → IsEntry (entry_of s c)) → Settling s chunk target (slot_by (entry_of s chunk))
settling_old s chunk target may form = record { there = may.there; targets = may.targets; whole = may.whole; copies = may.copies; had = λ _. refl; form = form }

pub apart_old : (s : CompactSet) (o : OverSet) (chunk : ℕ) → chunk < chunks_of s → entry_of s chunk ≢ 0 → IsPlaced s o → IsApart (entry_of s) (chunks_of s) chunk (slot_by (entry_of s chunk))
apart_old s o chunk there has placed = record { each = λ c lt ne some. placed.apart chunk c there lt (λ z. ne (sym z)) has some }

pub counts_old : (s s' : CompactSet) (o o' : OverSet) (chunk slot : ℕ) → s'.own ≡ s.own → chunks_of s' ≡ chunks_of s → s'.set ≡ s.set → s'.ahead ≡ s.ahead → o'.owners ≡ o.owners → entry_of s chunk ≢ 0 → slot_by (entry_of s chunk) ≡ slot
    → SetsOne (entry_of s) (entry_of s') (chunks_of s) chunk slot → CountsSlots s o (cond (eqb (entry_of s chunk) 0) 1 0) s' o'
counts_old s s' o o' chunk slot own n by ahead owners some is one =
    let own_same : own_used s' ≡ own_used s = ap (λ (k : ℕ). count_of (is_own k) (entry_of s') (chunks_of s')) own ∙ ap (λ (k : ℕ). count_of (is_own s.own) (entry_of s') k) n ∙ own_stays (entry_of s) (entry_of s') s.own (chunks_of s) chunk slot one some is in
    let over_same : over_used s' ≡ over_used s = ap (λ (k : ℕ). count_of (is_over k) (entry_of s') (chunks_of s')) own ∙ ap (λ (k : ℕ). count_of (is_over s.own) (entry_of s') k) n ∙ over_stays (entry_of s) (entry_of s') s.own (chunks_of s) chunk slot one some is in
    let none : ◌≡◌ {A = ℕ} (cond (eqb (entry_of s chunk) 0) 1 0) 0 = cond_not {A = ℕ} (entry_of s chunk) 0 1 0 some in
    let need = need_is s.own (entry_of s) (chunks_of s) in
    let need' = need_is s'.own (entry_of s') (chunks_of s') in
    let u : used o' ≡ used o = ap (λ (l : Owners). used_in l) owners in
    let k : slots o' ≡ slots o = ap length owners in
    record {
      need = omega (arith, need, need', own_same, over_same, none);
      room = omega (arith, over_same, u, k, own, ahead);
      taken = λ taken. (ap (λ (b : ℕ). given_to b o'.owners) by ∙ ap (λ (l : Owners). given_to s.set l) owners ∙ taken.0 ∙ sym over_same, ahead ∙ taken.1);
    }

pub first_old : (f g : ℕ → ℕ) (own n kept chunk slot : ℕ) → f chunk ≢ 0 → slot_by (f chunk) ≡ slot → SetsOne f g n chunk slot → OwnFirst f own n kept → OwnFirst g own n kept
first_old f g own n kept chunk slot some is one first more =
    let full = first (omega (arith, more, over_stays f g own n chunk slot one some is)) in
    omega (arith, full, own_stays f g own n chunk slot one some is)
