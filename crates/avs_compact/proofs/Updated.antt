-- What an update leaves once all entries were staged and have turned.
use Rattle.std.proofs.Common.{◌≡◌, ◌≢◌, inl, inr, ℕ, ◌-◌, ◌%◌, ◌^◌, ◌<◌, Bool, true, false, cond, Option, None, [], ◌∷◌, map, sym, refl, ◌∙◌, ap, subst, arith, List}
use Rattle.std.proofs.lemmas.List.Sums.{sum_by-cons}
use Rattle.std.proofs.lemmas.Bool.{cases_eq}
use Rattle.avs_dev.specs.Seen.{Seen, IsTold}
use Rattle.avs_over.specs.Slots.{Owners, owner_at, given_to, is_of, without}
use Rattle.avs_over.specs.Over.{OverSet, Releases}
use Rattle.avs_entries.specs.Entries.{IsEntry, state_by, slot_by, entry_for, entry_in}
use Rattle.avs_entries.specs.Counting.{is_own, is_over, is_touched, count_of}
use Rattle.avs_entries.specs.Slots.{AreEntries}
use Rattle.avs_entries.specs.Staging.{to_master}
use Rattle.avs_entries.proofs.Counted.{cond_is, cond_not, count_none, count_same}
use Rattle.avs_entries.proofs.Marking.{touched_yes}
use Rattle.avs_compact.specs.CompactSet.{CompactSet, chunks_of, disk_of, entry_of, next_of, own_used, over_used}
use Rattle.avs_compact.specs.Places.{ArePlaced}
use Rattle.avs_compact.specs.Calls.{IsKnown}
use Rattle.avs_compact.specs.Staging.{StagesAll, IsReady, TurnsSet}
use Rattle.avs_compact.specs.Keeping.{IsPlaced}
use Rattle.avs_compact.specs.Updating.{LeavesSlots, HasNone}
use Rattle.avs_compact.proofs.Placed.{placed_same, only_takes_none, tests_same}

entries_as : (f g : ℕ → ℕ) (own n : ℕ) → ((c : ℕ) → c < n → g c ≡ f c) → AreEntries f own n → AreEntries g own n
entries_as f g own n same p = record {
  form = λ c lt. subst (λ (e : ℕ). IsEntry e) (sym (same c lt)) (p.form c lt);
  apart = λ c d lt d_lt some some' slot is.
      let e = same c (omega (arith, lt, d_lt)) in
      let e' = same d d_lt in
      p.apart c d lt d_lt (λ z. some (e ∙ z)) (λ z. some' (e' ∙ z)) (subst (λ (k : ℕ). slot_by k < own) e slot) (ap slot_by (sym e') ∙ is ∙ ap slot_by e);
}

module _ (old mid new : CompactSet) (to : ℕ → ℕ) (st : StagesAll old to mid) (tn : TurnsSet mid new) (keep : AreEntries to old.own (chunks_of old)) where
  count : chunks_of mid ≡ chunks_of old
  count = ap (λ (s : CompactSet). chunks_of s) st.is

  next_is : (c : ℕ) → c < chunks_of old → next_of mid c ≡ to c
  next_is c lt = st.held.inside c (omega arith) (omega (arith, lt))

  good : AreEntries (next_of mid) mid.own (chunks_of mid)
  good =
      subst (λ (k : ℕ). AreEntries (next_of mid) k (chunks_of mid)) (sym (ap (λ (s : CompactSet). s.own) st.is))
      (subst (λ (k : ℕ). AreEntries (next_of mid) old.own k) (sym count) (entries_as to (next_of mid) old.own (chunks_of old) next_is keep))

  ready : IsTold old.areas.disk → IsReady mid
  ready told = record { each = λ c lt. (let l : c < chunks_of old = omega (arith, lt, count) in (st.staged told).inside c (omega arith) (omega (arith, l)) ∙ sym (next_is c l)) }

  pub updated_known : (o : OverSet) → IsTold (disk_of old.shadow) → IsTold old.areas.disk → IsTold o.disk → IsKnown new o
  updated_known o ts tb to' = tn.known o (subst (λ (x : Option Seen). IsTold (disk_of x)) (sym (ap (λ (s : CompactSet). s.shadow) st.is)) ts) (st.goes.lasts.told tb) to' (ready tb) good

  pub updated_entries : (c : ℕ) → c < chunks_of old → entry_of new c ≡ to c
  updated_entries c lt = ap (λ (l : List ℕ). entry_in l c) (tn.memory good) ∙ next_is c lt

pub entries_zero : (own n : ℕ) → AreEntries (λ _. 0) own n
entries_zero own n = record { form = λ c lt. inl refl; apart = λ c d lt d_lt some. absurd (some refl) }

-- ---- an update to the master

record StaysEntry (e e' : ℕ) : Type 0 where
  pub form : IsEntry e'
  pub some : e' ≢ 0 → e ≢ 0
  pub still : e ≢ 0 → e' ≢ 0
  pub slot : e ≢ 0 → slot_by e' ≡ slot_by e

turned_entry : (e e' : ℕ) → e' ≡ entry_for 3 (slot_by e) → 0 < e % 2 ^ 30 → StaysEntry e e'
turned_entry e e' is some = record {
  form = inr (omega (arith, is, some), omega (arith, is, some));
  some = λ _ z. omega (arith, z, some);
  still = λ _ z. omega (arith, is, z);
  slot = λ _. omega (arith, is, some);
}

master_entry : (e : ℕ) → IsEntry e → StaysEntry e (to_master e)
master_entry e form = elim (cases_eq (state_by e) 2) [
  | inl two ↦ turned_entry e (to_master e) (cond_is (state_by e) 2 (entry_for 3 (slot_by e)) e two) (has_slot form two)
  | inr other ↦ (let same = cond_not (state_by e) 2 (entry_for 3 (slot_by e)) e other in
      record { form = subst (λ (k : ℕ). IsEntry k) (sym same) form; some = λ some z. some (same ∙ z); still = λ some z. some (sym same ∙ z); slot = λ _. ap slot_by same })
]
  where
    has_slot : IsEntry e → state_by e ≡ 2 → 0 < e % 2 ^ 30
    has_slot (inl zero) two = absurd (omega (arith, zero, two))
    has_slot (inr has) two = has.1

pub master_placed : (f : ℕ → ℕ) (own n set : ℕ) (owners : Owners) → ArePlaced f own n set owners → ArePlaced (λ c. to_master (f c)) own n set owners
master_placed f own n set owners p = record {
  form = λ c lt. (master_entry (f c) (p.form c lt)).form;
  apart = λ c d lt d_lt ne some some' is.
      let a = master_entry (f c) (p.form c lt) in
      let b = master_entry (f d) (p.form d d_lt) in
      p.apart c d lt d_lt ne (a.some some) (b.some some') (sym (b.slot (b.some some')) ∙ is ∙ a.slot (a.some some));
  mine = λ c lt some past.
      let a = master_entry (f c) (p.form c lt) in
      let e = a.slot (a.some some) in
      ap (λ (k : ℕ). owner_at owners (k - own)) e ∙ p.mine c lt (a.some some) (omega (arith, past, e));
}

pub placed_entries : (f : ℕ → ℕ) (own n set : ℕ) (owners : Owners) → ArePlaced f own n set owners → AreEntries f own n
placed_entries f own n set owners p = record { form = p.form; apart = λ c d lt d_lt some some' slot. p.apart c d (omega (arith, lt, d_lt)) d_lt (λ e. omega (arith, e, lt)) some some' }

-- the slots that were used are used
master_test : (own e : ℕ) → IsEntry e → (is_own own (to_master e) ≡ is_own own e) × ((is_over own (to_master e) ≡ is_over own e) × (is_touched (to_master e) ≡ is_touched e))
master_test own e form = elim (cases_eq e 0) [
  | inl none ↦ subst (λ (k : ℕ). (is_own own (to_master k) ≡ is_own own k) × ((is_over own (to_master k) ≡ is_over own k) × (is_touched (to_master k) ≡ is_touched k))) (sym none) (refl, (refl, refl))
  | inr has ↦
      let m = master_entry e form in
      let same = tests_same own e (to_master e) has (m.still has) (m.slot has) in
      (same.0, (same.1, touched_yes (to_master e) (m.still has) ∙ sym (touched_yes e has)))
]

module _ (old mid new : CompactSet) (o : OverSet) (st : StagesAll old (λ c. to_master (entry_of old c)) mid) (tn : TurnsSet mid new) (p : IsPlaced old o) where
  placed : ArePlaced (λ c. to_master (entry_of old c)) old.own (chunks_of old) old.set o.owners
  placed = master_placed (entry_of old) old.own (chunks_of old) old.set o.owners p

  keep : AreEntries (λ c. to_master (entry_of old c)) old.own (chunks_of old)
  keep = placed_entries (λ c. to_master (entry_of old c)) old.own (chunks_of old) old.set o.owners placed

  entries : (c : ℕ) → c < chunks_of old → entry_of new c ≡ to_master (entry_of old c)
  entries c lt = updated_entries old mid new (λ k. to_master (entry_of old k)) st tn keep c lt

  own_is : new.own ≡ old.own
  own_is = ap (λ (s : CompactSet). s.own) tn.rest ∙ ap (λ (s : CompactSet). s.own) st.is

  set_is : new.set ≡ old.set
  set_is = ap (λ (s : CompactSet). s.set) tn.rest ∙ ap (λ (s : CompactSet). s.set) st.is

  count_is : chunks_of new ≡ chunks_of old
  count_is = ap (λ (s : CompactSet). chunks_of s) tn.rest ∙ ap (λ (s : CompactSet). chunks_of s) st.is

  counts : (test : ℕ → Bool) → ((c : ℕ) → c < chunks_of old → test (to_master (entry_of old c)) ≡ test (entry_of old c)) → count_of test (entry_of new) (chunks_of new) ≡ count_of test (entry_of old) (chunks_of old)
  counts test same = ap (λ (n : ℕ). count_of test (entry_of new) n) count_is ∙ count_same (λ c. test (entry_of old c)) (λ c. test (entry_of new c)) (chunks_of old) (λ c lt. ap test (entries c lt) ∙ same c lt)

  own_same : own_used new ≡ own_used old
  own_same = ap (λ (n : ℕ). count_of (is_own n) (entry_of new) (chunks_of new)) own_is ∙ counts (is_own old.own) (λ c lt. (master_test old.own (entry_of old c) (p.form c lt)).0)

  over_same : over_used new ≡ over_used old
  over_same = ap (λ (n : ℕ). count_of (is_over n) (entry_of new) (chunks_of new)) own_is ∙ counts (is_over old.own) (λ c lt. (master_test old.own (entry_of old c) (p.form c lt)).1.0)

  pub master_leaves : LeavesSlots old o 0 new o
  master_leaves = record {
    need = (let same = counts is_touched (λ c lt. (master_test old.own (entry_of old c) (p.form c lt)).1.1) in omega (arith, same));
    placed = subst (λ (n : ℕ). ArePlaced (entry_of new) n (chunks_of new) new.set o.owners) (sym own_is)
        (subst (λ (n : ℕ). ArePlaced (entry_of new) old.own n new.set o.owners) (sym count_is)
        (subst (λ (n : ℕ). ArePlaced (entry_of new) old.own (chunks_of old) n o.owners) (sym set_is)
        (placed_same (λ c. to_master (entry_of old c)) (entry_of new) old.own (chunks_of old) old.set o.owners o.owners entries (only_takes_none old.set o.owners) placed)));
    taken = λ taken. (ap (λ (n : ℕ). given_to n o.owners) set_is ∙ taken.0 ∙ sym over_same, ap (λ (s : CompactSet). s.ahead) tn.rest);
    own_first = λ none first more. (let full = first (omega (arith, more, over_same)) in let ahead : new.ahead ≡ 0 = ap (λ (s : CompactSet). s.ahead) tn.rest in omega (arith, full, none, own_same, own_is, ahead));
    known = λ kn. updated_known old mid new (λ k. to_master (entry_of old k)) st tn keep o kn.shadow kn.bitmap kn.over;
  }

-- ---- an update to the shadow, once its slots of the overflow volume are given up

released : (set : ℕ) (owners : Owners) → given_to set (map (without set) owners) ≡ 0
released set [] = refl
released set (x ∷ owners) =
    let rest = released set owners in
    let first = sum_by-cons (λ (y : Option ℕ). cond (is_of set y) 1 0) (without set x) (map (without set) owners) in
    omega (arith, rest, first, freed (is_of set x) refl)
  where
    freed : (b : Bool) → is_of set x ≡ b → ◌≡◌ {A = ℕ} (cond (is_of set (without set x)) 1 0) 0
    freed true is = ap (λ (t : Bool). cond (is_of set (cond t None x)) 1 0) is
    freed false is = ap (λ (t : Bool). cond (is_of set (cond t None x)) 1 0) is ∙ ap (λ (t : Bool). cond t 1 0) is

pub given_up : (old mid new : CompactSet) (o o' : OverSet) → StagesAll old (λ _. 0) mid → TurnsSet mid new → Releases o old.set o' → HasNone new o'
given_up old mid new o o' st tn gives = record {
  need = counts_none is_touched refl;
  placed = record { form = λ c lt. inl (none c lt); apart = λ c d lt lt' ne some. absurd (some (none c lt)); mine = λ c lt some. absurd (some (none c lt)) };
  taken = (
    ap (λ (n : ℕ). given_to n o'.owners) set_is ∙ ap (λ (z : OverSet). given_to old.set z.owners) gives.is ∙ released old.set o.owners ∙ sym (counts_none (is_over new.own) refl),
    ap (λ (s : CompactSet). s.ahead) tn.rest,
  );
}
  where
    count_is : chunks_of new ≡ chunks_of old
    count_is = ap (λ (s : CompactSet). chunks_of s) tn.rest ∙ ap (λ (s : CompactSet). chunks_of s) st.is

    set_is : new.set ≡ old.set
    set_is = ap (λ (s : CompactSet). s.set) tn.rest ∙ ap (λ (s : CompactSet). s.set) st.is

    none : (c : ℕ) → c < chunks_of new → entry_of new c ≡ 0
    none c lt = updated_entries old mid new (λ _. 0) st tn (entries_zero old.own (chunks_of old)) c (omega (arith, lt, count_is))

    counts_none : (test : ℕ → Bool) → test 0 ≡ false → count_of test (entry_of new) (chunks_of new) ≡ 0
    counts_none test fails = count_none (λ c. test (entry_of new c)) (chunks_of new) (λ c lt. ap test (none c lt) ∙ fails)
