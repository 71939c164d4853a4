-- Entries of which some get slots that are kept for them: how many slots they use, and that each is in one of them.
use Rattle.std.proofs.Common.{◌≡◌, ◌≢◌, ◌⊎◌, inl, inr, ℕ, zero, suc, ◌+◌, ◌-◌, ◌<◌, ◌≤◌, Bool, true, false, cond, length, filter, Some, ◌∙◌, sym, refl, ap, subst, arith}
use Rattle.std.specs.Prelude.{◌&&◌}
use Rattle.std.specs.List.{range_with_len}
use Rattle.std.proofs.lemmas.Bool.{cases_Bool, cases_lt, cases_eq}
use Rattle.avs_over.specs.Slots.{owner_at}
use Rattle.avs_over.specs.Over.{OverSet}
use Rattle.avs_entries.specs.Entries.{IsEntry, slot_by, entry_for}
use Rattle.avs_entries.specs.Counting.{is_own, is_over, is_touched, count_of}
use Rattle.avs_entries.proofs.Counted.{count_more, count_same}
use Rattle.avs_entries.proofs.Marking.{touched_yes}
use Rattle.avs_compact.specs.CompactSet.{CompactSet, entry_of, next_of, chunks_of}
use Rattle.avs_compact.specs.Places.{ArePlaced, OnlyTakes}
use Rattle.avs_compact.specs.Keeping.{IsPlaced}
use Rattle.avs_compact.specs.Ahead.{KeepsSlotsFor, slot_ahead, kept_count, told_from}
use Rattle.avs_compact.proofs.Placed.{stays, tests_same}

count_sum_in : (p q r : ℕ → Bool) (n : ℕ) → ((k : ℕ) → k < n → cond (r k) 1 0 ≡ cond (p k) 1 0 + cond (q k) 1 0) → length (filter r (range_with_len 0 n)) ≡ length (filter p (range_with_len 0 n)) + length (filter q (range_with_len 0 n))
count_sum_in p q r zero each = refl
count_sum_in p q r (suc n) each =
    let e : suc n ≡ n + 1 = omega arith in
    let rest = count_sum_in p q r n (λ k lt. each k (omega (arith, lt))) in
    subst (λ (k : ℕ). length (filter r (range_with_len 0 k)) ≡ length (filter p (range_with_len 0 k)) + length (filter q (range_with_len 0 k))) (sym e)
    (omega (arith, count_more r n, count_more p n, count_more q n, each n (omega arith), rest))

-- ---- one entry

-- an entry that tells a slot, and one that tells the same
pub record TellsSlot (e e' : ℕ) : Type 0 where
  pub some : e' ≢ 0
  pub slot : slot_by e' ≡ slot_by e
  pub form : IsEntry e'

pub split_entry : (e : ℕ) → IsEntry e → e ≢ 0 → TellsSlot e (entry_for 2 (slot_by e))
split_entry e form some = by_form form
  where
    by_form : IsEntry e → TellsSlot e (entry_for 2 (slot_by e))
    by_form (inl nobody) = absurd (some nobody)
    by_form (inr has) = (let low = has.1 in record { some = λ z. omega (arith, z); slot = omega (arith, low); form = inr (omega (arith, low), omega (arith, low)) })

-- one that is kept
pub kept_entry : (e : ℕ) → e ≡ entry_for 2 (slot_by e) → (e ≢ 0) × IsEntry e
kept_entry e is = ((λ z. omega (arith, is, z)), inr (omega (arith, is), omega (arith, is)))

-- Of n entries those that are told and tell no slot are others then. Those that tell one tell the same, and the others tell none.
pub record SplitsWith (f g N : ℕ → ℕ) (told : ℕ → Bool) (n : ℕ) : Type 0 where
  pub had : (c : ℕ) → c < n → f c ≢ 0 → TellsSlot (f c) (g c)
  pub none : (c : ℕ) → c < n → f c ≡ 0 → told c ≡ false → g c ≡ 0
  pub took : (c : ℕ) → c < n → told c ≡ true → (f c ≡ 0) × (g c ≡ N c)

module _ (old mid : CompactSet) (o o' : OverSet) (told : ℕ → Bool) (k : KeepsSlotsFor old o (told_from told 0 (chunks_of old)) mid o') (g : ℕ → ℕ) (s : SplitsWith (entry_of old) g (next_of mid) told (chunks_of old)) where
  abbrev count : (ℕ → Bool) → ℕ
  count test = length (filter (λ c. told c && test (next_of mid c)) (range_with_len 0 (chunks_of old)))

  all_kept : (test : ℕ → Bool) → kept_count test mid told 0 (chunks_of old) ≡ count test
  all_kept test = (let e : chunks_of old - 0 ≡ chunks_of old = omega arith in ap (λ (n : ℕ). length (filter (λ c. told c && test (next_of mid c)) (range_with_len 0 n))) e)

  module _ (test : ℕ → Bool) (zero_fails : test 0 ≡ false) (same : (c : ℕ) → c < chunks_of old → entry_of old c ≢ 0 → test (g c) ≡ test (entry_of old c)) where
    one : (c : ℕ) → c < chunks_of old → ◌≡◌ {A = ℕ} (cond (test (g c)) 1 0) (cond (test (entry_of old c)) 1 0 + cond (told c && test (next_of mid c)) 1 0)
    one c lt = elim (cases_Bool (told c)) [
      | inl is ↦
          let t = s.took c lt is in
          let before : ◌≡◌ {A = ℕ} (cond (test (entry_of old c)) 1 0) 0 = ap (λ (e : ℕ). cond (test e) 1 0) t.0 ∙ ap (λ (b : Bool). cond b 1 0) zero_fails in
          let now : ◌≡◌ {A = ℕ} (cond (test (g c)) 1 0) (cond (test (next_of mid c)) 1 0) = ap (λ (e : ℕ). cond (test e) 1 0) t.1 in
          let kept : ◌≡◌ {A = ℕ} (cond (told c && test (next_of mid c)) 1 0) (cond (test (next_of mid c)) 1 0) = ap (λ (b : Bool). cond (b && test (next_of mid c)) 1 0) is in
          omega (arith, before, now, kept)
      | inr not_told ↦
          let kept : ◌≡◌ {A = ℕ} (cond (told c && test (next_of mid c)) 1 0) 0 = ap (λ (b : Bool). cond (b && test (next_of mid c)) 1 0) not_told in
          elim (cases_eq (entry_of old c) 0) [
            | inl is_zero ↦
                let before : ◌≡◌ {A = ℕ} (cond (test (entry_of old c)) 1 0) 0 = ap (λ (e : ℕ). cond (test e) 1 0) is_zero ∙ ap (λ (b : Bool). cond b 1 0) zero_fails in
                let now : ◌≡◌ {A = ℕ} (cond (test (g c)) 1 0) 0 = ap (λ (e : ℕ). cond (test e) 1 0) (s.none c lt is_zero not_told) ∙ ap (λ (b : Bool). cond b 1 0) zero_fails in
                omega (arith, before, now, kept)
            | inr some ↦
                let now : ◌≡◌ {A = ℕ} (cond (test (g c)) 1 0) (cond (test (entry_of old c)) 1 0) = ap (λ (b : Bool). cond b 1 0) (same c lt some) in
                omega (arith, now, kept)
          ]
    ]

    counts_kept : count_of test g (chunks_of old) ≡ count_of test (entry_of old) (chunks_of old) + kept_count test mid told 0 (chunks_of old)
    counts_kept = (let all = count_sum_in (λ c. test (entry_of old c)) (λ c. told c && test (next_of mid c)) (λ c. test (g c)) (chunks_of old) one in omega (arith, all, all_kept test))

  pub own_kept : count_of (is_own old.own) g (chunks_of old) ≡ count_of (is_own old.own) (entry_of old) (chunks_of old) + kept_count (is_own old.own) mid told 0 (chunks_of old)
  own_kept = counts_kept (is_own old.own) refl (λ c lt some. (tests_same old.own (entry_of old c) (g c) some (s.had c lt some).some (s.had c lt some).slot).0)

  pub over_kept : count_of (is_over old.own) g (chunks_of old) ≡ count_of (is_over old.own) (entry_of old) (chunks_of old) + kept_count (is_over old.own) mid told 0 (chunks_of old)
  over_kept = counts_kept (is_over old.own) refl (λ c lt some. (tests_same old.own (entry_of old c) (g c) some (s.had c lt some).some (s.had c lt some).slot).1)

  -- each that is told gets one
  next_some : (c : ℕ) → c < chunks_of old → told c ≡ true → (next_of mid c ≢ 0) × IsEntry (next_of mid c)
  next_some c lt is = kept_entry (next_of mid c) (k.kept c (omega arith) lt is).entry

  pub need_kept : count_of is_touched g (chunks_of old) ≡ count_of is_touched (entry_of old) (chunks_of old) + length (filter told (range_with_len 0 (chunks_of old)))
  need_kept =
      let counts = counts_kept is_touched refl (λ c lt some. touched_yes (g c) (s.had c lt some).some ∙ sym (touched_yes (entry_of old c) some)) in
      let each = count_same told (λ c. told c && is_touched (next_of mid c)) (chunks_of old) (λ c lt. touches c lt (told c) refl) in
      omega (arith, counts, each, all_kept is_touched)
    where
      touches : (c : ℕ) → c < chunks_of old → (b : Bool) → told c ≡ b → (told c && is_touched (next_of mid c)) ≡ told c
      touches c lt true is = ap (λ (b : Bool). b && is_touched (next_of mid c)) is ∙ touched_yes (next_of mid c) (next_some c lt is).0 ∙ sym is
      touches c lt false is = ap (λ (b : Bool). b && is_touched (next_of mid c)) is ∙ sym is

  -- ---- each slot is in one entry

  module _ (takes : OnlyTakes old.set o.owners o'.owners) (p : IsPlaced old o) where
    -- how an entry came to its slot
    came : (c : ℕ) → c < chunks_of old → g c ≢ 0 → ((entry_of old c ≢ 0) × TellsSlot (entry_of old c) (g c)) ⊎ ((told c ≡ true) × (slot_by (g c) ≡ slot_ahead mid c))
    came c lt some = elim (cases_eq (entry_of old c) 0) [
      | inl is_zero ↦ elim (cases_Bool (told c)) [
        | inl is ↦ inr (is, ap slot_by (s.took c lt is).1)
        | inr not_told ↦ absurd (some (s.none c lt is_zero not_told))
      ]
      | inr has ↦ inl (has, s.had c lt has)
    ]

    form : (c : ℕ) → c < chunks_of old → IsEntry (g c)
    form c lt = elim (cases_eq (entry_of old c) 0) [
      | inl is_zero ↦ elim (cases_Bool (told c)) [
        | inl is ↦ subst (λ (e : ℕ). IsEntry e) (sym (s.took c lt is).1) (next_some c lt is).1
        | inr not_told ↦ inl (s.none c lt is_zero not_told)
      ]
      | inr has ↦ (s.had c lt has).form
    ]

    apart : (c d : ℕ) → c < chunks_of old → d < chunks_of old → c ≢ d → g c ≢ 0 → g d ≢ 0 → slot_by (g d) ≢ slot_by (g c)
    apart c d lt lt' ne some some' is = elim (came c lt some) [
      | inl was ↦ elim (came d lt' some') [
        | inl was' ↦ p.apart c d lt lt' ne was.0 was'.0 (sym was'.1.slot ∙ is ∙ was.1.slot)
        | inr new' ↦ (k.kept d (omega arith) lt' new'.0).apart p c lt was.0 (sym was.1.slot ∙ sym is ∙ new'.1)
      ]
      | inr new ↦ elim (came d lt' some') [
        | inl was' ↦ (k.kept c (omega arith) lt new.0).apart p d lt' was'.0 (sym was'.1.slot ∙ is ∙ new.1)
        | inr new' ↦ elim (cases_lt c d) [
          | inl less ↦ k.apart c d (omega arith) less lt' new.0 new'.0 (sym new.1 ∙ sym is ∙ new'.1)
          | inr past ↦ k.apart d c (omega arith) (less_of past) lt new'.0 new.0 (sym new'.1 ∙ is ∙ new.1)
        ]
      ]
    ]
      where
        less_of : d ≤ c → d < c
        less_of past = elim (cases_lt d c) [ inl less ↦ less | inr over ↦ absurd (ne (omega (arith, past, over))) ]

    mine : (c : ℕ) → c < chunks_of old → g c ≢ 0 → old.own ≤ slot_by (g c) → owner_at o'.owners (slot_by (g c) - old.own) ≡ Some old.set
    mine c lt some past = elim (came c lt some) [
      | inl was ↦ (let e = was.1.slot in ap (λ (j : ℕ). owner_at o'.owners (j - old.own)) e
          ∙ stays old.set o.owners o'.owners (slot_by (entry_of old c) - old.own) takes (p.mine c lt was.0 (omega (arith, past, e))))
      | inr new ↦ (let e = new.1 in ap (λ (j : ℕ). owner_at o'.owners (j - old.own)) e ∙ ((k.kept c (omega arith) lt new.0).over (omega (arith, past, e))).1)
    ]

    pub split_placed : ArePlaced g old.own (chunks_of old) old.set o'.owners
    split_placed = record { form = form; apart = apart; mine = mine }
