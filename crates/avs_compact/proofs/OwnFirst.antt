-- Own slots come first: what is kept of the rule where entries are as before.
use Rattle.std.proofs.Common.{◌≡◌, inl, inr, ℕ, ◌+◌, ◌-◌, ◌<◌, ◌≤◌, ap, arith}
use Rattle.std.proofs.lemmas.Bool.{cases_lt}
use Rattle.avs_entries.specs.Counting.{is_own, is_over}
use Rattle.avs_entries.proofs.Counted.{count_same}
use Rattle.avs_compact.specs.Keeping.{OwnFirst}

pub first_same : (f g : ℕ → ℕ) (own n kept : ℕ) → ((c : ℕ) → c < n → g c ≡ f c) → OwnFirst f own n kept → OwnFirst g own n kept
first_same f g own n kept same first more =
    let owns = count_same (λ c. is_own own (f c)) (λ c. is_own own (g c)) n (λ c lt. ap (λ (e : ℕ). is_own own e) (same c lt)) in
    let overs = count_same (λ c. is_over own (f c)) (λ c. is_over own (g c)) n (λ c lt. ap (λ (e : ℕ). is_over own e) (same c lt)) in
    let full = first (omega (arith, more, overs)) in
    omega (arith, full, owns)

-- what is used beyond the own slots, of which so many stand in entries
pub over_beyond : (owns overs own ahead need : ℕ) → need ≡ owns + overs → owns ≤ own → (0 < overs → owns + ahead ≡ own) → ahead ≡ 0 → overs ≡ need - own
over_beyond owns overs own ahead need sum most first none = elim (cases_lt 0 overs) [
  | inl some ↦ (let full = first some in omega (arith, full, none, sum))
  | inr nothing ↦ omega (arith, nothing, sum, most)
]
