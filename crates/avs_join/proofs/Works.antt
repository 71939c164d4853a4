-- How many blocks a write writes on the two disks.
use Rattle.std.proofs.Common.{◌≡◌, inl, inr, ℕ, zero, suc, ◌+◌, ◌-◌, ◌*◌, ◌/◌, ◌<◌, ◌≤◌, Bool, true, cond, min, max, sym, ◌∙◌, ap, arith}
use Rattle.std.proofs.lemmas.Bool.{cases_eq, cases_lt, eq-eqb, ne_eqb, true≢false}
use Rattle.avs_dev.specs.Memory.{counted}
use Rattle.avs_dev.specs.Devices.{raised}
use Rattle.avs_bits.specs.Bit.{is_due, due_below, due_count}
use Rattle.avs_bits.proofs.Dues.{has_other_none, due_below_more}

-- ---- counts

pub raised_some : (before more : ℕ) → 0 < more → raised before more ≡ counted before more
raised_some before more some = ap (λ (b : Bool). cond b before (counted before more)) (ne_eqb more 0 (λ none. omega arith))

pub raised_most : (before more : ℕ) → raised before more ≤ before + more
raised_most before more = elim (cases_eq more 0) [
  | inl none ↦ let is : raised before more ≡ before = ap (λ (b : Bool). cond b before (counted before more)) (eq-eqb more 0 none) in omega (arith, is)
  | inr some ↦ let is = raised_some before more (omega (arith, some)) in omega (arith, is)
]

pub raised_within : (before less more : ℕ) → less ≤ more → raised before less ≤ before + more
raised_within before less more le = omega (arith, raised_most before less, le)

-- ---- blocks of bits that are due

one_bit : (b : Bool) → 0 ≤ cond b 1 0
one_bit b = omega arith

below_then : (bits : ℕ → Bool) (first end : ℕ) (on : Bool) (k n : ℕ) → first / 4096 ≤ k → due_below bits first end on k ≤ due_below bits first end on (k + n)
below_then bits first end on k zero low = let same : k ≡ k + 0 = omega arith in let is = ap (due_below bits first end on) same in omega (arith, is)
below_then bits first end on k (suc n) low =
    let next : k + n + 1 ≡ k + suc n = omega arith in
    let is = ap (due_below bits first end on) next in
    let more = due_below_more bits first end on (k + n) (omega arith) in
    omega (arith, below_then bits first end on k n low, more, is)

-- those below one that is due itself are some of them all
pub due_within : (bits : ℕ → Bool) (first end : ℕ) (on : Bool) (k : ℕ) → is_due bits first end on k ≡ true → due_below bits first end on k ≤ due_count bits first end on
due_within bits first end on k due = elim (cases_lt k ((end + 4095) / 4096)) [
  | inr past ↦ absurd (true≢false (sym due ∙ has_other_none bits (max first (4096 * k)) (min end (4096 * (k + 1))) on (λ p low high. absurd (omega arith))))
  | inl below ↦ elim (cases_lt k (first / 4096)) [
    | inl before ↦ absurd (true≢false (sym due ∙ has_other_none bits (max first (4096 * k)) (min end (4096 * (k + 1))) on (λ p low high. absurd (omega arith))))
    | inr from ↦
        let rest : k + ((end + 4095) / 4096 - k) ≡ (end + 4095) / 4096 = omega arith in
        let is = ap (due_below bits first end on) rest in
        omega (arith, below_then bits first end on k ((end + 4095) / 4096 - k) from, is)
  ]
]
