-- The states of 32 chunks as a word.
use Rattle.std.proofs.Common.{◌≡◌, ◌≢◌, inl, inr, ℕ, zero, suc, ◌+◌, ◌-◌, ◌*◌, ◌/◌, ◌%◌, ◌^◌, ◌<◌, min, max, Bool, true, false, ◌&&◌, ◌||◌, eqb, List, length, get_or, take, drop, ◌∙◌, sym, refl, ap, subst, arith, w64, bit_and, bit_or}
use Rattle.std.specs.Int.{bit_at, from_le_bytes, to_le_bytes}
use Rattle.std.specs.List.{between}
use Rattle.std.proofs.lemmas.Bool.{cases_eq, cases_lt, ne_eqb}
use Rattle.std.proofs.lemmas.Nat.{le_bytes_8, shr-shr}
use Rattle.std.proofs.lemmas.Nat.Bits.{bit_at_and, bit_at_or, bit_at-zero, bit_at_cat_low, bit_at_cat_high}
use Rattle.std.proofs.lemmas.List.{get_or-take, get_or-drop, get_or_past}
use Rattle.avs_chunks.specs.States.{quarter, state_in}
use Rattle.avs_chunks.specs.Due.{is_due}
use Rattle.avs_chunks.proofs.Quarters.{state_in_is, quarter_is}

-- ---- the lower bits

lower : ℕ → ℕ
lower zero = 0
lower (suc n) = lower n * 2 ^ 2 + 1

lower_at : (n j : ℕ) → j < n → bit_at (lower n) (2 * j) ≡ 1
unfolding lower
lower_at zero j lt = absurd (omega (arith, lt))
lower_at (suc n) zero lt = bit_at_cat_low (lower n) 2 1 0 (omega arith)
lower_at (suc n) (suc j) lt =
    let same : 2 * suc j - 2 ≡ 2 * j = omega arith in
    bit_at_cat_high (lower n) 2 1 (2 * suc j) (omega arith) (omega arith) ∙ ap (λ (i : ℕ). bit_at (lower n) i) same ∙ lower_at n j (omega (arith, lt))

abbrev LOWER : ℕ
LOWER = 6148914691236517205

lower_is : lower 32 ≡ LOWER
unfolding lower
lower_is = refl

lower_bit : (j : ℕ) → j < 32 → bit_at LOWER (2 * j) ≡ 1
lower_bit j lt = ap (λ (m : ℕ). bit_at m (2 * j)) (sym lower_is) ∙ lower_at 32 j lt

-- ---- one state of a word

module _ (w j : ℕ) (lt : j < 32) where
  next_bit : bit_at (w / 2 ^ 1) (2 * j) ≡ w / 2 ^ (2 * j) / 2 % 2
  next_bit =
      let turned : 1 + 2 * j ≡ 2 * j + 1 = omega arith in
      ap (λ (x : ℕ). x % 2) (shr-shr w 1 (2 * j) ∙ ap (λ (e : ℕ). w / 2 ^ e) turned ∙ sym (shr-shr w (2 * j) 1))

  both_of : bit_and (bit_and w (w / 2 ^ 1)) LOWER ≡ 0 → w / 2 ^ (2 * j) % 4 ≢ 3
  both_of none =
      let bits : min (min (bit_at w (2 * j)) (bit_at (w / 2 ^ 1) (2 * j))) (bit_at LOWER (2 * j)) ≡ 0 =
      ap (λ (a : ℕ). min a (bit_at LOWER (2 * j))) (sym (bit_at_and w (w / 2 ^ 1) (2 * j)))
      ∙ sym (bit_at_and (bit_and w (w / 2 ^ 1)) LOWER (2 * j))
      ∙ ap (λ (a : ℕ). bit_at a (2 * j)) none
      ∙ bit_at-zero (2 * j) in
      λ three. omega (arith, bits, lower_bit j lt, next_bit, three)

  one_of : bit_and (bit_or w (w / 2 ^ 1)) LOWER ≡ LOWER → w / 2 ^ (2 * j) % 4 ≢ 0
  one_of all =
      let bits : min (max (bit_at w (2 * j)) (bit_at (w / 2 ^ 1) (2 * j))) (bit_at LOWER (2 * j)) ≡ 1 =
      ap (λ (a : ℕ). min a (bit_at LOWER (2 * j))) (sym (bit_at_or w (w / 2 ^ 1) (2 * j)))
      ∙ sym (bit_at_and (bit_or w (w / 2 ^ 1)) LOWER (2 * j))
      ∙ ap (λ (a : ℕ). bit_at a (2 * j)) all
      ∙ lower_bit j lt in
      λ none. omega (arith, bits, lower_bit j lt, next_bit, none)

  pub idle_if : (independent : Bool) → bit_and (bit_and w (w / 2 ^ 1)) LOWER ≡ 0 → (independent ≡ true → bit_and (bit_or w (w / 2 ^ 1)) LOWER ≡ LOWER) → is_due independent (w / 2 ^ (2 * j) % 4) ≡ false
  idle_if true none all = ap (λ (b : Bool). b || (true && eqb (w / 2 ^ (2 * j) % 4) 0)) (ne_eqb (w / 2 ^ (2 * j) % 4) 3 (both_of none)) ∙ ne_eqb (w / 2 ^ (2 * j) % 4) 0 (one_of (all refl))
  idle_if false none all = ap (λ (b : Bool). b || false) (ne_eqb (w / 2 ^ (2 * j) % 4) 3 (both_of none))

-- ---- the bytes of a word

first_bits : (y k : ℕ) → k < 4 → y % 256 / 2 ^ (2 * k) % 4 ≡ y / 2 ^ (2 * k) % 4
first_bits y k lt = elim (cases_eq k 0) [
  | inl e ↦ at k 0 e (omega arith)
  | inr n0 ↦ elim (cases_eq k 1) [
    | inl e ↦ at k 1 e (omega arith)
    | inr n1 ↦ elim (cases_eq k 2) [
      | inl e ↦ at k 2 e (omega arith)
      | inr n2 ↦ at k 3 (omega (arith, lt, n0, n1, n2)) (omega arith)
    ]
  ]
]
  where
    at : (a b : ℕ) → a ≡ b → y % 256 / 2 ^ (2 * b) % 4 ≡ y / 2 ^ (2 * b) % 4 → y % 256 / 2 ^ (2 * a) % 4 ≡ y / 2 ^ (2 * a) % 4
    at a b e h = subst (λ (i : ℕ). y % 256 / 2 ^ (2 * i) % 4 ≡ y / 2 ^ (2 * i) % 4) (sym e) h

byte_in : (w i : ℕ) → i < 8 → get_or (to_le_bytes w64 w) i 0 ≡ w / 2 ^ (8 * i) % 256
byte_in w i lt = elim (cases_eq i 0) [
  | inl e ↦ at i 0 e (omega arith)
  | inr n0 ↦ elim (cases_eq i 1) [
    | inl e ↦ at i 1 e refl
    | inr n1 ↦ elim (cases_eq i 2) [
      | inl e ↦ at i 2 e refl
      | inr n2 ↦ elim (cases_eq i 3) [
        | inl e ↦ at i 3 e refl
        | inr n3 ↦ elim (cases_eq i 4) [
          | inl e ↦ at i 4 e refl
          | inr n4 ↦ elim (cases_eq i 5) [
            | inl e ↦ at i 5 e refl
            | inr n5 ↦ elim (cases_eq i 6) [
              | inl e ↦ at i 6 e refl
              | inr n6 ↦ at i 7 (omega (arith, lt, n0, n1, n2, n3, n4, n5, n6)) refl
            ]
          ]
        ]
      ]
    ]
  ]
]
  where
    at : (a b : ℕ) → a ≡ b → get_or (to_le_bytes w64 w) b 0 ≡ w / 2 ^ (8 * b) % 256 → get_or (to_le_bytes w64 w) a 0 ≡ w / 2 ^ (8 * a) % 256
    at a b e h = subst (λ (k : ℕ). get_or (to_le_bytes w64 w) k 0 ≡ w / 2 ^ (8 * k) % 256) (sym e) h

module _ (bytes word : List ℕ) (at end w : ℕ) (whole : end ≡ at + 8) (is : word ≡ between at end bytes) (long : length word ≡ 8) (small : (i : ℕ) → get_or bytes i 0 < 256) (of : w ≡ from_le_bytes w64 word) where
  there : (i : ℕ) → i < 8 → get_or word i 0 ≡ get_or bytes (at + i) 0
  there i inside =
      let eight : end - at ≡ 8 = omega arith in
      ap (λ (l : List ℕ). get_or l i 0) is
      ∙ ap (λ (n : ℕ). get_or (take n (drop at bytes)) i 0) eight
      ∙ get_or-take 8 (drop at bytes) i 0 inside
      ∙ get_or-drop at bytes i 0

  word_small : (i : ℕ) → get_or word i 0 < 256
  word_small i = elim (cases_lt i 8) [
    | inl inside ↦ rw (there i inside) (small (at + i))
    | inr past ↦ rw (get_or_past word i 0 (omega arith)) (omega arith)
  ]

  byte_is : (i : ℕ) → i < 8 → w / 2 ^ (8 * i) % 256 ≡ get_or bytes (at + i) 0
  byte_is i lt = sym (byte_in w i lt) ∙ ap (λ (l : List ℕ). get_or l i 0) (le_bytes_8 word w long word_small of) ∙ there i lt

  pub state_at : (j : ℕ) → j < 32 → w / 2 ^ (2 * j) % 4 ≡ state_in bytes (4 * at + j)
  state_at j lt =
      let exponent : 2 * j ≡ 8 * (j / 4) + 2 * (j % 4) = omega arith in
      let byte : at + j / 4 ≡ (4 * at + j) / 4 = omega arith in
      let place : j % 4 ≡ (4 * at + j) % 4 = omega arith in
      ap (λ (e : ℕ). w / 2 ^ e % 4) exponent
      ∙ ap (λ (x : ℕ). x % 4) (sym (shr-shr w (8 * (j / 4)) (2 * (j % 4))))
      ∙ sym (first_bits (w / 2 ^ (8 * (j / 4))) (j % 4) (omega arith))
      ∙ ap (λ (b : ℕ). b / 2 ^ (2 * (j % 4)) % 4) (byte_is (j / 4) (omega (arith, lt)) ∙ ap (λ (i : ℕ). get_or bytes i 0) byte)
      ∙ quarter_is (get_or bytes ((4 * at + j) / 4) 0) (j % 4)
      ∙ ap (λ (k : ℕ). quarter (get_or bytes ((4 * at + j) / 4) 0) k) place
      ∙ state_in_is bytes (4 * at + j)
