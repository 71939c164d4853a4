-- Bits that are changed or skipped by whole bytes.
use Rattle.std.proofs.Common.{◌≡◌, ◌≢◌, inl, inr, ℕ, ◌+◌, ◌-◌, ◌*◌, ◌/◌, ◌%◌, ◌^◌, ◌<◌, ◌≤◌, Bool, true, false, eqb, List, length, get_or, set, take, drop, replicate, ap, sym, refl, ◌∙◌, arith, w64}
use Rattle.std.specs.Int.{bit_at, from_be_bytes}
use Rattle.std.specs.List.{between}
use Rattle.std.proofs.lemmas.Bool.{cases_eq, cases_lt, eq-eqb, ne_eqb, eqb-true, eqb-false}
use Rattle.std.proofs.lemmas.Nat.{be_bytes_8}
use Rattle.std.proofs.lemmas.Nat.Bits.{bit_at_ones, bit_at-zero, bit_at-lt, same_from_bits_below}
use Rattle.std.proofs.lemmas.List.{get_or-set_other, get_or-take, get_or-drop, get_or-replicate, get_or_past}
use Rattle.std.proofs.lemmas.Grind.{get_or-set_at}
use Rattle.avs_bits.specs.Bit.{bit_of, byte_of, IsPut}
use Rattle.avs_bits.proofs.SomeBits.{bit_of-zero_byte}

byte_bit : (on : Bool) (k : ℕ) → k < 8 → eqb (bit_at (byte_of on) k) 1 ≡ on
byte_bit true k lt = ap (λ (b : ℕ). eqb b 1) (bit_at_ones 8 k lt)
byte_bit false k lt = ap (λ (b : ℕ). eqb b 1) (bit_at-zero k)

-- a byte whose bits are so
pub same_byte : (bytes : List ℕ) (j : ℕ) (on : Bool) → get_or bytes j 0 ≡ byte_of on → (p : ℕ) → 8 * j ≤ p → p < 8 * (j + 1) → bit_of bytes p ≡ on
unfolding bit_of
same_byte bytes j on is p low high =
    let here : p / 8 ≡ j = omega arith in
    ap (λ (i : ℕ). eqb (bit_at (get_or bytes i 0) (p % 8)) 1) here
    ∙ ap (λ (b : ℕ). eqb (bit_at b (p % 8)) 1) is
    ∙ byte_bit on (p % 8) (omega arith)

-- a byte is written over
pub put_byte : (bytes : List ℕ) (j byte : ℕ) (on : Bool) → j < length bytes → byte ≡ byte_of on → IsPut (bit_of bytes) (bit_of (set bytes j byte)) (8 * j) (8 * (j + 1)) on
unfolding bit_of
put_byte bytes j byte on inside is = record {
  inside = λ p low high.
      let here : p / 8 ≡ j = omega arith in
      ap (λ (b : ℕ). eqb (bit_at b (p % 8)) 1) (get_or-set_at bytes j (p / 8) byte 0 here inside ∙ is)
      ∙ byte_bit on (p % 8) (omega arith);
  outside = λ p out.
      let apart : p / 8 ≢ j = elim out [ inl low ↦ (λ here. omega arith) | inr high ↦ (λ here. omega arith) ] in
      ap (λ (b : ℕ). eqb (bit_at b (p % 8)) 1) (get_or-set_other bytes j (p / 8) byte 0 apart);
}

same_bit : (x y : ℕ) → x < 2 → y < 2 → eqb x 1 ≡ eqb y 1 → x ≡ y
same_bit x y small small' same = elim (cases_eq x 1) [
  | inl one ↦ one ∙ sym (eqb-true y 1 (sym same ∙ eq-eqb x 1 one))
  | inr none ↦
      let other : y ≢ 1 = eqb-false y 1 (sym same ∙ ne_eqb x 1 none) in
      omega (arith, none, other)
]

-- the bits of a byte tell which one it is
pub byte_is : (bytes : List ℕ) (j : ℕ) (on : Bool) → get_or bytes j 0 < 256 → ((p : ℕ) → 8 * j ≤ p → p < 8 * (j + 1) → bit_of bytes p ≡ on) → get_or bytes j 0 ≡ byte_of on
unfolding bit_of
byte_is bytes j on small all = same_from_bits_below 8 (get_or bytes j 0) (byte_of on) small (fits on) (λ i lt.
    same_bit (bit_at (get_or bytes j 0) i) (bit_at (byte_of on) i) (bit_at-lt (get_or bytes j 0) i) (bit_at-lt (byte_of on) i) (each i lt ∙ sym (byte_bit on i lt)))
  where
    fits : (b : Bool) → byte_of b < 2 ^ 8
    fits true = omega arith
    fits false = omega arith

    each : (i : ℕ) → i < 8 → eqb (bit_at (get_or bytes j 0) i) 1 ≡ on
    each i lt =
        let here : (8 * j + i) / 8 ≡ j = omega arith in
        let at : (8 * j + i) % 8 ≡ i = omega arith in
        sym (ap (λ (k : ℕ). eqb (bit_at (get_or bytes k 0) i) 1) here)
        ∙ sym (ap (λ (k : ℕ). eqb (bit_at (get_or bytes ((8 * j + i) / 8) 0) k) 1) at)
        ∙ all (8 * j + i) (omega arith) (omega arith)

-- a word that is 0
module _ (bytes word : List ℕ) (at end : ℕ) (whole : end ≡ at + 8) (is : word ≡ between at end bytes) (long : length word ≡ 8) (small : (i : ℕ) → get_or bytes i 0 < 256) where
  word_at : (i : ℕ) → i < 8 → get_or word i 0 ≡ get_or bytes (at + i) 0
  word_at i inside =
      let eight : end - at ≡ 8 = omega arith in
      ap (λ (l : List ℕ). get_or l i 0) is
      ∙ ap (λ (n : ℕ). get_or (take n (drop at bytes)) i 0) eight
      ∙ get_or-take 8 (drop at bytes) i 0 inside
      ∙ get_or-drop at bytes i 0

  word_small : (i : ℕ) → get_or word i 0 < 256
  word_small i = elim (cases_lt i 8) [
    | inl inside ↦ rw (word_at i inside) (small (at + i))
    | inr past ↦ rw (get_or_past word i 0 (omega arith)) (omega arith)
  ]

  pub zero_word : from_be_bytes w64 word ≡ 0 → (p : ℕ) → 8 * at ≤ p → p < 8 * at + 64 → bit_of bytes p ≡ false
  zero_word none p low high =
      let zeros : word ≡ replicate 8 0 = sym (be_bytes_8 word 0 long word_small (sym none)) in
      let inside : p / 8 - at < 8 = omega arith in
      let there : at + (p / 8 - at) ≡ p / 8 = omega arith in
      let byte : get_or bytes (p / 8) 0 ≡ 0 =
      sym (ap (λ (i : ℕ). get_or bytes i 0) there)
      ∙ sym (word_at (p / 8 - at) inside)
      ∙ ap (λ (l : List ℕ). get_or l (p / 8 - at) 0) zeros
      ∙ get_or-replicate 8 (p / 8 - at) 0 0 inside in
      bit_of-zero_byte bytes p p byte refl
