-- The map of the chunks that stand in their slots alone.
use Rattle.std.proofs.Common.{◌≡◌, ◌≢◌, ◌⊎◌, inl, inr, ℕ, ◌+◌, ◌*◌, ◌/◌, ◌<◌, ◌≤◌, false, List, length, get_or, replicate, refl, sym, ◌∙◌, ap, arith}
use Rattle.std.proofs.lemmas.Bool.{cases_lt, cases_eq, false≢true, eq-eqb}
use Rattle.std.proofs.lemmas.Bool.Decides.{eqb_tells}
use Rattle.std.proofs.lemmas.List.{get_or_past, get_or-replicate, length-replicate}
use Rattle.avs_bits.specs.Bit.{bit_of, IsPut}
use Rattle.avs_bits.proofs.SomeBits.{bit_of-zero_byte}
use Rattle.avs_entries.specs.Entries.{state_by}
use Rattle.avs_entries.specs.Counting.{is_in, IsMapped}

pub zero_bits : (bits : List ℕ) (n : ℕ) → bits ≡ replicate n 0 → (c : ℕ) → bit_of bits c ≡ false
zero_bits bits n is c = ap (λ (l : List ℕ). bit_of l c) is ∙ bit_of-zero_byte (replicate n 0) c c (zeros (c / 8)) refl
  where
    zeros : (k : ℕ) → get_or {A = ℕ} (replicate n 0) k 0 ≡ 0
    zeros k = elim (cases_lt k n) [
      | inl inside ↦ get_or-replicate n k 0 0 inside
      | inr past ↦ get_or_past (replicate n 0) k 0 (omega (arith, length-replicate {A = ℕ} n 0, past))
    ]

not_in : (e : ℕ) → state_by e ≢ 3 → is_in 3 e ≡ false
not_in e other = elim (eqb_tells (state_by e) 3) [
  | inl same ↦ absurd (other same.1)
  | inr apart ↦ apart.0
]

-- a chunk whose bit is clear
pub not_due : (entries : ℕ → ℕ) (n c : ℕ) (map : List ℕ) → IsMapped entries n map → c < n → bit_of map c ≡ false → state_by (entries c) ≢ 3
not_due entries n c map m lt bit three = false≢true (sym bit ∙ m.each c lt ∙ eq-eqb (state_by (entries c)) 3 three)

-- ---- one entry is set, and tells another state then

module _ (f g : ℕ → ℕ) (n chunk : ℕ) (map : List ℕ) (m : IsMapped f n map) (others : (c : ℕ) → c < n → c ≢ chunk → g c ≡ f c) (now : state_by (g chunk) ≢ 3) where
  pub mapped_cleared : (new : List ℕ) → length new ≡ length map → IsPut (bit_of map) (bit_of new) chunk (chunk + 1) false → IsMapped g n new
  mapped_cleared new long p = record {
    room = omega (arith, m.room, long);
    each = λ c lt. elim (cases_eq c chunk) [
      | inl e ↦ p.inside c (omega (arith, e)) (omega (arith, e)) ∙ sym (not_in (g c) (λ three. now (ap (λ (k : ℕ). state_by (g k)) (sym e) ∙ three)))
      | inr ne ↦ p.outside c (apart c ne) ∙ m.each c lt ∙ ap (λ (k : ℕ). is_in 3 k) (sym (others c lt ne))
    ];
  }
    where
      apart : (c : ℕ) → c ≢ chunk → (c < chunk) ⊎ (chunk + 1 ≤ c)
      apart c ne = elim (cases_lt c chunk) [ inl low ↦ inl low | inr high ↦ inr (omega (arith, high, ne)) ]

  -- it told another state before too
  pub mapped_same : state_by (f chunk) ≢ 3 → IsMapped g n map
  mapped_same was = record {
    room = m.room;
    each = λ c lt. elim (cases_eq c chunk) [
      | inl e ↦ m.each c lt ∙ not_in (f c) (λ three. was (ap (λ (k : ℕ). state_by (f k)) (sym e) ∙ three)) ∙ sym (not_in (g c) (λ three. now (ap (λ (k : ℕ). state_by (g k)) (sym e) ∙ three)))
      | inr ne ↦ m.each c lt ∙ ap (λ (k : ℕ). is_in 3 k) (sym (others c lt ne))
    ];
  }
