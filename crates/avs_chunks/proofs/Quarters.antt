-- States of chunks in bytes: what is set, and what stays.
use Rattle.std.proofs.Common.{◌≡◌, ◌≢◌, inl, inr, ℕ, ◌+◌, ◌*◌, ◌/◌, ◌%◌, ◌^◌, ◌<◌, ◌≤◌, List, [], length, get_or, set, take, drop, sym, refl, ◌∙◌, ap, arith}
use Rattle.std.proofs.lemmas.Bool.{cases_eq}
use Rattle.std.proofs.lemmas.Grind.{get_or-set_at}
use Rattle.std.proofs.lemmas.List.{get_or-set_other, get_or_past, get_or-take, get_or-drop}
use Rattle.avs_seg.specs.Image.{Block, Image, blocks_of}
use Rattle.avs_seg.proofs.Bytes.{block_at-blocks_of}
use Rattle.avs_chunks.specs.States.{quarter, state_in, state_on}
use Rattle.avs_chunks.specs.Steps.{HasStates}

-- ---- the four places of a byte

quarter_0 : (b k : ℕ) → k ≡ 0 → quarter b k ≡ b % 4
unfolding quarter
quarter_0 b k is = ap (λ (j : ℕ). b / 2 ^ (2 * j) % 4) is ∙ omega arith

quarter_1 : (b k : ℕ) → k ≡ 1 → quarter b k ≡ b / 4 % 4
unfolding quarter
quarter_1 b k is = ap (λ (j : ℕ). b / 2 ^ (2 * j) % 4) is

quarter_2 : (b k : ℕ) → k ≡ 2 → quarter b k ≡ b / 16 % 4
unfolding quarter
quarter_2 b k is = ap (λ (j : ℕ). b / 2 ^ (2 * j) % 4) is

quarter_3 : (b k : ℕ) → k ≡ 3 → quarter b k ≡ b / 64 % 4
unfolding quarter
quarter_3 b k is = ap (λ (j : ℕ). b / 2 ^ (2 * j) % 4) is

pub quarter_is : (b k : ℕ) → b / 2 ^ (2 * k) % 4 ≡ quarter b k
unfolding quarter
quarter_is b k = refl

pub quarter_small : (b k : ℕ) → quarter b k < 4
unfolding quarter
quarter_small b k = omega arith

pub quarter-zero : (k : ℕ) → k < 4 → quarter 0 k ≡ 0
quarter-zero k lt = elim (cases_eq k 0) [
  | inl a ↦ quarter_0 0 k a
  | inr na ↦ elim (cases_eq k 1) [
    | inl b ↦ quarter_1 0 k b
    | inr nb ↦ elim (cases_eq k 2) [
      | inl c ↦ quarter_2 0 k c
      | inr nc ↦ quarter_3 0 k (omega arith)
    ]
  ]
]

-- what stands at one place
pub set_quarter : (r s k : ℕ) → k < 4 → (k ≡ 0 → r % 4 ≡ s) → (k ≡ 1 → r / 4 % 4 ≡ s) → (k ≡ 2 → r / 16 % 4 ≡ s) → (k ≡ 3 → r / 64 % 4 ≡ s) → quarter r k ≡ s
set_quarter r s k lt a b c d = elim (cases_eq k 0) [
  | inl e ↦ quarter_0 r k e ∙ a e
  | inr n0 ↦ elim (cases_eq k 1) [
    | inl e ↦ quarter_1 r k e ∙ b e
    | inr n1 ↦ elim (cases_eq k 2) [
      | inl e ↦ quarter_2 r k e ∙ c e
      | inr n2 ↦ let e : k ≡ 3 = omega arith in quarter_3 r k e ∙ d e
    ]
  ]
]

pub same_quarter : (r b k : ℕ) → k < 4 → (k ≡ 0 → r % 4 ≡ b % 4) → (k ≡ 1 → r / 4 % 4 ≡ b / 4 % 4) → (k ≡ 2 → r / 16 % 4 ≡ b / 16 % 4) → (k ≡ 3 → r / 64 % 4 ≡ b / 64 % 4) → quarter r k ≡ quarter b k
same_quarter r b k lt p0 p1 p2 p3 = set_quarter r (quarter b k) k lt (λ e. p0 e ∙ sym (quarter_0 b k e)) (λ e. p1 e ∙ sym (quarter_1 b k e)) (λ e. p2 e ∙ sym (quarter_2 b k e)) (λ e. p3 e ∙ sym (quarter_3 b k e))

-- ---- states in bytes

pub state_in_is : (bytes : List ℕ) (c : ℕ) → quarter (get_or bytes (c / 4) 0) (c % 4) ≡ state_in bytes c
unfolding state_in
state_in_is bytes c = refl

pub state_in_small : (bytes : List ℕ) (c : ℕ) → state_in bytes c < 4
unfolding state_in
state_in_small bytes c = quarter_small (get_or bytes (c / 4) 0) (c % 4)

pub state_in_past : (bytes : List ℕ) (c : ℕ) → 4 * length bytes ≤ c → state_in bytes c ≡ 0
unfolding state_in
state_in_past bytes c past =
    ap (λ (b : ℕ). quarter b (c % 4)) (get_or_past bytes (c / 4) 0 (omega arith)) ∙ quarter-zero (c % 4) (omega arith)

module _ (bytes : List ℕ) (c b : ℕ) (inside : c / 4 < length bytes) where
  pub set_now : (s : ℕ) → quarter b (c % 4) ≡ s → state_in (set bytes (c / 4) b) c ≡ s
  unfolding state_in
  set_now s is = ap (λ (x : ℕ). quarter x (c % 4)) (get_or-set_at bytes (c / 4) (c / 4) b 0 refl inside) ∙ is

  pub set_others : ((k : ℕ) → k < 4 → k ≢ c % 4 → quarter b k ≡ quarter (get_or bytes (c / 4) 0) k) → (d : ℕ) → d ≢ c → state_in (set bytes (c / 4) b) d ≡ state_in bytes d
  unfolding state_in
  set_others same d other = elim (cases_eq (d / 4) (c / 4)) [
    | inl here ↦
        ap (λ (x : ℕ). quarter x (d % 4)) (get_or-set_at bytes (c / 4) (d / 4) b 0 here inside)
        ∙ same (d % 4) (omega arith) (omega arith)
        ∙ ap (λ (j : ℕ). quarter (get_or bytes j 0) (d % 4)) (sym here)
    | inr apart ↦ ap (λ (x : ℕ). quarter x (d % 4)) (get_or-set_other bytes (c / 4) (d / 4) b 0 apart)
  ]

-- ---- states in blocks

-- a block of the bytes has the states of its chunks
pub state_of_block : (bytes : List ℕ) (at c : ℕ) → c / 2048 ≡ at → state_in (take 512 (drop (512 * at) bytes)) (c % 2048) ≡ state_in bytes c
unfolding state_in
state_of_block bytes at c here =
    let byte : 512 * at + c % 2048 / 4 ≡ c / 4 = omega arith in
    let place : c % 2048 % 4 ≡ c % 4 = omega arith in
    ap (λ (x : ℕ). quarter x (c % 2048 % 4)) (get_or-take 512 (drop (512 * at) bytes) (c % 2048 / 4) 0 (omega arith) ∙ get_or-drop (512 * at) bytes (c % 2048 / 4) 0 ∙ ap (λ (j : ℕ). get_or bytes j 0) byte)
    ∙ ap (λ (k : ℕ). quarter (get_or bytes (c / 4) 0) k) place

pub state_on_blocks : (bytes : List ℕ) (c : ℕ) → c / 2048 < length bytes / 512 → state_on (blocks_of bytes) c ≡ state_in bytes c
unfolding state_on
state_on_blocks bytes c inside = ap (λ (b : Block). state_in b (c % 2048)) (block_at-blocks_of bytes (c / 2048) inside) ∙ state_of_block bytes (c / 2048) c refl

-- an area whose block at a chunk is this one
pub has_states : (memory : List ℕ) (old : Image) (block start : List ℕ) (c s : ℕ) → c / 2048 < length old
    → start ≡ take 512 (drop (512 * (c / 2048)) memory)
    → state_in block (c % 2048) ≡ s → ((d : ℕ) → d ≢ c % 2048 → state_in block d ≡ state_in start d)
    → HasStates memory old (set old (c / 2048) block) c s
unfolding state_on
has_states memory old block start c s inside is now others = record {
  now = ap (λ (b : Block). state_in b (c % 2048)) (get_or-set_at old (c / 2048) (c / 2048) block [] refl inside) ∙ now;
  near = λ d other here.
      ap (λ (b : Block). state_in b (d % 2048)) (get_or-set_at old (c / 2048) (d / 2048) block [] here inside)
      ∙ others (d % 2048) (omega arith)
      ∙ ap (λ (b : Block). state_in b (d % 2048)) is
      ∙ state_of_block memory (c / 2048) d here;
  far = λ d apart. ap (λ (b : Block). state_in b (d % 2048)) (get_or-set_other old (c / 2048) (d / 2048) block [] apart);
}
