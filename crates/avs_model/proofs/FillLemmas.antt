-- Blocks that a pattern fills, and the shortest pattern that fills a block.
use Rattle.std.proofs.Common.{◌≡◌, inl, inr, ℕ, zero, suc, ◌+◌, ◌-◌, ◌*◌, ◌/◌, ◌%◌, ◌<◌, ◌≤◌, eqb, min, List, [], ◌∷◌, ◌++◌, length, get_or, take, drop, replicate, ◌∙◌, sym, refl, ap, subst, arith}
use Rattle.std.specs.Prelude.{IsTrue}
use Rattle.std.specs.Str.{bytes_eq}
use Rattle.std.proofs.lemmas.Bool.{cases_lt, or_cases, eqb-true, cond-true, cond-false, false_from_ne_true}
use Rattle.std.proofs.lemmas.Slice.Eq.{bytes_eq-Decides}
use Rattle.std.proofs.lemmas.List.{ext_get_or, length-take-le, length-take, length-drop, length-replicate, get_or-take, get_or-drop, get_or-replicate, get_or_append_left, get_or-append_right, take-append-le, take-take}
use Rattle.std.proofs.lemmas.List.FromFn.{length-map-range_with_len, get_or-map-range_with_len}
use Rattle.avs_seg.specs.Image.{Block, blocks_of}
use Rattle.avs_seg.proofs.Blocks.{same_images}
use Rattle.avs_seg.proofs.Bytes.{length-blocks_of, block_at-blocks_of}
use Rattle.avs_model.specs.Filling.{is_pattern_length, fill, first_filling, shortest_pattern}

-- what holds of each length of a pattern
pub each_length : (P : ℕ → Type 0) (n : ℕ) → IsTrue (is_pattern_length n) → P 1 → P 2 → P 4 → P 8 → P 16 → P n
each_length P n is p1 p2 p4 p8 p16 =
    elim (or_cases (eqb n 1) _ is) [
      | inl here ↦ subst P (sym (eqb-true n 1 here)) p1
      | inr not_1 ↦ elim (or_cases (eqb n 2) _ not_1) [
        | inl here ↦ subst P (sym (eqb-true n 2 here)) p2
        | inr not_2 ↦ elim (or_cases (eqb n 4) _ not_2) [
          | inl here ↦ subst P (sym (eqb-true n 4 here)) p4
          | inr not_4 ↦ elim (or_cases (eqb n 8) _ not_4) [
            | inl here ↦ subst P (sym (eqb-true n 8 here)) p8
            | inr not_8 ↦ elim (or_cases (eqb n 16) _ not_8) [
              | inl here ↦ subst P (sym (eqb-true n 16 here)) p16
              | inr none ↦ absurd (cc)
            ]
          ]
        ]
      ]
    ]

pub pattern_bounds : (n : ℕ) → IsTrue (is_pattern_length n) → (0 < n) × (n ≤ 16)
pattern_bounds n is = each_length (λ n. (0 < n) × (n ≤ 16)) n is (omega arith, omega arith) (omega arith, omega arith) (omega arith, omega arith) (omega arith, omega arith) (omega arith, omega arith)

-- the first m bytes are the first n of them, again and again
pub record Repeats (n : ℕ) (bytes : List ℕ) (m : ℕ) : Type 0 where
  pub same : (i : ℕ) → i < m → get_or bytes i 0 ≡ get_or bytes (i % n) 0

-- ---- the block that a pattern fills

pub length-fill : (pattern : List ℕ) → length (fill pattern) ≡ 512
unfolding fill
length-fill pattern = length-map-range_with_len (λ (i : ℕ). get_or pattern (i % length pattern) 0) 0 512

pub get_or-fill : (pattern : List ℕ) (i : ℕ) → i < 512 → get_or (fill pattern) i 0 ≡ get_or pattern (i % length pattern) 0
unfolding fill
get_or-fill pattern i lt = get_or-map-range_with_len (λ (i : ℕ). get_or pattern (i % length pattern) 0) 0 512 i i 0 lt (omega arith)

pub fill_is : (pattern block : List ℕ) → length block ≡ 512 → ((i : ℕ) → i < 512 → get_or block i 0 ≡ get_or pattern (i % length pattern) 0) → fill pattern ≡ block
fill_is pattern block len each = ext_get_or 0 (fill pattern) block (length-fill pattern ∙ sym len) (λ i lt.
    let lt' : i < 512 = omega (arith, lt, length-fill pattern) in
    get_or-fill pattern i lt' ∙ sym (each i lt'))

length_front : (n : ℕ) (block : List ℕ) → IsTrue (is_pattern_length n) → length block ≡ 512 → length (take n block) ≡ n
length_front n block is len = length-take-le n block (omega (arith, pattern_bounds n is))

rest_below : (n : ℕ) → IsTrue (is_pattern_length n) → (i : ℕ) → i % n < n
rest_below n is i = omega (arith, pattern_bounds n is)

-- byte i of what the first n bytes fill
front_byte : (n : ℕ) (block : List ℕ) → IsTrue (is_pattern_length n) → length block ≡ 512 → (i : ℕ) → get_or (take n block) (i % length (take n block)) 0 ≡ get_or block (i % n) 0
front_byte n block is len i = ap (λ (k : ℕ). get_or (take n block) (i % k) 0) (length_front n block is len) ∙ get_or-take n block (i % n) 0 (rest_below n is i)

pub fill-take : (n : ℕ) (block : List ℕ) → IsTrue (is_pattern_length n) → length block ≡ 512 → Repeats n block 512 → fill (take n block) ≡ block
fill-take n block is len repeats = fill_is (take n block) block len (λ i lt. repeats.same i lt ∙ sym (front_byte n block is len i))

pub Repeats-fill : (n : ℕ) (block : List ℕ) → IsTrue (is_pattern_length n) → length block ≡ 512 → fill (take n block) ≡ block → Repeats n block 512
Repeats-fill n block is len filled = record {
  same = λ i lt. ap (λ (b : Block). get_or b i 0) (sym filled) ∙ get_or-fill (take n block) i lt ∙ front_byte n block is len i;
}

-- each byte is that of the pattern, again and again
pub record IsFilled (pattern bytes : List ℕ) : Type 0 where
  pub byte : (i : ℕ) → i < length bytes → get_or bytes i 0 ≡ get_or pattern (i % length pattern) 0

pub blocks_of-filled : (pattern out : List ℕ) (len : ℕ) → IsTrue (is_pattern_length (length pattern)) → length out ≡ len → IsFilled pattern out → blocks_of out ≡ replicate (len / 512) (fill pattern)
blocks_of-filled pattern out len is len-is filled = same_images (blocks_of out) (replicate count (fill pattern)) (length-blocks_of out ∙ ap (λ (k : ℕ). k / 512) len-is ∙ sym (length-replicate count (fill pattern))) (λ i lt.
    let lt' : i < length out / 512 = omega (arith, lt, length-blocks_of out) in
    block_at-blocks_of out i lt' ∙ sym (fill_is pattern (take 512 (drop (512 * i) out)) (size i lt') (λ j below. byte i j lt' below)) ∙ sym (get_or-replicate count i (fill pattern) [] (omega arith)))
  where
    count : ℕ
    count = len / 512

    size : (i : ℕ) → i < length out / 512 → length (take 512 (drop (512 * i) out)) ≡ 512
    size i lt = length-take-le 512 (drop (512 * i) out) (simp length-drop (omega arith))

    place : (i j : ℕ) → (512 * i + j) % length pattern ≡ j % length pattern
    place i j = each_length (λ n. (512 * i + j) % n ≡ j % n) (length pattern) is (omega arith) (omega arith) (omega arith) (omega arith) (omega arith)

    byte : (i j : ℕ) → i < length out / 512 → j < 512 → get_or (take 512 (drop (512 * i) out)) j 0 ≡ get_or pattern (j % length pattern) 0
    byte i j lt below =
        get_or-take 512 (drop (512 * i) out) j 0 below
        ∙ get_or-drop (512 * i) out j 0
        ∙ filled.byte (512 * i + j) (omega arith)
        ∙ ap (λ (k : ℕ). get_or pattern k 0) (place i j)

pub IsFilled-replicate : (pattern : List ℕ) (n : ℕ) → length pattern ≡ 1 → IsFilled pattern (replicate n (get_or pattern 0 0))
IsFilled-replicate pattern n one = record {
  byte = λ i lt.
      let none : 0 ≡ i % 1 = omega arith in
      get_or-replicate n i (get_or pattern 0 0) 0 (omega (arith, lt, length-replicate n (get_or pattern 0 0)))
      ∙ ap (λ (k : ℕ). get_or pattern k 0) none
      ∙ ap (λ (k : ℕ). get_or pattern (i % k) 0) (sym one);
}

pub IsFilled-nothing : (pattern bytes : List ℕ) → length bytes ≡ 0 → IsFilled pattern bytes
IsFilled-nothing pattern bytes none = record { byte = λ i lt. absurd (omega arith) }

pub IsFilled-repeats : (n : ℕ) (pattern bytes : List ℕ) → IsTrue (is_pattern_length n) → length pattern ≡ n → take n bytes ≡ pattern → Repeats n bytes (length bytes) → IsFilled pattern bytes
IsFilled-repeats n pattern bytes is len front repeats = record {
  byte = λ i lt.
      repeats.same i lt
      ∙ sym (get_or-take n bytes (i % n) 0 (rest_below n is i))
      ∙ ap (λ (l : List ℕ). get_or l (i % n) 0) front
      ∙ ap (λ (k : ℕ). get_or pattern (i % k) 0) (sym len);
}

-- ---- what is copied from the front

-- the first `more` bytes stand once more behind the first `done`
pub record CopiesFront (done more : ℕ) (old new : List ℕ) : Type 0 where
  pub is : new ≡ take done old ++ (take more old ++ drop (done + more) old)
  pub part : more ≤ done
  pub within : done + more ≤ length old

CopiesFront-below : (done more : ℕ) (old new : List ℕ) → CopiesFront done more old new → (i : ℕ) → i < done → get_or new i 0 ≡ get_or old i 0
CopiesFront-below done more old new copies i lt =
    ap (λ (l : List ℕ). get_or l i 0) copies.is
    ∙ get_or_append_left (take done old) (take more old ++ drop (done + more) old) 0 i (omega (arith, size))
    ∙ get_or-take done old i 0 lt
  where
    size : length (take done old) ≡ done
    size = length-take-le done old (omega (arith, copies.within))

CopiesFront-behind : (done more : ℕ) (old new : List ℕ) → CopiesFront done more old new → (i : ℕ) → done ≤ i → i < done + more → get_or new i 0 ≡ get_or old (i - done) 0
CopiesFront-behind done more old new copies i low high =
    ap (λ (l : List ℕ). get_or l i 0) copies.is
    ∙ get_or-append_right (take done old) (take more old ++ drop (done + more) old) done i 0 (length-take-le done old (omega (arith, copies.within))) low
    ∙ get_or_append_left (take more old) (drop (done + more) old) 0 (i - done) (omega (arith, size))
    ∙ get_or-take more old (i - done) 0 (omega arith)
  where
    size : length (take more old) ≡ more
    size = length-take-le more old (omega (arith, copies.within))

pub take-CopiesFront : (n done more : ℕ) (old new : List ℕ) → CopiesFront done more old new → n ≤ done → take n new ≡ take n old
take-CopiesFront n done more old new copies le =
    ap (λ (l : List ℕ). take n l) copies.is
    ∙ take-append-le n (take done old) (take more old ++ drop (done + more) old) (omega (arith, le, size))
    ∙ take-take n done old le
  where
    size : length (take done old) ≡ done
    size = length-take-le done old (omega (arith, copies.within))

-- with whole patterns so far, they repeat up to the end of the copy
pub Repeats-more : (n done more : ℕ) (old new : List ℕ) → IsTrue (is_pattern_length n) → done % n ≡ 0 → n ≤ done → CopiesFront done more old new → Repeats n old done → Repeats n new (done + more)
Repeats-more n done more old new is whole some copies repeats = record {
  same = λ i lt. sofar i lt ∙ sym (CopiesFront-below done more old new copies (i % n) (omega (arith, rest_below n is i)));
}
  where
    place : (i : ℕ) → done ≤ i → (i - done) % n ≡ i % n
    place i = each_length (λ n. done % n ≡ 0 → done ≤ i → (i - done) % n ≡ i % n) n is (λ whole le. omega arith) (λ whole le. omega arith) (λ whole le. omega arith) (λ whole le. omega arith) (λ whole le. omega arith) whole

    sofar : (i : ℕ) → i < done + more → get_or new i 0 ≡ get_or old (i % n) 0
    sofar i lt = elim (cases_lt i done) [
      | inl below ↦ CopiesFront-below done more old new copies i below ∙ repeats.same i below
      | inr behind ↦
          CopiesFront-behind done more old new copies i behind lt
          ∙ repeats.same (i - done) (omega (arith, copies.part))
          ∙ ap (λ (k : ℕ). get_or old k 0) (place i behind)
    ]

-- whole patterns stay whole, up to the end too
pub whole_patterns : (n done more len : ℕ) → IsTrue (is_pattern_length n) → done % n ≡ 0 → more ≡ min done (len - done) → 512 * (len / 512) ≡ len → done ≤ len → (done + more) % n ≡ 0
whole_patterns n done more len is whole rest blocks le = each_length (λ n. done % n ≡ 0 → (done + more) % n ≡ 0) n is (λ whole. omega arith) (λ whole. omega arith) (λ whole. omega arith) (λ whole. omega arith) (λ whole. omega arith) whole

-- ---- whether a shorter pattern fills a block

-- 16 bytes fill a block exactly where each of its other bytes is the one 16 places before
pub Repeats-shifted : (block : List ℕ) → length block ≡ 512 → drop 16 block ≡ take (length block - 16) block → Repeats 16 block 512
Repeats-shifted block len shifted = record { same = λ i lt. back i i lt (omega arith) }
  where
    before : (i : ℕ) → i < 496 → get_or block (16 + i) 0 ≡ get_or block i 0
    before i lt = sym (get_or-drop 16 block i 0) ∙ ap (λ (l : List ℕ). get_or l i 0) shifted ∙ get_or-take (length block - 16) block i 0 (omega arith)

    back : (q i : ℕ) → i < 512 → i < 16 * q + 16 → get_or block i 0 ≡ get_or block (i % 16) 0
    back zero i lt front = ap (λ (k : ℕ). get_or block k 0) (omega arith)
    back (suc q) i lt front = elim (cases_lt i 16) [
      | inl low ↦ ap (λ (k : ℕ). get_or block k 0) (low_rest i low)
      | inr high ↦ ap (λ (k : ℕ). get_or block k 0) (there i high) ∙ before (i - 16) (omega arith) ∙ back q (i - 16) (omega arith) (omega arith) ∙ ap (λ (k : ℕ). get_or block k 0) (same_rest i high)
    ]
      where
        low_rest : (i : ℕ) → i < 16 → i ≡ i % 16
        low_rest i low = omega arith

        there : (i : ℕ) → 16 ≤ i → i ≡ 16 + (i - 16)
        there i high = omega arith

        same_rest : (i : ℕ) → 16 ≤ i → (i - 16) % 16 ≡ i % 16
        same_rest i high = omega arith

shifted_place : (n : ℕ) → IsTrue (is_pattern_length n) → (i : ℕ) → (16 + i) % n ≡ i % n
shifted_place n is i = each_length (λ n. (16 + i) % n ≡ i % n) n is (omega arith) (omega arith) (omega arith) (omega arith) (omega arith)

pub shifted-Repeats : (n : ℕ) (block : List ℕ) → IsTrue (is_pattern_length n) → length block ≡ 512 → Repeats n block 512 → drop 16 block ≡ take (length block - 16) block
shifted-Repeats n block is len repeats = ext_get_or 0 (drop 16 block) (take (length block - 16) block) (simp (length-drop, length-take) (omega arith)) (λ i lt.
    let lt' : i < 496 = omega (arith, lt, length-drop 16 block) in
    get_or-drop 16 block i 0
    ∙ repeats.same (16 + i) (omega arith)
    ∙ ap (λ (k : ℕ). get_or block k 0) (shifted_place n is i)
    ∙ sym (repeats.same i (omega arith))
    ∙ sym (get_or-take (length block - 16) block i 0 (omega arith)))

rest_of_rest : (n : ℕ) → IsTrue (is_pattern_length n) → (i : ℕ) → i % (2 * n) % n ≡ i % n
rest_of_rest n is i = each_length (λ n. i % (2 * n) % n ≡ i % n) n is (omega arith) (omega arith) (omega arith) (omega arith) (omega arith)

-- where 2 * n bytes fill a block, n bytes do exactly where the first n bytes and the next n are the same
halved : (n : ℕ) → IsTrue (is_pattern_length n) → (block : List ℕ) → Repeats (2 * n) block 512 → take n (drop n block) ≡ take n block → Repeats n block 512
halved n is block repeats same = record {
  same = λ i lt. repeats.same i lt ∙ within (i % (2 * n)) (below i) ∙ ap (λ (k : ℕ). get_or block k 0) (rest_of_rest n is i);
}
  where
    below : (i : ℕ) → i % (2 * n) < 2 * n
    below i = each_length (λ n. i % (2 * n) < 2 * n) n is (omega arith) (omega arith) (omega arith) (omega arith) (omega arith)

    low_rest : (k : ℕ) → k < n → k ≡ k % n
    low_rest k = each_length (λ n. k < n → k ≡ k % n) n is (λ lt. omega arith) (λ lt. omega arith) (λ lt. omega arith) (λ lt. omega arith) (λ lt. omega arith)

    high_rest : (k : ℕ) → n ≤ k → k < 2 * n → k - n ≡ k % n
    high_rest k = each_length (λ n. n ≤ k → k < 2 * n → k - n ≡ k % n) n is (λ le lt. omega arith) (λ le lt. omega arith) (λ le lt. omega arith) (λ le lt. omega arith) (λ le lt. omega arith)

    there : (k : ℕ) → n ≤ k → k ≡ n + (k - n)
    there k le = omega arith

    within : (k : ℕ) → k < 2 * n → get_or block k 0 ≡ get_or block (k % n) 0
    within k lt = elim (cases_lt k n) [
      | inl low ↦ ap (λ (j : ℕ). get_or block j 0) (low_rest k low)
      | inr high ↦
          let less : k - n < n = omega arith in
          ap (λ (j : ℕ). get_or block j 0) (there k high)
          ∙ sym (get_or-drop n block (k - n) 0)
          ∙ sym (get_or-take n (drop n block) (k - n) 0 less)
          ∙ ap (λ (l : List ℕ). get_or l (k - n) 0) same
          ∙ get_or-take n block (k - n) 0 less
          ∙ ap (λ (j : ℕ). get_or block j 0) (high_rest k high lt)
    ]

halves-Repeats : (n : ℕ) → IsTrue (is_pattern_length n) → (block : List ℕ) → length block ≡ 512 → Repeats n block 512 → take n (drop n block) ≡ take n block
halves-Repeats n is block len repeats = ext_get_or 0 (take n (drop n block)) (take n block) (size ∙ sym (length_front n block is len)) (λ i lt.
    let lt' : i < n = omega (arith, lt, size) in
    get_or-take n (drop n block) i 0 lt'
    ∙ get_or-drop n block i 0
    ∙ repeats.same (n + i) (omega (arith, pattern_bounds n is))
    ∙ ap (λ (k : ℕ). get_or block k 0) (rest i lt')
    ∙ sym (get_or-take n block i 0 lt'))
  where
    size : length (take n (drop n block)) ≡ n
    size = length-take-le n (drop n block) (omega (arith, pattern_bounds n is, length-drop n block))

    rest : (i : ℕ) → i < n → (n + i) % n ≡ i
    rest i = each_length (λ n. i < n → (n + i) % n ≡ i) n is (λ lt. omega arith) (λ lt. omega arith) (λ lt. omega arith) (λ lt. omega arith) (λ lt. omega arith)

doubled : (n : ℕ) → IsTrue (is_pattern_length n) → (block : List ℕ) → Repeats n block 512 → Repeats (2 * n) block 512
doubled n is block repeats = record {
  same = λ i lt. repeats.same i lt ∙ ap (λ (k : ℕ). get_or block k 0) (sym (rest_of_rest n is i)) ∙ sym (repeats.same (i % (2 * n)) (below i));
}
  where
    below : (i : ℕ) → i % (2 * n) < 512
    below i = each_length (λ n. i % (2 * n) < 512) n is (omega arith) (omega arith) (omega arith) (omega arith) (omega arith)

-- ---- the shortest pattern

first_filling-here : (n : ℕ) (lengths block : List ℕ) → IsTrue (is_pattern_length n) → length block ≡ 512 → Repeats n block 512 → first_filling (n ∷ lengths) block ≡ take n block
first_filling-here n lengths block is len repeats = cond-true (bytes_eq (fill (take n block)) block) (take n block) (first_filling lengths block) ((bytes_eq-Decides (fill (take n block)) block).1 (fill-take n block is len repeats))

first_filling-next : (n : ℕ) (lengths block : List ℕ) → IsTrue (is_pattern_length n) → length block ≡ 512 → (Repeats n block 512 → ⊥) → first_filling (n ∷ lengths) block ≡ first_filling lengths block
first_filling-next n lengths block is len not = cond-false (bytes_eq (fill (take n block)) block) (take n block) (first_filling lengths block) (false_from_ne_true _ (λ same. not (Repeats-fill n block is len ((bytes_eq-Decides (fill (take n block)) block).0 same))))

-- the lengths from one on
abbrev from_16 : List ℕ
from_16 = 16 ∷ []

abbrev from_8 : List ℕ
from_8 = 8 ∷ from_16

abbrev from_4 : List ℕ
from_4 = 4 ∷ from_8

abbrev from_2 : List ℕ
from_2 = 2 ∷ from_4

-- no pattern fills the block
pub shortest-none : (block : List ℕ) → length block ≡ 512 → (drop 16 block ≡ take (length block - 16) block → ⊥) → shortest_pattern block ≡ block
shortest-none block len apart = next 1 from_2 refl ∙ next 2 from_4 refl ∙ next 4 from_8 refl ∙ next 8 from_16 refl ∙ next 16 [] refl
  where
    next : (n : ℕ) (lengths : List ℕ) → IsTrue (is_pattern_length n) → first_filling (n ∷ lengths) block ≡ first_filling lengths block
    next n lengths is = first_filling-next n lengths block is len (λ fills. apart (shifted-Repeats n block is len fills))

-- n bytes fill the block, and half as many do not
pub shortest_is : (n : ℕ) (block : List ℕ) → IsTrue (is_pattern_length n) → length block ≡ 512 → Repeats n block 512 → (1 < n → take (n - n / 2) (drop (n / 2) block) ≡ take (n / 2) block → ⊥) → shortest_pattern block ≡ take n block
shortest_is n block is len repeats last =
    each_length (λ n. Repeats n block 512 → (1 < n → take (n - n / 2) (drop (n / 2) block) ≡ take (n / 2) block → ⊥) → shortest_pattern block ≡ take n block) n is
    (λ fills apart. here 1 from_2 refl fills)
    (λ fills apart.
    let not_1 = not 1 refl (apart (omega arith)) in
    next 1 from_2 refl not_1 ∙ here 2 from_4 refl fills)
    (λ fills apart.
    let not_2 = not 2 refl (apart (omega arith)) in
    let not_1 = not_half 1 refl not_2 in
    next 1 from_2 refl not_1 ∙ next 2 from_4 refl not_2 ∙ here 4 from_8 refl fills)
    (λ fills apart.
    let not_4 = not 4 refl (apart (omega arith)) in
    let not_2 = not_half 2 refl not_4 in
    let not_1 = not_half 1 refl not_2 in
    next 1 from_2 refl not_1 ∙ next 2 from_4 refl not_2 ∙ next 4 from_8 refl not_4 ∙ here 8 from_16 refl fills)
    (λ fills apart.
    let not_8 = not 8 refl (apart (omega arith)) in
    let not_4 = not_half 4 refl not_8 in
    let not_2 = not_half 2 refl not_4 in
    let not_1 = not_half 1 refl not_2 in
    next 1 from_2 refl not_1 ∙ next 2 from_4 refl not_2 ∙ next 4 from_8 refl not_4 ∙ next 8 from_16 refl not_8 ∙ here 16 [] refl fills)
    repeats last
  where
    here : (n : ℕ) (lengths : List ℕ) → IsTrue (is_pattern_length n) → Repeats n block 512 → first_filling (n ∷ lengths) block ≡ take n block
    here n lengths is fills = first_filling-here n lengths block is len fills

    next : (n : ℕ) (lengths : List ℕ) → IsTrue (is_pattern_length n) → (Repeats n block 512 → ⊥) → first_filling (n ∷ lengths) block ≡ first_filling lengths block
    next n lengths is not = first_filling-next n lengths block is len not

    not : (n : ℕ) → IsTrue (is_pattern_length n) → (take n (drop n block) ≡ take n block → ⊥) → Repeats n block 512 → ⊥
    not n is apart fills = apart (halves-Repeats n is block len fills)

    not_half : (n : ℕ) → IsTrue (is_pattern_length n) → (Repeats (2 * n) block 512 → ⊥) → Repeats n block 512 → ⊥
    not_half n is apart fills = apart (doubled n is block fills)

-- n bytes fill the block, and so do half as many
pub Repeats-half : (n : ℕ) (block : List ℕ) → IsTrue (is_pattern_length n) → 1 < n → Repeats n block 512 → take (n - n / 2) (drop (n / 2) block) ≡ take (n / 2) block → Repeats (n / 2) block 512
Repeats-half n block is more repeats same =
    each_length (λ n. 1 < n → Repeats n block 512 → take (n - n / 2) (drop (n / 2) block) ≡ take (n / 2) block → Repeats (n / 2) block 512) n is
    (λ more fills same. absurd (omega arith))
    (λ more fills same. halved 1 refl block fills same)
    (λ more fills same. halved 2 refl block fills same)
    (λ more fills same. halved 4 refl block fills same)
    (λ more fills same. halved 8 refl block fills same)
    more repeats same

pub is_half : (n : ℕ) → IsTrue (is_pattern_length n) → 1 < n → IsTrue (is_pattern_length (n / 2))
is_half n is more = each_length (λ n. 1 < n → IsTrue (is_pattern_length (n / 2))) n is (λ more. absurd (omega arith)) (λ more. refl) (λ more. refl) (λ more. refl) (λ more. refl) more
