-- Which blocks of a range a pattern fills.
use Rattle.std.proofs.Common.{◌≡◌, ℕ, zero, suc, ◌+◌, ◌<◌, Bool, cond, List, [], ◌∷◌, ◌++◌, length, replicate, refl, sym, ◌∙◌, ap, arith}
use Rattle.std.specs.List.{filter, range_with_len}
use Rattle.std.specs.Str.{bytes_eq}
use Rattle.std.proofs.lemmas.List.Elements.{filter-append}
use Rattle.std.proofs.lemmas.List.{length-replicate, get_or-replicate}
use Rattle.avs_seg.specs.Image.{Image, block_at, blocks_of, range}
use Rattle.avs_seg.proofs.Bytes.{blocks_of_one}
use Rattle.avs_seg.proofs.Ranges.{block_at-range}
use Rattle.avs_model.specs.Filling.{fill}
use Rattle.avs_model.specs.Recovery.{standing}
use Rattle.avs_world.specs.Torn.{filled_by}

range_more : (a n : ℕ) → range_with_len a (suc n) ≡ range_with_len a n ++ (a + n) ∷ []
range_more a zero = let same : a ≡ a + 0 = omega arith in ap (λ k. k ∷ []) same
range_more a (suc n) =
    let same : a + 1 + n ≡ a + suc n = omega arith in
    ap (λ (l : List ℕ). a ∷ l) (range_more (a + 1) n ∙ ap (λ k. range_with_len (a + 1) n ++ k ∷ []) same)

-- one number more
pub filter_more : (p : ℕ → Bool) (n : ℕ) → filter p (range_with_len 0 (suc n)) ≡ filter p (range_with_len 0 n) ++ cond (p n) (n ∷ []) []
filter_more p n =
    let same : 0 + n ≡ n = omega arith in
    ap (filter p) (range_more 0 n) ∙ filter-append p (range_with_len 0 n) ((0 + n) ∷ []) ∙ ap (λ k. filter p (range_with_len 0 n) ++ filter p (k ∷ [])) same

filter_same : (p q : ℕ → Bool) (n : ℕ) → ((i : ℕ) → i < n → p i ≡ q i) → filter p (range_with_len 0 n) ≡ filter q (range_with_len 0 n)
filter_same p q zero same = refl
filter_same p q (suc n) same =
    let last : p n ≡ q n = same n (omega arith) in
    let front = filter_same p q n (λ i lt. same i (omega arith)) in
    filter_more p n ∙ (λ j. front j ++ cond (last j) (n ∷ []) []) ∙ sym (filter_more q n)

-- of the blocks of a write that were read, those that its pattern fills are those that now stand there
pub filled-standing : (img read : Image) (at len : ℕ) (pattern : List ℕ) → read ≡ range img at len → filled_by pattern read len ≡ standing img at (replicate len (fill pattern))
filled-standing img read at len pattern is =
    let bs = replicate len (fill pattern) in
    let count : length bs ≡ len = length-replicate len (fill pattern) in
    filter_same (λ i. bytes_eq (block_at read i) (fill pattern)) (λ i. bytes_eq (block_at img (at + i)) (block_at bs i)) len
    (λ i lt. (λ j. bytes_eq ((ap (λ (l : Image). block_at l i) is ∙ block_at-range img at len i lt) j) (sym (get_or-replicate len i (fill pattern) [] lt) j)))
    ∙ ap (λ n. filter (λ i. bytes_eq (block_at img (at + i)) (block_at bs i)) (range_with_len 0 n)) (sym count)

-- one block more that was looked at
pub filled_more : (pattern : List ℕ) (blocks : Image) (n : ℕ) (is : Bool) (list more : List ℕ) → list ≡ filled_by pattern blocks n → is ≡ bytes_eq (block_at blocks n) (fill pattern) → more ≡ list ++ cond is (n ∷ []) []
    → more ≡ filled_by pattern blocks (n + 1)
filled_more pattern blocks n is list more so_far test grown =
    let next : suc n ≡ n + 1 = omega arith in
    grown ∙ (λ j. so_far j ++ cond (test j) (n ∷ []) []) ∙ sym (filter_more (λ i. bytes_eq (block_at blocks i) (fill pattern)) n) ∙ ap (filled_by pattern blocks) next

-- the block that a pattern fills
pub one_block : (bytes : List ℕ) (pattern : List ℕ) → length bytes ≡ 512 → blocks_of bytes ≡ replicate 1 (fill pattern) → bytes ≡ fill pattern
one_block bytes pattern long is = let e : bytes ∷ [] ≡ fill pattern ∷ [] = sym (blocks_of_one bytes long) ∙ is in cc
