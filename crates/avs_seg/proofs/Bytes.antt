-- Blocks against bytes.
use Rattle.std.proofs.Common.{◌≡◌, inl, inr, ℕ, zero, suc, ◌+◌, ◌-◌, ◌*◌, ◌/◌, ◌%◌, ◌<◌, ◌≤◌, List, [], ◌∷◌, ◌++◌, length, get_or, take, drop, replicate, ◌∙◌, sym, ap, arith}
use Rattle.std.specs.List.{between}
use borrow.Rule.Slice.PartMut.{put_mid}
use Rattle.std.proofs.lemmas.Bool.{cases_lt}
use Rattle.std.proofs.lemmas.List.{ext_get_or, take_all, length-take-le, length-take, length-append, length-drop, get_or-take, get_or-drop, get_or_append_left, get_or-append_right, drop-drop, drop-append-le, take-append-le, drop-take, take-take, drop_at, take_at, take-replicate, drop-replicate, length-replicate, get_or-replicate}
use Rattle.std.proofs.lemmas.Slice.{drop-put_mid}
use Rattle.avs_seg.specs.Image.{Block, Image, block_at, put, range, blocks_of, zero_block, blank}
use Rattle.avs_seg.proofs.Blocks.{length-tabulate, block_at-tabulate, same_images, block_at_past}
use Rattle.avs_seg.proofs.Puts.{length-put, put_inside, put_below, put_above}
use Rattle.avs_seg.proofs.Ranges.{length-range, block_at-range}

pub length-blocks_of : (bytes : List ℕ) → length (blocks_of bytes) ≡ length bytes / 512
unfolding blocks_of
length-blocks_of bytes = length-tabulate _ _

pub block_at-blocks_of : (bytes : List ℕ) (i : ℕ) → i < length bytes / 512 → block_at (blocks_of bytes) i ≡ take 512 (drop (512 * i) bytes)
unfolding blocks_of
block_at-blocks_of bytes i lt = block_at-tabulate _ _ i lt

-- byte j of block i
pub byte_at-blocks_of : (bytes : List ℕ) (i j : ℕ) → i < length bytes / 512 → j < 512 → get_or (block_at (blocks_of bytes) i) j 0 ≡ get_or bytes (512 * i + j) 0
byte_at-blocks_of bytes i j lt below = ap (λ (b : Block). get_or b j 0) (block_at-blocks_of bytes i lt) ∙ get_or-take 512 (drop (512 * i) bytes) j 0 below ∙ get_or-drop (512 * i) bytes j 0

-- byte j of bytes, in its block
pub byte_at : (bytes : List ℕ) (j : ℕ) → j / 512 < length bytes / 512 → get_or bytes j 0 ≡ get_or (block_at (blocks_of bytes) (j / 512)) (j % 512) 0
byte_at bytes j lt = ap (λ (k : ℕ). get_or bytes k 0) (place j) ∙ sym (byte_at-blocks_of bytes (j / 512) (j % 512) lt (omega arith))
  where
    place : (j : ℕ) → j ≡ 512 * (j / 512) + j % 512
    place j = omega arith

pub length-block_at-blocks_of : (bytes : List ℕ) (i : ℕ) → i < length bytes / 512 → length (block_at (blocks_of bytes) i) ≡ 512
length-block_at-blocks_of bytes i lt = ap (λ (b : Block). length b) (block_at-blocks_of bytes i lt) ∙ length-take-le 512 (drop (512 * i) bytes) (simp length-drop (omega arith))

-- one block's bytes are that block
pub blocks_of_one : (bytes : List ℕ) → length bytes ≡ 512 → blocks_of bytes ≡ bytes ∷ []
blocks_of_one bytes one = same_images _ _ (length-blocks_of bytes ∙ whole) (λ i lt. first i (omega (arith, lt, length-blocks_of bytes, whole)))
  where
    whole : length bytes / 512 ≡ 1
    whole = ap (λ n. n / 512) one

    first : (i : ℕ) → i < 1 → block_at (blocks_of bytes) i ≡ block_at (bytes ∷ []) i
    first zero lt = block_at-blocks_of bytes 0 (omega (arith, whole)) ∙ take_all 512 bytes (omega arith)
    first (suc i) lt = absurd (omega arith)

-- a list of blocks that are those of the bytes, one by one
pub blocks_of_all : (bytes : List ℕ) (bs : Image) → length bytes ≡ 512 * length bs → ((k : ℕ) → k < length bs → block_at bs k ≡ take 512 (drop (512 * k) bytes)) → bs ≡ blocks_of bytes
blocks_of_all bytes bs len each =
    let count : length bytes / 512 ≡ length bs = omega (arith, len) in
    same_images bs (blocks_of bytes) (sym count ∙ sym (length-blocks_of bytes)) (λ i lt. each i lt ∙ sym (block_at-blocks_of bytes i (omega (arith, count, lt))))

-- ---- 512 bytes of a list, and where they lie

-- in front of a cut
pub block_of_front : (xs : List ℕ) (m a : ℕ) → m + 512 ≤ a → take 512 (drop m (take a xs)) ≡ take 512 (drop m xs)
block_of_front xs m a low =
    ap (λ (l : List ℕ). take 512 l) (ap (λ (k : ℕ). drop m (take k xs)) (split m a (omega arith)) ∙ drop-take m (a - m) xs)
    ∙ take-take 512 (a - m) (drop m xs) (omega arith)
  where
    split : (m a : ℕ) → m ≤ a → a ≡ m + (a - m)
    split m a le = omega arith

-- a write from a on leaves the bytes below
pub block_before : (xs ys : List ℕ) (m a n : ℕ) → m + 512 ≤ a → a ≤ length xs → take 512 (drop m (put_mid a n xs ys)) ≡ take 512 (drop m xs)
block_before xs ys m a n low fits =
    let front : length (take a xs) ≡ a = length-take-le a xs fits in
    let rest = ys ++ drop n (drop a xs) in
    let left : length (drop m (take a xs)) ≡ a - m = simp length-drop (omega arith) in
    ap (λ (l : List ℕ). take 512 l) (drop-append-le m (take a xs) rest (omega arith))
    ∙ take-append-le 512 (drop m (take a xs)) rest (omega arith)
    ∙ block_of_front xs m a low

-- inside it the new ones stand
pub block_inside : (xs ys : List ℕ) (m a n : ℕ) → a ≤ m → m + 512 ≤ a + length ys → a ≤ length xs → take 512 (drop m (put_mid a n xs ys)) ≡ take 512 (drop (m - a) ys)
block_inside xs ys m a n low high fits =
    let rest = drop n (drop a xs) in
    ap (λ (l : List ℕ). take 512 l)
    (ap (λ (k : ℕ). drop k (put_mid a n xs ys)) (place m a low) ∙ sym (drop-drop (m - a) a (put_mid a n xs ys))
    ∙ ap (λ (l : List ℕ). drop (m - a) l) (drop_at (take a xs) (ys ++ rest) a (length-take-le a xs fits))
    ∙ drop-append-le (m - a) ys rest (omega arith))
    ∙ take-append-le 512 (drop (m - a) ys) rest (simp length-drop (omega arith))
  where
    place : (m a : ℕ) → a ≤ m → m ≡ a + (m - a)
    place m a low = omega arith

-- one whole block that was written
pub block_there : (xs ys : List ℕ) (a n : ℕ) → length ys ≡ 512 → a ≤ length xs → take 512 (drop a (put_mid a n xs ys)) ≡ ys
block_there xs ys a n len fits =
    ap (λ (l : List ℕ). take 512 l) (drop_at (take a xs) (ys ++ drop n (drop a xs)) a (length-take-le a xs fits)) ∙ take_at ys (drop n (drop a xs)) 512 len

-- behind it the old ones stay
pub block_after : (xs ys : List ℕ) (m a n : ℕ) → a + n ≤ m → length ys ≡ n → a ≤ length xs → take 512 (drop m (put_mid a n xs ys)) ≡ take 512 (drop m xs)
block_after xs ys m a n high len fits = ap (λ (l : List ℕ). take 512 l) (drop-put_mid a n xs ys m high fits len)

-- ---- the blocks of a part, of two parts, and after a write to a part

pub length-put_mid : (xs ys : List ℕ) (a n : ℕ) → length ys ≡ n → a + n ≤ length xs → length (put_mid a n xs ys) ≡ length xs
length-put_mid xs ys a n len fits = simp (length-append, length-take, length-drop) (omega arith)

-- the blocks of a part of the bytes
pub blocks_of-between : (bytes : List ℕ) (from n a e : ℕ) → a ≡ 512 * from → e ≡ 512 * (from + n) → e ≤ length bytes → blocks_of (between a e bytes) ≡ range (blocks_of bytes) from n
blocks_of-between bytes from n a e a-is e-is fits = same_images _ _ (length-blocks_of part ∙ count ∙ sym (length-range (blocks_of bytes) from n)) (λ i lt. each i (omega (arith, lt, length-blocks_of part, count)))
  where
    part : List ℕ
    part = between a e bytes

    size : length (take (e - a) (drop a bytes)) ≡ 512 * n
    size = simp (length-take, length-drop) (omega arith)

    count : length (take (e - a) (drop a bytes)) / 512 ≡ n
    count = omega (arith, size)

    place : (i : ℕ) → a + 512 * i ≡ 512 * (from + i)
    place i = omega arith

    each : (i : ℕ) → i < n → block_at (blocks_of part) i ≡ block_at (range (blocks_of bytes) from n) i
    each i lt =
        block_at-blocks_of part i (omega (arith, lt, count))
        ∙ block_of_front (drop a bytes) (512 * i) (e - a) (omega arith)
        ∙ ap (λ (l : List ℕ). take 512 l) (drop-drop (512 * i) a bytes ∙ ap (λ (k : ℕ). drop k bytes) (place i))
        ∙ sym (block_at-blocks_of bytes (from + i) (omega arith))
        ∙ sym (block_at-range (blocks_of bytes) from n i lt)

-- whole blocks copied into a part of the bytes are put there
pub blocks_of-put_mid : (xs ys : List ℕ) (at a n : ℕ) → a ≡ 512 * at → length ys ≡ n → 512 * (n / 512) ≡ n → a + n ≤ length xs → blocks_of (put_mid a n xs ys) ≡ put (blocks_of xs) at (blocks_of ys)
blocks_of-put_mid xs ys at a n a-is len whole fits = same_images _ _ (length-blocks_of new ∙ ap (λ (k : ℕ). k / 512) size ∙ sym (length-blocks_of xs) ∙ sym (length-put (blocks_of xs) at (blocks_of ys))) (λ i lt. each i (omega (arith, lt, length-blocks_of new, size)))
  where
    new : List ℕ
    new = put_mid a n xs ys

    size : length (put_mid a n xs ys) ≡ length xs
    size = length-put_mid xs ys a n len fits

    count : length (blocks_of ys) ≡ n / 512
    count = length-blocks_of ys ∙ ap (λ (k : ℕ). k / 512) len

    place : (i : ℕ) → at ≤ i → 512 * i - a ≡ 512 * (i - at)
    place i le = omega arith

    each : (i : ℕ) → i < length xs / 512 → block_at (blocks_of new) i ≡ block_at (put (blocks_of xs) at (blocks_of ys)) i
    each i lt = block_at-blocks_of new i (omega (arith, lt, size)) ∙ elim (cases_lt i at) [
      | inl low ↦ block_before xs ys (512 * i) a n (omega arith) (omega arith) ∙ sym (put_below (blocks_of xs) at (blocks_of ys) i low ∙ block_at-blocks_of xs i lt)
      | inr high ↦ elim (cases_lt i (at + n / 512)) [
        | inl within ↦
            block_inside xs ys (512 * i) a n (omega arith) (omega arith) (omega arith)
            ∙ ap (λ (k : ℕ). take 512 (drop k ys)) (place i high)
            ∙ sym (put_inside (blocks_of xs) at (blocks_of ys) i high (omega (arith, count)) (omega (arith, lt, length-blocks_of xs)) ∙ block_at-blocks_of ys (i - at) (omega (arith, len)))
        | inr above ↦ block_after xs ys (512 * i) a n (omega arith) len (omega arith) ∙ sym (put_above (blocks_of xs) at (blocks_of ys) i (omega (arith, count)) ∙ block_at-blocks_of xs i lt)
      ]
    ]

-- the blocks of two parts, one behind the other
pub blocks_of-append : (xs ys : List ℕ) (n : ℕ) → length xs ≡ 512 * n → blocks_of (xs ++ ys) ≡ blocks_of xs ++ blocks_of ys
blocks_of-append xs ys n len = same_images _ _ (length-blocks_of (xs ++ ys) ∙ count ∙ sym size) (λ i lt. each i (omega (arith, lt, length-blocks_of (xs ++ ys), count)))
  where
    front : length (blocks_of xs) ≡ n
    front = length-blocks_of xs ∙ omega (arith, len)

    count : length (xs ++ ys) / 512 ≡ n + length ys / 512
    count = omega (arith, len, length-append xs ys)

    size : length (blocks_of xs ++ blocks_of ys) ≡ n + length ys / 512
    size = omega (arith, front, length-blocks_of ys, length-append (blocks_of xs) (blocks_of ys))

    behind : (i : ℕ) → n ≤ i → 512 * i ≡ 512 * n + 512 * (i - n)
    behind i le = omega arith

    each : (i : ℕ) → i < n + length ys / 512 → block_at (blocks_of (xs ++ ys)) i ≡ block_at (blocks_of xs ++ blocks_of ys) i
    each i lt = block_at-blocks_of (xs ++ ys) i (omega (arith, lt, count)) ∙ elim (cases_lt i n) [
      | inl low ↦
          ap (λ (l : List ℕ). take 512 l) (drop-append-le (512 * i) xs ys (omega (arith, len)))
          ∙ take-append-le 512 (drop (512 * i) xs) ys (simp length-drop (omega (arith, len)))
          ∙ sym (get_or_append_left (blocks_of xs) (blocks_of ys) [] i (omega (arith, front)) ∙ block_at-blocks_of xs i (omega (arith, front, length-blocks_of xs)))
      | inr high ↦
          ap (λ (k : ℕ). take 512 (drop k (xs ++ ys))) (behind i high)
          ∙ ap (λ (l : List ℕ). take 512 l) (sym (drop-drop (512 * (i - n)) (512 * n) (xs ++ ys)) ∙ ap (λ (l : List ℕ). drop (512 * (i - n)) l) (drop_at xs ys (512 * n) len))
          ∙ sym (get_or-append_right (blocks_of xs) (blocks_of ys) n i [] front high ∙ block_at-blocks_of ys (i - n) (omega arith))
    ]

-- blocks of one byte throughout
pub blocks_of-replicate : (m n b : ℕ) → m ≡ 512 * n → blocks_of (replicate m b) ≡ replicate n (replicate 512 b)
blocks_of-replicate m n b is = same_images _ _ (size ∙ sym (length-replicate n (replicate 512 b))) (λ i lt. each i (omega (arith, lt, size)))
  where
    size : length (blocks_of (replicate m b)) ≡ n
    size = length-blocks_of (replicate m b) ∙ omega (arith, is, length-replicate m b)

    filled : (i : ℕ) → i < n → block_at (replicate n (replicate 512 b)) i ≡ replicate 512 b
    filled i lt = get_or-replicate n i (replicate 512 b) [] lt

    each : (i : ℕ) → i < n → block_at (blocks_of (replicate m b)) i ≡ block_at (replicate n (replicate 512 b)) i
    each i lt =
        block_at-blocks_of (replicate m b) i (omega (arith, lt, is, length-replicate m b))
        ∙ ap (λ (l : List ℕ). take 512 l) (drop-replicate (512 * i) m b)
        ∙ take-replicate 512 (m - 512 * i) b (omega arith)
        ∙ sym (filled i lt)

pub blocks_of_zeros : (m n : ℕ) → m ≡ 512 * n → blocks_of (replicate m 0) ≡ blank n
unfolding zero_block
blocks_of_zeros m n is = blocks_of-replicate m n 0 is

-- blocks of two slices whose bytes agree there
pub same_block : (xs ys : List ℕ) (i : ℕ) → length xs ≡ length ys → 512 * (length xs / 512) ≡ length xs → ((j : ℕ) → j / 512 ≡ i → get_or xs j 0 ≡ get_or ys j 0) → block_at (blocks_of xs) i ≡ block_at (blocks_of ys) i
same_block xs ys i len whole same = elim (cases_lt i (length xs / 512)) [
  | inl lt ↦ block_at-blocks_of xs i lt ∙ ext_get_or 0 (take 512 (drop (512 * i) xs)) (take 512 (drop (512 * i) ys)) (sizes lt ∙ sym (sizes' lt)) (λ j below. each lt j (omega (arith, below, sizes lt))) ∙ sym (block_at-blocks_of ys i (omega (arith, len, lt)))
  | inr le ↦ block_at_past (blocks_of xs) i (omega (arith, length-blocks_of xs)) ∙ sym (block_at_past (blocks_of ys) i (omega (arith, length-blocks_of ys, len)))
]
  where
    sizes : i < length xs / 512 → length (take 512 (drop (512 * i) xs)) ≡ 512
    sizes lt = length-take-le 512 (drop (512 * i) xs) (simp length-drop (omega arith))

    sizes' : i < length xs / 512 → length (take 512 (drop (512 * i) ys)) ≡ 512
    sizes' lt = length-take-le 512 (drop (512 * i) ys) (simp length-drop (omega arith))

    each : i < length xs / 512 → (j : ℕ) → j < 512 → get_or (take 512 (drop (512 * i) xs)) j 0 ≡ get_or (take 512 (drop (512 * i) ys)) j 0
    each lt j below = get_or-take 512 (drop (512 * i) xs) j 0 below ∙ get_or-drop (512 * i) xs j 0 ∙ same (512 * i + j) (omega arith) ∙ sym (get_or-take 512 (drop (512 * i) ys) j 0 below ∙ get_or-drop (512 * i) ys j 0)
