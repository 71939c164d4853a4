-- Entries in bytes.
use Rattle.std.proofs.Common.{◌≡◌, ◌≢◌, ◌⊎◌, inl, inr, ℕ, ◌+◌, ◌-◌, ◌*◌, ◌/◌, ◌%◌, ◌^◌, ◌<◌, ◌≤◌, List, length, get_or, take, drop, length-drop, length-append, replicate, refl, sym, ◌∙◌, ap, arith}
use Rattle.std.proofs.lemmas.Bool.{cases_lt}
use Rattle.std.proofs.lemmas.List.{get_or-take, get_or-drop, get_or_append_left, get_or-append_right, get_or_past, get_or-replicate, length-replicate, length-take-le, append_assoc, drop_at, take_at}
use Rattle.std.proofs.lemmas.Nat.{from_be_bytes-to_be_bytes_4}
use Rattle.std.specs.Prelude.{◌++◌}
use Rattle.std.specs.Int.{w32, from_be_bytes}
use Rattle.avs_seg.specs.Image.{Block, blocks_of}
use Rattle.avs_seg.proofs.Bytes.{block_at-blocks_of}
use Rattle.avs_code.specs.Bytes.{u32_bytes, u32_at}
use Rattle.avs_code.proofs.Numbers.{u32_at-reads, length-u32_bytes}
use Rattle.avs_entries.specs.Entries.{entry_in, entry_on}

pub entry_in_is : (bytes : List ℕ) (c : ℕ) → u32_at (4 * c) bytes ≡ entry_in bytes c
unfolding entry_in
entry_in_is bytes c = refl

-- an entry is read of four bytes
same_bytes : (xs ys : List ℕ) (a b : ℕ) → get_or xs a 0 ≡ get_or ys b 0 → get_or xs (a + 1) 0 ≡ get_or ys (b + 1) 0 → get_or xs (a + 2) 0 ≡ get_or ys (b + 2) 0 → get_or xs (a + 3) 0 ≡ get_or ys (b + 3) 0 → u32_at a xs ≡ u32_at b ys
same_bytes xs ys a b e0 e1 e2 e3 = sym (u32_at-reads xs a) ∙ (rw (e0, e1, e2, e3) refl) ∙ u32_at-reads ys b

pub entry_same : (xs ys : List ℕ) (c d : ℕ) → ((j : ℕ) → j < 4 → get_or xs (4 * c + j) 0 ≡ get_or ys (4 * d + j) 0) → entry_in xs c ≡ entry_in ys d
unfolding entry_in
entry_same xs ys c d each =
    let zero : (a : ℕ) → a + 0 ≡ a = λ a. omega arith in
    same_bytes xs ys (4 * c) (4 * d) (ap (λ (k : ℕ). get_or xs k 0) (sym (zero (4 * c))) ∙ each 0 (omega arith) ∙ ap (λ (k : ℕ). get_or ys k 0) (zero (4 * d))) (each 1 (omega arith)) (each 2 (omega arith)) (each 3 (omega arith))

-- a number that was written
module _ (old new : List ℕ) (c n : ℕ) (small : n < 2 ^ 32) (inside : 4 * c + 4 ≤ length old) (is : new ≡ (take (4 * c) old ++ u32_bytes n) ++ drop (4 * c + 4) old) where
  front : length (take (4 * c) old) ≡ 4 * c
  front = length-take-le (4 * c) old (omega arith)

  middle : length (take (4 * c) old ++ u32_bytes n) ≡ 4 * c + 4
  middle = omega (arith, front, length-append (take (4 * c) old) (u32_bytes n), length-u32_bytes n)

  pub written_len : length new ≡ length old
  written_len = ap length is ∙ length-append (take (4 * c) old ++ u32_bytes n) (drop (4 * c + 4) old) ∙ omega (arith, middle, length-drop (4 * c + 4) old, inside)

  pub written_now : entry_in new c ≡ n
  unfolding entry_in u32_at u32_bytes
  written_now =
      ap (λ (l : List ℕ). from_be_bytes w32 (take 4 (drop (4 * c) l))) (is ∙ append_assoc (take (4 * c) old) (u32_bytes n) (drop (4 * c + 4) old))
      ∙ ap (λ (l : List ℕ). from_be_bytes w32 (take 4 l)) (drop_at (take (4 * c) old) (u32_bytes n ++ drop (4 * c + 4) old) (4 * c) front)
      ∙ ap (λ (l : List ℕ). from_be_bytes w32 l) (take_at (u32_bytes n) (drop (4 * c + 4) old) 4 (length-u32_bytes n))
      ∙ from_be_bytes-to_be_bytes_4 n small

  kept : (k : ℕ) → (k < 4 * c) ⊎ (4 * c + 4 ≤ k) → get_or new k 0 ≡ get_or old k 0
  kept k (inl low) =
      ap (λ (l : List ℕ). get_or l k 0) (is ∙ append_assoc (take (4 * c) old) (u32_bytes n) (drop (4 * c + 4) old))
      ∙ get_or_append_left (take (4 * c) old) (u32_bytes n ++ drop (4 * c + 4) old) 0 k (omega (arith, low, front))
      ∙ get_or-take (4 * c) old k 0 low
  kept k (inr high) =
      let e : 4 * c + 4 + (k - (4 * c + 4)) ≡ k = omega (arith, high) in
      ap (λ (l : List ℕ). get_or l k 0) is
      ∙ get_or-append_right (take (4 * c) old ++ u32_bytes n) (drop (4 * c + 4) old) (4 * c + 4) k 0 middle high
      ∙ get_or-drop (4 * c + 4) old (k - (4 * c + 4)) 0
      ∙ ap (λ (i : ℕ). get_or old i 0) e

  apart : (d j : ℕ) → d ≢ c → j < 4 → (4 * d + j < 4 * c) ⊎ (4 * c + 4 ≤ 4 * d + j)
  apart d j ne lt = elim (cases_lt d c) [
    | inl low ↦ inl (omega (arith, low, lt))
    | inr high ↦ inr (omega (arith, high, lt, ne))
  ]

  pub written_others : (d : ℕ) → d ≢ c → entry_in new d ≡ entry_in old d
  written_others d ne = entry_same new old d d (λ j lt. kept (4 * d + j) (apart d j ne lt))

-- ---- zeros

zero_back : u32_at 0 (replicate 4 0) ≡ 0
unfolding u32_at
zero_back = refl

pub entry_in-zeros : (n c : ℕ) → entry_in (replicate n 0) c ≡ 0
unfolding entry_in
entry_in-zeros n c = same_bytes (replicate n 0) (replicate 4 0) (4 * c) 0 (zeros n (4 * c)) (zeros n (4 * c + 1)) (zeros n (4 * c + 2)) (zeros n (4 * c + 3)) ∙ zero_back
  where
    zeros : (n k : ℕ) → get_or {A = ℕ} (replicate n 0) k 0 ≡ 0
    zeros n k = elim (cases_lt k n) [
      | inl inside ↦ get_or-replicate n k 0 0 inside
      | inr past ↦ get_or_past (replicate n 0) k 0 (omega (arith, length-replicate {A = ℕ} n 0, past))
    ]

pub entry_in_past : (bytes : List ℕ) (c : ℕ) → length bytes ≤ 4 * c → entry_in bytes c ≡ 0
entry_in_past bytes c past =
    entry_same bytes (replicate 4 0) c 1 (λ j lt. get_or_past bytes (4 * c + j) 0 (omega (arith, past)) ∙ sym (get_or_past (replicate 4 0) (4 * 1 + j) 0 (omega (arith, length-replicate {A = ℕ} 4 0))))
    ∙ entry_in-zeros 4 1

-- ---- blocks

-- a block of the bytes has the entries of its chunks
pub entry_of_block : (bytes : List ℕ) (at c : ℕ) → c / 128 ≡ at → entry_in (take 512 (drop (512 * at) bytes)) (c % 128) ≡ entry_in bytes c
entry_of_block bytes at c here = entry_same (take 512 (drop (512 * at) bytes)) bytes (c % 128) c (λ j lt.
    let e : 512 * at + (4 * (c % 128) + j) ≡ 4 * c + j = omega (arith, here) in
    get_or-take 512 (drop (512 * at) bytes) (4 * (c % 128) + j) 0 (omega (arith, lt)) ∙ get_or-drop (512 * at) bytes (4 * (c % 128) + j) 0 ∙ ap (λ (i : ℕ). get_or bytes i 0) e)

pub entry_on_blocks : (bytes : List ℕ) (c : ℕ) → c / 128 < length bytes / 512 → entry_on (blocks_of bytes) c ≡ entry_in bytes c
unfolding entry_on
entry_on_blocks bytes c inside = ap (λ (b : Block). entry_in b (c % 128)) (block_at-blocks_of bytes (c / 128) inside) ∙ entry_of_block bytes (c / 128) c refl
