-- Numbers in bytes: what is written is read back, and what is read is written back.
use Rattle.std.proofs.Common.{◌≡◌, ℕ, ◌+◌, ◌-◌, ◌<◌, ◌≤◌, ◌^◌, true, List, [], ◌∷◌, ◌++◌, length, get_or, take, drop, replicate, refl, sym, ap, ◌∙◌, lit<, zero, suc, ⊎_elim, arith}
use Rattle.std.proofs.lemmas.List.{length-take-le, length-drop, length-append, length-replicate, get_or-take, get_or-drop, get_or_past, take_at, drop_at, drop-drop, drop-replicate, drop_all, take-append-drop, take_rest, take_more, append_assoc, append-nil}
use borrow.Rule.Slice.PartMut.{put_mid}
use Rattle.std.proofs.Math.Seq.{take-add}
use Rattle.std.proofs.lemmas.Bool.{cases_lt}
use Rattle.std.proofs.lemmas.Bool.Decides.{Decides-and, Decides-eqb}
use Rattle.std.specs.Prelude.{◌==◌, nat_eq}
use Rattle.std.proofs.lemmas.Nat.{be_bytes_2, be_bytes_4, be_bytes_8}
use Rattle.std.specs.List.{starts_with}
use Rattle.std.proofs.lemmas.Slice.Eq.{slice_eq-Decides}
use Rattle.std.specs.Int.{w16, w32, w64, from_be_bytes}
use Rattle.avs_code.specs.Bytes.{zeros, all_zero, u16_bytes, u32_bytes, u64_bytes, u16_at, u32_at, u64_at}

-- a part of some bytes is bytes
pub part_bytes : (xs : List ℕ) (at n : ℕ) → ((i : ℕ) → get_or xs i 0 < 256) → (i : ℕ) → get_or (take n (drop at xs)) i 0 < 256
part_bytes xs at n bytes i = ⊎_elim
    (λ inside. let byte = bytes (at + i) in rw (get_or-take n (drop at xs) i 0 inside, get_or-drop at xs i 0) byte)
    (λ past. rw (get_or_past (take n (drop at xs)) i 0 (omega (arith, Rattle.std.proofs.lemmas.List.length-take n (drop at xs)))) (omega arith))
    (cases_lt i n)

pub length_part : (xs : List ℕ) (at n : ℕ) → at + n ≤ length xs → length (take n (drop at xs)) ≡ n
length_part xs at n within = length-take-le n (drop at xs) (omega (arith, length-drop at xs))

-- the bytes of the number that was read
pub u16_bytes-u16_at : (xs : List ℕ) (at : ℕ) → at + 2 ≤ length xs → ((i : ℕ) → get_or xs i 0 < 256) → u16_bytes (u16_at at xs) ≡ take 2 (drop at xs)
unfolding u16_bytes u16_at
u16_bytes-u16_at xs at within bytes = be_bytes_2 (take 2 (drop at xs)) _ (length_part xs at 2 within) (part_bytes xs at 2 bytes) refl

pub u32_bytes-u32_at : (xs : List ℕ) (at : ℕ) → at + 4 ≤ length xs → ((i : ℕ) → get_or xs i 0 < 256) → u32_bytes (u32_at at xs) ≡ take 4 (drop at xs)
unfolding u32_bytes u32_at
u32_bytes-u32_at xs at within bytes = be_bytes_4 (take 4 (drop at xs)) _ (length_part xs at 4 within) (part_bytes xs at 4 bytes) refl

pub u64_bytes-u64_at : (xs : List ℕ) (at : ℕ) → at + 8 ≤ length xs → ((i : ℕ) → get_or xs i 0 < 256) → u64_bytes (u64_at at xs) ≡ take 8 (drop at xs)
unfolding u64_bytes u64_at
u64_bytes-u64_at xs at within bytes = be_bytes_8 (take 8 (drop at xs)) _ (length_part xs at 8 within) (part_bytes xs at 8 bytes) refl

pub length-u16_bytes : (n : ℕ) → length (u16_bytes n) ≡ 2
unfolding u16_bytes
length-u16_bytes n = refl

pub length-u32_bytes : (n : ℕ) → length (u32_bytes n) ≡ 4
unfolding u32_bytes
length-u32_bytes n = refl

pub length-u64_bytes : (n : ℕ) → length (u64_bytes n) ≡ 8
unfolding u64_bytes
length-u64_bytes n = refl

pub length-zeros : (n : ℕ) → length (zeros n) ≡ n
unfolding zeros
length-zeros n = length-replicate n 0

-- byte i of a part
part_at : (xs : List ℕ) (at n i k : ℕ) → i < n → k ≡ at + i → get_or (take n (drop at xs)) i 0 ≡ get_or xs k 0
part_at xs at n i k inside place = rw (get_or-take n (drop at xs) i 0 inside, get_or-drop at xs i 0, place) refl

-- what is read of the bytes that stand one after another
pub u16_at-reads : (xs : List ℕ) (at : ℕ) → from_be_bytes w16 (get_or xs at 0 ∷ get_or xs (at + 1) 0 ∷ []) ≡ u16_at at xs
unfolding u16_at
u16_at-reads xs at =
    let byte = λ (i k : ℕ) (inside : i < 2) (place : k ≡ at + i). part_at xs at 2 i k inside place in
    rw (byte 0 at (lit< tt) (omega arith), byte 1 (at + 1) (lit< tt) refl) refl

pub u32_at-reads : (xs : List ℕ) (at : ℕ) → from_be_bytes w32 (get_or xs at 0 ∷ get_or xs (at + 1) 0 ∷ get_or xs (at + 2) 0 ∷ get_or xs (at + 3) 0 ∷ []) ≡ u32_at at xs
unfolding u32_at
u32_at-reads xs at =
    let byte = λ (i k : ℕ) (inside : i < 4) (place : k ≡ at + i). part_at xs at 4 i k inside place in
    rw (byte 0 at (lit< tt) (omega arith), byte 1 (at + 1) (lit< tt) refl, byte 2 (at + 2) (lit< tt) refl, byte 3 (at + 3) (lit< tt) refl) refl

pub u64_at-reads : (xs : List ℕ) (at : ℕ) → from_be_bytes w64 (get_or xs at 0 ∷ get_or xs (at + 1) 0 ∷ get_or xs (at + 2) 0 ∷ get_or xs (at + 3) 0 ∷ get_or xs (at + 4) 0 ∷ get_or xs (at + 5) 0 ∷ get_or xs (at + 6) 0 ∷ get_or xs (at + 7) 0 ∷ []) ≡ u64_at at xs
unfolding u64_at
u64_at-reads xs at =
    let byte = λ (i k : ℕ) (inside : i < 8) (place : k ≡ at + i). part_at xs at 8 i k inside place in
    rw (byte 0 at (lit< tt) (omega arith), byte 1 (at + 1) (lit< tt) refl, byte 2 (at + 2) (lit< tt) refl, byte 3 (at + 3) (lit< tt) refl, byte 4 (at + 4) (lit< tt) refl, byte 5 (at + 5) (lit< tt) refl, byte 6 (at + 6) (lit< tt) refl, byte 7 (at + 7) (lit< tt) refl) refl

-- bytes that begin as xs does, and the next number of xs
pub front-u16 : (front xs : List ℕ) (at : ℕ) → front ≡ take at xs → at + 2 ≤ length xs → ((i : ℕ) → get_or xs i 0 < 256) → front ++ u16_bytes (u16_at at xs) ≡ take (at + 2) xs
front-u16 front xs at same within bytes = rw (same, u16_bytes-u16_at xs at within bytes) (sym (take-add at 2 xs))

pub front-u32 : (front xs : List ℕ) (at : ℕ) → front ≡ take at xs → at + 4 ≤ length xs → ((i : ℕ) → get_or xs i 0 < 256) → front ++ u32_bytes (u32_at at xs) ≡ take (at + 4) xs
front-u32 front xs at same within bytes = rw (same, u32_bytes-u32_at xs at within bytes) (sym (take-add at 4 xs))

pub front-u64 : (front xs : List ℕ) (at : ℕ) → front ≡ take at xs → at + 8 ≤ length xs → ((i : ℕ) → get_or xs i 0 < 256) → front ++ u64_bytes (u64_at at xs) ≡ take (at + 8) xs
front-u64 front xs at same within bytes = rw (same, u64_bytes-u64_at xs at within bytes) (sym (take-add at 8 xs))

-- zeros, by the test
pub zeros-all_zero : (xs : List ℕ) → all_zero xs ≡ true → xs ≡ zeros (length xs)
unfolding zeros
zeros-all_zero [] all = refl
zeros-all_zero (x ∷ xs) all =
    let both = (Decides-and (x == 0) (all_zero xs) (Decides-eqb x 0) (λ e. e, λ e. e)).0 all in
    let rest : xs ≡ replicate (length xs) 0 = zeros-all_zero xs both.1 in
    let first : x ≡ 0 = both.0 in
    cc

pub all_zero-zeros : (n : ℕ) → all_zero (zeros n) ≡ true
unfolding zeros
all_zero-zeros zero = refl
all_zero-zeros (suc n) = all_zero-zeros n

-- bytes that begin as xs does, and the zeros that xs ends in
pub front-zeros : (front xs : List ℕ) (at n : ℕ) → front ≡ take at xs → all_zero (drop at xs) ≡ true → length xs ≡ at + n → front ++ zeros n ≡ xs
front-zeros front xs at n same all len =
    let rest : length (drop at xs) ≡ n = omega (arith, length-drop at xs) in
    let tail : zeros n ≡ drop at xs = rw (← rest) (sym (zeros-all_zero (drop at xs) all)) in
    rw (same, tail) (take-append-drop at xs)

-- bytes that begin as xs does, and n zeros that xs goes on with
pub front-gap : (front xs : List ℕ) (at n : ℕ) → front ≡ take at xs → at + n ≤ length xs → all_zero (take n (drop at xs)) ≡ true → front ++ zeros n ≡ take (at + n) xs
front-gap front xs at n same within all =
    let gap : zeros n ≡ take n (drop at xs) = ap zeros (sym (length_part xs at n within)) ∙ sym (zeros-all_zero (take n (drop at xs)) all) in
    rw (same, gap) (sym (take-add at n xs))

-- bytes that begin as xs does, and one byte more
pub front-byte : (front xs : List ℕ) (at : ℕ) → front ≡ take at xs → at < length xs → front ++ get_or xs at 0 ∷ [] ≡ take (at + 1) xs
front-byte front xs at same below = rw same (sym (take_more xs at 0 below))

-- the same place in other words
pub front_at : (front xs : List ℕ) (m n : ℕ) → m ≡ n → front ≡ take m xs → front ≡ take n xs
front_at front xs m n same is = is ∙ ap (λ (k : ℕ). take k xs) same

-- bytes that have been written so far, up to a place, with n zeros behind
pub record Begins (out front : List ℕ) (at n : ℕ) : Type 0 where
  pub bytes : out ≡ front ++ zeros n
  pub place : length front ≡ at

-- k bytes more
pub written : {out front : List ℕ} (new more : List ℕ) (at k n : ℕ) → Begins out front at (k + n) → length more ≡ k → new ≡ (take at out ++ more) ++ drop (at + k) out → Begins new (front ++ more) (at + k) n
unfolding zeros
written {out = out} {front = front} new more at k n begins size is =
    let head : take at out ≡ front = rw begins.bytes (take_at front (replicate (k + n) 0) at begins.place) in
    let behind : drop at out ≡ replicate (k + n) 0 = rw begins.bytes (drop_at front (replicate (k + n) 0) at begins.place) in
    let tail : drop (at + k) out ≡ replicate n 0 =
    sym (drop-drop k at out) ∙ ap (drop k) behind ∙ drop-replicate k (k + n) 0 ∙ ap (λ (m : ℕ). replicate m 0) (omega arith) in
    record { bytes = rw (is, head, tail) refl; place = omega (arith, length-append front more) }

-- a slice after the first k of its bytes from at on were written
pub written_part : (xs ys more : List ℕ) (at k : ℕ) → ys ≡ more ++ drop k (take (length xs - at) (drop at xs)) → put_mid at (length xs - at) xs ys ≡ (take at xs ++ more) ++ drop (at + k) xs
written_part xs ys more at k is =
    let none : drop (length xs - at) (drop at xs) ≡ [] = drop_all (length xs - at) (drop at xs) (omega (arith, length-drop at xs)) in
    let all : take (length xs - at) (drop at xs) ≡ drop at xs = take_rest xs at in
    rw (is, none, all, drop-drop k at xs, append-nil (more ++ drop (at + k) xs)) (sym (append_assoc (take at xs) more (drop (at + k) xs)))

-- what lies in bytes fits its width
pub u16_at-fits : (xs : List ℕ) (at : ℕ) → ((i : ℕ) → get_or xs i 0 < 256) → u16_at at xs < 2 ^ 16
unfolding u16_at
u16_at-fits xs at bytes =
    let b = part_bytes xs at 2 bytes in
    omega (arith, b 0, b 1)

pub u32_at-fits : (xs : List ℕ) (at : ℕ) → ((i : ℕ) → get_or xs i 0 < 256) → u32_at at xs < 2 ^ 32
unfolding u32_at
u32_at-fits xs at bytes =
    let b = part_bytes xs at 4 bytes in
    omega (arith, b 0, b 1, b 2, b 3)

pub u64_at-fits : (xs : List ℕ) (at : ℕ) → ((i : ℕ) → get_or xs i 0 < 256) → u64_at at xs < 2 ^ 64
unfolding u64_at
u64_at-fits xs at bytes =
    let b = part_bytes xs at 8 bytes in
    omega (arith, b 0, b 1, b 2, b 3, b 4, b 5, b 6, b 7)

-- the bytes that a block begins with, by the test
pub front-magic : (xs magic : List ℕ) → starts_with nat_eq xs magic ≡ true → magic ≡ take (length magic) xs
front-magic xs magic holds = (slice_eq-Decides Decides-eqb magic (take (length magic) xs) (starts_with nat_eq xs magic) refl).0 holds
