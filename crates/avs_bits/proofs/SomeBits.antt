-- One bit of a list of bytes, and a change of bits in parts.
use Rattle.std.proofs.Common.{◌≡◌, ◌≢◌, ◌⊎◌, inl, inr, subst, ℕ, ◌+◌, ◌-◌, ◌*◌, ◌/◌, ◌%◌, ◌^◌, ◌<◌, ◌≤◌, max, Bool, true, false, eqb, List, [], ◌∷◌, length, get_or, set, take, drop, replicate, ◌++◌, length-append, ap, sym, refl, ◌∙◌, arith, w8, bit_and, bit_or}
use Rattle.std.specs.Int.{bit_at}
use Rattle.std.proofs.lemmas.Bool.{cases_eq, cases_lt}
use Rattle.std.proofs.lemmas.Nat.Bits.{bit_at_set_same, bit_at_set_other, bit_at_clear_same, bit_at_clear_other, shr_and_one, bit_at-zero}
use Rattle.std.proofs.lemmas.List.{get_or-set_other, get_or-take, get_or-drop, length-take-le, length-drop, take_all, take-append-le, get_or-append_right, get_or-replicate, get_or_past, length-replicate}
use Rattle.std.proofs.lemmas.Grind.{get_or-set_at}
use Rattle.avs_seg.specs.Image.{Image, Block, block_at, put, range, blocks_of, IsMix}
use Rattle.std.specs.List.{between}
use Rattle.avs_seg.proofs.Bytes.{blocks_of_one, block_at-blocks_of, length-blocks_of}
use Rattle.avs_seg.proofs.Blocks.{same_place}
use Rattle.avs_seg.proofs.Ranges.{block_at-range, range-put}
use Rattle.avs_seg.proofs.Mixes.{mix_one}
use Rattle.avs_seg.proofs.Puts.{put_one, put_outside}
use Rattle.avs_bits.specs.Bit.{bit_of, disk_bit, IsPut, IsHeld}
use Rattle.avs_bits.specs.BitSet.{place, IsOnDisk}

pub tested : (bytes : List ℕ) (p : ℕ) → eqb (bit_and (get_or bytes (p / 8) 0 / 2 ^ (p % 8)) 1) 1 ≡ bit_of bytes p
unfolding bit_of
tested bytes p = ap (λ (k : ℕ). eqb k 1) (shr_and_one (get_or bytes (p / 8) 0) (p % 8))

pub bit_of-zero_byte : (bytes : List ℕ) (p q : ℕ) → get_or bytes (p / 8) 0 ≡ 0 → q / 8 ≡ p / 8 → bit_of bytes q ≡ false
unfolding bit_of
bit_of-zero_byte bytes p q zero same =
    ap (λ (j : ℕ). eqb (bit_at (get_or bytes j 0) (q % 8)) 1) same
    ∙ ap (λ (b : ℕ). eqb (bit_at b (q % 8)) 1) zero
    ∙ ap (λ (k : ℕ). eqb k 1) (bit_at-zero (q % 8))

-- a byte is changed, and of it one bit
module _ (bytes : List ℕ) (place byte : ℕ) (inside : place / 8 < length bytes) where
  abbrev changed : List ℕ
  changed = set bytes (place / 8) byte

  there : bit_of changed place ≡ eqb (bit_at byte (place % 8)) 1
  unfolding bit_of
  there = ap (λ (b : ℕ). eqb (bit_at b (place % 8)) 1) (get_or-set_at bytes (place / 8) (place / 8) byte 0 refl inside)

  elsewhere : ((k : ℕ) → k < 8 → k ≢ place % 8 → bit_at byte k ≡ bit_at (get_or bytes (place / 8) 0) k) → (p : ℕ) → p ≢ place → bit_of changed p ≡ bit_of bytes p
  unfolding bit_of
  elsewhere same p other = elim (cases_eq (p / 8) (place / 8)) [
    | inl here ↦
        ap (λ (b : ℕ). eqb (bit_at b (p % 8)) 1) (get_or-set_at bytes (place / 8) (p / 8) byte 0 here inside)
        ∙ ap (λ (k : ℕ). eqb k 1) (same (p % 8) (omega arith) (omega arith))
        ∙ ap (λ (j : ℕ). eqb (bit_at (get_or bytes j 0) (p % 8)) 1) (sym here)
    | inr apart ↦ ap (λ (b : ℕ). eqb (bit_at b (p % 8)) 1) (get_or-set_other bytes (place / 8) (p / 8) byte 0 apart)
  ]

  one : (on : Bool) → eqb (bit_at byte (place % 8)) 1 ≡ on → ((k : ℕ) → k < 8 → k ≢ place % 8 → bit_at byte k ≡ bit_at (get_or bytes (place / 8) 0) k) → IsPut (bit_of bytes) (bit_of changed) place (place + 1) on
  one on is same = record {
    inside = λ p low high.
        let here : p ≡ place = omega arith in
        ap (λ (k : ℕ). bit_of changed k) here ∙ there ∙ is;
    outside = λ p out. elsewhere same p (elim out [ inl low ↦ (λ is. omega arith) | inr high ↦ (λ is. omega arith) ]);
  }

pub put_true : (bytes : List ℕ) (place : ℕ) → place / 8 < length bytes → IsPut (bit_of bytes) (bit_of (set bytes (place / 8) (bit_or (get_or bytes (place / 8) 0) (1 * 2 ^ (place % 8) % 256)))) place (place + 1) true
put_true bytes place inside =
    one bytes place (bit_or (get_or bytes (place / 8) 0) (1 * 2 ^ (place % 8) % 256)) inside true
    (ap (λ (k : ℕ). eqb k 1) (bit_at_set_same w8 (get_or bytes (place / 8) 0) (place % 8) (omega arith)))
    (λ k lt other. bit_at_set_other w8 (get_or bytes (place / 8) 0) (place % 8) (omega arith) k other)

pub put_false : (bytes : List ℕ) (place : ℕ) → place / 8 < length bytes → IsPut (bit_of bytes) (bit_of (set bytes (place / 8) (bit_and (get_or bytes (place / 8) 0) (255 - 1 * 2 ^ (place % 8) % 256)))) place (place + 1) false
put_false bytes place inside =
    one bytes place (bit_and (get_or bytes (place / 8) 0) (255 - 1 * 2 ^ (place % 8) % 256)) inside false
    (ap (λ (k : ℕ). eqb k 1) (bit_at_clear_same w8 (get_or bytes (place / 8) 0) (place % 8) (omega arith)))
    (λ k lt other. bit_at_clear_other w8 (get_or bytes (place / 8) 0) (place % 8) (omega arith) k lt other)

-- ---- changes one after another

pub put_none : (old : ℕ → Bool) (first end : ℕ) (on : Bool) → end ≤ first → IsPut old old first end on
put_none old first end on none = record { inside = λ p low high. absurd (omega arith); outside = λ p out. refl }

pub put_then : (old mid new : ℕ → Bool) (first end low high : ℕ) (on : Bool) → low ≤ max first end → first ≤ low → end ≤ high → IsPut old mid first end on → IsPut mid new low high on → IsPut old new first high on
put_then old mid new first end low high on meets above wider a b = record {
  inside = λ p from to. elim (cases_lt p low) [
    | inl below ↦ b.outside p (inl below) ∙ a.inside p from (omega arith)
    | inr not_below ↦ b.inside p (omega arith) to
  ];
  outside = λ p out. elim out [
    | inl below ↦ b.outside p (inl (omega arith)) ∙ a.outside p (inl below)
    | inr over ↦ b.outside p (inr over) ∙ a.outside p (inr (omega arith))
  ];
}

-- a bit that is so already
pub put_same : (old : ℕ → Bool) (first end : ℕ) (on : Bool) → ((p : ℕ) → first ≤ p → p < end → old p ≡ on) → IsPut old old first end on
put_same old first end on is = record { inside = is; outside = λ p out. refl }

-- ---- a block of bytes on a disk

pub bit_of-block : (bytes : List ℕ) (block p : ℕ) → p / 4096 ≡ block → bit_of (take 512 (drop (512 * block) bytes)) (p % 4096) ≡ bit_of bytes p
unfolding bit_of
bit_of-block bytes block p here =
    let j : 512 * block + p % 4096 / 8 ≡ p / 8 = omega arith in
    let k : p % 4096 % 8 ≡ p % 8 = omega arith in
    ap (λ (b : ℕ). eqb (bit_at b (p % 4096 % 8)) 1) (get_or-take 512 (drop (512 * block) bytes) (p % 4096 / 8) 0 (omega arith) ∙ get_or-drop (512 * block) bytes (p % 4096 / 8) 0 ∙ ap (λ (i : ℕ). get_or bytes i 0) j)
    ∙ ap (λ (i : ℕ). eqb (bit_at (get_or bytes (p / 8) 0) i) 1) k

pub held_put : (img : Image) (n block from to : ℕ) (old new : List ℕ) (on : Bool) (bs : Image) → bs ≡ take 512 (drop (512 * block) new) ∷ [] → block < length img → 4096 * block ≤ from → to ≤ 4096 * (block + 1) → IsPut (bit_of old) (bit_of new) from to on → IsHeld img n (bit_of old) → IsHeld (put img block bs) n (bit_of new)
unfolding disk_bit
held_put img n block from to old new on bs is inside low high change held = record {
  each = λ p behind below. elim (cases_eq (p / 4096) block) [
    | inl here ↦
        ap (λ (l : Image). bit_of (block_at (put img block l) (p / 4096)) (p % 4096)) is
        ∙ ap (λ (b : Block). bit_of b (p % 4096)) (put_one img block (take 512 (drop (512 * block) new)) (p / 4096) here inside)
        ∙ bit_of-block new block p here
    | inr apart ↦
        ap (λ (l : Image). bit_of (block_at (put img block l) (p / 4096)) (p % 4096)) is
        ∙ ap (λ (b : Block). bit_of b (p % 4096)) (put_outside img block (take 512 (drop (512 * block) new) ∷ []) (p / 4096) (elim (cases_lt (p / 4096) block) [ inl less ↦ inl less | inr not_less ↦ inr (let more : block + 1 ≤ p / 4096 = omega (arith, apart) in more) ]))
        ∙ held.each p behind below
        ∙ sym (change.outside p (elim (cases_lt (p / 4096) block) [ inl less ↦ inl (omega arith) | inr not_less ↦ inr (omega (arith, apart)) ]))
  ];
}

length_block : (bytes : List ℕ) (m : ℕ) → m + 512 ≤ length bytes → length (take 512 (drop m bytes)) ≡ 512
length_block bytes m fits = length-take-le 512 (drop m bytes) (omega (arith, length-drop m bytes))

-- the bits of one block are written to a disk that held the bits before
module _ (img : Image) (n block from to : ℕ) (old new part : List ℕ) (on : Bool) (a e : ℕ) (start : a ≡ 512 * block) (end : e ≡ 512 * block + 512) (there : 512 * (block + 1) ≤ length new) (is : part ≡ between a e new)
    (inside : block < length img) (low : 4096 * block ≤ from) (high : to ≤ 4096 * (block + 1)) (change : IsPut (bit_of old) (bit_of new) from to on) (held : IsHeld img n (bit_of old)) where
  part_is : blocks_of part ≡ take 512 (drop (512 * block) new) ∷ []
  part_is =
      ap blocks_of is
      ∙ ap (λ (i : ℕ). blocks_of (between i e new)) start
      ∙ ap (λ (i : ℕ). blocks_of (take i (drop (512 * block) new))) (let k : e - 512 * block ≡ 512 = omega (arith, end) in k)
      ∙ blocks_of_one (take 512 (drop (512 * block) new)) (length_block new (512 * block) (omega (arith, there)))

  pub write_done : (after : Image) → after ≡ put img block (blocks_of part) → IsHeld after n (bit_of new)
  write_done after done = subst (λ (l : Image). IsHeld l n (bit_of new)) (sym done) (held_put img n block from to old new on (blocks_of part) part_is inside low high change held)

  pub write_torn : (after : Image) → IsMix img block (blocks_of part) after → IsHeld after n (bit_of old) ⊎ IsHeld after n (bit_of new)
  write_torn after torn = elim (mix_one img after block (take 512 (drop (512 * block) new)) inside (subst (λ (l : Image). IsMix img block l after) part_is torn)) [
    | inl kept ↦ inl (subst (λ (l : Image). IsHeld l n (bit_of old)) (sym kept) held)
    | inr written ↦ inr (subst (λ (l : Image). IsHeld l n (bit_of new)) (sym written) (held_put img n block from to old new on (take 512 (drop (512 * block) new) ∷ []) refl inside low high change held))
  ]

-- ---- the label before the bits

pub first_block : (block rest : List ℕ) → length block ≡ 512 → block_at (blocks_of (block ++ rest)) 0 ≡ block
first_block block rest long =
    block_at-blocks_of (block ++ rest) 0 (omega (arith, length-append block rest, long))
    ∙ take-append-le 512 block rest (omega (arith, long))
    ∙ take_all 512 block (omega (arith, long))

pub bit_of-behind : (block bytes : List ℕ) (p : ℕ) → length block ≡ 512 → 4096 ≤ p → bit_of (block ++ drop 512 bytes) p ≡ bit_of bytes p
unfolding bit_of
bit_of-behind block bytes p long behind =
    let same : 512 + (p / 8 - 512) ≡ p / 8 = omega arith in
    ap (λ (b : ℕ). eqb (bit_at b (p % 8)) 1)
    (get_or-append_right block (drop 512 bytes) 512 (p / 8) 0 long (omega arith)
    ∙ get_or-drop 512 bytes (p / 8 - 512) 0
    ∙ ap (λ (i : ℕ). get_or bytes i 0) same)

get_or_zeros : (n i : ℕ) → get_or {A = ℕ} (replicate n 0) i 0 ≡ 0
get_or_zeros n i = elim (cases_lt i n) [
  | inl inside ↦ get_or-replicate n i 0 0 inside
  | inr past ↦ get_or_past (replicate n 0) i 0 (omega (arith, length-replicate {A = ℕ} n 0, past))
]

pub bit_of-zeros : (n p : ℕ) → bit_of (replicate n 0) p ≡ false
unfolding bit_of
bit_of-zeros n p =
    ap (λ (b : ℕ). eqb (bit_at b (p % 8)) 1) (get_or_zeros n (p / 8)) ∙ ap (λ (k : ℕ). eqb k 1) (bit_at-zero (p % 8))

pub bit_of_past : (bytes : List ℕ) (p : ℕ) → 8 * length bytes ≤ p → bit_of bytes p ≡ false
unfolding bit_of
bit_of_past bytes p past =
    ap (λ (b : ℕ). eqb (bit_at b (p % 8)) 1) (get_or_past bytes (p / 8) 0 (omega arith)) ∙ ap (λ (k : ℕ). eqb k 1) (bit_at-zero (p % 8))

-- ---- the first blocks of a disk

module _ (img : Image) (bytes : List ℕ) (shown : blocks_of bytes ≡ range img 0 (length bytes / 512)) where
  there_is : (i : ℕ) → i < length bytes / 512 → block_at img i ≡ take 512 (drop (512 * i) bytes)
  there_is i inside = same_place img i (0 + i) (omega arith) ∙ sym (block_at-range img 0 (length bytes / 512) i inside) ∙ ap (λ (l : Image). block_at l i) (sym shown) ∙ block_at-blocks_of bytes i inside

  pub first_shown : 512 ≤ length bytes → block_at img 0 ≡ take 512 bytes
  first_shown some = there_is 0 (omega arith)

  pub held_shown : (n : ℕ) → 512 * (length bytes / 512) ≡ length bytes → n ≤ 8 * length bytes → IsHeld img n (bit_of bytes)
  unfolding disk_bit
  held_shown n whole inside = record {
    each = λ p behind below. ap (λ (b : Block). bit_of b (p % 4096)) (there_is (p / 4096) (omega arith)) ∙ bit_of-block bytes (p / 4096) p refl;
  }

  pub first_is : 512 ≤ length bytes → block_at img 0 ≡ block_at (blocks_of bytes) 0
  first_is some = there_is 0 (omega arith) ∙ sym (block_at-blocks_of bytes 0 (omega arith))

-- bytes that were written from block 0 on
pub range-written : (img new : Image) (bytes part : List ℕ) → length bytes / 512 ≤ length img → part ≡ bytes → new ≡ put img 0 (blocks_of part) → blocks_of bytes ≡ range new 0 (length bytes / 512)
range-written img new bytes part fits same is =
    sym (range-put img 0 (blocks_of bytes) (omega (arith, length-blocks_of bytes, fits)))
    ∙ ap (λ (k : ℕ). range (put img 0 (blocks_of bytes)) 0 k) (length-blocks_of bytes)
    ∙ ap (λ (l : List ℕ). range (put img 0 (blocks_of l)) 0 (length bytes / 512)) (sym same)
    ∙ ap (λ (l : Image). range l 0 (length bytes / 512)) (sym is)

-- ---- bits of segments

pub segs_put : (old new : ℕ → Bool) (first end to : ℕ) (on : Bool) → to ≡ place end → IsPut old new (place first) to on → IsPut (λ s. old (place s)) (λ s. new (place s)) first end on
segs_put old new first end to on is put = record {
  inside = λ s low high. put.inside (place s) (omega arith) (omega arith);
  outside = λ s out. put.outside (place s) (elim out [ inl low ↦ inl (omega arith) | inr high ↦ inr (omega arith) ]);
}

pub place_apart : (s first end : ℕ) → (s < first) ⊎ (end ≤ s) → (place s < place first) ⊎ (place end ≤ place s)
place_apart s first end apart = elim apart [ inl low ↦ inl (omega arith) | inr high ↦ inr (omega arith) ]

pub segs_on : (bits : ℕ → Bool) (first end : ℕ) (on : Bool) → ((s : ℕ) → first ≤ s → s < end → bits (place s) ≡ on) → (p : ℕ) → place first ≤ p → p < place end → bits p ≡ on
segs_on bits first end on all p low high =
    let same : place (p - 4096) ≡ p = omega arith in
    subst (λ (q : ℕ). bits q ≡ on) same (all (p - 4096) (omega arith) (omega arith))

pub on_disk : (img : Image) (segs : ℕ) (bytes : List ℕ) → IsHeld img (place segs) (bit_of bytes) → IsOnDisk img segs (λ s. bit_of bytes (place s))
on_disk img segs bytes held = record { each = λ s below. held.each (place s) (omega arith) (omega arith) }

pub held_by : (img : Image) (segs : ℕ) (bytes : List ℕ) → IsOnDisk img segs (λ s. bit_of bytes (place s)) → IsHeld img (place segs) (bit_of bytes)
held_by img segs bytes on = record {
  each = λ p behind below.
      let same : place (p - 4096) ≡ p = omega arith in
      subst (λ (q : ℕ). disk_bit img q ≡ bit_of bytes q) same (on.each (p - 4096) (omega arith));
}
