-- The label and the areas of a bitmap, written and read.
use Rattle.std.proofs.Common.{◌≡◌, ◌⊎◌, inl, inr, ℕ, suc, ◌+◌, ◌-◌, ◌*◌, ◌/◌, ◌<◌, ◌≤◌, Bool, cond, List, [], ◌∷◌, length, replicate, Result, Ok, Err, refl, sym, ◌∙◌, ap, subst, arith}
use Rattle.avs_seg.specs.Image.{Image, block_at, range, put, blocks_of, blank, zero_block, IsMix, ChangesWithin}
use Rattle.avs_seg.specs.Segment.{seg_count}
use Rattle.avs_seg.proofs.Blocks.{same_images, length-blank, block_at-blank, same_place}
use Rattle.avs_seg.proofs.Bytes.{blocks_of_one, blocks_of_zeros}
use Rattle.avs_seg.proofs.Puts.{put_none, put_inside}
use Rattle.avs_seg.proofs.Ranges.{length-range, block_at-range, range_all, put_more}
use Rattle.avs_seg.proofs.Mixes.{mix_more}
use Rattle.avs_dev.specs.Seen.{Seen, IsTold, Writes, Lasts, IsSpared}
use Rattle.avs_dev.specs.Devices.{raised}
use Rattle.avs_dev.specs.Memory.{counted}
use Rattle.avs_flip.specs.Areas.{live, live_from}
use Rattle.avs_code.specs.Label.{IsLabel}
use Rattle.avs_entries.specs.Entries.{entry_in, entry_on, area_len, blocks_for}
use Rattle.avs_entries.specs.Bitmap.{compact_label, Formats, HasArea, IsLabelFirst, areas_on, formatted}
use Rattle.avs_entries.specs.Slots.{IsClean}
use Rattle.avs_entries.proofs.EntryBytes.{entry_on_blocks, entry_in-zeros}
use Rattle.avs_entries.proofs.Counted.{raised-some, raised-then, raised_most}
use Rattle.avs_dev.proofs.Going.{lasts_same, lasts_then, spared_same, spared_then, fails_then}

-- ---- blocks that are read

pub read_block : (img : Image) (out : List ℕ) → length out ≡ 512 → blocks_of out ≡ range img 0 (length out / 512) → block_at img 0 ≡ out
read_block img out one shown =
    sym (block_at-range img 0 (length out / 512) 0 (omega (arith, one)))
    ∙ ap (λ (l : Image). block_at l 0) (sym shown ∙ blocks_of_one out one)

-- the first block of the live area
pub first_of : (d : Seen) (blocks : ℕ) (live_b : Bool) → cond live_b (1 + area_len (seg_count blocks)) 1 ≡ live_from (areas_on d blocks live_b)
first_of d blocks live_b = refl

pub HasArea-read : (d : Seen) (blocks from : ℕ) (live_b : Bool) (out : List ℕ) → from ≡ live_from (areas_on d blocks live_b) → length out ≡ 512 * area_len (seg_count blocks) → blocks_of out ≡ range d.image from (length out / 512) → HasArea (live (areas_on d blocks live_b)) (seg_count blocks) out
unfolding live
HasArea-read d blocks from live_b out is long shown =
    let count : length out / 512 ≡ area_len (seg_count blocks) = omega (arith, long) in
    let area : blocks_of out ≡ range d.image (live_from (areas_on d blocks live_b)) (area_len (seg_count blocks)) = shown ∙ ap (λ (n : ℕ). range d.image from n) count ∙ ap (λ (n : ℕ). range d.image n (area_len (seg_count blocks))) is in
    record { each = λ c lt. sym (entry_on_blocks out c (omega (arith, lt, count))) ∙ ap (λ (l : Image). entry_on l c) area }

-- ---- blocks that are written

pub length-formatted : (blocks : ℕ) → length (formatted blocks) ≡ blocks_for (seg_count blocks)
length-formatted blocks =
    let e : suc (2 * area_len (seg_count blocks)) ≡ 1 + 2 * area_len (seg_count blocks) = omega arith in
    ap suc (length-blank (2 * area_len (seg_count blocks))) ∙ e

pub zeros_at : (blocks i : ℕ) → i < 2 * area_len (seg_count blocks) → block_at (formatted blocks) (1 + i) ≡ zero_block
zeros_at blocks i lt =
    let e : 1 + i ≡ suc i = omega arith in
    ap (λ (k : ℕ). block_at (formatted blocks) k) e ∙ block_at-blank (2 * area_len (seg_count blocks)) i lt

label_part : (blocks : ℕ) (block : List ℕ) → length block ≡ 512 → IsLabel block (compact_label blocks) → blocks_of block ≡ range (formatted blocks) 0 1
label_part blocks block one is =
    blocks_of_one block one
    ∙ same_images (block ∷ []) (range (formatted blocks) 0 1) (sym (length-range (formatted blocks) 0 1)) (λ i lt.
    let zero : i ≡ 0 = omega arith in
    ap (λ (k : ℕ). block_at (block ∷ []) k) zero
    ∙ is.spelled
    ∙ sym (block_at-range (formatted blocks) 0 1 0 (omega arith))
    ∙ ap (λ (k : ℕ). block_at (range (formatted blocks) 0 1) k) (sym zero))

zeros_part : (blocks from : ℕ) (memory : List ℕ) → memory ≡ replicate (512 * area_len (seg_count blocks)) 0 → (from ≡ 0) ⊎ (from ≡ area_len (seg_count blocks)) → blocks_of memory ≡ range (formatted blocks) (1 + from) (area_len (seg_count blocks))
zeros_part blocks from memory is where_from =
    ap blocks_of is
    ∙ blocks_of_zeros (512 * area_len (seg_count blocks)) (area_len (seg_count blocks)) refl
    ∙ same_images (blank (area_len (seg_count blocks))) (range (formatted blocks) (1 + from) (area_len (seg_count blocks))) (length-blank (area_len (seg_count blocks)) ∙ sym (length-range (formatted blocks) (1 + from) (area_len (seg_count blocks)))) (λ i below.
    let lt : i < area_len (seg_count blocks) = omega (arith, below, length-blank (area_len (seg_count blocks))) in
    block_at-blank (area_len (seg_count blocks)) i lt
    ∙ sym (zeros_at blocks (from + i) (inside i lt where_from))
    ∙ same_place (formatted blocks) (1 + (from + i)) (1 + from + i) (omega arith)
    ∙ sym (block_at-range (formatted blocks) (1 + from) (area_len (seg_count blocks)) i lt))
  where
    inside : (i : ℕ) → i < area_len (seg_count blocks) → (from ≡ 0) ⊎ (from ≡ area_len (seg_count blocks)) → from + i < 2 * area_len (seg_count blocks)
    inside i lt (inl zero) = omega arith
    inside i lt (inr more) = omega arith

-- the first i blocks are written
record Written (d : Seen) (blocks i : ℕ) (e : Seen) : Type 0 where
  pub lasts : Lasts d e
  pub spared : IsSpared d e
  pub counted : e.written ≡ raised d.written i
  pub image : IsTold d → e.image ≡ put d.image 0 (range (formatted blocks) 0 i)

Written-none : (d : Seen) (blocks : ℕ) → Written d blocks 0 d
Written-none d blocks = record { lasts = lasts_same d; spared = spared_same d; counted = refl; image = λ _. sym (put_none d.image 0 (range (formatted blocks) 0 0) (length-range (formatted blocks) 0 0)) }

module _ (d e f : Seen) (blocks i n at : ℕ) (bytes : List ℕ) (p : Written d blocks i e) (at_is : at ≡ 0 + i) (some : 0 < n) (count : length bytes / 512 ≡ n) (part : blocks_of bytes ≡ range (formatted blocks) i n)
    (fits : i + n ≤ blocks_for (seg_count blocks)) (room : blocks_for (seg_count blocks) ≤ d.size) where
  Written-more : {T E : Type 0} (x : T) → Writes {E = E} e at bytes (Ok x) f → Written d blocks (i + n) f
  Written-more x w = record {
    lasts = lasts_then d e f p.lasts w.goes.lasts;
    spared = spared_then d e f p.spared w.goes.done;
    counted = w.counted ∙ ap (λ (k : ℕ). counted e.written k) count ∙ sym (raised-some e.written n some) ∙ ap (λ (k : ℕ). raised k n) p.counted ∙ raised-then d.written i n;
    image = λ told.
        w.done (p.lasts.told told)
        ∙ ap (λ (l : Image). put e.image at l) part
        ∙ ap (λ (k : ℕ). put e.image k (range (formatted blocks) i n)) at_is
        ∙ ap (λ (l : Image). put l (0 + i) (range (formatted blocks) i n)) (p.image told)
        ∙ put_more d.image (formatted blocks) 0 i n;
  }

  -- the label, which is the first block, is written by itself
  label_is_first : ((i ≡ 0) × (n ≡ 1)) ⊎ (0 < i) → IsTold d → ChangesWithin at (length bytes / 512) e.image f.image → IsLabelFirst d.image blocks f.image
  label_is_first (inl (zero, one)) told within = inr (λ k pos.
      within.outside k (inr (omega (arith, at_is, zero, one, count, pos)))
      ∙ ap (λ (l : Image). block_at l k) (p.image told ∙ put_none d.image 0 (range (formatted blocks) 0 i) (length-range (formatted blocks) 0 i ∙ zero)))
  label_is_first (inr pos) told within = inl (
      within.outside 0 (inl (omega (arith, at_is, pos)))
      ∙ ap (λ (l : Image). block_at l 0) (p.image told)
      ∙ put_inside d.image 0 (range (formatted blocks) 0 i) 0 (omega arith) (omega (arith, length-range (formatted blocks) 0 i, pos)) (omega (arith, room, told))
      ∙ same_place (range (formatted blocks) 0 i) (0 - 0) 0 (omega arith)
      ∙ block_at-range (formatted blocks) 0 i 0 pos)

  Written-stopped : {T E : Type 0} (y z : E) → ((i ≡ 0) × (n ≡ 1)) ⊎ (0 < i) → Writes {T = T} e at bytes (Err y) f → Formats {T = T} d blocks (Err z) f
  Written-stopped y z place w = record {
    goes = record { lasts = lasts_then d e f p.lasts w.goes.lasts; done = tt; failed = fails_then d e f p.lasts.steady p.spared w.goes.failed };
    counted = tt;
    most = (let k : f.written ≡ raised d.written i = w.uncounted ∙ p.counted in omega (arith, k, raised_most d.written i, fits));
    done = λ _. tt;
    stopped = λ told. mix_more d.image (formatted blocks) f.image 0 i n (omega (arith, fits, length-formatted blocks)) (omega (arith, length-formatted blocks, room, told))
        (subst (λ (l : Image). IsMix l (0 + i) (range (formatted blocks) i n) f.image) (p.image told)
        (subst (λ (k : ℕ). IsMix e.image k (range (formatted blocks) i n) f.image) at_is
        (subst (λ (l : Image). IsMix e.image at l f.image) part (w.failed (p.lasts.told told)))));
    label_first = λ told. label_is_first place told (w.within (p.lasts.told told));
  }

Written-all : {T E : Type 0} (x : T) (d e : Seen) (blocks i : ℕ) → i ≡ blocks_for (seg_count blocks) → Written d blocks i e → Formats {E = E} d blocks (Ok x) e
Written-all x d e blocks i all p = record {
  goes = record { lasts = p.lasts; done = p.spared; failed = tt };
  counted = p.counted ∙ ap (λ (k : ℕ). raised d.written k) all ∙ raised-some d.written (blocks_for (seg_count blocks)) (omega arith);
  most = (let k : e.written ≡ raised d.written i = p.counted in omega (arith, k, raised_most d.written i, all));
  done = λ told. p.image told ∙ ap (λ (l : Image). put d.image 0 l) (range_all (formatted blocks) i (all ∙ sym (length-formatted blocks)));
  stopped = λ _. tt;
  label_first = λ _. tt;
}

module _ (d d1 d2 d3 : Seen) (blocks len at3 : ℕ) (block memory : List ℕ) (one : length block ≡ 512) (is : IsLabel block (compact_label blocks)) (len_is : len ≡ area_len (seg_count blocks)) (at3_is : at3 ≡ 1 + len)
    (zeros : memory ≡ replicate (512 * area_len (seg_count blocks)) 0) (long : length memory ≡ 512 * area_len (seg_count blocks)) (some : 0 < blocks) (room : blocks_for (seg_count blocks) ≤ d.size) where
  width : length memory / 512 ≡ area_len (seg_count blocks)
  width = omega (arith, long)

  pub Formats-1 : {T E : Type 0} (y : E) → Writes {T = T} d 0 block (Err y) d1 → Formats {T = T} d blocks (Err y) d1
  Formats-1 y w = Written-stopped d d d1 blocks 0 1 0 block (Written-none d blocks) (omega arith) (omega arith) (omega (arith, one)) (label_part blocks block one is) (omega arith) room y y (inl (refl, refl)) w

  after_label : {T E : Type 0} (x : T) → Writes {E = E} d 0 block (Ok x) d1 → Written d blocks (0 + 1) d1
  after_label x w = Written-more d d d1 blocks 0 1 0 block (Written-none d blocks) (omega arith) (omega arith) (omega (arith, one)) (label_part blocks block one is) (omega arith) room x w

  first_area : blocks_of memory ≡ range (formatted blocks) (0 + 1) (area_len (seg_count blocks))
  first_area = zeros_part blocks 0 memory zeros (inl refl) ∙ ap (λ (k : ℕ). range (formatted blocks) k (area_len (seg_count blocks))) (let e : 1 + 0 ≡ 0 + 1 = omega arith in e)

  second_area : blocks_of memory ≡ range (formatted blocks) (0 + 1 + area_len (seg_count blocks)) (area_len (seg_count blocks))
  second_area = zeros_part blocks (area_len (seg_count blocks)) memory zeros (inr refl) ∙ ap (λ (k : ℕ). range (formatted blocks) k (area_len (seg_count blocks))) (let e : 1 + area_len (seg_count blocks) ≡ 0 + 1 + area_len (seg_count blocks) = omega arith in e)

  pub Formats-2 : {T E : Type 0} (x : T) (y : E) → Writes {E = E} d 0 block (Ok x) d1 → Writes {T = T} d1 1 memory (Err y) d2 → Formats {T = T} d blocks (Err y) d2
  Formats-2 x y w w2 = Written-stopped d d1 d2 blocks (0 + 1) (area_len (seg_count blocks)) 1 memory (after_label x w) (omega arith) (omega arith) width first_area (omega arith) room y y (inr (omega arith)) w2

  after_first : {T E : Type 0} (x y : T) → Writes {E = E} d 0 block (Ok x) d1 → Writes {E = E} d1 1 memory (Ok y) d2 → Written d blocks (0 + 1 + area_len (seg_count blocks)) d2
  after_first x y w w2 = Written-more d d1 d2 blocks (0 + 1) (area_len (seg_count blocks)) 1 memory (after_label x w) (omega arith) (omega arith) width first_area (omega arith) room y w2

  pub Formats-3 : {T E : Type 0} (x y : T) (r : Result T E) → Writes {E = E} d 0 block (Ok x) d1 → Writes {E = E} d1 1 memory (Ok y) d2 → Writes d2 at3 memory r d3 → Formats d blocks r d3
  Formats-3 x y (Err e) w w2 w3 = Written-stopped d d2 d3 blocks (0 + 1 + area_len (seg_count blocks)) (area_len (seg_count blocks)) at3 memory (after_first x y w w2) (omega arith) (omega arith) width second_area (omega arith) room e e (inr (omega arith)) w3
  Formats-3 x y (Ok z) w w2 w3 = Written-all z d d3 blocks (0 + 1 + area_len (seg_count blocks) + area_len (seg_count blocks)) (omega arith)
      (Written-more d d2 d3 blocks (0 + 1 + area_len (seg_count blocks)) (area_len (seg_count blocks)) at3 memory (after_first x y w w2) (omega arith) (omega arith) width second_area (omega arith) room z w3)

-- ---- entries that are read, and entries of zeros

pub HasArea-cleared : (area : Image) (blocks n : ℕ) (memory new : List ℕ) → n ≡ seg_count blocks → ((c : ℕ) → c < n → entry_in new c ≡ entry_in memory c) → HasArea area (seg_count blocks) memory → HasArea area (seg_count blocks) new
HasArea-cleared area blocks n memory new is same has = record { each = λ c lt. same c (omega arith) ∙ has.each c lt }

pub entries_none : (memory : List ℕ) (n : ℕ) → memory ≡ replicate n 0 → (c : ℕ) → entry_in memory c ≡ 0
entries_none memory n is c = ap (λ (l : List ℕ). entry_in l c) is ∙ entry_in-zeros n c

pub IsClean-zeros : (memory : List ℕ) (n chunks : ℕ) → memory ≡ replicate n 0 → IsClean memory chunks
IsClean-zeros memory n chunks is = record { each = λ c _. entries_none memory n is c }

pub entry_in-zero_block : (c : ℕ) → entry_in zero_block c ≡ 0
unfolding zero_block
entry_in-zero_block c = entry_in-zeros 512 c
