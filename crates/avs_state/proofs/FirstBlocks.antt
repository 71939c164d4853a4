-- The first two blocks of a state disk, written and read.
use Rattle.std.proofs.Common.{◌≡◌, inl, inr, ℕ, zero, suc, ◌+◌, ◌*◌, ◌/◌, ◌<◌, ◌≤◌, List, [], ◌∷◌, length, set, Some, Result, Ok, refl, sym, ◌∙◌, ap, subst, arith}
use Rattle.std.specs.List.{between}
use Rattle.std.proofs.lemmas.List.Edits.{length-between}
use Rattle.avs_seg.specs.Image.{Block, Image, block_at, blocks_of, put, range}
use Rattle.avs_seg.proofs.Bytes.{blocks_of-between, blocks_of_one}
use Rattle.avs_seg.proofs.Ranges.{range_one, block_at-range}
use Rattle.avs_seg.proofs.Puts.{put_one-set, length-put}
use Rattle.avs_dev.specs.Seen.{Seen, IsTold, GoesOn}
use Rattle.avs_code.specs.Label.{IsLabel, IsBadLabel}
use Rattle.avs_code.specs.GroupBlock.{IsGroupBlock, group_block_rules}
use Rattle.avs_code.specs.Rules.{first_broken}
use Rattle.avs_code.specs.declared.group_blocks.GroupBlock.{GroupBlock}
use Rattle.avs_state.specs.StateDisk.{state_use, state_label, state_blocks, IsBadState}
use Rattle.avs_state.specs.Reading.{HoldsBlock, IsBadPair}

-- a block of a slice
pub block_between : (bytes : List ℕ) (at a e : ℕ) → a ≡ 512 * at → e ≡ 512 * at + 512 → e ≤ length bytes → between a e bytes ≡ block_at (blocks_of bytes) at
block_between bytes at a e first end fits =
    let len : length (between a e bytes) ≡ 512 = length-between bytes a e fits ∙ omega (arith, first, end) in
    ap (λ (bs : Image). block_at bs 0) (sym (blocks_of_one (between a e bytes) len) ∙ blocks_of-between bytes at 1 a e first (omega (arith, end)) fits ∙ range_one (blocks_of bytes) at)

-- two blocks that are put one behind the other
pub two_blocks : (img : Image) (a b : Block) → length img ≡ 2 → put (put img 0 (a ∷ [])) 1 (b ∷ []) ≡ a ∷ b ∷ []
two_blocks img a b two =
    put_one-set (put img 0 (a ∷ [])) 1 b (omega (arith, two, length-put img 0 (a ∷ [])))
    ∙ ap (λ (l : Image). set l 1 b) (put_one-set img 0 a (omega (arith, two)))
    ∙ go img two
  where
    go : (l : Image) → length l ≡ 2 → set (set l 0 a) 1 b ≡ a ∷ b ∷ []
    go [] e = elim (none e) [ ]
      where
        none : zero ≡ suc (suc zero) → ⊥
        none e = omega (arith, e)
    go (x ∷ []) e = elim (none e) [ ]
      where
        none : suc zero ≡ suc (suc zero) → ⊥
        none e = omega (arith, e)
    go (x ∷ y ∷ []) e = refl
    go (x ∷ y ∷ z ∷ l) e = elim (none (length l) e) [ ]
      where
        none : (n : ℕ) → suc (suc (suc n)) ≡ suc (suc zero) → ⊥
        none n e = omega (arith, e)

-- a disk that was read and has not failed is as it was
pub read_kept : {T E : Type 0} (old new : Seen) (r : Result T E) (x : T) → r ≡ Ok x → new ≡ record old { faults = new.faults } → GoesOn old r new → new ≡ old
read_kept {T} {E} old new r x is rest goes =
    rest ∙ ap (λ (n : ℕ). record old { faults = n }) (subst (λ (q : Result T E). GoesOn old q new) is goes).done.faults

-- the blocks that were read are those of the disk
module _ (old : Seen) (bytes : List ℕ) (two : length bytes / 512 ≡ 2) (shows : blocks_of bytes ≡ range old.image 0 (length bytes / 512)) where
  read_at : (i : ℕ) → i < 2 → block_at (blocks_of bytes) i ≡ block_at old.image i
  read_at i lt = ap (λ (l : Image). block_at l i) shows ∙ block_at-range old.image 0 (length bytes / 512) i (omega (arith, lt, two)) ∙ ap (λ (k : ℕ). block_at old.image k) (from i)
    where
      from : (i : ℕ) → 0 + i ≡ i
      from i = omega arith

  pub holds_read : (block : GroupBlock) → IsLabel (block_at (blocks_of bytes) 0) state_label → IsGroupBlock (block_at (blocks_of bytes) 1) block → HoldsBlock old.image block
  holds_read block label holds = record {
    label = subst (λ (b : Block). IsLabel b state_label) (read_at 0 (omega arith)) label;
    holds = subst (λ (b : Block). IsGroupBlock b block) (read_at 1 (omega arith)) holds;
  }

-- what was read of a disk breaks a rule, and so does the disk
pub bad_state : (disk : Seen) (bytes : List ℕ) (field : ℕ) → length bytes / 512 ≡ 2 → state_blocks ≤ disk.size → (IsTold disk → blocks_of bytes ≡ range disk.image 0 (length bytes / 512)) → IsBadPair (blocks_of bytes) field → IsBadState disk field
bad_state disk bytes field two room shows (inl label) =
    inr (inl (record { room = room; label = λ told. subst (λ (b : Block). IsBadLabel b state_use field) (read_at disk bytes two (shows told) 0 (omega arith)) label }))
bad_state disk bytes field two room shows (inr w) = inr (inr (record {
  room = room;
  label = λ told. subst (λ (b : Block). IsLabel b state_label) (read_at disk bytes two (shows told) 0 (omega arith)) w.label;
  broken = λ told. subst (λ (b : Block). first_broken (group_block_rules b) ≡ Some field) (read_at disk bytes two (shows told) 1 (omega arith)) w.broken;
}))
