-- The first blocks of a state disk, written and read.
use Rattle.std.proofs.Common.{◌≡◌, inl, inr, ℕ, zero, suc, ◌+◌, ◌*◌, ◌/◌, ◌<◌, ◌≤◌, List, [], ◌∷◌, length, set, Some, refl, sym, ◌∙◌, ap, subst, arith}
use Rattle.std.specs.List.{between}
use Rattle.std.proofs.lemmas.List.Edits.{length-between}
use Rattle.avs_seg.specs.Image.{Block, Image, block_at, blocks_of, put, range}
use Rattle.avs_seg.proofs.Bytes.{blocks_of-between, blocks_of_one}
use Rattle.avs_seg.proofs.Ranges.{range_one, block_at-range}
use Rattle.avs_seg.proofs.Puts.{put_one-set, length-put}
use Rattle.avs_dev.specs.Seen.{Seen, IsTold}
use Rattle.avs_code.specs.Label.{IsLabel, IsBadLabel}
use Rattle.avs_code.specs.GroupBlock.{IsGroupBlock, group_block_rules}
use Rattle.avs_code.specs.Rules.{first_broken}
use Rattle.avs_code.specs.declared.group_blocks.GroupBlock.{GroupBlock}
use Rattle.avs_ii.specs.Sound.{HoldsBlock, state_use, state_label}
use Rattle.avs_ii.specs.Making.{IsBadState, IsGoodState}

-- a block of a slice
pub block_between : (bytes : List ℕ) (at a e : ℕ) → a ≡ 512 * at → e ≡ 512 * at + 512 → e ≤ length bytes → between a e bytes ≡ block_at (blocks_of bytes) at
block_between bytes at a e first end fits =
    let len : length (between a e bytes) ≡ 512 = length-between bytes a e fits ∙ omega (arith, first, end) in
    ap (λ (bs : Image). block_at bs 0) (sym (blocks_of_one (between a e bytes) len) ∙ blocks_of-between bytes at 1 a e first (omega (arith, end)) fits ∙ range_one (blocks_of bytes) at)

-- two blocks that are put one behind the other
pub two_blocks : (img : Image) (a b : Block) → length img ≡ 2 → put (put img 0 (a ∷ [])) 1 (b ∷ []) ≡ a ∷ b ∷ []
two_blocks img a b two =
    put_one-set (put img 0 (a ∷ [])) 1 b (omega (arith, two, length-put img 0 (a ∷ [])))
    ∙ ap (λ (l : Image). set l 1 b) (put_one-set img 0 a (omega (arith, two)))
    ∙ go img two
  where
    go : (l : Image) → length l ≡ 2 → set (set l 0 a) 1 b ≡ a ∷ b ∷ []
    go [] e = elim (none e) [ ]
      where
        none : zero ≡ suc (suc zero) → ⊥
        none e = omega (arith, e)
    go (x ∷ []) e = elim (none e) [ ]
      where
        none : suc zero ≡ suc (suc zero) → ⊥
        none e = omega (arith, e)
    go (x ∷ y ∷ []) e = refl
    go (x ∷ y ∷ z ∷ l) e = elim (none (length l) e) [ ]
      where
        none : (n : ℕ) → suc (suc (suc n)) ≡ suc (suc zero) → ⊥
        none n e = omega (arith, e)

-- the blocks that were read are those of the disk
module _ (old : Seen) (bytes : List ℕ) (two : length bytes / 512 ≡ 2) (shows : blocks_of bytes ≡ range old.image 0 (length bytes / 512)) where
  pub read_at : (i : ℕ) → i < 2 → block_at (blocks_of bytes) i ≡ block_at old.image i
  read_at i lt = ap (λ (l : Image). block_at l i) shows ∙ block_at-range old.image 0 (length bytes / 512) i (omega (arith, lt, two)) ∙ ap (λ (k : ℕ). block_at old.image k) (from i)
    where
      from : (i : ℕ) → 0 + i ≡ i
      from i = omega arith

  pub holds_read : (block : GroupBlock) → IsTold old → IsLabel (block_at (blocks_of bytes) 0) state_label → IsGroupBlock (block_at (blocks_of bytes) 1) block → HoldsBlock old block
  holds_read block told label holds = record {
    told = told;
    label = subst (λ (b : Block). IsLabel b state_label) (read_at 0 (omega arith)) label;
    holds = subst (λ (b : Block). IsGroupBlock b block) (read_at 1 (omega arith)) holds;
  }

  pub bad_read : (field : ℕ) → IsBadState (blocks_of bytes) field × (IsGoodState (blocks_of bytes) → ⊥) → IsBadState old.image field × (IsGoodState old.image → ⊥)
  bad_read field bad = (
    bad_there bad.0,
    λ good. bad.1 (record {
      block = good.block;
      label = subst (λ (b : Block). IsLabel b state_label) (sym (read_at 0 (omega arith))) good.label;
      holds = subst (λ (b : Block). IsGroupBlock b good.block) (sym (read_at 1 (omega arith))) good.holds;
    }),
  )
    where
      bad_there : IsBadState (blocks_of bytes) field → IsBadState old.image field
      bad_there (inl label) = inl (subst (λ (b : Block). IsBadLabel b state_use field) (read_at 0 (omega arith)) label)
      bad_there (inr w) = inr (record {
        label = subst (λ (b : Block). IsLabel b state_label) (read_at 0 (omega arith)) w.label;
        block = subst (λ (b : Block). first_broken (group_block_rules b) ≡ Some field) (read_at 1 (omega arith)) w.block;
      })
