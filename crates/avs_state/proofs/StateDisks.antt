-- A state disk that is made, found, and written.
use Rattle.std.proofs.Common.{◌≡◌, ◌⊎◌, inl, inr, ℕ, ◌+◌, ◌/◌, ◌≤◌, min, [], ◌∷◌, length, Result, Ok, OnOk, OnErr, refl, sym, ◌∙◌, ap, subst, arith}
use Rattle.std.specs.Prelude.{◌-◌, ◌^◌}
use Rattle.std.proofs.lemmas.Result.{on_ok_weaker, on_err_weaker}
use Rattle.avs_seg.specs.Image.{Block, Image, block_at, blocks_of, put, IsMix}
use Rattle.avs_seg.specs.declared.fault.Failed.{Failed}
use Rattle.avs_seg.proofs.Bytes.{blocks_of_one}
use Rattle.avs_seg.proofs.Exits.{either}
use Rattle.avs_seg.proofs.Puts.{put_inside, put_one}
use Rattle.avs_dev.specs.Seen.{Seen, IsTold, Writes}
use Rattle.avs_dev.proofs.Going.{shown_told}
use Rattle.avs_code.specs.Label.{IsLabel, label_block}
use Rattle.avs_code.specs.GroupBlock.{IsGroupBlock, group_block, group_block_at}
use Rattle.avs_code.specs.declared.group_blocks.GroupBlock.{GroupBlock}
use Rattle.avs_code.proofs.GroupBlocks.{group_block_at-is}
use Rattle.avs_state.specs.Saying.{says_of, said_on}
use Rattle.avs_state.specs.StateDisk.{CommitsDisk, Formats, IsStateDisk, Loads, Makes, empty_block, state_blocks, state_label}
use Rattle.avs_state.specs.Reading.{HoldsBlock}

-- what a block says that lies on a disk
pub said_is : (d : Seen) (block : GroupBlock) → IsTold d → IsGroupBlock (block_at d.image 1) block → said_on d ≡ says_of block
said_is d block told is =
    ap (λ (i : Image). says_of (group_block_at (block_at i 1))) (shown_told d told)
    ∙ ap (λ (b : GroupBlock). says_of b) (group_block_at-is (block_at d.image 1) block is)

-- the same block says the same
said_same : (old new : Seen) → IsTold old → IsTold new → block_at new.image 1 ≡ block_at old.image 1 → said_on new ≡ said_on old
said_same old new told told_new same =
    ap (λ (i : Image). says_of (group_block_at (block_at i 1))) (shown_told new told_new)
    ∙ ap (λ (b : Block). says_of (group_block_at b)) same
    ∙ ap (λ (i : Image). says_of (group_block_at (block_at i 1))) (sym (shown_told old told))

-- a block that lies there is the one by its fields
pub own_block : (b : Block) (block : GroupBlock) → IsGroupBlock b block → IsGroupBlock b (group_block_at b)
own_block b block is = subst (λ (x : GroupBlock). IsGroupBlock b x) (sym (group_block_at-is b block is)) is

-- ---- the commit

module _ {T E : Type 0} (old new : Seen) (block : GroupBlock) (r : Result T E) (room : 64 ≤ old.size) (len : length (group_block block) ≡ 512)
    (is : IsGroupBlock (group_block block) block) (w : Writes old 1 (group_block block) r new) where
  one : blocks_of (group_block block) ≡ group_block block ∷ []
  one = blocks_of_one (group_block block) len

  single : length (group_block block) / 512 ≡ 1
  single = omega (arith, len)

  now : IsTold old → OnOk r (block_at new.image 1 ≡ group_block block)
  now told = on_ok_weaker r (λ done. ap (λ (i : Image). block_at i 1) (done ∙ ap (λ (bs : Image). put old.image 1 bs) one) ∙ put_one old.image 1 (group_block block) 1 refl (omega (arith, told, room))) (w.done told)

  torn : IsTold old → OnErr r ((block_at new.image 1 ≡ block_at old.image 1) ⊎ (block_at new.image 1 ≡ group_block block))
  torn told = on_err_weaker r (λ mix. (subst (λ (bs : Image). IsMix old.image 1 bs new.image) one mix).inside 1 (omega arith) (omega arith)) (w.failed told)

  lies : IsTold old → block_at new.image 1 ≡ group_block block → said_on new ≡ says_of block
  lies told at = said_is new block (w.told told) (subst (λ (b : Block). IsGroupBlock b block) (sym at) is)

  first : IsTold old → block_at new.image 0 ≡ block_at old.image 0
  first told = (w.within told).outside 0 (inl (omega arith))

  behind : IsTold old → (i : ℕ) → 2 ≤ i → block_at new.image i ≡ block_at old.image i
  behind told i le = (w.within told).outside i (inr (omega (arith, le, single)))

  still : IsStateDisk old → IsStateDisk new
  still s = record {
    told = w.told s.told;
    label = subst (λ (b : Block). IsLabel b state_label) (sym (first s.told)) s.label;
    block = elim (either r (now s.told) (torn s.told)) [
      | inl same ↦ subst (λ (b : Block). IsGroupBlock b (group_block_at b)) (sym same) s.block
      | inr at ↦ own_block (block_at new.image 1) block (subst (λ (b : Block). IsGroupBlock b block) (sym at) is)
    ];
  }

  pub commits_disk : CommitsDisk old block r new
  commits_disk = record {
    goes = w.goes;
    label = first;
    others = behind;
    done = λ told. on_ok_weaker r (lies told) (now told);
    stopped = λ told. on_err_weaker r (λ which. elim which [
      | inl same ↦ inl (said_same old new told (w.told told) same)
      | inr at ↦ inr (lies told at)
    ]) (torn told);
    state = still;
    counted = on_ok_weaker r (λ e. e ∙ ap (λ (n : ℕ). min (old.written + n) (2 ^ 64 - 1)) single) w.counted;
    uncounted = w.uncounted;
  }

-- ---- making and finding

module _ (old new : Seen) (room : 64 ≤ old.size) (label : IsLabel (label_block state_label) state_label) (block : IsGroupBlock (group_block empty_block) empty_block)
    (f : Formats {T = Unit {0}} {E = Failed} old (Ok tt) new) where
  abbrev pair : Image
  pair = label_block state_label ∷ group_block empty_block ∷ []

  image_new : IsTold old → new.image ≡ put old.image 0 pair
  image_new told = f.writes.done told ∙ ap (λ (l : Image). put old.image 0 l) f.blocks

  at_zero : IsTold old → block_at new.image 0 ≡ label_block state_label
  at_zero told = ap (λ (l : Image). block_at l 0) (image_new told) ∙ put_inside old.image 0 pair 0 (omega arith) (omega arith) (omega (arith, told, room))

  at_one : IsTold old → block_at new.image 1 ≡ group_block empty_block
  at_one told = ap (λ (l : Image). block_at l 1) (image_new told) ∙ put_inside old.image 0 pair 1 (omega arith) (omega arith) (omega (arith, told, room))

  holds : IsTold old → IsGroupBlock (block_at new.image 1) empty_block
  holds told = subst (λ (b : Block). IsGroupBlock b empty_block) (sym (at_one told)) block

  pub makes : (b : GroupBlock) → b ≡ empty_block → Makes old (record { disk = new; block = b })
  makes b is = record {
    wrote = f;
    block = is;
    state = λ told. record {
      told = f.writes.told told;
      label = subst (λ (x : Block). IsLabel x state_label) (sym (at_zero told)) label;
      block = own_block (block_at new.image 1) empty_block (holds told);
    };
    step = λ told. said_is new empty_block (f.writes.told told) (holds told) ∙ ap (λ (x : GroupBlock). says_of x) (sym is);
  }

pub loads : (old new : Seen) (block : GroupBlock) → new ≡ old → state_blocks ≤ old.size → (IsTold old → HoldsBlock old.image block) → Loads old (record { disk = new; block = block })
loads old new block same room holds = record {
  kept = same;
  room = room;
  state = λ told. record { told = told; label = (holds told).label; block = own_block (block_at old.image 1) block (holds told).holds };
  step = λ told. ap (λ (d : Seen). said_on d) same ∙ said_is old block told (holds told).holds;
}
