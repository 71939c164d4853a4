use Rattle.std.proofs.Common.{rules, ◌≡◌, ◌≤◌, ◌+◌, ◌*◌, ℕ, Ok, Err, ap, subst, arith}
use Rattle.avs_seg.specs.declared.fault.Failed.{Failed}
use Rattle.avs_entries.specs.Parts.{split_to, part_blocks}
use Rattle.avs_compact.specs.CompactSet.{CompactSet, chunks_of, entry_of, next_of}
use Rattle.avs_compact.specs.Staging.{StagesBlocks}
use Rattle.avs_compact.proofs.Staged.{blocks_none, blocks_more, blocks_fail, split_same}
use Rattle.avs_compact.proofs.compact.Compact.stage_split.Goals as goal

pub loop-place-init : goal.loop-place-init
loop-place-init g c = record { so_far = blocks_none c.args.self.now (split_to (chunks_of c.args.self.now) c.args.split.now c.args.part (entry_of c.args.self.now) (next_of c.args.self.now)) (16 * c.args.part) }

pub split_block-requires-clause-inside : goal.split_block-requires-clause-inside
split_block-requires-clause-inside g c =
    let blocks = ap (λ (s : CompactSet). s.blocks) c.self.view_is in
    let same = ap (λ (s : CompactSet). s.blocks) c.loop-place.invariant.so_far.is in
    omega (arith, blocks, same, c.loop-place-test.true, c.area_len-blocks.ensures.is)

pub loop-place-preserved : goal.loop-place-preserved
loop-place-preserved g c =
    let so = c.loop-place.invariant.so_far in
    record { so_far = blocks_more c.args.self.now c.loop-place.self c.split_block.new.self _ _ (16 * c.args.part) c.loop-place.place 1 (λ k low high. split_same c.args.self.now c.loop-place.self c.args.split.now c.args.part (16 * c.args.part) c.loop-place.place so k low) so c.split_block.result c.in_ok-split_block.was c.split_block.ensures }

pub returns-in_err-split_block : goal.returns-in_err-split_block
returns-in_err-split_block g c =
    let so = c.loop-place.invariant.so_far in
    let is : c.from_residual.result ≡ Err c.in_err-split_block.field-0.0 = search rules in
    let blocks = ap (λ (s : CompactSet). s.blocks) c.self.view_is in
    let lt : c.loop-place.place + 1 ≤ part_blocks (chunks_of c.args.self.now) c.args.part = omega (arith, blocks, c.loop-place-test.true, c.area_len-blocks.ensures.is) in
    rw is (blocks_fail c.args.self.now c.loop-place.self c.split_block.new.self _ _ (16 * c.args.part) c.loop-place.place 1 (λ k low high. split_same c.args.self.now c.loop-place.self c.args.split.now c.args.part (16 * c.args.part) c.loop-place.place so k low) so
    (part_blocks (chunks_of c.args.self.now) c.args.part) c.in_err-split_block.field-0.0 c.split_block.result lt c.in_err-split_block.was c.split_block.ensures)

pub returns : goal.returns
returns g c =
    let blocks = ap (λ (s : CompactSet). s.blocks) c.self.view_is in
    let all : c.loop-place.place ≡ part_blocks (chunks_of c.args.self.now) c.args.part = omega (arith, blocks, c.loop-place-test.false, c.area_len-blocks.ensures.is, c.loop-place.auto.place-end) in
    subst (λ (n : ℕ). StagesBlocks {T = Unit {0}} {E = Failed} c.args.self.now (split_to (chunks_of c.args.self.now) c.args.split.now c.args.part (entry_of c.args.self.now) (next_of c.args.self.now)) (16 * c.args.part) n (Ok tt) c.loop-place.self) all c.loop-place.invariant.so_far
