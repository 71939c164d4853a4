use Rattle.std.proofs.Common.{rules, ◌≡◌, ◌<◌, ◌+◌, ◌*◌, ℕ, Ok, Err, ap, subst, sym, ◌∙◌, arith}
use Rattle.avs_seg.specs.declared.fault.Failed.{Failed}
use Rattle.avs_chunks.specs.ChunkSet.{ChunkSet, chunks_of}
use Rattle.avs_chunks.specs.Disks.{Master}
use Rattle.avs_chunks.specs.Staging.{CopiesTold, told_by, part_end}
use Rattle.avs_chunks.proofs.Ahead.{told_none, told_more, told_fail, can_still}
use Rattle.avs_chunks.proofs.chunks.Chunks.copy_part.Goals as goal

pub loop-chunk-init : goal.loop-chunk-init
loop-chunk-init g c = record {
  low = omega arith;
  size = c.requires.blocks;
  can = c.requires.can;
  copies = told_none c.args.self.now (g.D.Disk.seen c.args.master.now) (told_by c.args.split.now c.args.part) (2048 * c.args.part);
}

pub copy_told-requires-clause-chunk : goal.copy_told-requires-clause-chunk
copy_told-requires-clause-chunk g c =
    let blocks = ap (λ (s : ChunkSet). s.blocks) c.self.view_is in
    let same = c.loop-chunk.invariant.copies.keeps.shape.blocks in
    omega (arith, blocks, same, c.loop-chunk-test.true)

pub copy_told-requires-clause-blocks : goal.copy_told-requires-clause-blocks
copy_told-requires-clause-blocks g c = c.loop-chunk.invariant.size

pub copy_told-requires-clause-can : goal.copy_told-requires-clause-can
copy_told-requires-clause-can g c = c.loop-chunk.invariant.can

pub loop-chunk-preserved : goal.loop-chunk-preserved
loop-chunk-preserved g c =
    let told = told_by c.args.split.now c.args.part in
    let one = c.copy_told.ensures told (sym c.has_bit.ensures) in
    let more = told_more c.args.self.now c.loop-chunk.self c.copy_told.new.self (g.D.Disk.seen c.args.master.now) (g.D.Disk.seen c.loop-chunk.master) (g.D.Disk.seen c.copy_told.new.master) told (2048 * c.args.part) c.loop-chunk.chunk c.loop-chunk.invariant.low c.loop-chunk.invariant.copies
    c.copy_told.result c.in_ok-copy_told.was one in
    record {
      low = omega (arith, c.loop-chunk.invariant.low);
      size = (more.keeps.goes.lasts Master).size ∙ c.requires.blocks ∙ sym more.keeps.shape.blocks;
      can = can_still c.args.self.now c.copy_told.new.self (g.D.Disk.seen c.args.master.now) (g.D.Disk.seen c.copy_told.new.master) told (2048 * c.args.part) (c.loop-chunk.chunk + 1) (Ok tt) more c.requires.can;
      copies = more;
    }

pub returns-in_err-copy_told : goal.returns-in_err-copy_told
returns-in_err-copy_told g c =
    let told = told_by c.args.split.now c.args.part in
    let one = c.copy_told.ensures told (sym c.has_bit.ensures) in
    let is : c.from_residual.result ≡ Err c.in_err-copy_told.field-0.0 = search rules in
    let blocks = ap (λ (s : ChunkSet). s.blocks) c.self.view_is in
    let lt : c.loop-chunk.chunk < part_end (chunks_of c.args.self.now) c.args.part = omega (arith, blocks, c.loop-chunk-test.true) in
    rw is (told_fail c.args.self.now c.loop-chunk.self c.copy_told.new.self (g.D.Disk.seen c.args.master.now) (g.D.Disk.seen c.loop-chunk.master) (g.D.Disk.seen c.copy_told.new.master) told (2048 * c.args.part) c.loop-chunk.chunk c.loop-chunk.invariant.low c.loop-chunk.invariant.copies
    (part_end (chunks_of c.args.self.now) c.args.part) c.in_err-copy_told.field-0.0 c.copy_told.result lt c.in_err-copy_told.was one)

pub returns : goal.returns
returns g c =
    let blocks = ap (λ (s : ChunkSet). s.blocks) c.self.view_is in
    let all : c.loop-chunk.chunk ≡ part_end (chunks_of c.args.self.now) c.args.part = omega (arith, blocks, c.loop-chunk-test.false) in
    subst (λ (n : ℕ). CopiesTold {T = Unit {0}} {E = Failed} c.args.self.now (g.D.Disk.seen c.args.master.now) (told_by c.args.split.now c.args.part) (2048 * c.args.part) n (Ok tt) c.loop-chunk.self (g.D.Disk.seen c.loop-chunk.master)) all c.loop-chunk.invariant.copies
