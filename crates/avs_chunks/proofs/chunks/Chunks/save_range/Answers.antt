use Rattle.std.proofs.Common.{rules, ◌≡◌, ◌<◌, ◌+◌, ℕ, Ok, Err, subst, sym, ◌∙◌, arith}
use Rattle.avs_seg.specs.declared.fault.Failed.{Failed}
use Rattle.avs_chunks.specs.ChunkSet.{chunks_of}
use Rattle.avs_chunks.specs.Disks.{Master}
use Rattle.avs_chunks.specs.Writing.{SavesRange}
use Rattle.avs_chunks.proofs.Chained.{saves_none, saves_more, saves_fail, can_then}
use Rattle.avs_chunks.proofs.chunks.Chunks.save_range.Goals as goal

pub loop-chunk-init : goal.loop-chunk-init
loop-chunk-init g c = record {
  low = omega arith;
  size = c.requires.blocks;
  can = c.requires.can;
  saves = saves_none c.args.self.now (g.D.Disk.seen c.args.master.now) c.args.first;
}

pub returns-in_err-save_before : goal.returns-in_err-save_before
returns-in_err-save_before g c =
    let is : c.from_residual.result ≡ Err c.in_err-save_before.field-0.0 = search rules in
    let lt : c.loop-chunk.chunk < chunks_of c.args.self.now = omega (arith, c.loop-chunk-test.true, c.requires.inside) in
    rw is (saves_fail c.args.self.now c.loop-chunk.self c.save_before.new.self (g.D.Disk.seen c.args.master.now) (g.D.Disk.seen c.loop-chunk.master) (g.D.Disk.seen c.save_before.new.master) c.args.first c.loop-chunk.chunk c.loop-chunk.invariant.low lt c.loop-chunk.invariant.saves
    c.args.end c.in_err-save_before.field-0.0 c.save_before.result c.loop-chunk-test.true c.in_err-save_before.was c.save_before.ensures)

pub loop-chunk-preserved : goal.loop-chunk-preserved
loop-chunk-preserved g c =
    let lt : c.loop-chunk.chunk < chunks_of c.args.self.now = omega (arith, c.loop-chunk-test.true, c.requires.inside) in
    let more = saves_more c.args.self.now c.loop-chunk.self c.save_before.new.self (g.D.Disk.seen c.args.master.now) (g.D.Disk.seen c.loop-chunk.master) (g.D.Disk.seen c.save_before.new.master) c.args.first c.loop-chunk.chunk c.loop-chunk.invariant.low lt c.loop-chunk.invariant.saves
    c.save_before.result c.in_ok-save_before.was c.save_before.ensures in
    record {
      low = omega (arith, c.loop-chunk.invariant.low);
      size = (more.keeps.goes.lasts Master).size ∙ c.requires.blocks ∙ sym more.keeps.shape.blocks;
      can = can_then c.args.self.now c.save_before.new.self (g.D.Disk.seen c.args.master.now) (g.D.Disk.seen c.save_before.new.master) c.args.first (c.loop-chunk.chunk + 1) tt more c.requires.can;
      saves = more;
    }

pub returns : goal.returns
returns g c =
    let all : c.loop-chunk.chunk ≡ c.args.end = omega arith in
    subst (λ (n : ℕ). SavesRange {T = Unit {0}} {E = Failed} c.args.self.now (g.D.Disk.seen c.args.master.now) c.args.first n (Ok tt) c.loop-chunk.self (g.D.Disk.seen c.loop-chunk.master)) all c.loop-chunk.invariant.saves
