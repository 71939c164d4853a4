use Rattle.std.proofs.Common.{ℕ, rules, ◌≡◌, ◌<◌, ◌+◌, Ok, Err, Result, subst, ◌∙◌, refl, arith}
use Rattle.avs_seg.specs.declared.fault.Failed.{Failed}
use Rattle.avs_chunk.specs.ChunkSet.{chunks_of}
use Rattle.avs_chunk.specs.Calls.{Saves}
use Rattle.avs_chunk.proofs.Chains.{CanSave-then, Saves-none, Saves-then, Saves-wider}
use Rattle.avs_chunk.proofs.chunks.Chunks.save_range.Goals as goal

pub loop-chunk-init : goal.loop-chunk-init
loop-chunk-init g c = record {
  low = omega arith;
  blocks = refl;
  size = c.requires.blocks;
  can = c.requires.can;
  saves = Saves-none tt c.args.self.now (g.D.Disk.seen c.args.master.now) c.args.first;
}

pub returns-in_err-save_before : goal.returns-in_err-save_before
returns-in_err-save_before g c =
    let is : c.from_residual.result ≡ Err c.in_err-save_before.field-0.0 = search rules in
    let saved = subst (λ (r : Result (Unit {0}) Failed). Saves c.loop-chunk.self (g.D.Disk.seen c.loop-chunk.master) c.loop-chunk.chunk (c.loop-chunk.chunk + 1) r c.save_before.new.self (g.D.Disk.seen c.save_before.new.master)) c.in_err-save_before.was c.save_before.ensures in
    let lt : c.loop-chunk.chunk < chunks_of c.args.self.now = omega arith in
    rw is (Saves-wider c.args.self.now c.save_before.new.self (g.D.Disk.seen c.args.master.now) (g.D.Disk.seen c.save_before.new.master) c.args.first (c.loop-chunk.chunk + 1) c.args.end c.in_err-save_before.field-0.0 (omega arith) (omega arith)
    (Saves-then tt c.args.self.now c.loop-chunk.self c.save_before.new.self (g.D.Disk.seen c.args.master.now) (g.D.Disk.seen c.loop-chunk.master) (g.D.Disk.seen c.save_before.new.master) c.args.first c.loop-chunk.chunk _ c.loop-chunk.invariant.low lt c.loop-chunk.invariant.saves saved))

pub loop-chunk-preserved : goal.loop-chunk-preserved
loop-chunk-preserved g c =
    let saved = subst (λ (r : Result (Unit {0}) Failed). Saves c.loop-chunk.self (g.D.Disk.seen c.loop-chunk.master) c.loop-chunk.chunk (c.loop-chunk.chunk + 1) r c.save_before.new.self (g.D.Disk.seen c.save_before.new.master)) c.in_ok-save_before.was c.save_before.ensures in
    let lt : c.loop-chunk.chunk < chunks_of c.args.self.now = omega arith in
    record {
      low = omega arith;
      blocks = c.save_before.ensures.stays.blocks ∙ c.loop-chunk.invariant.blocks;
      size = c.save_before.ensures.disks.master.size ∙ c.loop-chunk.invariant.size;
      can = CanSave-then c.in_ok-save_before.field-0 c.loop-chunk.self c.save_before.new.self (g.D.Disk.seen c.loop-chunk.master) (g.D.Disk.seen c.save_before.new.master) c.loop-chunk.chunk (c.loop-chunk.chunk + 1) saved c.loop-chunk.invariant.can;
      saves = Saves-then tt c.args.self.now c.loop-chunk.self c.save_before.new.self (g.D.Disk.seen c.args.master.now) (g.D.Disk.seen c.loop-chunk.master) (g.D.Disk.seen c.save_before.new.master) c.args.first c.loop-chunk.chunk _ c.loop-chunk.invariant.low lt c.loop-chunk.invariant.saves saved;
    }

pub returns : goal.returns
returns g c =
    let all : c.loop-chunk.chunk ≡ c.args.end = omega arith in
    subst (λ (n : ℕ). Saves c.args.self.now (g.D.Disk.seen c.args.master.now) c.args.first n (Ok tt) c.loop-chunk.self (g.D.Disk.seen c.loop-chunk.master)) all c.loop-chunk.invariant.saves
