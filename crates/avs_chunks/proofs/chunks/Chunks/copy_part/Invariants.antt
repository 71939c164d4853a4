use Rattle.std.proofs.Common.{◌≡◌, ◌≤◌, Ok}
use Rattle.avs_seg.specs.declared.fault.Failed.{Failed}
use Rattle.avs_chunks.specs.ChunkSet.{CanSave}
use Rattle.avs_chunks.specs.Staging.{CopiesTold, told_by}
use Rattle.avs_chunks.proofs.chunks.Chunks.copy_part.Given as goal

abbrev pub invariant-loop-chunk : goal.invariant-loop-chunk
invariant-loop-chunk g l = record {
  low : l.first ≤ l.chunk;
  size : (g.D.Disk.seen l.master).size ≡ l.self.blocks;
  can : CanSave l.self;
  copies : CopiesTold {T = Unit {0}} {E = Failed} l.fn.self (g.D.Disk.seen l.fn.master) (told_by l.split l.part) l.first l.chunk (Ok tt) l.self (g.D.Disk.seen l.master);
}
