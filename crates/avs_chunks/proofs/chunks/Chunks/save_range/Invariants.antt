use Rattle.std.proofs.Common.{◌≡◌, ◌≤◌, Ok}
use Rattle.avs_seg.specs.declared.fault.Failed.{Failed}
use Rattle.avs_chunks.specs.ChunkSet.{CanSave}
use Rattle.avs_chunks.specs.Writing.{SavesRange}
use Rattle.avs_chunks.proofs.chunks.Chunks.save_range.Given as goal

abbrev pub invariant-loop-chunk : goal.invariant-loop-chunk
invariant-loop-chunk g l = record {
  low : l.first ≤ l.chunk;
  size : (g.D.Disk.seen l.master).size ≡ l.self.blocks;
  can : CanSave l.self;
  saves : SavesRange {T = Unit {0}} {E = Failed} l.fn.self (g.D.Disk.seen l.fn.master) l.first l.chunk (Ok tt) l.self (g.D.Disk.seen l.master);
}
