use Rattle.std.proofs.Common.{◌≡◌, ◌*◌, IsTrue, is_some, Ok}
use Rattle.avs_seg.specs.declared.fault.Failed.{Failed}
use Rattle.avs_entries.specs.Parts.{is_ahead}
use Rattle.avs_compact.specs.CompactSet.{entry_of, over_of}
use Rattle.avs_compact.specs.Ahead.{CopiesTold}
use Rattle.avs_compact.proofs.compact.Compact.copy_part.Given as goal

abbrev pub invariant-loop-chunk : goal.invariant-loop-chunk
invariant-loop-chunk g l = record {
  size : (g.D.Disk.seen l.master).size ≡ l.self.blocks;
  there : IsTrue (is_some l.self.shadow);
  still : is_some l.over ≡ is_some l.fn.over;
  told : CopiesTold {T = Unit {0}} {E = Failed} l.fn.self (over_of l.fn.over) (g.D.Disk.seen l.fn.master) (is_ahead l.split l.part (entry_of l.fn.self)) (2048 * l.part) l.chunk (Ok tt) l.self (over_of l.over) (g.D.Disk.seen l.master);
}
