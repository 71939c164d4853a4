use Rattle.std.proofs.Common.{◌≡◌, IsTrue, is_some, Ok}
use Rattle.avs_seg.specs.declared.fault.Failed.{Failed}
use Rattle.avs_compact.specs.CompactSet.{over_of}
use Rattle.avs_compact.specs.Calls.{AreThere}
use Rattle.avs_compact.specs.Saving.{SavesAll}
use Rattle.avs_compact.proofs.compact.Compact.save_all.Given as goal

abbrev pub invariant-loop-place : goal.invariant-loop-place
invariant-loop-place g l = record {
  size : (g.D.Disk.seen l.master).size ≡ l.self.blocks;
  there : IsTrue (is_some l.self.shadow);
  slots : AreThere l.self (over_of l.over);
  still : is_some l.over ≡ is_some l.fn.over;
  saves : SavesAll {T = Unit {0}} {E = Failed} l.fn.self (over_of l.fn.over) (g.D.Disk.seen l.fn.master) l.first l.place (Ok tt) l.self (over_of l.over) (g.D.Disk.seen l.master);
}
