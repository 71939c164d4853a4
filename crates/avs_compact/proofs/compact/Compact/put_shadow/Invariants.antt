use Rattle.std.proofs.Common.{◌≡◌, ◌≤◌, ◌-◌, is_some, Ok}
use Rattle.avs_seg.specs.declared.fault.Failed.{Failed}
use Rattle.avs_seg.specs.Image.{blocks_of, range}
use Rattle.avs_compact.specs.CompactSet.{over_of}
use Rattle.avs_compact.specs.Writing.{PutsShadow}
use Rattle.avs_compact.proofs.compact.Compact.put_shadow.Given as goal

abbrev pub decreases-loop-done : goal.decreases-loop-done
decreases-loop-done g l = l.count - l.done

abbrev pub invariant-loop-done : goal.invariant-loop-done
invariant-loop-done g l = record {
  within : l.done ≤ l.count;
  still : is_some l.over ≡ is_some l.fn.over;
  puts : PutsShadow {T = Unit {0}} {E = Failed} l.fn.self (over_of l.fn.over) l.at (range (blocks_of l.bytes) 0 l.done) (Ok tt) l.self (over_of l.over);
}
