use Rattle.std.proofs.Common.{◌≡◌, ◌≤◌, ◌-◌, is_some}
use Rattle.avs_seg.proofs.Fills.{ShowsFirst}
use Rattle.avs_dev.specs.Seen.{IsTold}
use Rattle.avs_compact.specs.CompactSet.{over_of, shadow_image}
use Rattle.avs_compact.specs.Calls.{IsKnown}
use Rattle.avs_compact.proofs.compact.Compact.read.Given as goal

abbrev pub decreases-loop-done : goal.decreases-loop-done
decreases-loop-done g l = l.count - l.done

abbrev pub invariant-loop-done : goal.invariant-loop-done
invariant-loop-done g l = record {
  within : l.done ≤ l.count;
  set : l.self ≡ l.fn.self;
  over : over_of l.over ≡ over_of l.fn.over;
  still : is_some l.over ≡ is_some l.fn.over;
  master : g.D.Disk.seen l.master ≡ g.D.Disk.seen l.fn.master;
  shows : IsKnown l.fn.self (over_of l.fn.over) → IsTold (g.D.Disk.seen l.fn.master) → ShowsFirst (shadow_image l.fn.self (over_of l.fn.over) (g.D.Disk.seen l.fn.master).image) l.at l.out l.done;
}
