use Rattle.std.proofs.Common.{◌≡◌, ◌-◌, ◌≤◌}
use Rattle.avs_seg.proofs.Fills.{ShowsFirst}
use Rattle.avs_model.specs.GroupStates.{volume_image}
use Rattle.avs_sets.specs.Meaning.{meaning}
use Rattle.avs_sets.specs.Whole.{IsWhole, IsInStep}
use Rattle.avs_group.specs.Group.{group_of, seen}
use Rattle.avs_group.proofs.group.ShadowGroup.read.Given as goal

abbrev pub invariant-loop-done : goal.invariant-loop-done
invariant-loop-done g l = record {
  within : l.done ≤ l.count;
  same : seen l.self ≡ seen l.fn.self;
  shows : IsWhole (group_of (seen l.fn.self)) → IsInStep (group_of (seen l.fn.self))
      → ShowsFirst (volume_image (meaning (group_of (seen l.fn.self))) l.volume) l.at l.out l.done;
}

abbrev pub decreases-loop-done : goal.decreases-loop-done
decreases-loop-done g l = l.count - l.done
