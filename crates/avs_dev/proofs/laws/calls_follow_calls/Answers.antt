use Rattle.avs_dev.proofs.Going.{goes_then, all_then}
use Rattle.avs_dev.proofs.laws.calls_follow_calls.Goals as goal

pub returns-clause-disk : goal.returns-clause-disk
returns-clause-disk g c = goes_then

pub returns-clause-disks : goal.returns-clause-disks
returns-clause-disks g c = all_then
