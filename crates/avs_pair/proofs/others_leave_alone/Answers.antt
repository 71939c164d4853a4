use Rattle.avs_pair.proofs.Stopping.{pair_left_alone}
use Rattle.avs_pair.proofs.others_leave_alone.Goals as goal

pub returns : goal.returns
returns c = pair_left_alone
