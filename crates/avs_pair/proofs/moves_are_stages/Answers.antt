use Rattle.avs_pair.proofs.PairKept.{moves_kept}
use Rattle.avs_pair.proofs.moves_are_stages.Goals as goal

pub returns : goal.returns
returns c = moves_kept
