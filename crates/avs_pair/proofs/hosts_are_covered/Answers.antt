use Rattle.avs_pair.proofs.HostCovers.{hosts_covered}
use Rattle.avs_pair.proofs.hosts_are_covered.Goals as goal

pub returns : goal.returns
returns c = hosts_covered
