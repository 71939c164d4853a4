use Rattle.avs_dev.proofs.Going.{all_go}
use Rattle.avs_dev.proofs.laws.disks_stay_beside_one.Goals as goal

pub returns : goal.returns
returns g c = λ old new name r cases same. all_go old new name cases same r
