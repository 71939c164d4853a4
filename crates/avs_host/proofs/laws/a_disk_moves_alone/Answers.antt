use Rattle.avs_host.proofs.Moves.{same_names, own_disk, other_disk}
use Rattle.avs_host.proofs.laws.a_disk_moves_alone.Goals as goal

pub returns-clause-names : goal.returns-clause-names
returns-clause-names c = λ store name disk. same_names name disk store.volumes

pub returns-clause-own : goal.returns-clause-own
returns-clause-own c = λ store name disk there. own_disk name disk store.volumes there

pub returns-clause-others : goal.returns-clause-others
returns-clause-others c = λ store name other disk differ. other_disk name other disk store.volumes differ
