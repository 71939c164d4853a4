use Rattle.avs_host.proofs.Moves.{named_given, disks_given}
use Rattle.avs_host.proofs.laws.roles_change_alone.Goals as goal

pub returns-clause-names : goal.returns-clause-names
returns-clause-names c = λ store name roles. named_given name roles store.volumes

pub returns-clause-disks : goal.returns-clause-disks
returns-clause-disks c = λ store name other roles. disks_given name other roles store.volumes
