use Rattle.avs_host.proofs.Moves.{named_fewer, own_fewer, other_fewer}
use Rattle.avs_host.proofs.laws.a_volume_leaves_alone.Goals as goal

pub returns-clause-names : goal.returns-clause-names
returns-clause-names c = λ store name. named_fewer name store.volumes

pub returns-clause-own : goal.returns-clause-own
returns-clause-own c = λ store name. own_fewer name store.volumes

pub returns-clause-others : goal.returns-clause-others
returns-clause-others c = λ store name other differ. other_fewer name other store.volumes differ
