use Rattle.std.proofs.Common.{Some, refl}
use Rattle.std.specs.Cmp.Lexicographic.{bytes_decides}
use Rattle.avs_stack.specs.Names.{no_roles}
use Rattle.avs_host.proofs.Moves.{named_more, own_more, other_more}
use Rattle.avs_host.proofs.laws.a_volume_comes_alone.Goals as goal

pub returns-clause-names : goal.returns-clause-names
returns-clause-names c = λ store name number disk free. named_more name number (Some disk) store.volumes free

pub returns-clause-own : goal.returns-clause-own
returns-clause-own c = λ store name number disk free.
    own_more name (record { kept = record { name = name; number = number; roles = no_roles }; disk = Some disk }) store.volumes ((bytes_decides name name).1 refl) free

pub returns-clause-others : goal.returns-clause-others
returns-clause-others c = λ store name other number disk differ.
    other_more other (record { kept = record { name = name; number = number; roles = no_roles }; disk = Some disk }) store.volumes differ
