use Rattle.std.proofs.Common.{◌∙◌}
use Rattle.std.specs.String.{string_bytes}
use Rattle.avs_stack.proofs.Entries.{there, placed, names_apart}
use Rattle.avs_stack.proofs.stack.Stack.place.Goals as goal

pub returns-clause-found : goal.returns-clause-found
returns-clause-found c = rw (← c.self.view_is) (c.get_index_of.ensures.found ∙ there string_bytes c.args.name.now c.self.inside.volumes.entries)

pub returns-clause-at : goal.returns-clause-at
returns-clause-at c = rw (← c.self.view_is) (placed string_bytes c.args.name.now c.self.inside.volumes.entries c.get_index_of.result c.get_index_of.ensures.index)

pub returns-clause-apart : goal.returns-clause-apart
returns-clause-apart c = rw (← c.self.view_is) (names_apart string_bytes c.self.inside.volumes.entries c.get_index_of.ensures.unique)
