use Rattle.std.specs.String.{string_bytes}
use Rattle.avs_stack.proofs.Entries.{names_apart}
use Rattle.avs_stack.proofs.stack.Stack.len.Goals as goal

pub returns-clause-apart : goal.returns-clause-apart
returns-clause-apart c = rw (← c.self.view_is) (names_apart string_bytes c.self.inside.volumes.entries c.len.ensures.unique)
