use Rattle.std.proofs.Common.{◌∙◌, ap, map, is_some, sym}
use Rattle.std.specs.String.{string_bytes}
use Rattle.avs_stack.specs.Kept.{named}
use Rattle.avs_stack.proofs.Entries.{there, given, untouched}
use Rattle.avs_stack.proofs.stack.Stack.set_roles.Goals as goal
use Rattle.avs_stack.proofs.stack.Stack.set_roles.Goals.{in-Some, in-None}

pub returns-clause-answer : goal.returns-clause-answer
returns-clause-answer c = rw (← c.self.view_is) (
    let es = c.self.inside.volumes.entries in
    elim c.match-get_mut.branch [
      | in-Some w ↦ w.result-is ∙ ap is_some w.in-Some.ensures.value ∙ there string_bytes c.args.name.now es
      | in-None w ↦ w.result-is ∙ ap is_some w.in-None.ensures.value ∙ there string_bytes c.args.name.now es
    ])

pub returns-clause-names : goal.returns-clause-names
returns-clause-names c = rw (← c.self.view_is) (
    let es = c.self.inside.volumes.entries in
    elim c.match-get_mut.branch [
      | in-Some w ↦
          ap (λ s. map (named string_bytes) s.volumes.entries) w.self-inside-is
          ∙ ap (map (named string_bytes)) (c.get_mut.follows.holds (record (w.in-Some.kept.now) { roles = c.args.roles })).0
          ∙ given string_bytes c.args.name.now c.args.roles w.in-Some.kept.now es c.get_mut.ensures.unique (sym w.in-Some.ensures.value)
      | in-None w ↦
          ap (λ s. map (named string_bytes) s.volumes.entries) w.self-inside-is
          ∙ ap (λ m. map (named string_bytes) m.entries) c.get_mut.follows.holds-at-none
          ∙ untouched string_bytes c.args.name.now c.args.roles es (sym w.in-None.ensures.value)
    ])
