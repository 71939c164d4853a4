use Rattle.std.proofs.Common.{◌∙◌, ap, map, not, sym}
use Rattle.std.specs.String.{string_bytes}
use Rattle.avs_stack.specs.Kept.{named}
use Rattle.avs_stack.proofs.Entries.{there, err_exit, kept_as_is, made}
use Rattle.avs_stack.proofs.stack.Stack.add.Goals as goal

pub returns-then-contains_key-clause-answer : goal.returns-then-contains_key-clause-answer
returns-then-contains_key-clause-answer c = rw (← c.self.view_is) (
    let taken = sym (there string_bytes c.args.name.now c.self.inside.volumes.entries) ∙ sym c.contains_key.ensures ∙ c.if-contains_key.true in
    ap not (sym taken))

pub returns-then-contains_key-clause-names : goal.returns-then-contains_key-clause-names
returns-then-contains_key-clause-names c = rw (← c.self.view_is) (
    let taken = sym (there string_bytes c.args.name.now c.self.inside.volumes.entries) ∙ sym c.contains_key.ensures ∙ c.if-contains_key.true in
    kept_as_is _ c.args.name.now c.args.number taken)

pub returns-in_err-key-clause-memory : goal.returns-in_err-key-clause-memory
returns-in_err-key-clause-memory c = rw (← c.self.view_is) (
    let free = sym (there string_bytes c.args.name.now c.self.inside.volumes.entries) ∙ sym c.contains_key.ensures ∙ c.if-contains_key.false in
    err_exit c.from_residual.result free)

pub returns-in_err-insert-clause-memory : goal.returns-in_err-insert-clause-memory
returns-in_err-insert-clause-memory c = rw (← c.self.view_is) (
    let free = sym (there string_bytes c.args.name.now c.self.inside.volumes.entries) ∙ sym c.contains_key.ensures ∙ c.if-contains_key.false in
    err_exit c.from_residual-in_err-insert.result free)

pub returns-clause-answer : goal.returns-clause-answer
returns-clause-answer c = rw (← c.self.view_is) (
    let free = sym (there string_bytes c.args.name.now c.self.inside.volumes.entries) ∙ sym c.contains_key.ensures ∙ c.if-contains_key.false in
    ap not (sym free))

pub returns-clause-names : goal.returns-clause-names
returns-clause-names c = rw (← c.self.view_is) (
    let free = sym (there string_bytes c.args.name.now c.self.inside.volumes.entries) ∙ sym c.contains_key.ensures ∙ c.if-contains_key.false in
    ap (map (named string_bytes)) c.in_ok-insert.ensures.entries
    ∙ made string_bytes c.args.name.now c.args.number c.in_ok-key.key c.none-roles.result c.self.inside.volumes.entries c.in_ok-key.ensures.ok c.none-roles.ensures free)
