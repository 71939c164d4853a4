use Rattle.std.proofs.Common.{◌≡◌, ◌∙◌, ap, map, refl, sym, rules}
use Rattle.std.specs.Option.{option_map}
use Rattle.std.specs.String.{string_bytes}
use Rattle.std.specs.Str.{bytes_eq}
use Rattle.std.specs.Map.{lookup}
use Rattle.avs_stack.specs.Kept.{named}
use Rattle.avs_stack.proofs.Entries.{looked, removed}
use Rattle.avs_stack.proofs.stack.Stack.remove.Goals as goal

pub returns-clause-number : goal.returns-clause-number
returns-clause-number c =
    let is : c.map.result ≡ option_map (λ kept. kept.number) c.shift_remove.result = search rules in
    rw (← c.self.view_is) (is ∙ ap (option_map (λ kept. kept.number)) c.shift_remove.ensures.value ∙ looked string_bytes c.args.name.now (λ volume. volume.number) (λ kept. kept.number) (λ e. refl) c.self.inside.volumes.entries)

pub returns-clause-names : goal.returns-clause-names
returns-clause-names c = rw (← c.self.view_is) (
    let name = c.args.name.now in
    let left = c.shift_remove.ensures.entries in
    let gone = ap (lookup (λ key. bytes_eq name (string_bytes key))) (sym left) ∙ c.shift_remove.ensures.updates.1 in
    ap (map (named string_bytes)) left ∙ removed string_bytes name c.self.inside.volumes.entries gone)
