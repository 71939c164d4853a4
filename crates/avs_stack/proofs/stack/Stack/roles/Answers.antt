use Rattle.std.proofs.Common.{◌≡◌, ◌∙◌, ap, refl, rules}
use Rattle.std.specs.Option.{option_map, option_copied}
use Rattle.std.specs.String.{string_bytes}
use Rattle.avs_stack.proofs.Entries.{looked}
use Rattle.avs_stack.proofs.stack.Stack.roles.Goals as goal

pub returns : goal.returns
returns c =
    let is : c.map.result ≡ option_map (λ kept. kept.roles) (option_copied c.get.result) = search rules in
    rw (← c.self.view_is) (is ∙ ap (option_map (λ kept. kept.roles)) c.get.ensures.value ∙ looked string_bytes c.args.name.now (λ volume. volume.roles) (λ kept. kept.roles) (λ e. refl) c.self.inside.volumes.entries)
