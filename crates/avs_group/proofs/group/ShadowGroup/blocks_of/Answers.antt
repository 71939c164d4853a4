use Rattle.std.proofs.Common.{◌≡◌, ℕ, Option, None, Some, get_or, refl, ◌∙◌, ap}
use Rattle.std.specs.Option.{option_map, unwrap_or}
use Rattle.avs_dev.specs.Seen.{Seen}
use Rattle.avs_sets.specs.Sets.{disk_of}
use Rattle.avs_group.specs.Group.{seen}
use Rattle.avs_group.proofs.group.ShadowGroup.blocks_of.Goals as goal

size_or : (o : Option Seen) → unwrap_or (option_map (λ (d : Seen). d.size) o) 0 ≡ (disk_of o).size
size_or None = refl
size_or (Some d) = refl

pub returns : goal.returns
returns g c = c.unwrap_or.ensures ∙ ap (λ (o : Option ℕ). unwrap_or o 0) c.volume_size.ensures ∙ size_or (get_or (seen c.args.self.now).volumes c.args.volume None)
