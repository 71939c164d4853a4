use Rattle.std.proofs.Common.{sym, ◌∙◌}
use Rattle.std.specs.Str.{bytes_eq}
use Rattle.avs_world.proofs.Keys.{position-map}
use Rattle.avs_world.proofs.place.Shelf.find.Goals as goal

pub returns-clause-place : goal.returns-clause-place
returns-clause-place g c = c.get_index_of.ensures.index ∙ sym (position-map (λ held. held.items) (bytes_eq c.args.name.now) c.args.self.now.names.keys)
