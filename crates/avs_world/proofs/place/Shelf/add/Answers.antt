use Rattle.std.proofs.Common.{◌≡◌, ◌∙◌, ◌++◌, ◌∷◌, [], None, ℕ, List, map, sym, ap, rules}
use Rattle.std.specs.List.{position}
use Rattle.std.specs.Str.{bytes_eq}
use Rattle.std.proofs.lemmas.List.{map_push}
use Rattle.avs_world.proofs.Keys.{insert_key-new, position-map}
use Rattle.avs_world.proofs.place.Shelf.add.Goals as goal

pub returns-clause-names : goal.returns-clause-names
returns-clause-names g c =
    let name = c.in_ok-to_vec.field-0 in
    let keys = c.args.self.now.names.keys in
    let same : name.items ≡ c.args.name.now = search rules in
    let none : position (λ held. bytes_eq name.items held.items) keys ≡ None =
    ap (λ (n : List ℕ). position (λ held. bytes_eq n held.items) keys) same ∙ sym (position-map (λ held. held.items) (bytes_eq c.args.name.now) keys) ∙ c.requires.new in
    ap (map (λ held. held.items)) (c.in_ok-insert.ensures.keys ∙ insert_key-new (λ k held. bytes_eq k.items held.items) keys name none)
    ∙ map_push (λ held. held.items) keys name ∙ ap (λ (l : List ℕ). map (λ held. held.items) keys ++ l ∷ []) same
