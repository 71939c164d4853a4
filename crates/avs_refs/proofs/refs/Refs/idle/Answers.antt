use Rattle.std.proofs.Common.{ℕ, ◌<◌, length, ◌∙◌, ap, arith}
use Rattle.std.proofs.lemmas.List.{get_or_read}
use Rattle.avs_refs.specs.Places.{Places, is_idle}
use Rattle.avs_refs.specs.Touches.{places_of, is_behind}
use Rattle.avs_refs.proofs.Rising.{is_behind_is}
use Rattle.avs_refs.proofs.refs.Refs.idle.Goals as goal

pub returns : goal.returns
returns c =
    let kept = c.self.invariant.0 in
    let greatest = c.self.inside.greatest.items in
    let places = places_of c.self.inside.outstanding.items in
    let inside : c.args.seg < length greatest = omega (arith, ap (λ (p : Places). length p.greatest) c.self.view_is) in
    let read = get_or_read greatest c.args.seg _ inside c.index.ensures 0 in
    c.is_behind.ensures
    ∙ ap (λ (n : ℕ). is_behind places n) read
    ∙ is_behind_is places _ kept.rising (kept.behind c.args.seg)
    ∙ ap (λ (p : Places). is_idle p c.args.seg) c.self.view_is
