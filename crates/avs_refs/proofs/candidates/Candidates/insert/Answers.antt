use Rattle.std.proofs.Common.{◌≡◌, ◌<◌, length, false, get_or, ap, sym, ◌∙◌, arith}
use Rattle.std.proofs.lemmas.List.{get_or_read}
use Rattle.avs_refs.specs.Listed.{Listed}
use Rattle.avs_refs.proofs.Stacks.{count_by-below}
use Rattle.avs_refs.proofs.candidates.Candidates.insert.Goals as goal

pub push_reserved-requires : goal.push_reserved-requires
push_reserved-requires c =
    let kept = c.self.invariant in
    let inside : c.args.seg < length c.self.inside.has.items = omega (arith, ap (λ (l : Listed). length l.has) c.self.view_is) in
    let no : get_or c.self.inside.has.items c.args.seg false ≡ false = sym (get_or_read c.self.inside.has.items c.args.seg _ inside c.index.ensures false) ∙ c.if-not-index.true in
    omega (arith, kept.0.few, kept.1, count_by-below c.self.inside.has.items c.args.seg inside no, c.self.inside.has.ok.0, c.self.inside.stack.ok.0)
