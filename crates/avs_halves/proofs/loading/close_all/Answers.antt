use Rattle.std.proofs.Common.{◌≡◌, [], map, ◌∙◌, ap, arith}
use Rattle.std.proofs.lemmas.List.{nil_from_length}
use Rattle.avs_sync.specs.Parts.{mirror_set}
use Rattle.avs_halves.proofs.Ends.{map-reverse}
use Rattle.avs_halves.proofs.loading.close_all.Goals as goal

pub returns : goal.returns
returns g c =
    let empty : c.loop-set.sets.items ≡ [] = nil_from_length c.loop-set.sets.items (omega (arith, c.loop-set.sets.ok.0, c.in_default.ensures.cases.0)) in
    let whole = rw empty at c.loop-set.invariant.whole in
    ap (λ l. map (mirror_set g.D.Disk.seen) l) c.reverse.ensures.items ∙ map-reverse (mirror_set g.D.Disk.seen) c.loop-set.parts.items ∙ whole
