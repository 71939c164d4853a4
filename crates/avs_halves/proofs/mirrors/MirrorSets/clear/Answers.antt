use Rattle.std.proofs.Common.{◌<◌, false, length, arith}
use Rattle.std.proofs.lemmas.List.{length-map}
use Rattle.avs_halves.specs.MirrorView.{set_bits}
use Rattle.avs_halves.proofs.Changed.{run_changed}
use Rattle.avs_halves.proofs.mirrors.MirrorSets.clear.Goals as goal

pub returns : goal.returns
returns g c =
    let there = rw (← c.self.view_is) at c.requires.set in
    let lt : c.args.set < length c.self.inside.sets.items = omega (arith, there, length-map c.self.inside.sets.items set_bits) in
    rw (← c.self.view_is) (run_changed c.self.inside.sets.items c.args.set c.index_mut.result.now lt c.index_mut.ensures.value c.args.seg 1 false c.clear.new.self c.clear.result c.clear.ensures)
