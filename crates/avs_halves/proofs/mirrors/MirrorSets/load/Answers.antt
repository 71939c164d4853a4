use Rattle.std.proofs.Common.{inr, map, ◌∙◌}
use Rattle.avs_sync.specs.Parts.{mirror_set}
use Rattle.avs_halves.specs.MirrorView.{set_bits}
use Rattle.avs_halves.specs.Loading.{HasVolume}
use Rattle.avs_halves.proofs.Loaded.{all_turned, loads_all, one_refused}
use Rattle.avs_halves.proofs.mirrors.MirrorSets.load.Goals as goal

pub open_all-requires-clause-volumes : goal.open_all-requires-clause-volumes
open_all-requires-clause-volumes g c =
    let sizes = (g.B.Below.seen c.args.below.now).sizes in
    all_turned (mirror_set g.D.Disk.seen) sizes c.args.sets c.into_vec-room.result.items c.reverse.new.self.items c.into_vec-room.ensures c.reverse.ensures.items (HasVolume sizes) c.requires

pub returns-in-Ok-open_all-clause-loads : goal.returns-in-Ok-open_all-clause-loads
returns-in-Ok-open_all-clause-loads g c =
    let sizes = (g.B.Below.seen c.args.below.now).sizes in
    loads_all (mirror_set g.D.Disk.seen) sizes c.args.sets c.into_vec-room.result.items c.reverse.new.self.items c.into_vec-room.ensures c.reverse.ensures.items (map set_bits c.open_all.new.sets.items) c.in-Ok-open_all.ensures.opens

pub returns-in-Err-open_all-clause-refused : goal.returns-in-Err-open_all-clause-refused
returns-in-Err-open_all-clause-refused g c =
    let sizes = (g.B.Below.seen c.args.below.now).sizes in
    let F = mirror_set g.D.Disk.seen in
    inr (one_refused F sizes c.args.sets c.into_vec-room.result.items c.reverse.new.self.items c.into_vec-room.ensures c.reverse.ensures.items c.in-Err-open_all.why (map F c.open_all.new.parts.items) c.new-in-Err-open_all.result (map set_bits c.open_all.new.sets.items) c.in-Err-open_all.ensures.refused (c.new-in-Err-open_all.ensures ∙ c.close_all.ensures))
