use Rattle.std.proofs.Common.{◌≤◌, length, map, arith}
use Rattle.std.proofs.lemmas.List.{length-map}
use Rattle.avs_held.specs.Held.{seen_of}
use Rattle.avs_group.specs.Group.{group_of, seen}
use Rattle.avs_group.proofs.Picks.{no_source}
use Rattle.avs_group.proofs.group.ShadowGroup.source.Goals as goal

pub returns-clause-none : goal.returns-clause-none
returns-clause-none g c =
    let i = c.self.inside in
    let high : length i.sets.items ≤ c.loop-place.place = omega (arith, c.loop-place-test.false, c.len-place-end.ensures, i.sets.ok.0) in
    let all : length (map seen_of i.sets.items) ≤ c.loop-place.place = omega (arith, high, length-map i.sets.items seen_of) in
    no_source (group_of (seen c.args.self.now)) c.args.volume c.args.chunk c.loop-place.place (rw (← c.self.view_is) all) c.loop-place.invariant

pub returns-clause-kept : goal.returns-clause-kept
returns-clause-kept g c = rw (← c.self.view_is) c.self.invariant
