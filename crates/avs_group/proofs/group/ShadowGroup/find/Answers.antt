use Rattle.std.proofs.Common.{◌<◌, ◌≤◌, length, map, arith}
use Rattle.std.proofs.lemmas.List.{length-map}
use Rattle.avs_held.specs.Held.{seen_of}
use Rattle.avs_group.specs.Group.{group_of, seen}
use Rattle.avs_group.proofs.ByName.{named_at, named_none}
use Rattle.avs_group.proofs.group.ShadowGroup.find.Goals as goal

pub returns-in-Some-clause-at : goal.returns-in-Some-clause-at
returns-in-Some-clause-at g c =
    let i = c.self.inside in
    let low : c.loop-place.place < length i.sets.items = omega (arith, c.loop-place-test.true, c.len-place-end.ensures, i.sets.ok.0) in
    let there : c.loop-place.place < length (map seen_of i.sets.items) = omega (arith, low, length-map i.sets.items seen_of) in
    named_at (group_of (seen c.args.self.now)) c.args.slot c.loop-place.place (rw (← c.self.view_is) there) c.loop-place.invariant c.in-Some.ensures.is

pub returns-clause-none : goal.returns-clause-none
returns-clause-none g c =
    let i = c.self.inside in
    let high : length i.sets.items ≤ c.loop-place.place = omega (arith, c.loop-place-test.false, c.len-place-end.ensures, i.sets.ok.0) in
    let all : length (map seen_of i.sets.items) ≤ c.loop-place.place = omega (arith, high, length-map i.sets.items seen_of) in
    named_none (group_of (seen c.args.self.now)) c.args.slot c.loop-place.place (rw (← c.self.view_is) all) c.loop-place.invariant

pub returns-in-Some-clause-kept : goal.returns-in-Some-clause-kept
returns-in-Some-clause-kept g c = rw (← c.self.view_is) c.self.invariant

pub returns-clause-kept : goal.returns-clause-kept
returns-clause-kept g c = rw (← c.self.view_is) c.self.invariant
