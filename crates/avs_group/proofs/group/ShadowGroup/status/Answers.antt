use Rattle.std.proofs.Common.{rules, ◌<◌, length, map, sym, ◌∙◌, ap, arith}
use Rattle.std.specs.Option.{option_map}
use Rattle.std.proofs.lemmas.List.{length-map}
use Rattle.avs_over.specs.Over.{OverSet}
use Rattle.avs_sets.specs.Sets.{SetSeen}
use Rattle.avs_held.specs.Held.{seen_of}
use Rattle.avs_group.specs.Group.{group_of, seen, over_disks}
use Rattle.avs_group.specs.Named.{IsNamedAt}
use Rattle.avs_group.proofs.Adding.{there_lt}
use Rattle.avs_group.proofs.ByName.{set_is, place_lt, names_state}
use Rattle.avs_group.proofs.group.ShadowGroup.status.Goals as goal

pub over_status-requires : goal.over_status-requires
over_status-requires g c number over =
    let i = c.self.inside in
    let at : IsNamedAt (group_of (seen c.args.self.now)) c.args.set c.in_ok-place.place = search rules in
    let lt : c.in_ok-place.place < length (map seen_of i.sets.items) = rw (← c.self.view_is) at at.there in
    let is = set_is i.sets.items c.in_ok-place.place c.index-held.result.now (place_lt i.sets.items c.in_ok-place.place lt) c.index-held.ensures in
    let used = ap (λ (s : SetSeen). s.over) is ∙ sym c.seat.ensures.over ∙ over in
    let low = there_lt (over_disks i.overs.items) number ((c.self.invariant.kept.held c.in_ok-place.place lt).over number used) in
    let there : number < length i.overs.items = omega (arith, low, length-map i.overs.items (λ one. option_map (λ (o : OverSet). o.disk) one)) in
    rw (← c.self.view_is) there

pub returns-in_err-place-clause-state : goal.returns-in_err-place-clause-state
returns-in_err-place-clause-state g c = names_state (group_of (seen c.args.self.now)) c.args.set

pub returns-clause-state : goal.returns-clause-state
returns-clause-state g c = names_state (group_of (seen c.args.self.now)) c.args.set
