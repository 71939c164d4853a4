use Rattle.std.proofs.Common.{rules, ◌≡◌, vec_len, length, List, [], ◌∷◌, ◌++◌, Option, Some, map, ◌∙◌, sym, ap, subst}
use Rattle.std.specs.Option.{option_map}
use Rattle.std.proofs.lemmas.List.{length-map, map-append}
use Rattle.avs_dev.specs.Seen.{Seen}
use Rattle.avs_group.specs.Group.{Group, IsKeptGroup, seen}
use Rattle.avs_group.specs.Calls.{Adds}
use Rattle.avs_group.proofs.Adding.{adds, adds_kept, room_more}
use Rattle.avs_group.proofs.group.ShadowGroup.add_volume.Goals as goal

pub returns-clause-number : goal.returns-clause-number
returns-clause-number g c =
    let i = c.self.inside in
    let long : vec_len i.volumes ≡ length i.volumes.items = search rules in
    rw (← c.self.view_is) (c.len-number.ensures ∙ long ∙ sym (length-map i.volumes.items (λ v. option_map g.D.Disk.seen v)))

pub returns-clause-adds : goal.returns-clause-adds
returns-clause-adds g c =
    let i = c.self.inside in
    let old : Group = seen (record { state = i.state; volumes = map (λ v. option_map g.D.Disk.seen v) i.volumes.items; overs = i.overs.items; sets = i.sets.items }) in
    let items = c.push_reserved.ensures.items ∙ ap (λ l. l ++ Some c.args.disk ∷ []) c.reserve.ensures.items in
    let volumes : map (λ v. option_map g.D.Disk.seen v) c.push_reserved.new.self.items ≡ map (λ v. option_map g.D.Disk.seen v) i.volumes.items ++ Some (g.D.Disk.seen c.args.disk) ∷ [] =
    ap (map (λ v. option_map g.D.Disk.seen v)) items ∙ map-append (λ v. option_map g.D.Disk.seen v) i.volumes.items (Some c.args.disk ∷ []) in
    rw (← c.self.view_is) (subst (λ (l : List (Option Seen)). Adds old (g.D.Disk.seen c.args.disk) (record old { volumes = l })) (sym volumes) (adds old c.self.invariant (g.D.Disk.seen c.args.disk)))

pub invariant_of-self-2 : goal.invariant_of-self-2
invariant_of-self-2 g c =
    let i = c.self.inside in
    let old : Group = seen (record { state = i.state; volumes = map (λ v. option_map g.D.Disk.seen v) i.volumes.items; overs = i.overs.items; sets = i.sets.items }) in
    let items = c.push_reserved.ensures.items ∙ ap (λ l. l ++ Some c.args.disk ∷ []) c.reserve.ensures.items in
    let volumes : map (λ v. option_map g.D.Disk.seen v) c.push_reserved.new.self.items ≡ map (λ v. option_map g.D.Disk.seen v) i.volumes.items ++ Some (g.D.Disk.seen c.args.disk) ∷ [] =
    ap (map (λ v. option_map g.D.Disk.seen v)) items ∙ map-append (λ v. option_map g.D.Disk.seen v) i.volumes.items (Some c.args.disk ∷ []) in
    let long : vec_len i.volumes ≡ length i.volumes.items = search rules in
    let number = c.len-number.ensures ∙ long ∙ sym (length-map i.volumes.items (λ v. option_map g.D.Disk.seen v)) in
    subst (λ (l : List (Option Seen)). IsKeptGroup (record old { volumes = l })) (sym volumes)
    (adds_kept old c.self.invariant (g.D.Disk.seen c.args.disk) (room_more (length old.volumes) c.len-number.result number c.self.invariant.count c.if-number.false))
