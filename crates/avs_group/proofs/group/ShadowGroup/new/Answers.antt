use Rattle.std.proofs.Common.{List, Option, [], map, ap, subst, sym}
use Rattle.std.specs.Option.{option_map}
use Rattle.avs_dev.specs.Seen.{Seen}
use Rattle.avs_over.specs.Over.{OverSet}
use Rattle.avs_held.specs.Held.{Held, seen_of}
use Rattle.avs_group.specs.Group.{IsKeptGroup}
use Rattle.avs_group.specs.Calls.{Opens}
use Rattle.avs_group.proofs.Opening.{new_kept, opens}
use Rattle.avs_group.proofs.group.ShadowGroup.new.Goals as goal

pub invariant_of-result : goal.invariant_of-result
invariant_of-result g c =
    subst (λ (v : List (Option Seen)). IsKeptGroup (record { state = c.in-Ok.state; volumes = v; overs = c.new-in-Ok.result.items; sets = map seen_of c.new-in-Ok-2.result.items })) (sym (ap (map (λ v. option_map g.D.Disk.seen v)) c.new.ensures.items))
    (subst (λ (o : List (Option OverSet)). IsKeptGroup (record { state = c.in-Ok.state; volumes = []; overs = o; sets = map seen_of c.new-in-Ok-2.result.items })) (sym c.new-in-Ok.ensures.items)
    (subst (λ (s : List Held). IsKeptGroup (record { state = c.in-Ok.state; volumes = []; overs = []; sets = map seen_of s })) (sym c.new-in-Ok-2.ensures.items) (new_kept c.in-Ok.state)))

pub returns-in-Ok-clause-opens : goal.returns-in-Ok-clause-opens
returns-in-Ok-clause-opens g c =
    let disk = g.D.Disk.seen c.args.state in
    subst (λ (v : List (Option Seen)). Opens disk (record { state = c.in-Ok.state; volumes = v; overs = c.new-in-Ok.result.items; sets = map seen_of c.new-in-Ok-2.result.items })) (sym (ap (map (λ v. option_map g.D.Disk.seen v)) c.new.ensures.items))
    (subst (λ (o : List (Option OverSet)). Opens disk (record { state = c.in-Ok.state; volumes = []; overs = o; sets = map seen_of c.new-in-Ok-2.result.items })) (sym c.new-in-Ok.ensures.items)
    (subst (λ (s : List Held). Opens disk (record { state = c.in-Ok.state; volumes = []; overs = []; sets = map seen_of s })) (sym c.new-in-Ok-2.ensures.items) (opens disk c.in-Ok.state c.in-Ok.ensures.made)))
