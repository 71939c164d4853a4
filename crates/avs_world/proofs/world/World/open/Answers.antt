use Rattle.std.proofs.Common.{◌∙◌, Err, sym, ap, subst}
use Rattle.avs_ii.specs.Parts.{part_disks}
use Rattle.avs_world.specs.Views.{InMemory, OnDisks, view_of, group_view}
use Rattle.avs_world.specs.Recovering.{IsFound, Finds}
use Rattle.avs_world.proofs.Finding.{is_found, is_refused}
use Rattle.avs_world.proofs.world.World.open.Goals as goal

pub returns-in-Ok-clause-finds : goal.returns-in-Ok-clause-finds
returns-in-Ok-clause-finds g c =
    let seen = g.D.Disk.seen in
    let store = view_of seen c.args.self.now in
    let was = ap (group_view seen) (sym c.replace.ensures.value ∙ c.in-Closed.is) in
    subst (λ group. IsFound (record store { group = group }) (record store { group = InMemory c.in-Closed.set c.in-Ok.group })) (sym was)
    (is_found store c.in-Closed.set (part_disks seen c.in-Closed.parts) c.in-Ok.group c.in-Ok.ensures.loads)

pub returns-in-Err-clause-finds : goal.returns-in-Err-clause-finds
returns-in-Err-clause-finds g c =
    let seen = g.D.Disk.seen in
    let store = view_of seen c.args.self.now in
    let parts = part_disks seen c.in-Err.field-0.parts in
    let was = ap (group_view seen) (sym c.replace.ensures.value ∙ c.in-Closed.is) in
    subst (λ group. Finds {T = Unit {0}} (record store { group = group }) (Err c.in-Err.field-0.why) (record store { group = OnDisks c.in-Closed.set parts })) (sym was)
    (is_refused store c.in-Closed.set (part_disks seen c.in-Closed.parts) parts c.in-Err.field-0.why c.in-Err.ensures.refused)
