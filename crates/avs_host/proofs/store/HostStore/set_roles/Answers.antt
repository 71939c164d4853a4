use Rattle.std.proofs.Common.{ap, sym, ◌∙◌}
use Rattle.avs_stack.specs.Names.{has_name}
use Rattle.avs_host.specs.Store.{volumes_with}
use Rattle.avs_host.proofs.Volumes.{kept_names, roles_given, store_of}
use Rattle.avs_host.proofs.store.HostStore.set_roles.Goals as goal

pub returns-clause-answer : goal.returns-clause-answer
returns-clause-answer g c = rw (← c.self.view_is) (
    let i = c.self.inside in
    c.set_roles.ensures.answer ∙ ap (λ names. has_name names c.args.name.now) (sym (kept_names g.D.Disk.seen i.stack i.disks.items c.self.invariant)))

pub returns-clause-given : goal.returns-clause-given
returns-clause-given g c = rw (← c.self.view_is) (
    let i = c.self.inside in
    ap (λ names. store_of i.stamp (volumes_with g.D.Disk.seen names i.disks.items)) c.set_roles.ensures.names
    ∙ ap (store_of i.stamp) (roles_given g.D.Disk.seen c.args.name.now c.args.roles i.stack i.disks.items))
