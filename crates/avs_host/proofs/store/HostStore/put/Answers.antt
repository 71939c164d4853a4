use Rattle.std.proofs.Common.{◌≡◌, Some, length, ap, sym, ◌∙◌, arith, rules}
use Rattle.avs_stack.specs.Names.{has_name}
use Rattle.avs_host.specs.Store.{names_of}
use Rattle.avs_host.proofs.Volumes.{kept_names, only_told, only_within, disk_set, store_of}
use Rattle.avs_host.proofs.store.HostStore.put.Goals as goal

pub unwrap-place-requires : goal.unwrap-place-requires
unwrap-place-requires g c =
    let i = c.self.inside in
    let names = ap names_of (sym c.self.view_is) ∙ kept_names g.D.Disk.seen i.stack i.disks.items c.self.invariant in
    c.place.ensures.found ∙ ap (λ l. has_name l c.args.name.now) (sym names) ∙ search rules

pub index_mut-requires : goal.index_mut-requires
index_mut-requires g c =
    let i = c.self.inside in
    let only = only_told c.args.name.now i.stack c.place.result c.unwrap-place.result c.unwrap-place.ensures c.place.ensures.found c.place.ensures.at c.place.ensures.apart in
    let inside = only_within c.args.name.now i.stack c.unwrap-place.result only in
    let long : length i.disks.items ≡ length i.stack = c.self.invariant in
    omega (arith, i.disks.ok.0)

pub returns : goal.returns
returns g c = rw (← c.self.view_is) (
    let i = c.self.inside in
    let place = c.unwrap-place.result in
    let only = only_told c.args.name.now i.stack c.place.result place c.unwrap-place.ensures c.place.ensures.found c.place.ensures.at c.place.ensures.apart in
    ap (store_of i.stamp) (disk_set g.D.Disk.seen c.args.name.now i.stack i.disks.items place (Some c.args.disk) only))
