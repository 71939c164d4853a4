use Rattle.std.proofs.Common.{◌≡◌, ◌<◌, None, length, slice_set, ap, sym, ◌∙◌, arith, rules}
use Rattle.std.specs.Option.{option_map}
use Rattle.avs_host.specs.Store.{volumes_with, disk_of}
use Rattle.avs_host.proofs.Volumes.{none_told, none_found, none_changed, only_told, only_within, disk_found, disk_set, stands_at, store_of}
use Rattle.avs_host.proofs.Moves.{none_left}
use Rattle.avs_host.proofs.store.HostStore.take.Goals as goal

pub returns-in_err-place-clause-disk : goal.returns-in_err-place-clause-disk
returns-in_err-place-clause-disk g c = rw (← c.self.view_is) (
    let i = c.self.inside in
    let none : c.from_residual.result ≡ None = search rules in
    ap (option_map g.D.Disk.seen) none
    ∙ sym (none_found g.D.Disk.seen c.args.name.now i.stack i.disks.items (none_told c.args.name.now i.stack c.place.result c.in_err-place.was c.place.ensures.found)))

pub returns-in_err-place-clause-taken : goal.returns-in_err-place-clause-taken
returns-in_err-place-clause-taken g c = rw (← c.self.view_is) (
    let i = c.self.inside in
    ap (store_of i.stamp) (none_changed g.D.Disk.seen c.args.name.now (λ volume. record volume { disk = None }) i.stack i.disks.items
    (none_told c.args.name.now i.stack c.place.result c.in_err-place.was c.place.ensures.found)))

pub returns-in_err-place-clause-free : goal.returns-in_err-place-clause-free
returns-in_err-place-clause-free g c = rw (← c.self.view_is) (
    let i = c.self.inside in
    none_found g.D.Disk.seen c.args.name.now i.stack i.disks.items (none_told c.args.name.now i.stack c.place.result c.in_err-place.was c.place.ensures.found))

pub index_mut-requires : goal.index_mut-requires
index_mut-requires g c =
    let i = c.self.inside in
    let only = only_told c.args.name.now i.stack c.place.result c.in_ok-place.place c.in_ok-place.was c.place.ensures.found c.place.ensures.at c.place.ensures.apart in
    let inside = only_within c.args.name.now i.stack c.in_ok-place.place only in
    let long : length i.disks.items ≡ length i.stack = c.self.invariant in
    omega (arith, i.disks.ok.0)

pub returns-clause-disk : goal.returns-clause-disk
returns-clause-disk g c = rw (← c.self.view_is) (
    let i = c.self.inside in
    let place = c.in_ok-place.place in
    let only = only_told c.args.name.now i.stack c.place.result place c.in_ok-place.was c.place.ensures.found c.place.ensures.at c.place.ensures.apart in
    let inside = only_within c.args.name.now i.stack place only in
    let long : length i.disks.items ≡ length i.stack = c.self.invariant in
    let here : place < length i.disks.items = omega arith in
    ap (option_map g.D.Disk.seen) c.take.ensures.value
    ∙ sym (disk_found g.D.Disk.seen c.args.name.now i.stack i.disks.items place c.index_mut.result.now only (stands_at i.disks.items place c.index_mut.result.now here c.index_mut.ensures.value)))

pub returns-clause-taken : goal.returns-clause-taken
returns-clause-taken g c = rw (← c.self.view_is) (
    let i = c.self.inside in
    let place = c.in_ok-place.place in
    let only = only_told c.args.name.now i.stack c.place.result place c.in_ok-place.was c.place.ensures.found c.place.ensures.at c.place.ensures.apart in
    ap (λ disk. store_of i.stamp (volumes_with g.D.Disk.seen i.stack (slice_set i.disks.items place disk))) c.take.ensures.after
    ∙ ap (store_of i.stamp) (disk_set g.D.Disk.seen c.args.name.now i.stack i.disks.items place None only))

pub returns-clause-free : goal.returns-clause-free
returns-clause-free g c =
    let i = c.self.inside in
    ap (λ store. disk_of store c.args.name.now) (returns-clause-taken g c)
    ∙ none_left c.args.name.now c.args.self.now.volumes
