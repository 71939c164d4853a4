use Rattle.std.proofs.Common.{◌≡◌, ◌<◌, None, not, if◌then◌else◌, length, is_some, ap, sym, ◌∙◌, arith, rules}
use Rattle.std.specs.Option.{option_map}
use Rattle.avs_host.specs.Store.{volumes_with, without_volume}
use Rattle.avs_host.proofs.Volumes.{none_told, none_found, only_told, only_within, one_fewer, disk_found, taken_out, stands_at, is_none_by, some_mapped, store_of}
use Rattle.avs_host.proofs.store.HostStore.remove.Goals as goal

pub returns-in_err-place-clause-disk : goal.returns-in_err-place-clause-disk
returns-in_err-place-clause-disk g c = rw (← c.self.view_is) (
    let i = c.self.inside in
    let none : c.from_residual.result ≡ None = search rules in
    ap (option_map g.D.Disk.seen) none
    ∙ sym (none_found g.D.Disk.seen c.args.name.now i.stack i.disks.items (none_told c.args.name.now i.stack c.place.result c.in_err-place.was c.place.ensures.found)))

pub returns-in_err-place-clause-gone : goal.returns-in_err-place-clause-gone
returns-in_err-place-clause-gone g c = rw (← c.self.view_is) (
    let i = c.self.inside in
    let store = store_of i.stamp (volumes_with g.D.Disk.seen i.stack i.disks.items) in
    ap (λ disk. if is_some disk then without_volume store c.args.name.now else store)
    (sym (none_found g.D.Disk.seen c.args.name.now i.stack i.disks.items (none_told c.args.name.now i.stack c.place.result c.in_err-place.was c.place.ensures.found))))

pub index-requires : goal.index-requires
index-requires g c =
    let i = c.self.inside in
    let only = only_told c.args.name.now i.stack c.place.result c.in_ok-place.place c.in_ok-place.was c.place.ensures.found c.place.ensures.at c.place.ensures.apart in
    let inside = only_within c.args.name.now i.stack c.in_ok-place.place only in
    let long : length i.disks.items ≡ length i.stack = c.self.invariant in
    omega (arith, i.disks.ok.0)

pub returns-then-is_none-clause-disk : goal.returns-then-is_none-clause-disk
returns-then-is_none-clause-disk g c = rw (← c.self.view_is) (
    let i = c.self.inside in
    let place = c.in_ok-place.place in
    let only = only_told c.args.name.now i.stack c.place.result place c.in_ok-place.was c.place.ensures.found c.place.ensures.at c.place.ensures.apart in
    let inside = only_within c.args.name.now i.stack place only in
    let long : length i.disks.items ≡ length i.stack = c.self.invariant in
    let here : place < length i.disks.items = omega arith in
    let at = stands_at i.disks.items place c.index.result.now here c.index.ensures in
    let none = is_none_by c.index.result.now c.is_none.result c.is_none.ensures c.if-is_none.true in
    ap (option_map g.D.Disk.seen) (sym none) ∙ sym (disk_found g.D.Disk.seen c.args.name.now i.stack i.disks.items place c.index.result.now only at))

pub returns-then-is_none-clause-gone : goal.returns-then-is_none-clause-gone
returns-then-is_none-clause-gone g c =
    ap (λ disk. if is_some disk then without_volume c.args.self.now c.args.name.now else c.args.self.now) (returns-then-is_none-clause-disk g c)

pub remove-requires-2 : goal.remove-requires-2
remove-requires-2 g c =
    let i = c.self.inside in
    let only = only_told c.args.name.now i.stack c.place.result c.in_ok-place.place c.in_ok-place.was c.place.ensures.found c.place.ensures.at c.place.ensures.apart in
    let inside = only_within c.args.name.now i.stack c.in_ok-place.place only in
    let long : length i.disks.items ≡ length i.stack = c.self.invariant in
    omega (arith, i.disks.ok.0)

pub invariant_of-self : goal.invariant_of-self
invariant_of-self g c =
    let i = c.self.inside in
    let only = only_told c.args.name.now i.stack c.place.result c.in_ok-place.place c.in_ok-place.was c.place.ensures.found c.place.ensures.at c.place.ensures.apart in
    let fewer = one_fewer c.args.name.now i.stack c.in_ok-place.place only in
    let long : length i.disks.items ≡ length i.stack = c.self.invariant in
    let names = ap (λ l. length l) c.remove.ensures.names in
    omega (arith, i.disks.ok.0, c.remove-2.new.self.ok.0, c.remove-2.ensures.len)

pub returns-clause-disk : goal.returns-clause-disk
returns-clause-disk g c = rw (← c.self.view_is) (
    let i = c.self.inside in
    let place = c.in_ok-place.place in
    let only = only_told c.args.name.now i.stack c.place.result place c.in_ok-place.was c.place.ensures.found c.place.ensures.at c.place.ensures.apart in
    let inside = only_within c.args.name.now i.stack place only in
    let long : length i.disks.items ≡ length i.stack = c.self.invariant in
    let here : place < length i.disks.items = omega arith in
    sym (disk_found g.D.Disk.seen c.args.name.now i.stack i.disks.items place c.remove-2.result only (stands_at i.disks.items place c.remove-2.result here c.remove-2.ensures.value)))

pub returns-clause-gone : goal.returns-clause-gone
returns-clause-gone g c = rw (← c.self.view_is) (
    let i = c.self.inside in
    let name = c.args.name.now in
    let place = c.in_ok-place.place in
    let only = only_told name i.stack c.place.result place c.in_ok-place.was c.place.ensures.found c.place.ensures.at c.place.ensures.apart in
    let inside = only_within name i.stack place only in
    let long : length i.disks.items ≡ length i.stack = c.self.invariant in
    let here : place < length i.disks.items = omega arith in
    let at = stands_at i.disks.items place c.index.result.now here c.index.ensures in
    let store = store_of i.stamp (volumes_with g.D.Disk.seen i.stack i.disks.items) in
    let rests = ap is_some (disk_found g.D.Disk.seen name i.stack i.disks.items place c.index.result.now only at) ∙ some_mapped g.D.Disk.seen c.index.result.now ∙ c.is_none.ensures ∙ ap not c.if-is_none.false in
    (λ k. store_of i.stamp (volumes_with g.D.Disk.seen (c.remove.ensures.names k) (c.remove-2.ensures.items k)))
    ∙ ap (store_of i.stamp) (taken_out g.D.Disk.seen name i.stack i.disks.items place c.index.result.now only at)
    ∙ ap (λ b. if b then without_volume store name else store) (sym rests))
