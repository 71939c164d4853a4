use Rattle.std.proofs.Common.{◌≡◌, ◌<◌, Some, length, ap, sym, ◌∙◌, arith}
use Rattle.std.specs.Option.{option_map}
use Rattle.avs_host.proofs.Volumes.{none_told, none_found, only_told, only_within, disk_found, stands_at}
use Rattle.avs_host.proofs.store.HostStore.blocks.Goals as goal

pub returns-in_err-place : goal.returns-in_err-place
returns-in_err-place g c = rw (← c.self.view_is) (
    let i = c.self.inside in
    c.from_residual.ensures
    ∙ sym (ap (option_map (λ disk. disk.size))
    (none_found g.D.Disk.seen c.args.name.now i.stack i.disks.items (none_told c.args.name.now i.stack c.place.result c.in_err-place.was c.place.ensures.found))))

pub index-requires : goal.index-requires
index-requires g c =
    let i = c.self.inside in
    let only = only_told c.args.name.now i.stack c.place.result c.in_ok-place.place c.in_ok-place.was c.place.ensures.found c.place.ensures.at c.place.ensures.apart in
    let inside = only_within c.args.name.now i.stack c.in_ok-place.place only in
    let long : length i.disks.items ≡ length i.stack = c.self.invariant in
    omega (arith, i.disks.ok.0)

pub returns-in-Some : goal.returns-in-Some
returns-in-Some g c = rw (← c.self.view_is) (
    let i = c.self.inside in
    let place = c.in_ok-place.place in
    let only = only_told c.args.name.now i.stack c.place.result place c.in_ok-place.was c.place.ensures.found c.place.ensures.at c.place.ensures.apart in
    let inside = only_within c.args.name.now i.stack place only in
    let long : length i.disks.items ≡ length i.stack = c.self.invariant in
    let here : place < length i.disks.items = omega arith in
    let at = stands_at i.disks.items place c.index.result.now here c.index.ensures in
    ap (λ n. Some n) c.blocks-in-Some.ensures
    ∙ ap (λ o. option_map (λ disk. disk.size) (option_map g.D.Disk.seen o)) (sym c.in-Some.is)
    ∙ sym (ap (option_map (λ disk. disk.size)) (disk_found g.D.Disk.seen c.args.name.now i.stack i.disks.items place c.index.result.now only at)))

pub returns-in-None : goal.returns-in-None
returns-in-None g c = rw (← c.self.view_is) (
    let i = c.self.inside in
    let place = c.in_ok-place.place in
    let only = only_told c.args.name.now i.stack c.place.result place c.in_ok-place.was c.place.ensures.found c.place.ensures.at c.place.ensures.apart in
    let inside = only_within c.args.name.now i.stack place only in
    let long : length i.disks.items ≡ length i.stack = c.self.invariant in
    let here : place < length i.disks.items = omega arith in
    let at = stands_at i.disks.items place c.index.result.now here c.index.ensures in
    ap (λ o. option_map (λ disk. disk.size) (option_map g.D.Disk.seen o)) (sym c.in-None.is)
    ∙ sym (ap (option_map (λ disk. disk.size)) (disk_found g.D.Disk.seen c.args.name.now i.stack i.disks.items place c.index.result.now only at)))
