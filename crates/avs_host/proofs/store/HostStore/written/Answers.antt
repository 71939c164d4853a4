use Rattle.std.proofs.Common.{Some, is_some, ap, sym, ◌∙◌, true≢false, arith}
use Rattle.std.specs.Option.{option_map}
use Rattle.std.proofs.lemmas.Option.{slice_get_within}
use Rattle.avs_host.proofs.Volumes.{stands_at, is_same}
use Rattle.avs_host.proofs.Numbers.{none_numbered, written_at}
use Rattle.avs_host.proofs.store.HostStore.written.Goals as goal

pub returns-in_err-place : goal.returns-in_err-place
returns-in_err-place g c = rw (← c.self.view_is) (
    let i = c.self.inside in
    let few = rw c.deref.ensures.value at c.in_err-place.ensures.none in
    c.from_residual.ensures ∙ sym (ap (option_map (λ one. one.1.written)) (none_numbered g.D.Disk.seen i.stack i.disks.items i.stamp c.self.invariant c.args.disk few)))

pub index-requires : goal.index-requires
index-requires g c =
    let i = c.self.inside in
    let found = rw c.deref.ensures.value at c.in_ok-place.ensures.found in
    let inside = slice_get_within i.disks.items c.in_ok-place.place (Some found.there.0) found.there.1 in
    omega (arith, i.disks.ok.0)

pub returns-in-Some : goal.returns-in-Some
returns-in-Some g c = rw (← c.self.view_is) (
    let i = c.self.inside in
    let place = c.in_ok-place.place in
    let found = rw c.deref.ensures.value at c.in_ok-place.ensures.found in
    let inside = slice_get_within i.disks.items place (Some found.there.0) found.there.1 in
    let at = stands_at i.disks.items place c.index.result.now inside c.index.ensures ∙ ap (λ o. Some o) c.in-Some.is in
    ap (λ n. Some n) c.written.ensures ∙ written_at g.D.Disk.seen i.stack i.disks.items i.stamp c.self.invariant c.args.disk place c.in-Some.resting at found.before)

pub returns-in-None : goal.returns-in-None
returns-in-None g c =
    let i = c.self.inside in
    let place = c.in_ok-place.place in
    let found = rw c.deref.ensures.value at c.in_ok-place.ensures.found in
    let inside = slice_get_within i.disks.items place (Some found.there.0) found.there.1 in
    let same = is_same c.index.result.now (Some found.there.0) (sym (stands_at i.disks.items place c.index.result.now inside c.index.ensures) ∙ found.there.1) in
    absurd (true≢false (ap is_some (sym same ∙ c.in-None.is)))
