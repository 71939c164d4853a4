use Rattle.std.proofs.Common.{◌<◌, ◌+◌, Some, not, length, ap, sym, ◌∙◌, arith, rules}
use Rattle.avs_host.proofs.Volumes.{is_none_by, one_more_none, one_more_some, some_there, stands_at}
use Rattle.avs_host.proofs.resting.place_of.Goals as goal

pub loop-place-preserved-then-is_none : goal.loop-place-preserved-then-is_none
loop-place-preserved-then-is_none g c =
    let disks = c.args.disks.now in
    let here : c.loop-place.place < length disks = search rules in
    let at = stands_at disks c.loop-place.place c.index-disks-place.result here c.index-disks-place.is in
    let none = is_none_by c.index-disks-place.result c.is_none.result c.is_none.ensures c.if-is_none.true in
    (c.loop-place.invariant.0 ∙ sym (one_more_none disks c.loop-place.place (at ∙ ap (λ o. Some o) none)), c.loop-place.invariant.1)

pub returns-then-before-number-clause-found : goal.returns-then-before-number-clause-found
returns-then-before-number-clause-found g c =
    let disks = c.args.disks.now in
    let here : c.loop-place.place < length disks = search rules in
    let at = stands_at disks c.loop-place.place c.index-disks-place.result here c.index-disks-place.is in
    let there = some_there c.index-disks-place.result (c.is_none.ensures ∙ ap not c.if-is_none.false) in
    record { there = (there.0, at ∙ ap (λ o. Some o) there.1); before = sym c.loop-place.invariant.0 ∙ c.if-before-number.true }

pub loop-place-preserved : goal.loop-place-preserved
loop-place-preserved g c =
    let disks = c.args.disks.now in
    let here : c.loop-place.place < length disks = search rules in
    let at = stands_at disks c.loop-place.place c.index-disks-place.result here c.index-disks-place.is in
    let there = some_there c.index-disks-place.result (c.is_none.ensures ∙ ap not c.if-is_none.false) in
    let more = one_more_some disks c.loop-place.place there.0 (at ∙ ap (λ o. Some o) there.1) in
    (ap (λ n. n + 1) c.loop-place.invariant.0 ∙ sym more, omega (arith, c.loop-place.invariant.1, c.if-before-number.false))
