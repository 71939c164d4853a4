use Rattle.std.proofs.Common.{◌≡◌, ◌-◌, ◌<◌, length, slice_index_or, arith, rules}
use Rattle.avs_dev.proofs.BareViews.{written_seen}
use Rattle.avs_dev.proofs.bare.Bare.written.Goals as goal

pub returns : goal.returns
returns g c =
    let i = c.self.inside in
    let place = c.args.disk - 1 in
    let was = c.in_ok-volume.volume.now in
    let lt : place < length i.volumes.items = search rules in
    let value : was ≡ slice_index_or i.volumes.items place was = search rules in
    written_seen g.D.Disk.seen i.state i.volumes.items i.note c.args.self.now c.self.view_is place was value lt c.written-2.result c.args.disk c.written-2.ensures (omega (arith, c.if-disk-eq0.false))
