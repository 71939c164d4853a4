use Rattle.std.proofs.Common.{◌≡◌, ◌/◌, length, Result, OnOk, subst, arith}
use Rattle.avs_seg.specs.declared.fault.Failed.{Failed}
use Rattle.avs_seg.specs.Image.{range, blocks_of}
use Rattle.avs_entries.proofs.Formatting.{HasArea-read, HasArea-cleared}
use Rattle.avs_entries.proofs.formats.read_entries.Goals as goal

pub returns-clause-area : goal.returns-clause-area
returns-clause-area g c told =
    let disk = g.D.Disk.seen c.args.disk.now in
    let shown = subst (λ (r : Result (Unit {0}) Failed). OnOk r (blocks_of c.read.new.out ≡ range disk.image c.live_first.result (length c.read.new.out / 512))) c.in_ok-read.was (c.read.ensures.shows told) in
    HasArea-cleared _ c.args.blocks c.seg_count.result c.read.new.out c.clear_from.new.bytes c.seg_count.ensures c.clear_from.ensures.before
    (HasArea-read disk c.args.blocks c.live_first.result c.args.live_b c.read.new.out c.live_first.ensures.is (omega (arith, c.read.auto.out)) shown)
