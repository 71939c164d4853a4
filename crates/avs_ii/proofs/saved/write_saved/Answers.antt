use Rattle.avs_ii.proofs.Masters.{behind_ok, behind_err}
use Rattle.avs_ii.proofs.saved.write_saved.Goals as goal

pub returns-in-Ok : goal.returns-in-Ok
returns-in-Ok g c =
    behind_ok c.args.chunks.now (g.D.Disk.seen c.args.master.now) c.args.at c.args.bytes.now c.seg_count.result c.save_range.new.self (g.D.Disk.seen c.save_range.new.master) (g.D.Disk.seen c.write.new.self) c.in-Ok.field-0 c.save_range.result c.write.result
    (record { some = c.requires.some; whole = c.requires.whole; inside = c.requires.inside; size = c.requires.blocks }) c.requires.settled c.in-Ok.is c.seg_count.ensures c.save_range.ensures c.write.ensures

pub returns-in-Err : goal.returns-in-Err
returns-in-Err g c =
    behind_err c.args.chunks.now (g.D.Disk.seen c.args.master.now) c.args.at c.args.bytes.now c.seg_count.result c.save_range.new.self (g.D.Disk.seen c.save_range.new.master) c.in-Err.field-0 c.save_range.result (record {})
    (record { some = c.requires.some; whole = c.requires.whole; inside = c.requires.inside; size = c.requires.blocks }) c.requires.settled c.in-Err.is c.seg_count.ensures c.save_range.ensures
