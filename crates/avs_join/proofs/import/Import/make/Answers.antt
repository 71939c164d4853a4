use Rattle.avs_join.proofs.Founds.{makes, if_ok_more}
use Rattle.avs_join.proofs.import.Import.make.Goals as goal

pub returns-in-Ok-clause-made : goal.returns-in-Ok-clause-made
returns-in-Ok-clause-made g c =
    let volume = g.D.Disk.seen c.args.shadow in
    let bitmap = g.D.Disk.seen c.args.bitmap in
    let mid = g.D.Disk.seen c.format.new.bitmap in
    let formatted = rw c.blocks-2.ensures at c.in-Ok.ensures in
    if_ok_more _ _ c.load.result (makes volume bitmap mid c.args.stamp c.in-Ok.field-0 formatted.0 formatted.1) c.load.ensures.found
