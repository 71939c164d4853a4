use Rattle.avs_join.proofs.Formatted.{bits_written}
use Rattle.avs_join.proofs.format.write_bits.Goals as goal

pub returns : goal.returns
returns g c =
    let w = rw c.requires.zeros at c.write.ensures in
    bits_written (g.D.Disk.seen c.args.bitmap.now) (g.D.Disk.seen c.write.new.self) c.args.count c.requires.fits c.write.result w
