use Rattle.std.proofs.Common.{◌≡◌, ◌-◌, Err, rules, arith}
use Rattle.avs_model.specs.Limits.{import_blocks}
use Rattle.avs_join.proofs.Formatted.{label_failed, bits_failed, formats}
use Rattle.avs_join.proofs.format.write_all.Goals as goal

pub returns-in_err-unlabel : goal.returns-in_err-unlabel
returns-in_err-unlabel g c =
    let e = c.in_err-unlabel.field-0.0 in
    let is : c.from_residual.result ≡ Err e = search rules in
    rw is (label_failed c.args.blocks c.args.stamp (g.D.Disk.seen c.args.bitmap.now) (g.D.Disk.seen c.unlabel.new.bitmap) c.requires.fits e e c.in_err-unlabel.ensures)

pub returns-in_err-write_bits : goal.returns-in_err-write_bits
returns-in_err-write_bits g c =
    let e = c.in_err-write_bits.field-0.0 in
    let is : c.from_residual-in_err-write_bits.result ≡ Err e = search rules in
    let count : c.bit_blocks.result ≡ import_blocks c.args.blocks - 1 = omega (arith, c.bit_blocks.ensures) in
    let cleared = rw count at c.in_err-write_bits.ensures in
    rw is (bits_failed c.args.blocks c.args.stamp (g.D.Disk.seen c.args.bitmap.now) (g.D.Disk.seen c.unlabel.new.bitmap) c.requires.fits c.in_ok-unlabel.field-0 c.in_ok-unlabel.ensures
    (g.D.Disk.seen c.write_bits.new.bitmap) e e cleared)

pub returns : goal.returns
returns g c =
    let count : c.bit_blocks.result ≡ import_blocks c.args.blocks - 1 = omega (arith, c.bit_blocks.ensures) in
    let cleared = rw count at c.in_ok-write_bits.ensures in
    formats c.args.blocks c.args.stamp (g.D.Disk.seen c.args.bitmap.now) (g.D.Disk.seen c.unlabel.new.bitmap) c.requires.fits c.in_ok-unlabel.field-0 c.in_ok-unlabel.ensures
    (g.D.Disk.seen c.write_bits.new.bitmap) c.in_ok-write_bits.field-0 cleared (g.D.Disk.seen c.write_label.new.bitmap) c.write_label.result c.write_label.ensures
