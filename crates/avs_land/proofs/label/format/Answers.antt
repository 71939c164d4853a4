use Rattle.std.proofs.Common.{◌≡◌, Err, rules}
use Rattle.avs_land.proofs.Writing.{formats_none, formats}
use Rattle.avs_land.proofs.label.format.Goals as goal

pub returns-in_err-write_label : goal.returns-in_err-write_label
returns-in_err-write_label g c =
    let is : c.from_residual.result ≡ Err c.in_err-write_label.field-0.0 = search rules in
    rw is (formats_none (g.D.Disk.seen c.args.disk.now) (g.D.Disk.seen c.write_label.new.disk) c.requires c.in_err-write_label.field-0.0 c.in_err-write_label.field-0.0 c.in_err-write_label.ensures)

pub returns : goal.returns
returns g c = formats (g.D.Disk.seen c.args.disk.now) (g.D.Disk.seen c.write_label.new.disk) (g.D.Disk.seen c.write_header.new.disk) c.requires c.in_ok-write_label.field-0 c.in_ok-write_label.ensures c.write_header.result c.write_header.ensures
