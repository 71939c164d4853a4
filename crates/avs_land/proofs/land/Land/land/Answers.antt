use Rattle.std.proofs.Common.{◌≡◌, Err, rules}
use Rattle.avs_land.specs.Landing.{Landing}
use Rattle.avs_land.proofs.Areas.{entry_few}
use Rattle.avs_land.proofs.Landings.{area_failed, header_failed, header_done}
use Rattle.avs_land.proofs.land.Land.land.Goals as goal

pub returns-in_err-write_area : goal.returns-in_err-write_area
returns-in_err-write_area g c = rw (← c.self.view_is) (
    let old : Landing = record { disk = g.D.Disk.seen c.self.inside.disk; header = c.self.inside.header } in
    let e = c.in_err-write_area.field-0.0 in
    let is : c.from_residual.result ≡ Err e = search rules in
    rw is (area_failed old c.args.session c.args.place c.args.entry.now c.as_slice.result.now c.as_slice.ensures.blocks c.self.invariant.1 (entry_few c.args.entry.now c.requires.entry)
    (g.D.Disk.seen c.write_area.new.disk) e e c.in_err-write_area.ensures))

pub returns-in_err-write_header : goal.returns-in_err-write_header
returns-in_err-write_header g c = rw (← c.self.view_is) (
    let old : Landing = record { disk = g.D.Disk.seen c.self.inside.disk; header = c.self.inside.header } in
    let e = c.in_err-write_header.field-0.0 in
    let is : c.from_residual-in_err-write_header.result ≡ Err e = search rules in
    let header = rw c.header_for-header.ensures at c.in_err-write_header.ensures in
    rw is (header_failed old c.args.session c.args.place c.args.entry.now c.as_slice.result.now c.as_slice.ensures.blocks c.self.invariant.1 (entry_few c.args.entry.now c.requires.entry)
    (g.D.Disk.seen c.write_area.new.disk) (g.D.Disk.seen c.write_header.new.disk) c.in_ok-write_area.field-0 c.in_ok-write_area.ensures e e header))

pub returns : goal.returns
returns g c = rw (← c.self.view_is, c.header_for-header.ensures) (
    let old : Landing = record { disk = g.D.Disk.seen c.self.inside.disk; header = c.self.inside.header } in
    let header = rw c.header_for-header.ensures at c.in_ok-write_header.ensures in
    header_done old c.args.session c.args.place c.args.entry.now c.as_slice.result.now c.as_slice.ensures.blocks c.self.invariant.1 (entry_few c.args.entry.now c.requires.entry)
    (g.D.Disk.seen c.write_area.new.disk) (g.D.Disk.seen c.write_header.new.disk) c.in_ok-write_area.field-0 c.in_ok-write_area.ensures c.in_ok-write_header.field-0 tt header)
