use Rattle.std.proofs.Common.{◌≡◌, Err, ap, rules, arith}
use Rattle.avs_join.specs.Imported.{ImportDisks}
use Rattle.avs_join.proofs.Writes.{bits_failed, blocks_written}
use Rattle.avs_join.proofs.import.Import.write.Goals as goal

pub overflow_cast-bytes : goal.overflow_cast-bytes
overflow_cast-bytes g c =
    let fits = g.met.D.Disk.fits c.self.inside.volume in
    let size = ap (λ (i : ImportDisks). i.volume.size) c.self.view_is in
    omega (arith, fits, size, c.requires.inside)

pub overflow_add-at : goal.overflow_add-at
overflow_add-at g c =
    let fits = g.met.D.Disk.fits c.self.inside.volume in
    let size = ap (λ (i : ImportDisks). i.volume.size) c.self.view_is in
    omega (arith, fits, size, c.requires.inside)

pub returns-in_err-set : goal.returns-in_err-set
returns-in_err-set g c = rw (← c.self.view_is) (
    let old : ImportDisks = record { volume = g.D.Disk.seen c.self.inside.volume; bits = c.self.inside.bits } in
    let e = c.in_err-set.field-0.0 in
    let is : c.from_residual.result ≡ Err e = search rules in
    let range = rw (← c.self.view_is) at c.requires in
    let changed = rw c.seg_count-end.ensures at c.in_err-set.ensures in
    rw is (bits_failed old c.args.at c.args.bytes.now c.self.invariant range c.set.new.self e e changed))

pub returns : goal.returns
returns g c = rw (← c.self.view_is) (
    let old : ImportDisks = record { volume = g.D.Disk.seen c.self.inside.volume; bits = c.self.inside.bits } in
    let range = rw (← c.self.view_is) at c.requires in
    let changed = rw c.seg_count-end.ensures at c.in_ok-set.ensures in
    blocks_written old c.args.at c.args.bytes.now c.self.invariant range c.set.new.self c.in_ok-set.field-0 changed (g.D.Disk.seen c.write.new.self) c.write.result c.write.ensures)
