use Rattle.std.proofs.Common.{rules, ◌≡◌, ◌+◌, Result, Err, refl, subst}
use Rattle.avs_seg.specs.declared.fault.Failed.{Failed}
use Rattle.avs_dev.specs.Seen.{Writes}
use Rattle.avs_code.specs.Label.{IsLabel}
use Rattle.avs_code.specs.declared.labels.Label.{Label}
use Rattle.avs_entries.proofs.Formatting.{Formats-1, Formats-2, Formats-3}
use Rattle.avs_entries.proofs.formats.format.Goals as goal

pub returns-in_err-write : goal.returns-in_err-write
returns-in_err-write g c =
    let d = g.D.Disk.seen c.args.disk.now in
    let is : c.from_residual.result ≡ Err c.in_err-write.field-0.0 = search rules in
    let label = subst (λ (x : Label). IsLabel c.put_label.new.out x) c.compact_label.ensures.is c.put_label.ensures in
    let w = subst (λ (r : Result (Unit {0}) Failed). Writes d 0 c.put_label.new.out r (g.D.Disk.seen c.write.new.self)) c.in_err-write.was c.write.ensures in
    rw is (Formats-1 d (g.D.Disk.seen c.write.new.self) d d c.args.blocks _ _ c.put_label.new.out c.args.memory.now c.put_label.array_long label refl refl c.requires.zeros c.requires.long c.requires.some c.requires.fits c.in_err-write.field-0.0 w)

pub returns-in_err-write-2 : goal.returns-in_err-write-2
returns-in_err-write-2 g c =
    let d = g.D.Disk.seen c.args.disk.now in
    let is : c.from_residual-in_err-write-2.result ≡ Err c.in_err-write-2.field-0.0 = search rules in
    let label = subst (λ (x : Label). IsLabel c.put_label.new.out x) c.compact_label.ensures.is c.put_label.ensures in
    let w = subst (λ (r : Result (Unit {0}) Failed). Writes d 0 c.put_label.new.out r (g.D.Disk.seen c.write.new.self)) c.in_ok-write.was c.write.ensures in
    let w2 = subst (λ (r : Result (Unit {0}) Failed). Writes (g.D.Disk.seen c.write.new.self) 1 c.args.memory.now r (g.D.Disk.seen c.write-2.new.self)) c.in_err-write-2.was c.write-2.ensures in
    rw is (Formats-2 d (g.D.Disk.seen c.write.new.self) (g.D.Disk.seen c.write-2.new.self) d c.args.blocks _ _ c.put_label.new.out c.args.memory.now c.put_label.array_long label refl refl c.requires.zeros c.requires.long c.requires.some c.requires.fits c.in_ok-write.field-0 c.in_err-write-2.field-0.0 w w2)

pub returns : goal.returns
returns g c =
    let d = g.D.Disk.seen c.args.disk.now in
    let label = subst (λ (x : Label). IsLabel c.put_label.new.out x) c.compact_label.ensures.is c.put_label.ensures in
    let w = subst (λ (r : Result (Unit {0}) Failed). Writes d 0 c.put_label.new.out r (g.D.Disk.seen c.write.new.self)) c.in_ok-write.was c.write.ensures in
    let w2 = subst (λ (r : Result (Unit {0}) Failed). Writes (g.D.Disk.seen c.write.new.self) 1 c.args.memory.now r (g.D.Disk.seen c.write-2.new.self)) c.in_ok-write-2.was c.write-2.ensures in
    Formats-3 d (g.D.Disk.seen c.write.new.self) (g.D.Disk.seen c.write-2.new.self) (g.D.Disk.seen c.write-3.new.self) c.args.blocks c.area_len.result (1 + c.area_len.result) c.put_label.new.out c.args.memory.now c.put_label.array_long label c.area_len.ensures.is refl c.requires.zeros c.requires.long c.requires.some c.requires.fits c.in_ok-write.field-0 c.in_ok-write-2.field-0 c.write-3.result w w2 c.write-3.ensures
