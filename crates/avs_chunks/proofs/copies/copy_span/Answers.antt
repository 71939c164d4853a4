use Rattle.std.proofs.Common.{rules, ◌≡◌, ℕ, Err, length-take, arith}
use Rattle.avs_chunks.proofs.Copied.{span_unread, span_written}
use Rattle.avs_chunks.proofs.copies.copy_span.Goals as goal

pub returns-clause-copies : goal.returns-clause-copies
returns-clause-copies g c =
    span_written (g.D.Disk.seen c.args.from.now) (g.D.Disk.seen c.read.new.self) (g.D.Disk.seen c.args.to.now) (g.D.Disk.seen c.write.new.self) c.args.span.at c.args.span.len c.read.new.out c.read.result _ c.write.result
    (omega (arith, length-take {A = ℕ})) c.requires.to c.in_ok-read.was c.read.ensures c.write.ensures

pub returns-in_err-read-clause-copies : goal.returns-in_err-read-clause-copies
returns-in_err-read-clause-copies g c =
    let is : c.from_residual.result ≡ Err c.in_err-read.field-0.0 = search rules in
    rw is (span_unread (g.D.Disk.seen c.args.from.now) (g.D.Disk.seen c.read.new.self) (g.D.Disk.seen c.args.to.now) c.args.span.at c.args.span.len c.read.new.out c.read.result c.in_err-read.field-0.0 c.in_err-read.field-0.0 c.in_err-read.was c.read.ensures)
