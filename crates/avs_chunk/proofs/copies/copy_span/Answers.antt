use Rattle.std.proofs.Common.{ℕ, length-take, arith}
use Rattle.avs_chunk.proofs.SameDisks.{CopiesSpan-write}
use Rattle.avs_chunk.proofs.copies.copy_span.Goals as goal

pub returns-clause-copies : goal.returns-clause-copies
returns-clause-copies g c =
    CopiesSpan-write (g.D.Disk.seen c.args.from.now) (g.D.Disk.seen c.read.new.self) (g.D.Disk.seen c.args.to.now) (g.D.Disk.seen c.write.new.self) c.args.span.at c.args.span.len c.read.new.out c.read.result _ c.write.result
    (omega (arith, length-take {A = ℕ})) c.requires.to c.in_ok-read.was c.read.ensures c.write.ensures
