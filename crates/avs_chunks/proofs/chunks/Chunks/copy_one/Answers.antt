use Rattle.std.proofs.Common.{rules, ◌≡◌, Err, subst}
use Rattle.avs_chunks.specs.States.{on_both}
use Rattle.avs_chunks.specs.ChunkSet.{ChunkSet}
use Rattle.avs_chunks.specs.Calls.{Settles}
use Rattle.avs_chunks.proofs.Dues.{copies_fail}
use Rattle.avs_chunks.proofs.chunks.Chunks.copy_one.Goals as goal

pub returns-in_err-settle : goal.returns-in_err-settle
returns-in_err-settle g c =
    let before = g.D.Disk.seen c.args.master.now in
    let after = g.D.Disk.seen c.settle.new.master in
    let is : c.from_residual.result ≡ Err c.in_err-settle.field-0.0 = search rules in
    let settles = subst (λ (s : ChunkSet). Settles s before c.in-Some.chunk on_both c.settle.result c.settle.new.self after) c.in-Some.ensures.same c.settle.ensures in
    rw is (copies_fail c.args.self.now c.settle.new.self before after c.in-Some.chunk c.in_err-settle.field-0.0 c.in_err-settle.field-0.0 c.settle.result c.in_err-settle.was c.in-Some.ensures.finds settles)
