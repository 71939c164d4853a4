use Rattle.std.proofs.Common.{rules, ◌≡◌, Err, subst}
use Rattle.avs_compact.specs.CompactSet.{CompactSet, over_of}
use Rattle.avs_compact.specs.Keeping.{Settles}
use Rattle.avs_compact.proofs.Due.{copies_err}
use Rattle.avs_compact.proofs.compact.Compact.copy_one.Goals as goal

pub returns-in_err-settle_old-clause-copies : goal.returns-in_err-settle_old-clause-copies
returns-in_err-settle_old-clause-copies g c =
    let seen = g.D.Disk.seen in
    let o = over_of c.args.over.now in
    let o' = over_of c.settle_old.new.over in
    let m = seen c.args.master.now in
    let m' = seen c.settle_old.new.master in
    let is : c.from_residual.result ≡ Err c.in_err-settle_old.field-0.0 = search rules in
    let st = subst (λ (s : CompactSet). Settles s o m c.in-Some.chunk 1 c.settle_old.result c.settle_old.new.self o' m') c.in-Some.ensures.same c.settle_old.ensures.settles in
    rw is (copies_err c.args.self.now c.settle_old.new.self o o' m m' c.in-Some.chunk c.settle_old.result c.in_err-settle_old.field-0.0 c.in_err-settle_old.field-0.0 c.in-Some.ensures.finds c.in_err-settle_old.was st)
