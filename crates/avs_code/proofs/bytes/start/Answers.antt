use Rattle.std.proofs.Common.{length, ◌++◌, ap}
use Rattle.std.proofs.lemmas.List.{drop-replicate}
use Rattle.avs_code.specs.Bytes.{zeros}
use Rattle.avs_code.proofs.bytes.start.Goals as goal

pub returns : goal.returns
unfolding zeros
returns c =
    let filled = c.fill.ensures.after (λ y is. is) in
    rw (c.copy_from_slice.ensures.after, filled) (ap (λ rest. c.args.magic.now ++ rest) (drop-replicate (length c.args.magic.now) (length c.args.out.now) 0))
