use Rattle.std.proofs.Common.{◌≤◌, length, arith}
use Rattle.avs_told.proofs.Pieces.{given-is, held-given, one-line-given}
use Rattle.avs_told.proofs.told.Told.give.Goals as goal

pub returns-clause-held : goal.returns-clause-held
returns-clause-held g c =
    let s = c.args.self.now in
    let line = c.first_line-line.result.now in
    let n = c.min-count.result in
    let le : n ≤ length line = omega (arith, c.min-count.ensures) in
    held-given s.buffer line _ s.start s.end n le c.first_line-line.ensures.inside c.first_line-line.ensures.front (given-is line c.args.out.now c.copy_from_slice.new.self n le c.copy_from_slice.ensures.after)

pub returns-clause-one : goal.returns-clause-one
returns-clause-one g c =
    let line = c.first_line-line.result.now in
    let n = c.min-count.result in
    let le : n ≤ length line = omega (arith, c.min-count.ensures) in
    one-line-given line _ n (omega (arith, c.min-count.ensures, c.requires.room, c.first_line-line.ensures.some)) le (given-is line c.args.out.now c.copy_from_slice.new.self n le c.copy_from_slice.ensures.after) c.first_line-line.ensures.one
