use Rattle.std.proofs.Common.{ap}
use Rattle.std.proofs.lemmas.Result.{err_from_is_err_and}
use Rattle.avs_model.specs.declared.entry.Entry.{Entry}
use Rattle.avs_sender.proofs.Admittings.{admits_placed, placed_bits}
use Rattle.avs_sender.proofs.sender.Sender.place.Goals as goal

pub returns-in_err-place_write-clause-places : goal.returns-in_err-place_write-clause-places
returns-in_err-place_write-clause-places g c =
    let p = err_from_is_err_and c.from_residual.result c.from_residual.ensures.1 in
    let may = rw (← c.self.view_is) at c.requires.may in
    let over = rw (← c.self.view_is) at c.requires.over in
    let bytes = ap (λ (e : Entry). e.bytes) c.requires.entry in
    rw (p.1) (rw (← c.self.view_is) (placed_bits (g.B.Below.IsSound c.self.inside.below) (g.B.Below.IsSound c.self.inside.below) (g.B.Below.seen c.self.inside.below) c.self.inside.half c.args.entry c.args.span.at c.args.span.len c.args.bytes.now c.self.invariant over may bytes
    c.in_err-place_write.field-0.0 c.place_write.new.self c.in_err-place_write.ensures))

pub returns-clause-places : goal.returns-clause-places
returns-clause-places g c =
    let may = rw (← c.self.view_is) at c.requires.may in
    let over = rw (← c.self.view_is) at c.requires.over in
    let bytes = ap (λ (e : Entry). e.bytes) c.requires.entry in
    rw (← c.self.view_is) (admits_placed (g.B.Below.IsSound c.self.inside.below) (g.B.Below.IsSound c.write_placed.new.self.below) (g.B.Below.seen c.self.inside.below) c.self.inside.half c.args.entry c.args.span.at c.args.span.len c.args.bytes.now c.self.invariant over may bytes
    c.place_write.new.self c.in_ok-place_write.ensures (g.B.Below.seen c.write_placed.new.self.below) c.write_placed.result c.write_placed.new.self.half c.write_placed.ensures.writes c.write_placed.ensures.ok c.write_placed.ensures.err c.write_placed.ensures.sound)
