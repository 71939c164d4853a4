use Rattle.avs_sender.proofs.Admittings.{admits_local}
use Rattle.avs_sender.proofs.sender.Sender.write.Goals as goal

pub returns-clause-writes : goal.returns-clause-writes
returns-clause-writes g c =
    let may = rw (← c.self.view_is) at c.requires.may in
    let there = rw (← c.self.view_is) at c.requires.set in
    let range = rw (← c.self.view_is) at c.requires.range in
    let number = rw (← c.self.view_is) at c.requires.number in
    rw (← c.self.view_is, c.write_noted.ensures.rest) (admits_local (g.B.Below.IsSound c.self.inside.below) (g.B.Below.IsSound c.write_noted.new.below) (g.B.Below.seen c.self.inside.below) c.self.inside.half c.args.set c.args.at c.args.bytes.now number c.self.invariant there range may
    c.write_noted.result c.write_noted.new.self.sets (g.B.Below.seen c.write_noted.new.below) c.write_noted.ensures.writes c.write_noted.ensures.sound)
