use Rattle.avs_held.proofs.Room.{room_there}
use Rattle.avs_held.proofs.Putting.{writes_set}
use Rattle.avs_held.proofs.held.HeldSet.put_shadow.Goals as goal

pub returns : goal.returns
returns g c =
    let inside = rw (← c.self.view_is) at c.requires.inside in
    let there = rw (← c.self.view_is) at c.requires.there in
    let split = rw (← c.self.view_is) at c.requires.split in
    rw (← c.self.view_is) (writes_set c.self.inside.seat c.self.inside.chunks c.put_shadow.new.self c.args.at c.args.bytes.now c.put_shadow.result c.put_shadow.ensures
    c.requires.some c.requires.whole inside (room_there c.self.inside.chunks c.self.invariant there) split)
