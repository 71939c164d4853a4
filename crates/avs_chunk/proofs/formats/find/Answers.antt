use Rattle.std.proofs.Common.{rules, ◌≡◌}
use Rattle.std.specs.Vec.{with_items}
use Rattle.std.proofs.lemmas.List.{with_items_is}
use Rattle.avs_chunk.proofs.Formatting.{HasArea-faults}
use Rattle.avs_chunk.proofs.formats.find.Goals as goal

pub returns-clause-area : goal.returns-clause-area
returns-clause-area g c told =
    let items : (with_items c.in_ok-room.room.memory c.read_states.new.memory).items ≡ c.read_states.new.memory = with_items_is c.in_ok-room.room.memory c.read_states.new.memory (search rules) in
    rw items (HasArea-faults (g.D.Disk.seen c.args.disk.now) (g.D.Disk.seen c.read_label.new.disk) c.args.blocks c.args.live_b c.read_states.new.memory c.read_label.ensures.rest told c.in_ok-read_states.ensures.area)
