use Rattle.std.proofs.Common.{rules, IsTrue, is_some}
use Rattle.std.specs.Option.{option_map}
use Rattle.avs_chunks.specs.ChunkSet.{ChunkSet}
use Rattle.avs_chunks.proofs.Written.{puts_shadow, room_there}
use Rattle.avs_chunks.proofs.chunks.Chunks.put_shadow.Goals as goal

pub returns : goal.returns
returns g c =
    let i = c.self.inside in
    let seen = g.D.Disk.seen in
    let s : ChunkSet = record { kind = i.kind; shadow = option_map seen i.shadow; areas = i.flip; memory = i.memory.items; next = i.next.items; blocks = i.blocks } in
    let there : IsTrue (is_some (option_map seen i.shadow)) = rw (← c.self.view_is) at c.requires.there in
    let fits = rw (← c.self.view_is) at c.requires.inside in
    rw (← c.self.view_is) (puts_shadow s (option_map seen c.write_there.new.shadow) c.args.at c.args.bytes.now fits c.write_there.result (search rules) (room_there (option_map seen i.shadow) i.blocks there c.self.invariant.0.room) c.write_there.ensures.writes)
