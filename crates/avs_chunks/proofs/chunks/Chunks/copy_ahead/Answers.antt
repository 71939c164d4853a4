use Rattle.std.proofs.Common.{rules, ◌*◌, refl}
use Rattle.std.specs.Option.{option_map}
use Rattle.avs_seg.specs.Segment.{seg_len}
use Rattle.avs_chunks.specs.ChunkSet.{ChunkSet}
use Rattle.avs_chunks.proofs.Copied.{copied_there}
use Rattle.avs_chunks.proofs.Readings.{copies_ahead}
use Rattle.avs_chunks.proofs.chunks.Chunks.copy_ahead.Goals as goal

pub returns : goal.returns
returns g c =
    let i = c.self.inside in
    let seen = g.D.Disk.seen in
    let s : ChunkSet = record { kind = i.kind; shadow = option_map seen i.shadow; areas = i.flip; memory = i.memory.items; next = i.next.items; blocks = i.blocks } in
    let there = rw (← c.self.view_is) at c.requires.chunk in
    let left = rw (← c.self.view_is) at c.requires.left in
    rw (← c.self.view_is) (copies_ahead s (seen c.args.master.now) (seen c.copy_chunk.new.master) (option_map seen c.copy_chunk.new.shadow) c.args.chunk c.copy_chunk.result (search rules) there left
    (copied_there 0 c.seg_span-span.result.at c.seg_span-span.result.len 0 (64 * c.args.chunk) (seg_len c.args.chunk i.blocks) c.copy_chunk.result _ _ _ _ refl c.seg_span-span.ensures.at c.seg_span-span.ensures.len c.seg_span-span.ensures.some c.copy_chunk.ensures.copies))
