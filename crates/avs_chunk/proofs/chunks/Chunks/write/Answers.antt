use Rattle.std.proofs.Common.{rules, ◌≡◌, ◌≤◌, ◌/◌, ℕ, length, Bool, Err, IsTrue, is_some, sym, ap, subst}
use Rattle.std.specs.Option.{option_map}
use Rattle.avs_seg.specs.Segment.{first_segment}
use Rattle.avs_chunk.specs.ChunkSet.{ChunkSet, disk_of}
use Rattle.avs_chunk.specs.Calls.{chunks_end}
use Rattle.avs_chunk.proofs.SameDisks.{room_there}
use Rattle.avs_chunk.proofs.Chains.{Saves-words}
use Rattle.avs_chunk.proofs.Writing.{WritesShadow-saves, WritesShadow-write}
use Rattle.avs_chunk.proofs.chunks.Chunks.write.Goals as goal

pub returns-in_err-save_range : goal.returns-in_err-save_range
returns-in_err-save_range g c =
    let is : c.from_residual.result ≡ Err c.in_err-save_range.field-0.0 = search rules in
    rw is (WritesShadow-saves c.args.self.now c.save_range.new.self (g.D.Disk.seen c.args.master.now) (g.D.Disk.seen c.save_range.new.master) c.args.at c.args.bytes.now c.requires.some c.requires.whole c.requires.inside
    c.in_err-save_range.field-0.0 (Saves-words c.args.self.now c.save_range.new.self (g.D.Disk.seen c.args.master.now) (g.D.Disk.seen c.save_range.new.master) (first_segment c.args.at) c.seg_count.result (chunks_end c.args.at (length c.args.bytes.now / 512)) c.save_range.result _ c.in_err-save_range.was c.seg_count.ensures c.save_range.ensures))

pub returns : goal.returns
returns g c =
    let blocks = ap (λ (s : ChunkSet). s.blocks) c.self.view_is in
    let was = rw (← c.self.view_is) at (Saves-words c.args.self.now c.save_range.new.self (g.D.Disk.seen c.args.master.now) (g.D.Disk.seen c.save_range.new.master) (first_segment c.args.at) c.seg_count.result (chunks_end c.args.at (length c.args.bytes.now / 512)) c.save_range.result _ c.in_ok-save_range.was c.seg_count.ensures c.save_range.ensures) in
    let there : IsTrue (is_some (option_map g.D.Disk.seen c.self.inside.shadow)) = subst (λ (b : Bool). IsTrue b) (sym was.stays.there) c.requires.there in
    WritesShadow-write c.args.self.now _ (g.D.Disk.seen c.args.master.now) (g.D.Disk.seen c.save_range.new.master) c.args.at c.args.bytes.now c.requires.some c.requires.whole c.requires.inside
    c.in_ok-save_range.field-0 (option_map g.D.Disk.seen c.write_there.new.shadow) (search rules)
    (subst (λ (n : ℕ). n ≤ (disk_of (option_map g.D.Disk.seen c.self.inside.shadow)).size) was.stays.blocks (room_there (option_map g.D.Disk.seen c.self.inside.shadow) c.self.inside.blocks there c.self.invariant.room))
    was c.write_there.result c.write_there.ensures.writes
