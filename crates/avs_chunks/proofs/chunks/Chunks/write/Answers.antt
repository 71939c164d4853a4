use Rattle.std.proofs.Common.{rules, ◌≡◌, ◌≤◌, ℕ, Bool, Ok, Err, IsTrue, is_some, sym, subst}
use Rattle.std.specs.Option.{option_map}
use Rattle.avs_seg.specs.declared.fault.Failed.{Failed}
use Rattle.avs_seg.specs.Segment.{first_segment}
use Rattle.avs_chunks.specs.ChunkSet.{disk_of}
use Rattle.avs_chunks.specs.Writing.{SavesRange}
use Rattle.avs_chunks.proofs.Written.{writes_saves, writes_put, room_there}
use Rattle.avs_chunks.proofs.chunks.Chunks.write.Goals as goal

pub returns-in_err-save_range : goal.returns-in_err-save_range
returns-in_err-save_range g c =
    let is : c.from_residual.result ≡ Err c.in_err-save_range.field-0.0 = search rules in
    let saved = subst (λ (n : ℕ). SavesRange c.args.self.now (g.D.Disk.seen c.args.master.now) (first_segment c.args.at) n c.save_range.result c.save_range.new.self (g.D.Disk.seen c.save_range.new.master)) c.seg_count.ensures c.save_range.ensures in
    rw is (writes_saves c.args.self.now c.save_range.new.self (g.D.Disk.seen c.args.master.now) (g.D.Disk.seen c.save_range.new.master) c.args.at c.args.bytes.now c.requires.some c.requires.whole c.requires.inside
    c.in_err-save_range.field-0.0 c.in_err-save_range.field-0.0 c.save_range.result c.in_err-save_range.was saved)

pub returns : goal.returns
returns g c =
    let saved = rw (← c.self.view_is) at (subst (λ (n : ℕ). SavesRange {T = Unit {0}} {E = Failed} c.args.self.now (g.D.Disk.seen c.args.master.now) (first_segment c.args.at) n (Ok c.in_ok-save_range.field-0) c.save_range.new.self (g.D.Disk.seen c.save_range.new.master)) c.seg_count.ensures c.in_ok-save_range.ensures) in
    let there : IsTrue (is_some (option_map g.D.Disk.seen c.self.inside.shadow)) = subst (λ (b : Bool). IsTrue b) (sym saved.keeps.shape.there) c.requires.there in
    writes_put c.args.self.now _ (g.D.Disk.seen c.args.master.now) (g.D.Disk.seen c.save_range.new.master) c.args.at c.args.bytes.now c.requires.some c.requires.whole c.requires.inside
    (option_map g.D.Disk.seen c.write_there.new.shadow) (search rules)
    (subst (λ (n : ℕ). n ≤ (disk_of (option_map g.D.Disk.seen c.self.inside.shadow)).size) saved.keeps.shape.blocks (room_there (option_map g.D.Disk.seen c.self.inside.shadow) c.self.inside.blocks there c.self.invariant.0.room))
    c.in_ok-save_range.field-0 saved c.write_there.result c.write_there.ensures.writes
