use Rattle.std.proofs.Common.{rules, ◌≡◌, ◌<◌, ◌+◌, ◌*◌, ℕ, Bool, IsTrue, Ok, Err, refl, ap, subst, sym, ◌∙◌, arith}
use Rattle.avs_seg.specs.declared.fault.Failed.{Failed}
use Rattle.avs_entries.specs.Parts.{is_ahead, part_end}
use Rattle.avs_compact.specs.CompactSet.{CompactSet, chunks_of, entry_of, over_of}
use Rattle.avs_compact.specs.Disks.{Master}
use Rattle.avs_compact.specs.Ahead.{CopiesTold}
use Rattle.avs_compact.proofs.AheadThen.{told_none, told_more, told_fail, told_here, room_here}
use Rattle.avs_compact.proofs.compact.Compact.copy_part.Goals as goal

pub loop-chunk-init : goal.loop-chunk-init
loop-chunk-init g c = record {
  size = c.requires.blocks;
  there = c.requires.there;
  still = refl;
  told = told_none c.args.self.now (over_of c.args.over.now) (g.D.Disk.seen c.args.master.now) (is_ahead c.args.split.now c.args.part (entry_of c.args.self.now)) (2048 * c.args.part);
}

pub copy_told-requires-clause-chunk : goal.copy_told-requires-clause-chunk
copy_told-requires-clause-chunk g c =
    let blocks = ap (λ (s : CompactSet). s.blocks) c.self.view_is in
    let same = ap (λ (s : CompactSet). s.blocks) c.loop-chunk.invariant.told.keeps.is in
    omega (arith, blocks, same, c.loop-chunk-test.true, c.min-end.ensures, c.seg_count.ensures)

pub copy_told-requires-clause-room : goal.copy_told-requires-clause-room
copy_told-requires-clause-room g c =
    let blocks = ap (λ (s : CompactSet). s.blocks) c.self.view_is in
    let lt : c.loop-chunk.chunk < part_end (chunks_of c.args.self.now) c.args.part = omega (arith, blocks, c.loop-chunk-test.true, c.min-end.ensures, c.seg_count.ensures) in
    λ told none. room_here c.args.self.now c.loop-chunk.self (over_of c.args.over.now) (over_of c.loop-chunk.over) (g.D.Disk.seen c.args.master.now) (g.D.Disk.seen c.loop-chunk.master) c.args.split.now c.args.part c.loop-chunk.chunk (part_end (chunks_of c.args.self.now) c.args.part)
    (omega (arith, c.loop-chunk.auto.chunk)) lt c.loop-chunk.invariant.told (sym c.has_bit.ensures ∙ told) none c.requires.room

pub loop-chunk-preserved : goal.loop-chunk-preserved
loop-chunk-preserved g c =
    let s = c.args.self.now in
    let list = is_ahead c.args.split.now c.args.part (entry_of s) in
    let so = c.loop-chunk.invariant.told in
    let here = told_here s c.loop-chunk.self (over_of c.args.over.now) (over_of c.loop-chunk.over) (g.D.Disk.seen c.args.master.now) (g.D.Disk.seen c.loop-chunk.master) c.args.split.now c.args.part c.loop-chunk.chunk so c.has_bit.result c.has_bit.ensures in
    let more = told_more s c.loop-chunk.self c.copy_told.new.self (over_of c.args.over.now) (over_of c.loop-chunk.over) (over_of c.copy_told.new.over) (g.D.Disk.seen c.args.master.now) (g.D.Disk.seen c.loop-chunk.master) (g.D.Disk.seen c.copy_told.new.master)
    list (2048 * c.args.part) c.loop-chunk.chunk (c.loop-chunk.chunk + 1) (omega (arith, c.loop-chunk.auto.chunk)) (omega arith) so c.copy_told.result c.in_ok-copy_told.was (c.copy_told.ensures.copies list here) in
    record {
      size = (more.keeps.goes.lasts Master).size ∙ c.requires.blocks ∙ sym (ap (λ (x : CompactSet). x.blocks) more.keeps.is);
      there = subst (λ (b : Bool). IsTrue b) (sym more.keeps.there) c.requires.there;
      still = c.copy_told.ensures.still ∙ c.loop-chunk.invariant.still;
      told = more;
    }

pub returns-in_err-copy_told-clause-copies : goal.returns-in_err-copy_told-clause-copies
returns-in_err-copy_told-clause-copies g c =
    let s = c.args.self.now in
    let blocks = ap (λ (x : CompactSet). x.blocks) c.self.view_is in
    let lt : c.loop-chunk.chunk < part_end (chunks_of s) c.args.part = omega (arith, blocks, c.loop-chunk-test.true, c.min-end.ensures, c.seg_count.ensures) in
    let list = is_ahead c.args.split.now c.args.part (entry_of s) in
    let so = c.loop-chunk.invariant.told in
    let here = told_here s c.loop-chunk.self (over_of c.args.over.now) (over_of c.loop-chunk.over) (g.D.Disk.seen c.args.master.now) (g.D.Disk.seen c.loop-chunk.master) c.args.split.now c.args.part c.loop-chunk.chunk so c.has_bit.result c.has_bit.ensures in
    let is : c.from_residual.result ≡ Err c.in_err-copy_told.field-0.0 = search rules in
    rw is (told_fail s c.loop-chunk.self c.copy_told.new.self (over_of c.args.over.now) (over_of c.loop-chunk.over) (over_of c.copy_told.new.over) (g.D.Disk.seen c.args.master.now) (g.D.Disk.seen c.loop-chunk.master) (g.D.Disk.seen c.copy_told.new.master)
    list (2048 * c.args.part) c.loop-chunk.chunk (c.loop-chunk.chunk + 1) (omega (arith, c.loop-chunk.auto.chunk)) (omega arith) so (part_end (chunks_of s) c.args.part) (omega (arith, lt)) c.in_err-copy_told.field-0.0 c.copy_told.result c.in_err-copy_told.was (c.copy_told.ensures.copies list here))

pub returns-clause-copies : goal.returns-clause-copies
returns-clause-copies g c =
    let blocks = ap (λ (s : CompactSet). s.blocks) c.self.view_is in
    let all : c.loop-chunk.chunk ≡ part_end (chunks_of c.args.self.now) c.args.part = omega (arith, blocks, c.loop-chunk-test.false, c.min-end.ensures, c.seg_count.ensures, c.loop-chunk.auto.chunk-end) in
    subst (λ (n : ℕ). CopiesTold {T = Unit {0}} {E = Failed} c.args.self.now (over_of c.args.over.now) (g.D.Disk.seen c.args.master.now) (is_ahead c.args.split.now c.args.part (entry_of c.args.self.now)) (2048 * c.args.part) n (Ok tt) c.loop-chunk.self (over_of c.loop-chunk.over) (g.D.Disk.seen c.loop-chunk.master)) all c.loop-chunk.invariant.told
