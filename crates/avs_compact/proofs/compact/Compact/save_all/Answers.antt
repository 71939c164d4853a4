use Rattle.std.proofs.Common.{rules, ◌≡◌, ◌<◌, ◌+◌, ℕ, Bool, IsTrue, Ok, Err, refl, subst, sym, ◌∙◌, arith}
use Rattle.avs_seg.specs.declared.fault.Failed.{Failed}
use Rattle.avs_compact.specs.CompactSet.{chunks_of, over_of}
use Rattle.avs_compact.specs.Disks.{Master}
use Rattle.avs_compact.specs.Saving.{SavesAll}
use Rattle.avs_compact.proofs.Chained.{saves_none, saves_more, saves_fail, room_next}
use Rattle.avs_compact.proofs.compact.Compact.save_all.Goals as goal

pub loop-place-init : goal.loop-place-init
loop-place-init g c = record {
  size = c.requires.blocks;
  there = c.requires.there;
  slots = c.requires.slots;
  still = refl;
  saves = saves_none c.args.self.now (over_of c.args.over.now) (g.D.Disk.seen c.args.master.now) c.args.first;
}

pub save-requires-clause-room : goal.save-requires-clause-room
save-requires-clause-room g c =
    let lt : c.args.first + c.loop-place.place < chunks_of c.args.self.now = omega (arith, c.loop-place-test.true, c.requires.inside) in
    room_next c.args.self.now c.loop-place.self c.loop-place.self (over_of c.args.over.now) (over_of c.loop-place.over) (over_of c.loop-place.over) (g.D.Disk.seen c.args.master.now) (g.D.Disk.seen c.loop-place.master) (g.D.Disk.seen c.loop-place.master)
    c.args.first c.loop-place.place lt c.loop-place.invariant.saves c.args.count c.loop-place-test.true c.requires.room

pub save-requires-clause-chunk : goal.save-requires-clause-chunk
save-requires-clause-chunk g c = omega (arith, c.loop-place-test.true, c.requires.inside, c.loop-place.invariant.saves.keeps.shape.blocks)

pub returns-in_err-save-clause-saves : goal.returns-in_err-save-clause-saves
returns-in_err-save-clause-saves g c =
    let is : c.from_residual.result ≡ Err c.in_err-save.field-0.0 = search rules in
    let lt : c.args.first + c.loop-place.place < chunks_of c.args.self.now = omega (arith, c.loop-place-test.true, c.requires.inside) in
    rw is (saves_fail c.args.self.now c.loop-place.self c.save.new.self (over_of c.args.over.now) (over_of c.loop-place.over) (over_of c.save.new.over) (g.D.Disk.seen c.args.master.now) (g.D.Disk.seen c.loop-place.master) (g.D.Disk.seen c.save.new.master)
    c.args.first c.loop-place.place lt c.loop-place.invariant.saves c.args.count c.in_err-save.field-0.0 c.save.result c.loop-place-test.true c.in_err-save.was c.save.ensures.saves)

pub loop-place-preserved : goal.loop-place-preserved
loop-place-preserved g c =
    let lt : c.args.first + c.loop-place.place < chunks_of c.args.self.now = omega (arith, c.loop-place-test.true, c.requires.inside) in
    let more = saves_more c.args.self.now c.loop-place.self c.save.new.self (over_of c.args.over.now) (over_of c.loop-place.over) (over_of c.save.new.over) (g.D.Disk.seen c.args.master.now) (g.D.Disk.seen c.loop-place.master) (g.D.Disk.seen c.save.new.master)
    c.args.first c.loop-place.place lt c.loop-place.invariant.saves c.save.result c.in_ok-save.was c.save.ensures.saves in
    record {
      size = (more.keeps.goes.lasts Master).size ∙ c.requires.blocks ∙ sym more.keeps.shape.blocks;
      there = subst (λ (b : Bool). IsTrue b) (sym more.keeps.shape.there) c.requires.there;
      slots = more.keeps.slots.there c.requires.slots;
      still = c.save.ensures.still ∙ c.loop-place.invariant.still;
      saves = more;
    }

pub returns-clause-saves : goal.returns-clause-saves
returns-clause-saves g c =
    let all : c.loop-place.place ≡ c.args.count = omega arith in
    subst (λ (n : ℕ). SavesAll {T = Unit {0}} {E = Failed} c.args.self.now (over_of c.args.over.now) (g.D.Disk.seen c.args.master.now) c.args.first n (Ok tt) c.loop-place.self (over_of c.loop-place.over) (g.D.Disk.seen c.loop-place.master)) all c.loop-place.invariant.saves
