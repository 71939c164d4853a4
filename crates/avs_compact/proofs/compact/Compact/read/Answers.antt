use Rattle.std.proofs.Common.{◌≡◌, ◌+◌, ◌*◌, ◌/◌, ℕ, length, length-take, length-drop, Ok, refl, ap, sym, subst, ◌∙◌, arith}
use Rattle.avs_seg.specs.declared.fault.Failed.{Failed}
use Rattle.avs_seg.specs.Image.{range}
use Rattle.avs_seg.proofs.Fills.{ShowsFirst, shows_more, shows_all}
use Rattle.avs_dev.specs.Seen.{Seen, IsTold}
use Rattle.avs_over.specs.Over.{OverSet}
use Rattle.avs_compact.specs.CompactSet.{CompactSet, over_of, shadow_image}
use Rattle.avs_compact.specs.Calls.{IsKnown, ReadsShadow}
use Rattle.avs_compact.proofs.Readings.{reads_done}
use Rattle.avs_compact.proofs.compact.Compact.read.Goals as goal

whole : (n : ℕ) → 512 * n / 512 ≡ n
whole n = omega arith

pub loop-done-preserved : goal.loop-done-preserved
loop-done-preserved g c =
    let before = g.D.Disk.seen c.args.master.now in
    let o = over_of c.args.over.now in
    let now = g.D.Disk.seen c.loop-done.master in
    let part = c.in_ok-read_part.ensures.reads in
    let set = c.loop-done.invariant.set in
    let over = c.loop-done.invariant.over in
    let master = c.loop-done.invariant.master in
    record {
      within = omega (arith, c.min-len.ensures, c.loop-done-test.true);
      set = part.same.0 ∙ set;
      over = part.same.1.0 ∙ over;
      still = c.read_part.ensures.still ∙ c.loop-done.invariant.still;
      master = part.same.1.1 ∙ master;
      shows = λ known told.
          let image = shadow_image c.args.self.now o before.image in
          let long : length c.read_part.new.out ≡ 512 * c.min-len.result = omega (arith, c.read_part.ensures.len, length-take {A = ℕ}, length-drop {A = ℕ}, c.min-len.ensures, c.loop-done-test.true) in
          let count : length c.read_part.new.out / 512 ≡ c.min-len.result = ap (λ (k : ℕ). k / 512) long ∙ whole c.min-len.result in
          shows_more image c.args.at c.loop-done.out c.read_part.new.out c.loop-done.done c.min-len.result _ _ (c.args.at + c.loop-done.done)
          (c.loop-done.invariant.shows known told) refl long (omega (arith, c.loop-done-test.true, c.loop-done.auto.out)) refl
          (part.shows (subst (λ (z : OverSet). IsKnown c.loop-done.self z) (sym over) (subst (λ (s : CompactSet). IsKnown s o) (sym set) known)) (subst (λ (d : Seen). IsTold d) (sym master) told)
          ∙ ap (λ (k : ℕ). range (shadow_image c.loop-done.self (over_of c.loop-done.over) now.image) (c.args.at + c.loop-done.done) k) count
          ∙ ap (λ (s : CompactSet). range (shadow_image s (over_of c.loop-done.over) now.image) (c.args.at + c.loop-done.done) c.min-len.result) set
          ∙ ap (λ (z : OverSet). range (shadow_image c.args.self.now z now.image) (c.args.at + c.loop-done.done) c.min-len.result) over
          ∙ ap (λ (d : Seen). range (shadow_image c.args.self.now o d.image) (c.args.at + c.loop-done.done) c.min-len.result) master);
    }

pub returns-clause-reads : goal.returns-clause-reads
returns-clause-reads g c =
    let before = g.D.Disk.seen c.args.master.now in
    let o = over_of c.args.over.now in
    subst (λ (s : CompactSet). ReadsShadow {T = Unit {0}} {E = Failed} c.args.self.now o before c.args.at c.loop-done.out (Ok tt) s (over_of c.loop-done.over) (g.D.Disk.seen c.loop-done.master)) (sym c.loop-done.invariant.set)
    (subst (λ (z : OverSet). ReadsShadow {T = Unit {0}} {E = Failed} c.args.self.now o before c.args.at c.loop-done.out (Ok tt) c.args.self.now z (g.D.Disk.seen c.loop-done.master)) (sym c.loop-done.invariant.over)
    (subst (λ (d : Seen). ReadsShadow {T = Unit {0}} {E = Failed} c.args.self.now o before c.args.at c.loop-done.out (Ok tt) c.args.self.now o d) (sym c.loop-done.invariant.master)
    (reads_done c.args.self.now o before c.args.at c.loop-done.out tt (λ known told.
    let count : c.loop-done.done ≡ length c.loop-done.out / 512 = omega (arith, c.loop-done-test.false, c.loop-done.invariant.within, c.loop-done.auto.out) in
    shows_all (shadow_image c.args.self.now o before.image) c.args.at c.loop-done.out (length c.loop-done.out / 512) (omega (arith, c.loop-done.auto.out, c.requires.whole))
    (subst (λ (n : ℕ). ShowsFirst (shadow_image c.args.self.now o before.image) c.args.at c.loop-done.out n) count (c.loop-done.invariant.shows known told))))))
