use Rattle.std.proofs.Common.{◌≡◌, ◌+◌, ◌*◌, ◌/◌, ℕ, length, length-take, length-drop, Ok, refl, ap, sym, subst, ◌∙◌, arith}
use Rattle.avs_seg.specs.declared.fault.Failed.{Failed}
use Rattle.avs_seg.specs.Image.{range}
use Rattle.avs_seg.proofs.Fills.{ShowsFirst, shows_more, shows_all}
use Rattle.avs_dev.specs.Seen.{Seen, IsTold}
use Rattle.avs_chunks.specs.ChunkSet.{ChunkSet, IsKnown, shadow_image}
use Rattle.avs_chunks.specs.Calls.{ReadsShadow}
use Rattle.avs_chunks.proofs.Readings.{reads_done}
use Rattle.avs_chunks.proofs.chunks.Chunks.read.Goals as goal

whole : (n : ℕ) → 512 * n / 512 ≡ n
whole n = omega arith

pub loop-done-preserved : goal.loop-done-preserved
loop-done-preserved g c =
    let before = g.D.Disk.seen c.args.master.now in
    let now = g.D.Disk.seen c.loop-done.master in
    let part = c.in_ok-read_part.ensures.reads in
    let set = c.loop-done.invariant.set in
    let master = c.loop-done.invariant.master in
    record {
      within = omega arith;
      set = part.same.0 ∙ set;
      master = part.same.1 ∙ master;
      shows = λ known told.
          let image = shadow_image c.args.self.now before.image in
          let long : length c.read_part.new.out ≡ 512 * c.run_len-len.result = omega (arith, c.read_part.ensures.len, length-take {A = ℕ}, length-drop {A = ℕ}) in
          let count : length c.read_part.new.out / 512 ≡ c.run_len-len.result = ap (λ (k : ℕ). k / 512) long ∙ whole c.run_len-len.result in
          shows_more image c.args.at c.loop-done.out c.read_part.new.out c.loop-done.done c.run_len-len.result _ _ (c.args.at + c.loop-done.done)
          (c.loop-done.invariant.shows known told) refl long (omega arith) refl
          (part.shows (subst (λ (s : ChunkSet). IsKnown s) (sym set) known) (subst (λ (d : Seen). IsTold d) (sym master) told)
          ∙ ap (λ (k : ℕ). range (shadow_image c.loop-done.self now.image) (c.args.at + c.loop-done.done) k) count
          ∙ ap (λ (s : ChunkSet). range (shadow_image s now.image) (c.args.at + c.loop-done.done) c.run_len-len.result) set
          ∙ ap (λ (d : Seen). range (shadow_image c.args.self.now d.image) (c.args.at + c.loop-done.done) c.run_len-len.result) master);
    }

pub returns : goal.returns
returns g c =
    let before = g.D.Disk.seen c.args.master.now in
    subst (λ (s : ChunkSet). ReadsShadow {T = Unit {0}} {E = Failed} c.args.self.now before c.args.at c.loop-done.out (Ok tt) s (g.D.Disk.seen c.loop-done.master)) (sym c.loop-done.invariant.set)
    (subst (λ (d : Seen). ReadsShadow {T = Unit {0}} {E = Failed} c.args.self.now before c.args.at c.loop-done.out (Ok tt) c.args.self.now d) (sym c.loop-done.invariant.master)
    (reads_done c.args.self.now before c.args.at c.loop-done.out tt (λ known told.
    let count : c.loop-done.done ≡ length c.loop-done.out / 512 = omega arith in
    shows_all (shadow_image c.args.self.now before.image) c.args.at c.loop-done.out (length c.loop-done.out / 512) (omega arith)
    (subst (λ (n : ℕ). ShowsFirst (shadow_image c.args.self.now before.image) c.args.at c.loop-done.out n) count (c.loop-done.invariant.shows known told)))))
