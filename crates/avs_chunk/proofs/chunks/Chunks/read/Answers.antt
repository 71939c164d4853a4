use Rattle.std.proofs.Common.{rules, ◌≡◌, ◌+◌, ◌*◌, ◌/◌, ℕ, length, length-take, length-drop, refl, ap, subst, ◌∙◌, arith, Result}
use Rattle.avs_seg.specs.declared.fault.Failed.{Failed}
use Rattle.avs_seg.specs.Image.{Image, range}
use Rattle.avs_seg.proofs.Fills.{ShowsFirst, shows_more, shows_all}
use Rattle.avs_chunk.specs.ChunkSet.{shadow_image}
use Rattle.avs_chunk.specs.Calls.{ReadsShadow}
use Rattle.avs_chunk.proofs.Reading.{SoFar-then, same_shown, still_known, ReadsShadow-done}
use Rattle.avs_chunk.proofs.chunks.Chunks.read.Goals as goal

whole : (n : ℕ) → 512 * n / 512 ≡ n
whole n = omega arith

pub loop-done-preserved : goal.loop-done-preserved
loop-done-preserved g c =
    let before = g.D.Disk.seen c.args.master.now in
    let now = g.D.Disk.seen c.loop-done.master in
    let part = subst (λ (r : Result (Unit {0}) Failed). ReadsShadow c.loop-done.self now (c.args.at + c.loop-done.done) c.read_part.new.out r c.read_part.new.self (g.D.Disk.seen c.read_part.new.master)) c.in_ok-read_part.was c.read_part.ensures.reads in
    record {
      within = omega arith;
      blocks = search rules;
      size = search rules;
      reads = SoFar-then c.args.self.now before c.loop-done.self now c.loop-done.invariant.reads c.in_ok-read_part.field-0 c.read_part.new.self (g.D.Disk.seen c.read_part.new.master) (c.args.at + c.loop-done.done) c.read_part.new.out part;
      shows = λ known told.
          let image = shadow_image c.args.self.now before.image in
          let same = same_shown c.args.self.now before c.loop-done.self now c.loop-done.invariant.reads in
          let long : length c.read_part.new.out ≡ 512 * c.run_len-len.result = omega (arith, c.read_part.ensures.len, length-take {A = ℕ}, length-drop {A = ℕ}) in
          let count : length c.read_part.new.out / 512 ≡ c.run_len-len.result = ap (λ (k : ℕ). k / 512) long ∙ whole c.run_len-len.result in
          shows_more image c.args.at c.loop-done.out c.read_part.new.out c.loop-done.done c.run_len-len.result _ _ (c.args.at + c.loop-done.done)
          (c.loop-done.invariant.shows known told) refl long (omega arith) refl
          (part.shows (still_known c.args.self.now before c.loop-done.self now c.loop-done.invariant.reads known) (c.loop-done.invariant.reads.disks.master.told told)
          ∙ ap (λ (k : ℕ). range (shadow_image c.loop-done.self now.image) (c.args.at + c.loop-done.done) k) count
          ∙ ap (λ (l : Image). range l (c.args.at + c.loop-done.done) c.run_len-len.result) same);
    }

pub returns : goal.returns
returns g c =
    let before = g.D.Disk.seen c.args.master.now in
    ReadsShadow-done c.args.self.now before c.loop-done.self (g.D.Disk.seen c.loop-done.master) c.loop-done.invariant.reads tt c.args.at c.loop-done.out (λ known told.
    let count : c.loop-done.done ≡ length c.loop-done.out / 512 = omega arith in
    shows_all (shadow_image c.args.self.now before.image) c.args.at c.loop-done.out (length c.loop-done.out / 512) (omega arith)
    (subst (λ (n : ℕ). ShowsFirst (shadow_image c.args.self.now before.image) c.args.at c.loop-done.out n) count (c.loop-done.invariant.shows known told)))
