use Rattle.std.proofs.Common.{◌≡◌, ◌+◌, ◌*◌, ◌/◌, ◌≤◌, ℕ, length, length-take, length-drop, Ok, refl, ap, sym, subst, ◌∙◌, arith}
use Rattle.avs_seg.specs.declared.fault.Failed.{Failed}
use Rattle.avs_seg.specs.Image.{range}
use Rattle.avs_seg.proofs.Fills.{ShowsFirst, shows_more, shows_all}
use Rattle.avs_model.specs.GroupStates.{volume_image}
use Rattle.avs_sets.specs.Meaning.{meaning}
use Rattle.avs_sets.specs.Whole.{IsWhole, IsInStep}
use Rattle.avs_group.specs.Group.{Group, group_of, seen}
use Rattle.avs_group.specs.Reads.{ReadsImage}
use Rattle.avs_group.proofs.Picks.{reads_nothing}
use Rattle.avs_group.proofs.group.ShadowGroup.read.Goals as goal

whole : (n : ℕ) → 512 * n / 512 ≡ n
whole n = omega arith

pub loop-done-preserved : goal.loop-done-preserved
loop-done-preserved g c =
    let part = c.in_ok-read_chunk.ensures.reads in
    let same = c.loop-done.invariant.same in
    record {
      within = omega (arith, c.loop-done-test.true, c.min-len.ensures);
      same = part.reads.same ∙ same;
      shows = λ w i.
          let image = volume_image (meaning (group_of (seen c.args.self.now))) c.args.volume in
          let long : length c.read_chunk.new.out ≡ 512 * c.min-len.result = omega (arith, c.read_chunk.ensures.len, length-take {A = ℕ}, length-drop {A = ℕ}) in
          let count : length c.read_chunk.new.out / 512 ≡ c.min-len.result = ap (λ (k : ℕ). k / 512) long ∙ whole c.min-len.result in
          let fits : 512 * c.loop-done.done ≤ length c.loop-done.out = omega (arith, c.loop-done.invariant.within, c.loop-done.auto.out) in
          shows_more image c.args.at c.loop-done.out c.read_chunk.new.out c.loop-done.done c.min-len.result _ _ (c.args.at + c.loop-done.done)
          (c.loop-done.invariant.shows w i) refl long fits refl
          (part.shows (subst (λ (s : Group). IsWhole (group_of s)) (sym same) w) (subst (λ (s : Group). IsInStep (group_of s)) (sym same) i)
          ∙ ap (λ (k : ℕ). range (volume_image (meaning (group_of (seen c.loop-done.self))) c.args.volume) (c.args.at + c.loop-done.done) k) count
          ∙ ap (λ (s : Group). range (volume_image (meaning (group_of s)) c.args.volume) (c.args.at + c.loop-done.done) c.min-len.result) same);
    }

pub returns : goal.returns
returns g c =
    subst (λ (n : Group). ReadsImage {T = Unit {0}} {E = Failed} (λ group. volume_image group c.args.volume) (seen c.args.self.now) c.args.at c.loop-done.out (Ok tt) n) (sym c.loop-done.invariant.same)
    (reads_nothing (λ group. volume_image group c.args.volume) (seen c.args.self.now) c.args.at c.loop-done.out (λ w i.
    let count : c.loop-done.done ≡ length c.loop-done.out / 512 = omega (arith, c.loop-done-test.false, c.loop-done.invariant.within, c.loop-done.auto.out) in
    shows_all (volume_image (meaning (group_of (seen c.args.self.now))) c.args.volume) c.args.at c.loop-done.out (length c.loop-done.out / 512) (omega (arith, c.requires.whole, c.loop-done.auto.out))
    (subst (λ (n : ℕ). ShowsFirst (volume_image (meaning (group_of (seen c.args.self.now))) c.args.volume) c.args.at c.loop-done.out n) count (c.loop-done.invariant.shows w i))))
