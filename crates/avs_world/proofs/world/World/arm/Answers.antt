use Rattle.std.proofs.Common.{◌≡◌, ◌∙◌, Bool, true, false, refl, sym, ap, subst, inr}
use Rattle.avs_model.specs.State.{disk_place, with_armed}
use Rattle.avs_model.specs.declared.event.Event.TheVariants.{Arm}
use Rattle.avs_model.specs.declared.event.Host.TheVariants.{P}
use Rattle.avs_world.specs.Arming.{ArmsTarget}
use Rattle.avs_world.specs.Holds.{Holds, IsPhase}
use Rattle.avs_world.specs.Views.{StoreView, view_of}
use Rattle.avs_world.specs.World.{Stands}
use Rattle.avs_world.specs.declared.world.World.{World}
use Rattle.avs_world.proofs.Armed.{are_sure, next_none, next_up, target_answer, target_armed, target_passes, target_same, target_unarmed}
use Rattle.avs_world.proofs.Standing.{refused_step, stands_up, up_holds, up_kept, up_none, up_phase}
use Rattle.avs_world.proofs.world.World.arm.Goals as goal

pub returns-in-Ok-true-clause-steps : goal.returns-in-Ok-true-clause-steps
returns-in-Ok-true-clause-steps g c steady s stands =
    let seen = g.D.Disk.seen in
    let old = c.args.self.now in
    let new = c.arm_target.new.self in
    let target = c.args.target.now in
    let up : old.up ≡ true = c.in-Ok-true.ensures.was_up in
    let s_up : s.p.up ≡ true = sym stands.up ∙ up in
    let holds = up_holds seen steady old s stands up in
    let phase = up_phase seen steady old s stands up in
    let arms = subst (λ (b : Bool). ArmsTarget (view_of seen old) target c.args.tear b (view_of seen new)) c.in-Ok-true.field-0-test c.in-Ok-true.ensures.arms in
    let next = with_armed s P (disk_place s.p target) true in
    let made = target_armed c.args.tear steady (view_of seen old) (view_of seen new) s holds phase target arms in (
      next,
      record { right = (target_passes c.args.tear steady (view_of seen old) (view_of seen new) s holds phase true target arms c.args.tear.skip c.args.tear.from c.args.tear.count s_up, refl); next = refl },
      stands_up seen steady new next (c.arm_target.ensures.up ∙ up) (next_up c.args.tear s target s_up) (next_none c.args.tear s target (up_none seen steady old s stands up))
          (c.arm_target.ensures.stopped ∙ up_kept seen steady old s stands up) made.0 made.1,
    )

pub returns-in-Ok-false-clause-steps : goal.returns-in-Ok-false-clause-steps
returns-in-Ok-false-clause-steps g c steady s stands =
    let seen = g.D.Disk.seen in
    let old = c.args.self.now in
    let new = c.arm_target.new.self in
    let target = c.args.target.now in
    let up : old.up ≡ true = c.in-Ok-false.ensures.was_up in
    let s_up : s.p.up ≡ true = sym stands.up ∙ up in
    let holds = up_holds seen steady old s stands up in
    let phase = up_phase seen steady old s stands up in
    let arms = subst (λ (b : Bool). ArmsTarget (view_of seen old) target c.args.tear b (view_of seen new)) c.in-Ok-false.field-0-test c.in-Ok-false.ensures.arms in
    let same = target_same c.args.tear (view_of seen old) (view_of seen new) target arms in
    let other = target_unarmed c.args.tear steady (view_of seen old) (view_of seen new) s holds phase (are_sure seen g.met.D.Arm.steady_arms old.shelf.places.items) target arms in (
      s,
      record { right = inr (other, target_passes c.args.tear steady (view_of seen old) (view_of seen new) s holds phase false target arms c.args.tear.skip c.args.tear.from c.args.tear.count s_up, refl); next = refl },
      stands_up seen steady new s (c.arm_target.ensures.up ∙ up) s_up (up_none seen steady old s stands up) (c.arm_target.ensures.stopped ∙ up_kept seen steady old s stands up)
          (subst (λ (store : StoreView). Holds steady store s) (sym same) holds) (subst (λ (store : StoreView). IsPhase true store.group) (sym same) phase),
    )

pub returns-in-Err-clause-steps : goal.returns-in-Err-clause-steps
returns-in-Err-clause-steps g c steady s stands =
    let r = refused_step g.D.Disk.seen steady c.args.self.now s (Arm P c.args.target.now c.args.tear.skip c.args.tear.from c.args.tear.count) c.in-Err.why stands (c.in-Err.ensures.refused steady s stands) in
    (r.0, r.1, subst (λ (w : World g.row.D.Denot). Stands g.D.Disk.seen steady w r.0) (sym c.in-Err.ensures.same) r.2)

pub returns-in-Ok-true-clause-arms : goal.returns-in-Ok-true-clause-arms
returns-in-Ok-true-clause-arms g c =
    let seen = g.D.Disk.seen in
    let old = view_of seen c.args.self.now in
    let new = view_of seen c.arm_target.new.self in
    let arms = subst (λ (b : Bool). ArmsTarget old c.args.target.now c.args.tear b new) c.in-Ok-true.field-0-test c.in-Ok-true.ensures.arms in
    record { as_disk = target_answer c.args.tear old new c.args.target.now true arms; as_told = arms }

pub returns-in-Ok-false-clause-arms : goal.returns-in-Ok-false-clause-arms
returns-in-Ok-false-clause-arms g c =
    let seen = g.D.Disk.seen in
    let old = view_of seen c.args.self.now in
    let new = view_of seen c.arm_target.new.self in
    let arms = subst (λ (b : Bool). ArmsTarget old c.args.target.now c.args.tear b new) c.in-Ok-false.field-0-test c.in-Ok-false.ensures.arms in
    record { as_disk = target_answer c.args.tear old new c.args.target.now false arms; as_told = target_same c.args.tear old new c.args.target.now arms }

pub returns-in-Err-clause-arms : goal.returns-in-Err-clause-arms
returns-in-Err-clause-arms g c = record { as_disk = c.in-Err.ensures.other; as_told = ap (view_of g.D.Disk.seen) c.in-Err.ensures.same }
