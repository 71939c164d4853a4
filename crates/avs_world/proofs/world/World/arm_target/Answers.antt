use Rattle.std.proofs.Common.{◌≡◌, ◌∙◌, sym, subst, List, ℕ, None}
use Rattle.std.specs.List.{position}
use Rattle.std.specs.Str.{bytes_eq}
use Rattle.avs_model.specs.Refusals.{refusal}
use Rattle.avs_model.specs.declared.event.ArmTarget.{ArmTarget}
use Rattle.avs_model.specs.declared.event.Event.TheVariants.{Arm}
use Rattle.avs_model.specs.declared.event.Host.TheVariants.{P}
use Rattle.avs_model.specs.declared.answer.Refusal.TheVariants.{NoVolume}
use Rattle.std.proofs.Common.{Some}
use Rattle.avs_world.specs.Views.{names_of}
use Rattle.avs_world.proofs.Standing.{up_holds}
use Rattle.avs_world.proofs.Holding.{no_volume}
use Rattle.avs_world.proofs.Armed.{arm_no_volume}
use Rattle.avs_world.proofs.world.World.arm_target.Goals as goal

pub returns-in-None-clause-refused : goal.returns-in-None-clause-refused
returns-in-None-clause-refused g c steady s stands =
    let self = c.args.self.now in
    let tear = c.args.tear in
    let up = c.if-not-self.false in
    let holds = up_holds g.D.Disk.seen steady self s stands up in
    let none : position (bytes_eq c.in-Volume.name) (names_of self.shelf) ≡ None = subst (λ (n : List ℕ). position (bytes_eq n) (names_of self.shelf) ≡ None) c.as_slice.ensures (sym c.in-None.ensures.place) in
    subst (λ (t : ArmTarget). refusal s (Arm P t tear.skip tear.from tear.count) ≡ Some NoVolume) (sym c.in-Volume.is)
    (arm_no_volume s tear.skip tear.from tear.count (sym stands.up ∙ up) c.in-Volume.name (no_volume (names_of self.shelf) s.p holds.same_names c.in-Volume.name none))
