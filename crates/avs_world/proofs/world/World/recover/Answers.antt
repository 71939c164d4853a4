use Rattle.std.proofs.Common.{◌≡◌, ◌∙◌, Bool, Option, Some, None, Result, Err, sym, ap, subst}
use Rattle.std.proofs.lemmas.Result.{IfOk-weaker}
use Rattle.avs_dev.specs.declared.back.Why.{Why}
use Rattle.avs_dev.specs.declared.back.Why.TheVariants.{Fault}
use Rattle.avs_model.specs.Next.{brought_up}
use Rattle.avs_model.specs.Recovery.{is_command}
use Rattle.avs_model.specs.declared.event.Host.TheVariants.{P}
use Rattle.avs_model.specs.declared.event.Event.TheVariants.{Recover}
use Rattle.avs_model.specs.declared.recovered.Second.TheVariants.{Clean}
use Rattle.avs_world.specs.declared.stopped.Stopped.{Stopped}
use Rattle.avs_world.specs.declared.stopped.Stopped.TheVariants as stopped
use Rattle.avs_world.specs.Views.{view_of}
use Rattle.avs_world.specs.Holds.{IsPhase}
use Rattle.avs_world.specs.World.{Stands, Steps, Keeps, IsThere}
use Rattle.avs_world.specs.Recovering.{Finds, RecoversWrite}
use Rattle.avs_world.proofs.Recovering.{brought, second_clean, second_command, enabled, unfound_stands}
use Rattle.avs_world.proofs.world.World.recover.Goals as goal

pub returns-in-Err-Fault-clause-steps : goal.returns-in-Err-Fault-clause-steps
returns-in-Err-Fault-clause-steps g c steady s stands =
    let seen = g.D.Disk.seen in
    let fault : c.open.result ≡ Err Fault = c.in-Err-Fault.is ∙ ap (λ (w : Why). Err w) c.in-Err-Fault.field-0-is in
    let fails = subst (λ (r : Result (Unit {0}) Why). Finds (view_of seen c.args.self.now) r (view_of seen c.open.new.self)) fault c.open.ensures.finds in
    unfound_stands seen steady c.args.self.now c.open.new.self s stands c.if-self.false c.open.ensures.up c.open.ensures.stopped fails

pub returns-in-None-clause-steps : goal.returns-in-None-clause-steps
returns-in-None-clause-steps g c =
    let seen = g.D.Disk.seen in
    let old = c.args.self.now in
    let mid = record c.open.new.self { stopped = c.take.new.self } in
    let found = c.in-Ok.ensures.finds in
    let up = c.bring_up.ensures in
    let none : old.stopped ≡ None = sym c.open.ensures.stopped ∙ sym c.take.ensures.value ∙ c.in-None.is in
    brought seen (λ steady s. Stands seen steady old s) mid c.bring_up.new.self Clean c.bring_up.result up.told up.up up.shelf up.group up.stopped c.take.ensures.after
    (λ steady s stands.
    let keeps = subst (λ (o : Option Stopped). Keeps o s.p) none stands.keeps in
    let phase = subst (λ (b : Bool). IsPhase b (view_of seen old).group) c.if-self.false stands.phase in
    record {
      down = sym stands.up ∙ c.if-self.false;
      left = stands.left;
      stopped = stands.stopped;
      holds = found.enabled steady stands.left stands.holds phase (enabled (view_of seen old).group s.p phase stands.explained keeps.1);
      phase = found.phase;
      told = second_clean s.p.stopped (brought_up stands.left P).p keeps.0 keeps.1;
    })

pub returns-in-Some-Command-clause-steps : goal.returns-in-Some-Command-clause-steps
returns-in-Some-Command-clause-steps g c =
    let seen = g.D.Disk.seen in
    let old = c.args.self.now in
    let mid = c.settle-second.new.self in
    let found = c.in-Ok.ensures.finds in
    let settles = c.settle-second.ensures.settles in
    let up = c.bring_up-in-Some-Command.ensures in
    let kept : old.stopped ≡ Some stopped.Command = sym c.open.ensures.stopped ∙ sym c.take.ensures.value ∙ c.in-Some-Command.is ∙ ap (λ (x : Stopped). Some x) c.in-Some-Command.field-0-is in
    let phase = settles.phase found.phase in
    brought seen (λ steady s. Stands seen steady old s) mid c.bring_up-in-Some-Command.new.self c.settle-second.result c.bring_up-in-Some-Command.result up.told up.up up.shelf up.group up.stopped
    (c.settle-second.ensures.stopped ∙ c.take.ensures.after)
    (λ steady s stands.
    let was_down = subst (λ (b : Bool). IsPhase b (view_of seen old).group) c.if-self.false stands.phase in
    let holds = settles.holds steady stands.left (found.holds steady stands.left stands.holds was_down) in
    record {
      down = sym stands.up ∙ c.if-self.false;
      left = stands.left;
      stopped = stands.stopped;
      holds = holds;
      phase = phase;
      told = settles.told ∙ second_command steady (view_of seen mid) s stands.left (subst (λ (o : Option Stopped). Keeps o s.p) kept stands.keeps) stands.stopped holds phase;
    })

pub returns-in-Some-Write-clause-steps : goal.returns-in-Some-Write-clause-steps
returns-in-Some-Write-clause-steps g c =
    let seen = g.D.Disk.seen in
    let old = c.args.self.now in
    let new = c.recover_write.new.self in
    let write = c.in-Some-Write.write in
    let found = c.in-Ok.ensures.finds in
    let kept : old.stopped ≡ Some (stopped.Write write) = sym c.open.ensures.stopped ∙ sym c.take.ensures.value ∙ c.in-Some-Write.is ∙ ap (λ (x : Stopped). Some x) c.in-Some-Write.field-0-is in
    IfOk-weaker c.recover_write.result (λ answer. RecoversWrite seen (view_of seen c.open.new.self) write answer new) (λ answer. (steady : Bool) → Steps seen steady old (Recover P) answer new)
    (λ answer recovers steady s stands.
    let is = subst (λ (o : Option Stopped). Keeps o s.p) kept stands.keeps in
    let was_down = subst (λ (b : Bool). IsPhase b (view_of seen old).group) c.if-self.false stands.phase in
    recovers steady s (record {
      down = sym stands.up ∙ c.if-self.false;
      is = is;
      left = stands.left;
      stopped = stands.stopped;
      there = subst (λ (o : Option Stopped). IsThere o stands.left) kept stands.there;
      holds = found.enabled steady stands.left stands.holds was_down (enabled (view_of seen old).group s.p was_down stands.explained (ap is_command is));
      phase = found.phase;
    }))
    c.recover_write.ensures.steps
