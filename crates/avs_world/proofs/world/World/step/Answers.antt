use Rattle.std.proofs.Common.{◌≡◌, ◌∙◌, true, length, sym, ap, subst}
use Rattle.std.specs.Prelude.{◌==◌}
use Rattle.std.proofs.lemmas.Bool.{and_parts}
use Rattle.std.proofs.lemmas.Result.{IfOk-weaker}
use Rattle.avs_model.specs.Promise.{AsksForDisk}
use Rattle.avs_model.specs.Script.{built, built_command, is_p}
use Rattle.avs_model.specs.declared.event.Event.{Event}
use Rattle.avs_model.specs.declared.event.Event.TheVariants.{Volume, Write, Read, Ii, Arm, Crash, Recover}
use Rattle.avs_model.specs.declared.event.IiCommand.TheVariants.{Enable}
use Rattle.avs_world.proofs.Standing.{is_p-host}
use Rattle.avs_world.specs.World.{Steps}
use Rattle.avs_world.proofs.world.World.step.Goals as goal

pub returns-in-Volume-clause-steps : goal.returns-in-Volume-clause-steps
returns-in-Volume-clause-steps g c =
    let v = c.in-Volume in
    let host = is_p-host v.host (sym (ap built v.is) ∙ c.requires) in
    let event : Volume _ c.as_slice.result.now v.blocks ≡ c.args.event.now = (λ i. Volume (host i) (c.as_slice.ensures i) v.blocks) ∙ sym v.is in
    IfOk-weaker c.make_volume.result _ _
    (λ answer steps tells. subst (λ (e : Event). Steps g.D.Disk.seen (g.R.Rack.seen c.args.rack.now).steady c.args.self.now e answer c.make_volume.new.self) event (steps tells)) c.make_volume.ensures.steps

pub returns-in-Volume-clause-asked : goal.returns-in-Volume-clause-asked
returns-in-Volume-clause-asked g c refused steady s stands =
    let v = c.in-Volume in
    let host = is_p-host v.host (sym (ap built v.is) ∙ c.requires) in
    let event : Volume _ c.as_slice.result.now v.blocks ≡ c.args.event.now = (λ i. Volume (host i) (c.as_slice.ensures i) v.blocks) ∙ sym v.is in
    subst (λ (e : Event). AsksForDisk s e) event (c.make_volume.ensures.asked refused steady s stands)

pub returns-in-Write-clause-steps : goal.returns-in-Write-clause-steps
returns-in-Write-clause-steps g c =
    let w = c.in-Write in
    let host = is_p-host w.host (and_parts (is_p w.host) (length w.pattern == 1) (sym (ap built w.is) ∙ c.requires)).0 in
    let event : Write _ w.volume w.at w.len w.pattern ≡ c.args.event.now = ap (λ h. Write h w.volume w.at w.len w.pattern) host ∙ sym w.is in
    let steady = (g.R.Rack.seen c.args.rack.now).steady in
    IfOk-weaker c.write.result _ _ (λ answer steps tells. subst (λ (e : Event). Steps g.D.Disk.seen steady c.args.self.now e answer c.write.new.self) event (steps steady)) c.write.ensures.steps

pub returns-in-Read-clause-steps : goal.returns-in-Read-clause-steps
returns-in-Read-clause-steps g c =
    let r = c.in-Read in
    let host = is_p-host r.host (sym (ap built r.is) ∙ c.requires) in
    let event : Read _ c.as_slice-in-Read.result.now r.at r.len ≡ c.args.event.now = (λ i. Read (host i) (c.as_slice-in-Read.ensures i) r.at r.len) ∙ sym r.is in
    let steady = (g.R.Rack.seen c.args.rack.now).steady in
    IfOk-weaker c.read.result _ _ (λ answer steps tells. subst (λ (e : Event). Steps g.D.Disk.seen steady c.args.self.now e answer c.read.new.self) event (steps steady)) c.read.ensures.steps

pub returns-in-Ii-clause-steps : goal.returns-in-Ii-clause-steps
returns-in-Ii-clause-steps g c =
    let k = c.in-Ii in
    let host = is_p-host k.host (and_parts (is_p k.host) (built_command k.command) (sym (ap built k.is) ∙ c.requires)).0 in
    let event : Ii _ (Enable true _ _ _) ≡ c.args.event.now = (λ i. Ii (host i) (sym c.volumes_of.ensures i)) ∙ sym k.is in
    let steady = (g.R.Rack.seen c.args.rack.now).steady in
    IfOk-weaker c.enable.result _ _ (λ answer steps tells. subst (λ (e : Event). Steps g.D.Disk.seen steady c.args.self.now e answer c.enable.new.self) event (steps tells)) c.enable.ensures.steps

pub returns-in-Ii-clause-asked : goal.returns-in-Ii-clause-asked
returns-in-Ii-clause-asked g c refused steady s stands =
    let k = c.in-Ii in
    let host = is_p-host k.host (and_parts (is_p k.host) (built_command k.command) (sym (ap built k.is) ∙ c.requires)).0 in
    let event : Ii _ (Enable true _ _ _) ≡ c.args.event.now = (λ i. Ii (host i) (sym c.volumes_of.ensures i)) ∙ sym k.is in
    subst (λ (e : Event). AsksForDisk s e) event (c.enable.ensures.asked refused steady s stands)

pub returns-in-Arm-clause-steps : goal.returns-in-Arm-clause-steps
returns-in-Arm-clause-steps g c tells =
    let a = c.in-Arm in
    let host = is_p-host a.host (sym (ap built a.is) ∙ c.requires) in
    let event : Arm _ a.target a.skip a.first a.count ≡ c.args.event.now = ap (λ h. Arm h a.target a.skip a.first a.count) host ∙ sym a.is in
    let steady = (g.R.Rack.seen c.args.rack.now).steady in
    subst (λ (e : Event). Steps g.D.Disk.seen steady c.args.self.now e c.arm.result c.arm.new.self) event (c.arm.ensures.steps steady)

pub returns-in-Crash-clause-steps : goal.returns-in-Crash-clause-steps
returns-in-Crash-clause-steps g c tells =
    let k = c.in-Crash in
    let event : Crash _ ≡ c.args.event.now = ap Crash (is_p-host k.host (sym (ap built k.is) ∙ c.requires)) ∙ sym k.is in
    let steady = (g.R.Rack.seen c.args.rack.now).steady in
    subst (λ (e : Event). Steps g.D.Disk.seen steady c.args.self.now e c.crash.result c.crash.new.self) event (c.crash.ensures.steps steady)

pub returns-in-Recover-clause-steps : goal.returns-in-Recover-clause-steps
returns-in-Recover-clause-steps g c =
    let r = c.in-Recover in
    let event : Recover _ ≡ c.args.event.now = ap Recover (is_p-host r.host (sym (ap built r.is) ∙ c.requires)) ∙ sym r.is in
    let steady = (g.R.Rack.seen c.args.rack.now).steady in
    IfOk-weaker c.recover.result _ _ (λ answer steps tells. subst (λ (e : Event). Steps g.D.Disk.seen steady c.args.self.now e answer c.recover.new.self) event (steps steady)) c.recover.ensures.steps
