-- A short script, worked over these definitions and over the first ones: volumes, a dependent set, writes, a tear and a refusal.
use Rattle.std.proofs.Common.{◌≡◌, true, None, List, [], ◌∷◌, refl}
use Rattle.avs_model.specs.State as before
use Rattle.avs_model.specs.Stages as before_stages
use Rattle.avs_model.specs.Next as before_next
use Rattle.avs_model.specs.Refusals as before_refusals
use Rattle.avs_model.specs.Hosts.{HostState, empty_host, OfVolume}
use Rattle.avs_model.specs.HostPlaces.{image_of}
use Rattle.avs_model.specs.HostSteps.{is_armed}
use Rattle.avs_model.specs.declared.event.Host.TheVariants.{P}
use Rattle.avs_model.specs.declared.event.ArmTarget.TheVariants as target
use Rattle.avs_model.specs.declared.event.Event.{Event as FirstEvent}
use Rattle.avs_model.specs.declared.event.Event.TheVariants as first
use Rattle.avs_model.specs.declared.event.IiCommand.TheVariants as first_command
use Rattle.avs_model.specs.declared.product.Event.TheVariants.{Volume, Write, Read, Arm}
use Rattle.avs_worked.proofs.WorkedRuns.{done, refused, v, s, c, write, enable}

-- the first definitions' state behind events that nothing refuses and no fault stops
abbrev pub done_before : before.State → List FirstEvent → before.State
done_before state [] = state
done_before state (event ∷ events) =
    done_before (before_stages.after_stages (before_next.with_disk_asked state event) (before_stages.stages state event)) events

abbrev pub now : HostState
now = done (empty_host 1) (
    Volume P v 128 ∷ Volume P s 200 ∷ Volume P c 64 ∷ enable None true v s c
    ∷ Write P v 63 2 (17 ∷ []) ∷ write s 5 34 ∷ Arm P (target.Volume c) 0 0 0 ∷ [])

abbrev pub then : before.State
then = done_before before.start (
    first.Volume P v 128 ∷ first.Volume P s 200 ∷ first.Volume P c 64 ∷ first.Ii P (first_command.Enable true v s c)
    ∷ first.Write P v 63 2 (17 ∷ []) ∷ first.Write P s 5 1 (34 ∷ []) ∷ first.Arm P (target.Volume c) 0 0 0 ∷ [])

pub same_volume : image_of now v ≡ before.image_of then.p v
same_volume = refl

pub same_shadow : image_of now s ≡ before.image_of then.p s
same_shadow = refl

pub same_armed : is_armed now (OfVolume c) ≡ before.is_armed then.p (before.OfVolume c)
same_armed = refl

pub same_range : refused now (Read P s 100 29) ≡ before_refusals.refusal then (first.Read P s 100 29)
same_range = refl

pub same_busy : refused now (Read P c 0 1) ≡ before_refusals.refusal then (first.Read P c 0 1)
same_busy = refl

pub same_missing : refused now (Arm P (target.StateOf v) 0 0 0) ≡ before_refusals.refusal then (first.Arm P (target.StateOf v) 0 0 0)
same_missing = refl
