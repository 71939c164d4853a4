-- A fault in the midst of an import, worked over the definitions: the bitmap volume is formatted, and the volume is not imported.
use Rattle.std.proofs.Common.{arith, ◌≡◌, true, None, Some, [], ◌∷◌, refl, inl}
use Rattle.avs_seg.specs.Staged.{run}
use Rattle.avs_model.specs.Hosts.{HostState, Spend, Imports, OfVolume}
use Rattle.avs_model.specs.HostFacts.{kept_stamp}
use Rattle.avs_model.specs.HostStages.{in_host}
use Rattle.avs_model.specs.HostEvents.{stages}
use Rattle.avs_model.specs.HostSteps.{brought_up, Stops, StoppedAt, stopped_stages, stopped_by, second_line, writes_on}
use Rattle.avs_model.specs.declared.recovered.Second.TheVariants as second
use Rattle.avs_model.specs.declared.event.Host.TheVariants.{P, S}
use Rattle.avs_model.specs.declared.event.ArmTarget.TheVariants as target
use Rattle.avs_model.specs.declared.answer.Refusal.TheVariants.{NoContents, WrongState}
use Rattle.avs_model.specs.declared.answer.Word.TheVariants.{Away}
use Rattle.avs_model.specs.declared.product.IiCommand.TheVariants.{Import}
use Rattle.avs_model.specs.declared.product.Event.{Event}
use Rattle.avs_model.specs.declared.product.Event.TheVariants.{Read, Ii, Arm}
use Rattle.avs_worked.proofs.WorkedRuns.{terms, chosen, done, refused, s, x}
use Rattle.avs_worked.proofs.GivenAway.{moved, given}

abbrev pub import : Event
import = Ii S (Import s x)

-- the volume came to the other host, where a tear is armed on the disk of its bitmap
abbrev pub armed : HostState
armed = done (moved given s P S).s (Arm S (target.Volume x) 0 0 0 ∷ [])

pub may_import : refused armed import ≡ None
may_import = refl

-- it writes on that disk alone: nothing in the label's place, the block of bits, the label
pub its_stages : stages terms chosen armed import ≡ Spend x 3 ∷ Imports s x ∷ []
its_stages = refl

pub three_blocks : writes_on terms chosen armed import (OfVolume x) ≡ 3
three_blocks = refl

-- a fault stops it
abbrev pub stopped : HostState
stopped = record (moved given s P S).s { run = stopped_by terms chosen armed import true }

pub stops : Stops terms chosen armed import stopped
stops = record { left = (moved given s P S).s; tear = inl (record { disk = OfVolume x; writes = omega arith; armed = refl }, refl); begun = true; begins = inl (refl, refl); down = refl }

-- its bitmap may be formatted, and no more: its contents are gone, and the volume may be imported with it
abbrev pub formatted : HostState
formatted = run in_host stopped (Spend x 3 ∷ [])

pub one_done : StoppedAt in_host stopped (stopped_stages stopped) 1 formatted
one_done = inl refl

pub told_kept : second_line stopped 1 (brought_up formatted) ≡ second.Kept
told_kept = refl

pub contents_gone : refused (brought_up formatted) (Read S x 0 1) ≡ Some NoContents
contents_gone = refl

pub no_stamp : kept_stamp (brought_up formatted) x ≡ None
no_stamp = refl

pub not_imported : refused (brought_up formatted) (Read S s 0 1) ≡ Some (WrongState Away)
not_imported = refl

pub may_again : refused (brought_up formatted) import ≡ None
may_again = refl

pub again_whole : stages terms chosen (brought_up formatted) import ≡ Spend x 3 ∷ Imports s x ∷ []
again_whole = refl

-- or all of it stands
pub all_done : StoppedAt in_host stopped (stopped_stages stopped) 2 (run in_host stopped (stopped_stages stopped))
all_done = refl

pub told_done : second_line stopped 2 (brought_up (run in_host stopped (stopped_stages stopped))) ≡ second.Done
told_done = refl

pub its_stamp : kept_stamp (brought_up (run in_host stopped (stopped_stages stopped))) x ≡ Some 1
its_stamp = refl
