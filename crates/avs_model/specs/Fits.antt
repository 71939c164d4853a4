-- What each event keeps that a line is read as.
use Rattle.std.specs.Prelude.{ℕ, List, IsTrue}
use Rattle.avs_model.specs.Names.{IsVolumeName, is_group_name}
use Rattle.avs_model.specs.Script.{built}
use Rattle.avs_model.specs.declared.event.IiCommand.{IiCommand}
use Rattle.avs_model.specs.declared.event.IiCommand.TheVariants.{Enable}
use Rattle.avs_model.specs.declared.event.Event.{Event}
use Rattle.avs_model.specs.declared.event.Event.TheVariants.{Volume, Write, Read, Ii, Arm, Crash, Recover}
use Rattle.avs_model.specs.declared.event.ArmTarget.{ArmTarget}
use Rattle.avs_model.specs.declared.event.ArmTarget.TheVariants as disk
use Rattle.avs_model.specs.declared.event.Statement.{Statement}
use Rattle.avs_model.specs.declared.event.Statement.TheVariants.{Nothing, Run}

-- a disk is named by a volume or by a group
abbrev pub IsDiskName : ArmTarget → Type 0
IsDiskName (disk.Volume name) = IsVolumeName name
IsDiskName (disk.StateOf group) = IsTrue (is_group_name group)

-- three names of volumes, and those in a command
pub record AreNames (a b c : List ℕ) : Type 0 where
  pub first : IsVolumeName a
  pub second : IsVolumeName b
  pub third : IsVolumeName c

abbrev pub IsNamedCommand : IiCommand → Type 0
IsNamedCommand (Enable dependent master shadow bitmap) = AreNames master shadow bitmap

-- the names in an event
abbrev pub IsNamed : Event → Type 0
IsNamed (Volume host volume blocks) = IsVolumeName volume
IsNamed (Write host volume at len pattern) = IsVolumeName volume
IsNamed (Read host volume at len) = IsVolumeName volume
IsNamed (Ii host command) = IsNamedCommand command
IsNamed (Arm host target skip first count) = IsDiskName target
IsNamed (Crash host) = Unit {0}
IsNamed (Recover host) = Unit {0}

-- an event that a line may say, so far
pub record Fits (event : Event) : Type 0 where
  pub there : IsTrue (built event)
  pub named : IsNamed event

abbrev pub StatementFits : Statement → Type 0
StatementFits Nothing = Unit {0}
StatementFits (Run event) = Fits event
