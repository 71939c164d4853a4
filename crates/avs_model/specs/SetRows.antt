-- What the other commands on one shadow set are refused for, and the commands on overflow volumes.
use Rattle.std.specs.Prelude.{ℕ, ◌≡◌, ◌<◌, ◌≤◌, ◌==◌, Bool, true, false, not, ◌||◌, ◌&&◌, nat_lt, is_none, Option, None, Some, List, [], ◌∷◌, ◌++◌}
use Rattle.std.specs.Bool.{then_some}
use Rattle.avs_model.specs.Limits.{largest_number, most_imports, most_overflows, import_blocks}
use Rattle.avs_model.specs.Rows.{has_no_role, tells_away, is_overflow, is_ind, is_small, kind_word, kind_row, offline_row}
use Rattle.avs_model.specs.declared.command_facts.OneSetFacts.{OneSetFacts}
use Rattle.avs_model.specs.declared.command_facts.DisableFacts.{DisableFacts}
use Rattle.avs_model.specs.declared.command_facts.OverflowFacts.{OverflowFacts}
use Rattle.avs_model.specs.declared.command_facts.AttachFacts.{AttachFacts}
use Rattle.avs_model.specs.declared.command_facts.SlotsFacts.{SlotsFacts}
use Rattle.avs_model.specs.declared.command_facts.ExportFacts.{ExportFacts}
use Rattle.avs_model.specs.declared.command_facts.ImportFacts.{ImportFacts}
use Rattle.avs_model.specs.declared.command_facts.JoinFacts.{JoinFacts}
use Rattle.avs_model.specs.declared.command_facts.BitsFacts.{BitsFacts}
use Rattle.avs_model.specs.declared.answer.Word.TheVariants as word
use Rattle.avs_model.specs.declared.answer.Refusal.{Refusal}
use Rattle.avs_model.specs.declared.answer.Refusal.TheVariants.{Down, NoVolume, NoSet, BusyVolume, Size, Limit, WrongState, Copying, WrongStamp}

-- the end of an import, or of a set
abbrev pub disable_rows : DisableFacts → List (Option Refusal)
disable_rows f =
    then_some (not f.host.up) (Down f.host.name)
    ∷ then_some (not f.is_import && not f.set.there) NoSet
    ∷ then_some (not f.is_import && f.set.exported) (WrongState word.Exported)
    ∷ then_some (not f.is_import && nat_lt 0 f.set.back) (Copying f.set.back)
    ∷ then_some (not f.is_import && nat_lt 0 f.set.left) (Copying f.set.left)
    ∷ []

-- the end of its copying
abbrev pub abort_rows : OneSetFacts → List (Option Refusal)
abort_rows f =
    then_some (not f.host.up) (Down f.host.name)
    ∷ then_some (not f.set.there) NoSet
    ∷ offline_row f.set.offline
    ∷ []

-- a step of its copying, and all of them
abbrev pub copy_rows : OneSetFacts → List (Option Refusal)
copy_rows f =
    then_some (not f.host.up) (Down f.host.name)
    ∷ then_some (not f.set.there) NoSet
    ∷ then_some f.set.exported (WrongState word.Exported)
    ∷ then_some f.set.stopped (WrongState word.Stopped)
    ∷ []

-- what is told of it
abbrev pub status_rows : OneSetFacts → List (Option Refusal)
status_rows f =
    then_some (not f.host.up) (Down f.host.name)
    ∷ then_some (not f.set.there) NoSet
    ∷ []

-- its segments with bits: a shadow set has none
abbrev pub bits_rows : BitsFacts → List (Option Refusal)
bits_rows f =
    then_some (not f.host.up) (Down f.host.name)
    ∷ then_some (not f.there) NoSet
    ∷ kind_row f.kind
    ∷ []

-- a volume that becomes an overflow volume
abbrev pub overflow_rows : OverflowFacts → List (Option Refusal)
overflow_rows f =
    then_some (not f.host.up) (Down f.host.name)
    ∷ then_some (not f.volume.there) NoVolume
    ∷ then_some (not (has_no_role f.volume.role)) (BusyVolume f.volume.role)
    ∷ then_some (not (nat_lt f.overflows most_overflows)) (Limit most_overflows)
    ∷ []

-- its slots
abbrev pub slots_rows : SlotsFacts → List (Option Refusal)
slots_rows f =
    then_some (not f.host.up) (Down f.host.name)
    ∷ then_some (not f.volume.there) NoVolume
    ∷ then_some (not (is_overflow f.volume.role)) (BusyVolume f.volume.role)
    ∷ []

-- a set that gets an overflow volume
abbrev pub attach_rows : AttachFacts → List (Option Refusal)
attach_rows f =
    then_some (not f.host.up) (Down f.host.name)
    ∷ then_some (not f.volume.there) NoVolume
    ∷ then_some (not f.set.there) NoSet
    ∷ then_some (not (is_overflow f.volume.role) || f.elsewhere) (BusyVolume f.volume.role)
    ∷ then_some (not (is_small f.set.kind)) (WrongState (kind_word f.set.kind))
    ∷ then_some f.set.attached (WrongState word.Attached)
    ∷ offline_row f.set.offline
    ∷ []

-- and one that gives it up
abbrev pub detach_rows : OneSetFacts → List (Option Refusal)
detach_rows f =
    then_some (not f.host.up) (Down f.host.name)
    ∷ then_some (not f.set.there) NoSet
    ∷ then_some (not f.set.attached) (WrongState word.Detached)
    ∷ then_some (nat_lt 0 f.set.used) (WrongState word.Used)
    ∷ offline_row f.set.offline
    ∷ []

-- a set whose volume is given away
abbrev pub export_rows : ExportFacts → List (Option Refusal)
export_rows f =
    then_some (not f.host.up) (Down f.host.name)
    ∷ then_some (not f.set.there) NoSet
    ∷ then_some (nat_lt largest_number f.stamp) (Limit largest_number)
    ∷ then_some f.set.exported (WrongState word.Exported)
    ∷ then_some (not (is_ind f.set.kind)) (WrongState (kind_word f.set.kind))
    ∷ then_some (nat_lt 0 f.set.back) (Copying f.set.back)
    ∷ then_some (nat_lt 0 f.set.left) (Copying f.set.left)
    ∷ []

-- an import, before the label of its bitmap is looked at
abbrev pub import_early : ImportFacts → List (Option Refusal)
import_early f =
    then_some (not f.host.up) (Down f.host.name)
    ∷ then_some (not (f.volume.there && f.bitmap.there)) NoVolume
    ∷ then_some f.volume.imported (BusyVolume f.volume.role)
    ∷ then_some (not (has_no_role f.bitmap.role) || f.bitmap_twice) (BusyVolume f.bitmap.role)
    ∷ []

-- whether a volume that was imported before has a bitmap with another stamp
abbrev pub is_other_bitmap : Option ℕ → Option ℕ → Bool
is_other_bitmap None stamp = false
is_other_bitmap (Some own) None = true
is_other_bitmap (Some own) (Some stamp) = not (own == stamp)

-- and then: the stamp of the bitmap where it last served as the bitmap of an import
abbrev pub import_late : ImportFacts → Option ℕ → List (Option Refusal)
import_late f stamp =
    then_some (is_other_bitmap f.again stamp) (BusyVolume f.bitmap.role)
    ∷ then_some (nat_lt f.bitmap.blocks (import_blocks f.volume.blocks)) (Size (import_blocks f.volume.blocks) f.bitmap.blocks)
    ∷ then_some (not (nat_lt f.imports most_imports)) (Limit most_imports)
    ∷ then_some (not (tells_away f.volume.role)) (WrongState word.Present)
    ∷ []

abbrev pub import_rows : ImportFacts → Option ℕ → List (Option Refusal)
import_rows f stamp = import_early f ++ import_late f stamp

-- a set that takes its volume back, before the label of the bitmap is looked at
abbrev pub join_early : JoinFacts → List (Option Refusal)
join_early f =
    then_some (not f.host.up) (Down f.host.name)
    ∷ then_some (not f.bitmap.there) NoVolume
    ∷ then_some (not f.set.there) NoSet
    ∷ then_some (not f.set.exported) (WrongState word.Online)
    ∷ then_some (not f.is_back) (WrongState word.Away)
    ∷ then_some (not (has_no_role f.bitmap.role)) (WrongState word.Plain)
    ∷ []

-- a bitmap with another stamp
abbrev pub stamp_row : ℕ → Option ℕ → Option Refusal
stamp_row own None = None
stamp_row own (Some stamp) = then_some (not (own == stamp)) (WrongStamp own stamp)

-- and then
abbrev pub join_late : JoinFacts → Option ℕ → List (Option Refusal)
join_late f stamp =
    then_some (is_none stamp) (WrongState word.Plain)
    ∷ then_some (nat_lt 0 f.set.back) (Copying f.set.back)
    ∷ stamp_row f.stamp stamp
    ∷ []

abbrev pub join_rows : JoinFacts → Option ℕ → List (Option Refusal)
join_rows f stamp = join_early f ++ join_late f stamp

-- what is known where no row refuses: of the end of a set,
pub record DisablePasses (f : DisableFacts) : Type 0 where
  pub up : f.host.up ≡ true
  pub there : (not f.is_import && not f.set.there) ≡ false
  pub here : (not f.is_import && f.set.exported) ≡ false
  pub back : (not f.is_import && nat_lt 0 f.set.back) ≡ false
  pub left : (not f.is_import && nat_lt 0 f.set.left) ≡ false

-- of a step of copying,
pub record CopyPasses (f : OneSetFacts) : Type 0 where
  pub up : f.host.up ≡ true
  pub there : f.set.there ≡ true
  pub here : f.set.exported ≡ false
  pub goes : f.set.stopped ≡ false

-- of the end of copying,
pub record AbortPasses (f : OneSetFacts) : Type 0 where
  pub up : f.host.up ≡ true
  pub there : f.set.there ≡ true
  pub online : f.set.offline ≡ None

-- of a set that gets an overflow volume,
pub record AttachPasses (f : AttachFacts) : Type 0 where
  pub up : f.host.up ≡ true
  pub volume : f.volume.there ≡ true
  pub there : f.set.there ≡ true
  pub serves : is_overflow f.volume.role ≡ true
  pub own : f.elsewhere ≡ false
  pub small : is_small f.set.kind ≡ true
  pub free : f.set.attached ≡ false
  pub online : f.set.offline ≡ None

-- of one that gives it up,
pub record DetachPasses (f : OneSetFacts) : Type 0 where
  pub up : f.host.up ≡ true
  pub there : f.set.there ≡ true
  pub attached : f.set.attached ≡ true
  pub unused : f.set.used ≡ 0
  pub online : f.set.offline ≡ None

-- of a volume that becomes an overflow volume,
pub record OverflowPasses (f : OverflowFacts) : Type 0 where
  pub up : f.host.up ≡ true
  pub there : f.volume.there ≡ true
  pub plain : has_no_role f.volume.role ≡ true
  pub room : f.overflows < most_overflows

-- and of a set whose volume is given away
pub record ExportPasses (f : ExportFacts) : Type 0 where
  pub up : f.host.up ≡ true
  pub there : f.set.there ≡ true
  pub stamp : f.stamp ≤ largest_number
  pub here : f.set.exported ≡ false
  pub whole : is_ind f.set.kind ≡ true
  pub back : f.set.back ≡ 0
  pub left : f.set.left ≡ 0
