-- A host: its volumes, its groups of shadow sets, the disks of their states, its imports; and while it is down the event in which a
-- fault stopped it.
use Rattle.std.specs.Prelude.{ℕ, ◌+◌, ◌==◌, Bool, true, false, not, if◌then◌else◌, Option, None, Some, List, [], ◌∷◌, ◌++◌, length, map, filter, find, is_some, slice_set, slice_index_or}
use Rattle.std.specs.List.{list_any, position, range_with_len, sum_by}
use Rattle.std.specs.Option.{option_map, option_map_or, unwrap_or, option_and_then}
use Rattle.std.specs.Str.{bytes_eq}
use Rattle.avs_seg.specs.Image.{Image}
use Rattle.avs_model.specs.ShadowSets.{ChunkList, ShadowState}
use Rattle.avs_model.specs.GroupStates.{GroupState, empty_group, set_at}
use Rattle.avs_model.specs.GroupStages.{GroupStage, Change}
use Rattle.avs_model.specs.declared.shadow.Kind.{Kind}
use Rattle.avs_model.specs.declared.product.Event.{Event}

abbrev pub Name : Type 0
Name = List ℕ

-- the mark of a volume that was given away: the stamp of its export, and whether it was imported since
pub record AwayMark : Type 0 where
  pub stamp : ℕ
  pub imported : Bool

-- what a volume keeps that serves, or last served, as the bitmap of an import: the stamp, the imported volume, and the segments that were
-- written there
pub record ImportBits : Type 0 where
  pub stamp : ℕ
  pub volume : Name
  pub segments : ChunkList

-- what is kept with the name of a volume: whether its contents are gone; whether and how it is away; whether it is an overflow volume; and
-- the bits of an import
pub record VolumeMarks : Type 0 where
  pub spent : Bool
  pub away : Option AwayMark
  pub overflow : Bool
  pub bits : Option ImportBits

abbrev pub no_marks : VolumeMarks
no_marks = record { spent = false; away = None; overflow = false; bits = None }

-- a volume: its name; how many blocks it has; its image, which is [] where its contents are gone, and while a group holds it;
-- whether a tear is armed on its disk; and its marks
pub record VolumeState : Type 0 where
  pub name : Name
  pub blocks : ℕ
  pub image : Image
  pub armed : Bool
  pub marks : VolumeMarks

-- a shadow set in its group: its slot, its shadow, by which it is named, its bitmap, and its tag
pub record SetNames : Type 0 where
  pub slot : ℕ
  pub shadow : Name
  pub bitmap : Name
  pub tag : Option Name

-- a group: its name; the number of its state disk; its volumes and its overflow volumes by their numbers in the group, where a hole has no
-- name; its sets in order of enabling; and its state
pub record ShadowGroup : Type 0 where
  pub name : Name
  pub number : ℕ
  pub volumes : List (Option Name)
  pub overs : List (Option Name)
  pub sets : List SetNames
  pub state : GroupState

-- the disk of a number, on which a group may keep its state: whether a tear is armed on it
pub record NumberState : Type 0 where
  pub armed : Bool

-- an import: the volume that may be written here, and the volume that keeps where
pub record ImportState : Type 0 where
  pub volume : Name
  pub bitmap : Name

-- a disk of a host: that of a volume, or that of a number
pub data HostSpot : Type 0 where
  OfVolume : Name → HostSpot
  OfNumber : ℕ → HostSpot

-- a set that is enabled: its group, and the number of the state disk where that is new; its kind; its volumes and its tag; and the blocks
-- of the shadow volume behind the shadow
pub record Enabling : Type 0 where
  pub group : Name
  pub number : ℕ
  pub kind : Kind
  pub master : Name
  pub shadow : Name
  pub bitmap : Name
  pub tag : Option Name
  pub behind : Image

-- what an event does to a host, part by part
pub data HostStage : Type 0 where
  -- a new volume of so many blocks, with that image
  Make : Name → ℕ → Image → HostStage
  -- blocks are written from a place on to a volume that no group holds
  Put : Name → ℕ → Image → HostStage
  -- a stage within the group of that place, which changes nothing else
  Within : ℕ → GroupStage → HostStage
  -- a volume is formatted, by so many blocks: its contents are gone
  Spend : Name → ℕ → HostStage
  -- the disk of a number is formatted for a new group
  Format : ℕ → HostStage
  -- a set is enabled
  Enables : Enabling → HostStage
  -- the sets of these slots of a group change, all at once, with the note where one is given, and with them what the host has of them
  Committed : ℕ → List (ℕ × Change) → Option (List ℕ) → HostStage
  -- a volume becomes an overflow volume
  MakesOverflow : Name → HostStage
  -- the set of a slot of a group uses an overflow volume; it uses none
  Attaches : ℕ → ℕ → Name → HostStage
  Detaches : ℕ → ℕ → HostStage
  -- the next stamp is drawn
  Draw : HostStage
  -- a volume is imported, with its bitmap; its import ends; these segments of it are written
  Imports : Name → Name → HostStage
  EndsImport : Name → HostStage
  MarksImport : Name → ChunkList → HostStage
  -- the volume of that name is on the host no more; this one comes to it
  Leaves : Name → HostStage
  Arrives : VolumeState → HostStage
  -- a tear is armed on a disk
  ArmTear : HostSpot → HostStage
  -- the host goes down, and no fault stopped it
  GoDown : HostStage

-- What a fault stopped: the event, or the step of one; what it was about to do on this host; whether that was begun; and the number of the
-- block in which the group stood that it changes.
pub record Stopped : Type 0 where
  pub event : Event
  pub stages : List HostStage
  pub begun : Bool
  pub sequence : ℕ

-- a host runs, or lies still, stopped by a fault or not
pub data HostRun : Type 0 where
  Running : HostRun
  Halted : Option Stopped → HostRun

-- A host: whether it runs; its volumes in order of making; its groups in order of making; the disks of numbers; the names of its
-- shadow sets in order of enabling; its imports; and the stamp that it gives next. While it lies still, all stands as before the event that a
-- fault stopped.
pub record HostState : Type 0 where
  pub run : HostRun
  pub volumes : List VolumeState
  pub groups : List ShadowGroup
  pub numbers : List NumberState
  pub order : List Name
  pub imports : List ImportState
  pub stamp : ℕ

abbrev pub runs : HostRun → Bool
runs Running = true
runs (Halted stopped) = false

abbrev pub is_up : HostState → Bool
is_up host = runs host.run

abbrev pub stopped_in : HostRun → Option Stopped
stopped_in Running = None
stopped_in (Halted stopped) = stopped

-- a host without volumes, which gives that stamp first
abbrev pub empty_host : ℕ → HostState
empty_host stamp = record { run = Running; volumes = []; groups = []; numbers = []; order = []; imports = []; stamp = stamp }

-- ---- volumes by name

abbrev pub is_volume : Name → VolumeState → Bool
is_volume name volume = bytes_eq name volume.name

abbrev pub volume_of : HostState → Name → Option VolumeState
volume_of host name = find (λ volume. is_volume name volume) host.volumes

abbrev pub has_volume : HostState → Name → Bool
has_volume host name = is_some (volume_of host name)

abbrev pub blocks_of_volume : HostState → Name → ℕ
blocks_of_volume host name = option_map_or (λ volume. volume.blocks) (volume_of host name) 0

abbrev pub marks_of : HostState → Name → VolumeMarks
marks_of host name = option_map_or (λ volume. volume.marks) (volume_of host name) no_marks

-- the image that the host has of it, not a group
abbrev pub own_image : HostState → Name → Image
own_image host name = option_map_or (λ volume. volume.image) (volume_of host name) []

-- the host in which that volume is changed
abbrev pub with_volume_named : HostState → Name → (VolumeState → VolumeState) → HostState
with_volume_named host name change = record host { volumes = map (λ volume. if is_volume name volume then change volume else volume) host.volumes }

abbrev pub without_volume_named : HostState → Name → HostState
without_volume_named host name = record host { volumes = filter (λ volume. not (is_volume name volume)) host.volumes }

abbrev pub with_image : HostState → Name → Image → HostState
with_image host name image = with_volume_named host name (λ volume. record volume { image = image })

abbrev pub with_marks : HostState → Name → (VolumeMarks → VolumeMarks) → HostState
with_marks host name change = with_volume_named host name (λ volume. record volume { marks = change volume.marks })

-- the blocks of all its volumes
abbrev pub blocks_on : HostState → ℕ
blocks_on host = sum_by (λ volume. volume.blocks) host.volumes

-- ---- groups by place and by name

abbrev pub no_group : ShadowGroup
no_group = record { name = []; number = 0; volumes = []; overs = []; sets = []; state = empty_group }

abbrev pub group_at : HostState → ℕ → ShadowGroup
group_at host place = slice_index_or host.groups place no_group

abbrev pub group_of : HostState → Name → Option ℕ
group_of host name = position (λ group. bytes_eq name group.name) host.groups

abbrev pub with_group : HostState → ℕ → (ShadowGroup → ShadowGroup) → HostState
with_group host place change = record host { groups = slice_set host.groups place (change (group_at host place)) }

-- whether that is the name, where there is one; and the number of a name in a group
abbrev pub is_named_so : Name → Option Name → Bool
is_named_so name one = option_map_or (λ own. bytes_eq name own) one false

abbrev pub number_in : List (Option Name) → Name → Option ℕ
number_in names name = position (λ one. is_named_so name one) names

abbrev pub name_at : List (Option Name) → ℕ → Name
name_at names number = unwrap_or (slice_index_or names number None) []

-- ---- shadow sets by name: the place of the group, and the names of the set

pub record SetPlace : Type 0 where
  pub group : ℕ
  pub names : SetNames

abbrev pub is_set : Name → SetNames → Bool
is_set name set = bytes_eq name set.shadow

abbrev pub set_in : ℕ → ShadowGroup → Name → Option SetPlace
set_in place group name = option_map (λ names. record { group = place; names = names }) (find (λ set. is_set name set) group.sets)

abbrev pub or_else : {X : Type 0} → Option X → Option X → Option X
or_else (Some first) other = Some first
or_else None other = other

abbrev pub set_from : ℕ → List ShadowGroup → Name → Option SetPlace
set_from place [] name = None
set_from place (group ∷ groups) name = or_else (set_in place group name) (set_from (place + 1) groups name)

abbrev pub set_of : HostState → Name → Option SetPlace
set_of host name = set_from 0 host.groups name

abbrev pub has_set : HostState → Name → Bool
has_set host name = is_some (set_of host name)

-- its state
abbrev pub state_at : HostState → SetPlace → Option ShadowState
state_at host place = set_at (group_at host place.group).state place.names.slot

abbrev pub set_state : HostState → Name → Option ShadowState
set_state host name = option_and_then (λ place. state_at host place) (set_of host name)

-- the names of the set of a slot
abbrev pub no_names : SetNames
no_names = record { slot = 0; shadow = []; bitmap = []; tag = None }

abbrev pub names_of_slot : ShadowGroup → ℕ → SetNames
names_of_slot group slot = unwrap_or (find (λ set. set.slot == slot) group.sets) no_names

-- ---- the disks of numbers

-- whether a group has that number, and the least that none has
abbrev pub is_number_used : HostState → ℕ → Bool
is_number_used host number = list_any (λ group. group.number == number) host.groups

abbrev pub free_number : HostState → ℕ
free_number host = unwrap_or (find (λ number. not (is_number_used host number)) (range_with_len 0 (length host.numbers))) (length host.numbers)

-- the host with a disk of that number, which is made where it is not there
abbrev pub with_number : HostState → ℕ → HostState
with_number host number =
    record host { numbers = if number == length host.numbers then host.numbers ++ record { armed = false } ∷ [] else host.numbers }

-- ---- imports

abbrev pub import_of : HostState → Name → Option ImportState
import_of host name = find (λ one. bytes_eq name one.volume) host.imports

abbrev pub is_imported : HostState → Name → Bool
is_imported host name = is_some (import_of host name)

abbrev pub keeps_import : HostState → Name → Bool
keeps_import host name = list_any (λ one. bytes_eq name one.bitmap) host.imports
