-- The refusals of an event and their causes, in the order in which they are answered.
use Rattle.std.specs.Prelude.{ℕ, ◌+◌, Bool, true, false, not, ◌||◌, ◌&&◌, length, is_some, nat_lt, Option, None, Some, List, [], ◌∷◌, if◌then◌else◌}
use Rattle.std.specs.List.{sum_by}
use Rattle.std.specs.Str.{bytes_eq}
use Rattle.avs_model.specs.Limits.{least_volume, largest_volume, all_volumes, bitmap_blocks, most_sets, longest_write, longest_read}
use Rattle.avs_model.specs.State.{State, HostState, Use, Alone, MasterIn, ShadowIn, BitmapIn, host_of, volume_of, size_of, is_spent, use_of, role_of, reach_of, group_of, all_blocks}
use Rattle.avs_model.specs.declared.answer.Role.TheVariants.{Bitmap}
use Rattle.avs_model.specs.declared.event.Host.{Host}
use Rattle.avs_model.specs.declared.event.ArmTarget.{ArmTarget}
use Rattle.avs_model.specs.declared.event.ArmTarget.TheVariants as disk
use Rattle.avs_model.specs.declared.event.IiCommand.{IiCommand}
use Rattle.avs_model.specs.declared.event.IiCommand.TheVariants as command
use Rattle.avs_model.specs.declared.event.Event.{Event}
use Rattle.avs_model.specs.declared.event.Event.TheVariants.{Volume, Write, Read, Ii, Arm, Crash, Recover}
use Rattle.avs_model.specs.declared.answer.Word.TheVariants as word
use Rattle.avs_model.specs.declared.answer.Refusal.{Refusal}
use Rattle.avs_model.specs.declared.answer.Refusal.TheVariants.{Down, NoVolume, NoGroup, Exists, BusyVolume, Length, Range, Size, Limit, WrongState, NoContents}

-- the host is down
abbrev pub is_down : State → Host → Bool
is_down state host = not (host_of state host).up

-- the host has a volume of that name
abbrev pub has_volume : State → Host → List ℕ → Bool
has_volume state host name = is_some (volume_of (host_of state host) name)

-- the host has a group of that name
abbrev pub has_group : State → Host → List ℕ → Bool
has_group state host group = is_some (group_of (host_of state host) group)

-- what a volume serves as: nothing; a bitmap; nothing, or a master alone
abbrev pub is_alone : Use → Bool
is_alone Alone = true
is_alone (MasterIn group volume) = false
is_alone (ShadowIn group set) = false
is_alone (BitmapIn group set) = false

abbrev pub is_bitmap : Use → Bool
is_bitmap Alone = false
is_bitmap (MasterIn group volume) = false
is_bitmap (ShadowIn group set) = false
is_bitmap (BitmapIn group set) = true

abbrev pub may_be_master : Use → Bool
may_be_master Alone = true
may_be_master (MasterIn group volume) = true
may_be_master (ShadowIn group set) = false
may_be_master (BitmapIn group set) = false

-- what a read and a write of a range are refused for on a host that is up, where one has at most so many blocks
abbrev pub place_causes : State → Host → List ℕ → ℕ → ℕ → ℕ → List (Bool × Refusal)
place_causes state host name at len longest =
    let held = host_of state host in
    let reach = reach_of held name in
    (not (has_volume state host name), NoVolume)
    ∷ (is_bitmap (use_of held name), BusyVolume Bitmap)
    ∷ (nat_lt len 1 || nat_lt longest len, Length len)
    ∷ (nat_lt reach (at + len), Range reach)
    ∷ (is_spent held name, NoContents)
    ∷ []

-- and on any host
abbrev pub range_causes : State → Host → List ℕ → ℕ → ℕ → ℕ → List (Bool × Refusal)
range_causes state host name at len longest = (is_down state host, Down host) ∷ place_causes state host name at len longest

-- what is refused where a disk is asked for that is not there
abbrev pub disk_causes : State → Host → ArmTarget → List (Bool × Refusal)
disk_causes state host (disk.Volume name) = (not (has_volume state host name), NoVolume) ∷ []
disk_causes state host (disk.StateOf group) = (not (has_group state host group), NoGroup) ∷ []

-- the shadow sets of a host
abbrev pub sets_on : HostState → ℕ
sets_on held = sum_by (λ group. length group.sets) held.groups

-- what the enabling of a set is refused for on a host that is up. The three volumes differ: where one is named twice the later
-- word offends
abbrev pub enable_causes : HostState → List ℕ → List ℕ → List ℕ → List (Bool × Refusal)
enable_causes held master shadow bitmap =
    let blocks = size_of held master in
    (not (is_some (volume_of held master) && is_some (volume_of held shadow) && is_some (volume_of held bitmap)), NoVolume)
    ∷ (not (may_be_master (use_of held master)), BusyVolume (role_of held master))
    ∷ (not (is_alone (use_of held shadow)) || bytes_eq shadow master, BusyVolume (role_of held shadow))
    ∷ (not (is_alone (use_of held bitmap)) || bytes_eq bitmap master || bytes_eq bitmap shadow, BusyVolume (role_of held bitmap))
    ∷ (nat_lt (size_of held shadow) blocks, Size blocks (size_of held shadow))
    ∷ (nat_lt (size_of held bitmap) (bitmap_blocks blocks), Size (bitmap_blocks blocks) (size_of held bitmap))
    ∷ (not (nat_lt (sets_on held) most_sets), Limit most_sets)
    ∷ (is_spent held master, NoContents)
    ∷ []

abbrev pub command_causes : HostState → IiCommand → List (Bool × Refusal)
command_causes held (command.Enable dependent master shadow bitmap) = enable_causes held master shadow bitmap

-- each refusal of the event, with whether its cause holds
abbrev pub causes : State → Event → List (Bool × Refusal)
causes state (Volume host name blocks) =
    (is_down state host, Down host)
    ∷ (has_volume state host name, Exists)
    ∷ (nat_lt blocks least_volume, Size least_volume blocks)
    ∷ (nat_lt largest_volume blocks, Limit largest_volume)
    ∷ (nat_lt all_volumes (all_blocks state + blocks), Limit all_volumes)
    ∷ []
causes state (Write host name at len pattern) = range_causes state host name at len longest_write
causes state (Read host name at len) = range_causes state host name at len longest_read
causes state (Ii host command) = (is_down state host, Down host) ∷ command_causes (host_of state host) command
causes state (Arm host target skip first count) = (is_down state host, Down host) ∷ disk_causes state host target
causes state (Crash host) = (is_down state host, Down host) ∷ []
causes state (Recover host) = (not (is_down state host), WrongState word.Up) ∷ []

-- the first whose cause holds
abbrev pub first_cause : List (Bool × Refusal) → Option Refusal
first_cause [] = None
first_cause (cause ∷ causes) = if cause.0 then Some cause.1 else first_cause causes

-- the refusal of an event
abbrev pub refusal : State → Event → Option Refusal
refusal state event = first_cause (causes state event)
