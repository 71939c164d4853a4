-- Events on one host: the stages of each that nothing refuses, and its answer.
use Rattle.std.specs.Prelude.{◌≡◌, ℕ, ◌+◌, ◌-◌, ◌&&◌, Bool, true, false, is_some, is_none, if◌then◌else◌, Option, None, Some, List, [], ◌∷◌, ◌++◌, length, map, take, drop, replicate}
use Rattle.std.specs.List.{filter_map, sum_by}
use Rattle.std.specs.Option.{option_map, option_map_or, option_and_then}
use Rattle.avs_seg.specs.Image.{Image, blank, range}
use Rattle.avs_seg.specs.Segment.{touch}
use Rattle.avs_model.specs.Filling.{fill}
use Rattle.avs_model.specs.Limits.{import_blocks}
use Rattle.avs_model.specs.Terms.{Terms, Chosen, chosen_blocks}
use Rattle.avs_model.specs.ShadowSets.{chunks_among, all_chunks, chunks_in, ShadowState, Standing, Online, Offline, Exported, kind_of, bitmap_blocks_of, to_copy, next_to_copy}
use Rattle.avs_model.specs.GroupStages.{Copied, Change, volume_write_stages, shadow_write_stages, copy_stages, update_changes}
use Rattle.avs_model.specs.GroupStages as change
use Rattle.avs_model.specs.GroupWork.{VolumeDisk, ShadowDisk}
use Rattle.avs_model.specs.Room.{over_slots, used_in}
use Rattle.avs_model.specs.Hosts.{Name, ShadowGroup, SetNames, SetPlace, HostSpot, OfVolume, OfNumber, Enabling, HostStage, Make, Put, Within, Spend, Format, Enables, Committed, MakesOverflow, Attaches, Detaches, Draw, Imports, EndsImport, MarksImport, ArmTear, GoDown, HostState, blocks_of_volume, marks_of, own_image, group_at, group_of, number_in, name_at, set_of, state_at, set_state, free_number, with_number, import_of, is_imported}
use Rattle.avs_model.specs.HostPlaces.{Where, Own, InGroup, where_is, image_of}
use Rattle.avs_model.specs.HostStages.{segments_of}
use Rattle.avs_model.specs.HostFacts.{joined_group, imported_stamp}
use Rattle.avs_model.specs.declared.event.ArmTarget.{ArmTarget}
use Rattle.avs_model.specs.declared.event.ArmTarget.TheVariants as target
use Rattle.avs_model.specs.declared.product.Elsewhere.{Elsewhere}
use Rattle.avs_model.specs.declared.product.Way.{Way}
use Rattle.avs_model.specs.declared.product.IiTarget.{IiTarget}
use Rattle.avs_model.specs.declared.product.IiTarget.TheVariants.{Sets, Group}
use Rattle.avs_model.specs.declared.product.IiCommand.{IiCommand}
use Rattle.avs_model.specs.declared.product.IiCommand.TheVariants.{Enable, Disable, Update, Abort, Finish, MakeOverflow, Attach, Detach, OverflowStatus, Export, Import, Join, List as ListSets, Status}
use Rattle.avs_model.specs.declared.product.Event.{Event}
use Rattle.avs_model.specs.declared.product.Event.TheVariants.{Volume, Write, Read, Ii, IiBad, Copy, Arm, Crash, Recover, Move}
use Rattle.avs_model.specs.declared.product.SetState.{SetState}
use Rattle.avs_model.specs.declared.product.SetState.TheVariants as standing
use Rattle.avs_model.specs.declared.product.ShadowShown.{ShadowShown}
use Rattle.avs_model.specs.declared.product.Answer.{Answer}
use Rattle.avs_model.specs.declared.product.Answer.TheVariants as says
use Rattle.avs_model.specs.declared.recovered.Recovered.{Recovered}

-- ---- reads and writes

-- a new volume of zeros
abbrev pub new_image : Terms → ℕ → Image
new_image terms blocks = if terms.tells then blank blocks else []

-- a write to a volume that no group holds; of an import its segments are marked first
abbrev pub own_write : HostState → Name → ℕ → Image → List HostStage
own_write host name at blocks =
    option_map_or (λ one. MarksImport one.bitmap (chunks_among (touch at (length blocks))) ∷ []) (import_of host name) [] ++ Put name at blocks ∷ []

-- the stages of a write, by where the volume is: none is written that is a bitmap or an overflow volume
abbrev pub write_stages : HostState → Name → ℕ → Image → Where → List HostStage
write_stages host name at blocks Own = own_write host name at blocks
write_stages host name at blocks (InGroup place (VolumeDisk volume)) =
    map (λ stage. Within place stage) (volume_write_stages (group_at host place).state volume at blocks)
write_stages host name at blocks (InGroup place (ShadowDisk slot)) = map (λ stage. Within place stage) (shadow_write_stages slot at blocks)
write_stages host name at blocks (InGroup place spot) = []

-- ---- commands

-- the blocks of a shadow volume behind its master's number: any, where its contents were gone
abbrev pub behind_of : Chosen → HostState → Name → ℕ → Image
behind_of chosen host shadow blocks =
    if (marks_of host shadow).spent then chosen_blocks chosen (blocks_of_volume host shadow - blocks) else drop blocks (own_image host shadow)

abbrev pub enabling_of : Chosen → HostState → Option Name → Option Name → Bool → Name → Name → Name → Enabling
enabling_of chosen host group tag dependent master shadow bitmap = record {
  group = joined_group host group master shadow;
  number = free_number host;
  kind = kind_of dependent (blocks_of_volume host shadow) (blocks_of_volume host master);
  master = master;
  shadow = shadow;
  bitmap = bitmap;
  tag = tag;
  behind = behind_of chosen host shadow (blocks_of_volume host master);
}

-- whether a new group is made, whose state disk is formatted first; then the bitmap is
abbrev pub makes_group : HostState → Enabling → Bool
makes_group host set = is_none (group_of host set.group)

abbrev pub enabling_stages : HostState → Enabling → List HostStage
enabling_stages host set =
    (if makes_group host set then Format set.number ∷ [] else [])
    ++ Spend set.bitmap (bitmap_blocks_of set.kind (blocks_of_volume host set.master)) ∷ Enables set ∷ []

-- a change of one set, by its name
abbrev pub changes_set : HostState → Name → Change → List HostStage
changes_set host name one = option_map_or (λ at. Committed at.group ((at.names.slot, one) ∷ []) None ∷ []) (set_of host name) []

abbrev pub disabling_stages : HostState → Name → List HostStage
disabling_stages host name = if is_imported host name then EndsImport name ∷ [] else changes_set host name change.Disabled

-- the slots of the sets of an update, and the place of their group
abbrev pub slots_named : HostState → List Name → List ℕ
slots_named host sets = filter_map (λ name. option_map (λ at. at.names.slot) (set_of host name)) sets

abbrev pub place_of_sets : HostState → List Name → Option ℕ
place_of_sets host [] = None
place_of_sets host (set ∷ sets) = option_map (λ at. at.group) (set_of host set)

abbrev pub place_of_target : HostState → IiTarget → Option ℕ
place_of_target host (Sets names) = place_of_sets host names
place_of_target host (Group group) = group_of host group

abbrev pub names_in : HostState → Name → List Name
names_in host group = option_map_or (λ place. map (λ set. set.shadow) (group_at host place).sets) (group_of host group) []

abbrev pub sets_of_target : HostState → IiTarget → List Name
sets_of_target host (Sets names) = names
sets_of_target host (Group group) = names_in host group

abbrev pub updating_stages : HostState → Way → Bool → IiTarget → List HostStage
updating_stages host way whole target =
    option_map_or (λ place. Committed place (update_changes (group_at host place).state way whole (slots_named host (sets_of_target host target))) None ∷ [])
    (place_of_target host target) []

-- the bitmap of an import is formatted, unless the volume was imported before since it was given away; with its label, which is one block
-- more, the volume is imported
abbrev pub importing_stages : HostState → Name → Name → List HostStage
importing_stages host volume bitmap =
    (if is_some (imported_stamp (marks_of host volume).away) then []
    else Spend bitmap (import_blocks (blocks_of_volume host volume) + 1) ∷ [])
    ++ Imports volume bitmap ∷ []

-- what comes back with a shadow volume: its blocks, and the chunks of the set that were written meanwhile
abbrev pub back_with : HostState → Name → Name → ShadowState → Change
back_with host name bitmap set =
    let image = own_image host name in
    let segments = segments_of (marks_of host bitmap) in
    change.Joined (λ chunk. all_chunks set.size.blocks chunk && segments chunk) (record { image = take set.size.blocks image; behind = drop set.size.blocks image })

abbrev pub joining_stages : HostState → Name → Name → List HostStage
joining_stages host name bitmap = option_map_or (λ set. changes_set host name (back_with host name bitmap set)) (set_state host name) []

abbrev pub attaching_stages : HostState → Name → Name → List HostStage
attaching_stages host volume set = option_map_or (λ at. Attaches at.group at.names.slot volume ∷ []) (set_of host set) []

abbrev pub detaching_stages : HostState → Name → List HostStage
detaching_stages host set = option_map_or (λ at. Detaches at.group at.names.slot ∷ []) (set_of host set) []

-- the stages of a command; `-w` is a fold of steps
abbrev pub command_stages : Chosen → HostState → IiCommand → List HostStage
command_stages chosen host (Enable group tag dependent master shadow bitmap) =
    enabling_stages host (enabling_of chosen host group tag dependent master shadow bitmap)
command_stages chosen host (Disable name) = disabling_stages host name
command_stages chosen host (Update way whole target shift) = updating_stages host way whole target
command_stages chosen host (Abort set) = changes_set host set change.Stops
command_stages chosen host (Finish set) = []
command_stages chosen host (MakeOverflow volume) = Spend volume 1 ∷ MakesOverflow volume ∷ []
command_stages chosen host (Attach volume set) = attaching_stages host volume set
command_stages chosen host (Detach set) = detaching_stages host set
command_stages chosen host (OverflowStatus volume) = []
command_stages chosen host (Export set) = Draw ∷ changes_set host set (change.Exported host.stamp)
command_stages chosen host (Import volume bitmap) = importing_stages host volume bitmap
command_stages chosen host (Join set bitmap) = joining_stages host set bitmap
command_stages chosen host ListSets = []
command_stages chosen host (Status set) = []

-- ---- the other statements

-- a step of copying
abbrev pub copying_stages : HostState → Name → List HostStage
copying_stages host name =
    option_map_or (λ at. map (λ stage. Within at.group stage) (copy_stages at.names.slot (option_and_then next_to_copy (state_at host at)))) (set_of host name) []

-- the disk that a target names
abbrev pub target_spot : HostState → ArmTarget → HostSpot
target_spot host (target.Volume name) = OfVolume name
target_spot host (target.StateOf group) = OfNumber (option_map_or (λ place. (group_at host place).number) (group_of host group) 0)

-- the stages of an event on one host; a volume that moves is an event of two
abbrev pub stages : Terms → Chosen → HostState → Event → List HostStage
stages terms chosen host (Volume name volume blocks) = Make volume blocks (new_image terms blocks) ∷ []
stages terms chosen host (Write name volume at len pattern) = write_stages host volume at (replicate len (fill pattern)) (where_is host volume)
stages terms chosen host (Read name volume at len) = []
stages terms chosen host (Ii name command) = command_stages chosen host command
stages terms chosen host (IiBad name word) = []
stages terms chosen host (Copy name set) = copying_stages host set
stages terms chosen host (Arm name target skip first count) = ArmTear (target_spot host target) ∷ []
stages terms chosen host (Crash name) = GoDown ∷ []
stages terms chosen host (Recover name) = []
stages terms chosen host (Move volume from to) = []

-- Before its stages, and before a fault can stop it, a command that makes a group has a disk for its state.
abbrev pub asks_for_number : HostState → IiCommand → Bool
asks_for_number host (Enable group tag dependent master shadow bitmap) = is_none (group_of host (joined_group host group master shadow))
asks_for_number host command = false

abbrev pub with_disk_asked : HostState → Event → HostState
with_disk_asked host (Ii name command) = if asks_for_number host command then with_number host (free_number host) else host
with_disk_asked host event = host

-- ---- answers

-- what is shown of a volume over a rack that tells its blocks; else so many blocks
abbrev pub IsShown : Terms → Image → ℕ → ℕ → Answer → Type 0
IsShown terms image at len answer = shown terms.tells
  where
    shown : Bool → Type 0
    shown true = answer ≡ says.Shown (range image at len)
    shown false = (blocks : Image) × (answer ≡ says.Shown blocks) × (length blocks ≡ len)

abbrev pub copied_answer : Option ℕ → Answer
copied_answer None = says.Idle
copied_answer (Some chunk) = says.Copied chunk

-- the slots of an overflow volume that are used: the sets of the group in which it is attached use them
abbrev pub used_slots : HostState → Name → ℕ
used_slots host volume = sum_by (λ group. option_map_or (λ over. used_in group.state over) (number_in group.overs volume) 0) host.groups

abbrev pub state_of : ShadowState → SetState
state_of set = by set.standing set.lists.stopped
  where
    by : Standing → Bool → SetState
    by (Exported stamp) stopped = standing.Exported
    by (Offline need slots) stopped = standing.Offline
    by Online true = standing.Stopped
    by Online false = standing.Online

abbrev pub shown_set : ShadowGroup → SetNames → ShadowState → ShadowShown
shown_set group names set = record {
  set = names.shadow;
  kind = set.kind;
  master = name_at group.volumes set.master;
  group = group.name;
  left = to_copy set;
  moved = chunks_in set.size.blocks set.lists.moved;
  state = state_of set;
  tag = names.tag;
}

-- what is told of the set of a name
abbrev pub IsStatus : HostState → Name → Answer → Type 0
IsStatus host name answer =
    (at : SetPlace) × (set_of host name ≡ Some at) × (set : ShadowState) × (state_at host at ≡ Some set) × (answer ≡ says.ShadowShown (shown_set (group_at host at.group) at.names set))

-- the answer of a command that is neither refused nor stopped
abbrev pub IsCommandOutcome : HostState → IiCommand → Answer → Type 0
IsCommandOutcome host (OverflowStatus volume) answer = answer ≡ says.Slots (over_slots (blocks_of_volume host volume)) (used_slots host volume)
IsCommandOutcome host (Export set) answer = answer ≡ says.Exported host.stamp
IsCommandOutcome host ListSets answer = answer ≡ says.Sets host.order
IsCommandOutcome host (Status set) answer = IsStatus host set answer
IsCommandOutcome host command answer = answer ≡ says.Done

-- and of an event
abbrev pub IsOutcome : Terms → Elsewhere → HostState → Event → Answer → Type 0
IsOutcome terms other host (Read name volume at len) answer = IsShown terms (image_of host volume) at len answer
IsOutcome terms other host (Ii name command) answer = IsCommandOutcome host command answer
IsOutcome terms other host (IiBad name word) answer = ⊥
IsOutcome terms other host (Copy name set) answer = answer ≡ copied_answer (option_and_then next_to_copy (set_state host set))
IsOutcome terms other host (Crash name) answer = answer ≡ says.Down other.name
IsOutcome terms other host (Recover name) answer = (told : Recovered) × (answer ≡ says.Up told) × (told.host ≡ other.name)
IsOutcome terms other host event answer = answer ≡ says.Done
