-- Stages of a host: what an event does to it, part by part.
use Rattle.std.specs.Prelude.{◌≡◌, ◌⊎◌, ℕ, ◌+◌, ◌==◌, Bool, true, false, not, is_some, if◌then◌else◌, Option, None, Some, List, [], ◌∷◌, ◌++◌, length, map, filter, find, take, drop, slice_set}
use Rattle.std.specs.List.{list_any, fold, enumerate_from, position_or_len, sum_by}
use Rattle.std.specs.Option.{option_map, option_map_or, unwrap_or, option_and_then}
use Rattle.std.specs.Str.{bytes_eq}
use Rattle.avs_seg.specs.Image.{Image, put, IsMix}
use Rattle.avs_seg.specs.Staged.{Stages}
use Rattle.avs_model.specs.ShadowSets.{ChunkList, no_chunks, together, own_slots, ShadowState, is_independent, whole_image}
use Rattle.avs_model.specs.GroupStates.{GroupState, empty_group, volume_image, has_master, set_at, free_slot}
use Rattle.avs_model.specs.GroupStages.{GroupStage, Change, Enabled, Disabled, ToMaster, Exported, Joined, Commit, TakesVolume, LeavesVolume, Attached, Detached}
use Rattle.avs_model.specs.GroupStages as group_stages
use Rattle.avs_model.specs.GroupWork.{GroupSpot, Work, work}
use Rattle.avs_model.specs.Room.{over_slots}
use Rattle.avs_model.specs.Hosts.{Name, AwayMark, ImportBits, VolumeMarks, no_marks, VolumeState, SetNames, ShadowGroup, HostSpot, OfVolume, OfNumber, Enabling, HostStage, Make, Put, Within, Spend, Format, Enables, Committed, MakesOverflow, Attaches, Detaches, Draw, Imports, EndsImport, MarksImport, Leaves, Arrives, ArmTear, GoDown, HostState, Halted, blocks_of_volume, marks_of, own_image, with_volume_named, without_volume_named, with_image, with_marks, group_at, group_of, with_group, is_named_so, number_in, name_at, names_of_slot}
use Rattle.avs_model.specs.HostPlaces.{host_spot}

-- ---- what a command makes of the volumes of a host

-- the contents of a volume are gone, and what it kept of an import
abbrev pub spent_volume : VolumeState → VolumeState
spent_volume volume = record volume { image = []; marks = record volume.marks { spent = true; bits = None } }

-- a group has the contents of a volume from now on; the host has them again
abbrev pub lent_volume : VolumeState → VolumeState
lent_volume volume = record volume { image = []; marks = record volume.marks { spent = false; away = None } }

abbrev pub returned_volume : Image → VolumeState → VolumeState
returned_volume image volume = record volume { image = image }

-- its contents are no more gone
abbrev pub filled_volume : VolumeState → VolumeState
filled_volume volume = record volume { marks = record volume.marks { spent = false } }

-- it is given away, with its contents
abbrev pub away_volume : ℕ → Image → VolumeState → VolumeState
away_volume stamp image volume = record volume { image = image; marks = record volume.marks { away = Some (record { stamp = stamp; imported = false }) } }

-- ---- enabling

-- a group of that name and number without sets
abbrev pub new_group : Name → ℕ → ShadowGroup
new_group name number = record { name = name; number = number; volumes = []; overs = []; sets = []; state = empty_group }

-- the place of the group of that name, and the host in which it is there
abbrev pub place_of : HostState → Name → ℕ
place_of host name = position_or_len (λ group. bytes_eq name group.name) host.groups

abbrev pub with_group_of : HostState → Name → ℕ → HostState
with_group_of host name number =
    if is_some (group_of host name) then host else record host { groups = host.groups ++ new_group name number ∷ [] }

-- a group with one volume more
abbrev pub taking : Name → Image → ShadowGroup → ShadowGroup
taking name image group = record group { volumes = group.volumes ++ Some name ∷ []; state = group_stages.after_stage group.state (TakesVolume image) }

-- the host in which the volume is one of the group
abbrev pub with_master : HostState → ℕ → Name → HostState
with_master host place name =
    if is_some (number_in (group_at host place).volumes name) then host
    else with_volume_named (with_group host place (taking name (own_image host name))) name lent_volume

-- the set, of that slot, with the master of that number
abbrev pub enabled_change : HostState → Enabling → ℕ → Change
enabled_change host set master =
    Enabled set.kind master (record { blocks = blocks_of_volume host set.master; own = own_slots set.kind (blocks_of_volume host set.shadow) }) set.behind

abbrev pub enabling_names : ℕ → Enabling → SetNames
enabling_names slot set = record { slot = slot; shadow = set.shadow; bitmap = set.bitmap; tag = set.tag }

abbrev pub enabling_in : HostState → Enabling → ShadowGroup → ShadowGroup
enabling_in host set group =
    let slot = free_slot group.state in
    let master = unwrap_or (number_in group.volumes set.master) 0 in
    record group {
      sets = group.sets ++ enabling_names slot set ∷ [];
      state = group_stages.after_stage group.state (Commit ((slot, enabled_change host set master) ∷ []) None);
    }

-- the host with a set more: its group is made where it is new, and its master joins the group
abbrev pub with_enabled : HostState → Enabling → HostState
with_enabled host set =
    let place = place_of host set.group in
    let held = with_master (with_group_of host set.group set.number) place set.master in
    let enabled = with_volume_named (with_group held place (enabling_in host set)) set.shadow lent_volume in
    record enabled { order = enabled.order ++ set.shadow ∷ [] }

-- ---- a commit

-- the host without a set of that group, whose contents it has again where the set was independent
abbrev pub returned_shadow : ShadowState → VolumeState → VolumeState
returned_shadow set volume = if is_independent set.kind then returned_volume (whole_image set.contents) volume else spent_volume volume

abbrev pub without_set : HostState → ℕ → SetNames → ShadowState → HostState
without_set host place names set =
    let left = with_group (with_volume_named host names.shadow (returned_shadow set)) place (λ group. record group { sets = filter (λ one. not (one.slot == names.slot)) group.sets }) in
    record left { order = filter (λ name. not (bytes_eq names.shadow name)) left.order }

-- a volume of which no set is left is taken out of its group, and the host has its contents again
abbrev pub leaving : ℕ → ShadowGroup → ShadowGroup
leaving volume group = record group { volumes = slice_set group.volumes volume None; state = group_stages.after_stage group.state (LeavesVolume volume) }

abbrev pub has_sets : GroupState → ℕ → Bool
has_sets group volume = list_any (λ set. has_master volume set) group.sets

abbrev pub without_bare_volume : HostState → ℕ → ℕ → HostState
without_bare_volume host place volume =
    let group = group_at host place in
    if has_sets group.state volume then host
    else with_volume_named (with_group host place (leaving volume)) (name_at group.volumes volume) (returned_volume (volume_image group.state volume))

-- the overflow volumes of a group that no set uses are its no more
abbrev pub still_used : GroupState → ℕ × Option Name → Option Name
still_used group at = if list_any (λ set. option_map_or (λ over. over == at.0) set.over false) group.sets then at.1 else None

abbrev pub without_unused_overs : ShadowGroup → ShadowGroup
without_unused_overs group = record group { overs = map (λ at. still_used group.state at) (enumerate_from 0 group.overs) }

-- what a change of a set makes of the host; the set is as it was before the command
abbrev pub settled : ℕ → HostState → SetNames → ShadowState → Change → HostState
settled place host names set Disabled = without_bare_volume (without_set host place names set) place set.master
settled place host names set ToMaster = with_volume_named host (name_at (group_at host place).volumes set.master) filled_volume
settled place host names set (Exported stamp) = with_volume_named host names.shadow (away_volume stamp (whole_image set.contents))
settled place host names set (Joined chunks contents) = with_volume_named host names.shadow lent_volume
settled place host names set change = host

abbrev pub settled_one : ShadowGroup → ℕ → HostState → ℕ × Change → HostState
settled_one before place host one = option_map_or (λ set. settled place host (names_of_slot before one.0) set one.1) (set_at before.state one.0) host

-- the host without a group that has no sets
abbrev pub without_bare_group : HostState → ℕ → HostState
without_bare_group host place =
    if length (group_at host place).sets == 0 then record host { groups = take place host.groups ++ drop (place + 1) host.groups } else host

abbrev pub committed_on : HostState → ℕ → List (ℕ × Change) → Option (List ℕ) → HostState
committed_on host place changes note =
    let before = group_at host place in
    let changed = with_group host place (λ group. record group { state = group_stages.after_stage group.state (Commit changes note) }) in
    let done = fold (settled_one before place) changed changes in
    without_bare_group (with_group done place without_unused_overs) place

-- ---- overflow volumes and imports

abbrev pub attaching : HostState → ℕ → Name → ShadowGroup → ShadowGroup
attaching host slot name group =
    let over = position_or_len (λ one. is_named_so name one) group.overs in
    record group {
      overs = if over == length group.overs then group.overs ++ Some name ∷ [] else group.overs;
      state = group_stages.after_stage group.state (Attached slot over (over_slots (blocks_of_volume host name)));
    }

abbrev pub detaching : ℕ → ShadowGroup → ShadowGroup
detaching slot group = without_unused_overs (record group { state = group_stages.after_stage group.state (Detached slot) })

-- the segments that a bitmap keeps of an import
abbrev pub segments_of : VolumeMarks → ChunkList
segments_of marks = option_map_or (λ bits. bits.segments) marks.bits no_chunks

abbrev pub stamp_of : HostState → Name → ℕ
stamp_of host name = option_map_or (λ away. away.stamp) (marks_of host name).away 0

abbrev pub with_bits : HostState → Name → ℕ → Name → ChunkList → HostState
with_bits host bitmap stamp volume segments =
    with_marks host bitmap (λ marks. record marks { bits = Some (record { stamp = stamp; volume = volume; segments = segments }) })

-- the volume was imported since it was given away
abbrev pub with_imported : AwayMark → AwayMark
with_imported away = record away { imported = true }

abbrev pub imported_since : VolumeMarks → VolumeMarks
imported_since marks = record marks { away = option_map with_imported marks.away }

-- its bitmap has the segments of its import before, or none where it was formatted
abbrev pub with_import : HostState → Name → Name → HostState
with_import host volume bitmap =
    let marked = with_marks host volume imported_since in
    let kept = with_bits marked bitmap (stamp_of host volume) volume (segments_of (marks_of host bitmap)) in
    record kept { imports = kept.imports ++ record { volume = volume; bitmap = bitmap } ∷ [] }

abbrev pub without_import : HostState → Name → HostState
without_import host volume = record host { imports = filter (λ one. not (bytes_eq volume one.volume)) host.imports }

-- the bitmap with other segments
abbrev pub other_segments : ChunkList → ImportBits → ImportBits
other_segments segments bits = record bits { segments = segments }

abbrev pub with_segments : HostState → Name → ChunkList → HostState
with_segments host bitmap segments = with_marks host bitmap (λ marks. record marks { bits = option_map (other_segments segments) marks.bits })

-- ---- a volume by itself

abbrev pub new_volume : Name → ℕ → Image → VolumeState
new_volume name blocks image = record { name = name; blocks = blocks; image = image; armed = false; marks = no_marks }

abbrev pub with_armed : HostState → HostSpot → Bool → HostState
with_armed host (OfVolume name) armed = with_volume_named host name (λ volume. record volume { armed = armed })
with_armed host (OfNumber number) armed = record host { numbers = slice_set host.numbers number (record { armed = armed }) }

-- the host behind a stage
abbrev pub after_host_stage : HostState → HostStage → HostState
after_host_stage host (Make name blocks image) = record host { volumes = host.volumes ++ new_volume name blocks image ∷ [] }
after_host_stage host (Put name at blocks) = with_image host name (put (own_image host name) at blocks)
after_host_stage host (Within place stage) = with_group host place (λ group. record group { state = group_stages.after_stage group.state stage })
after_host_stage host (Spend name blocks) = with_volume_named host name spent_volume
after_host_stage host (Format number) = host
after_host_stage host (Enables set) = with_enabled host set
after_host_stage host (Committed place changes note) = committed_on host place changes note
after_host_stage host (MakesOverflow name) = with_marks host name (λ marks. record marks { overflow = true })
after_host_stage host (Attaches place slot name) = with_group host place (attaching host slot name)
after_host_stage host (Detaches place slot) = with_group host place (detaching slot)
after_host_stage host Draw = record host { stamp = host.stamp + 2 }
after_host_stage host (Imports volume bitmap) = with_import host volume bitmap
after_host_stage host (EndsImport volume) = without_import host volume
after_host_stage host (MarksImport bitmap segments) = with_segments host bitmap (together segments (segments_of (marks_of host bitmap)))
after_host_stage host (Leaves name) = without_volume_named host name
after_host_stage host (Arrives volume) = record host { volumes = host.volumes ++ volume ∷ [] }
after_host_stage host (ArmTear disk) = with_armed host disk true
after_host_stage host GoDown = record host { run = Halted None }

-- any part of some segments are there too
pub record ArePartly (old more new : ChunkList) : Type 0 where
  pub each : (segment : ℕ) → (new segment ≡ old segment) ⊎ (new segment ≡ together more old segment)

-- the host in the midst of a stage: each block of a write is old or new, and of segments there is any part; all else is done or not
abbrev pub InHostStage : HostState → HostStage → HostState → Type 0
InHostStage host (Put name at blocks) new =
    (image : Image) × (IsMix (own_image host name) at blocks image) × (new ≡ with_image host name image)
InHostStage host (Within place stage) new =
    (left : GroupState) × (group_stages.InStage (group_at host place).state stage left) × (new ≡ with_group host place (λ group. record group { state = left }))
InHostStage host (MarksImport bitmap segments) new =
    (part : ChunkList) × (ArePartly (segments_of (marks_of host bitmap)) segments part) × (new ≡ with_segments host bitmap part)
InHostStage host stage new = ⊥

-- what the stages of a host do
abbrev pub in_host : Stages HostState HostStage
in_host = record { after = after_host_stage; In = InHostStage }

-- whether a stage is a commit, by which a command stands
abbrev pub is_host_commit : HostStage → Bool
is_host_commit (Enables set) = true
is_host_commit (Committed place changes _) = true
is_host_commit (MakesOverflow name) = true
is_host_commit (Attaches place slot name) = true
is_host_commit (Detaches place slot) = true
is_host_commit (Imports volume bitmap) = true
is_host_commit (EndsImport volume) = true
is_host_commit (Within place stage) = group_stages.is_commit stage
is_host_commit stage = false

-- whether one is among the first n stages
abbrev pub is_committed : ℕ → List HostStage → Bool
is_committed n stages = list_any is_host_commit (take n stages)

-- the number of the block of the group that the stages commit to, and that of the first block where it is new
abbrev pub committed_group : HostState → HostStage → Option ShadowGroup
committed_group host (Enables set) = option_map (λ place. group_at host place) (group_of host set.group)
committed_group host (Committed place changes _) = Some (group_at host place)
committed_group host (Within place stage) = Some (group_at host place)
committed_group host stage = None

abbrev pub sequence_before : HostState → List HostStage → ℕ
sequence_before host stages =
    option_map_or (λ group. group.state.sequence) (option_and_then (committed_group host) (find is_host_commit stages)) empty_group.sequence

-- ---- work

abbrev pub on_host_spot : ShadowGroup → Work GroupSpot → Work HostSpot
on_host_spot group one = record { disk = host_spot group one.disk; blocks = one.blocks }

abbrev pub in_group_work : HostState → ℕ → GroupStage → List (Work HostSpot)
in_group_work host place stage = let group = group_at host place in map (λ one. on_host_spot group one) (work group.state stage)

abbrev pub on_volume : Name → ℕ → List (Work HostSpot)
on_volume name blocks = record { disk = OfVolume name; blocks = blocks } ∷ []

abbrev pub on_number : ℕ → ℕ → List (Work HostSpot)
on_number number blocks = record { disk = OfNumber number; blocks = blocks } ∷ []

-- the number of the state disk of a set that is enabled
abbrev pub number_of : HostState → Enabling → ℕ
number_of host set = option_map_or (λ place. (group_at host place).number) (group_of host set.group) set.number

-- the disks on which a stage writes, and how many blocks at most: a label and an empty block for a new group; one block for a set that is
-- enabled
abbrev pub host_work : HostState → HostStage → List (Work HostSpot)
host_work host (Put name at blocks) = on_volume name (length blocks)
host_work host (Within place stage) = in_group_work host place stage
host_work host (Spend name blocks) = on_volume name blocks
host_work host (Format number) = on_number number 2
host_work host (Enables set) = on_number (number_of host set) 1
host_work host (Committed place changes note) = in_group_work host place (Commit changes note)
host_work host (MarksImport bitmap segments) = on_volume bitmap (blocks_of_volume host bitmap)
host_work host stage = []

abbrev pub host_work_of : HostState → List HostStage → List (Work HostSpot)
host_work_of host [] = []
host_work_of host (stage ∷ stages) = host_work host stage ++ host_work_of (after_host_stage host stage) stages

abbrev pub same_disk : HostSpot → HostSpot → Bool
same_disk (OfVolume a) (OfVolume b) = bytes_eq a b
same_disk (OfNumber a) (OfNumber b) = a == b
same_disk a b = false

-- how many blocks they write on a disk at most
abbrev pub written_on : List (Work HostSpot) → HostSpot → ℕ
written_on works disk = sum_by (λ one. one.blocks) (filter (λ one. same_disk one.disk disk) works)
