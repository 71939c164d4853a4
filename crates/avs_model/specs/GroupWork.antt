-- Work: on which disks of a group a stage writes, and how many blocks at most. Exactly so many are written to volumes that are no more
-- than masters, to the volumes of independent and dependent shadows that are not compact, and to a bitmap by a mark or a copy.
use Rattle.std.specs.Prelude.{ℕ, ◌-◌, ◌/◌, ◌==◌, ◌&&◌, ◌||◌, Bool, true, false, not, if◌then◌else◌, Option, None, Some, List, [], ◌∷◌, ◌++◌, length, filter}
use Rattle.std.specs.List.{flat_map, range_with_len, sum_by}
use Rattle.std.specs.Option.{option_map_or}
use Rattle.avs_seg.specs.Segment.{seg_count, seg_len}
use Rattle.avs_model.specs.ShadowSets.{ChunkList, ShadowState, is_independent, is_offline, bitmap_blocks_of}
use Rattle.avs_model.specs.GroupStates.{GroupState, of_set}
use Rattle.avs_model.specs.GroupStages.{GroupStage, Mark, Copied, PutVolume, PutShadow, Commit, PutNote, TakesVolume, LeavesVolume, Attached, Detached, Change, ToShadow, ToMaster, Joined, sets_gone, change_of, source_of, after_stage}
use Rattle.avs_model.specs.declared.shadow.Kind.{Kind}

-- a disk of a group: that of its state; that of a volume by its number; those of a set by its slot; that of an overflow volume by its number
pub data GroupSpot : Type 0 where
  StateDisk : GroupSpot
  VolumeDisk : ℕ → GroupSpot
  ShadowDisk : ℕ → GroupSpot
  BitmapDisk : ℕ → GroupSpot
  OverDisk : ℕ → GroupSpot

-- so many blocks on a disk
pub record Work (Spot : Type 0) : Type 0 where
  pub disk : Spot
  pub blocks : ℕ

abbrev pub on : GroupSpot → ℕ → List (Work GroupSpot)
on disk blocks = record { disk = disk; blocks = blocks } ∷ []

-- the chunks of a set that have no contents of their own on its disks
abbrev pub is_bare : ShadowState → ℕ → Bool
is_bare set chunk = if is_independent set.kind then set.lists.left chunk else not (set.lists.touched chunk)

-- the blocks of a chunk of a set, on the disk or on one of the two disks where its contents stand
abbrev pub on_over : Option ℕ → ℕ → List (Work GroupSpot)
on_over None blocks = []
on_over (Some over) blocks = on (OverDisk over) blocks

abbrev pub on_shadow : ShadowState → ℕ → List (Work GroupSpot)
on_shadow set blocks = on (ShadowDisk set.slot) blocks ++ on_over set.over blocks

-- a chunk is copied to the shadow; to the master; and its state is written
abbrev pub copy_to_shadow : ShadowState → ℕ → List (Work GroupSpot)
copy_to_shadow set chunk = on_shadow set (seg_len chunk set.size.blocks) ++ on (BitmapDisk set.slot) 1

abbrev pub copy_to_master : ShadowState → ℕ → List (Work GroupSpot)
copy_to_master set chunk = on (VolumeDisk set.master) (seg_len chunk set.size.blocks) ++ on (BitmapDisk set.slot) 1

abbrev pub copy_work : ℕ → ShadowState → List (Work GroupSpot)
copy_work chunk set =
    if set.lists.back chunk then copy_to_master set chunk
    else if set.lists.left chunk then copy_to_shadow set chunk else []

abbrev pub mark_work : ℕ → ShadowState → List (Work GroupSpot)
mark_work chunk set =
    if is_offline set.standing || set.lists.back chunk then copy_work chunk set
    else if is_bare set chunk then copy_to_shadow set chunk
    else if set.lists.moved chunk then [] else on (BitmapDisk set.slot) 1

-- the blocks of one of the two areas of a set's bitmap
abbrev pub area_blocks : Kind → ℕ → ℕ
area_blocks kind blocks = (bitmap_blocks_of kind blocks - 1) / 2

-- the states of a set are staged
abbrev pub staged_work : ShadowState → List (Work GroupSpot)
staged_work set = on (BitmapDisk set.slot) (area_blocks set.kind set.size.blocks)

-- the blocks of the chunks of a list
abbrev pub blocks_in : ℕ → ChunkList → ℕ
blocks_in blocks list = sum_by (λ chunk. seg_len chunk blocks) (filter list (range_with_len 0 (seg_count blocks)))

-- before a master becomes the shadow of one of its sets, each other set that is not offline gets what it has of those chunks on the master alone
abbrev pub saved_from : ShadowState → ShadowState → List (Work GroupSpot)
saved_from from set =
    if is_offline set.standing then []
    else on_shadow set (blocks_in set.size.blocks (λ chunk. from.lists.moved chunk && is_bare set chunk)) ++ staged_work set

abbrev pub other_work : List (ℕ × Change) → GroupState → ShadowState → List (Work GroupSpot)
other_work changes before set = option_map_or (λ from. saved_from from set) (source_of changes before set.master) []

abbrev pub change_work : List (ℕ × Change) → GroupState → Option Change → ShadowState → List (Work GroupSpot)
change_work changes before (Some (ToShadow whole)) set = staged_work set
change_work changes before (Some ToMaster) set = staged_work set
change_work changes before (Some (Joined chunks contents)) set = staged_work set
change_work changes before change set = other_work changes before set

-- a command: what each set needs of it, and the block of the group
abbrev pub commit_work : GroupState → List (ℕ × Change) → List (Work GroupSpot)
commit_work group changes =
    let before = sets_gone changes group in
    flat_map (λ set. change_work changes before (change_of changes set.slot) set) before.sets ++ on StateDisk 1

-- the work of a stage
abbrev pub work : GroupState → GroupStage → List (Work GroupSpot)
work group (Mark slot chunk) = of_set group slot (λ set. mark_work chunk set) []
work group (Copied slot chunk) = of_set group slot (λ set. copy_work chunk set) []
work group (PutVolume volume at blocks) = on (VolumeDisk volume) (length blocks)
work group (PutShadow slot at blocks) = of_set group slot (λ set. on_shadow set (length blocks)) []
work group (Commit changes _) = commit_work group changes
work group (PutNote note) = on StateDisk 1
work group (TakesVolume image) = []
work group (LeavesVolume volume) = []
work group (Attached slot over slots) = []
work group (Detached slot) = []

-- the work of stages, one after another
abbrev pub work_of : GroupState → List GroupStage → List (Work GroupSpot)
work_of group [] = []
work_of group (stage ∷ stages) = work group stage ++ work_of (after_stage group stage) stages

-- whether two disks are the same
abbrev pub same_spot : GroupSpot → GroupSpot → Bool
same_spot StateDisk StateDisk = true
same_spot (VolumeDisk a) (VolumeDisk b) = a == b
same_spot (ShadowDisk a) (ShadowDisk b) = a == b
same_spot (BitmapDisk a) (BitmapDisk b) = a == b
same_spot (OverDisk a) (OverDisk b) = a == b
same_spot a b = false

-- the blocks on one disk
abbrev pub blocks_on_spot : List (Work GroupSpot) → GroupSpot → ℕ
blocks_on_spot works disk = sum_by (λ one. one.blocks) (filter (λ one. same_spot one.disk disk) works)
