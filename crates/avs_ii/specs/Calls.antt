-- What each call on a group makes of it.
use Rattle.std.specs.Prelude.{◌≡◌, ◌⊎◌, ℕ, ◌+◌, ◌*◌, ◌/◌, ◌^◌, ◌%◌, ◌<◌, ◌≤◌, ◌==◌, Bool, true, false, not, IsTrue, if◌then◌else◌, List, [], ◌∷◌, ◌++◌, length, map, filter, Option, None, Some, Result, Ok, Err, OnOk, OnErr, IsOk, IfErr, slice_set, slice_get, slice_index, slice_index_or}
use Rattle.std.specs.List.{list_any, list_all}
use Rattle.std.specs.Option.{option_map, option_map_or}
use Rattle.avs_seg.specs.Image.{blocks_of, range}
use Rattle.avs_seg.specs.Segment.{first_segment}
use Rattle.avs_dev.specs.Devices.{NoneFell, OneRose, UsesOneTear}
use Rattle.avs_dev.specs.Seen.{Seen, IsTold, Writes, with_tear}
use Rattle.avs_dev.specs.declared.disk.Tear.{Tear}
use Rattle.avs_dev.specs.Memory.{counted}
use Rattle.avs_dev.specs.declared.back.Why.{Why}
use Rattle.avs_dev.specs.declared.back.Why.TheVariants as why
use Rattle.avs_code.specs.GroupBlock.{group_block}
use Rattle.avs_code.specs.declared.slot_table.Slot.{Slot}
use Rattle.avs_code.specs.declared.group_blocks.GroupBlock.{GroupBlock}
use Rattle.avs_model.specs.Shadows.{slot_count, image_at, volume_image, after_enabling, after_stages, StoppedIn, shadow_write_stages, volume_write_stages}
use Rattle.avs_model.specs.declared.answer.Refusal.{Refusal}
use Rattle.avs_model.specs.declared.answer.Refusal.TheVariants.{NoSet, Size, Limit, NoMemory, Fault}
use Rattle.avs_model.specs.declared.shadow.Kind.{Kind}
use Rattle.avs_model.specs.declared.shadow.Kind.TheVariants.{Ind, Dep, Compact}
use Rattle.avs_chunk.specs.ChunkSet.{ChunkSet, disk_of}
use Rattle.avs_chunk.specs.Calls.{to_master, to_shadow, to_bitmap, chunks_end}
use Rattle.avs_chunk.specs.Disks.{raised}
use Rattle.avs_chunk.specs.Making.{Makes, IsSmall, Fits, FailsFormat}
use Rattle.avs_ii.specs.Held.{HeldSet, IiDisks, is_live, has_flag, live, set_at, pending_in, pending_at, volume_at, disks_of}
use Rattle.avs_ii.specs.Meaning.{meaning}
use Rattle.avs_ii.specs.Sound.{IsSound, IsFresh}
use Rattle.avs_ii.specs.Shape.{shape_of}
use Rattle.avs_ii.specs.Parts.{parts_of}
use Rattle.avs_ii.specs.Making.{AreTold, AreWhole, kind_number, no_faults}

-- the counts of faults of all disks, whether a tear is armed on each, and whether all are steady
abbrev pub faults_of : IiDisks → List ℕ
faults_of g = map (λ d. d.faults) (disks_of g)

abbrev pub armed_of : IiDisks → List Bool
armed_of g = map (λ d. d.armed) (disks_of g)

abbrev pub are_steady : IiDisks → Bool
are_steady g = list_all (λ d. d.steady) (disks_of g)

-- a set, and a group, with something done to each of its disks
abbrev pub on_set : (Seen → Seen) → HeldSet → HeldSet
on_set f s = record s { chunks = record s.chunks { shadow = option_map f s.chunks.shadow; areas = record s.chunks.areas { disk = f s.chunks.areas.disk } } }

abbrev pub on_each : (Seen → Seen) → IiDisks → IiDisks
on_each f g = record g { state = f g.state; volumes = map f g.volumes; sets = map (on_set f) g.sets }

-- a disk without the tear that may be armed on it
abbrev pub no_tear : Seen → Seen
no_tear d = record d { armed = false; tear = None }

-- The calls on contents tell at both exits that the shape stays, that disks which tell their blocks go on to do so, and that
-- the group is found again on them, whatever this call and those before it answered.

-- a sound group is found on its parts, and where a group is found on parts that tell their blocks, so it is after the call
pub record IsFoundAgain (old new : IiDisks) : Type 0 where
  pub before : IsSound old → AreWhole (parts_of old)
  pub after : AreTold (parts_of old) → AreWhole (parts_of old) → AreWhole (parts_of new)

-- a volume is added behind the others
pub record Adds (old : IiDisks) (disk : Seen) (new : IiDisks) : Type 0 where
  pub is : new ≡ record old { volumes = old.volumes ++ disk ∷ [] }
  pub group : meaning new ≡ record (meaning old) { volumes = (meaning old).volumes ++ disk.image ∷ [] }
  pub sound : IsSound old → IsTold disk → IsSound new
  pub told : AreTold (parts_of old) → IsTold disk → AreTold (parts_of new)

-- the blocks of a volume
abbrev pub blocks_at : IiDisks → ℕ → ℕ
blocks_at g volume = (volume_at g volume).size

-- a slot that no set has
pub record IsFree (g : IiDisks) (slot : ℕ) : Type 0 where
  pub there : slot < slot_count
  pub not_live : is_live g.block.slots slot ≡ false
  pub not_held : list_any (λ s. s.slot == slot) g.sets ≡ false

-- the limit that a set more is outside of: no compact set may be enabled for now, and one set may be in a group; there is a slot
abbrev pub count_limit : IiDisks → Option ℕ
count_limit g =
    if not (length g.sets == 0) then Some 1
    else if list_all (has_flag live) g.block.slots then Some slot_count
    else None

abbrev pub limit_at : IiDisks → Kind → Option ℕ
limit_at g Ind = count_limit g
limit_at g Dep = count_limit g
limit_at g Compact = Some 0

-- the refusal is the limit that such a set is outside of
abbrev pub IsLimit : IiDisks → Kind → Refusal → Type 0
IsLimit g k (Limit limit) = limit_at g k ≡ Some limit
IsLimit g k other = ⊥

-- A set waits behind the others to be enabled, in the least slot that is free: its bitmap has the label and two areas, in
-- which each chunk stands on the master alone. Nothing of the shadow's disk is written, and the group's state stays.
pub record Enables (old : IiDisks) (kind : Kind) (master : ℕ) (shadow bitmap : Seen) (slot : ℕ) (new : IiDisks) : Type 0 where
  pub chunks : ChunkSet
  pub makes : Makes kind shadow bitmap (blocks_at old master) chunks
  pub is : new ≡ record old { sets = old.sets ++ record { slot = slot; master = master; chunks = chunks } ∷ [] }
  pub within : limit_at old kind ≡ None
  pub free : IsFree old slot
  pub least : (other : ℕ) → other < slot → IsFree old other → ⊥
  pub pending : pending_at new slot ≡ Some (record { slot = slot; master = master; chunks = chunks })
  pub fresh : IsTold shadow → IsTold bitmap → IsFresh (record { slot = slot; master = master; chunks = chunks })
  pub group : IsSound old → meaning new ≡ meaning old
  pub sound : IsSound old → IsSound new
  pub told : AreTold (parts_of old) → IsTold shadow → IsTold bitmap → AreTold (parts_of new)
  pub disks : disks_of new ≡ disks_of old ++ shadow ∷ chunks.areas.disk ∷ []

-- why no set waits, and what its disks are then
abbrev pub EnableRefused : IiDisks → Kind → ℕ → Seen → Seen → Refusal → Seen → Seen → Type 0
EnableRefused g k master shadow bitmap (Size need have) shadow_new bitmap_new =
    IsSmall (Some shadow) bitmap (blocks_at g master) need have × ((shadow_new ≡ shadow) × (bitmap_new ≡ bitmap))
EnableRefused g k master shadow bitmap (Limit limit) shadow_new bitmap_new =
    Fits (Some shadow) bitmap (blocks_at g master) × ((limit_at g k ≡ Some limit) × ((shadow_new ≡ shadow) × (bitmap_new ≡ bitmap)))
EnableRefused g k master shadow bitmap NoMemory shadow_new bitmap_new = (shadow_new ≡ shadow) × (bitmap_new ≡ bitmap)
EnableRefused g k master shadow bitmap Fault shadow_new bitmap_new =
    Fits (Some shadow) bitmap (blocks_at g master) × ((limit_at g k ≡ None) × ((shadow_new ≡ shadow) × FailsFormat bitmap (blocks_at g master) bitmap_new))
EnableRefused g k master shadow bitmap why shadow_new bitmap_new = ⊥

-- the refusal is that one of these disks is too small for a set of so many blocks
abbrev pub IsSizeOf : Seen → Seen → ℕ → Refusal → Type 0
IsSizeOf shadow bitmap blocks (Size need have) = IsSmall (Some shadow) bitmap blocks need have
IsSizeOf shadow bitmap blocks other = ⊥

-- why disks were refused, as a refusal of a group
abbrev pub refusal_of : Why → Refusal
refusal_of (why.Size need have) = Size need have
refusal_of (why.BadRecord field) = Fault
refusal_of why.NoMemory = NoMemory
refusal_of why.Fault = Fault

-- what a disk answered, as the answer of a group
abbrev pub faulted : {T E : Type 0} → Result T E → Result T Refusal
faulted (Ok x) = Ok x
faulted (Err f) = Err Fault

-- the slot of a set from when it is enabled on
abbrev pub live_slot : Kind → Slot
live_slot kind = record { flags = live; kind = kind_number kind; need = 0; slots = 0; stamp = 0 }

-- the next block: its sequence is one more, and 0 behind the greatest number
abbrev pub next_block : GroupBlock → GroupBlock
next_block block = record block { sequence = (block.sequence + 1) % (2 ^ 64) }

-- the block by which a pending set is enabled
abbrev pub block_with : GroupBlock → HeldSet → GroupBlock
block_with block s = record (next_block block) { slots = slice_set block.slots s.slot (live_slot s.chunks.kind) }

-- the two answers of a call that names a set, other than Ok: no such set is there, exactly where that is so, or a disk failed
pub record NamesSet {T : Type 0} (found : Option HeldSet) (result : Result T Refusal) : Type 0 where
  pub absent : found ≡ None → result ≡ Err NoSet
  pub no_set : result ≡ Err NoSet → found ≡ None
  pub others : IfErr result (λ why. (why ≡ NoSet) ⊎ (why ≡ Fault))

-- a set is enabled by one write of the block, which is the commit
pub record Confirms {T : Type 0} (old : IiDisks) (slot : ℕ) (result : Result T Refusal) (new : IiDisks) : Type 0 where
  pub names : NamesSet (pending_at old slot) result
  pub no_set : result ≡ Err NoSet → new ≡ old
  pub rest : new ≡ record old { state = new.state; block = new.block }
  pub writes : (s : HeldSet) → pending_at old slot ≡ Some s → Writes old.state 1 (group_block (block_with old.block s)) result new.state
  pub block : (s : HeldSet) → pending_at old slot ≡ Some s → OnOk result (new.block ≡ block_with old.block s)
  pub kept : OnErr result (new.block ≡ old.block)
  pub done : (s : HeldSet) → pending_at old slot ≡ Some s → IsSound old → IsFresh s → OnOk result (meaning new ≡ after_enabling (meaning old) slot s.chunks.kind s.master)
  pub sound : (s : HeldSet) → pending_at old slot ≡ Some s → IsSound old → IsFresh s → OnOk result (IsSound new)
  pub stopped : (s : HeldSet) → pending_at old slot ≡ Some s → IsSound old → IsFresh s
      → OnErr result ((meaning new ≡ meaning old) ⊎ (meaning new ≡ after_enabling (meaning old) slot s.chunks.kind s.master))
  pub shape : shape_of new ≡ shape_of old
  pub still_steady : are_steady new ≡ are_steady old
  pub told : AreTold (parts_of old) → AreTold (parts_of new)
  pub whole : (s : HeldSet) → pending_at old slot ≡ Some s → IsFresh s → IsFoundAgain old new

-- the pending set of least slot is given up with its disks, and the group's state stays
pub record GivesUp (old : IiDisks) (s : HeldSet) (shadow bitmap : Seen) (new : IiDisks) : Type 0 where
  pub pending : pending_at old s.slot ≡ Some s
  pub least : (slot : ℕ) → slot < s.slot → pending_at old slot ≡ None
  pub shadow_back : s.chunks.shadow ≡ Some shadow
  pub bitmap_back : bitmap ≡ s.chunks.areas.disk
  pub is : new ≡ record old { sets = filter (λ other. not (other.slot == s.slot)) old.sets }
  pub group : IsSound old → meaning new ≡ meaning old
  pub sound : IsSound old → IsSound new
  pub told : AreTold (parts_of old) → AreTold (parts_of new)
  pub disks : disks_of old ≡ disks_of new ++ shadow ∷ bitmap ∷ []

-- so many bytes are whole blocks, one or more, and lie inside the shadow of a set, where it is there, from its block `at` on
pub record IsShadowRange (g : IiDisks) (slot at len : ℕ) : Type 0 where
  pub some : 0 < len
  pub whole : 512 * (len / 512) ≡ len
  pub inside : (s : HeldSet) → set_at g slot ≡ Some s → at + len / 512 ≤ s.chunks.blocks

-- blocks of a shadow are read, and nothing changes but the counts of faults
pub record ReadsSet {T : Type 0} (old : IiDisks) (slot : ℕ) (out : List ℕ) (at : ℕ) (result : Result T Refusal) (new : IiDisks) : Type 0 where
  pub names : NamesSet (set_at old slot) result
  pub no_set : result ≡ Err NoSet → new ≡ old
  pub rest : on_each no_faults new ≡ on_each no_faults old
  pub state : new.state ≡ old.state
  pub block : new.block ≡ old.block
  pub armed : armed_of new ≡ armed_of old
  pub later : NoneFell (faults_of old) (faults_of new)
  pub fault : result ≡ Err Fault → OneRose (faults_of old) (faults_of new)
  pub steady : IsTrue (are_steady old) → (result ≡ Err Fault → ⊥)
  pub group : meaning new ≡ meaning old
  pub sound : IsSound old → IsSound new
  pub shows : IsSound old → OnOk result (blocks_of out ≡ range (image_at (meaning old).sets slot) at (length out / 512))
  pub shape : shape_of new ≡ shape_of old
  pub still_steady : are_steady new ≡ are_steady old
  pub told : AreTold (parts_of old) → AreTold (parts_of new)
  pub whole : IsFoundAgain old new

-- the blocks written on each of some disks
abbrev pub written_on : List Seen → List ℕ
written_on disks = map (λ d. d.written) disks

-- so many blocks more are written on the master, on the shadow's disk and on the bitmap's, and none on another volume
pub record CountsSet (old : IiDisks) (s : HeldSet) (on_master on_shadow on_bitmap : ℕ) (new : IiDisks) : Type 0 where
  pub after : HeldSet
  pub found : set_at new s.slot ≡ Some after
  pub volumes : written_on new.volumes ≡ slice_set (written_on old.volumes) s.master (raised (slice_index (written_on old.volumes) s.master) on_master)
  pub shadow : (disk_of after.chunks.shadow).written ≡ raised (disk_of s.chunks.shadow).written on_shadow
  pub bitmap : after.chunks.areas.disk.written ≡ raised s.chunks.areas.disk.written on_bitmap

-- at most so many blocks more are written on each, and none on another volume
pub record CountsSetAtMost (old : IiDisks) (s : HeldSet) (on_master on_shadow on_bitmap : ℕ) (new : IiDisks) : Type 0 where
  pub after : HeldSet
  pub found : set_at new s.slot ≡ Some after
  pub others : written_on new.volumes ≡ slice_set (written_on old.volumes) s.master (slice_index (written_on new.volumes) s.master)
  pub master : slice_index (written_on new.volumes) s.master ≤ slice_index (written_on old.volumes) s.master + on_master
  pub shadow : (disk_of after.chunks.shadow).written ≤ (disk_of s.chunks.shadow).written + on_shadow
  pub bitmap : after.chunks.areas.disk.written ≤ s.chunks.areas.disk.written + on_bitmap

-- blocks of a shadow are written, by the stages of such a write; a fault stops them
pub record WritesSet {T : Type 0} (old : IiDisks) (slot at : ℕ) (bytes : List ℕ) (result : Result T Refusal) (new : IiDisks) : Type 0 where
  pub names : NamesSet (set_at old slot) result
  pub no_set : result ≡ Err NoSet → new ≡ old
  pub state : new.state ≡ old.state
  pub block : new.block ≡ old.block
  pub later : NoneFell (faults_of old) (faults_of new)
  pub fault : result ≡ Err Fault → OneRose (faults_of old) (faults_of new)
  pub still_armed : OnOk result (armed_of new ≡ armed_of old)
  pub spent : IsTrue (are_steady old) → result ≡ Err Fault → UsesOneTear (armed_of old) (armed_of new)
  pub done : IsSound old → OnOk result (meaning new ≡ after_stages (meaning old) (shadow_write_stages slot at (blocks_of bytes)))
  pub stopped : IsSound old → result ≡ Err Fault → StoppedIn (meaning old) (shadow_write_stages slot at (blocks_of bytes)) (meaning new)
  pub sound : IsSound old → OnOk result (IsSound new)
  pub counts : (s : HeldSet) → set_at old slot ≡ Some s → OnOk result (CountsSet old s (to_master s.chunks (first_segment at) (chunks_end at (length bytes / 512)))
      (to_shadow s.chunks (first_segment at) (chunks_end at (length bytes / 512)) + length bytes / 512) (to_bitmap s.chunks (first_segment at) (chunks_end at (length bytes / 512))) new)
  pub counts_stopped : (s : HeldSet) → set_at old slot ≡ Some s → result ≡ Err Fault → CountsSetAtMost old s (to_master s.chunks (first_segment at) (chunks_end at (length bytes / 512)))
      (to_shadow s.chunks (first_segment at) (chunks_end at (length bytes / 512))) (to_bitmap s.chunks (first_segment at) (chunks_end at (length bytes / 512))) new
  pub shape : shape_of new ≡ shape_of old
  pub still_steady : are_steady new ≡ are_steady old
  pub told : AreTold (parts_of old) → AreTold (parts_of new)
  pub whole : IsFoundAgain old new

-- so many bytes are whole blocks, one or more, and lie inside a volume from its block `at` on
pub record IsVolumeRange (g : IiDisks) (volume at len : ℕ) : Type 0 where
  pub there : volume < length g.volumes
  pub some : 0 < len
  pub whole : 512 * (len / 512) ≡ len
  pub inside : at + len / 512 ≤ blocks_at g volume

-- the same after so many more on one
abbrev pub written_after : List Seen → ℕ → ℕ → List ℕ
written_after disks place count = slice_set (written_on disks) place (counted (slice_index (written_on disks) place) count)

-- blocks of a volume are read, and nothing changes but the counts of faults
pub record ReadsVolume {T E : Type 0} (old : IiDisks) (volume : ℕ) (out : List ℕ) (at : ℕ) (result : Result T E) (new : IiDisks) : Type 0 where
  pub rest : on_each no_faults new ≡ on_each no_faults old
  pub state : new.state ≡ old.state
  pub block : new.block ≡ old.block
  pub pending : pending_in new.block.slots new.sets ≡ pending_in old.block.slots old.sets
  pub armed : armed_of new ≡ armed_of old
  pub later : NoneFell (faults_of old) (faults_of new)
  pub failed : OnErr result (OneRose (faults_of old) (faults_of new))
  pub steady : IsTrue (are_steady old) → IsOk result
  pub group : meaning new ≡ meaning old
  pub sound : IsSound old → IsSound new
  pub shows : IsSound old → OnOk result (blocks_of out ≡ range (volume_image (meaning old) volume) at (length out / 512))
  pub shape : shape_of new ≡ shape_of old
  pub still_steady : are_steady new ≡ are_steady old
  pub told : AreTold (parts_of old) → AreTold (parts_of new)
  pub whole : IsFoundAgain old new

-- blocks of a volume are written, by the stages of such a write; a fault stops them
pub record WritesVolume {T E : Type 0} (old : IiDisks) (volume at : ℕ) (bytes : List ℕ) (result : Result T E) (new : IiDisks) : Type 0 where
  pub state : new.state ≡ old.state
  pub block : new.block ≡ old.block
  pub pending : pending_in new.block.slots new.sets ≡ pending_in old.block.slots old.sets
  pub later : NoneFell (faults_of old) (faults_of new)
  pub failed : OnErr result (OneRose (faults_of old) (faults_of new))
  pub still_armed : OnOk result (armed_of new ≡ armed_of old)
  pub spent : IsTrue (are_steady old) → OnErr result (UsesOneTear (armed_of old) (armed_of new))
  pub done : IsSound old → OnOk result (meaning new ≡ after_stages (meaning old) (volume_write_stages (meaning old).sets volume at (blocks_of bytes)))
  pub stopped : IsSound old → OnErr result (StoppedIn (meaning old) (volume_write_stages (meaning old).sets volume at (blocks_of bytes)) (meaning new))
  pub sound : IsSound old → OnOk result (IsSound new)
  pub counts : OnOk result (written_on new.volumes ≡ written_after old.volumes volume (length bytes / 512))
  pub shape : shape_of new ≡ shape_of old
  pub still_steady : are_steady new ≡ are_steady old
  pub told : AreTold (parts_of old) → AreTold (parts_of new)
  pub whole : IsFoundAgain old new

-- this tear is armed on one of the disks, and no more changes; where none is, nothing does
pub record ArmsGroup (old : IiDisks) (disk : ℕ) (tear : Tear) (result : Bool) (new : IiDisks) : Type 0 where
  pub answer : result ≡ option_map_or (λ d. d.arms) (slice_get (disks_of old) disk) false
  pub armed : IsTrue result → disks_of new ≡ slice_set (disks_of old) disk (with_tear tear (slice_index_or (disks_of old) disk old.state))
  pub unarmed : IsTrue (not result) → new ≡ old
  pub rest : on_each no_tear new ≡ on_each no_tear old
  pub block : new.block ≡ old.block
  pub group : meaning new ≡ meaning old
  pub shape : shape_of new ≡ shape_of old
  pub still_steady : are_steady new ≡ are_steady old
  pub told : AreTold (parts_of old) → AreTold (parts_of new)
  pub sound : IsSound old → IsSound new
  pub sure : (d : Seen) → slice_get (disks_of old) disk ≡ Some d → IsTrue d.steady → IsTrue result

-- the blocks written on one of the disks
abbrev pub written_of : IiDisks → ℕ → Option ℕ
written_of g disk = option_map (λ d. d.written) (slice_get (disks_of g) disk)
