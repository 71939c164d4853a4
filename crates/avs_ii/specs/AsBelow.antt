-- A group as volumes to write to, and what one write makes of the rest of it.
use Rattle.std.specs.Prelude.{◌≡◌, ℕ, ◌/◌, ◌^◌, ◌==◌, ◌&&◌, nat_lt, Bool, true, false, if◌then◌else◌, All, List, [], length, map, Option, None, Some}
use Rattle.std.specs.List.{list_all}
use Rattle.std.specs.Option.{option_map}
use Rattle.std.specs.Cmp.Lexicographic.{pointwise}
use Rattle.avs_seg.specs.Image.{Block, block_at, blocks_of}
use Rattle.avs_dev.specs.Seen.{Seen}
use Rattle.avs_dev.specs.Below.{BelowSeen}
use Rattle.avs_code.specs.Label.{label_block}
use Rattle.avs_code.specs.GroupBlock.{group_block}
use Rattle.avs_code.specs.declared.slot_table.Slot.{Slot}
use Rattle.avs_code.specs.declared.group_blocks.GroupBlock.{GroupBlock}
use Rattle.avs_model.specs.Shadows.{GroupState, GroupStage, after_stages, StoppedIn, volume_write_stages}
use Rattle.avs_chunk.specs.ChunkSet.{ChunkSet}
use Rattle.avs_ii.specs.Held.{HeldSet, IiDisks, enabled_in, pending_in}
use Rattle.avs_ii.specs.Meaning.{group_by, kept_on}
use Rattle.avs_ii.specs.Sound.{IsSound, AreSound, IsFindable, state_label}
use Rattle.avs_ii.specs.Calls.{faults_of, armed_of, are_steady, written_on, written_after}

-- whether two slots are the same
abbrev pub same_slot : Slot → Slot → Bool
same_slot a b = a.flags == b.flags && a.kind == b.kind && a.need == b.need && a.slots == b.slots && a.stamp == b.stamp

-- whether two bytes are the same
abbrev pub same_byte : ℕ → ℕ → Bool
same_byte a b = a == b

-- whether a block is the one of these fields, with these slots; the other fields keep their rules, as those slots do in memory
abbrev pub is_spelled : List Slot → Block → GroupBlock → Bool
is_spelled slots block x =
    x.version == 1 && nat_lt x.sequence (2 ^ 64) && pointwise same_slot x.slots slots && length x.note == 64 && list_all (λ byte. nat_lt byte 256) x.note && pointwise same_byte block (group_block x)

-- the note on a state disk that tells its blocks, has its label, and holds a block with these slots
abbrev pub stored_on : List Slot → Seen → Option (List ℕ)
stored_on slots d =
    if length d.image == d.size && pointwise same_byte (block_at d.image 0) (label_block state_label) && is_spelled slots (block_at d.image 1) (kept_on d)
    then Some (kept_on d).note
    else None

-- The volumes as their disks hold them, also where one does not tell its blocks. Where a chunk of a master stands on a shadow
-- alone, its disk holds something else than the master's image; none of the calls so far puts a chunk there.
abbrev pub below_of : IiDisks → BelowSeen
below_of g = record {
  images = map (λ d. d.image) g.volumes;
  sizes = map (λ d. d.size) g.volumes;
  note = g.block.note;
  stored = stored_on g.block.slots g.state;
  faults = faults_of g;
  armed = armed_of g;
  steady = are_steady g;
}

-- the rest: the slots in memory, and the disks of the volumes and of the sets but for what reading changes of them and arming
pub record IiRest : Type 0 where
  pub slots : List Slot
  pub volumes : List Seen
  pub sets : List HeldSet

abbrev pub quiet : Seen → Seen
quiet d = record d { faults = 0; armed = false; tear = None }

abbrev pub quiet_chunks : ChunkSet → ChunkSet
quiet_chunks s = record s { shadow = option_map quiet s.shadow; areas = record s.areas { disk = quiet s.areas.disk } }

abbrev pub quiet_set : HeldSet → HeldSet
quiet_set s = record s { chunks = quiet_chunks s.chunks }

abbrev pub rest_of : IiDisks → IiRest
rest_of g = record { slots = g.block.slots; volumes = map quiet g.volumes; sets = map quiet_set g.sets }

-- the group's state by the rest, but for the note
abbrev pub group_of : IiRest → GroupState
group_of rest = group_by rest.slots [] rest.volumes rest.sets

-- the disks of the rest tell their blocks and are in step with the memory
abbrev pub IsSoundRest : IiRest → Type 0
IsSoundRest rest = AreSound rest.slots rest.volumes rest.sets

-- each enabled set of the rest is found again
abbrev pub AreFindable : IiRest → Type 0
AreFindable rest = All IsFindable (enabled_in rest.slots rest.sets)

-- its disks are whole, and its memory is in step with them
abbrev pub IsSoundBelow : IiDisks → Type 0
IsSoundBelow g = IsSound g

-- the stages of a write to a volume
abbrev pub write_stages : IiRest → ℕ → ℕ → List ℕ → List GroupStage
write_stages rest volume at bytes = volume_write_stages (group_of rest).sets volume at (blocks_of bytes)

-- what one write makes of the rest: its stages, or where it failed some of them and perhaps the next in part; and the sets are
-- found again, whatever it answered
pub record WroteRest (old : IiRest) (volume at : ℕ) (bytes : List ℕ) (ok : Bool) (new : IiRest) : Type 0 where
  pub slots : new.slots ≡ old.slots
  pub pending : pending_in new.slots new.sets ≡ pending_in old.slots old.sets
  pub done : IsSoundRest old → ok ≡ true → group_of new ≡ after_stages (group_of old) (write_stages old volume at bytes)
  pub stopped : IsSoundRest old → ok ≡ false → StoppedIn (group_of old) (write_stages old volume at bytes) (group_of new)
  pub sound : IsSoundRest old → ok ≡ true → IsSoundRest new
  pub findable : AreFindable old → AreFindable new
  pub counts : ok ≡ true → written_on new.volumes ≡ written_after old.volumes volume (length bytes / 512)
