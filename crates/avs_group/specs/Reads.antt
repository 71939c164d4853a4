-- Reads of a group.
use Rattle.std.specs.Prelude.{◌≡◌, ℕ, ◌+◌, ◌*◌, ◌/◌, ◌<◌, ◌≤◌, ◌==◌, ◌&&◌, Bool, false, IsTrue, is_some, None, List, [], length, slice_index_or, Result, OnOk}
use Rattle.avs_seg.specs.Image.{Image, blocks_of, range}
use Rattle.avs_model.specs.GroupStates.{GroupState}
use Rattle.avs_sets.specs.Says.{BlockSays}
use Rattle.avs_sets.specs.Sets.{on_shadow, SetSeen}
use Rattle.avs_sets.specs.Meaning.{GroupSeen, set_of, disk_in, image_in, is_enabled, read, shadow_over, meaning}
use Rattle.avs_sets.specs.Whole.{IsWhole, IsInStep}
use Rattle.avs_group.specs.Group.{Group, group_of}
use Rattle.avs_group.specs.Calls.{Does}

-- What each read keeps: nothing is done, the group stays in step at both exits, and at Ok nothing changes.
pub record OnlyReads {T E : Type 0} (old : Group) (result : Result T E) (new : Group) : Type 0 where
  pub does : Does old [] result new
  pub same : OnOk result (new ≡ old)
  pub state : new.state ≡ old.state
  pub step : IsInStep (group_of old) → IsInStep (group_of new)

-- blocks of an image are read
pub record ReadsImage {T E : Type 0} (image : GroupState → Image) (old : Group) (at : ℕ) (out : List ℕ) (result : Result T E)
    (new : Group) : Type 0 where
  pub reads : OnlyReads old result new
  pub shows : IsWhole (group_of old) → IsInStep (group_of old)
      → OnOk result (blocks_of out ≡ range (image (meaning (group_of old))) at (length out / 512))

-- blocks of the set at a place are read, as its disks show them
pub record ReadsSet {T E : Type 0} (old : Group) (place at : ℕ) (out : List ℕ) (result : Result T E) (new : Group) : Type 0 where
  pub reads : OnlyReads old result new
  pub shows : IsWhole (group_of old) → IsInStep (group_of old) → OnOk result (blocks_of out
      ≡ range (shadow_over (read (group_of old).says (group_of old).overs (set_of old.sets place)) (image_in old.volumes (set_of old.sets place).master)) at (length out / 512))

-- blocks of a volume's disk are read
pub record ReadsDisk {T E : Type 0} (old : Group) (volume at : ℕ) (out : List ℕ) (result : Result T E) (new : Group) : Type 0 where
  pub reads : OnlyReads old result new
  pub shows : IsWhole (group_of old) → IsInStep (group_of old)
      → OnOk result (blocks_of out ≡ range (image_in old.volumes volume) at (length out / 512))

-- so many bytes are whole blocks of a volume that is there, one or more, and lie inside it
pub record IsVolumeRange (g : Group) (volume at len : ℕ) : Type 0 where
  pub there : IsTrue (is_some (slice_index_or g.volumes volume None))
  pub some : 0 < len
  pub whole : 512 * (len / 512) ≡ len
  pub inside : at + len / 512 ≤ (disk_in g.volumes volume).size

-- n blocks from one on are of one chunk
pub record IsOneChunk (at n : ℕ) : Type 0 where
  pub each : (j : ℕ) → j < n → (at + j) / 64 ≡ at / 64

-- whether by the memory a chunk of a volume stands on the shadow of a set alone, and that it does on no set's
abbrev pub is_source : BlockSays → ℕ → ℕ → SetSeen → Bool
is_source memory volume chunk s = is_enabled memory s && (s.master == volume && s.memory.state chunk == on_shadow)

pub record NoSource (g : GroupSeen) (volume chunk : ℕ) : Type 0 where
  pub each : (k : ℕ) → k < length g.sets → is_source g.memory volume chunk (set_of g.sets k) ≡ false
