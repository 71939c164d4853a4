-- An import: a volume that was given away and is written here, and the bitmap that tells in which segments.
use Rattle.std.specs.Prelude.{◌≡◌, ℕ, ◌&&◌, nat_lt, true, List, length, filter}
use Rattle.std.specs.List.{Contains, range_with_len}
use Rattle.avs_seg.specs.Image.{Image, block_at, put}
use Rattle.avs_seg.specs.Segment.{seg_count, touch, differ}
use Rattle.avs_dev.specs.Seen.{Seen, IsTold}
use Rattle.avs_code.specs.Label.{IsLabel, label_at}
use Rattle.avs_bits.specs.Bit.{disk_bit}
use Rattle.avs_bits.specs.BitSet.{BitSet, place, set_of, bitmap_label, IsInStep}
use Rattle.avs_model.specs.ShadowSets.{ChunkList, chunks_among, together}

-- the disk of the volume, and the set of the segments that were written, on the bitmap's disk and in memory
pub record ImportDisks : Type 0 where
  pub volume : Seen
  pub bits : BitSet

-- what an import stands for: the blocks of its volume; the stamp of the export by which it was given away; and the segments
-- that were written since
pub record ImportState : Type 0 where
  pub image : Image
  pub stamp : ℕ
  pub segments : ChunkList

-- the segments of a volume of so many blocks that a bitmap has
abbrev pub segments_on : ℕ → Image → ChunkList
segments_on blocks bitmap segment = nat_lt segment (seg_count blocks) && disk_bit bitmap (place segment)

-- it is told by the disks alone
abbrev pub import_on : Seen → Seen → ImportState
import_on volume bitmap = record {
  image = volume.image;
  stamp = (label_at (block_at bitmap.image 0)).stamp;
  segments = segments_on volume.size bitmap.image;
}

abbrev pub import_of : ImportDisks → ImportState
import_of i = import_on i.volume i.bits.disk

-- the segments that are written, by the memory, rising
abbrev pub listed : ImportDisks → List ℕ
listed i = filter (set_of i.bits) (range_with_len 0 i.bits.segs)

-- an import is found again on its disks: the bitmap tells its blocks, and has the label of this volume and this stamp
pub record IsReadable (i : ImportDisks) : Type 0 where
  pub told : IsTold i.bits.disk
  pub label : IsLabel (block_at i.bits.disk.image 0) (bitmap_label true i.volume.size i.bits.stamp)

-- and the memory is what the disk says
pub record IsKnown (i : ImportDisks) : Type 0 where
  pub readable : IsReadable i
  pub step : IsInStep i.bits

-- A write marks its segments, and puts its blocks.
abbrev pub marked : ImportState → ℕ → Image → ChunkList
marked state at blocks = together (chunks_among (touch at (length blocks))) state.segments

abbrev pub written : ImportState → ℕ → Image → ImportState
written state at blocks = record state { image = put state.image at blocks; segments = marked state at blocks }

-- the segments in which the volume is not as another image are marked
pub record Covers (base : Image) (state : ImportState) : Type 0 where
  pub each : (segment : ℕ) → Contains (differ state.image base) segment → state.segments segment ≡ true
