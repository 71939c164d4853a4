-- What entries of an order make of images.
use Rattle.std.specs.Prelude.{◌≡◌, ℕ, ◌≤◌, ◌+◌, ◌-◌, ◌*◌, ◌==◌, ◌&&◌, max, if◌then◌else◌, Bool, true, false, List, [], ◌∷◌, length, take, drop}
use Rattle.avs_seg.specs.Image.{Block, Image, block_at, put, is_inside}
use Rattle.avs_seg.specs.Segment.{segment, first_segment, touch_count}
use Rattle.avs_model.specs.declared.entry.Entry.{Entry}
use Rattle.avs_model.specs.declared.entry.EntryKind.{EntryKind}
use Rattle.avs_model.specs.declared.entry.EntryKind.TheVariants.{Write, Copied, Mark}

-- the image of each set: sets are named by numbers that never change their meaning
abbrev pub Images : Type 0
Images = ℕ → Image

abbrev pub block_in : Images → ℕ → ℕ → Block
block_in images set i = block_at (images set) i

abbrev pub with_image : Images → ℕ → Image → Images
with_image images set image t = if t == set then image else images t

-- a set has as many blocks in both
pub record SameSize (a b : Images) (set : ℕ) : Type 0 where
  pub len : length (a set) ≡ length (b set)

-- a write, the copy of a segment, and a mark, which has no blocks
abbrev pub written : ℕ → ℕ → Image → Entry
written set at bytes = record { kind = Write; set = set; at = at; bytes = bytes }

abbrev pub copy_of : Images → ℕ → ℕ → Entry
copy_of images set seg = record { kind = Copied; set = set; at = 64 * seg; bytes = segment (images set) seg }

abbrev pub a_mark : Entry
a_mark = record { kind = Mark; set = 0; at = 0; bytes = [] }

abbrev pub is_mark : EntryKind → Bool
is_mark Write = false
is_mark Copied = false
is_mark Mark = true

-- the images after an entry is put in its place
unfoldable pub after_entry : Images → Entry → Images
after_entry images e set = if set == e.set then put (images set) e.at e.bytes else images set

-- after several, one after another
unfoldable pub after_entries : Images → List Entry → Images
after_entries images [] = images
after_entries images (e ∷ es) = after_entries (after_entry images e) es

-- the entry touches the segment
unfoldable pub touches : Entry → ℕ → ℕ → Bool
touches e set seg = e.set == set && is_inside (first_segment e.at) (touch_count e.at (length e.bytes)) seg

-- the entry lies inside its volume
pub record IsInside (images : Images) (e : Entry) : Type 0 where
  pub high : e.at + length e.bytes ≤ length (images e.set)

-- of an order the entries behind the first `from`, as far as the first `to`
unfoldable pub between : ℕ → ℕ → List Entry → List Entry
between from to order = take (to - from) (drop from order)

-- the greatest place that touches a segment, of entries of which the first has the place `from + 1`; 0 where none does
unfoldable pub greatest : ℕ → List Entry → ℕ → ℕ → ℕ
greatest from [] set seg = 0
greatest from (e ∷ es) set seg = max (if touches e set seg then from + 1 else 0) (greatest (from + 1) es set seg)
