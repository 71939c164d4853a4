-- What a sender stands for, as a half of the machine of two halves; and what is found where it is loaded.
use Rattle.std.specs.Prelude.{◌≡◌, ℕ, ◌<◌, ◌==◌, ◌&&◌, nat_lt, nat_le, Bool, false, if◌then◌else◌, [], length, None, Some, slice_index_or}
use Rattle.avs_dev.specs.Below.{IsToldAt, image_of}
use Rattle.avs_refs.specs.Places.{greatest_at}
use Rattle.avs_mirrors.specs.Entries.{Images}
use Rattle.avs_mirrors.specs.Due.{Due}
use Rattle.avs_mirrors.specs.Half.{HalfState, Sets, Logging, no_sets, is_session, left_sender, forgotten}
use Rattle.avs_sync.specs.Note.{IsNote, note_at}
use Rattle.avs_sync.specs.declared.note.Note.{Note}
use Rattle.avs_sync.specs.declared.session.Session.{Session}
use Rattle.avs_halves.specs.SetBits.{AreInStep, set_at, has_bit}
use Rattle.avs_halves.specs.Found.{due_found, is_filled, part_at, stored_bytes}
use Rattle.avs_sender.specs.Held.{SetPlaces, SenderHalf, SenderHeld, SenderParts}

-- ---- in memory

-- whether a segment of a set waits to be copied, which none does once the mark is placed
abbrev pub waits : Session → SetPlaces → ℕ → Bool
waits s m seg = s.mark == 0 && slice_index_or m.waiting seg false

-- the place that frees a segment: in a session the greatest that touched it, unless it waits; in logging none
abbrev pub freeing_place : Session → SetPlaces → ℕ → ℕ
freeing_place s m seg = if is_session s.state then (if waits s m seg then 0 else greatest_at m.touched seg) else 0

abbrev pub no_places : SetPlaces
no_places = record { touched = record { greatest = []; outstanding = []; room = 0 }; waiting = [] }

abbrev pub places_at : SenderHalf → ℕ → SetPlaces
places_at h set = slice_index_or h.places set no_places

-- what is due: the segments with bits, each with the place that frees it
abbrev pub due_of : SenderHalf → Due
due_of h set seg = if has_bit (set_at h.sets set) seg then Some (freeing_place h.session (places_at h set) seg) else None

-- how many segments a set has
abbrev pub segs_of : SenderHalf → ℕ → ℕ
segs_of h set = (set_at h.sets set).bits.segs

abbrev pub has_set : SenderHalf → Sets
has_set h set = nat_lt set (length h.sets)

-- the blocks of a set's volume
abbrev pub images_of : SenderHeld → Images
images_of h set = if has_set h.half set then image_of h.below (set_at h.half.sets set).vol else []

abbrev pub contents_of : SenderHalf → Sets
contents_of h set = has_set h set && is_filled h.note.empty (set_at h.sets set).slot

-- the half that a sender stands for. Which places its workers have taken is known above it
abbrev pub sender_of : SenderHeld → HalfState
sender_of h = record {
  on = has_set h.half;
  here = has_set h.half;
  contents = contents_of h.half;
  images = images_of h;
  number = h.half.session.number;
  role = h.half.note.role;
  state = h.half.session.state;
  last = h.half.session.last;
  known = h.half.session.known;
  taken = 0;
  applied = 0;
  due = due_of h.half;
  held = [];
  kept = no_sets;
}

-- whether a sender gave a place
abbrev pub is_given : Session → ℕ → Bool
is_given s place = nat_lt 0 place && nat_le place s.last

-- ---- on disks

abbrev pub has_part : SenderParts → Sets
has_part p set = nat_lt set (length p.sets)

abbrev pub images_found : SenderParts → Images
images_found p set = if has_part p set then image_of p.below (part_at p.sets set).vol else []

abbrev pub contents_found : SenderParts → Note → Sets
contents_found p n set = has_part p set && is_filled n.empty (part_at p.sets set).slot

-- the half that is found on parts, where the note is this one: in logging, whatever state the note says, with nothing placed and
-- nothing known
abbrev pub found_by : Note → SenderParts → HalfState
found_by n p = record {
  on = has_part p;
  here = has_part p;
  contents = contents_found p n;
  images = images_found p;
  number = n.session;
  role = n.role;
  state = Logging;
  last = 0;
  known = 0;
  taken = 0;
  applied = 0;
  due = due_found p.below p.sets;
  held = [];
  kept = no_sets;
}

-- by the note that is answered below
abbrev pub found_on : SenderParts → HalfState
found_on p = found_by (note_at p.below.note) p

-- and where that which lies below is loaded again: by the note that lies on its disk
abbrev pub found_again : SenderParts → HalfState
found_again p = found_by (note_at (stored_bytes p.below)) p

-- ---- in step

-- what lies below is sound and told, and what is in memory is what the disks say: so it is where a sender was loaded from disks
-- that are told, until a call answers that a disk failed
pub record IsSenderInStep (is_sound : Type 0) (h : SenderHeld) : Type 0 where
  pub sound : is_sound
  pub stored : h.below.stored ≡ Some h.below.note
  pub note : IsNote h.below.note h.half.note
  pub volumes : (set : ℕ) → set < length h.half.sets → IsToldAt h.below (set_at h.half.sets set).vol
  pub bits : AreInStep h.half.sets

-- ---- what is found of a half

-- a half that left and was loaded again: in logging, with nothing placed and nothing known
abbrev pub found_of : HalfState → HalfState
found_of x = forgotten (left_sender x)
