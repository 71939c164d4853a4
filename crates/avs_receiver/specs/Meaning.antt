-- What a receiver stands for, as a half of the machine of two halves; and what is found where it is loaded.
use Rattle.std.specs.Prelude.{◌≡◌, ◌⊎◌, ℕ, ◌<◌, ◌≤◌, ◌==◌, ◌&&◌, not, nat_lt, Bool, true, if◌then◌else◌, List, [], length, map, Some, slice_index, slice_index_or}
use Rattle.avs_seg.specs.Image.{Image}
use Rattle.avs_dev.specs.Seen.{IsTold}
use Rattle.avs_dev.specs.Below.{BelowSeen, IsToldAt}
use Rattle.avs_code.specs.declared.land_headers.LandHeader.{LandHeader}
use Rattle.avs_model.specs.declared.entry.Entry.{Entry}
use Rattle.avs_mirrors.specs.Entries.{Images}
use Rattle.avs_mirrors.specs.Due.{Due, nothing_due}
use Rattle.avs_mirrors.specs.Half.{HalfState, Sets, State, Logging, is_receiver, is_session, is_marked, applied_to, left_receiver}
use Rattle.avs_sync.specs.Note.{IsNote}
use Rattle.avs_sync.specs.declared.note.Note.{Note}
use Rattle.avs_halves.specs.SetBits.{AreInStep, SetBits, due_of, set_at}
use Rattle.avs_halves.specs.Found.{due_found, is_filled, stored_bytes}
use Rattle.avs_land.specs.Landed.{IsLanding, entry_kind, landed_blocks}
use Rattle.avs_land.specs.Landing.{IsLandingInStep}
use Rattle.avs_land.specs.Redo.{IsRoom}
use Rattle.avs_receiver.specs.Held.{ReceiverHeld, ReceiverParts}

-- ---- a half by its note, its volumes and its slots

abbrev pub has_set : List ℕ → Sets
has_set vols set = nat_lt set (length vols)

-- the blocks of a set's volume
abbrev pub images_in : List Image → List ℕ → Images
images_in images vols set = if has_set vols set then slice_index_or images (slice_index vols set) [] else []

abbrev pub contents_in : ℕ → List ℕ → Sets
contents_in empty slots set = nat_lt set (length slots) && is_filled empty (slice_index slots set)

-- the state of a receiver: a half that was none is in logging
abbrev pub state_in : Note → State
state_in n = if is_receiver n.role then n.state else Logging

abbrev pub half_by : Note → ℕ → List Image → List ℕ → List ℕ → Due → Sets → HalfState
half_by n applied images vols slots due kept = record {
  on = has_set vols;
  here = has_set vols;
  contents = contents_in n.empty slots;
  images = images_in images vols;
  number = n.session;
  role = n.role;
  state = state_in n;
  last = 0;
  known = 0;
  taken = 0;
  applied = applied;
  due = due;
  held = [];
  kept = kept;
}

-- ---- in memory

abbrev pub vols_of : List SetBits → List ℕ
vols_of sets = map (λ s. s.vol) sets

abbrev pub slots_of : List SetBits → List ℕ
slots_of sets = map (λ s. s.slot) sets

-- the half that a receiver stands for. To which sets nothing but entries came since it was asked is told by no disk; the entries that
-- wait for their turn are held above it
abbrev pub receiver_of : Sets → ReceiverHeld → HalfState
receiver_of kept h = half_by h.half.note h.half.applied h.below.images (vols_of h.half.sets) (slots_of h.half.sets) (due_of h.half.sets) kept

-- it stands for a half
abbrev pub StandsFor : ReceiverHeld → HalfState → Type 0
StandsFor h x = receiver_of x.kept h ≡ x

-- ---- on disks

-- an entry has landed of the session in which the half received last
abbrev pub is_of : Note → LandHeader → Bool
is_of n l = is_receiver n.role && (not (l.kind == 0) && l.session == n.session)

abbrev pub entry_on : LandHeader → Image → Entry
entry_on l img = record { kind = entry_kind l.kind; set = l.set; at = l.at; bytes = landed_blocks l img }

-- the half as it lies on its parts. One that replicates has no bits: those that are left of before its mark are to be wiped
abbrev pub lies_on : Sets → Note → LandHeader → ReceiverParts → HalfState
lies_on kept n l p = half_by n (if is_of n l then l.place else 0) p.below.images (map (λ s. s.vol) p.sets) (map (λ s. s.slot) p.sets)
    (if is_marked (state_in n) then nothing_due else due_found p.below p.sets) kept

-- the place that has landed is done once more
abbrev pub redone : HalfState → LandHeader → Image → HalfState
redone x l img = record (applied_to x (entry_on l img)) { applied = l.place }

-- whether a load does that: in a session alone
abbrev pub is_redone : Note → LandHeader → Bool
is_redone n l = is_of n l && is_session n.state

-- the half that a load finds: it has left, and the landed place of its session is done
abbrev pub found_by : Sets → Note → LandHeader → ReceiverParts → HalfState
found_by kept n l p = left_receiver (if is_redone n l then redone (lies_on kept n l p) l p.land.image else lies_on kept n l p)

-- nothing has landed of a later session than the note's, and where what has landed is done once more, its set and its range are there
pub record IsLandedFor (n : Note) (l : LandHeader) (vols : List ℕ) (below : BelowSeen) : Type 0 where
  pub earlier : not (l.kind == 0) ≡ true → l.session ≤ n.session
  pub room : is_redone n l ≡ true → IsRoom l vols below

abbrev pub vols_in : ReceiverParts → List ℕ
vols_in p = map (λ s. s.vol) p.sets

-- a load of these parts finds this half, by the note that lies on its disk, where that is told
pub record Finds (p : ReceiverParts) (x : HalfState) : Type 0 where
  pub note : Note
  pub header : LandHeader
  pub noted : IsNote (stored_bytes p.below) note
  pub landed : IsLanding p.land.image header
  pub fits : IsLandedFor note header (vols_in p) p.below
  pub found : found_by x.kept note header p ≡ x

-- or one of two
abbrev pub FindsEither : ReceiverParts → HalfState → HalfState → Type 0
FindsEither p a b = Finds p a ⊎ Finds p b

-- ---- in step

-- of the landing volume: it is told, and has the header that is kept in memory; that is one for the note; and the applied place is that
-- of the landed entry
pub record IsLandingFound (h : ReceiverHeld) : Type 0 where
  pub told : IsTold h.half.land.disk
  pub step : IsLandingInStep h.half.land
  pub fits : IsLandedFor h.half.note h.half.land.header (vols_of h.half.sets) h.below
  pub place : h.half.applied ≡ (if is_of h.half.note h.half.land.header then h.half.land.header.place else 0)

-- what lies below is sound and told, and what is in memory is what the disks say
pub record IsReceiverFound (is_sound : Type 0) (h : ReceiverHeld) : Type 0 where
  pub sound : is_sound
  pub stored : h.below.stored ≡ Some h.below.note
  pub note : IsNote h.below.note h.half.note
  pub volumes : (set : ℕ) → set < length h.half.sets → IsToldAt h.below (set_at h.half.sets set).vol
  pub bits : AreInStep h.half.sets
  pub landing : IsLandingFound h

-- and doing the landed place of the session once more changes nothing, and one that replicates has no bits. So it stays until a call
-- answers that a disk failed
pub record IsReceiverInStep (is_sound : Type 0) (h : ReceiverHeld) : Type 0 where
  pub memory : IsReceiverFound is_sound h
  pub again : (kept : Sets) → is_redone h.half.note h.half.land.header ≡ true → redone (receiver_of kept h) h.half.land.header h.half.land.disk.image ≡ receiver_of kept h
  pub wiped : is_marked (state_in h.half.note) ≡ true → due_of h.half.sets ≡ nothing_due
