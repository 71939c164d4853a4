-- Steps of an application: the entry lands; then its blocks go below, or it is the mark, by a note and wiped bits.
use Rattle.std.specs.Prelude.{◌≡◌, ◌⊎◌, ℕ, true, false, List, Result, Ok, IsErr}
use Rattle.avs_seg.specs.Image.{blocks_of}
use Rattle.avs_dev.specs.Below.{WritesBelow}
use Rattle.avs_model.specs.declared.entry.Entry.{Entry}
use Rattle.avs_mirrors.specs.Entries.{is_mark}
use Rattle.avs_mirrors.specs.Half.{Replicating}
use Rattle.avs_sync.specs.declared.note.Note.{Note}
use Rattle.avs_halves.specs.SetBits.{set_at}
use Rattle.avs_halves.specs.Changing.{ChangesSets, every}
use Rattle.avs_halves.specs.Writing.{PutsNote}
use Rattle.avs_receiver.specs.Held.{ReceiverHalf, ReceiverHeld}
use Rattle.avs_receiver.specs.Slots.{AreFilled}

-- the note of a half that has applied the mark of its session at this place: all sets have contents
pub record IsMarkNote (h : ReceiverHalf) (place : ℕ) (n : Note) : Type 0 where
  pub is : n ≡ record h.note { state = Replicating; empty = n.empty; mark = place }
  pub slots : AreFilled h.sets h.note.empty n.empty

-- it stopped at the note
pub record StopsAtNote {E : Type 0} (sound : Type 0) (old : ReceiverHeld) (place : ℕ) (result : Result (Unit {0}) E) (new : ReceiverHeld) : Type 0 where
  pub answer : IsErr result
  pub note : Note
  pub is : IsMarkNote old.half place note
  pub puts : PutsNote sound old.below note result new.below
  pub half : new.half ≡ old.half

-- the note stands, and the bits go, all of them or a part
pub record WipesBehind {E : Type 0} (sound : Type 0) (old : ReceiverHeld) (place : ℕ) (result : Result (Unit {0}) E) (new : ReceiverHeld) : Type 0 where
  pub note : Note
  pub is : IsMarkNote old.half place note
  pub puts : PutsNote {E = E} sound old.below note (Ok (tt {0})) new.below
  pub wipes : ChangesSets (every old.half.sets) false old.half.sets result new.half.sets
  pub half : new.half ≡ record old.half { note = note; sets = new.half.sets }

abbrev pub Marks : {E : Type 0} → Type 0 → ReceiverHeld → ℕ → Result (Unit {0}) E → ReceiverHeld → Type 0
Marks sound old place result new = StopsAtNote sound old place result new ⊎ WipesBehind sound old place result new

-- the blocks of an entry go to the volume of its set
pub record PutsBlocks {E : Type 0} (sound : Type 0) (old : ReceiverHeld) (e : Entry) (result : Result (Unit {0}) E) (new : ReceiverHeld) : Type 0 where
  pub bytes : List ℕ
  pub blocks : blocks_of bytes ≡ e.bytes
  pub writes : WritesBelow sound old.below (set_at old.half.sets e.set).vol e.at bytes result new.below
  pub half : new.half ≡ old.half

-- what an entry does that has landed
pub record PutsEntry {E : Type 0} (sound : Type 0) (old : ReceiverHeld) (place : ℕ) (e : Entry) (result : Result (Unit {0}) E) (new : ReceiverHeld) : Type 0 where
  pub mark : is_mark e.kind ≡ true → Marks sound old place result new
  pub blocks : is_mark e.kind ≡ false → PutsBlocks sound old e result new
