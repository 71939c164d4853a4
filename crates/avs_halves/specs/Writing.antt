-- A write to a volume of a half that is in no session, and a note that is set below: what each leaves.
use Rattle.std.specs.Prelude.{◌≡◌, ◌⊎◌, ℕ, ◌/◌, ◌≤◌, ◌+◌, ◌^◌, Bool, true, false, List, length, Result, Ok, IsErr}
use Rattle.avs_seg.specs.Segment.{first_segment, touch_count, seg_count}
use Rattle.avs_dev.specs.Below.{BelowSeen, WritesBelow, SetsNote, IsRangeOf, size_of}
use Rattle.avs_sync.specs.Note.{IsNote}
use Rattle.avs_sync.specs.declared.note.Note.{Note}
use Rattle.avs_mirrors.specs.Due.{Keys}
use Rattle.avs_halves.specs.SetBits.{SetBits, set_at}
use Rattle.avs_halves.specs.Changing.{ChangesSets, run_of}

-- so many bytes are a range of the volume of a set, whose bits are those of that volume
pub record IsRangeOfSet (below : BelowSeen) (s : SetBits) (at len : ℕ) : Type 0 where
  pub range : IsRangeOf below s.vol at len
  pub small : at + len / 512 ≤ 2 ^ 31
  pub segs : s.bits.segs ≡ seg_count (size_of below s.vol)

-- the segments that a write touches
abbrev pub touched : ℕ → ℕ → ℕ → Keys
touched set at len = run_of set (first_segment at) (touch_count at (len / 512))

-- it stopped in the bits: nothing below has changed
pub record StopsInBits {E : Type 0} (keys : Keys) (old : List SetBits) (was : BelowSeen) (result : Result (Unit {0}) E) (new : List SetBits) (now : BelowSeen) : Type 0 where
  pub answer : IsErr result
  pub bits : ChangesSets keys true old result new
  pub below : now ≡ was

-- all bits are set, and then the blocks are written, done or not
pub record WritesBehind {E : Type 0} (sound : Type 0) (keys : Keys) (vol at : ℕ) (bytes : List ℕ) (old : List SetBits) (was : BelowSeen) (result : Result (Unit {0}) E) (new : List SetBits) (now : BelowSeen) : Type 0 where
  pub bits : ChangesSets {E = E} keys true old (Ok (tt {0})) new
  pub writes : WritesBelow sound was vol at bytes result now

-- the bits of the segments that a write touches are set first, and then its blocks are written
abbrev pub WritesNoted : {E : Type 0} → Type 0 → ℕ → ℕ → List ℕ → List SetBits → BelowSeen → Result (Unit {0}) E → List SetBits → BelowSeen → Type 0
WritesNoted sound set at bytes old was result new now =
    StopsInBits (touched set at (length bytes)) old was result new now
    ⊎ WritesBehind sound (touched set at (length bytes)) (set_at old set).vol at bytes old was result new now

-- of what is kept besides below: one write came to it, as it answered, or none did
abbrev pub WroteOnce : {R : Type 0} → (R → ℕ → ℕ → List ℕ → Bool → R → Type 0) → R → ℕ → ℕ → List ℕ → Bool → R → Type 0
WroteOnce wrote rest vol at bytes ok new = ((ok ≡ false) × (new ≡ rest)) ⊎ wrote rest vol at bytes ok new

-- a note is set below
pub record PutsNote {T E : Type 0} (sound : Type 0) (old : BelowSeen) (note : Note) (result : Result T E) (new : BelowSeen) : Type 0 where
  pub bytes : List ℕ
  pub is : IsNote bytes note
  pub sets : SetsNote sound old bytes result new
