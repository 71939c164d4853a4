-- An entry that has landed is done below once more.
use Rattle.std.specs.Prelude.{◌≡◌, ◌⊎◌, ℕ, ◌+◌, ◌*◌, ◌<◌, ◌≤◌, Bool, false, List, length, slice_index, Result, IsOk, IsErr}
use Rattle.avs_seg.specs.Image.{blocks_of}
use Rattle.avs_dev.specs.Seen.{IsTold, Lasts, Fails}
use Rattle.avs_dev.specs.Below.{BelowSeen, WritesBelow, size_of}
use Rattle.avs_code.specs.declared.land_headers.LandHeader.{LandHeader}
use Rattle.avs_land.specs.Landed.{landed_blocks}
use Rattle.avs_land.specs.Landing.{Landing}

-- the volume of a landed entry: that of its set
abbrev pub volume_below : LandHeader → List ℕ → ℕ
volume_below h vols = slice_index vols h.set

-- an entry with blocks lies in a volume that is there
pub record IsRoom (h : LandHeader) (vols : List ℕ) (below : BelowSeen) : Type 0 where
  pub set : 0 < h.len → h.set < length vols
  pub there : 0 < h.len → volume_below h vols < length below.sizes
  pub inside : 0 < h.len → h.at + h.len ≤ size_of below (volume_below h vols)

-- bytes are those of the landed blocks
pub record AreLanded (l : Landing) (bytes : List ℕ) : Type 0 where
  pub size : length bytes ≡ 512 * l.header.len
  pub blocks : IsTold l.disk → blocks_of bytes ≡ landed_blocks l.header l.disk.image

-- a landing volume, and what is below
pub record Redoing : Type 0 where
  pub land : Landing
  pub below : BelowSeen

-- there was nothing to write below
pub record AsksNothing {T E : Type 0} (old : Redoing) (result : Result T E) (new : Redoing) : Type 0 where
  pub empty : old.land.header.len ≡ 0
  pub answer : IsOk result
  pub kept : new ≡ old

-- the landed blocks were not read
pub record IsEntryUnread {T E : Type 0} (old : Redoing) (result : Result T E) (new : Redoing) : Type 0 where
  pub answer : IsErr result
  pub below : new.below ≡ old.below
  pub land : new.land ≡ record old.land { disk = record old.land.disk { faults = new.land.disk.faults } }
  pub lasts : Lasts old.land.disk new.land.disk
  pub fails : Fails old.land.disk new.land.disk

-- they were written to their volume, done or not
pub record IsRewritten {T E : Type 0} (sound : Type 0) (vols : List ℕ) (old : Redoing) (result : Result T E) (new : Redoing) : Type 0 where
  pub land : new.land ≡ old.land
  pub bytes : List ℕ
  pub landed : AreLanded old.land bytes
  pub writes : WritesBelow sound old.below (volume_below old.land.header vols) old.land.header.at bytes result new.below

-- the entry is put below once more, whole or in part where that fails; a mark, and nothing, ask for no write
abbrev pub Redoes : {T E : Type 0} → Type 0 → List ℕ → Redoing → Result T E → Redoing → Type 0
Redoes sound vols old result new = AsksNothing old result new ⊎ (IsEntryUnread old result new ⊎ IsRewritten sound vols old result new)

-- of what is kept besides below: one write of the landed blocks came to it, as it answered
pub record RewritesOnce {R : Type 0} (wrote : R → ℕ → ℕ → List ℕ → Bool → R → Type 0) (vols : List ℕ) (old : Landing) (rest : R) (ok : Bool) (new : R) : Type 0 where
  pub bytes : List ℕ
  pub landed : AreLanded old bytes
  pub once : wrote rest (volume_below old.header vols) old.header.at bytes ok new

-- or none did, where they could not be read or there were none
abbrev pub RewritesRest : {R : Type 0} → (R → ℕ → ℕ → List ℕ → Bool → R → Type 0) → List ℕ → Landing → R → Bool → R → Type 0
RewritesRest wrote vols old rest ok new = ((new ≡ rest) × ((ok ≡ false) ⊎ (old.header.len ≡ 0))) ⊎ RewritesOnce wrote vols old rest ok new
