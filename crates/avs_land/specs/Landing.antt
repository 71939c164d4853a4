-- A landing volume with its header in memory, and what each call makes of it.
use Rattle.std.specs.Prelude.{◌≡◌, ◌≢◌, ◌⊎◌, ℕ, ◌+◌, ◌%◌, ◌<◌, ◌≤◌, ◌==◌, ◌&&◌, Bool, not, IsTrue, if◌then◌else◌, length, Option, None, Some, Result, OnOk, OnErr, is_ok}
use Rattle.avs_seg.specs.Image.{Image, block_at, ChangesWithin}
use Rattle.avs_dev.specs.Seen.{Seen, IsTold, Lasts, IsSpared, Fails, GoesOn, with_tear}
use Rattle.avs_dev.specs.Memory.{counted}
use Rattle.avs_dev.specs.declared.disk.Tear.{Tear}
use Rattle.avs_dev.specs.declared.back.Why.{Why}
use Rattle.avs_dev.specs.declared.back.Why.TheVariants.{Size, BadRecord, NoMemory, Fault}
use Rattle.avs_code.specs.Header.{IsLandHeader}
use Rattle.avs_code.specs.Label.{IsLabel}
use Rattle.avs_code.specs.declared.land_headers.LandHeader.{LandHeader}
use Rattle.avs_model.specs.declared.entry.Entry.{Entry}
use Rattle.avs_land.specs.Landed.{landing_blocks, landing_label, area_of, header_for, no_header, landed_of, IsLanding, IsReadable, HasLanded, IsBadLanding}
use Rattle.avs_land.specs.Steps.{WroteOr, IsLabelFirst}

-- its disk, and the header that is kept in memory
pub record Landing : Type 0 where
  pub disk : Seen
  pub header : LandHeader

-- the disk has the header that is kept in memory
abbrev pub IsLandingInStep : Landing → Type 0
IsLandingInStep l = IsLanding l.disk.image l.header

-- only the header and so many blocks of the area of a place may differ
pub record ChangesLanding (place count : ℕ) (img new : Image) : Type 0 where
  pub same_length : length new ≡ length img
  pub others : (i : ℕ) → i ≢ 1 → (i < area_of place) ⊎ (area_of place + count ≤ i) → block_at new i ≡ block_at img i

-- a landing of this place leaves the blocks of a header's entry alone: it has none, or the place follows its place, or uses the
-- other area
abbrev pub SparesEntry : LandHeader → ℕ → Type 0
SparesEntry h place = (h.kind ≡ 0) ⊎ ((place ≡ h.place + 1) ⊎ (h.place % 2 ≢ place % 2))

-- the header that stood stands, and its entry whole, where the landing leaves its blocks alone
pub record KeepsLanded (h : LandHeader) (img : Image) (place : ℕ) (new : Image) : Type 0 where
  pub is : IsLanding new h
  pub entry : SparesEntry h place → landed_of h new ≡ landed_of h img

-- An entry lands: its blocks, and then the header, by which it stands. Where that fails, the header tells which of the
-- two stands, the entry that had landed before or this one.
pub record Lands {T E : Type 0} (old : Landing) (session place : ℕ) (entry : Entry) (result : Result T E) (new : Landing) : Type 0 where
  pub goes : GoesOn old.disk result new.disk
  pub header : new.header ≡ (if is_ok result then header_for session place entry else old.header)
  pub only : IsTold old.disk → ChangesLanding place (length entry.bytes) old.disk.image new.disk.image
  pub readable : IsTold old.disk → IsReadable old.disk.image → IsReadable new.disk.image
  pub done : IsTold old.disk → IsReadable old.disk.image
      → OnOk result (HasLanded new.disk.image (header_for session place entry) (Some (record { session = session; place = place; entry = entry })))
  pub failed : IsTold old.disk → (h : LandHeader) → IsLanding old.disk.image h → OnErr result
      (KeepsLanded h old.disk.image place new.disk.image
      ⊎ HasLanded new.disk.image (header_for session place entry) (Some (record { session = session; place = place; entry = entry })))
  pub written : OnOk result (new.disk.written ≡ counted old.disk.written (length entry.bytes + 1))
  pub unwritten : OnErr result (WroteOr old.disk.written (length entry.bytes) new.disk.written)

-- ---- how it comes to be

-- a new landing volume, on which nothing has landed
pub record MakesLanding (old : Seen) (new : Landing) : Type 0 where
  pub fits : landing_blocks ≤ old.size
  pub lasts : Lasts old new.disk
  pub spared : IsSpared old new.disk
  pub found : IsTold old → HasLanded new.disk.image no_header None
  pub within : IsTold old → ChangesWithin 0 2 old.image new.disk.image
  pub header : new.header ≡ no_header
  pub written : new.disk.written ≡ counted old.written 2

-- a disk that is too small is refused before anything is done
pub record IsTooSmall (old : Seen) (need have : ℕ) (new : Seen) : Type 0 where
  pub needs : need ≡ landing_blocks
  pub has : have ≡ old.size
  pub less : have < need
  pub kept : new ≡ old

-- no memory was left, where the disk is large enough
pub record HasNoMemory (old new : Seen) : Type 0 where
  pub fits : landing_blocks ≤ old.size
  pub kept : new ≡ old

-- the label and the header were not both written: each is old or new, and nothing else has changed
pub record IsLandingMadeInPart (old new : Seen) : Type 0 where
  pub fits : landing_blocks ≤ old.size
  pub fails : Fails old new
  pub within : IsTold old → ChangesWithin 0 2 old.image new.image
  pub label : IsTold old → (block_at new.image 0 ≡ block_at old.image 0) ⊎ IsLabel (block_at new.image 0) landing_label
  pub header : IsTold old → (block_at new.image 1 ≡ block_at old.image 1) ⊎ IsLandHeader (block_at new.image 1) no_header
  pub label_first : IsTold old → IsLabelFirst old.image new.image
  pub written : WroteOr old.written 1 new.written

-- why no landing volume was made, and what stands then
abbrev pub LandingMakeRefused : Seen → Why → Seen → Type 0
LandingMakeRefused old (Size need have) new = IsTooSmall old need have new
LandingMakeRefused old (BadRecord field) new = ⊥
LandingMakeRefused old NoMemory new = HasNoMemory old new
LandingMakeRefused old Fault new = IsLandingMadeInPart old new

-- a landing volume as it is found
pub record LoadsLanding (old : Seen) (new : Landing) : Type 0 where
  pub fits : landing_blocks ≤ old.size
  pub kept : new.disk ≡ old
  pub step : IsTold old → IsLandingInStep new
  -- no other header stands there
  pub only : IsTold old → (h : LandHeader) → IsLanding old.image h → new.header ≡ h

-- the disk is no landing volume
pub record IsNoLanding (old : Seen) (field : ℕ) (new : Seen) : Type 0 where
  pub fits : landing_blocks ≤ old.size
  pub kept : new ≡ old
  pub bad : IsTold old → IsBadLanding old.image field
  pub none : IsTold old → IsReadable old.image → ⊥

-- the label and the header were not both read
pub record IsLandingUnread (old new : Seen) : Type 0 where
  pub fits : landing_blocks ≤ old.size
  pub kept : new ≡ record old { faults = new.faults }
  pub fails : Fails old new
  pub unsteady : IsTrue (not old.steady)

-- why no landing volume was loaded
abbrev pub LandingLoadRefused : Seen → Why → Seen → Type 0
LandingLoadRefused old (Size need have) new = IsTooSmall old need have new
LandingLoadRefused old (BadRecord field) new = IsNoLanding old field new
LandingLoadRefused old NoMemory new = HasNoMemory old new
LandingLoadRefused old Fault new = IsLandingUnread old new

-- exactly this tear is armed, exactly on the disk with number 0 and where it lets one be armed; where none is, nothing changes
pub record ArmsLanding (old : Landing) (disk : ℕ) (tear : Tear) (result : Bool) (new : Landing) : Type 0 where
  pub answer : result ≡ ((disk == 0) && old.disk.arms)
  pub armed : IsTrue result → new ≡ record old { disk = with_tear tear old.disk }
  pub unarmed : IsTrue (not result) → new ≡ old
  pub sure : disk ≡ 0 → IsTrue old.disk.steady → IsTrue result

-- the blocks written on a disk, whose number is 0
abbrev pub landing_written : Landing → ℕ → Option ℕ
landing_written l disk = if disk == 0 then Some l.disk.written else None
