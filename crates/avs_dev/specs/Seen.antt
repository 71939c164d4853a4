-- What contracts see of a disk, and what its calls make of that.
use Rattle.std.specs.Prelude.{◌≡◌, ℕ, ◌+◌, ◌-◌, ◌*◌, ◌/◌, ◌^◌, ◌<◌, ◌≤◌, ◌==◌, min, Bool, true, not, IsTrue, if◌then◌else◌, List, [], length, Option, Some, None, Result, OnOk, OnErr, IsOk}
use Rattle.avs_seg.specs.Image.{Image, put, range, blocks_of, IsMix, ChangesWithin}
use Rattle.avs_seg.specs.Causes.{HasCause, Rose}
use Rattle.avs_dev.specs.declared.disk.Tear.{Tear}

-- a disk: its blocks ([] where it does not tell them), its size, how often it has failed, the blocks written,
-- whether it fails only where a tear is armed, whether one is, which one, and whether it lets one be armed
pub record Seen : Type 0 where
  pub image : Image
  pub size : ℕ
  pub faults : ℕ
  pub written : ℕ
  pub steady : Bool
  pub armed : Bool
  pub tear : Option Tear
  pub arms : Bool

-- the disk tells what is in its blocks
abbrev pub IsTold : Seen → Type 0
IsTold d = length d.image ≡ d.size

-- what it shows of its blocks: all of them where it tells them, else none
abbrev pub shown : Seen → Image
shown d = if length d.image == d.size then d.image else []

-- so many bytes are whole blocks, one or more, and lie inside the disk from block `at` on
pub record IsRange (d : Seen) (at len : ℕ) : Type 0 where
  pub some : 0 < len
  pub whole : 512 * (len / 512) ≡ len
  pub inside : at + len / 512 ≤ d.size

-- a tear was armed, and none is armed any more
pub record UsesTear (old new : Seen) : Type 0 where
  pub was_armed : IsTrue old.armed
  pub is_used : IsTrue (not new.armed)

-- what every call leaves of a disk: its size, its kind, and counts that have not fallen
pub record Lasts (old new : Seen) : Type 0 where
  pub size : new.size ≡ old.size
  pub steady : new.steady ≡ old.steady
  pub arms : new.arms ≡ old.arms
  pub told : IsTold old → IsTold new
  pub faults : old.faults ≤ new.faults
  pub written : old.written ≤ new.written

-- the disk has not failed, and a tear is armed where one was
pub record IsSpared (old new : Seen) : Type 0 where
  pub faults : new.faults ≡ old.faults
  pub armed : new.armed ≡ old.armed

-- the disk has failed, and a steady one by a tear that was armed and is no more
pub record Fails (old new : Seen) : Type 0 where
  pub rose : Rose old.faults new.faults
  pub spent : IsTrue old.steady → UsesTear old new

-- a disk lasts through a call, which fails exactly by it
pub record GoesOn {T E : Type 0} (old : Seen) (result : Result T E) (new : Seen) : Type 0 where
  pub lasts : Lasts old new
  pub done : OnOk result (IsSpared old new)
  pub failed : OnErr result (Fails old new)

-- a read changes nothing but the faults, and at Ok it gives the blocks
pub record Reads {T E : Type 0} (old : Seen) (at : ℕ) (out : List ℕ) (result : Result T E) (new : Seen) : Type 0 where
  pub rest : new ≡ record old { faults = new.faults }
  pub cause : HasCause old.faults new.faults result
  pub shows : IsTold old → OnOk result (blocks_of out ≡ range old.image at (length out / 512))
  pub sure : IsTrue old.steady → IsOk result
  pub told : IsTold old → IsTold new
  pub goes : GoesOn old result new

-- a write that is done comes to no tear that skips no further write, and brings another one a write nearer
abbrev pub ComesNearer : Option Tear → Option Tear → Type 0
ComesNearer None new = new ≡ None
ComesNearer (Some tear) new = (0 < tear.skip) × (new ≡ Some (record tear { skip = tear.skip - 1 }))

-- a tear is armed that skips no further write
abbrev pub IsDue : Option Tear → Type 0
IsDue None = ⊥
IsDue (Some tear) = tear.skip ≡ 0

-- what a write makes of the armed tear: a steady disk fails exactly where it is due
pub record CountsTear {T E : Type 0} (old : Seen) (result : Result T E) (new : Seen) : Type 0 where
  pub done : OnOk result (ComesNearer old.tear new.tear)
  pub failed : IsTrue old.steady → OnErr result (IsDue old.tear)

-- a write that answers Ok is a put, and one that fails leaves each block of its range old or new
pub record Writes {T E : Type 0} (old : Seen) (at : ℕ) (bytes : List ℕ) (result : Result T E) (new : Seen) : Type 0 where
  pub size : new.size ≡ old.size
  pub steady : new.steady ≡ old.steady
  pub cause : HasCause old.faults new.faults result
  pub done : IsTold old → OnOk result (new.image ≡ put old.image at (blocks_of bytes))
  pub failed : IsTold old → OnErr result (IsMix old.image at (blocks_of bytes) new.image)
  pub within : IsTold old → ChangesWithin at (length bytes / 512) old.image new.image
  pub told : IsTold old → IsTold new
  pub tells : IsTold new → IsTold old
  pub counted : OnOk result (new.written ≡ min (old.written + length bytes / 512) (2 ^ 64 - 1))
  pub uncounted : OnErr result (new.written ≡ old.written)
  pub still_armed : OnOk result (new.armed ≡ old.armed)
  pub spent : IsTrue old.steady → OnErr result (UsesTear old new)
  pub goes : GoesOn old result new
  pub tear : CountsTear old result new

-- the disk with this tear armed
abbrev pub with_tear : Tear → Seen → Seen
with_tear tear d = record d { armed = true; tear = Some tear }

-- exactly this tear is armed, exactly where the disk lets one be armed, and nothing else changes
pub record Arms (old : Seen) (tear : Tear) (result : Bool) (new : Seen) : Type 0 where
  pub answer : result ≡ old.arms
  pub armed : IsTrue result → new ≡ with_tear tear old
  pub unarmed : IsTrue (not result) → new ≡ old
