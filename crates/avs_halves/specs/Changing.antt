-- What a change makes of the bits of a half's sets, done or stopped.
use Rattle.std.specs.Prelude.{◌≡◌, ℕ, ◌<◌, ◌==◌, ◌&&◌, Bool, not, IsTrue, if◌then◌else◌, List, length, Option, Result, OnOk, OnErr, slice_get, slice_set}
use Rattle.std.specs.Option.{option_map}
use Rattle.avs_seg.specs.Image.{block_at, is_inside}
use Rattle.avs_dev.specs.Seen.{Seen, IsTold, Lasts, IsSpared, with_tear}
use Rattle.avs_dev.specs.Devices.{OneFails}
use Rattle.avs_dev.specs.declared.disk.Tear.{Tear}
use Rattle.avs_bits.specs.Bit.{IsPart}
use Rattle.avs_bits.specs.BitSet.{set_of, IsInStep, HoldsPart}
use Rattle.avs_mirrors.specs.Due.{Segments, Keys}
use Rattle.avs_halves.specs.SetBits.{SetBits, set_at, disk_at}

-- of these segments of a set some are as `on` says, and all others are as before: in memory, and on a disk that was in step
pub record PartMade (keys : Segments) (on : Bool) (old new : SetBits) : Type 0 where
  pub rest : new ≡ record old { bits = record old.bits { disk = new.bits.disk; bytes = new.bits.bytes } }
  pub lasts : Lasts old.bits.disk new.bits.disk
  pub label : IsTold old.bits.disk → block_at new.bits.disk.image 0 ≡ block_at old.bits.disk.image 0
  pub memory : IsPart keys on (set_of old.bits) (set_of new.bits)
  pub disk : IsTold old.bits.disk → IsInStep old.bits → HoldsPart keys on (set_of old.bits) new.bits.disk.image old.bits.segs

-- exactly these are as `on` says, and the disk holds it
pub record AllMade (keys : Segments) (on : Bool) (old new : SetBits) : Type 0 where
  pub spared : IsSpared old.bits.disk new.bits.disk
  pub memory : (s : ℕ) → set_of new.bits s ≡ (if keys s then on else set_of old.bits s)
  pub step : IsTold old.bits.disk → IsInStep old.bits → IsInStep new.bits

-- segments of several sets are changed, all of them or, where a disk fails, a part
pub record ChangesSets {T E : Type 0} (keys : Keys) (on : Bool) (old : List SetBits) (result : Result T E) (new : List SetBits) : Type 0 where
  pub count : length new ≡ length old
  pub part : (set : ℕ) → PartMade (keys set) on (set_at old set) (set_at new set)
  pub done : OnOk result ((set : ℕ) → AllMade (keys set) on (set_at old set) (set_at new set))
  pub failed : OnErr result (OneFails (disk_at old) (disk_at new))

-- the segments of one set, those of a run, one alone, and those of a set in a list
abbrev pub keys_of : ℕ → Segments → Keys
keys_of set keys t seg = t == set && keys seg

abbrev pub run_of : ℕ → ℕ → ℕ → Keys
run_of set first count = keys_of set (is_inside first count)

-- every segment of every set that is there
abbrev pub every : List SetBits → Keys
every sets set = is_inside 0 (set_at sets set).bits.segs

-- exactly this tear is armed, exactly on the disk of the set with that place and where it lets one be armed
abbrev pub with_disk : SetBits → Seen → SetBits
with_disk s disk = record s { bits = record s.bits { disk = disk } }

pub record ArmsSet (old : List SetBits) (set : ℕ) (tear : Tear) (result : Bool) (new : List SetBits) : Type 0 where
  pub answer : result ≡ (disk_at old set).arms
  pub armed : IsTrue result → new ≡ slice_set old set (with_disk (set_at old set) (with_tear tear (disk_at old set)))
  pub unarmed : IsTrue (not result) → new ≡ old
  pub sure : set < length old → IsTrue (disk_at old set).steady → IsTrue result

-- the blocks written on the disk of a set
abbrev pub set_written : List SetBits → ℕ → Option ℕ
set_written sets set = option_map (λ s. s.bits.disk.written) (slice_get sets set)
