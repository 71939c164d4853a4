-- Disks in memory: which of their calls fail, and what each call leaves.
use Rattle.std.specs.Prelude.{ℕ, ◌+◌, ◌-◌, ◌^◌, min, Bool, true, ◌||◌, if◌then◌else◌, ◌==◌, List, length, Option, Some, None, is_some}
use Rattle.std.specs.List.{list_any, range_with_len}
use Rattle.avs_seg.specs.Image.{Image, put, mix, blocks_of, blank}
use Rattle.avs_dev.specs.Seen.{Seen}
use Rattle.avs_dev.specs.declared.disk.Tear.{Tear}
use Rattle.avs_dev.specs.declared.mem_disk.MemDisk.{MemDisk}

-- a disk in memory: its blocks, the numbers of the calls that are to fail, how many calls it had,
-- how many failed, how many blocks were written, and the tear that is armed
pub record MemState : Type 0 where
  pub image : Image
  pub size : ℕ
  pub fails : List ℕ
  pub calls : ℕ
  pub faults : ℕ
  pub written : ℕ
  pub tear : Option Tear

abbrev pub state_of : MemDisk → MemState
state_of d = record {
  image = blocks_of d.bytes.items;
  size = d.size;
  fails = d.fails.items;
  calls = d.calls;
  faults = d.faults;
  written = d.written;
  tear = d.tear;
}

-- a new one
abbrev pub new_state : ℕ → List ℕ → MemState
new_state size fails = record { image = blank size; size = size; fails = fails; calls = 0; faults = 0; written = 0; tear = None }

-- what it is as a disk: it tells its blocks, is steady where no call is to fail, and always lets a tear be armed
abbrev pub seen_of : MemState → Seen
seen_of d = record {
  image = d.image;
  size = d.size;
  faults = d.faults;
  written = d.written;
  steady = length d.fails == 0;
  armed = is_some d.tear;
  tear = d.tear;
  arms = true;
}

-- a count that stops at the greatest u64
abbrev pub counted : ℕ → ℕ → ℕ
counted n more = min (n + more) (2 ^ 64 - 1)

-- whether the next call is on the list of those that fail
abbrev pub is_listed : MemState → Bool
is_listed d = list_any (λ k. k == counted d.calls 1) d.fails

-- the tear that the next write uses: one that is armed and skips no further write
abbrev pub due : Option Tear → Option Tear
due None = None
due (Some tear) = if tear.skip == 0 then Some tear else None

-- what that write leaves armed: no tear that is used, and another one write nearer
abbrev pub left_armed : Option Tear → Option Tear
left_armed None = None
left_armed (Some tear) = if tear.skip == 0 then None else Some (record tear { skip = tear.skip - 1 })

-- what a tear leaves of a write: its blocks from `from` on are stored, `count` of them
abbrev pub torn_image : Tear → Image → ℕ → Image → Image
torn_image tear img at bs = mix img at bs (range_with_len tear.from tear.count)

-- the disk after a call that was done, and after one that the list lets fail
abbrev pub called : MemState → MemState
called d = record d { calls = counted d.calls 1 }

abbrev pub failed : MemState → MemState
failed d = record d { calls = counted d.calls 1; faults = counted d.faults 1 }

abbrev pub after_read : MemState → MemState
after_read d = if is_listed d then failed d else called d

-- a write fails where the list or a tear lets it
abbrev pub is_failing : MemState → Bool
is_failing d = is_listed d || is_some (due d.tear)

-- the disk after a write comes to an armed tear
abbrev pub nearer : MemState → MemState
nearer d = record d { tear = left_armed d.tear }

-- the disk after blocks are stored: a part of them by a tear, or all
abbrev pub stored : Option Tear → MemState → ℕ → Image → MemState
stored (Some tear) d at bs = record d { image = torn_image tear d.image at bs; faults = counted d.faults 1 }
stored None d at bs = record d { image = put d.image at bs; written = counted d.written (length bs) }

abbrev pub after_write : MemState → ℕ → Image → MemState
after_write d at bs = if is_listed d then failed d else stored (due d.tear) (nearer (called d)) at bs
