-- Parts of 2,048 chunks, of which bits tell those that come to be split.
use Rattle.std.specs.Prelude.{ℕ, ◌+◌, ◌-◌, ◌*◌, ◌==◌, min, Bool, ◌&&◌, if◌then◌else◌, List, length, filter, nat_lt}
use Rattle.std.specs.List.{range_with_len}
use Rattle.avs_bits.specs.Bit.{bit_of}
use Rattle.avs_entries.specs.Entries.{area_len, split, slot_by, entry_for}

-- whether bits tell a chunk of a part: bit i stands for its i-th chunk of 2,048
abbrev pub told_by : List ℕ → ℕ → ℕ → Bool
told_by bits part c = bit_of bits (c - 2048 * part)

-- the end of the chunks of a part, of so many chunks
abbrev pub part_end : ℕ → ℕ → ℕ
part_end chunks part = min (2048 * (part + 1)) chunks

-- a chunk that is told and has no slot
abbrev pub is_ahead : List ℕ → ℕ → (ℕ → ℕ) → ℕ → Bool
is_ahead bits part entries c = told_by bits part c && (entries c == 0)

-- how many chunks of a part, of so many chunks, are told and have no slot
abbrev pub lacking_told : List ℕ → ℕ → (ℕ → ℕ) → ℕ → ℕ
lacking_told bits part entries chunks = length (filter (is_ahead bits part entries) (range_with_len (2048 * part) (part_end chunks part - 2048 * part)))

-- how many blocks of entries a part has, of so many chunks
abbrev pub part_blocks : ℕ → ℕ → ℕ
part_blocks chunks part = min 16 (area_len chunks - 16 * part)

-- The entry of a chunk where those of a part that bits tell are split: in the slot that it has, or in the one that is kept for it. Bits behind
-- the last chunk stand for none.
abbrev pub split_to : ℕ → List ℕ → ℕ → (ℕ → ℕ) → (ℕ → ℕ) → ℕ → ℕ
split_to chunks bits part entries kept c =
    if nat_lt c chunks && told_by bits part c then (if entries c == 0 then kept c else entry_for split (slot_by (entries c))) else entries c
