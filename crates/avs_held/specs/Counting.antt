-- How many chunks are told of a part.
use Rattle.std.specs.Prelude.{ℕ, ◌-◌, ◌*◌, List, length, filter}
use Rattle.std.specs.List.{range_with_len}
use Rattle.avs_chunks.specs.Staging.{told_by, part_end}
use Rattle.avs_sets.specs.Sets.{SetSeen, chunks_of}
use Rattle.avs_held.specs.Staging.{is_ahead}

-- how many chunks of a part are told and have no contents of their own
abbrev pub told_lacking : SetSeen → ℕ → List ℕ → ℕ
told_lacking s part bits =
    length (filter (λ c. is_ahead (told_by bits part) s c) (range_with_len (2048 * part) (part_end (chunks_of s) part - 2048 * part)))
