use Rattle.std.proofs.Common.{◌≡◌, ◌≤◌, ◌*◌, length, filter}
use Rattle.std.specs.List.{range_with_len}
use Rattle.avs_entries.specs.Parts.{is_ahead}
use Rattle.avs_compact.specs.CompactSet.{entry_of}
use Rattle.avs_compact.proofs.compact.Compact.lacks.Given as goal

abbrev pub invariant-loop-place : goal.invariant-loop-place
invariant-loop-place g l = record {
  counted : l.lacking ≡ length (filter (is_ahead l.split l.part (entry_of l.self)) (range_with_len (2048 * l.part) l.place));
  small : l.lacking ≤ l.place;
}
