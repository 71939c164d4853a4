use Rattle.std.proofs.Common.{Ok, ◌*◌}
use Rattle.avs_seg.specs.declared.fault.Failed.{Failed}
use Rattle.avs_entries.specs.Parts.{split_to}
use Rattle.avs_compact.specs.CompactSet.{chunks_of, entry_of, next_of}
use Rattle.avs_compact.specs.Staging.{StagesBlocks}
use Rattle.avs_compact.proofs.compact.Compact.stage_split.Given as goal

abbrev pub invariant-loop-place : goal.invariant-loop-place
invariant-loop-place g l = record {
  so_far : StagesBlocks {T = Unit {0}} {E = Failed} l.fn.self (split_to (chunks_of l.fn.self) l.split l.part (entry_of l.fn.self) (next_of l.fn.self)) (16 * l.part) l.place (Ok tt) l.self;
}
