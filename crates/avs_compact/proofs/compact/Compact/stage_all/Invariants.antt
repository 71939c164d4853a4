use Rattle.std.proofs.Common.{Ok}
use Rattle.avs_seg.specs.declared.fault.Failed.{Failed}
use Rattle.avs_entries.specs.Staging.{updated}
use Rattle.avs_compact.specs.CompactSet.{entry_of}
use Rattle.avs_compact.specs.Staging.{StagesBlocks}
use Rattle.avs_compact.proofs.compact.Compact.stage_all.Given as goal

abbrev pub invariant-loop-at : goal.invariant-loop-at
invariant-loop-at g l = record { so_far : StagesBlocks {T = Unit {0}} {E = Failed} l.fn.self (λ c. updated l.update (entry_of l.fn.self c)) 0 l.at (Ok tt) l.self }
