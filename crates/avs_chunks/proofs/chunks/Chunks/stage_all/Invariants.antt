use Rattle.std.proofs.Common.{Ok}
use Rattle.avs_seg.specs.declared.fault.Failed.{Failed}
use Rattle.avs_chunks.specs.ChunkSet.{state_of}
use Rattle.avs_chunks.specs.Staging.{StagesParts, updated}
use Rattle.avs_chunks.proofs.chunks.Chunks.stage_all.Given as goal

abbrev pub invariant-loop-part : goal.invariant-loop-part
invariant-loop-part g l = record { so_far : StagesParts {T = Unit {0}} {E = Failed} l.fn.self (λ c. updated l.update (state_of l.fn.self c)) 0 l.part (Ok tt) l.self }
