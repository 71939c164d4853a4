use Rattle.std.proofs.Common.{inl, inr, arith}
use Rattle.std.proofs.lemmas.Bool.{cases_lt}
use Rattle.avs_entries.proofs.EntryBytes.{entry_in_past}
use Rattle.avs_entries.proofs.entries.clear_from.Goals as goal

pub returns-clause-behind : goal.returns-clause-behind
returns-clause-behind c = λ d low. elim (cases_lt d c.loop-chunk.chunk) [
  | inl below ↦ c.loop-chunk.invariant.behind d low below
  | inr past ↦ entry_in_past c.loop-chunk.bytes d (omega (arith, c.loop-chunk.invariant.len))
]
