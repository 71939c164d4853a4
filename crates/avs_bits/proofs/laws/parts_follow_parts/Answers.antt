use Rattle.avs_bits.proofs.Parts.{part_same, part_then, part_wider, held_then}
use Rattle.avs_bits.proofs.laws.parts_follow_parts.Goals as goal

pub returns-clause-none : goal.returns-clause-none
returns-clause-none c = part_same

pub returns-clause-then : goal.returns-clause-then
returns-clause-then c = part_then

pub returns-clause-wider : goal.returns-clause-wider
returns-clause-wider c = part_wider

pub returns-clause-held : goal.returns-clause-held
returns-clause-held c = held_then
