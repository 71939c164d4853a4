use Rattle.std.proofs.Common.{◌≡◌, ◌-◌, ◌≤◌}
use Rattle.avs_bits.specs.BitSet.{set_of}
use Rattle.avs_join.proofs.Listing.{below}
use Rattle.avs_join.proofs.import.Import.bits.Given as goal

abbrev pub invariant-loop-seg : goal.invariant-loop-seg
invariant-loop-seg g l = (l.list ≡ below (set_of l.self-inside.bits) l.from) × (l.from ≤ l.self-inside.bits.segs)

abbrev pub decreases-loop-seg : goal.decreases-loop-seg
decreases-loop-seg g l = l.self-inside.bits.segs - l.from
