use Rattle.std.proofs.Common.{◌≡◌, ◌-◌, ◌≤◌, ◌&&◌, ltb}
use Rattle.std.specs.List.{filter, range_with_len}
use Rattle.avs_bits.specs.BitSet.{set_of}
use Rattle.avs_halves.proofs.listing.list.Given as goal

abbrev pub invariant-loop-seg : goal.invariant-loop-seg
invariant-loop-seg g l = record {
  within : l.from ≤ l.bits.segs;
  found : l.found ≡ filter (λ s. ltb s l.bits.segs && set_of l.bits s) (range_with_len 0 l.from);
}

abbrev pub decreases-loop-seg : goal.decreases-loop-seg
decreases-loop-seg g l = l.bits.segs - l.from
