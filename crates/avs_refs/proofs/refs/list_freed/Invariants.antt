use Rattle.std.proofs.Common.{◌≡◌, ◌-◌, ◌&&◌, ◌||◌, ℕ, eqb, length, slice_index}
use Rattle.avs_seg.specs.Image.{is_inside}
use Rattle.avs_refs.specs.Listed.{has_at}
use Rattle.avs_refs.proofs.refs.list_freed.Given as goal

abbrev pub invariant-loop-seg : goal.invariant-loop-seg
invariant-loop-seg l = record {
  segs : length l.candidates.has ≡ length l.greatest;
  listed : (s : ℕ) → has_at l.candidates.has s ≡ (has_at l.initial.candidates.has s || (is_inside l.touch.first (l.seg - l.touch.first) s && eqb (slice_index l.greatest s) l.touch.place));
}
