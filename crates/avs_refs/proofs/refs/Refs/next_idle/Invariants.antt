use Rattle.std.proofs.Common.{◌≡◌}
use Rattle.std.specs.VecDeque.{deque_capacity}
use Rattle.avs_refs.specs.Touches.{IsConsistent}
use Rattle.avs_refs.proofs.refs.Refs.next_idle.Given as goal

-- the segments that were taken so far are not left
abbrev pub invariant-loop-seg : goal.invariant-loop-seg
invariant-loop-seg l =
    let start = l.initial.self-inside in
    let now = l.self-inside in
    record {
      consistent : IsConsistent now.greatest.items now.outstanding.items now.candidates.has;
      greatest : now.greatest.items ≡ start.greatest.items;
      outstanding : now.outstanding.items ≡ start.outstanding.items;
      capacity : deque_capacity now.outstanding ≡ deque_capacity start.outstanding;
      room : now.room ≡ start.room;
    }

abbrev pub decreases-loop-seg : goal.decreases-loop-seg
decreases-loop-seg l = l.self-inside.candidates.left
