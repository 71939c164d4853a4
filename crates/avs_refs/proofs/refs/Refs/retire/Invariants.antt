use Rattle.std.proofs.Common.{◌≡◌}
use Rattle.std.specs.VecDeque.{deque_len, deque_capacity}
use Rattle.avs_refs.specs.Places.{places_above}
use Rattle.avs_refs.specs.Touches.{places_of, IsConsistent}
use Rattle.avs_refs.proofs.refs.Refs.retire.Given as goal

-- only places at or below `upto` are gone
abbrev pub invariant-loop-touch : goal.invariant-loop-touch
invariant-loop-touch l =
    let start = l.initial.self-inside in
    let now = l.self-inside in
    record {
      consistent : IsConsistent now.greatest.items now.outstanding.items now.candidates.has;
      greatest : now.greatest.items ≡ start.greatest.items;
      outstanding : places_above l.upto (places_of now.outstanding.items) ≡ places_above l.upto (places_of start.outstanding.items);
      capacity : deque_capacity now.outstanding ≡ deque_capacity start.outstanding;
      room : now.room ≡ start.room;
    }

abbrev pub decreases-loop-touch : goal.decreases-loop-touch
decreases-loop-touch l = deque_len l.self-inside.outstanding
