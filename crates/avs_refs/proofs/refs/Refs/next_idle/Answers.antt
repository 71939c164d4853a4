use Rattle.std.proofs.Common.{◌<◌, List, Bool, length, set, ap, sym, refl, subst, ◌∙◌, arith}
use Rattle.std.proofs.lemmas.List.{get_or_read, length-set}
use Rattle.std.proofs.lemmas.Grind.{common_steps}
use Rattle.avs_refs.specs.Places.{Places, Gives, Frees}
use Rattle.avs_refs.specs.Touches.{places_of, IsConsistent}
use Rattle.avs_refs.proofs.Consistent.{left_yes, left_no, unlisted, given}
use Rattle.avs_refs.proofs.Changes.{same_places, gives}
use Rattle.avs_refs.proofs.Draining.{gives_freed, all_given}
use Rattle.avs_refs.proofs.refs.Refs.next_idle.Goals as goal

pub invariant_of-self : goal.invariant_of-self
invariant_of-self c =
    let so_far = c.loop-seg.invariant in
    let now = c.loop-seg.self-inside in
    let seg = c.in-Some.seg in
    let taken = c.in-Some.ensures.some in
    let inside : seg < length now.greatest.items = omega (arith, taken.inside, so_far.consistent.segs) in
    let P : List Bool → Type 0 = λ has. IsConsistent (set now.greatest.items seg 0) now.outstanding.items has in
    (subst P (sym taken.has) (given now.greatest.items now.outstanding.items now.candidates.has so_far.consistent seg inside), omega (arith, length-set now.greatest.items seg 0, ap length so_far.greatest), omega arith)

pub returns-then-is_left-clause-some : goal.returns-then-is_left-clause-some
returns-then-is_left-clause-some c = rw (← c.self.view_is) (
    let so_far = c.loop-seg.invariant in
    let start = c.self.inside in
    let now = c.loop-seg.self-inside in
    let seg = c.in-Some.seg in
    let inside : seg < length now.greatest.items = omega (arith, c.in-Some.ensures.some.inside, so_far.consistent.segs) in
    let read = get_or_read now.greatest.items seg _ inside c.index.ensures 0 in
    let left = left_yes now.greatest.items now.outstanding.items now.candidates.has so_far.consistent seg (rw read at (sym c.is_left.ensures ∙ c.if-is_left.true)) in
    let P : Places → Type 0 = λ old. Gives old seg (record { greatest = set now.greatest.items seg 0; outstanding = places_of now.outstanding.items; room = now.room }) in
    subst P (same_places (record { greatest = now.greatest.items; outstanding = places_of now.outstanding.items; room = now.room }) _ so_far.greatest (ap places_of so_far.outstanding) so_far.room)
    (gives (record { greatest = now.greatest.items; outstanding = places_of now.outstanding.items; room = now.room }) _ seg inside left.0 left.1 refl refl refl))

pub loop-seg-preserved : goal.loop-seg-preserved
loop-seg-preserved c =
    let so_far = c.loop-seg.invariant in
    let now = c.loop-seg.self-inside in
    let seg = c.in-Some.seg in
    let taken = c.in-Some.ensures.some in
    let inside : seg < length now.greatest.items = omega (arith, taken.inside, so_far.consistent.segs) in
    let read = get_or_read now.greatest.items seg _ inside c.index.ensures 0 in
    let busy = left_no now.greatest.items now.outstanding.items now.candidates.has so_far.consistent seg (rw read at (sym c.is_left.ensures ∙ c.if-is_left.false)) in
    let P : List Bool → Type 0 = λ has. IsConsistent now.greatest.items now.outstanding.items has in
    record {
      consistent = subst P (sym taken.has) (unlisted now.greatest.items now.outstanding.items now.candidates.has so_far.consistent seg busy);
      greatest = so_far.greatest;
      outstanding = so_far.outstanding;
      capacity = so_far.capacity;
      room = so_far.room;
    }

pub returns-then-is_left-clause-draining : goal.returns-then-is_left-clause-draining
returns-then-is_left-clause-draining c = λ start upto drained so_far. gives_freed start _ upto drained so_far c.in-Some.seg _ (returns-then-is_left-clause-some c)

pub returns-clause-unchanged : goal.returns-clause-unchanged
returns-clause-unchanged c = grind (arith, common_steps)

pub returns-clause-none : goal.returns-clause-none
returns-clause-none c = grind (arith, common_steps)

pub returns-clause-draining : goal.returns-clause-draining
returns-clause-draining c = λ start upto drained so_far.
    subst (Frees start upto) (sym (returns-clause-unchanged c)) (all_given start c.args.self.now upto drained so_far (returns-clause-none c))
