use Rattle.std.proofs.Common.{◌∷◌, List, ℕ, ap, sym, subst, ◌∙◌, ◌<◌, ltb}
use Rattle.std.specs.List.{All}
use Rattle.std.proofs.lemmas.Bool.{cond-false, le-ltb}
use Rattle.avs_refs.specs.declared.touch.Touch.{Touch}
use Rattle.avs_refs.specs.Places.{places_above}
use Rattle.avs_refs.specs.Touches.{places_of, IsConsistent}
use Rattle.avs_refs.proofs.Rising.{all_above}
use Rattle.avs_refs.proofs.Consistent.{retired}
use Rattle.avs_refs.proofs.Changes.{retires}
use Rattle.avs_refs.proofs.Draining.{drains}
use Rattle.avs_refs.proofs.refs.Refs.retire.Goals as goal

pub loop-touch-preserved : goal.loop-touch-preserved
loop-touch-preserved c =
    let so_far = c.loop-touch.invariant in
    let now = c.loop-touch.self-inside in
    let touch = c.in-Some.touch in
    let rest = c.pop_retired.new.touches.items in
    let taken = c.in-Some.ensures in
    let P : List Touch → Type 0 = λ t. IsConsistent now.greatest.items t now.candidates.has in
    let freed = rw c.deref.ensures.value at c.list_freed.ensures in
    record {
      consistent = retired now.greatest.items touch rest now.candidates.has c.list_freed.new.candidates.has (subst P taken.some so_far.consistent) freed.segs freed.listed;
      greatest = so_far.greatest;
      outstanding =
          sym (cond-false (ltb c.args.upto touch.place) (touch.place ∷ places_above c.args.upto (places_of rest)) (places_above c.args.upto (places_of rest)) (le-ltb c.args.upto touch.place taken.low))
          ∙ ap (λ (t : List Touch). places_above c.args.upto (places_of t)) (sym taken.some)
          ∙ so_far.outstanding;
      capacity = taken.capacity ∙ so_far.capacity;
      room = so_far.room;
    }

pub returns-clause-retires : goal.returns-clause-retires
returns-clause-retires c = rw (← c.self.view_is) (
    let start = c.self.inside in
    let so_far = c.loop-touch.invariant in
    let behind = c.in_default.ensures in
    let kept = ap (λ q. places_of q.items) behind.unchanged in
    let P : List ℕ → Type 0 = λ l. All (λ p. c.args.upto < p) l in
    retires (record { greatest = start.greatest.items; outstanding = places_of start.outstanding.items; room = start.room }) _ c.args.upto c.self.invariant.0.rising
    (ap (places_above c.args.upto) kept ∙ so_far.outstanding) (subst P (sym kept) (all_above _ c.args.upto so_far.consistent.rising behind.none)) so_far.greatest so_far.room)

pub returns-clause-drains : goal.returns-clause-drains
returns-clause-drains c = drains _ _ c.args.upto (returns-clause-retires c)
