use Rattle.std.proofs.Common.{◌≡◌, ℕ, List, [], ◌∷◌, ◌++◌, length, ap, sym, refl, subst, ◌∙◌, arith}
use Rattle.std.specs.List.{slice_index}
use Rattle.std.proofs.lemmas.List.{with_items_is, map_push}
use Rattle.avs_refs.specs.declared.touch.Touch.{Touch}
use Rattle.avs_refs.specs.Touches.{places_of, IsConsistent}
use Rattle.avs_refs.proofs.Consistent.{consistent}
use Rattle.avs_refs.proofs.Changes.{adds}
use Rattle.avs_refs.proofs.refs.Refs.add.Goals as goal

pub invariant_of-self : goal.invariant_of-self
invariant_of-self c =
    let was = c.self.inside in
    let now = c.set_places.new.greatest in
    let touch = c.new-touch.result in
    let made = c.new-touch.ensures in
    let rises = rw (← c.self.view_is, ← made.place) at c.requires.rises in
    let inside = rw (← c.self.view_is) at c.requires.inside in
    let sets = rw c.as_mut_slice-greatest.ensures.value at c.set_places.ensures in
    let len : length now ≡ length was.greatest.items = c.set_places.auto.greatest ∙ ap length c.as_mut_slice-greatest.ensures.value in
    let whole = with_items_is was.greatest now (len ∙ sym was.greatest.ok.0) in
    let kept = consistent was.greatest.items now was.outstanding.items was.candidates.has touch.place touch.first touch.count c.self.invariant.0 rises.outstanding rises.greatest
    (omega (arith, inside, made.first, made.count)) (omega (arith, c.requires.some, made.first, made.count)) len sets in
    let P : List ℕ → Type 0 = λ l. IsConsistent l c.push_back_reserved.new.self.items was.candidates.has in
    let Q : List Touch → Type 0 = λ t. IsConsistent now t was.candidates.has in
    (subst P (sym whole) (subst Q (sym {A = List Touch} c.push_back_reserved.ensures.items) kept), omega (arith, ap length whole), omega arith)

pub returns : goal.returns
returns c = rw (← c.self.view_is) (
    let was = c.self.inside in
    let made = c.new-touch.ensures in
    let now = c.set_places.new.greatest in
    let rises = rw (← c.self.view_is) at c.requires.rises in
    let sets = rw (c.as_mut_slice-greatest.ensures.value, made.place, made.first, made.count) at c.set_places.ensures in
    let len : length now ≡ length was.greatest.items = c.set_places.auto.greatest ∙ ap length c.as_mut_slice-greatest.ensures.value in
    let whole = with_items_is was.greatest now (len ∙ sym was.greatest.ok.0) in
    let places = ap places_of c.push_back_reserved.ensures.items ∙ map_push (λ (t : Touch). t.place) was.outstanding.items _ ∙ ap (λ (n : ℕ). places_of was.outstanding.items ++ n ∷ []) made.place in
    adds (record { greatest = was.greatest.items; outstanding = places_of was.outstanding.items; room = was.room }) _ c.args.place c.args.span.at c.args.span.len rises places (ap length whole ∙ len) refl
    (λ seg within. ap (λ (l : List ℕ). slice_index l seg) whole ∙ sets seg within))
