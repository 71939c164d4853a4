use Rattle.std.proofs.Common.{◌≡◌, ◌<◌, ℕ, ◌+◌, Bool, false, not, IsTrue, None, length, refl, subst, sym, ap, ◌∙◌, arith}
use Rattle.avs_over.specs.Slots.{HasBadSlot, AreApart, owner_at, slot_at}
use Rattle.avs_over.proofs.Giving.{bad_slot, apart_more, given_more}
use Rattle.std.proofs.Math.ListN.{length-set}
use Rattle.avs_over.proofs.owners.give_all.Goals as goal

not_true : {b : Bool} → b ≡ false → IsTrue (not b)
not_true same = subst (λ (b : Bool). IsTrue (not b)) (sym same) refl

pub returns-then-not-is_free-clause-bad : goal.returns-then-not-is_free-clause-bad
returns-then-not-is_free-clause-bad c =
    let taken = c.args.taken.now in
    let now = c.loop-place.owners in
    let apart : AreApart taken c.loop-place.place (length now) = subst (λ (n : ℕ). AreApart taken c.loop-place.place n) (sym c.loop-place.invariant.len) c.loop-place.invariant.apart in
    let bad : HasBadSlot taken (length now) = bad_slot taken c.loop-place.place now c.loop-place.invariant.given apart (omega arith) (c.is_free.ensures.other (not_true c.if-not-is_free.true)) in
    (refl, subst (λ (n : ℕ). HasBadSlot taken n) c.loop-place.invariant.len bad)

pub loop-place-preserved : goal.loop-place-preserved
loop-place-preserved c =
    let taken = c.args.taken.now in
    let place = c.loop-place.place in
    let now = c.loop-place.owners in
    let apart : AreApart taken place (length now) = subst (λ (n : ℕ). AreApart taken place n) (sym c.loop-place.invariant.len) c.loop-place.invariant.apart in
    let free = c.is_free.ensures.free c.if-not-is_free.false in
    record {
      len = length-set now _ _ ∙ c.loop-place.invariant.len;
      given = given_more taken place now c.loop-place.invariant.given apart free.0 free.1;
      apart = subst (λ (n : ℕ). AreApart taken (place + 1) n) c.loop-place.invariant.len (apart_more taken place now c.loop-place.invariant.given apart free.0 free.1);
    }
