use Rattle.std.proofs.Common.{◌≡◌, ℕ, ◌+◌, ◌≤◌, Bool, not, nat_lt, List, length, refl, ◌∙◌, ap, arith}
use Rattle.std.proofs.lemmas.List.Filters.{length-filter_both}
use Rattle.avs_refs.specs.Places.{Places, places_above, Retires}
use Rattle.avs_refs_tests.specs.Ready.{IsReady}
use Rattle.avs_refs_tests.proofs.tests.retire.Goals as goal

-- what is left of places is no more than there was
fewer : (upto : ℕ) (places : List ℕ) → length (places_above upto places) ≤ length places
fewer upto places =
    let both = length-filter_both (λ (p : ℕ). nat_lt upto p) (λ p. not (nat_lt upto p)) (λ p. refl) places in
    omega (arith, both)

ready : (old new : Places) (upto next added : ℕ) → Retires old upto new → IsReady old next added → IsReady new next added
ready old new upto next added r is = record {
  above = r.above next is.above;
  segs = ap (λ (l : List ℕ). length l) r.greatest ∙ is.segs;
  few = let some = ap (λ (l : List ℕ). length l) r.outstanding in let less = fewer upto old.outstanding in omega (arith, some, less, is.few);
  room = r.room ∙ is.room;
}

pub returns : goal.returns
returns c = ready _ _ _ _ _ c.retire.ensures.retires c.requires
