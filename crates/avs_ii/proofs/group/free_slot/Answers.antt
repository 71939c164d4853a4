use Rattle.std.proofs.Common.{◌≡◌, ◌<◌, ℕ, true, not, List, sym, subst, ◌∙◌, rules, tests}
use Rattle.std.specs.List.{list_all}
use Rattle.std.proofs.lemmas.Iterator.{YieldsList-from_slice}
use Rattle.std.proofs.lemmas.Iterator.Search.{position_from_yields_List}
use Rattle.avs_code.specs.declared.slot_table.Slot.{Slot}
use Rattle.avs_ii.specs.Held.{has_flag, is_live, live}
use Rattle.avs_ii.proofs.OpenSets.{none_exit, all_live, live_before}
use Rattle.avs_ii.proofs.group.free_slot.Goals as goal

pub returns-in_err-place-clause-none : goal.returns-in_err-place-clause-none
returns-in_err-place-clause-none c =
    let slots = c.args.block.now.slots in
    let is = position_from_yields_List (λ (s : Slot). not (has_flag live s)) _ _ c.position.result c.position.ensures.ran (YieldsList-from_slice c.as_slice.result.now c.iter.ensures.rest) (λ x b q k. search (rules, tests)) in
    none_exit c.from_residual.result (subst (λ (l : List Slot). list_all (λ s. has_flag live s) l ≡ true) c.as_slice.ensures.value (all_live c.as_slice.result.now (sym is ∙ c.in_err-place.was)))

pub returns-clause-least : goal.returns-clause-least
returns-clause-least c =
    let is = position_from_yields_List (λ (s : Slot). not (has_flag live s)) _ _ c.position.result c.position.ensures.ran (YieldsList-from_slice c.as_slice.result.now c.iter.ensures.rest) (λ x b q k. search (rules, tests)) in
    subst (λ (l : List Slot). (other : ℕ) → other < c.in_ok-place.place → is_live l other ≡ true) c.as_slice.ensures.value (live_before c.as_slice.result.now c.in_ok-place.place (sym is ∙ c.in_ok-place.was))
