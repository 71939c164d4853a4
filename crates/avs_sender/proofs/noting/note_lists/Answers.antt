use Rattle.std.proofs.Common.{◌∙◌, ◌<◌, ◌≤◌, ℕ, true, List, [], Ok, length, get_or, sym, subst, arith}
use Rattle.std.proofs.lemmas.List.{get_or_default}
use Rattle.std.proofs.lemmas.Result.{err_from_is_err_and}
use Rattle.avs_halves.specs.Marks.{AreSegments}
use Rattle.avs_halves.proofs.Markings.{segments_same}
use Rattle.avs_sender.proofs.Notings.{lists_all, lists_below, lists_go, lists_none, lists_stop}
use Rattle.avs_sender.proofs.noting.note_lists.Goals as goal

pub loop-set-init : goal.loop-set-init
loop-set-init g c = lists_none c.args.sets.now c.args.lists.now

pub note_list-requires-clause-list : goal.note_list-requires-clause-list
note_list-requires-clause-list g c =
    let low : c.loop-set.set < length c.args.lists.now = omega arith in
    let same = c.as_slice.ensures ∙ c.index-lists-set.is ∙ get_or_default c.args.lists.now c.loop-set.set c.index-lists-set.result [] low in
    let there : c.loop-set.set < length c.args.sets.now = omega (arith, low, c.requires.lists.count) in
    subst (λ (l : List ℕ). AreSegments c.loop-set.sets c.loop-set.set l) (sym same)
    (segments_same (lists_below c.args.lists.now c.loop-set.set) true c.args.sets.now c.loop-set.sets (Ok (tt {0})) c.loop-set.set (get_or c.args.lists.now c.loop-set.set []) c.loop-set.invariant (c.requires.lists.each c.loop-set.set there))

pub returns-in_err-note_list : goal.returns-in_err-note_list
returns-in_err-note_list g c =
    let p = err_from_is_err_and c.from_residual.result c.from_residual.ensures.1 in
    let low : c.loop-set.set < length c.args.lists.now = omega arith in
    let same = c.as_slice.ensures ∙ c.index-lists-set.is ∙ get_or_default c.args.lists.now c.loop-set.set c.index-lists-set.result [] low in
    let made = rw (same) at c.in_err-note_list.ensures in
    rw (p.1, p.2) (lists_stop c.args.sets.now c.args.lists.now c.loop-set.set c.loop-set.sets c.note_list.new.sets c.loop-set.invariant c.in_err-note_list.field-0.0 c.in_err-note_list.field-0.0 made)

pub loop-set-preserved : goal.loop-set-preserved
loop-set-preserved g c =
    let low : c.loop-set.set < length c.args.lists.now = omega arith in
    let same = c.as_slice.ensures ∙ c.index-lists-set.is ∙ get_or_default c.args.lists.now c.loop-set.set c.index-lists-set.result [] low in
    let made = rw (same) at c.in_ok-note_list.ensures in
    lists_go c.args.sets.now c.args.lists.now c.loop-set.set c.loop-set.sets c.note_list.new.sets c.loop-set.invariant c.in_ok-note_list.field-0 made

pub returns : goal.returns
returns g c =
    let end : length c.args.lists.now ≤ c.loop-set.set = omega arith in
    lists_all c.args.sets.now c.args.lists.now c.loop-set.set c.loop-set.sets _ end c.loop-set.invariant
