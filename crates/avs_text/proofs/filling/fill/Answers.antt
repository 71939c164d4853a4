use Rattle.std.proofs.Common.{◌≡◌, ℕ, List, get_or, replicate, subst, length, refl, sym, ◌∙◌, ap, arith}
use Rattle.std.specs.Prelude.{IsTrue}
use Rattle.std.proofs.lemmas.Bool.{eqb-true, eqb-false}
use Rattle.std.proofs.lemmas.List.{take_at, length-append, length-drop}
use Rattle.avs_model.specs.Filling.{is_pattern_length}
use Rattle.avs_model.proofs.FillLemmas.{blocks_of-filled, IsFilled, IsFilled-replicate, IsFilled-nothing, IsFilled-repeats, pattern_bounds}
use Rattle.avs_text.proofs.filling.fill.Goals as goal

pub returns-in-len1 : goal.returns-in-len1
returns-in-len1 c =
    let one : length c.args.pattern.now ≡ 1 = omega (arith, ap length c.as_slice-bytes.ensures.bytes) in
    let all : c.fill.new.self ≡ replicate (length c.args.out.now) (get_or c.args.pattern.now 0 0) = c.fill.ensures.after (λ y clone. clone) ∙ ap (λ (l : List ℕ). replicate (length c.args.out.now) (get_or l 0 0)) c.as_slice-bytes.ensures.bytes in
    let Filled = λ (l : List ℕ). IsFilled c.args.pattern.now l in
    blocks_of-filled c.args.pattern.now c.fill.new.self (length c.args.out.now) c.as_slice-bytes.ensures.length c.fill.ensures.len (subst Filled (sym all) (IsFilled-replicate c.args.pattern.now (length c.args.out.now) one))

pub returns-then-is_empty : goal.returns-then-is_empty
returns-then-is_empty c = blocks_of-filled c.args.pattern.now c.args.out.now (length c.args.out.now) c.as_slice-bytes.ensures.length refl (IsFilled-nothing c.args.pattern.now c.args.out.now (eqb-true _ 0 (sym c.is_empty.ensures ∙ c.if-is_empty.true)))

pub returns : goal.returns
returns c =
    let count = ap length c.as_slice-bytes.ensures.bytes in
    let is_length = subst (λ (n : ℕ). IsTrue (is_pattern_length n)) (sym count) c.as_slice-bytes.ensures.length in
    let written = c.copy_from_slice.ensures.after in
    let bounds = pattern_bounds (length c.as_slice-bytes.result.now) is_length in
    let some = eqb-false _ 0 (sym c.is_empty.ensures ∙ c.if-is_empty.false) in
    let size : length c.copy_from_slice.new.self ≡ length c.as_slice-bytes.result.now = ap length written in
    let same_length : length c.repeat_front.new.out ≡ length c.args.out.now = c.repeat_front.ensures.same_length ∙ simp (length-append, length-drop) (omega arith) in
    let front = take_at c.copy_from_slice.new.self _ (length c.as_slice-bytes.result.now) (ap length written) ∙ written ∙ c.as_slice-bytes.ensures.bytes in
    blocks_of-filled c.args.pattern.now c.repeat_front.new.out (length c.args.out.now) c.as_slice-bytes.ensures.length same_length
    (IsFilled-repeats (length c.as_slice-bytes.result.now) c.args.pattern.now c.repeat_front.new.out is_length (sym count) (c.repeat_front.ensures.front ∙ front) (record { same = c.repeat_front.ensures.repeats }))
