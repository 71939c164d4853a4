use Rattle.std.proofs.Common.{sym, ◌∙◌, refl, arith}
use Rattle.std.proofs.lemmas.Bool.{not-false, not_from_true, both_ways}
use Rattle.std.proofs.lemmas.List.{take_rest}
use Rattle.std.proofs.lemmas.Slice.Eq.{bytes_eq-Decides}
use Rattle.avs_model.proofs.FillLemmas.{Repeats-shifted, Repeats-half, is_half, shortest-none, shortest_is}
use Rattle.avs_model.proofs.equal_runs.shortest_pattern.Goals as goal
use Rattle.avs_model.proofs.equal_runs.shortest_pattern.Goals.{then-loop-len-test+else-eq, else-loop-len-test}

pub returns-then-ne : goal.returns-then-ne
returns-then-ne c =
    sym (shortest-none c.args.block.now c.requires (λ shifted.
    let same = (bytes_eq-Decides _ _).1 (take_rest c.args.block.now 16 ∙ shifted) in
    both_ways c.ne.result (c.ne.ensures ∙ not_from_true _ same) c.if-ne.true))

pub loop-len-init : goal.loop-len-init
loop-len-init c = (refl, Repeats-shifted c.args.block.now c.requires (sym (take_rest c.args.block.now 16) ∙ (bytes_eq-Decides _ _).0 (not-false _ (sym c.ne.ensures ∙ c.if-ne.false))))

pub loop-len-preserved : goal.loop-len-preserved
loop-len-preserved c = (
  is_half c.loop-len.len c.loop-len.invariant.0 (omega arith),
  Repeats-half c.loop-len.len c.args.block.now c.loop-len.invariant.0 (omega arith) c.loop-len.invariant.1 ((bytes_eq-Decides _ _).0 (sym c.eq.ensures ∙ c.if-eq.true)),
)

pub returns : goal.returns
returns c = sym (shortest_is c.loop-len.len c.args.block.now c.loop-len.invariant.0 c.requires c.loop-len.invariant.1 (elim c.loop-len-test.branch [
  | then-loop-len-test+else-eq w ↦ λ more same. both_ways _ w.if-eq.false (w.eq.ensures ∙ (bytes_eq-Decides _ _).1 same)
  | else-loop-len-test w ↦ λ more same. absurd (omega arith)
]))
