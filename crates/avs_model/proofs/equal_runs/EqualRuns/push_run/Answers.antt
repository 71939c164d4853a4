use Rattle.std.proofs.Common.{◌<◌, ◌++◌, ℕ, List, drop, take, sym, ◌∙◌, ap, subst, arith}
use Rattle.std.proofs.lemmas.Bool.{both_ways}
use Rattle.std.proofs.lemmas.List.{take_rest}
use Rattle.std.proofs.lemmas.Slice.Eq.{bytes_eq-Decides}
use Rattle.avs_model.specs.HeldRuns.{blocks_held, HoldsRuns}
use Rattle.avs_model.proofs.HeldRuns.{no_runs, first_held, first_blocks, grown_blocks, begins, begun_blocks}
use Rattle.avs_model.proofs.equal_runs.EqualRuns.push_run.Goals as goal

pub invariant_of-self-then-self-eq0 : goal.invariant_of-self-then-self-eq0
invariant_of-self-then-self-eq0 c =
    let held = c.self.inside in
    first_held _ held.runs.items c.args.count c.args.block.now c.requires.size c.requires.some (c.self.invariant.are.none c.if-self-eq0.true)
    (c.in_ok-extend_from_slice.ensures.items ∙ ap (λ (l : List ℕ). l ++ c.shortest_pattern-pattern.result.now) c.clear.ensures.items ∙ c.shortest_pattern-pattern.ensures)

pub returns-then-self-eq0 : goal.returns-then-self-eq0
returns-then-self-eq0 c =
    let held = c.self.inside in
    first_blocks _ held.runs.items c.args.count c.args.block.now c.args.self.now c.requires.size (c.self.invariant.are.none c.if-self-eq0.true)
    (c.in_ok-extend_from_slice.ensures.items ∙ ap (λ (l : List ℕ). l ++ c.shortest_pattern-pattern.result.now) c.clear.ensures.items ∙ c.shortest_pattern-pattern.ensures)
    (sym c.self.view_is ∙ no_runs (take held.start held.patterns.items) held.runs.items held.count (drop held.start held.patterns.items) c.if-self-eq0.true c.self.invariant.are)

pub returns-then-eq : goal.returns-then-eq
returns-then-eq c =
    let held = c.self.inside in
    grown_blocks held.patterns.items held.runs.items held.count held.start c.self.invariant c.args.count c.args.block.now c.args.self.now c.requires.size
    (ap (λ (l : List ℕ). drop held.start l) (sym c.deref.ensures.value) ∙ sym (take_rest c.deref.result.now held.start) ∙ (bytes_eq-Decides _ _).0 (sym c.eq.ensures ∙ c.if-eq.true) ∙ c.shortest_pattern-pattern.ensures) c.self.view_is

pub invariant_of-self-2 : goal.invariant_of-self-2
invariant_of-self-2 c =
    let held = c.self.inside in
    let some : 0 < held.count = omega (arith, c.if-self-eq0.false) in
    let patterns = c.in_ok-self-inside.ensures.patterns ∙ ap (λ (l : List ℕ). held.patterns.items ++ l) c.shortest_pattern-pattern.ensures in
    subst (λ (start : ℕ). HoldsRuns c.close_run.new.patterns.items c.close_run.new.runs.items c.args.count start) (sym c.in_ok-self-inside.ensures.next)
    (begins held.patterns.items held.runs.items held.count held.start c.self.invariant c.args.count c.args.block.now c.requires.size some c.close_run.new.patterns.items c.close_run.new.runs.items patterns c.in_ok-self-inside.ensures.runs c.requires.some
    (λ same. both_ways _ c.if-eq.false (c.eq.ensures ∙ (bytes_eq-Decides _ _).1 (take_rest c.deref.result.now held.start ∙ ap (λ (l : List ℕ). drop held.start l) c.deref.ensures.value ∙ same ∙ sym c.shortest_pattern-pattern.ensures))))

pub returns : goal.returns
returns c =
    let held = c.self.inside in
    let some : 0 < held.count = omega (arith, c.if-self-eq0.false) in
    let patterns = c.in_ok-self-inside.ensures.patterns ∙ ap (λ (l : List ℕ). held.patterns.items ++ l) c.shortest_pattern-pattern.ensures in
    ap (λ (start : ℕ). blocks_held c.close_run.new.patterns.items c.close_run.new.runs.items c.args.count start) c.in_ok-self-inside.ensures.next
    ∙ begun_blocks held.patterns.items held.runs.items held.count held.start c.self.invariant c.args.count c.args.block.now c.requires.size some c.close_run.new.patterns.items c.close_run.new.runs.items patterns c.in_ok-self-inside.ensures.runs c.args.self.now c.self.view_is
