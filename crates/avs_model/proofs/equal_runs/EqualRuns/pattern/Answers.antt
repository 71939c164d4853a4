use Rattle.std.proofs.Common.{◌≡◌, ◌+◌, ◌-◌, ◌<◌, ℕ, List, length, take, drop, ◌∙◌, ap, arith}
use Rattle.std.proofs.lemmas.List.{take_rest}
use Rattle.avs_model.proofs.HeldRuns.{held_within, last_pattern, earlier_pattern, earlier_within}
use Rattle.avs_model.proofs.equal_runs.EqualRuns.pattern.Goals as goal

pub returns-then-index-len : goal.returns-then-index-len
returns-then-index-len c =
    let held = c.self.inside in
    let end : c.args.index ≡ length held.runs.items = omega (arith, c.if-index-len.true, c.len.ensures, held.runs.ok.0) in
    take_rest c.deref.result.now held.start
    ∙ ap (λ (l : List ℕ). drop held.start l) c.deref.ensures.value
    ∙ last_pattern held.patterns.items held.runs.items held.count held.start c.args.self.now c.args.index c.self.invariant c.self.view_is c.requires end

pub index-run-requires : goal.index-run-requires
index-run-requires c =
    let held = c.self.inside in
    omega (arith, c.if-index-len.false, c.len.ensures, held.runs.ok.0, held_within held.patterns.items held.runs.items held.count held.start c.args.self.now c.args.index c.self.invariant c.self.view_is c.requires)

pub overflow_add-result : goal.overflow_add-result
overflow_add-result c =
    let held = c.self.inside in
    let before : c.args.index < length held.runs.items =
    omega (arith, c.if-index-len.false, c.len.ensures, held.runs.ok.0, held_within held.patterns.items held.runs.items held.count held.start c.args.self.now c.args.index c.self.invariant c.self.view_is c.requires) in
    let within = earlier_within held.patterns.items held.runs.items held.count held.start c.args.self.now c.args.index c.self.invariant c.self.view_is c.requires c.index-run.result.now before c.index-run.ensures in
    omega (arith, within, c.deref-2.ensures.len, ap length c.deref-2.ensures.value)

pub slice_bounds-result-end-2 : goal.slice_bounds-result-end-2
slice_bounds-result-end-2 c =
    let held = c.self.inside in
    let before : c.args.index < length held.runs.items =
    omega (arith, c.if-index-len.false, c.len.ensures, held.runs.ok.0, held_within held.patterns.items held.runs.items held.count held.start c.args.self.now c.args.index c.self.invariant c.self.view_is c.requires) in
    let within = earlier_within held.patterns.items held.runs.items held.count held.start c.args.self.now c.args.index c.self.invariant c.self.view_is c.requires c.index-run.result.now before c.index-run.ensures in
    omega (arith, within, ap length c.deref-2.ensures.value)

pub returns : goal.returns
returns c =
    let held = c.self.inside in
    let before : c.args.index < length held.runs.items =
    omega (arith, c.if-index-len.false, c.len.ensures, held.runs.ok.0, held_within held.patterns.items held.runs.items held.count held.start c.args.self.now c.args.index c.self.invariant c.self.view_is c.requires) in
    let run = c.index-run.result.now in
    let width : run.start + run.len - run.start ≡ run.len = omega arith in
    ap (λ (n : ℕ). take n (drop run.start c.deref-2.result.now)) width
    ∙ ap (λ (l : List ℕ). take run.len (drop run.start l)) c.deref-2.ensures.value
    ∙ earlier_pattern held.patterns.items held.runs.items held.count held.start c.args.self.now c.args.index c.self.invariant c.self.view_is c.requires run before c.index-run.ensures
