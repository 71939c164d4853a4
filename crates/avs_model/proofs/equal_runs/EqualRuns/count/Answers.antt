use Rattle.std.proofs.Common.{◌≡◌, ◌<◌, length, arith}
use Rattle.avs_model.proofs.HeldRuns.{held_within, last_count, earlier_count}
use Rattle.avs_model.proofs.equal_runs.EqualRuns.count.Goals as goal

pub returns-then-index-len : goal.returns-then-index-len
returns-then-index-len c =
    let held = c.self.inside in
    let end : c.args.index ≡ length held.runs.items = omega (arith, c.if-index-len.true, c.len.ensures, held.runs.ok.0) in
    last_count held.patterns.items held.runs.items held.count held.start c.args.self.now c.args.index c.self.invariant c.self.view_is c.requires end

pub index-requires : goal.index-requires
index-requires c =
    let held = c.self.inside in
    omega (arith, c.if-index-len.false, c.len.ensures, held.runs.ok.0, held_within held.patterns.items held.runs.items held.count held.start c.args.self.now c.args.index c.self.invariant c.self.view_is c.requires)

pub returns : goal.returns
returns c =
    let held = c.self.inside in
    let before : c.args.index < length held.runs.items =
    omega (arith, c.if-index-len.false, c.len.ensures, held.runs.ok.0, held_within held.patterns.items held.runs.items held.count held.start c.args.self.now c.args.index c.self.invariant c.self.view_is c.requires) in
    earlier_count held.patterns.items held.runs.items held.count held.start c.args.self.now c.args.index c.self.invariant c.self.view_is c.requires c.index.result.now before c.index.ensures
