use Rattle.std.proofs.Common.{rules, ◌≡◌, true, false, sym, ◌∙◌, ap}
use Rattle.std.specs.Option.{option_map}
use Rattle.std.proofs.lemmas.Bool.{false≢true}
use Rattle.avs_chunks.specs.Due.{is_independent}
use Rattle.avs_chunks.specs.ChunkSet.{ChunkSet}
use Rattle.avs_chunks.proofs.Dues.{settled_yes, settled_no, independent_kind}
use Rattle.avs_chunks.proofs.chunks.Chunks.is_settled.Goals as goal

pub returns-then-is_independent-clause-settled : goal.returns-then-is_independent-clause-settled
returns-then-is_independent-clause-settled g c = λ said.
    let i = c.self.inside in
    let s : ChunkSet = record { kind = i.kind; shadow = option_map g.D.Disk.seen i.shadow; areas = i.flip; memory = i.memory.items; next = i.next.items; blocks = i.blocks } in
    let none = c.none_alone.ensures.yes said in
    rw (← c.self.view_is) (settled_yes s i.counts (sym c.is_independent.ensures ∙ c.if-is_independent.true) c.self.invariant.1 none.0 none.1)

pub returns-then-is_independent-clause-unsettled : goal.returns-then-is_independent-clause-unsettled
returns-then-is_independent-clause-unsettled g c = λ said settled.
    let i = c.self.inside in
    let s : ChunkSet = record { kind = i.kind; shadow = option_map g.D.Disk.seen i.shadow; areas = i.flip; memory = i.memory.items; next = i.next.items; blocks = i.blocks } in
    let none = settled_no s i.counts c.self.invariant.1 (rw (← c.self.view_is) at settled) in
    c.none_alone.ensures.no said none.0 none.1
