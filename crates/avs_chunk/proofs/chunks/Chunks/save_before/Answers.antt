use Rattle.std.proofs.Common.{rules, ◌≡◌, ◌*◌, ℕ, List, Err, sym, ap, subst, ◌∙◌}
use Rattle.std.specs.Option.{option_map}
use Rattle.std.specs.Vec.{with_items}
use Rattle.std.proofs.lemmas.List.{with_items_is}
use Rattle.avs_seg.specs.Segment.{seg_len}
use Rattle.avs_chunk.specs.States.{state_in}
use Rattle.avs_chunk.specs.Steps.{PutsState}
use Rattle.avs_chunk.proofs.SameDisks.{Copy-there}
use Rattle.avs_chunk.proofs.Saving.{Saves-copy, Saves-put}
use Rattle.avs_chunk.proofs.Chains.{Saves-split}
use Rattle.avs_chunk.proofs.chunks.Chunks.save_before.Goals as goal

pub returns-then-state-eq-SPLIT : goal.returns-then-state-eq-SPLIT
returns-then-state-eq-SPLIT g c =
    let lt = rw (← c.self.view_is) at c.requires.chunk in
    let is : state_in c.self.inside.memory.items c.args.chunk ≡ 2 = ap (λ (l : List ℕ). state_in l c.args.chunk) (sym c.deref.ensures.value) ∙ sym c.state_in-state.ensures.is ∙ c.if-state-eq-SPLIT.true in
    rw (← c.self.view_is) (Saves-split tt _ (g.D.Disk.seen c.args.master.now) c.args.chunk lt is)

pub returns-in_err-copy_chunk : goal.returns-in_err-copy_chunk
returns-in_err-copy_chunk g c =
    let lt = rw (← c.self.view_is) at c.requires.chunk in
    let state : c.state_in-state.result ≡ state_in c.self.inside.memory.items c.args.chunk = c.state_in-state.ensures.is ∙ ap (λ (l : List ℕ). state_in l c.args.chunk) c.deref.ensures.value in
    let is : c.from_residual.result ≡ Err c.in_err-copy_chunk.field-0.0 = search rules in
    rw is (rw (← c.self.view_is) (Saves-copy _ (g.D.Disk.seen c.args.master.now) (g.D.Disk.seen c.copy_chunk.new.master) (option_map g.D.Disk.seen c.copy_chunk.new.shadow) c.args.chunk
    lt c.self.invariant.first c.self.invariant.clean (search rules) (λ two. c.if-state-eq-SPLIT.false (state ∙ two)) c.copy_chunk.result
    (Copy-there c.state_in-state.result c.seg_span-span.result.at c.seg_span-span.result.len (state_in c.self.inside.memory.items c.args.chunk) (64 * c.args.chunk) (seg_len c.args.chunk c.self.inside.blocks) c.copy_chunk.result _ _ _ _
    state c.seg_span-span.ensures.at c.seg_span-span.ensures.len c.seg_span-span.ensures.some c.copy_chunk.ensures.copies)
    c.in_err-copy_chunk.field-0.0 c.in_err-copy_chunk.field-0.0 c.in_err-copy_chunk.was))

pub returns : goal.returns
returns g c =
    let lt = rw (← c.self.view_is) at c.requires.chunk in
    let state : c.state_in-state.result ≡ state_in c.self.inside.memory.items c.args.chunk = c.state_in-state.ensures.is ∙ ap (λ (l : List ℕ). state_in l c.args.chunk) c.deref.ensures.value in
    let long : (with_items c.self.inside.memory c.put_state.new.memory).items ≡ c.put_state.new.memory = with_items_is c.self.inside.memory c.put_state.new.memory (search rules) in
    let puts = subst (λ (l : List ℕ). PutsState c.self.inside.flip l c.args.chunk 2 c.put_state.result c.put_state.new.flip c.put_state.new.memory) c.deref_mut-2.ensures.value c.put_state.ensures in
    rw (← c.self.view_is) (rw long (Saves-put _ (g.D.Disk.seen c.args.master.now) (g.D.Disk.seen c.copy_chunk.new.master) (option_map g.D.Disk.seen c.copy_chunk.new.shadow) c.args.chunk
    lt c.self.invariant.first c.self.invariant.clean (search rules) (λ two. c.if-state-eq-SPLIT.false (state ∙ two)) c.copy_chunk.result
    (Copy-there c.state_in-state.result c.seg_span-span.result.at c.seg_span-span.result.len (state_in c.self.inside.memory.items c.args.chunk) (64 * c.args.chunk) (seg_len c.args.chunk c.self.inside.blocks) c.copy_chunk.result _ _ _ _
    state c.seg_span-span.ensures.at c.seg_span-span.ensures.len c.seg_span-span.ensures.some c.copy_chunk.ensures.copies)
    c.in_ok-copy_chunk.field-0 c.in_ok-copy_chunk.was c.put_state.new.flip c.put_state.new.memory c.put_state.result puts))
