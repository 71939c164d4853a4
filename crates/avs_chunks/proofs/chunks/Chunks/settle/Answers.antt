use Rattle.std.proofs.Common.{rules, ◌≡◌, ◌*◌, ℕ, List, length, Err, ap, subst, sym, ◌∙◌, arith}
use Rattle.std.specs.Option.{option_map}
use Rattle.std.specs.Vec.{with_items}
use Rattle.std.proofs.lemmas.List.{with_items_is}
use Rattle.avs_seg.specs.Segment.{seg_len}
use Rattle.avs_chunks.specs.States.{state_in, code_of}
use Rattle.avs_chunks.specs.Due.{is_independent, NoneDue}
use Rattle.avs_chunks.specs.Counted.{AreCounted}
use Rattle.avs_chunks.specs.ChunkSet.{ChunkSet}
use Rattle.avs_chunks.specs.Steps.{PutsState}
use Rattle.avs_chunks.proofs.Copied.{copied_there}
use Rattle.avs_chunks.proofs.Dues.{none_put}
use Rattle.avs_chunks.proofs.Settled.{fails_copy, settles}
use Rattle.avs_chunks.proofs.chunks.Chunks.settle.Goals as goal

pub returns-in_err-copy_chunk : goal.returns-in_err-copy_chunk
returns-in_err-copy_chunk g c =
    let i = c.self.inside in
    let seen = g.D.Disk.seen in
    let s : ChunkSet = record { kind = i.kind; shadow = option_map seen i.shadow; areas = i.flip; memory = i.memory.items; next = i.next.items; blocks = i.blocks } in
    let may = rw (← c.self.view_is) at c.requires.may in
    let state : code_of c.state_in-state.result ≡ state_in i.memory.items c.args.chunk = c.state_in-state.ensures ∙ ap (λ (l : List ℕ). state_in l c.args.chunk) c.deref.ensures.value in
    let is : c.from_residual.result ≡ Err c.in_err-copy_chunk.field-0.0 = search rules in
    rw is (rw (← c.self.view_is) (fails_copy s (seen c.args.master.now) (seen c.copy_chunk.new.master) (option_map seen c.copy_chunk.new.shadow) (search rules) c.args.chunk (code_of c.args.target) may c.self.invariant.0.live.clean c.self.invariant.0.laid.first c.copy_chunk.result
    (copied_there (code_of c.state_in-state.result) c.seg_span-span.result.at c.seg_span-span.result.len (state_in i.memory.items c.args.chunk) (64 * c.args.chunk) (seg_len c.args.chunk i.blocks) c.copy_chunk.result _ _ _ _
    state c.seg_span-span.ensures.at c.seg_span-span.ensures.len c.seg_span-span.ensures.some c.copy_chunk.ensures.copies)
    c.in_err-copy_chunk.field-0.0 c.in_err-copy_chunk.field-0.0 c.in_err-copy_chunk.was))

pub put_state-requires-clause-counted : goal.put_state-requires-clause-counted
put_state-requires-clause-counted g c =
    let i = c.self.inside in
    subst (λ (l : List ℕ). AreCounted (state_in l) c.seg_count-chunks.result i.counts) (sym c.deref_mut-2.ensures.value)
    (subst (λ (n : ℕ). AreCounted (state_in i.memory.items) n i.counts) (sym c.seg_count-chunks.ensures) c.self.invariant.1)

pub invariant_of-self-2 : goal.invariant_of-self-2
invariant_of-self-2 g c =
    let i = c.self.inside in
    let may = rw (← c.self.view_is) at c.requires.may in
    let long : (with_items i.memory c.put_state.new.memory).items ≡ c.put_state.new.memory = with_items_is i.memory c.put_state.new.memory (search rules) in
    let puts = subst (λ (l : List ℕ). PutsState i.flip l c.args.chunk (code_of c.args.target) c.put_state.result c.put_state.new.flip c.put_state.new.memory) c.deref_mut-2.ensures.value c.put_state.ensures.puts in (
      record {
        room = search rules;
        small = search rules;
        laid = record { first = search rules; len = search rules; fits = search rules };
        live = record { long = search rules; clean = search rules };
        staged = record { long = search rules; clean = search rules };
      },
      rw long (subst (λ (n : ℕ). AreCounted (state_in c.put_state.new.memory) n c.put_state.new.counts) c.seg_count-chunks.ensures c.put_state.ensures.counted),
      c.self.invariant.2,
      subst (λ (l : List ℕ). NoneDue (state_in l) (is_independent i.kind) i.low) (sym long)
          (none_put (is_independent i.kind) i.flip i.memory.items i.low c.args.chunk (code_of c.args.target) c.put_state.result c.put_state.new.flip c.put_state.new.memory may.targets puts c.self.invariant.3),
      rw (with_items_is i.buffer c.copy_chunk.new.buffer (search rules)) (omega (arith, c.copy_chunk.ensures.len, ap (λ (l : List ℕ). length l) c.deref_mut.ensures.value, c.self.invariant.4)),
    )

pub returns : goal.returns
returns g c =
    let i = c.self.inside in
    let seen = g.D.Disk.seen in
    let s : ChunkSet = record { kind = i.kind; shadow = option_map seen i.shadow; areas = i.flip; memory = i.memory.items; next = i.next.items; blocks = i.blocks } in
    let may = rw (← c.self.view_is) at c.requires.may in
    let state : code_of c.state_in-state.result ≡ state_in i.memory.items c.args.chunk = c.state_in-state.ensures ∙ ap (λ (l : List ℕ). state_in l c.args.chunk) c.deref.ensures.value in
    let long : (with_items i.memory c.put_state.new.memory).items ≡ c.put_state.new.memory = with_items_is i.memory c.put_state.new.memory (search rules) in
    let puts = subst (λ (l : List ℕ). PutsState i.flip l c.args.chunk (code_of c.args.target) c.put_state.result c.put_state.new.flip c.put_state.new.memory) c.deref_mut-2.ensures.value c.put_state.ensures.puts in
    rw (← c.self.view_is) (rw long (settles s (seen c.args.master.now) (seen c.copy_chunk.new.master) (option_map seen c.copy_chunk.new.shadow) (search rules) c.args.chunk (code_of c.args.target) may c.self.invariant.0.live.clean c.self.invariant.0.laid.first c.copy_chunk.result
    (copied_there (code_of c.state_in-state.result) c.seg_span-span.result.at c.seg_span-span.result.len (state_in i.memory.items c.args.chunk) (64 * c.args.chunk) (seg_len c.args.chunk i.blocks) c.copy_chunk.result _ _ _ _
    state c.seg_span-span.ensures.at c.seg_span-span.ensures.len c.seg_span-span.ensures.some c.copy_chunk.ensures.copies)
    c.put_state.new.flip c.put_state.new.memory c.in_ok-copy_chunk.field-0 c.in_ok-copy_chunk.was c.put_state.result puts))
