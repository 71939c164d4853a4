use Rattle.std.proofs.Common.{rules, ◌≡◌, ◌+◌, ◌*◌, ℕ, List, sym, subst, ◌∙◌}
use Rattle.std.specs.Option.{option_map}
use Rattle.std.specs.Vec.{with_items}
use Rattle.std.proofs.lemmas.List.{with_items_is}
use Rattle.avs_chunks.specs.States.{state_in}
use Rattle.avs_chunks.specs.Counted.{AreCounted}
use Rattle.avs_chunks.specs.ChunkSet.{ChunkSet, chunks_of, state_of}
use Rattle.avs_chunks.specs.Staging.{AreSetTo, StagesNext, split_to}
use Rattle.avs_chunks.proofs.Staged.{stages_one}
use Rattle.avs_chunks.proofs.chunks.Chunks.stage_split.Goals as goal

pub fill_split-self-inside-requires-clause-counted : goal.fill_split-self-inside-requires-clause-counted
fill_split-self-inside-requires-clause-counted g c =
    let i = c.self.inside in
    subst (λ (l : List ℕ). AreCounted (state_in l) c.seg_count-chunks.result i.next_counts) (sym c.deref_mut.ensures.value)
    (subst (λ (n : ℕ). AreCounted (state_in i.next.items) n i.next_counts) (sym c.seg_count-chunks.ensures) c.self.invariant.2)

pub returns : goal.returns
returns g c =
    let i = c.self.inside in
    let s : ChunkSet = record { kind = i.kind; shadow = option_map g.D.Disk.seen i.shadow; areas = i.flip; memory = i.memory.items; next = i.next.items; blocks = i.blocks } in
    let items : (with_items i.next c.fill_split-self-inside.new.next).items ≡ c.fill_split-self-inside.new.next = with_items_is i.next c.fill_split-self-inside.new.next (search rules) in
    let value : c.deref-2.result.now ≡ c.fill_split-self-inside.new.next = c.deref-2.ensures.value ∙ items in
    let filled = subst (λ (l : List ℕ). AreSetTo (state_in i.next.items) (state_in c.fill_split-self-inside.new.next) (split_to c.seg_count-chunks.result c.args.split.now (2048 * c.args.part) (state_in l)) (2048 * c.args.part) (2048 * (c.args.part + 1))) c.deref.ensures.value
    (subst (λ (l : List ℕ). AreSetTo (state_in l) (state_in c.fill_split-self-inside.new.next) (split_to c.seg_count-chunks.result c.args.split.now (2048 * c.args.part) (state_in c.deref.result.now)) (2048 * c.args.part) (2048 * (c.args.part + 1))) c.deref_mut.ensures.value c.fill_split-self-inside.ensures.set) in
    let staged = subst (λ (l : List ℕ). StagesNext i.flip l c.args.part c.stage_next.result c.stage_next.new.flip) value c.stage_next.ensures in
    rw (← c.self.view_is) (rw items (stages_one s (split_to (chunks_of s) c.args.split.now (2048 * c.args.part) (state_of s)) c.stage_next.new.flip c.fill_split-self-inside.new.next c.args.part c.stage_next.result (subst (λ (n : ℕ). AreSetTo (state_in i.next.items) (state_in c.fill_split-self-inside.new.next) (split_to n c.args.split.now (2048 * c.args.part) (state_in i.memory.items)) (2048 * c.args.part) (2048 * (c.args.part + 1))) c.seg_count-chunks.ensures filled) staged))
