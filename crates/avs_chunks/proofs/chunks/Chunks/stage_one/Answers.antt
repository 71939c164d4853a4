use Rattle.std.proofs.Common.{rules, ◌≡◌, ◌+◌, ◌*◌, ℕ, List, sym, subst, ◌∙◌}
use Rattle.std.specs.Option.{option_map}
use Rattle.std.specs.Vec.{with_items}
use Rattle.std.proofs.lemmas.List.{with_items_is}
use Rattle.avs_chunks.specs.States.{state_in}
use Rattle.avs_chunks.specs.Counted.{AreCounted}
use Rattle.avs_chunks.specs.ChunkSet.{ChunkSet, state_of}
use Rattle.avs_chunks.specs.Staging.{AreSetTo, StagesNext, updated}
use Rattle.avs_chunks.proofs.Staged.{stages_one}
use Rattle.avs_chunks.proofs.chunks.Chunks.stage_one.Goals as goal

pub fill_part-self-inside-requires-clause-counted : goal.fill_part-self-inside-requires-clause-counted
fill_part-self-inside-requires-clause-counted g c =
    let i = c.self.inside in
    subst (λ (l : List ℕ). AreCounted (state_in l) c.seg_count-chunks.result i.next_counts) (sym c.deref_mut.ensures.value)
    (subst (λ (n : ℕ). AreCounted (state_in i.next.items) n i.next_counts) (sym c.seg_count-chunks.ensures) c.self.invariant.2)

pub returns : goal.returns
returns g c =
    let i = c.self.inside in
    let s : ChunkSet = record { kind = i.kind; shadow = option_map g.D.Disk.seen i.shadow; areas = i.flip; memory = i.memory.items; next = i.next.items; blocks = i.blocks } in
    let items : (with_items i.next c.fill_part-self-inside.new.next).items ≡ c.fill_part-self-inside.new.next = with_items_is i.next c.fill_part-self-inside.new.next (search rules) in
    let value : c.deref-2.result.now ≡ c.fill_part-self-inside.new.next = c.deref-2.ensures.value ∙ items in
    let filled = subst (λ (l : List ℕ). AreSetTo (state_in i.next.items) (state_in c.fill_part-self-inside.new.next) (λ k. updated c.args.update (state_in l k)) (2048 * c.args.part) (2048 * (c.args.part + 1))) c.deref.ensures.value
    (subst (λ (l : List ℕ). AreSetTo (state_in l) (state_in c.fill_part-self-inside.new.next) (λ k. updated c.args.update (state_in c.deref.result.now k)) (2048 * c.args.part) (2048 * (c.args.part + 1))) c.deref_mut.ensures.value c.fill_part-self-inside.ensures.set) in
    let staged = subst (λ (l : List ℕ). StagesNext i.flip l c.args.part c.stage_next.result c.stage_next.new.flip) value c.stage_next.ensures in
    rw (← c.self.view_is) (rw items (stages_one s (λ k. updated c.args.update (state_of s k)) c.stage_next.new.flip c.fill_part-self-inside.new.next c.args.part c.stage_next.result filled staged))
