use Rattle.std.proofs.Common.{rules, ◌≡◌, ◌+◌, ◌*◌, ℕ, List, subst, ◌∙◌}
use Rattle.std.specs.Option.{option_map}
use Rattle.std.specs.Vec.{with_items}
use Rattle.std.proofs.lemmas.List.{with_items_is}
use Rattle.avs_entries.specs.Entries.{entry_in}
use Rattle.avs_entries.specs.Staging.{AreSetTo, StagesNext, updated}
use Rattle.avs_compact.specs.CompactSet.{CompactSet, entry_of}
use Rattle.avs_compact.proofs.Staged.{stages_one}
use Rattle.avs_compact.proofs.compact.Compact.stage_one.Goals as goal

pub returns : goal.returns
returns g c =
    let i = c.self.inside in
    let s : CompactSet = record { set = i.set; own = i.own; shadow = option_map g.D.Disk.seen i.shadow; areas = i.flip; memory = i.memory.items; next = i.next.items; blocks = i.blocks; low = i.low; ahead = i.ahead } in
    let items : (with_items i.next c.fill_block.new.next).items ≡ c.fill_block.new.next = with_items_is i.next c.fill_block.new.next (search rules) in
    let value : c.deref-2.result.now ≡ c.fill_block.new.next = c.deref-2.ensures.value ∙ items in
    let filled = subst (λ (l : List ℕ). AreSetTo (entry_in i.next.items) (entry_in c.fill_block.new.next) (λ k. updated c.args.update (entry_in l k)) (128 * c.args.at) (128 * (c.args.at + 1))) c.deref.ensures.value
    (subst (λ (l : List ℕ). AreSetTo (entry_in l) (entry_in c.fill_block.new.next) (λ k. updated c.args.update (entry_in c.deref.result.now k)) (128 * c.args.at) (128 * (c.args.at + 1))) c.deref_mut.ensures.value c.fill_block.ensures.set) in
    let staged = subst (λ (l : List ℕ). StagesNext i.flip l c.args.at c.stage_next.result c.stage_next.new.flip) value c.stage_next.ensures in
    rw (← c.self.view_is) (rw items (stages_one s (λ k. updated c.args.update (entry_of s k)) c.stage_next.new.flip c.fill_block.new.next c.args.at c.stage_next.result filled staged))
