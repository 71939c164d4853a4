use Rattle.std.proofs.Common.{rules, ◌≡◌, ◌+◌, ◌*◌, ℕ, List, subst, ◌∙◌}
use Rattle.std.specs.Option.{option_map}
use Rattle.std.specs.Vec.{with_items}
use Rattle.std.proofs.lemmas.List.{with_items_is}
use Rattle.avs_entries.specs.Entries.{entry_in}
use Rattle.avs_entries.specs.Staging.{AreSetTo, StagesNext}
use Rattle.avs_entries.specs.Parts.{split_to}
use Rattle.avs_compact.specs.CompactSet.{CompactSet, chunks_of, entry_of, next_of}
use Rattle.avs_compact.proofs.Staged.{stages_one}
use Rattle.avs_compact.proofs.compact.Compact.split_block.Goals as goal

pub returns : goal.returns
returns g c =
    let i = c.self.inside in
    let s : CompactSet = record { set = i.set; own = i.own; shadow = option_map g.D.Disk.seen i.shadow; areas = i.flip; memory = i.memory.items; next = i.next.items; blocks = i.blocks; low = i.low; ahead = i.ahead } in
    let bits = c.args.split.now in
    let items : (with_items i.next c.fill_split.new.next).items ≡ c.fill_split.new.next = with_items_is i.next c.fill_split.new.next (search rules) in
    let value : c.deref-2.result.now ≡ c.fill_split.new.next = c.deref-2.ensures.value ∙ items in
    let filled = subst (λ (l : List ℕ). AreSetTo (entry_in i.next.items) (entry_in c.fill_split.new.next) (split_to c.seg_count-chunks.result bits c.args.part (entry_in l) (entry_in i.next.items)) (128 * c.args.at) (128 * (c.args.at + 1))) c.deref.ensures.value
    (subst (λ (l : List ℕ). AreSetTo (entry_in l) (entry_in c.fill_split.new.next) (split_to c.seg_count-chunks.result bits c.args.part (entry_in c.deref.result.now) (entry_in l)) (128 * c.args.at) (128 * (c.args.at + 1))) c.deref_mut.ensures.value c.fill_split.ensures.set) in
    let staged = subst (λ (l : List ℕ). StagesNext i.flip l c.args.at c.stage_next.result c.stage_next.new.flip) value c.stage_next.ensures in
    rw (← c.self.view_is) (rw items (stages_one s (split_to (chunks_of s) bits c.args.part (entry_of s) (next_of s)) c.stage_next.new.flip c.fill_split.new.next c.args.at c.stage_next.result
    (subst (λ (n : ℕ). AreSetTo (entry_in i.next.items) (entry_in c.fill_split.new.next) (split_to n bits c.args.part (entry_in i.memory.items) (entry_in i.next.items)) (128 * c.args.at) (128 * (c.args.at + 1))) c.seg_count-chunks.ensures filled) staged))
