use Rattle.std.proofs.Common.{rules, ◌≡◌, ◌+◌, ◌-◌, ◌^◌, ◌<◌, min, inl, ℕ, List, Some, None, Err, Result, OnOk, OnErr, length, refl, sym, ap, subst, ◌∙◌, arith}
use Rattle.std.specs.Option.{option_map}
use Rattle.std.specs.Vec.{with_items}
use Rattle.std.proofs.lemmas.List.{with_items_is}
use Rattle.avs_seg.specs.Segment.{seg_count}
use Rattle.avs_seg.specs.declared.fault.Failed.{Failed}
use Rattle.avs_over.specs.Slots.{Owners}
use Rattle.avs_entries.specs.Entries.{entry_in}
use Rattle.avs_entries.specs.Counting.{is_over}
use Rattle.avs_entries.specs.Slots.{IsClean, Marks, MarksSlot}
use Rattle.avs_entries.specs.Putting.{WritesEntry, PutsEntry}
use Rattle.avs_entries.proofs.Counted.{count_most}
use Rattle.avs_entries.specs.Tallied.{AreTallied, Changes}
use Rattle.avs_entries.proofs.Tallied.{are_few}
use Rattle.avs_entries.specs.Counting.{IsMapped}
use Rattle.avs_compact.specs.CompactSet.{CompactSet, over_of}
use Rattle.avs_compact.specs.Disks.{Shadow}
use Rattle.avs_compact.specs.Kept.{ArePassed}
use Rattle.avs_compact.specs.Steps.{TakesSlot}
use Rattle.avs_compact.proofs.Settles.{new_fails, new_settles, settles_err, settles_ok}
use Rattle.avs_compact.proofs.Again.{kept_again, held_again, clean_again, took_marks, took_passed, took_tally, took_map}
use Rattle.avs_compact.proofs.SettlingNew.{slot_free}
use Rattle.avs_compact.proofs.compact.Compact.settle_new.Goals as goal

pub returns-in_default-clause-settles : goal.returns-in_default-clause-settles
returns-in_default-clause-settles g c =
    let i = c.self.inside in
    let seen = g.D.Disk.seen in
    let s : CompactSet = record { set = i.set; own = i.own; shadow = option_map seen i.shadow; areas = i.flip; memory = i.memory.items; next = i.next.items; blocks = i.blocks; low = i.low; ahead = i.ahead } in
    let room = rw (← c.self.view_is) at c.requires.room in
    let t = subst (λ (l : Owners). TakesSlot l i.low i.set (over_of c.args.over.now) None (over_of c.take_slot.new.over)) c.deref.ensures.value c.in_default.ensures.takes in
    absurd (slot_free s (over_of c.args.over.now) (over_of c.take_slot.new.over) i.table.items i.counts c.self.invariant.1 c.self.invariant.2.inside c.self.invariant.2.kept t room)

pub returns-in_err-copy_in-clause-settles : goal.returns-in_err-copy_in-clause-settles
returns-in_err-copy_in-clause-settles g c =
    let i = c.self.inside in
    let seen = g.D.Disk.seen in
    let s : CompactSet = record { set = i.set; own = i.own; shadow = option_map seen i.shadow; areas = i.flip; memory = i.memory.items; next = i.next.items; blocks = i.blocks; low = i.low; ahead = i.ahead } in
    let there = rw (← c.self.view_is) at c.requires.chunk in
    let none = rw (← c.self.view_is) at c.requires.none in
    let t = subst (λ (l : Owners). TakesSlot l i.low i.set (over_of c.args.over.now) (Some c.in-Some.slot) (over_of c.take_slot.new.over)) c.deref.ensures.value c.in-Some.ensures.takes in
    let is : c.from_residual.result ≡ Err c.in_err-copy_in.field-0.0 = search rules in
    rw is (rw (← c.self.view_is) (new_fails s c.args.chunk c.in-Some.slot (over_of c.args.over.now) (over_of c.take_slot.new.over) (over_of c.copy_in.new.over) i.table.items i.counts c.self.invariant.1 c.self.invariant.2.inside c.self.invariant.2.kept t there none
    (option_map seen c.copy_in.new.shadow) (search rules) (seen c.args.master.now) (seen c.copy_in.new.master) c.copy_in.result c.seg_span-span.result.at c.seg_span-span.result.len c.seg_span-span.ensures.at c.seg_span-span.ensures.len c.copy_in.ensures.copies
    c.in_err-copy_in.field-0.0 c.in_err-copy_in.field-0.0 c.in_err-copy_in.was))

pub invariant_of-self : goal.invariant_of-self
invariant_of-self g c =
    let i = c.self.inside in
    let seen = g.D.Disk.seen in
    let k = c.self.invariant.0 in
    let long : (with_items i.buffer c.copy_in.new.buffer).items ≡ c.copy_in.new.buffer = with_items_is i.buffer c.copy_in.new.buffer (search rules) in
    let size = ((c.copy_in.ensures.copies.goes (seen c.args.master.now)).lasts Shadow).size in (
      kept_again (option_map seen i.shadow) (option_map seen c.copy_in.new.shadow) i.own i.flip i.flip i.blocks k (search rules) size refl refl,
      c.self.invariant.1,
      c.self.invariant.2,
      c.self.invariant.3,
      held_again i.flip i.flip i.memory.items i.memory.items i.next.items i.blocks c.self.invariant.4 refl refl
          c.self.invariant.4.clean,
      ap (λ (l : List ℕ). length l) long ∙ (search rules),
      c.self.invariant.6,
    )

pub invariant_of-self-in_err-put_entry : goal.invariant_of-self-in_err-put_entry
invariant_of-self-in_err-put_entry g c =
    let i = c.self.inside in
    let seen = g.D.Disk.seen in
    let k = c.self.invariant.0 in
    let long : (with_items i.buffer c.copy_in.new.buffer).items ≡ c.copy_in.new.buffer = with_items_is i.buffer c.copy_in.new.buffer (search rules) in
    let items : (with_items i.memory c.put_entry.new.memory).items ≡ c.put_entry.new.memory = with_items_is i.memory c.put_entry.new.memory (search rules) in
    let unset = subst (λ (r : Result (Unit {0}) Failed). OnErr r (c.put_entry.new.memory ≡ c.deref_mut-2.result.now)) c.in_err-put_entry.was c.put_entry.ensures.unset in
    let same : (with_items i.memory c.put_entry.new.memory).items ≡ i.memory.items = items ∙ unset ∙ c.deref_mut-2.ensures.value in
    let size = ((c.copy_in.ensures.copies.goes (seen c.args.master.now)).lasts Shadow).size in (
      kept_again (option_map seen i.shadow) (option_map seen c.copy_in.new.shadow) i.own i.flip c.put_entry.new.flip i.blocks k (search rules) size c.put_entry.ensures.place c.put_entry.ensures.writes.goes.lasts.size,
      subst (λ (l : List ℕ). Marks (entry_in l) i.own (seg_count i.blocks) i.table.items i.counts) (sym same) c.self.invariant.1,
      subst (λ (l : List ℕ). ArePassed (entry_in l) (seg_count i.blocks) i.table.items i.low i.ahead i.due) (sym same) c.self.invariant.2,
      subst (λ (l : List ℕ). AreTallied (entry_in l) i.own (seg_count i.blocks) i.tally) (sym same) c.self.invariant.3,
      held_again i.flip c.put_entry.new.flip i.memory.items (with_items i.memory c.put_entry.new.memory).items i.next.items i.blocks c.self.invariant.4 c.put_entry.ensures.place (ap (λ (l : List ℕ). length l) same)
          (subst (λ (l : List ℕ). IsClean l (seg_count i.blocks)) (sym same) c.self.invariant.4.clean),
      ap (λ (l : List ℕ). length l) long ∙ (search rules),
      subst (λ (l : List ℕ). IsMapped (entry_in l) (seg_count i.blocks) i.map.items) (sym same) c.self.invariant.6,
    )

pub returns-in_err-put_entry-clause-settles : goal.returns-in_err-put_entry-clause-settles
returns-in_err-put_entry-clause-settles g c =
    let i = c.self.inside in
    let seen = g.D.Disk.seen in
    let s : CompactSet = record { set = i.set; own = i.own; shadow = option_map seen i.shadow; areas = i.flip; memory = i.memory.items; next = i.next.items; blocks = i.blocks; low = i.low; ahead = i.ahead } in
    let there = rw (← c.self.view_is) at c.requires.chunk in
    let none = rw (← c.self.view_is) at c.requires.none in
    let t = subst (λ (l : Owners). TakesSlot l i.low i.set (over_of c.args.over.now) (Some c.in-Some.slot) (over_of c.take_slot.new.over)) c.deref.ensures.value c.in-Some.ensures.takes in
    let is : c.from_residual-in_err-put_entry.result ≡ Err c.in_err-put_entry.field-0.0 = search rules in
    let items : (with_items i.memory c.put_entry.new.memory).items ≡ c.put_entry.new.memory = with_items_is i.memory c.put_entry.new.memory (search rules) in
    let puts = subst (λ (k : ℕ). WritesEntry i.flip i.memory.items c.args.chunk k c.put_entry.result c.put_entry.new.flip c.put_entry.new.memory) c.entry_for-entry.ensures
    (subst (λ (l : List ℕ). WritesEntry i.flip l c.args.chunk c.entry_for-entry.result c.put_entry.result c.put_entry.new.flip c.put_entry.new.memory) c.deref_mut-2.ensures.value c.put_entry.ensures) in
    let st = new_settles s c.args.chunk c.in-Some.slot (over_of c.args.over.now) (over_of c.take_slot.new.over) (over_of c.copy_in.new.over) i.table.items i.counts c.self.invariant.1 c.self.invariant.2.inside c.self.invariant.2.kept t there none
    (option_map seen c.copy_in.new.shadow) (search rules) (seen c.args.master.now) (seen c.copy_in.new.master) c.copy_in.result c.seg_span-span.result.at c.seg_span-span.result.len c.seg_span-span.ensures.at c.seg_span-span.ensures.len c.copy_in.ensures.copies
    (omega (arith, c.in-Some.ensures.small)) c.self.invariant.4.clean c.self.invariant.0.first c.put_entry.new.flip c.put_entry.new.memory i.low c.in_ok-copy_in.field-0 c.in_ok-copy_in.was c.put_entry.result puts in
    rw is (rw (← c.self.view_is) (rw items (settles_err s _ (over_of c.args.over.now) (over_of c.copy_in.new.over) (seen c.args.master.now) (seen c.copy_in.new.master) c.args.chunk 2 c.put_entry.result c.in_err-put_entry.field-0.0 c.in_err-put_entry.field-0.0 c.in_err-put_entry.was st)))

pub mark_slot-self-inside-requires-clause-over : goal.mark_slot-self-inside-requires-clause-over
mark_slot-self-inside-requires-clause-over g c =
    let i = c.self.inside in
    omega (arith, c.self.invariant.1.over_count, count_most (λ k. is_over i.own (entry_in i.memory.items k)) (seg_count i.blocks), c.self.invariant.0.small)

pub invariant_of-self-2 : goal.invariant_of-self-2
invariant_of-self-2 g c =
    let i = c.self.inside in
    let seen = g.D.Disk.seen in
    let k = c.self.invariant.0 in
    let there = rw (← c.self.view_is) at c.requires.chunk in
    let none = rw (← c.self.view_is) at c.requires.none in
    let t = subst (λ (l : Owners). TakesSlot l i.low i.set (over_of c.args.over.now) (Some c.in-Some.slot) (over_of c.take_slot.new.over)) c.deref.ensures.value c.in-Some.ensures.takes in
    let long : (with_items i.buffer c.copy_in.new.buffer).items ≡ c.copy_in.new.buffer = with_items_is i.buffer c.copy_in.new.buffer (search rules) in
    let items : (with_items i.memory c.put_entry.new.memory).items ≡ c.put_entry.new.memory = with_items_is i.memory c.put_entry.new.memory (search rules) in
    let set_now = subst (λ (r : Result (Unit {0}) Failed). OnOk r (PutsEntry c.deref_mut-2.result.now c.put_entry.new.memory c.args.chunk c.entry_for-entry.result)) c.in_ok-put_entry.was c.put_entry.ensures.set in
    let puts = subst (λ (k : ℕ). PutsEntry i.memory.items c.put_entry.new.memory c.args.chunk k) c.entry_for-entry.ensures (subst (λ (l : List ℕ). PutsEntry l c.put_entry.new.memory c.args.chunk c.entry_for-entry.result) c.deref_mut-2.ensures.value set_now) in
    let size = ((c.copy_in.ensures.copies.goes (seen c.args.master.now)).lasts Shadow).size in
    let small : c.in-Some.slot < 2 ^ 30 - 1 = omega (arith, c.in-Some.ensures.small) in
    let marked = subst (λ (l : Owners). MarksSlot l i.counts c.args.chunk c.in-Some.slot c.mark_slot-self-inside.new.table c.mark_slot-self-inside.result) c.deref_mut-3.ensures.value c.mark_slot-self-inside.ensures in
    let table : (with_items i.table c.mark_slot-self-inside.new.table).items ≡ c.mark_slot-self-inside.new.table = with_items_is i.table c.mark_slot-self-inside.new.table (search rules) in
    let changed = subst (λ (k : ℕ). Changes i.tally i.own 0 k c.changed-self-inside.result) c.entry_for-entry.ensures c.changed-self-inside.ensures in
    let low : c.min-self-inside.result ≡ min i.own (c.in-Some.slot + 1) = c.min-self-inside.ensures in (
      kept_again (option_map seen i.shadow) (option_map seen c.copy_in.new.shadow) i.own i.flip c.put_entry.new.flip i.blocks k (search rules) size c.put_entry.ensures.place c.put_entry.ensures.writes.goes.lasts.size,
      subst (λ (l : List ℕ). Marks (entry_in l) i.own (seg_count i.blocks) (with_items i.table c.mark_slot-self-inside.new.table).items c.mark_slot-self-inside.result) (sym items)
          (subst (λ (l : Owners). Marks (entry_in c.put_entry.new.memory) i.own (seg_count i.blocks) l c.mark_slot-self-inside.result) (sym table)
          (took_marks i.memory.items c.put_entry.new.memory c.args.chunk 2 c.in-Some.slot (seg_count i.blocks) puts there (inl refl) small i.own i.table.items i.counts i.low i.ahead i.due c.self.invariant.1 c.self.invariant.2 i.set (over_of c.args.over.now) (over_of c.take_slot.new.over) t none
          c.mark_slot-self-inside.new.table c.mark_slot-self-inside.result marked)),
      subst (λ (l : List ℕ). ArePassed (entry_in l) (seg_count i.blocks) (with_items i.table c.mark_slot-self-inside.new.table).items c.min-self-inside.result i.ahead i.due) (sym items)
          (subst (λ (l : Owners). ArePassed (entry_in c.put_entry.new.memory) (seg_count i.blocks) l c.min-self-inside.result i.ahead i.due) (sym table)
          (subst (λ (n : ℕ). ArePassed (entry_in c.put_entry.new.memory) (seg_count i.blocks) c.mark_slot-self-inside.new.table n i.ahead i.due) (sym low)
          (took_passed i.memory.items c.put_entry.new.memory c.args.chunk 2 c.in-Some.slot (seg_count i.blocks) puts there (inl refl) small i.own i.table.items i.counts i.low i.ahead i.due c.self.invariant.1 c.self.invariant.2 i.set (over_of c.args.over.now) (over_of c.take_slot.new.over) t none
          c.mark_slot-self-inside.new.table c.mark_slot-self-inside.result marked))),
      subst (λ (l : List ℕ). AreTallied (entry_in l) i.own (seg_count i.blocks) c.changed-self-inside.result) (sym items)
          (took_tally i.memory.items c.put_entry.new.memory c.args.chunk 2 c.in-Some.slot (seg_count i.blocks) puts there (inl refl) small i.own none i.tally c.changed-self-inside.result c.self.invariant.3 changed),
      held_again i.flip c.put_entry.new.flip i.memory.items (with_items i.memory c.put_entry.new.memory).items i.next.items i.blocks c.self.invariant.4 c.put_entry.ensures.place (ap (λ (l : List ℕ). length l) items ∙ c.put_entry.ensures.len ∙ ap (λ (l : List ℕ). length l) c.deref_mut-2.ensures.value)
          (subst (λ (l : List ℕ). IsClean l (seg_count i.blocks)) (sym items) (clean_again i.memory.items c.put_entry.new.memory c.args.chunk 2 c.in-Some.slot (seg_count i.blocks) puts there (inl refl) small c.self.invariant.4.clean)),
      ap (λ (l : List ℕ). length l) long ∙ (search rules),
      subst (λ (l : List ℕ). IsMapped (entry_in l) (seg_count i.blocks) i.map.items) (sym items) (took_map i.memory.items c.put_entry.new.memory c.args.chunk 2 c.in-Some.slot (seg_count i.blocks) puts there (inl refl) small none i.map.items c.self.invariant.6),
    )

pub changed-self-inside-requires-clause-few : goal.changed-self-inside-requires-clause-few
changed-self-inside-requires-clause-few g c =
    let i = c.self.inside in
    are_few (entry_in i.memory.items) i.own (seg_count i.blocks) i.tally (omega (arith, c.self.invariant.0.small)) c.self.invariant.3

pub returns-clause-settles : goal.returns-clause-settles
returns-clause-settles g c =
    let i = c.self.inside in
    let seen = g.D.Disk.seen in
    let s : CompactSet = record { set = i.set; own = i.own; shadow = option_map seen i.shadow; areas = i.flip; memory = i.memory.items; next = i.next.items; blocks = i.blocks; low = i.low; ahead = i.ahead } in
    let there = rw (← c.self.view_is) at c.requires.chunk in
    let none = rw (← c.self.view_is) at c.requires.none in
    let t = subst (λ (l : Owners). TakesSlot l i.low i.set (over_of c.args.over.now) (Some c.in-Some.slot) (over_of c.take_slot.new.over)) c.deref.ensures.value c.in-Some.ensures.takes in
    let items : (with_items i.memory c.put_entry.new.memory).items ≡ c.put_entry.new.memory = with_items_is i.memory c.put_entry.new.memory (search rules) in
    let puts = subst (λ (k : ℕ). WritesEntry i.flip i.memory.items c.args.chunk k c.put_entry.result c.put_entry.new.flip c.put_entry.new.memory) c.entry_for-entry.ensures
    (subst (λ (l : List ℕ). WritesEntry i.flip l c.args.chunk c.entry_for-entry.result c.put_entry.result c.put_entry.new.flip c.put_entry.new.memory) c.deref_mut-2.ensures.value c.put_entry.ensures) in
    let st = new_settles s c.args.chunk c.in-Some.slot (over_of c.args.over.now) (over_of c.take_slot.new.over) (over_of c.copy_in.new.over) i.table.items i.counts c.self.invariant.1 c.self.invariant.2.inside c.self.invariant.2.kept t there none
    (option_map seen c.copy_in.new.shadow) (search rules) (seen c.args.master.now) (seen c.copy_in.new.master) c.copy_in.result c.seg_span-span.result.at c.seg_span-span.result.len c.seg_span-span.ensures.at c.seg_span-span.ensures.len c.copy_in.ensures.copies
    (omega (arith, c.in-Some.ensures.small)) c.self.invariant.4.clean c.self.invariant.0.first c.put_entry.new.flip c.put_entry.new.memory c.min-self-inside.result c.in_ok-copy_in.field-0 c.in_ok-copy_in.was c.put_entry.result puts in
    rw (← c.self.view_is) (rw items (settles_ok s _ (over_of c.args.over.now) (over_of c.copy_in.new.over) (seen c.args.master.now) (seen c.copy_in.new.master) c.args.chunk 2 c.put_entry.result c.in_ok-put_entry.field-0 tt c.in_ok-put_entry.was st))
