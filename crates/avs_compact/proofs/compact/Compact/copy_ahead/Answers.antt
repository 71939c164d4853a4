use Rattle.std.proofs.Common.{rules, ◌≡◌, ◌≢◌, ◌+◌, min, ℕ, List, Some, None, Err, Result, length, refl, sym, ap, subst, ◌∙◌, arith}
use Rattle.std.specs.Option.{option_map}
use Rattle.std.specs.Vec.{with_items}
use Rattle.std.proofs.lemmas.List.{with_items_is}
use Rattle.avs_seg.specs.Segment.{seg_count}
use Rattle.avs_seg.specs.declared.fault.Failed.{Failed}
use Rattle.avs_over.specs.Slots.{Owners}
use Rattle.avs_entries.specs.Entries.{entry_in, entry_for}
use Rattle.avs_entries.specs.Slots.{IsClean}
use Rattle.avs_entries.specs.Putting.{PutsEntry}
use Rattle.avs_compact.specs.CompactSet.{CompactSet, over_of}
use Rattle.avs_compact.specs.Disks.{Shadow}
use Rattle.avs_compact.specs.Steps.{TakesSlot}
use Rattle.avs_compact.specs.Ahead.{CopiesTold}
use Rattle.avs_compact.proofs.Again.{kept_again, held_again, held_next, clean_put, passed_ahead}
use Rattle.avs_compact.proofs.SettlingNew.{slot_free}
use Rattle.avs_compact.proofs.Ahead.{told_fails, told_copies}
use Rattle.avs_compact.proofs.compact.Compact.copy_ahead.Goals as goal

pub returns-in_default-clause-copies : goal.returns-in_default-clause-copies
returns-in_default-clause-copies g c =
    let i = c.self.inside in
    let seen = g.D.Disk.seen in
    let s : CompactSet = record { set = i.set; own = i.own; shadow = option_map seen i.shadow; areas = i.flip; memory = i.memory.items; next = i.next.items; blocks = i.blocks; low = i.low; ahead = i.ahead } in
    let room = rw (← c.self.view_is) at c.requires.room in
    let t = subst (λ (l : Owners). TakesSlot l i.low i.set (over_of c.args.over.now) None (over_of c.take_slot.new.over)) c.deref.ensures.value c.in_default.ensures.takes in
    absurd (slot_free s (over_of c.args.over.now) (over_of c.take_slot.new.over) i.table.items i.counts c.self.invariant.1 c.self.invariant.2.inside c.self.invariant.2.kept t room)

pub returns-in_err-copy_in-clause-copies : goal.returns-in_err-copy_in-clause-copies
returns-in_err-copy_in-clause-copies g c =
    let i = c.self.inside in
    let seen = g.D.Disk.seen in
    let s : CompactSet = record { set = i.set; own = i.own; shadow = option_map seen i.shadow; areas = i.flip; memory = i.memory.items; next = i.next.items; blocks = i.blocks; low = i.low; ahead = i.ahead } in
    let there = rw (← c.self.view_is) at c.requires.chunk in
    let none = rw (← c.self.view_is) at c.requires.none in
    let t = subst (λ (l : Owners). TakesSlot l i.low i.set (over_of c.args.over.now) (Some c.in-Some.slot) (over_of c.take_slot.new.over)) c.deref.ensures.value c.in-Some.ensures.takes in
    let is : c.from_residual.result ≡ Err c.in_err-copy_in.field-0.0 = search rules in
    rw is (rw (← c.self.view_is) (λ told listed. told_fails s c.args.chunk c.in-Some.slot (over_of c.args.over.now) (over_of c.take_slot.new.over) (over_of c.copy_in.new.over) i.table.items i.counts c.self.invariant.1 c.self.invariant.2.inside c.self.invariant.2.kept t there none
    (option_map seen c.copy_in.new.shadow) (search rules) (seen c.args.master.now) (seen c.copy_in.new.master) c.copy_in.result c.seg_span-span.result.at c.seg_span-span.result.len c.seg_span-span.ensures.at c.seg_span-span.ensures.len c.copy_in.ensures.copies
    told listed c.in_err-copy_in.field-0.0 c.in_err-copy_in.was))

pub invariant_of-self : goal.invariant_of-self
invariant_of-self g c =
    let i = c.self.inside in
    let seen = g.D.Disk.seen in
    let k = c.self.invariant.0 in
    let long : (with_items i.buffer c.copy_in.new.buffer).items ≡ c.copy_in.new.buffer = with_items_is i.buffer c.copy_in.new.buffer (search rules) in
    let size = ((c.copy_in.ensures.copies.goes (seen c.args.master.now)).lasts Shadow).size in (
      kept_again (option_map seen i.shadow) (option_map seen c.copy_in.new.shadow) i.own i.flip i.flip i.blocks k (search rules) size refl refl,
      c.self.invariant.1,
      c.self.invariant.2,
      c.self.invariant.3,
      held_again i.flip i.flip i.memory.items i.memory.items i.next.items i.blocks c.self.invariant.4 refl refl
          c.self.invariant.4.clean,
      ap (λ (l : List ℕ). length l) long ∙ (search rules),
      c.self.invariant.6,
    )

pub invariant_of-self-2 : goal.invariant_of-self-2
invariant_of-self-2 g c =
    let i = c.self.inside in
    let seen = g.D.Disk.seen in
    let k = c.self.invariant.0 in
    let there = rw (← c.self.view_is) at c.requires.chunk in
    let t = subst (λ (l : Owners). TakesSlot l i.low i.set (over_of c.args.over.now) (Some c.in-Some.slot) (over_of c.take_slot.new.over)) c.deref.ensures.value c.in-Some.ensures.takes in
    let long : (with_items i.buffer c.copy_in.new.buffer).items ≡ c.copy_in.new.buffer = with_items_is i.buffer c.copy_in.new.buffer (search rules) in
    let items : (with_items i.next c.set_entry.new.bytes).items ≡ c.set_entry.new.bytes = with_items_is i.next c.set_entry.new.bytes (search rules) in
    let size = ((c.copy_in.ensures.copies.goes (seen c.args.master.now)).lasts Shadow).size in
    let others = subst (λ (l : List ℕ). (d : ℕ) → d ≢ c.args.chunk → entry_in c.set_entry.new.bytes d ≡ entry_in l d) c.deref_mut-2.ensures.value c.set_entry.ensures.others in
    let low : c.min-self-inside.result ≡ min i.own (c.in-Some.slot + 1) = c.min-self-inside.ensures in (
      kept_again (option_map seen i.shadow) (option_map seen c.copy_in.new.shadow) i.own i.flip i.flip i.blocks k (search rules) size refl refl,
      c.self.invariant.1,
      passed_ahead (entry_in i.memory.items) i.own (seg_count i.blocks) i.table.items i.counts i.low i.ahead i.due c.in-Some.slot i.set (over_of c.args.over.now) (over_of c.take_slot.new.over) c.self.invariant.1 c.self.invariant.2 t _ _ low c.one_own.ensures,
      c.self.invariant.3,
      held_next i.flip i.memory.items i.next.items (with_items i.next c.set_entry.new.bytes).items i.blocks c.self.invariant.4
          (ap (λ (l : List ℕ). length l) items ∙ c.set_entry.ensures.len ∙ ap (λ (l : List ℕ). length l) c.deref_mut-2.ensures.value)
          (subst (λ (l : List ℕ). IsClean l (seg_count i.blocks)) (sym items) (clean_put i.next.items c.set_entry.new.bytes c.args.chunk (seg_count i.blocks) others there c.self.invariant.4.staged_clean)),
      ap (λ (l : List ℕ). length l) long ∙ (search rules),
      c.self.invariant.6,
    )

pub returns-clause-copies : goal.returns-clause-copies
returns-clause-copies g c =
    let i = c.self.inside in
    let seen = g.D.Disk.seen in
    let s : CompactSet = record { set = i.set; own = i.own; shadow = option_map seen i.shadow; areas = i.flip; memory = i.memory.items; next = i.next.items; blocks = i.blocks; low = i.low; ahead = i.ahead } in
    let there = rw (← c.self.view_is) at c.requires.chunk in
    let none = rw (← c.self.view_is) at c.requires.none in
    let t = subst (λ (l : Owners). TakesSlot l i.low i.set (over_of c.args.over.now) (Some c.in-Some.slot) (over_of c.take_slot.new.over)) c.deref.ensures.value c.in-Some.ensures.takes in
    let items : (with_items i.next c.set_entry.new.bytes).items ≡ c.set_entry.new.bytes = with_items_is i.next c.set_entry.new.bytes (search rules) in
    let others = subst (λ (l : List ℕ). (d : ℕ) → d ≢ c.args.chunk → entry_in c.set_entry.new.bytes d ≡ entry_in l d) c.deref_mut-2.ensures.value c.set_entry.ensures.others in
    let puts : PutsEntry i.next.items c.set_entry.new.bytes c.args.chunk (entry_for 2 c.in-Some.slot) = record { now = c.set_entry.ensures.now ∙ c.entry_for.ensures; others = others } in
    rw (← c.self.view_is) (rw items (λ told listed. subst (λ (r : Result (Unit {0}) Failed). CopiesTold s (over_of c.args.over.now) (seen c.args.master.now) told c.args.chunk (c.args.chunk + 1) r (record s { shadow = option_map seen c.copy_in.new.shadow; next = c.set_entry.new.bytes; low = c.min-self-inside.result; ahead = i.ahead + c.one_own.result }) (over_of c.copy_in.new.over) (seen c.copy_in.new.master)) c.in_ok-copy_in.was
    (told_copies s c.args.chunk c.in-Some.slot (over_of c.args.over.now) (over_of c.take_slot.new.over) (over_of c.copy_in.new.over) i.table.items i.counts c.self.invariant.1 c.self.invariant.2.inside c.self.invariant.2.kept t there none
    (option_map seen c.copy_in.new.shadow) (search rules) (seen c.args.master.now) (seen c.copy_in.new.master) c.copy_in.result c.seg_span-span.result.at c.seg_span-span.result.len c.seg_span-span.ensures.at c.seg_span-span.ensures.len c.copy_in.ensures.copies
    c.set_entry.new.bytes c.min-self-inside.result (i.ahead + c.one_own.result) puts (omega (arith, c.in-Some.ensures.small)) c.min-self-inside.ensures (ap (λ (k : ℕ). i.ahead + k) c.one_own.ensures) told listed)))
