use Rattle.std.proofs.Common.{rules, ◌≡◌, ◌+◌, ℕ, false, List, length, Result, Err, OnOk, OnErr, sym, ap, subst, ◌∙◌, arith}
use Rattle.std.specs.Option.{option_map}
use Rattle.std.specs.Vec.{with_items}
use Rattle.std.proofs.lemmas.List.{with_items_is}
use Rattle.avs_seg.specs.Segment.{seg_count}
use Rattle.avs_seg.specs.declared.fault.Failed.{Failed}
use Rattle.avs_bits.specs.Bit.{bit_of, IsPut}
use Rattle.avs_entries.specs.Entries.{entry_in, entry_for, slot_by, code_of}
use Rattle.avs_entries.specs.Slots.{IsClean, Marks}
use Rattle.avs_entries.specs.Putting.{WritesEntry, PutsEntry}
use Rattle.avs_entries.specs.Tallied.{AreTallied, Changes}
use Rattle.avs_entries.proofs.Tallied.{has_one, are_few}
use Rattle.avs_entries.specs.Counting.{IsMapped}
use Rattle.avs_compact.specs.CompactSet.{CompactSet, disk_of, over_of}
use Rattle.avs_compact.specs.Disks.{Shadow}
use Rattle.avs_compact.specs.Kept.{ArePassed}
use Rattle.avs_compact.proofs.Copied.{back_goes}
use Rattle.avs_compact.proofs.Again.{kept_again, held_again, stands_again, had_tally, had_map}
use Rattle.avs_compact.proofs.Settles.{old_fails, old_settles, settles_err, settles_ok}
use Rattle.avs_compact.proofs.compact.Compact.settle_old.Goals as goal

pub returns-in_err-copy_back-clause-settles : goal.returns-in_err-copy_back-clause-settles
returns-in_err-copy_back-clause-settles g c =
    let i = c.self.inside in
    let seen = g.D.Disk.seen in
    let s : CompactSet = record { set = i.set; own = i.own; shadow = option_map seen i.shadow; areas = i.flip; memory = i.memory.items; next = i.next.items; blocks = i.blocks; low = i.low; ahead = i.ahead } in
    let may = rw (← c.self.view_is) at c.requires.may in
    let served = rw (← c.self.view_is) at c.requires.slots in
    let entry : c.entry_in-old.result ≡ entry_in i.memory.items c.args.chunk = c.entry_in-old.ensures ∙ ap (λ (l : List ℕ). entry_in l c.args.chunk) c.deref.ensures.value in
    let is : c.from_residual.result ≡ Err c.in_err-copy_back.field-0.0 = search rules in
    rw is (rw (← c.self.view_is) (old_fails s c.args.chunk (code_of c.args.target) c.entry_in-old.result (over_of c.args.over.now) (over_of c.copy_back.new.over) entry may served c.self.invariant.1.form
    (option_map seen c.copy_back.new.shadow) (search rules) (seen c.args.master.now) (seen c.copy_back.new.master) c.copy_back.result c.seg_span-span.result.at c.seg_span-span.result.len c.seg_span-span.ensures.at c.seg_span-span.ensures.len c.copy_back.ensures.copies
    c.in_err-copy_back.field-0.0 c.in_err-copy_back.field-0.0 c.in_err-copy_back.was))

pub returns-in_err-put_entry-clause-settles : goal.returns-in_err-put_entry-clause-settles
returns-in_err-put_entry-clause-settles g c =
    let i = c.self.inside in
    let seen = g.D.Disk.seen in
    let s : CompactSet = record { set = i.set; own = i.own; shadow = option_map seen i.shadow; areas = i.flip; memory = i.memory.items; next = i.next.items; blocks = i.blocks; low = i.low; ahead = i.ahead } in
    let may = rw (← c.self.view_is) at c.requires.may in
    let served = rw (← c.self.view_is) at c.requires.slots in
    let entry : c.entry_in-old.result ≡ entry_in i.memory.items c.args.chunk = c.entry_in-old.ensures ∙ ap (λ (l : List ℕ). entry_in l c.args.chunk) c.deref.ensures.value in
    let slot : c.slot_by.result ≡ slot_by (entry_in i.memory.items c.args.chunk) = c.slot_by.ensures.is ∙ ap slot_by entry in
    let long : (with_items i.memory c.put_entry.new.memory).items ≡ c.put_entry.new.memory = with_items_is i.memory c.put_entry.new.memory (search rules) in
    let puts = subst (λ (k : ℕ). WritesEntry i.flip i.memory.items c.args.chunk k c.put_entry.result c.put_entry.new.flip c.put_entry.new.memory) c.entry_for-entry.ensures
    (subst (λ (l : List ℕ). WritesEntry i.flip l c.args.chunk c.entry_for-entry.result c.put_entry.result c.put_entry.new.flip c.put_entry.new.memory) c.deref_mut-2.ensures.value c.put_entry.ensures) in
    let st = old_settles s c.args.chunk (code_of c.args.target) c.entry_in-old.result (over_of c.args.over.now) (over_of c.copy_back.new.over) entry may served c.self.invariant.1.form
    (option_map seen c.copy_back.new.shadow) (search rules) (seen c.args.master.now) (seen c.copy_back.new.master) c.copy_back.result c.seg_span-span.result.at c.seg_span-span.result.len c.seg_span-span.ensures.at c.seg_span-span.ensures.len c.copy_back.ensures.copies
    c.slot_by.result slot c.slot_by.ensures.small c.self.invariant.4.clean c.self.invariant.0.first c.put_entry.new.flip c.put_entry.new.memory c.in_ok-copy_back.field-0 c.in_ok-copy_back.was c.put_entry.result puts in
    let is : c.from_residual-in_err-put_entry.result ≡ Err c.in_err-put_entry.field-0.0 = search rules in
    rw is (rw (← c.self.view_is) (rw long (settles_err s _ (over_of c.args.over.now) (over_of c.copy_back.new.over) (seen c.args.master.now) (seen c.copy_back.new.master) c.args.chunk (code_of c.args.target) c.put_entry.result c.in_err-put_entry.field-0.0 c.in_err-put_entry.field-0.0 c.in_err-put_entry.was st)))

pub returns-clause-settles : goal.returns-clause-settles
returns-clause-settles g c =
    let i = c.self.inside in
    let seen = g.D.Disk.seen in
    let s : CompactSet = record { set = i.set; own = i.own; shadow = option_map seen i.shadow; areas = i.flip; memory = i.memory.items; next = i.next.items; blocks = i.blocks; low = i.low; ahead = i.ahead } in
    let may = rw (← c.self.view_is) at c.requires.may in
    let served = rw (← c.self.view_is) at c.requires.slots in
    let entry : c.entry_in-old.result ≡ entry_in i.memory.items c.args.chunk = c.entry_in-old.ensures ∙ ap (λ (l : List ℕ). entry_in l c.args.chunk) c.deref.ensures.value in
    let slot : c.slot_by.result ≡ slot_by (entry_in i.memory.items c.args.chunk) = c.slot_by.ensures.is ∙ ap slot_by entry in
    let long : (with_items i.memory c.put_entry.new.memory).items ≡ c.put_entry.new.memory = with_items_is i.memory c.put_entry.new.memory (search rules) in
    let puts = subst (λ (k : ℕ). WritesEntry i.flip i.memory.items c.args.chunk k c.put_entry.result c.put_entry.new.flip c.put_entry.new.memory) c.entry_for-entry.ensures
    (subst (λ (l : List ℕ). WritesEntry i.flip l c.args.chunk c.entry_for-entry.result c.put_entry.result c.put_entry.new.flip c.put_entry.new.memory) c.deref_mut-2.ensures.value c.put_entry.ensures) in
    let st = old_settles s c.args.chunk (code_of c.args.target) c.entry_in-old.result (over_of c.args.over.now) (over_of c.copy_back.new.over) entry may served c.self.invariant.1.form
    (option_map seen c.copy_back.new.shadow) (search rules) (seen c.args.master.now) (seen c.copy_back.new.master) c.copy_back.result c.seg_span-span.result.at c.seg_span-span.result.len c.seg_span-span.ensures.at c.seg_span-span.ensures.len c.copy_back.ensures.copies
    c.slot_by.result slot c.slot_by.ensures.small c.self.invariant.4.clean c.self.invariant.0.first c.put_entry.new.flip c.put_entry.new.memory c.in_ok-copy_back.field-0 c.in_ok-copy_back.was c.put_entry.result puts in
    rw (← c.self.view_is) (rw long (settles_ok s _ (over_of c.args.over.now) (over_of c.copy_back.new.over) (seen c.args.master.now) (seen c.copy_back.new.master) c.args.chunk (code_of c.args.target) c.put_entry.result c.in_ok-put_entry.field-0 tt c.in_ok-put_entry.was st))

pub invariant_of-self-in_err-put_entry : goal.invariant_of-self-in_err-put_entry
invariant_of-self-in_err-put_entry g c =
    let i = c.self.inside in
    let seen = g.D.Disk.seen in
    let k = c.self.invariant.0 in
    let may = rw (← c.self.view_is) at c.requires.may in
    let entry : c.entry_in-old.result ≡ entry_in i.memory.items c.args.chunk = c.entry_in-old.ensures ∙ ap (λ (l : List ℕ). entry_in l c.args.chunk) c.deref.ensures.value in
    let slot : c.slot_by.result ≡ slot_by (entry_in i.memory.items c.args.chunk) = c.slot_by.ensures.is ∙ ap slot_by entry in
    let items : (with_items i.memory c.put_entry.new.memory).items ≡ c.put_entry.new.memory = with_items_is i.memory c.put_entry.new.memory (search rules) in
    let long : (with_items i.buffer c.copy_back.new.buffer).items ≡ c.copy_back.new.buffer = with_items_is i.buffer c.copy_back.new.buffer (search rules) in
    let puts = subst (λ (e : ℕ). WritesEntry i.flip i.memory.items c.args.chunk e c.put_entry.result c.put_entry.new.flip c.put_entry.new.memory) c.entry_for-entry.ensures
    (subst (λ (l : List ℕ). WritesEntry i.flip l c.args.chunk c.entry_for-entry.result c.put_entry.result c.put_entry.new.flip c.put_entry.new.memory) c.deref_mut-2.ensures.value c.put_entry.ensures) in
    let size = ((back_goes c.entry_in-old.result (seen c.args.master.now) (seen c.copy_back.new.master) (disk_of (option_map seen i.shadow)) (disk_of (option_map seen c.copy_back.new.shadow)) (over_of c.args.over.now) (over_of c.copy_back.new.over) i.own
    c.seg_span-span.result.at c.seg_span-span.result.len c.copy_back.result c.copy_back.ensures.copies (seen c.args.master.now)) Shadow).size in
    let stands = stands_again i.memory.items c.put_entry.new.memory c.args.chunk (code_of c.args.target) c.slot_by.result (seg_count i.blocks) i.own i.table.items i.counts i.low i.ahead i.due c.put_entry.result puts.set puts.unset
    may.there may.targets c.slot_by.ensures.small may.slot slot (record { clean = c.self.invariant.4.clean; marks = c.self.invariant.1; passed = c.self.invariant.2 }) in
    let unset = subst (λ (r : Result (Unit {0}) Failed). OnErr r (c.put_entry.new.memory ≡ c.deref_mut-2.result.now)) c.in_err-put_entry.was c.put_entry.ensures.unset in (
      kept_again (option_map seen i.shadow) (option_map seen c.copy_back.new.shadow) i.own i.flip c.put_entry.new.flip i.blocks k (search rules) size puts.place puts.writes.goes.lasts.size,
      subst (λ (l : List ℕ). Marks (entry_in l) i.own (seg_count i.blocks) i.table.items i.counts) (sym items) stands.marks,
      subst (λ (l : List ℕ). ArePassed (entry_in l) (seg_count i.blocks) i.table.items i.low i.ahead i.due) (sym items) stands.passed,
      subst (λ (l : List ℕ). AreTallied (entry_in l) i.own (seg_count i.blocks) i.tally) (sym (items ∙ unset ∙ c.deref_mut-2.ensures.value)) c.self.invariant.3,
      held_again i.flip c.put_entry.new.flip i.memory.items (with_items i.memory c.put_entry.new.memory).items i.next.items i.blocks c.self.invariant.4 puts.place (ap (λ (l : List ℕ). length l) items ∙ puts.len)
          (subst (λ (l : List ℕ). IsClean l (seg_count i.blocks)) (sym items) stands.clean),
      ap (λ (l : List ℕ). length l) long ∙ (search rules),
      subst (λ (l : List ℕ). IsMapped (entry_in l) (seg_count i.blocks) i.map.items) (sym (items ∙ unset ∙ c.deref_mut-2.ensures.value)) c.self.invariant.6,
    )

pub changed-self-inside-requires-clause-one : goal.changed-self-inside-requires-clause-one
changed-self-inside-requires-clause-one g c =
    let i = c.self.inside in
    let may = rw (← c.self.view_is) at c.requires.may in
    let entry : c.entry_in-old.result ≡ entry_in i.memory.items c.args.chunk = c.entry_in-old.ensures ∙ ap (λ (l : List ℕ). entry_in l c.args.chunk) c.deref.ensures.value in
    has_one (entry_in i.memory.items) i.own (seg_count i.blocks) i.tally c.args.chunk c.entry_in-old.result may.there (sym entry) c.self.invariant.3

pub changed-self-inside-requires-clause-few : goal.changed-self-inside-requires-clause-few
changed-self-inside-requires-clause-few g c =
    let i = c.self.inside in
    are_few (entry_in i.memory.items) i.own (seg_count i.blocks) i.tally (omega (arith, c.self.invariant.0.small)) c.self.invariant.3

pub invariant_of-self-2 : goal.invariant_of-self-2
invariant_of-self-2 g c =
    let i = c.self.inside in
    let seen = g.D.Disk.seen in
    let k = c.self.invariant.0 in
    let may = rw (← c.self.view_is) at c.requires.may in
    let entry : c.entry_in-old.result ≡ entry_in i.memory.items c.args.chunk = c.entry_in-old.ensures ∙ ap (λ (l : List ℕ). entry_in l c.args.chunk) c.deref.ensures.value in
    let slot : c.slot_by.result ≡ slot_by (entry_in i.memory.items c.args.chunk) = c.slot_by.ensures.is ∙ ap slot_by entry in
    let items : (with_items i.memory c.put_entry.new.memory).items ≡ c.put_entry.new.memory = with_items_is i.memory c.put_entry.new.memory (search rules) in
    let long : (with_items i.buffer c.copy_back.new.buffer).items ≡ c.copy_back.new.buffer = with_items_is i.buffer c.copy_back.new.buffer (search rules) in
    let puts = subst (λ (e : ℕ). WritesEntry i.flip i.memory.items c.args.chunk e c.put_entry.result c.put_entry.new.flip c.put_entry.new.memory) c.entry_for-entry.ensures
    (subst (λ (l : List ℕ). WritesEntry i.flip l c.args.chunk c.entry_for-entry.result c.put_entry.result c.put_entry.new.flip c.put_entry.new.memory) c.deref_mut-2.ensures.value c.put_entry.ensures) in
    let size = ((back_goes c.entry_in-old.result (seen c.args.master.now) (seen c.copy_back.new.master) (disk_of (option_map seen i.shadow)) (disk_of (option_map seen c.copy_back.new.shadow)) (over_of c.args.over.now) (over_of c.copy_back.new.over) i.own
    c.seg_span-span.result.at c.seg_span-span.result.len c.copy_back.result c.copy_back.ensures.copies (seen c.args.master.now)) Shadow).size in
    let stands = stands_again i.memory.items c.put_entry.new.memory c.args.chunk (code_of c.args.target) c.slot_by.result (seg_count i.blocks) i.own i.table.items i.counts i.low i.ahead i.due c.put_entry.result puts.set puts.unset
    may.there may.targets c.slot_by.ensures.small may.slot slot (record { clean = c.self.invariant.4.clean; marks = c.self.invariant.1; passed = c.self.invariant.2 }) in
    let set = subst (λ (r : Result (Unit {0}) Failed). OnOk r (PutsEntry i.memory.items c.put_entry.new.memory c.args.chunk (entry_for (code_of c.args.target) c.slot_by.result))) c.in_ok-put_entry.was puts.set in
    let map : (with_items i.map c.clear_bit.new.map).items ≡ c.clear_bit.new.map = with_items_is i.map c.clear_bit.new.map (search rules) in
    let changed = subst (λ (k : ℕ). Changes i.tally i.own k (entry_for (code_of c.args.target) c.slot_by.result) c.changed-self-inside.result) entry (subst (λ (k : ℕ). Changes i.tally i.own c.entry_in-old.result k c.changed-self-inside.result) c.entry_for-entry.ensures c.changed-self-inside.ensures) in (
      kept_again (option_map seen i.shadow) (option_map seen c.copy_back.new.shadow) i.own i.flip c.put_entry.new.flip i.blocks k (search rules) size puts.place puts.writes.goes.lasts.size,
      subst (λ (l : List ℕ). Marks (entry_in l) i.own (seg_count i.blocks) i.table.items i.counts) (sym items) stands.marks,
      subst (λ (l : List ℕ). ArePassed (entry_in l) (seg_count i.blocks) i.table.items i.low i.ahead i.due) (sym items) stands.passed,
      subst (λ (l : List ℕ). AreTallied (entry_in l) i.own (seg_count i.blocks) c.changed-self-inside.result) (sym items)
          (had_tally i.memory.items c.put_entry.new.memory c.args.chunk (code_of c.args.target) c.slot_by.result (seg_count i.blocks) set may.there may.targets c.slot_by.ensures.small i.own may.slot slot i.tally c.changed-self-inside.result c.self.invariant.3 changed),
      held_again i.flip c.put_entry.new.flip i.memory.items (with_items i.memory c.put_entry.new.memory).items i.next.items i.blocks c.self.invariant.4 puts.place (ap (λ (l : List ℕ). length l) items ∙ puts.len)
          (subst (λ (l : List ℕ). IsClean l (seg_count i.blocks)) (sym items) stands.clean),
      ap (λ (l : List ℕ). length l) long ∙ (search rules),
      subst (λ (l : List ℕ). IsMapped (entry_in l) (seg_count i.blocks) (with_items i.map c.clear_bit.new.map).items) (sym items)
          (had_map i.memory.items c.put_entry.new.memory c.args.chunk (code_of c.args.target) c.slot_by.result (seg_count i.blocks) set may.there may.targets c.slot_by.ensures.small i.map.items (with_items i.map c.clear_bit.new.map).items c.self.invariant.6
          (ap (λ (l : List ℕ). length l) map ∙ c.clear_bit.ensures.len ∙ ap (λ (l : List ℕ). length l) c.deref_mut-3.ensures.value)
          (subst (λ (l : List ℕ). IsPut (bit_of i.map.items) (bit_of l) c.args.chunk (c.args.chunk + 1) false) (sym map) (subst (λ (l : List ℕ). IsPut (bit_of l) (bit_of c.clear_bit.new.map) c.args.chunk (c.args.chunk + 1) false) c.deref_mut-3.ensures.value c.clear_bit.ensures.put))),
    )
