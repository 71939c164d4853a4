use Rattle.std.proofs.Common.{rules, ◌≡◌, ◌/◌, ◌%◌, ℕ, List, length, refl, ap, sym, subst, ◌∙◌, arith}
use Rattle.std.specs.Option.{option_map}
use Rattle.avs_entries.specs.Entries.{entry_in, slot_by}
use Rattle.avs_compact.specs.CompactSet.{CompactSet, over_of, disk_of, entry_of}
use Rattle.avs_compact.specs.Calls.{IsInSlot, ReadsOne}
use Rattle.avs_compact.proofs.Readings.{from_master, from_slot, slot_there}
use Rattle.avs_compact.proofs.compact.Compact.read_part.Goals as goal

pub returns-then-entry-eq0-clause-reads : goal.returns-then-entry-eq0-clause-reads
returns-then-entry-eq0-clause-reads g c =
    let i = c.self.inside in
    let seen = g.D.Disk.seen in
    let s : CompactSet = record { set = i.set; own = i.own; shadow = option_map seen i.shadow; areas = i.flip; memory = i.memory.items; next = i.next.items; blocks = i.blocks; low = i.low; ahead = i.ahead } in
    let blocks : s.blocks ≡ c.args.self.now.blocks = ap (λ (x : CompactSet). x.blocks) c.self.view_is in
    let count : length c.read.new.out / 512 ≡ length c.args.out.now / 512 = ap (λ (n : ℕ). n / 512) c.read.auto.out in
    let entry : c.entry_in-entry.result ≡ entry_of s (c.args.at / 64) = c.entry_in-entry.ensures ∙ ap (λ (l : List ℕ). entry_in l (c.args.at / 64)) c.deref.ensures.value in
    rw (← c.self.view_is) (from_master s (over_of c.args.over.now) (over_of c.args.over.now) (seen c.args.master.now) (seen c.read.new.self) (option_map seen i.shadow) c.args.at c.read.new.out (omega (arith, count, blocks, c.requires.inside)) (omega (arith, count, c.requires.one)) (omega (arith, count, c.requires.some, c.requires.whole)) refl
    c.read.result (sym entry ∙ c.if-entry-eq0.true) refl refl c.read.ensures)

pub read_slot-requires-clause-inside : goal.read_slot-requires-clause-inside
read_slot-requires-clause-inside g c =
    let i = c.self.inside in
    let seen = g.D.Disk.seen in
    let s : CompactSet = record { set = i.set; own = i.own; shadow = option_map seen i.shadow; areas = i.flip; memory = i.memory.items; next = i.next.items; blocks = i.blocks; low = i.low; ahead = i.ahead } in
    let blocks : s.blocks ≡ c.args.self.now.blocks = ap (λ (x : CompactSet). x.blocks) c.self.view_is in
    let entry : c.entry_in-entry.result ≡ entry_of s (c.args.at / 64) = c.entry_in-entry.ensures ∙ ap (λ (l : List ℕ). entry_in l (c.args.at / 64)) c.deref.ensures.value in
    let slot : c.slot_by-slot.result ≡ slot_by (entry_of s (c.args.at / 64)) = c.slot_by-slot.ensures.is ∙ ap slot_by entry in
    let there = rw (← c.self.view_is) at c.requires.there in
    let placed = rw (← c.self.view_is) at c.requires.slots in
    subst (λ (q : ℕ). IsInSlot (disk_of s.shadow) (over_of c.args.over.now) s.own q (c.args.at % 64) (length c.args.out.now)) (sym slot)
    (slot_there s (over_of c.args.over.now) (c.args.at / 64) (c.args.at % 64) (length c.args.out.now) c.self.invariant.0.room there placed (omega (arith, blocks, c.requires.inside, c.requires.some, c.requires.whole)) (λ z. c.if-entry-eq0.false (entry ∙ z)) c.requires.some c.requires.whole c.requires.one)

pub returns-clause-reads : goal.returns-clause-reads
returns-clause-reads g c =
    let i = c.self.inside in
    let seen = g.D.Disk.seen in
    let s : CompactSet = record { set = i.set; own = i.own; shadow = option_map seen i.shadow; areas = i.flip; memory = i.memory.items; next = i.next.items; blocks = i.blocks; low = i.low; ahead = i.ahead } in
    let blocks : s.blocks ≡ c.args.self.now.blocks = ap (λ (x : CompactSet). x.blocks) c.self.view_is in
    let count : length c.read_slot.new.out / 512 ≡ length c.args.out.now / 512 = ap (λ (n : ℕ). n / 512) c.read_slot.ensures.len in
    let entry : c.entry_in-entry.result ≡ entry_of s (c.args.at / 64) = c.entry_in-entry.ensures ∙ ap (λ (l : List ℕ). entry_in l (c.args.at / 64)) c.deref.ensures.value in
    let slot : c.slot_by-slot.result ≡ slot_by (entry_of s (c.args.at / 64)) = c.slot_by-slot.ensures.is ∙ ap slot_by entry in
    let reads = subst (λ (q : ℕ). ReadsOne (disk_of s.shadow) (over_of c.args.over.now) s.own q (c.args.at % 64) c.read_slot.new.out c.read_slot.result (disk_of (option_map seen c.read_slot.new.shadow)) (over_of c.read_slot.new.over)) slot c.read_slot.ensures.reads in
    rw (← c.self.view_is) (from_slot s (over_of c.args.over.now) (over_of c.read_slot.new.over) (seen c.args.master.now) (seen c.args.master.now) (option_map seen c.read_slot.new.shadow) c.args.at c.read_slot.new.out (omega (arith, count, blocks, c.requires.inside)) (omega (arith, count, c.requires.one)) (omega (arith, count, c.requires.some, c.requires.whole)) (search rules)
    (λ z. c.if-entry-eq0.false (entry ∙ z)) c.read_slot.result refl reads)
