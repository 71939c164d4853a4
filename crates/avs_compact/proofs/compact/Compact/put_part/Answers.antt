use Rattle.std.proofs.Common.{rules, ◌≡◌, ◌≤◌, ◌<◌, ◌+◌, ◌-◌, ◌*◌, ◌/◌, ◌%◌, ℕ, List, length, ap, sym, subst, ◌∙◌, arith}
use Rattle.std.specs.Option.{option_map}
use Rattle.avs_over.specs.Over.{slot_from}
use Rattle.avs_entries.specs.Entries.{entry_in, slot_by}
use Rattle.avs_compact.specs.CompactSet.{CompactSet, over_of, disk_of, entry_of}
use Rattle.avs_compact.specs.Calls.{IsInSlot}
use Rattle.avs_compact.specs.Steps.{WritesOne}
use Rattle.avs_compact.proofs.Due.{state_some_two}
use Rattle.avs_compact.proofs.Readings.{slot_there}
use Rattle.avs_compact.proofs.Written.{puts_part, size_there, first_split}
use Rattle.avs_compact.proofs.compact.Compact.put_part.Goals as goal

pub write_slot-requires-clause-inside : goal.write_slot-requires-clause-inside
write_slot-requires-clause-inside g c =
    let i = c.self.inside in
    let seen = g.D.Disk.seen in
    let s : CompactSet = record { set = i.set; own = i.own; shadow = option_map seen i.shadow; areas = i.flip; memory = i.memory.items; next = i.next.items; blocks = i.blocks; low = i.low; ahead = i.ahead } in
    let blocks : s.blocks ≡ c.args.self.now.blocks = ap (λ (x : CompactSet). x.blocks) c.self.view_is in
    let entry : c.entry_in.result ≡ entry_of s (c.args.at / 64) = c.entry_in.ensures ∙ ap (λ (l : List ℕ). entry_in l (c.args.at / 64)) c.deref.ensures.value in
    let slot : c.slot_by-slot.result ≡ slot_by (entry_of s (c.args.at / 64)) = c.slot_by-slot.ensures.is ∙ ap slot_by entry in
    let there = rw (← c.self.view_is) at c.requires.there in
    let placed = rw (← c.self.view_is) at c.requires.slots in
    let split = rw (← c.self.view_is) at c.requires.split in
    let len : 0 < length c.args.bytes.now / 512 = omega (arith, c.requires.some, c.requires.whole) in
    subst (λ (q : ℕ). IsInSlot (disk_of s.shadow) (over_of c.args.over.now) s.own q (c.args.at % 64) (length c.args.bytes.now)) (sym slot)
    (slot_there s (over_of c.args.over.now) (c.args.at / 64) (c.args.at % 64) (length c.args.bytes.now) c.self.invariant.0.room there placed (omega (arith, blocks, c.requires.inside, c.requires.some, c.requires.whole))
    (state_some_two (entry_of s (c.args.at / 64)) (first_split s c.args.at (length c.args.bytes.now / 512) len split)) c.requires.some c.requires.whole c.requires.one)

pub returns-clause-puts : goal.returns-clause-puts
returns-clause-puts g c =
    let i = c.self.inside in
    let seen = g.D.Disk.seen in
    let s : CompactSet = record { set = i.set; own = i.own; shadow = option_map seen i.shadow; areas = i.flip; memory = i.memory.items; next = i.next.items; blocks = i.blocks; low = i.low; ahead = i.ahead } in
    let blocks : s.blocks ≡ c.args.self.now.blocks = ap (λ (x : CompactSet). x.blocks) c.self.view_is in
    let entry : c.entry_in.result ≡ entry_of s (c.args.at / 64) = c.entry_in.ensures ∙ ap (λ (l : List ℕ). entry_in l (c.args.at / 64)) c.deref.ensures.value in
    let slot : c.slot_by-slot.result ≡ slot_by (entry_of s (c.args.at / 64)) = c.slot_by-slot.ensures.is ∙ ap slot_by entry in
    let there = rw (← c.self.view_is) at c.requires.there in
    let split = rw (← c.self.view_is) at c.requires.split in
    let len : 0 < length c.args.bytes.now / 512 = omega (arith, c.requires.some, c.requires.whole) in
    let o = over_of c.args.over.now in
    let o' = over_of c.write_slot.new.over in
    let writes = subst (λ (q : ℕ). WritesOne (disk_of s.shadow) o s.own q (c.args.at % 64) c.args.bytes.now c.write_slot.result (disk_of (option_map seen c.write_slot.new.shadow)) o') slot c.write_slot.ensures.writes in
    let on_disk = subst (λ (q : ℕ). s.own ≤ q → slot_from (q - s.own) + 64 ≤ o.disk.size) slot c.write_slot.ensures.on_disk in
    rw (← c.self.view_is) (puts_part s (option_map seen c.write_slot.new.shadow) (search rules) o o' c.args.at c.args.bytes.now len (omega (arith, blocks, c.requires.inside)) c.requires.one
    (first_split s c.args.at (length c.args.bytes.now / 512) len split) c.write_slot.result writes (λ _. size_there (64 * s.own) s.shadow there c.self.invariant.0.room) on_disk)
