use Rattle.std.proofs.Common.{rules, ◌≡◌, ℕ, List, length, sym, subst}
use Rattle.std.specs.Option.{option_map}
use Rattle.std.specs.Vec.{with_items}
use Rattle.std.proofs.lemmas.List.{with_items_is}
use Rattle.avs_seg.specs.Segment.{seg_count}
use Rattle.avs_entries.specs.Entries.{entry_in}
use Rattle.avs_entries.specs.Slots.{AreEntries, HasBadEntry}
use Rattle.avs_compact.specs.CompactSet.{CompactSet}
use Rattle.avs_compact.specs.Staging.{TurnsSet}
use Rattle.avs_compact.proofs.Turned.{turns}
use Rattle.avs_compact.proofs.compact.Compact.turn.Goals as goal

pub returns : goal.returns
returns g c =
    let i = c.self.inside in
    let s : CompactSet = record { set = i.set; own = i.own; shadow = option_map g.D.Disk.seen i.shadow; areas = i.flip; memory = i.memory.items; next = i.next.items; blocks = i.blocks; low = i.low; ahead = i.ahead } in
    let bytes = c.mark_anew-self-inside.new.bytes in
    let items : (with_items c.swap.new.x bytes).items ≡ bytes = with_items_is c.swap.new.x bytes (search rules) in
    let was : c.deref_mut-2.result.now ≡ i.next.items = search rules in
    let other : c.swap.new.y.items ≡ i.memory.items = search rules in
    let own : length c.deref_mut.result.now ≡ i.own = search rules in
    let count : c.seg_count-end.result ≡ seg_count i.blocks = c.seg_count-end.ensures in
    let whole = subst (λ (n : ℕ). AreEntries (entry_in i.next.items) n (seg_count i.blocks) → bytes ≡ i.next.items) own
    (subst (λ (n : ℕ). AreEntries (entry_in i.next.items) (length c.deref_mut.result.now) n → bytes ≡ i.next.items) count
    (subst (λ (l : List ℕ). AreEntries (entry_in l) (length c.deref_mut.result.now) c.seg_count-end.result → bytes ≡ l) was c.mark_anew-self-inside.ensures.whole)) in
    let broken = subst (λ (n : ℕ). HasBadEntry (entry_in i.next.items) n (seg_count i.blocks) → (k : ℕ) → entry_in bytes k ≡ 0) own
    (subst (λ (n : ℕ). HasBadEntry (entry_in i.next.items) (length c.deref_mut.result.now) n → (k : ℕ) → entry_in bytes k ≡ 0) count
    (subst (λ (l : List ℕ). HasBadEntry (entry_in l) (length c.deref_mut.result.now) c.seg_count-end.result → (k : ℕ) → entry_in bytes k ≡ 0) was c.mark_anew-self-inside.ensures.broken)) in
    rw (← c.self.view_is) (rw items (subst (λ (l : List ℕ). TurnsSet s (record s { areas = c.turn.new.self; memory = bytes; next = l; low = 0; ahead = 0 })) (sym other) (turns s c.turn.new.self bytes c.turn.ensures.place c.turn.ensures.now_live c.turn.ensures.now_staged whole broken)))
