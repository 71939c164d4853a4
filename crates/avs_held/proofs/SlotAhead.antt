-- Chunks of a compact set are copied ahead.
use Rattle.std.proofs.Common.{◌≡◌, ◌≢◌, ℕ, ◌+◌, ◌-◌, ◌/◌, ◌%◌, ◌<◌, ◌≤◌, Bool, true, false, ◌&&◌, eqb, Result, Ok, Err, OnOk, ◌∙◌, sym, refl, ap, subst, arith}
use Rattle.std.proofs.lemmas.Result.{on_ok_weaker}
use Rattle.avs_seg.specs.Image.{Image, block_at}
use Rattle.avs_seg.specs.Segment.{seg_count}
use Rattle.avs_seg.proofs.Exits.{ok_exit}
use Rattle.avs_dev.specs.Seen.{Seen, IsTold, shown}
use Rattle.avs_dev.proofs.Going.{shown_told}
use Rattle.avs_over.specs.Over.{OverSet}
use Rattle.avs_entries.specs.Entries.{IsEntry, slot_by, entry_for, entry_in, entry_on}
use Rattle.avs_compact.specs.CompactSet as compact
use Rattle.avs_compact.specs.CompactSet.{CompactSet, disk_of, entry_of, disk_entry, next_of, in_slot}
use Rattle.avs_compact.specs.Disks.{Shadow, Bitmap, Over}
use Rattle.avs_compact.specs.Calls as calls
use Rattle.avs_compact.specs.Places.{ArePlaced}
use Rattle.avs_compact.specs.Keeping as keeping
use Rattle.avs_compact.specs.Ahead as ahead
use Rattle.avs_sets.specs.Sets as sets
use Rattle.avs_sets.specs.Sets.{ChunkPlace, OwnSlot, OverSlot, block_in, KeepsMaster, KeepsShadow}
use Rattle.avs_held.specs.declared.held.Seat.{Seat}
use Rattle.avs_held.specs.Held.{area_of, told_state, told_place, slot_place, slot_map, compact_set, IsSeated}
use Rattle.avs_held.specs.Rooms.{on_disks}
use Rattle.avs_held.specs.Staging.{IsOfSet, is_ahead, in_place, AreCopied, CopiesTold}
use Rattle.avs_held.proofs.Told.{place_formed, own_place, over_place, state_formed, state_for, form_for, same_zero, place_block, in_map}
use Rattle.avs_held.proofs.Slotted.{AreFormed, same_disk, plain_master, plain_shadow, shown_is}
use Rattle.avs_held.proofs.SlotSteps as steps
use Rattle.avs_held.proofs.SlotSteps.{IsSameSlots, placed_now, formed_disk, slots_kept}
use Rattle.avs_held.proofs.SlotStagings.{slot_next}

never : false ≡ true → ⊥
never e = cc

both : {T E : Type 0} (P Q : Type 0) (r : Result T E) → OnOk r P → OnOk r Q → OnOk r (P × Q)
both P Q (Ok x) p q = (p, q)
both P Q (Err e) p q = tt

module _ (seat : Seat) (s s' : CompactSet) (m m' : Seen) (o o' : OverSet) (told told' : ℕ → Bool) (first end : ℕ) {T E : Type 0} (r : Result T E) (fit : IsSeated seat s)
    (form : AreFormed (entry_of s) (compact.chunks_of s)) (same : (c : ℕ) → c < compact.chunks_of s → is_ahead told (compact_set seat s) c ≡ true → told' c ≡ true)
    (a : ahead.CopiesTold s o m told' first end r s' o' m') where
  shape : IsSameSlots s s'
  shape = record {
    set = ap (λ (x : CompactSet). x.set) a.keeps.is;
    own = ap (λ (x : CompactSet). x.own) a.keeps.is;
    blocks = ap (λ (x : CompactSet). x.blocks) a.keeps.is;
    live_b = ap (λ (x : CompactSet). x.areas.live_b) a.keeps.is;
    there = a.keeps.there;
  }

  known_then : calls.IsKnown s o → calls.IsKnown s' o'
  known_then kn = record {
    shadow = (a.keeps.goes.lasts Shadow).told kn.shadow;
    bitmap = (a.keeps.goes.lasts Bitmap).told kn.bitmap;
    over = (a.keeps.goes.lasts Over).told kn.over;
    step = record { each = λ c lt. ap (λ (x : CompactSet). entry_of x c) a.keeps.is ∙ kn.step.each c (subst (λ (n : ℕ). c < seg_count n) shape.blocks lt) ∙ sym (ap (λ (x : CompactSet). disk_entry x c) a.keeps.is) };
  }

  placed_then : calls.IsKnown s o → keeping.IsPlaced s o → IsTold m → ArePlaced (disk_entry s') s'.own (compact.chunks_of s') s'.set o'.owners
  placed_then kn p is = placed_now s s' shape (disk_entry s') o'.owners (a.keeps.seen kn p is).placed

  -- ---- what is copied

  module _ (m_told : IsTold m) (s_told : IsTold (disk_of s.shadow)) (o_told : IsTold o.disk) (kept : ahead.KeepsSlotsFor s o (ahead.told_from told' first end) s' o') (copied : ahead.AreCopied s o m.image (ahead.told_from told' first end) s' o') where
    entry_is : (c : ℕ) → first ≤ c → c < end → told' c ≡ true → next_of s' c ≡ entry_for 2 (slot_by (next_of s' c))
    entry_is c low high is = (kept.kept c low high is).entry

    made : (c : ℕ) → IsEntry (entry_for 2 (slot_by (next_of s' c)))
    made c = form_for 2 (slot_by (next_of s' c)) (omega arith) (slot_next (next_of s' c))

    next_form : (c : ℕ) → first ≤ c → c < end → told' c ≡ true → IsEntry (next_of s' c)
    next_form c low high is = subst (λ (e : ℕ). IsEntry e) (sym (entry_is c low high is)) (made c)

    shadow_now : shown (sets.disk_of s'.shadow) ≡ (disk_of s'.shadow).image
    shadow_now = shown_is s'.shadow ((a.keeps.goes.lasts Shadow).told s_told)

    over_now : shown o'.disk ≡ o'.disk.image
    over_now = shown_told o'.disk ((a.keeps.goes.lasts Over).told o_told)

    block_now : (place : ChunkPlace) (i : ℕ) → in_place (on_disks (compact_set seat s') m' o') place i ≡ block_in (disk_of s'.shadow).image o'.disk.image place i
    block_now place i = λ p. block_in (shadow_now p) (over_now p) place i

    block_was : (place : ChunkPlace) (i : ℕ) → in_place (on_disks (compact_set seat s) m o) place i ≡ block_in (disk_of s.shadow).image o.disk.image place i
    block_was place i = λ p. block_in (shown_is s.shadow s_told p) (shown_told o.disk o_told p) place i

    each : (i : ℕ) → i < s.blocks → first ≤ i / 64 → i / 64 < end → told' (i / 64) ≡ true → in_place (on_disks (compact_set seat s') m' o') (told_place s'.own (next_of s' (i / 64))) i ≡ block_at (shown m) i
    each i lt low high is =
        block_now (told_place s'.own (next_of s' (i / 64))) i
        ∙ ap (λ (p : ChunkPlace). block_in (disk_of s'.shadow).image o'.disk.image p i) (place_formed s'.own (next_of s' (i / 64)) (next_form (i / 64) low high is))
        ∙ place_block s'.own (slot_by (next_of s' (i / 64))) (disk_of s'.shadow).image o'.disk.image i
        ∙ copied.each i lt low high is
        ∙ sym (ap (λ (img : Image). block_at img i) (shown_told m m_told))

    -- a slot of the set that is none of theirs
    elsewhere : (place : ChunkPlace) (k : ℕ) → slot_place s.own k ≡ place → ((c : ℕ) → first ≤ c → c < end → told_place s'.own (next_of s' c) ≢ place) → (i : ℕ)
        → in_place (on_disks (compact_set seat s') m' o') place i ≡ in_place (on_disks (compact_set seat s) m o) place i
    elsewhere place k at other i =
        block_now place i
        ∙ sym (ap (λ (p : ChunkPlace). block_in (disk_of s'.shadow).image o'.disk.image p i) at)
        ∙ place_block s.own k (disk_of s'.shadow).image o'.disk.image i
        ∙ copied.others k (i % 64) (omega arith) (λ c low high is e. other c low high
        (place_formed s'.own (next_of s' c) (next_form c low high is) ∙ (λ p. slot_place (shape.own p) (e p)) ∙ at))
        ∙ sym (place_block s.own k (disk_of s.shadow).image o.disk.image i)
        ∙ ap (λ (p : ChunkPlace). block_in (disk_of s.shadow).image o.disk.image p i) at
        ∙ sym (block_was place i)

    others : (place : ChunkPlace) → IsOfSet (compact_set seat s) place → ((c : ℕ) → first ≤ c → c < end → told_place s'.own (next_of s' c) ≢ place) → (i : ℕ)
        → in_place (on_disks (compact_set seat s') m' o') place i ≡ in_place (on_disks (compact_set seat s) m o) place i
    others (OwnSlot p) is other i = elsewhere (OwnSlot p) p (own_place s.own p (is refl)) other i
    others (OverSlot p) is other i = elsewhere (OverSlot p) (s.own + p) (over_place s.own (s.own + p) (omega arith) ∙ ap (λ (n : ℕ). OverSlot n) back) other i
      where
        back : s.own + p - s.own ≡ p
        back = omega arith

    are_copied : AreCopied told (on_disks (compact_set seat s) m o) first end (on_disks (compact_set seat s') m' o')
    are_copied = record {
      each = λ i lt low high is. let here : i / 64 < compact.chunks_of s = omega (arith, lt) in each i lt low high (same (i / 64) here is);
      others = others;
      splits = λ compact_is c lt low high is.
          in_map s'.own (compact.chunks_of s') (next_of s') c (subst (λ (n : ℕ). c < seg_count n) (sym shape.blocks) lt)
          ∙ ap told_state (entry_is c low high (same c lt is)) ∙ state_formed (entry_for 2 (slot_by (next_of s' c))) (made c) ∙ state_for 2 (slot_by (next_of s' c)) (slot_next (next_of s' c));
    }

  pub copies_set : CopiesTold (on_disks (compact_set seat s) m o) told first end r (on_disks (compact_set seat s') m' o')
  copies_set = record {
    step = λ owned says. steps.shows_same seat s s' m m' o o' r shape a.keeps.goes fit form a.keeps.over (λ kn. ok_exit r (known_then kn)) placed_then
        (λ kn p is. plain_master s s' o o' m.image m'.image shape.blocks (formed_disk s o form kn) (placed_then kn p is).form (a.keeps.seen kn p is))
        (λ kn p is. plain_shadow s s' o o' m.image m'.image shape.blocks (formed_disk s o form kn) (placed_then kn p is).form (a.keeps.seen kn p is))
        (λ c is lt. ap (λ (x : CompactSet). disk_entry x c) a.keeps.is) says owned;
    rest = λ p. record {
      slot = (a.keeps.is p).set;
      kind = (compact_set seat s).kind;
      master = seat.master;
      size = record { blocks = (a.keeps.is p).blocks; own = (a.keeps.is p).own };
      over = seat.over;
      shadow = s'.shadow;
      bitmap = (a.keeps.is p).areas.disk;
      area = λ b. slot_map (a.keeps.is p).own (seg_count (a.keeps.is p).blocks) (λ c. entry_on (area_of (a.keeps.is p).areas b) c);
      memory = slot_map (a.keeps.is p).own (seg_count (a.keeps.is p).blocks) (λ c. entry_in (a.keeps.is p).memory c);
      next = (compact_set seat s').next;
      live_b = (a.keeps.is p).areas.live_b;
    };
    chunks = λ is. absurd (never (sym is));
    master = ap (λ (d : Seen). shown d) a.keeps.master;
    owned = slots_kept seat s s' m m' o o' shape form a.keeps.over a.keeps.slots;
    outside = λ is. absurd (never (sym is));
    copied = λ m_told s_told o_told.
        let was = subst (λ (d : Seen). IsTold d) (same_disk s.shadow) s_told in
        on_ok_weaker r (λ x. are_copied m_told was o_told x.0 x.1) (both _ _ r a.kept (a.copied m_told was o_told));
    adds = λ is. absurd (never (sym is));
  }

-- a chunk that is told and has no contents of its own has no slot
pub ahead_is : (seat : Seat) (s : CompactSet) (told : ℕ → Bool) (c : ℕ) → c < compact.chunks_of s → is_ahead told (compact_set seat s) c ≡ (told c && eqb (entry_of s c) 0)
ahead_is seat s told c lt = ap (λ (b : Bool). told c && b) (ap (λ (k : ℕ). eqb k 0) (in_map s.own (compact.chunks_of s) (entry_of s) c lt) ∙ same_zero (entry_of s c))

-- the set stays in its seat
pub ahead_seat : {T E : Type 0} (seat : Seat) (s s' : CompactSet) (m m' : Seen) (o o' : OverSet) (r : Result T E) → IsSeated seat s → ahead.KeepsAhead s o m r s' o' m' → IsSeated seat s'
ahead_seat seat s s' m m' o o' r fit k = steps.seated_kept seat s s' (record {
  set = ap (λ (x : CompactSet). x.set) k.is;
  own = ap (λ (x : CompactSet). x.own) k.is;
  blocks = ap (λ (x : CompactSet). x.blocks) k.is;
  live_b = ap (λ (x : CompactSet). x.areas.live_b) k.is;
  there = k.there;
}) (k.goes.lasts Shadow).size fit
