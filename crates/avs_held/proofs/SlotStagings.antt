-- Entries of a compact set are staged and made live, and chunks of it are copied ahead.
use Rattle.std.proofs.Common.{◌≡◌, ◌≢◌, ◌⊎◌, inl, inr, ℕ, ◌+◌, ◌-◌, ◌*◌, ◌/◌, ◌^◌, ◌<◌, ◌≤◌, min, nat_lt, Bool, true, false, ◌&&◌, cond, eqb, is_some, List, Result, ◌∙◌, sym, refl, ap, subst, arith}
use Rattle.std.proofs.lemmas.Bool.{cases_lt, cases_eq, cases_Bool, eq-eqb, ne_eqb, le-ltb}
use Rattle.std.proofs.lemmas.Result.{on_ok_weaker, on_err_weaker}
use Rattle.avs_seg.specs.Image.{Image, block_at}
use Rattle.avs_seg.specs.Segment.{seg_count}
use Rattle.avs_seg.proofs.Exits.{ok_exit}
use Rattle.avs_dev.specs.Seen.{Seen, IsTold}
use Rattle.avs_dev.specs.Devices.{AllGoOn, raised}
use Rattle.avs_dev.proofs.Going.{shown_told}
use Rattle.avs_over.specs.Over.{OverSet}
use Rattle.avs_chunks.specs.Staging.{to_master}
use Rattle.avs_entries.specs.Entries.{IsEntry, state_by, slot_by, entry_for, entry_in, entry_on, area_len}
use Rattle.avs_entries.specs.Slots.{AreEntries}
use Rattle.avs_compact.specs.CompactSet as compact
use Rattle.avs_compact.specs.CompactSet.{CompactSet, disk_of, entry_of, disk_entry, next_of, staged_entry, in_slot}
use Rattle.avs_compact.specs.Disks.{four, disk_at}
use Rattle.avs_compact.specs.Calls as calls
use Rattle.avs_compact.specs.Places.{ArePlaced}
use Rattle.avs_compact.specs.Keeping as keeping
use Rattle.avs_compact.specs.Staging as staging
use Rattle.avs_compact.specs.Ahead as ahead
use Rattle.avs_compact.proofs.Going.{bitmap_goes}
use Rattle.avs_sets.specs.Says.{BlockSays}
use Rattle.avs_sets.specs.Sets.{ChunkMap, SetRead, read_from, KeepsMaster, KeepsShadow}
use Rattle.avs_sets.specs.Steps.{ShowsSame}
use Rattle.avs_held.specs.declared.held.Seat.{Seat}
use Rattle.avs_held.specs.Held.{area_of, told_state, told_place, slot_place, slot_map, compact_set, IsSeated}
use Rattle.avs_held.specs.Rooms.{Mine, on_disks, IsOwned}
use Rattle.avs_held.specs.Staging.{staged_of, SetsMap, StagesStates, split_state, AreStates, TurnsSet}
use Rattle.avs_held.proofs.Projected.{live_is, staged_is}
use Rattle.avs_held.proofs.Told.{state_formed, place_formed, told_zero, zero_told, same_zero, state_form, state_for, slot_for, form_for, in_map, past_map, there}
use Rattle.avs_held.proofs.Slotted.{AreFormed, memory_map, plain_read}
use Rattle.avs_held.proofs.SlotSteps as steps
use Rattle.avs_held.proofs.SlotSteps.{IsSameSlots, formed_disk, placed_disk}
use Rattle.avs_held.proofs.SlotCalls.{memory_state}
use Rattle.avs_held.proofs.ShadowReads.{master_same, shadow_same}

-- ---- entries are staged

-- the entries that are staged, by the states that they tell: what stands in them stands where it stood, or where it was copied ahead
pub record AreTold (s : CompactSet) (to_entry to : ℕ → ℕ) : Type 0 where
  pub states : (c : ℕ) → c < compact.chunks_of s → told_state (to_entry c) ≡ to c
  pub past : (c : ℕ) → compact.chunks_of s ≤ c → to c ≡ 0
  pub own : (c : ℕ) → c < compact.chunks_of s → told_state (to_entry c) ≢ 0 → (memory_map s).state c ≢ 0 → told_place s.own (to_entry c) ≡ (memory_map s).place c
  pub ahead : (c : ℕ) → c < compact.chunks_of s → told_state (to_entry c) ≢ 0 → (memory_map s).state c ≡ 0 → told_place s.own (to_entry c) ≡ told_place s.own (next_of s c)

module _ (seat : Seat) (s s' : CompactSet) (to_entry to : ℕ → ℕ) (first n blocks : ℕ) {T E : Type 0} (r : Result T E) (fit : IsSeated seat s)
    (form : AreFormed (entry_of s) (compact.chunks_of s)) (told : AreTold s to_entry to) (blocks_is : blocks ≡ min (16 * n) (area_len (compact.chunks_of s) - 16 * first))
    (a : staging.StagesBlocks s to_entry (16 * first) blocks r s') where
  shape : IsSameSlots s s'
  shape = record {
    set = ap (λ (x : CompactSet). x.set) a.is;
    own = ap (λ (x : CompactSet). x.own) a.is;
    blocks = ap (λ (x : CompactSet). x.blocks) a.is;
    live_b = ap (λ (x : CompactSet). x.areas.live_b) a.is;
    there = ap (λ (x : CompactSet). is_some x.shadow) a.is;
  }

  goes : (m : Seen) (o : OverSet) → AllGoOn (disk_at s o m) r (disk_at s' o m)
  goes m o = subst (λ (d : Seen). AllGoOn (disk_at s o m) r (four m d s'.areas.disk o.disk)) (sym (ap (λ (x : CompactSet). disk_of x.shadow) a.is))
      (bitmap_goes m (disk_of s.shadow) s.areas.disk s'.areas.disk o.disk r a.goes)

  entries_same : IsTold s.areas.disk → (c : ℕ) → disk_entry s' c ≡ disk_entry s c
  entries_same is c = ap (λ (img : Image). entry_on img c) (a.kept is).live

  placed_then : (o : OverSet) → calls.IsKnown s o → keeping.IsPlaced s o → ArePlaced (disk_entry s') s'.own (compact.chunks_of s') s'.set o.owners
  placed_then o kn p = steps.placed_now s s' shape (disk_entry s') o.owners
      (subst (λ (img : Image). ArePlaced (entry_on img) s.own (compact.chunks_of s) s.set o.owners) (sym (a.kept kn.bitmap).live) (placed_disk s o form kn p))

  known_then : (o : OverSet) → calls.IsKnown s o → calls.IsKnown s' o
  known_then o kn = record {
    shadow = subst (λ (d : Seen). IsTold d) (sym (ap (λ (x : CompactSet). disk_of x.shadow) a.is)) kn.shadow;
    bitmap = a.goes.lasts.told kn.bitmap;
    over = kn.over;
    step = record { each = λ c lt. ap (λ (x : CompactSet). entry_of x c) a.is ∙ kn.step.each c (subst (λ (k : ℕ). c < seg_count k) shape.blocks lt) ∙ sym (entries_same kn.bitmap c) };
  }

  reads_same : (o : OverSet) → IsTold s.areas.disk → plain_read s' o ≡ plain_read s o
  reads_same o is = λ p. read_from (slot_map (a.is p).own (seg_count (a.is p).blocks) (entry_on ((a.kept is).live p))) (a.is p).blocks (disk_of (a.is p).shadow).image o.disk.image

  on_same : (m : Image) (o : OverSet) (P : SetRead → Image → SetRead → Image → Type 0) → IsTold s.areas.disk → P (plain_read s o) m (plain_read s o) m → P (plain_read s o) m (plain_read s' o) m
  on_same m o P is same = subst (λ (x : SetRead). P (plain_read s o) m x m) (sym (reads_same o is)) same

  step : (says : BlockSays) (m : Seen) (o : OverSet) → IsOwned (on_disks (compact_set seat s) m o) → ShowsSame says (Mine (compact_set seat s) o) (compact_set seat s) m o.disk r (compact_set seat s') m o.disk
  step says m o owned = steps.shows_same seat s s' m m o o r shape (goes m o) fit form (λ p is. record { label = refl; slots = λ k i lt other. refl })
      (λ kn. ok_exit r (known_then o kn)) (λ kn p is. placed_then o kn p)
      (λ kn p is. on_same m.image o KeepsMaster kn.bitmap (master_same (plain_read s o) m.image))
      (λ kn p is. on_same m.image o KeepsShadow kn.bitmap (shadow_same (plain_read s o) m.image))
      (λ c is lt. entries_same is c) says owned

  live_same : IsTold s.areas.disk → area_of s'.areas s.areas.live_b ≡ area_of s.areas s.areas.live_b
  live_same is = live_is s'.areas s.areas.live_b (a.goes.lasts.told is) (sym shape.live_b) ∙ (a.kept is).live ∙ sym (live_is s.areas s.areas.live_b is refl)

  -- a map of chunks, by the entries that were set
  module _ (before after : ℕ → ℕ) (set : staging.AreSetTo before after to_entry (128 * (16 * first)) (128 * (16 * first + blocks))) where
    inside : (c : ℕ) → c < compact.chunks_of s → 2048 * first ≤ c → c < 2048 * (first + n) → after c ≡ to_entry c
    inside c lt low high = set.inside c (omega (arith, low)) (covered c (compact.chunks_of s) (area_len (compact.chunks_of s)) lt low high refl blocks_is)
      where
        covered : (c chunks len : ℕ) → c < chunks → 2048 * first ≤ c → c < 2048 * (first + n) → len ≡ (chunks + 127) / 128 → blocks ≡ min (16 * n) (len - 16 * first) → c < 128 * (16 * first + blocks)
        covered c chunks len lt low high len_is is = omega (arith, lt, low, high, len_is, is)

    outside : (c : ℕ) → (c < 2048 * first) ⊎ (2048 * (first + n) ≤ c) → after c ≡ before c
    outside c (inl low) = set.outside c (inl (omega (arith, low)))
    outside c (inr high) = set.outside c (inr (past c (area_len (compact.chunks_of s)) high blocks_is))
      where
        past : (c len : ℕ) → 2048 * (first + n) ≤ c → blocks ≡ min (16 * n) (len - 16 * first) → 128 * (16 * first + blocks) ≤ c
        past c len high is = omega (arith, high, is)

    sets_map : SetsMap (compact_set seat s) to first n (slot_map s.own (compact.chunks_of s) before) (slot_map s.own (compact.chunks_of s) after)
    sets_map = record {
      states = record {
        inside = λ c low high. elim (cases_lt c (compact.chunks_of s)) [
          | inl lt ↦ in_map s.own (compact.chunks_of s) after c lt ∙ ap told_state (inside c lt low high) ∙ told.states c lt
          | inr le ↦ past_map s.own (compact.chunks_of s) after c le ∙ sym (told.past c le)
        ];
        outside = λ c out. elim (cases_lt c (compact.chunks_of s)) [
          | inl lt ↦ in_map s.own (compact.chunks_of s) after c lt ∙ ap told_state (outside c out) ∙ sym (in_map s.own (compact.chunks_of s) before c lt)
          | inr le ↦ past_map s.own (compact.chunks_of s) after c le ∙ sym (past_map s.own (compact.chunks_of s) before c le)
        ];
      };
      places = record {
        own = λ c low high some some'. let lt = there s.own (compact.chunks_of s) after c some in
            ap (λ (e : ℕ). told_place s.own e) (inside c lt low high) ∙ told.own c lt (some_is c low high some) some';
        ahead = λ c low high some none. let lt = there s.own (compact.chunks_of s) after c some in
            ap (λ (e : ℕ). told_place s.own e) (inside c lt low high) ∙ told.ahead c lt (some_is c low high some) none;
      };
    }
      where
        some_is : (c : ℕ) → 2048 * first ≤ c → c < 2048 * (first + n) → (slot_map s.own (compact.chunks_of s) after).state c ≢ 0 → told_state (to_entry c) ≢ 0
        some_is c low high some = λ z. let lt = there s.own (compact.chunks_of s) after c some in
            some (in_map s.own (compact.chunks_of s) after c lt ∙ ap told_state (inside c lt low high) ∙ z)

  map_same : (f : ℕ → ℕ) → slot_map s'.own (compact.chunks_of s') f ≡ slot_map s.own (compact.chunks_of s) f
  map_same f = λ p. slot_map (shape.own p) (seg_count (shape.blocks p)) f

  staged_was : IsTold s.areas.disk → staged_of (compact_set seat s) ≡ slot_map s.own (compact.chunks_of s) (staged_entry s)
  staged_was is = ap (λ (img : Image). slot_map s.own (compact.chunks_of s) (λ c. entry_on img c)) (staged_is s.areas is)

  staged_now : IsTold s.areas.disk → staged_of (compact_set seat s') ≡ slot_map s.own (compact.chunks_of s) (staged_entry s')
  staged_now is = ap (λ (img : Image). slot_map s'.own (compact.chunks_of s') (λ c. entry_on img c)) (staged_is s'.areas (a.goes.lasts.told is)) ∙ map_same (staged_entry s')

  pub stages_set : StagesStates (compact_set seat s) to first n r (compact_set seat s')
  stages_set = record {
    step = step;
    rest = λ p. record {
      slot = (a.is p).set;
      kind = (compact_set seat s).kind;
      master = seat.master;
      size = record { blocks = (a.is p).blocks; own = (a.is p).own };
      over = seat.over;
      shadow = (a.is p).shadow;
      bitmap = s'.areas.disk;
      area = (compact_set seat s').area;
      memory = slot_map (a.is p).own (seg_count (a.is p).blocks) (λ c. entry_in (a.is p).memory c);
      next = (compact_set seat s').next;
      live_b = (a.is p).areas.live_b;
    };
    live = λ is. ap (λ (img : Image). slot_map s'.own (compact.chunks_of s') (λ c. entry_on img c)) (live_same is) ∙ map_same (λ c. entry_on (area_of s.areas s.areas.live_b) c);
    label = λ is. ap (λ (img : Image). block_at img 0) (shown_told s'.areas.disk (a.goes.lasts.told is)) ∙ (a.kept is).label ∙ sym (ap (λ (img : Image). block_at img 0) (shown_told s.areas.disk is));
    staged = λ is. on_ok_weaker r (λ x. subst (λ (y : ChunkMap). SetsMap (compact_set seat s) to first n (staged_of (compact_set seat s)) y) (sym (staged_now is))
        (subst (λ (y : ChunkMap). SetsMap (compact_set seat s) to first n y (slot_map s.own (compact.chunks_of s) (staged_entry s'))) (sym (staged_was is)) (sets_map (staged_entry s) (staged_entry s') x))) (a.staged is);
    held = on_ok_weaker r (λ x. subst (λ (y : ChunkMap). SetsMap (compact_set seat s) to first n (compact_set seat s).next y) (sym (map_same (next_of s'))) (sets_map (next_of s) (next_of s') x)) a.held;
    written = on_ok_weaker r (λ is. is ∙ ap (λ (k : ℕ). raised s.areas.disk.written k) blocks_is) a.written;
    most = on_err_weaker r (λ le. subst (λ (k : ℕ). s'.areas.disk.written ≤ s.areas.disk.written + k) blocks_is le) a.most;
  }

-- ---- what is staged

-- no chunk has contents of its own
pub told_none : (s : CompactSet) → AreTold s (λ _. 0) (λ _. 0)
told_none s = record { states = λ c lt. refl; past = λ c le. refl; own = λ c lt some some'. absurd (some refl); ahead = λ c lt some none. absurd (some refl) }

pub slot_next : (e : ℕ) → slot_by e + 1 < 2 ^ 30
slot_next e = omega arith

-- once the master is the shadow
pub told_master : (s : CompactSet) → AreFormed (entry_of s) (compact.chunks_of s) → AreTold s (λ c. staging.to_master (entry_of s c)) (λ c. to_master ((memory_map s).state c))
told_master s form = record {
  states = λ c lt. state c lt (cases_eq (state_by (entry_of s c)) 2);
  past = λ c le. ap to_master (past_map s.own (compact.chunks_of s) (entry_of s) c le);
  own = λ c lt some some'. place c (cases_eq (state_by (entry_of s c)) 2) lt;
  ahead = λ c lt some none. absurd (some (zero c lt none));
}
  where
    is_split : (c : ℕ) → state_by (entry_of s c) ≡ 2 → staging.to_master (entry_of s c) ≡ entry_for 3 (slot_by (entry_of s c))
    is_split c is = ap (λ (b : Bool). cond b (entry_for 3 (slot_by (entry_of s c))) (entry_of s c)) (eq-eqb (state_by (entry_of s c)) 2 is)

    not_split : (c : ℕ) → state_by (entry_of s c) ≢ 2 → staging.to_master (entry_of s c) ≡ entry_of s c
    not_split c ne = ap (λ (b : Bool). cond b (entry_for 3 (slot_by (entry_of s c))) (entry_of s c)) (ne_eqb (state_by (entry_of s c)) 2 ne)

    made : (c : ℕ) → IsEntry (entry_for 3 (slot_by (entry_of s c)))
    made c = form_for 3 (slot_by (entry_of s c)) (omega arith) (slot_next (entry_of s c))

    state : (c : ℕ) → c < compact.chunks_of s → (state_by (entry_of s c) ≡ 2) ⊎ (state_by (entry_of s c) ≢ 2) → told_state (staging.to_master (entry_of s c)) ≡ to_master ((memory_map s).state c)
    state c lt (inl is) = ap told_state (is_split c is) ∙ state_formed (entry_for 3 (slot_by (entry_of s c))) (made c) ∙ state_for 3 (slot_by (entry_of s c)) (slot_next (entry_of s c))
        ∙ sym (ap to_master (memory_state s form c lt ∙ is))
    state c lt (inr ne) = ap told_state (not_split c ne) ∙ state_formed (entry_of s c) (form c lt)
        ∙ sym (ap to_master (memory_state s form c lt) ∙ ap (λ (b : Bool). cond b 3 (state_by (entry_of s c))) (ne_eqb (state_by (entry_of s c)) 2 ne))

    place : (c : ℕ) → (state_by (entry_of s c) ≡ 2) ⊎ (state_by (entry_of s c) ≢ 2) → c < compact.chunks_of s → told_place s.own (staging.to_master (entry_of s c)) ≡ (memory_map s).place c
    place c (inl is) lt = ap (λ (e : ℕ). told_place s.own e) (is_split c is) ∙ place_formed s.own (entry_for 3 (slot_by (entry_of s c))) (made c)
        ∙ ap (λ (k : ℕ). slot_place s.own k) (slot_for 3 (slot_by (entry_of s c)) (slot_next (entry_of s c))) ∙ sym (place_formed s.own (entry_of s c) (form c lt))
    place c (inr ne) lt = ap (λ (e : ℕ). told_place s.own e) (not_split c ne)

    zero : (c : ℕ) → c < compact.chunks_of s → (memory_map s).state c ≡ 0 → told_state (staging.to_master (entry_of s c)) ≡ 0
    zero c lt none = state c lt (cases_eq (state_by (entry_of s c)) 2) ∙ ap to_master none

-- with the chunks of a part split that are told
module _ (seat : Seat) (s : CompactSet) (part : ℕ) (bits : List ℕ) (form : AreFormed (entry_of s) (compact.chunks_of s)) where
  abbrev is_told : ℕ → Bool
  is_told c = nat_lt c (compact.chunks_of s) && staging.told_by bits part c

  abbrev inner : ℕ → ℕ
  inner c = cond (eqb (entry_of s c) 0) (next_of s c) (entry_for 2 (slot_by (entry_of s c)))

  entry_told : (c : ℕ) → is_told c ≡ true → ahead.split_of s part bits c ≡ inner c
  entry_told c is = ap (λ (b : Bool). cond b (inner c) (entry_of s c)) is

  entry_other : (c : ℕ) → is_told c ≡ false → ahead.split_of s part bits c ≡ entry_of s c
  entry_other c is = ap (λ (b : Bool). cond b (inner c) (entry_of s c)) is

  inner_zero : (c : ℕ) → entry_of s c ≡ 0 → inner c ≡ next_of s c
  inner_zero c z = ap (λ (b : Bool). cond b (next_of s c) (entry_for 2 (slot_by (entry_of s c)))) (eq-eqb (entry_of s c) 0 z)

  inner_some : (c : ℕ) → entry_of s c ≢ 0 → inner c ≡ entry_for 2 (slot_by (entry_of s c))
  inner_some c ne = ap (λ (b : Bool). cond b (next_of s c) (entry_for 2 (slot_by (entry_of s c)))) (ne_eqb (entry_of s c) 0 ne)

  made : (c : ℕ) → IsEntry (entry_for 2 (slot_by (entry_of s c)))
  made c = form_for 2 (slot_by (entry_of s c)) (omega arith) (slot_next (entry_of s c))

  zero_is : (c : ℕ) → c < compact.chunks_of s → eqb ((memory_map s).state c) 0 ≡ eqb (entry_of s c) 0
  zero_is c lt = ap (λ (k : ℕ). eqb k 0) (in_map s.own (compact.chunks_of s) (entry_of s) c lt) ∙ same_zero (entry_of s c)

  to_told : (c : ℕ) → is_told c ≡ true → split_state (compact_set seat s) part bits c ≡ cond (eqb ((memory_map s).state c) 0) ((compact_set seat s).next.state c) 2
  to_told c is = ap (λ (b : Bool). cond b (cond (eqb ((memory_map s).state c) 0) ((compact_set seat s).next.state c) 2) ((memory_map s).state c)) is

  to_other : (c : ℕ) → is_told c ≡ false → split_state (compact_set seat s) part bits c ≡ (memory_map s).state c
  to_other c is = ap (λ (b : Bool). cond b (cond (eqb ((memory_map s).state c) 0) ((compact_set seat s).next.state c) 2) ((memory_map s).state c)) is

  state : (c : ℕ) → c < compact.chunks_of s → (is_told c ≡ true) ⊎ (is_told c ≡ false) → (entry_of s c ≡ 0) ⊎ (entry_of s c ≢ 0) → told_state (ahead.split_of s part bits c) ≡ split_state (compact_set seat s) part bits c
  state c lt (inr is) which = ap told_state (entry_other c is) ∙ sym (to_other c is ∙ in_map s.own (compact.chunks_of s) (entry_of s) c lt)
  state c lt (inl is) (inl z) = ap told_state (entry_told c is ∙ inner_zero c z)
      ∙ sym (to_told c is ∙ ap (λ (b : Bool). cond b ((compact_set seat s).next.state c) 2) (zero_is c lt ∙ eq-eqb (entry_of s c) 0 z) ∙ in_map s.own (compact.chunks_of s) (next_of s) c lt)
  state c lt (inl is) (inr ne) = ap told_state (entry_told c is ∙ inner_some c ne) ∙ state_formed (entry_for 2 (slot_by (entry_of s c))) (made c) ∙ state_for 2 (slot_by (entry_of s c)) (slot_next (entry_of s c))
      ∙ sym (to_told c is ∙ ap (λ (b : Bool). cond b ((compact_set seat s).next.state c) 2) (zero_is c lt ∙ ne_eqb (entry_of s c) 0 ne))

  none : (c : ℕ) → compact.chunks_of s ≤ c → split_state (compact_set seat s) part bits c ≡ 0
  none c le = to_other c (ap (λ (b : Bool). b && staging.told_by bits part c) (le-ltb c (compact.chunks_of s) le)) ∙ past_map s.own (compact.chunks_of s) (entry_of s) c le

  place : (c : ℕ) → c < compact.chunks_of s → (is_told c ≡ true) ⊎ (is_told c ≡ false) → entry_of s c ≢ 0 → told_place s.own (ahead.split_of s part bits c) ≡ (memory_map s).place c
  place c lt (inr is) ne = ap (λ (e : ℕ). told_place s.own e) (entry_other c is)
  place c lt (inl is) ne = ap (λ (e : ℕ). told_place s.own e) (entry_told c is ∙ inner_some c ne) ∙ place_formed s.own (entry_for 2 (slot_by (entry_of s c))) (made c)
      ∙ ap (λ (k : ℕ). slot_place s.own k) (slot_for 2 (slot_by (entry_of s c)) (slot_next (entry_of s c))) ∙ sym (place_formed s.own (entry_of s c) (form c lt))

  kept : (c : ℕ) → c < compact.chunks_of s → told_state (ahead.split_of s part bits c) ≢ 0 → entry_of s c ≡ 0 → (is_told c ≡ true) ⊎ (is_told c ≡ false)
      → told_place s.own (ahead.split_of s part bits c) ≡ told_place s.own (next_of s c)
  kept c lt some z (inl is) = ap (λ (e : ℕ). told_place s.own e) (entry_told c is ∙ inner_zero c z)
  kept c lt some z (inr is) = absurd (some (ap told_state (entry_other c is) ∙ zero_told (entry_of s c) z))

  pub told_split : AreTold s (ahead.split_of s part bits) (split_state (compact_set seat s) part bits)
  told_split = record {
    states = λ c lt. state c lt (cases_Bool (nat_lt c (compact.chunks_of s) && staging.told_by bits part c)) (cases_eq (entry_of s c) 0);
    past = λ c le. none c le;
    own = λ c lt some some'. place c lt (cases_Bool (nat_lt c (compact.chunks_of s) && staging.told_by bits part c)) (λ z. some' (in_map s.own (compact.chunks_of s) (entry_of s) c lt ∙ zero_told (entry_of s c) z));
    ahead = λ c lt some zero. kept c lt some (told_zero (entry_of s c) (sym (in_map s.own (compact.chunks_of s) (entry_of s) c lt) ∙ zero)) (cases_Bool (nat_lt c (compact.chunks_of s) && staging.told_by bits part c));
  }

-- ---- the staged area is live

pub turns_set : (seat : Seat) (s s' : CompactSet) → staging.TurnsSet s s' → TurnsSet (compact_set seat s) (compact_set seat s')
turns_set seat s s' a = record {
  rest = λ p. record {
    slot = (a.rest p).set;
    kind = (compact_set seat s).kind;
    master = seat.master;
    size = record { blocks = (a.rest p).blocks; own = (a.rest p).own };
    over = seat.over;
    shadow = (a.rest p).shadow;
    bitmap = (a.rest p).areas.disk;
    area = λ b. slot_map (a.rest p).own (seg_count (a.rest p).blocks) (λ c. entry_on (area_of (a.rest p).areas b) c);
    memory = (compact_set seat s').memory;
    next = slot_map (a.rest p).own (seg_count (a.rest p).blocks) (λ c. entry_in (a.rest p).next c);
    live_b = (a.rest p).areas.live_b;
  };
  memory = λ ok. (λ p. slot_map (a.rest p).own (seg_count (a.rest p).blocks) (λ c. entry_in s'.memory c))
      ∙ ap (λ (l : List ℕ). slot_map s.own (compact.chunks_of s) (λ c. entry_in l c)) (a.memory (entries (ok refl)));
}
  where
    formed : AreStates (compact_set seat s).next (compact.chunks_of s) → AreFormed (next_of s) (compact.chunks_of s)
    formed ok c lt = state_form (next_of s c) (subst (λ (k : ℕ). k < 4) (in_map s.own (compact.chunks_of s) (next_of s) c lt) (ok.states c lt))

    some_now : (c : ℕ) → c < compact.chunks_of s → next_of s c ≢ 0 → (compact_set seat s).next.state c ≢ 0
    some_now c lt ne z = ne (told_zero (next_of s c) (sym (in_map s.own (compact.chunks_of s) (next_of s) c lt) ∙ z))

    entries : AreStates (compact_set seat s).next (compact.chunks_of s) → AreEntries (next_of s) s.own (compact.chunks_of s)
    entries ok = record {
      form = formed ok;
      apart = λ c d less lt some some' low same.
          let here : c < compact.chunks_of s = omega (arith, less, lt) in
          let ne : c ≢ d = λ e. omega (arith, e, less) in
          ok.apart c d here lt ne (some_now c here some) (some_now d lt some')
          (place_formed s.own (next_of s d) (formed ok d lt) ∙ ap (λ (k : ℕ). slot_place s.own k) same ∙ sym (place_formed s.own (next_of s c) (formed ok c here)));
    }

-- ---- the set stays in its seat

pub staged_seat : {T E : Type 0} (seat : Seat) (s s' : CompactSet) (to : ℕ → ℕ) (first n : ℕ) (r : Result T E) → IsSeated seat s → staging.StagesBlocks s to first n r s' → IsSeated seat s'
staged_seat seat s s' to first n r fit a = subst (λ (x : CompactSet). IsSeated seat x) (sym a.is) (record { slot = fit.slot; own = fit.own; disk = fit.disk })

pub turned_seat : (seat : Seat) (s s' : CompactSet) → IsSeated seat s → staging.TurnsSet s s' → IsSeated seat s'
turned_seat seat s s' fit a = subst (λ (x : CompactSet). IsSeated seat x) (sym a.rest) (record { slot = fit.slot; own = fit.own; disk = fit.disk })

-- all blocks of entries
pub whole_blocks : (chunks : ℕ) → area_len chunks ≡ min (16 * ((chunks + 2047) / 2048)) (area_len chunks - 16 * 0)
whole_blocks chunks = omega arith
