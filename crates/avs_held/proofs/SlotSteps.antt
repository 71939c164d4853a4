-- What a call on a compact set keeps is what a step of a set keeps of its group, where the slots in its entries are its own.
use Rattle.std.proofs.Common.{◌≡◌, ◌≢◌, ◌⊎◌, inl, inr, ℕ, ◌+◌, ◌-◌, ◌*◌, ◌<◌, ◌≤◌, Bool, true, false, not, is_some, Option, None, Some, Result, OnOk, ◌∙◌, sym, refl, ap, subst, arith}
use Rattle.std.proofs.lemmas.Bool.{cases_lt}
use Rattle.std.proofs.lemmas.Result.{on_ok_weaker}
use Rattle.avs_seg.specs.Image.{Image, block_at}
use Rattle.avs_seg.specs.Segment.{seg_count}
use Rattle.avs_dev.specs.Seen.{Seen, IsTold, shown}
use Rattle.avs_dev.specs.Devices.{AllGoOn}
use Rattle.avs_dev.proofs.Going.{shown_told}
use Rattle.avs_over.specs.Slots.{Owners, owner_at}
use Rattle.avs_over.specs.Over.{OverSet}
use Rattle.avs_entries.specs.Entries.{IsEntry, state_by, slot_by, entry_in, entry_on}
use Rattle.avs_compact.specs.CompactSet as compact
use Rattle.avs_compact.specs.CompactSet.{CompactSet, disk_of, entry_of, disk_entry}
use Rattle.avs_compact.specs.Disks.{Master, Shadow, Bitmap, Over, disk_at}
use Rattle.avs_compact.specs.Calls as calls
use Rattle.avs_compact.specs.Places as places
use Rattle.avs_compact.specs.Places.{ArePlaced}
use Rattle.avs_compact.specs.Keeping as keeping
use Rattle.avs_sets.specs.Says.{BlockSays}
use Rattle.avs_sets.specs.Sets.{OwnSlot, OverSlot, ChunkMap, SetRead, chunks_of, KeepsMaster, KeepsShadow}
use Rattle.avs_sets.specs.Meaning.{chunks_by}
use Rattle.avs_sets.specs.Whole.{IsPlaced}
use Rattle.avs_sets.specs.Goes.{IsSameSet}
use Rattle.avs_sets.specs.Owners.{OwnsPlaces}
use Rattle.avs_sets.specs.Steps.{read_over, IsKnown, KeepsSlots, TakesPlaces, KeepsRead, KeepsSet, ShowsSame, StatesSame}
use Rattle.avs_held.specs.declared.held.Seat.{Seat}
use Rattle.avs_held.specs.Held.{area_of, told_state, slot_place, slot_map, compact_set, IsSeated}
use Rattle.avs_held.specs.Rooms.{owners_of, Mine, on_disks, KeepsOwned}
use Rattle.avs_held.specs.Calls.{KeepsBitmap, KeepsHeld}
use Rattle.avs_held.proofs.Projected.{staged_is}
use Rattle.avs_held.proofs.Told.{place_formed, own_place, over_place, slot_is, in_map, there, some_entry}
use Rattle.avs_held.proofs.Slotted.{AreFormed, disk_map, plain_read, all_spots, none_behind, map_is, read_is, known_set, known_read, master_shown, set_known, state_at, placed_set, set_placed, served_set, set_served}

-- what no call on the contents changes, and what staging does not change either
pub record IsSameSlots (s s' : CompactSet) : Type 0 where
  pub set : s'.set ≡ s.set
  pub own : s'.own ≡ s.own
  pub blocks : s'.blocks ≡ s.blocks
  pub live_b : s'.areas.live_b ≡ s.areas.live_b
  pub there : is_some s'.shadow ≡ is_some s.shadow

pub same_slots : (s s' : CompactSet) → keeping.IsSameShape s s' → IsSameSlots s s'
same_slots s s' shape = record { set = shape.set; own = shape.own; blocks = shape.blocks; live_b = shape.live_b; there = shape.there }

pub same_set : (seat : Seat) (s s' : CompactSet) → IsSameSlots s s' → IsSameSet (compact_set seat s) (compact_set seat s')
same_set seat s s' shape = record {
  slot = shape.set;
  kind = refl;
  master = refl;
  size = λ p. record { blocks = shape.blocks p; own = shape.own p };
  over = refl;
}

-- ---- the set stays in its seat

never : false ≡ true → ⊥
never e = cc

few_same : (n n' : ℕ) (o o' : Option Seen) → n' ≡ n → is_some o' ≡ is_some o → (disk_of o').size ≡ (disk_of o).size → ((d : Seen) → o ≡ Some d → d.size ≤ n) → (d : Seen) → o' ≡ Some d → d.size ≤ n'
few_same n n' None o' blocks there size few d is = absurd (never (sym there ∙ ap (λ (o : Option Seen). is_some o) is))
few_same n n' (Some e) o' blocks there size few d is =
    let here : (disk_of o').size ≡ d.size = ap (λ (o : Option Seen). (disk_of o).size) is in
    omega (arith, blocks, size, here, few e refl)

pub seated_kept : (seat : Seat) (s s' : CompactSet) → IsSameSlots s s' → (disk_of s'.shadow).size ≡ (disk_of s.shadow).size → IsSeated seat s → IsSeated seat s'
seated_kept seat s s' shape size fit = record {
  slot = shape.set ∙ fit.slot;
  own = shape.own ∙ fit.own;
  disk = few_same s.blocks s'.blocks s.shadow s'.shadow shape.blocks shape.there size fit.disk;
}

pub taken_seat : (seat : Seat) (s s' : CompactSet) → s' ≡ record s { shadow = None } → IsSeated seat s → IsSeated seat s'
taken_seat seat s s' is fit = subst (λ (x : CompactSet). IsSeated seat x) (sym is) (record { slot = fit.slot; own = fit.own; disk = λ d e. absurd (never (ap (λ (o : Option Seen). is_some o) e)) })

pub given_seat : (seat : Seat) (s s' : CompactSet) (d : Seen) → s' ≡ record s { shadow = Some d } → d.size ≤ s.blocks → IsSeated seat s → IsSeated seat s'
given_seat seat s s' d is few fit = subst (λ (x : CompactSet). IsSeated seat x) (sym is)
    (record { slot = fit.slot; own = fit.own; disk = λ e same. let size : d.size ≡ e.size = ap (λ (o : Option Seen). (disk_of o).size) same in omega (arith, size, few) })

-- the slots in its entries, said of the set behind the call
pub placed_now : (s s' : CompactSet) → IsSameSlots s s' → (f : ℕ → ℕ) (T : Owners) → ArePlaced f s.own (compact.chunks_of s) s.set T → ArePlaced f s'.own (compact.chunks_of s') s'.set T
placed_now s s' shape f T p =
    subst (λ (n : ℕ). ArePlaced f n (compact.chunks_of s') s'.set T) (sym shape.own)
    (subst (λ (n : ℕ). ArePlaced f s.own (seg_count n) s'.set T) (sym shape.blocks)
    (subst (λ (n : ℕ). ArePlaced f s.own (compact.chunks_of s) n T) (sym shape.set) p))

-- ---- the places of its chunks by the disk

module _ (s : CompactSet) (T : Owners) (p : ArePlaced (disk_entry s) s.own (compact.chunks_of s) s.set T) where
  there_is : (c : ℕ) → (disk_map s).state c ≢ 0 → c < compact.chunks_of s
  there_is c some = there s.own (compact.chunks_of s) (disk_entry s) c some

  some_is : (c : ℕ) → (disk_map s).state c ≢ 0 → disk_entry s c ≢ 0
  some_is c some = some_entry s.own (compact.chunks_of s) (disk_entry s) c some

  place_at : (c : ℕ) → (disk_map s).state c ≢ 0 → (disk_map s).place c ≡ slot_place s.own (slot_by (disk_entry s c))
  place_at c some = place_formed s.own (disk_entry s c) (p.form c (there_is c some))

  pub places_own : (c : ℕ) → (disk_map s).state c ≢ 0
      → ((slot : ℕ) × ((disk_map s).place c ≡ OwnSlot slot)) ⊎ ((slot : ℕ) × ((owner_at T slot ≡ Some s.set) × ((disk_map s).place c ≡ OverSlot slot)))
  places_own c some = elim (cases_lt (slot_by (disk_entry s c)) s.own) [
    | inl low ↦ inl (slot_by (disk_entry s c), place_at c some ∙ own_place s.own (slot_by (disk_entry s c)) low)
    | inr past ↦ inr (slot_by (disk_entry s c) - s.own, (p.mine c (there_is c some) (some_is c some) past, place_at c some ∙ over_place s.own (slot_by (disk_entry s c)) past))
  ]

  pub places_apart : (c d : ℕ) → c ≢ d → (disk_map s).state c ≢ 0 → (disk_map s).state d ≢ 0 → (disk_map s).place c ≢ (disk_map s).place d
  places_apart c d ne some some' same = p.apart c d (there_is c some) (there_is d some') ne (some_is c some) (some_is d some')
      (slot_is s.own (slot_by (disk_entry s d)) (slot_by (disk_entry s c)) (sym (place_at d some') ∙ sym same ∙ place_at c some))

-- ---- a step

module _ (seat : Seat) (s s' : CompactSet) (m m' : Seen) (o o' : OverSet) {T E : Type 0} (r : Result T E) (shape : IsSameSlots s s') (goes : AllGoOn (disk_at s o m) r (disk_at s' o' m'))
    (fit : IsSeated seat s) (form : AreFormed (entry_of s) (compact.chunks_of s)) (over : keeping.IsPlaced s o → IsTold o.disk → places.KeepsOver s.set o o') where
  few_now : (d : Seen) → s'.shadow ≡ Some d → d.size ≤ s'.blocks
  few_now = (seated_kept seat s s' shape (goes.lasts Shadow).size fit).disk

  module _ (says : BlockSays) (owned : OwnsPlaces (owners_of o) (compact_set seat s)) (kn : IsKnown says (compact_set seat s) m o.disk) where
    pub known : calls.IsKnown s o
    known = known_set says seat s m o form kn

    pub placed : keeping.IsPlaced s o
    placed = placed_set seat s o form owned

    area_now : (says.slots s'.set).area_b ≡ s'.areas.live_b
    area_now = ap (λ (n : ℕ). (says.slots n).area_b) shape.set ∙ sym kn.area ∙ sym shape.live_b

    pub map_now : chunks_by says (compact_set seat s') ≡ disk_map s'
    map_now = map_is says seat s' ((goes.lasts Bitmap).told kn.bitmap) area_now

    pub map_was : chunks_by says (compact_set seat s) ≡ disk_map s
    map_was = map_is says seat s kn.bitmap (sym kn.area)

    pub read_now : read_over says (compact_set seat s') o'.disk ≡ plain_read s' o'
    read_now = read_is says seat s' ((goes.lasts Bitmap).told kn.bitmap) area_now o' ((goes.lasts Shadow).told known.shadow) ((goes.lasts Over).told kn.over_told)

    pub master_now : shown m' ≡ m'.image
    master_now = shown_told m' ((goes.lasts Master).told kn.master)

    -- a fact on what is read is one on what the set's disks have
    pub on_reads : (P : SetRead → Image → SetRead → Image → Type 0) → P (plain_read s o) m.image (plain_read s' o') m'.image
        → P (read_over says (compact_set seat s) o.disk) (shown m) (read_over says (compact_set seat s') o'.disk) (shown m')
    on_reads P is = subst (λ (x : SetRead). P x (shown m) (read_over says (compact_set seat s') o'.disk) (shown m')) (sym (known_read says seat s m o form kn))
        (subst (λ (x : Image). P (plain_read s o) x (read_over says (compact_set seat s') o'.disk) (shown m')) (sym (master_shown says seat s m o form kn))
        (subst (λ (x : SetRead). P (plain_read s o) m.image x (shown m')) (sym read_now)
        (subst (λ (x : Image). P (plain_read s o) m.image (plain_read s' o') x) (sym master_now) is)))

    kept : KeepsSlots (Mine (compact_set seat s) o') (shown o.disk) (shown o'.disk)
    kept = record {
      outside = λ slot i lt other.
          let at : 1 + (64 * slot + i) ≡ 1 + 64 * slot + i = omega arith in
          ap (λ (img : Image). block_at img (1 + (64 * slot + i))) (shown_told o'.disk ((goes.lasts Over).told kn.over_told))
          ∙ ap (λ (n : ℕ). block_at o'.disk.image n) at
          ∙ (over placed kn.over_told).slots slot i lt other
          ∙ sym (ap (λ (n : ℕ). block_at o.disk.image n) at)
          ∙ sym (ap (λ (img : Image). block_at img (1 + (64 * slot + i))) (shown_told o.disk kn.over_told));
    }

    module _ (p : ArePlaced (disk_entry s') s'.own (compact.chunks_of s') s'.set o'.owners) where
      mine : (c slot : ℕ) → (owner_at o'.owners slot ≡ Some s'.set) × ((disk_map s').place c ≡ OverSlot slot) → Mine (compact_set seat s) o' slot × ((disk_map s').place c ≡ OverSlot slot)
      mine c slot (is, at) = (is ∙ ap (λ (n : ℕ). Some n) shape.set, at)

      takes : TakesPlaces says (Mine (compact_set seat s) o') (compact_set seat s) (compact_set seat s')
      takes = record {
        each = λ c some. inr (subst (λ (x : ChunkMap). ((slot : ℕ) × (x.place c ≡ OwnSlot slot)) ⊎ ((slot : ℕ) × (Mine (compact_set seat s) o' slot × (x.place c ≡ OverSlot slot)))) (sym map_now)
            (elim (places_own s' o'.owners p c (subst (λ (x : ChunkMap). x.state c ≢ 0) map_now some)) [
              | inl own ↦ inl own
              | inr (slot, is) ↦ inr (slot, mine c slot is)
            ]));
      }

      apart : IsPlaced says (compact_set seat s')
      apart = record {
        each = λ c d ne some some'. subst (λ (x : ChunkMap). x.place c ≢ x.place d) (sym map_now)
            (places_apart s' o'.owners p c d ne (subst (λ (x : ChunkMap). x.state c ≢ 0) map_now some) (subst (λ (x : ChunkMap). x.state d ≢ 0) map_now some'));
      }

      pub reads : KeepsMaster (plain_read s o) m.image (plain_read s' o') m'.image → KeepsRead says (Mine (compact_set seat s) o') (compact_set seat s) m o.disk (compact_set seat s') m' o'.disk
      reads master = record {
        master = on_reads KeepsMaster master;
        behind = none_behind s'.blocks s'.shadow few_now ∙ sym (none_behind s.blocks s.shadow fit.disk);
        slots = kept;
        takes = takes;
        placed = λ was. apart;
      }

    -- the states of its chunks
    pub state_same : (c : ℕ) → c < compact.chunks_of s → disk_entry s' c ≡ disk_entry s c → (chunks_by says (compact_set seat s')).state c ≡ (chunks_by says (compact_set seat s)).state c
    state_same c lt is = ap (λ (x : ChunkMap). x.state c) map_now
        ∙ in_map s'.own (compact.chunks_of s') (disk_entry s') c (subst (λ (n : ℕ). c < seg_count n) (sym shape.blocks) lt)
        ∙ ap told_state is
        ∙ sym (in_map s.own (compact.chunks_of s) (disk_entry s) c lt)
        ∙ sym (ap (λ (x : ChunkMap). x.state c) map_was)

    pub same_states : ((c : ℕ) → c < compact.chunks_of s → disk_entry s' c ≡ disk_entry s c)
        → StatesSame (chunks_by says (compact_set seat s)).state (chunks_by says (compact_set seat s')).state (chunks_of (compact_set seat s))
    same_states same = record { each = λ c lt. state_same c lt (same c lt) }

    pub state_now : ArePlaced (disk_entry s') s'.own (compact.chunks_of s') s'.set o'.owners → (c : ℕ) → c < compact.chunks_of s → (chunks_by says (compact_set seat s')).state c ≡ state_by (disk_entry s' c)
    state_now p c lt = ap (λ (x : ChunkMap). x.state c) map_now ∙ state_at s' o' p.form c (subst (λ (n : ℕ). c < seg_count n) (sym shape.blocks) lt)

  module _ (known_then : calls.IsKnown s o → OnOk r (calls.IsKnown s' o'))
      (placed_then : calls.IsKnown s o → keeping.IsPlaced s o → IsTold m → ArePlaced (disk_entry s') s'.own (compact.chunks_of s') s'.set o'.owners)
      (master : calls.IsKnown s o → keeping.IsPlaced s o → IsTold m → KeepsMaster (plain_read s o) m.image (plain_read s' o') m'.image) where
    pub keeps : (says : BlockSays) → OwnsPlaces (owners_of o) (compact_set seat s) → KeepsSet says (Mine (compact_set seat s) o') (compact_set seat s) m o.disk r (compact_set seat s') m' o'.disk
    keeps says owned = record {
      same = same_set seat s s' shape;
      live_b = shape.live_b;
      disks = all_spots seat s s' m m' o o' r goes;
      known = λ kn. on_ok_weaker r (λ k. set_known says seat s' m' o' ((goes.lasts Master).told kn.master) (sym (area_now says owned kn)) k) (known_then (known says owned kn));
      read = λ kn. reads says owned kn (placed_then (known says owned kn) (placed says owned kn) kn.master) (master (known says owned kn) (placed says owned kn) kn.master);
    }

    -- one that changes nothing that is seen
    pub shows_same : (calls.IsKnown s o → keeping.IsPlaced s o → IsTold m → KeepsShadow (plain_read s o) m.image (plain_read s' o') m'.image)
        → ((c : ℕ) → IsTold s.areas.disk → c < compact.chunks_of s → disk_entry s' c ≡ disk_entry s c)
        → (says : BlockSays) → OwnsPlaces (owners_of o) (compact_set seat s) → ShowsSame says (Mine (compact_set seat s) o') (compact_set seat s) m o.disk r (compact_set seat s') m' o'.disk
    shows_same shadow same says owned = record {
      keeps = keeps says owned;
      shadow = λ kn. on_reads says owned kn KeepsShadow (shadow (known says owned kn) (placed says owned kn) kn.master);
      same = λ kn. same_states says owned kn (λ c lt. same c kn.bitmap lt);
    }

-- ---- the entries on the disk of a set that is known

module _ (s : CompactSet) (o : OverSet) (form : AreFormed (entry_of s) (compact.chunks_of s)) (k : calls.IsKnown s o) where
  pub formed_disk : AreFormed (disk_entry s) (compact.chunks_of s)
  formed_disk c lt = subst (λ (e : ℕ). IsEntry e) (k.step.each c lt) (form c lt)

  pub placed_disk : keeping.IsPlaced s o → ArePlaced (disk_entry s) s.own (compact.chunks_of s) s.set o.owners
  placed_disk p = record {
    form = formed_disk;
    apart = λ c d lt lt' ne some some' same. p.apart c d lt lt' ne (λ z. some (sym (k.step.each c lt) ∙ z)) (λ z. some' (sym (k.step.each d lt') ∙ z))
        (ap slot_by (k.step.each d lt') ∙ same ∙ sym (ap slot_by (k.step.each c lt)));
    mine = λ c lt some le. ap (λ (e : ℕ). owner_at o.owners (slot_by e - s.own)) (sym (k.step.each c lt))
        ∙ p.mine c lt (λ z. some (sym (k.step.each c lt) ∙ z)) (subst (λ (e : ℕ). s.own ≤ slot_by e) (sym (k.step.each c lt)) le);
  }

-- ---- what is kept beside

pub slots_kept : (seat : Seat) (s s' : CompactSet) (m m' : Seen) (o o' : OverSet) → IsSameSlots s s' → AreFormed (entry_of s) (compact.chunks_of s)
    → (keeping.IsPlaced s o → IsTold o.disk → places.KeepsOver s.set o o') → keeping.KeepsSlots s o s' o' → KeepsOwned (on_disks (compact_set seat s) m o) (on_disks (compact_set seat s') m' o')
slots_kept seat s s' m m' o o' shape form over k = record {
  served = λ owned served. set_served seat s' o' (k.placed (placed_set seat s o form owned)).form (k.there (served_set seat s o form served));
  owned = λ owned. let p = k.placed (placed_set seat s o form owned) in set_placed seat s' o' p.form p;
  takes = record { each = k.owners.each };
  label = λ owned told. (over (placed_set seat s o form owned) told).label;
}

pub bitmap_kept : (seat : Seat) (s s' : CompactSet) → IsSameSlots s s' → IsTold s.areas.disk → IsTold s'.areas.disk → keeping.KeepsBitmap s s' → KeepsBitmap (compact_set seat s) (compact_set seat s')
bitmap_kept seat s s' shape told told' k = record {
  label = ap (λ (img : Image). block_at img 0) (shown_told s'.areas.disk told') ∙ k.label ∙ sym (ap (λ (img : Image). block_at img 0) (shown_told s.areas.disk told));
  staged = ap (λ (b : Bool). slot_map s'.own (seg_count s'.blocks) (λ c. entry_on (area_of s'.areas (not b)) c)) (sym shape.live_b)
      ∙ ap (λ (img : Image). slot_map s'.own (seg_count s'.blocks) (λ c. entry_on img c)) (staged_is s'.areas told' ∙ k.staged ∙ sym (staged_is s.areas told))
      ∙ (λ p. slot_map (shape.own p) (seg_count (shape.blocks p)) (λ c. entry_on (area_of s.areas (not s.areas.live_b)) c));
}

pub held_kept : {T E : Type 0} (seat : Seat) (s s' : CompactSet) (m m' : Seen) (o o' : OverSet) (r : Result T E) → AreFormed (entry_of s) (compact.chunks_of s) → keeping.KeepsSet s o m r s' o' m'
    → KeepsHeld (on_disks (compact_set seat s) m o) (on_disks (compact_set seat s') m' o')
held_kept seat s s' m m' o o' r form k = record {
  bitmap = λ told. bitmap_kept seat s s' (same_slots s s' k.shape) told ((k.goes.lasts Bitmap).told told) (k.bitmap told);
  next = λ p. slot_map (k.shape.own p) (seg_count (k.shape.blocks p)) (λ c. entry_in (k.shape.next p) c);
  there = k.shape.there;
  settled = λ was. absurd (never was.kind);
  owned = slots_kept seat s s' m m' o o' (same_slots s s' k.shape) form k.over k.slots;
  over = λ is. absurd (never (sym is));
}
