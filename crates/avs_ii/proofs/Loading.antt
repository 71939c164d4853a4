-- A group that is found on its parts or not, and taken apart.
use Rattle.std.proofs.Common.{◌≡◌, ◌⊎◌, inl, inr, ℕ, zero, suc, ◌^◌, ◌<◌, ◌≤◌, Bool, true, false, not, cond, ◌&&◌, IsTrue, All, List, [], ◌∷◌, ◌++◌, length, map, Option, None, Some, is_some, refl, sym, ◌∙◌, ap, subst, arith}
use Rattle.std.specs.List.{list_all, range_with_len}
use Rattle.std.specs.Option.{option_map}
use Rattle.std.proofs.lemmas.List.{length-map, map-append, append-nil}
use Rattle.std.proofs.lemmas.List.Folds.{list_all-append}
use Rattle.avs_seg.specs.Image.{Image, block_at}
use Rattle.avs_seg.specs.Segment.{seg_count}
use Rattle.avs_seg.specs.Causes.{Rose}
use Rattle.avs_dev.specs.Seen.{Seen, IsTold}
use Rattle.avs_dev.specs.Devices.{NoneFell, OneRose}
use Rattle.avs_dev.specs.declared.back.Why.{Why}
use Rattle.avs_dev.specs.declared.back.Why.TheVariants.{Size, BadRecord, NoMemory, Fault}
use Rattle.avs_flip.specs.Areas.{Areas, live}
use Rattle.avs_code.specs.Label.{IsLabel}
use Rattle.avs_code.specs.GroupBlock.{GroupBlockKeeps, GroupBlockFits, IsGroupBlock}
use Rattle.avs_code.specs.declared.slot_table.Slot.{Slot}
use Rattle.avs_code.specs.declared.group_blocks.GroupBlock.{GroupBlock}
use Rattle.avs_model.specs.Shadows.{GroupState}
use Rattle.avs_model.specs.declared.shadow.Kind.{Kind}
use Rattle.avs_model.specs.declared.shadow.Kind.TheVariants.{Ind, Dep, Compact}
use Rattle.avs_chunk.specs.States.{on_master, state_on, blocks_for}
use Rattle.avs_chunk.specs.ChunkSet.{ChunkSet, HasLabel, disk_of, disk_state, chunks_of, both_disks, shadow_label}
use Rattle.avs_chunk.specs.Making.{areas_on}
use Rattle.avs_ii.specs.Shape.{disk_shape, set_shape, shape_of, parts_shape}
use Rattle.avs_ii.specs.Held.{HeldSet, disks_of, slot_in, is_live, has_flag, area_b, enabled_in, pending_in}
use Rattle.avs_ii.specs.Meaning.{group_by, meaning, kept_on, picked, disk_image, shadow_by}
use Rattle.avs_ii.specs.Sound.{HoldsBlock, IsSoundSet, HasNoneBack, IsSound, IsFindable}
use Rattle.avs_ii.specs.Kept.{IsHeld, IsKept}
use Rattle.avs_ii.specs.SetDisks.{SetDisks}
use Rattle.avs_ii.specs.Parts.{PartDisks, size_of, held_on, set_parts, parts_of, meaning_of_parts}
use Rattle.avs_ii.specs.Making.{IsPlaced, ArePlaced, IsLabelled, IsSetSettled, IsSetTold, AreTold, AreWhole, StateRefused, IsMade, StaysMade, IsFoundPending, Loads, LoadRefused, WhyNotFound, no_faults, set_no_faults, parts_no_faults, disks_in, between, fits_slot, IsStateDisk, IsBadBitmap, IsBadSet, IsGoodSet}
use Rattle.avs_ii.specs.Opening.{live_area, OpensChunks, OpensSet, WhyNotOpened, SetRefused, OpensOne, RefusesOne, AreFew}
use Rattle.avs_dev.specs.Below.{IsNoteTold}
use Rattle.avs_ii.specs.AsBelow.{below_of, rest_of, group_of, quiet_set, AreFindable}
use Rattle.avs_ii.proofs.Quiet.{group_quiet, group_quiet_none}
use Rattle.avs_ii.proofs.Commits.{Stored, slots_keep, stored_some}
use Rattle.avs_ii.proofs.Several.{fell_nil, fell_same, fell_cons, fell_append, rose_here, rose_there, rose_right}
use Rattle.avs_ii.proofs.Making.{the_group, kept_is, all_none, all_of, of_all}
use Rattle.avs_ii.proofs.Findable.{with_area, findable_one, one_findable, sound_findable, findable_quiet}

-- ---- a set that is opened

module _ (slots : List Slot) (V : List Seen) (s : SetDisks) (chunks : ChunkSet) (placed : IsPlaced slots V s) (o : OpensChunks slots s.slot s.kind s.shadow s.bitmap (size_of V s.master) chunks) where
  abbrev held : HeldSet
  held = record { slot = s.slot; master = s.master; chunks = chunks }

  area_is : is_live slots s.slot ≡ true → chunks.areas.live_b ≡ has_flag area_b (slot_in slots s.slot)
  area_is l = ap (λ (c : ChunkSet). c.areas.live_b) o.is ∙ ap (λ (b : Bool). cond b (has_flag area_b (slot_in slots s.slot)) false) l

  first_is : is_live slots s.slot ≡ false → chunks.areas.live_b ≡ false
  first_is l = ap (λ (c : ChunkSet). c.areas.live_b) o.is ∙ ap (λ (b : Bool). cond b (has_flag area_b (slot_in slots s.slot)) false) l

  blocks_are : chunks.blocks ≡ size_of V s.master
  blocks_are = ap (λ (c : ChunkSet). c.blocks) o.is

  shadow_are : chunks.shadow ≡ s.shadow
  shadow_are = ap (λ (c : ChunkSet). c.shadow) o.is

  bitmap_image : chunks.areas.disk.image ≡ s.bitmap.image
  bitmap_image = ap (λ (d : Seen). d.image) o.disk

  bitmap_size : chunks.areas.disk.size ≡ s.bitmap.size
  bitmap_size = ap (λ (d : Seen). d.size) o.disk

  held_opened : IsHeld slots V held
  held_opened = record {
    slot = placed.slot;
    master = placed.master;
    there = subst (λ (q : Option Seen). IsTrue (is_some q)) (sym (shadow_are ∙ o.there)) refl;
    blocks = sym blocks_are;
    whole = subst (λ (k : Kind). (k ≡ Ind) ⊎ (k ≡ Dep)) (sym (ap (λ (c : ChunkSet). c.kind) o.is)) placed.whole;
    area = area_is;
    first = first_is;
    fits = λ l. ap (λ (c : ChunkSet). fits_slot (slot_in slots s.slot) c.kind) o.is ∙ placed.fits l;
    settled = o.settled;
    some = omega (arith, placed.some, blocks_are);
    on = record {
      fits = record {
        shadow = λ d is. omega (arith, o.fits.shadow d (sym shadow_are ∙ is), blocks_are);
        bitmap = omega (arith, o.fits.bitmap, bitmap_size, ap (λ (n : ℕ). blocks_for (seg_count n)) blocks_are);
      };
      areas = ap (λ (c : ChunkSet). c.areas) o.is ∙ (λ i. areas_on chunks.areas.disk (sym blocks_are i) (sym (ap (λ (c : ChunkSet). c.areas.live_b) o.is) i));
    };
  }

  -- the states on the bitmap, by the live area
  states_are : is_live slots s.slot ≡ true → (c : ℕ) → disk_state chunks c ≡ state_on (live (areas_on s.bitmap (size_of V s.master) (has_flag area_b (slot_in slots s.slot)))) c
  unfolding live
  states_are l c =
      ap (λ (x : ChunkSet). disk_state x c) o.is
      ∙ ap (λ (b : Bool). state_on (live (areas_on chunks.areas.disk (size_of V s.master) b)) c) (ap (λ (b : Bool). cond b (has_flag area_b (slot_in slots s.slot)) false) l)
      ∙ ap (λ (x : Seen). state_on (live (areas_on x (size_of V s.master) (has_flag area_b (slot_in slots s.slot)))) c) o.disk

  none_back : is_live slots s.slot ≡ true → IsTold s.bitmap → HasNoneBack chunks
  none_back l told = record { none = λ c lt is. o.settled.none c lt ((o.step l told).each c lt ∙ is) }

  settled_opened : IsTold s.bitmap → IsSetSettled slots V s
  settled_opened told = record { none_back = λ l. record { none = λ c lt is. (none_back l told).none c (subst (λ (n : ℕ). c < seg_count n) (sym blocks_are) lt) (states_are l c ∙ is) } }

  labelled_opened : IsTold s.bitmap → IsLabelled slots V s
  labelled_opened told = record { label = λ l. subst (λ (n : ℕ). IsLabel (block_at s.bitmap.image 0) (shadow_label n)) blocks_are (subst (λ (i : Image). IsLabel (block_at i 0) (shadow_label chunks.blocks)) bitmap_image (o.label l told).label) }

  sound_opened : IsSetTold s → is_live slots s.slot ≡ true → IsSoundSet slots held
  sound_opened told l = record {
    known = record {
      shadow = subst (λ (q : Option Seen). IsTold (disk_of q)) (sym shadow_are) told.shadow;
      bitmap = ap (λ (i : Image). length i) bitmap_image ∙ told.bitmap ∙ sym bitmap_size;
      step = o.step l told.bitmap;
    };
    label = o.label l told.bitmap;
    area = area_is l;
    none_back = none_back l told.bitmap;
  }

  sounds_opened : IsSetTold s → All (IsSoundSet slots) (enabled_in slots (held ∷ []))
  sounds_opened told = by_live (is_live slots s.slot) refl
    where
      by_live : (b : Bool) → is_live slots s.slot ≡ b → All (IsSoundSet slots) (cond (is_live slots s.slot) (held ∷ []) [])
      by_live true l = subst (λ (b : Bool). All (IsSoundSet slots) (cond b (held ∷ []) [])) (sym l) (all_of (IsSoundSet slots) held (sound_opened told l))
      by_live false l = subst (λ (b : Bool). All (IsSoundSet slots) (cond b (held ∷ []) [])) (sym l) (all_none (IsSoundSet slots))

  -- what is found where nothing was read
  pending_opened : is_live slots s.slot ≡ false → IsFoundPending V held
  pending_opened l = record {
    area = first_is l;
    memory = o.pending l;
    fresh = λ made. record {
      known = record { shadow = made.told.shadow; bitmap = made.told.bitmap; step = record { each = λ c lt. o.pending l c lt ∙ sym (on_disk made c lt) } };
      label = record { label = subst (λ (n : ℕ). IsLabel (block_at chunks.areas.disk.image 0) (shadow_label n)) (sym blocks_are) made.label };
      area = first_is l;
      states = on_disk made;
    };
  }
    where
      on_disk : IsMade V (set_parts held) → (c : ℕ) → c < chunks_of chunks → disk_state chunks c ≡ on_master
      on_disk made c lt =
          ap (λ (a : Areas). state_on (live a) c) (ap (λ (x : ChunkSet). x.areas) o.is ∙ ap (λ (b : Bool). areas_on chunks.areas.disk (size_of V s.master) (cond b (has_flag area_b (slot_in slots s.slot)) false)) l)
          ∙ made.states c (subst (λ (n : ℕ). c < seg_count n) blocks_are lt)

  pendings_opened : All (IsFoundPending V) (pending_in slots (held ∷ []))
  pendings_opened = by_live (is_live slots s.slot) refl
    where
      by_live : (b : Bool) → is_live slots s.slot ≡ b → All (IsFoundPending V) (cond (not (is_live slots s.slot)) (held ∷ []) [])
      by_live true l = subst (λ (b : Bool). All (IsFoundPending V) (cond (not b) (held ∷ []) [])) (sym l) (all_none (IsFoundPending V))
      by_live false l = subst (λ (b : Bool). All (IsFoundPending V) (cond (not b) (held ∷ []) [])) (sym l) (all_of (IsFoundPending V) held (pending_opened l))

  told_opened : IsSetTold s → IsSetTold (set_parts held)
  told_opened told = record {
    shadow = subst (λ (q : Option Seen). IsTold (disk_of q)) (sym shadow_are) told.shadow;
    bitmap = ap (λ (i : Image). length i) bitmap_image ∙ told.bitmap ∙ sym bitmap_size;
  }

  shape_opened : set_shape held ≡ set_shape (held_on V s)
  shape_opened = λ i. record {
    slot = s.slot;
    master = s.master;
    kind = ap (λ (c : ChunkSet). c.kind) o.is i;
    blocks = blocks_are i;
    shadow = ap (λ (q : Option Seen). option_map disk_shape q) shadow_are i;
    bitmap = ap disk_shape o.disk i;
  }

  parts_opened : set_no_faults (set_parts held) ≡ set_no_faults s
  parts_opened = λ i. record {
    slot = s.slot;
    kind = ap (λ (c : ChunkSet). c.kind) o.is i;
    master = s.master;
    shadow = ap (λ (q : Option Seen). option_map no_faults q) shadow_are i;
    bitmap = ap (λ (d : Seen). no_faults d) o.disk i;
    over = sym placed.plain i;
  }

-- ---- the group does not depend on what is in memory of a set

-- a set by what its disks hold
abbrev set_with : ℕ → Kind → ℕ → Option Seen → Seen → ℕ → Bool → List ℕ → HeldSet
set_with slot kind master shadow bitmap blocks live_b memory = record { slot = slot; master = master; chunks = record { kind = kind; shadow = shadow; areas = areas_on bitmap blocks live_b; memory = memory; blocks = blocks } }

-- a group by the sets that are enabled
abbrev by_enabled : List Slot → List ℕ → List Seen → List HeldSet → GroupState
by_enabled slots note V l = record { volumes = map (λ v. picked slots l v (disk_image V v)) (range_with_len 0 (length V)); sets = map (λ s. shadow_by slots V s) l; note = note }

pub same_group : (slots : List Slot) (note : List ℕ) (V : List Seen) (slot : ℕ) (kind : Kind) (master : ℕ) (shadow : Option Seen) (bitmap : Seen) (faults blocks : ℕ) (live_b : Bool) (memory : List ℕ)
    → group_by slots note V (set_with slot kind master shadow (record bitmap { faults = faults }) blocks live_b memory ∷ []) ≡ group_by slots note V (set_with slot kind master shadow bitmap blocks false [] ∷ [])
unfolding live
same_group slots note V slot kind master shadow bitmap faults blocks live_b memory = go (is_live slots slot)
  where
    go : (b : Bool) → by_enabled slots note V (cond b (set_with slot kind master shadow (record bitmap { faults = faults }) blocks live_b memory ∷ []) []) ≡ by_enabled slots note V (cond b (set_with slot kind master shadow bitmap blocks false [] ∷ []) [])
    go false = refl
    go true = at_kind kind
      where
        at_kind : (k : Kind) → by_enabled slots note V (set_with slot k master shadow (record bitmap { faults = faults }) blocks live_b memory ∷ []) ≡ by_enabled slots note V (set_with slot k master shadow bitmap blocks false [] ∷ [])
        at_kind Ind = refl
        at_kind Dep = refl
        at_kind Compact = refl

-- ---- a group that is taken apart

module _ (slots : List Slot) (note : List ℕ) (V : List Seen) (h : HeldSet) (own : IsHeld slots V h) where
  pub meaning_set : (slots' : List Slot) → group_by slots' note V (held_on V (set_parts h) ∷ []) ≡ group_by slots' note V (h ∷ [])
  meaning_set slots' =
      ap (λ (n : ℕ). group_by slots' note V (set_with h.slot h.chunks.kind h.master h.chunks.shadow h.chunks.areas.disk n false [] ∷ [])) own.blocks
      ∙ sym (same_group slots' note V h.slot h.chunks.kind h.master h.chunks.shadow h.chunks.areas.disk h.chunks.areas.disk.faults h.chunks.blocks h.chunks.areas.live_b h.chunks.memory)
      ∙ ap (λ (a : Areas). group_by slots' note V (record { slot = h.slot; master = h.master; chunks = record { kind = h.chunks.kind; shadow = h.chunks.shadow; areas = a; memory = h.chunks.memory; blocks = h.chunks.blocks } } ∷ [])) (sym own.on.areas)

  there_is : (q : Option Seen) → IsTrue (is_some q) → q ≡ Some (disk_of q)
  there_is None t = cc
  there_is (Some d) t = refl

  -- the set in a group with other slots
  pub placed_by : (slots' : List Slot) → (is_live slots' h.slot ≡ true → fits_slot (slot_in slots' h.slot) h.chunks.kind ≡ true) → IsPlaced slots' V (set_parts h)
  placed_by slots' fits =
      let there = there_is h.chunks.shadow own.there in
      record {
        slot = own.slot;
        master = own.master;
        there = there;
        shadow = omega (arith, own.blocks, own.on.fits.shadow (disk_of h.chunks.shadow) there);
        bitmap = subst (λ (n : ℕ). blocks_for (seg_count n) ≤ h.chunks.areas.disk.size) (sym own.blocks) own.on.fits.bitmap;
        some = omega (arith, own.some, own.blocks);
        whole = own.whole;
        plain = refl;
        fits = fits;
      }

  pub labelled_by : (slots' : List Slot) → (is_live slots' h.slot ≡ true → HasLabel h.chunks) → IsLabelled slots' V (set_parts h)
  labelled_by slots' label = record { label = λ l. subst (λ (n : ℕ). IsLabel (block_at h.chunks.areas.disk.image 0) (shadow_label n)) (sym own.blocks) (label l).label }

  pub by_labelled : (slots' : List Slot) → IsLabelled slots' V (set_parts h) → is_live slots' h.slot ≡ true → HasLabel h.chunks
  by_labelled slots' labelled l = record { label = subst (λ (n : ℕ). IsLabel (block_at h.chunks.areas.disk.image 0) (shadow_label n)) own.blocks (labelled.label l) }

  states_on : (b : Bool) (c : ℕ) → state_on (live (areas_on h.chunks.areas.disk (size_of V h.master) b)) c ≡ disk_state (with_area h.chunks b) c
  states_on b c =
      ap (λ (n : ℕ). state_on (live (areas_on h.chunks.areas.disk n b)) c) own.blocks
      ∙ sym (ap (λ (a : Areas). state_on (live (record a { live_b = b })) c) own.on.areas)

  pub settled_by : (slots' : List Slot) → (is_live slots' h.slot ≡ true → HasNoneBack (with_area h.chunks (has_flag area_b (slot_in slots' h.slot)))) → IsSetSettled slots' V (set_parts h)
  settled_by slots' back = record { none_back = λ l. record { none = λ c lt is. (back l).none c (subst (λ (n : ℕ). c < seg_count n) own.blocks lt) (sym (states_on (has_flag area_b (slot_in slots' h.slot)) c) ∙ is) } }

  pub by_settled : (slots' : List Slot) → IsSetSettled slots' V (set_parts h) → is_live slots' h.slot ≡ true → HasNoneBack (with_area h.chunks (has_flag area_b (slot_in slots' h.slot)))
  by_settled slots' settled l = record { none = λ c lt is. (settled.none_back l).none c (subst (λ (n : ℕ). c < seg_count n) (sym own.blocks) lt) (states_on (has_flag area_b (slot_in slots' h.slot)) c ∙ is) }

  settled_set : (is_live slots h.slot ≡ true → IsFindable h) → IsSetSettled slots V (set_parts h)
  settled_set found = settled_by slots (λ l. subst (λ (b : Bool). HasNoneBack (with_area h.chunks b)) (own.area l) (found l).none_back)

  made_set : StaysMade V h
  made_set = record {
    made = λ fresh. record {
      told = record { shadow = fresh.known.shadow; bitmap = fresh.known.bitmap };
      label = subst (λ (n : ℕ). IsLabel (block_at h.chunks.areas.disk.image 0) (shadow_label n)) (sym own.blocks) fresh.label.label;
      states = λ c lt. states_on false c ∙ ap (λ (b : Bool). disk_state (with_area h.chunks b) c) (sym fresh.area) ∙ fresh.states c (subst (λ (n : ℕ). c < seg_count n) own.blocks lt);
    };
  }

module _ (state : Seen) (block : GroupBlock) (V : List Seen) where
  pub meaning_parts : (sets : List HeldSet) → length sets ≤ 1 → IsKept state block V sets → meaning_of_parts (parts_of (the_group state block V sets)) ≡ meaning (the_group state block V sets)
  meaning_parts [] one kept = refl
  meaning_parts (h ∷ []) one kept = meaning_set block.slots (kept_on state).note V h (of_all (IsHeld block.slots V) h kept.held) (kept_on state).slots
  meaning_parts (h ∷ k ∷ l) one kept = absurd (omega (arith, one))

  pub shape_parts : (sets : List HeldSet) → length sets ≤ 1 → IsKept state block V sets → parts_shape (parts_of (the_group state block V sets)) ≡ shape_of (the_group state block V sets)
  shape_parts [] one kept = refl
  shape_parts (h ∷ []) one kept = ap (λ (n : ℕ). record { state = disk_shape state; volumes = map disk_shape V; sets = record (set_shape h) { blocks = n } ∷ [] }) (of_all (IsHeld block.slots V) h kept.held).blocks
  shape_parts (h ∷ k ∷ l) one kept = absurd (omega (arith, one))

  pub made_sets : (sets : List HeldSet) → length sets ≤ 1 → IsKept state block V sets → All (StaysMade V) sets
  made_sets [] one kept = all_none (StaysMade V)
  made_sets (h ∷ []) one kept = all_of (StaysMade V) h (made_set block.slots block.note V h (of_all (IsHeld block.slots V) h kept.held))
  made_sets (h ∷ k ∷ l) one kept = absurd (omega (arith, one))

  pub disks_parts : (sets : List HeldSet) → length sets ≤ 1 → disks_in (parts_of (the_group state block V sets)) ≡ disks_of (the_group state block V sets)
  disks_parts [] one = ap (λ (l : List Seen). state ∷ l) (append-nil (V ++ []))
  disks_parts (h ∷ []) one = go h.chunks.shadow
    where
      go : (o : Option Seen) → disks_in (parts_of (the_group state block V (record h { chunks = record h.chunks { shadow = o } } ∷ []))) ≡ disks_of (the_group state block V (record h { chunks = record h.chunks { shadow = o } } ∷ []))
      go None = ap (λ (l : List Seen). state ∷ l) (append-nil (V ++ (h.chunks.areas.disk ∷ [])))
      go (Some d) = ap (λ (l : List Seen). state ∷ l) (append-nil (V ++ (d ∷ h.chunks.areas.disk ∷ [])))
  disks_parts (h ∷ k ∷ l) one = absurd (omega (arith, one))

  stored : (sets : List HeldSet) → IsKept state block V sets → IsNoteTold (below_of (the_group state block V sets)) → Stored block.slots state
  stored sets kept told = stored_some block.slots state (slots_keep block kept.keeps kept.fits) told

  pub rest_parts : (sets : List HeldSet) → length sets ≤ 1 → IsKept state block V sets → IsNoteTold (below_of (the_group state block V sets)) → meaning (the_group state block V sets) ≡ record (group_of (rest_of (the_group state block V sets))) { note = (kept_on state).note }
  rest_parts [] one kept told =
      let is = (stored [] kept told).slots_are in
      ap (λ (s : List Slot). group_by s (kept_on state).note V []) is ∙ sym (group_quiet_none block.slots (kept_on state).note V)
  rest_parts (h ∷ []) one kept told =
      let is = (stored (h ∷ []) kept told).slots_are in
      ap (λ (s : List Slot). group_by s (kept_on state).note V (h ∷ [])) is ∙ sym (group_quiet block.slots (kept_on state).note V h)
  rest_parts (h ∷ k ∷ l) one kept told = absurd (omega (arith, one))

  pub whole_parts : (sets : List HeldSet) → length sets ≤ 1 → IsKept state block V sets → HoldsBlock state block → All IsFindable (enabled_in block.slots sets) → AreWhole (parts_of (the_group state block V sets))
  whole_parts sets one kept holds found =
      let is = kept_is state block holds in
      let slots : (kept_on state).slots ≡ block.slots = ap (λ (b : GroupBlock). b.slots) is in
      record {
        state = kept.room;
        label = holds.label;
        block = subst (λ (b : GroupBlock). IsGroupBlock (block_at state.image 1) b) (sym is) holds.holds;
        placed = record {
          each = subst (λ (s : List Slot). All (IsPlaced s V) (map set_parts sets)) (sym slots) (each (IsPlaced block.slots V) (λ h own f. placed_by block.slots [] V h own block.slots own.fits) sets one kept.held found);
          one = omega (arith, one, length-map sets set_parts);
          count = kept.count;
          none = refl;
        };
        labelled = subst (λ (s : List Slot). All (IsLabelled s V) (map set_parts sets)) (sym slots) (each (IsLabelled block.slots V) (λ h own f. labelled_by block.slots [] V h own block.slots (λ l. (f l).label)) sets one kept.held found);
        settled = subst (λ (s : List Slot). All (IsSetSettled s V) (map set_parts sets)) (sym slots) (each (IsSetSettled block.slots V) (λ h own f. settled_set block.slots [] V h own f) sets one kept.held found);
      }
    where
      each : (P : SetDisks → Type 0) → ((h : HeldSet) → IsHeld block.slots V h → (is_live block.slots h.slot ≡ true → IsFindable h) → P (set_parts h)) → (sets : List HeldSet) → length sets ≤ 1 → All (IsHeld block.slots V) sets → All IsFindable (enabled_in block.slots sets) → All P (map set_parts sets)
      each P p [] one held found = all_none P
      each P p (h ∷ []) one held found = all_of P (set_parts h) (p h (of_all (IsHeld block.slots V) h held) (one_findable block.slots h found))
      each P p (h ∷ k ∷ l) one held found = absurd (omega (arith, one))

  -- a sound group is found on its parts
  pub whole_sound : (sets : List HeldSet) → length sets ≤ 1 → IsKept state block V sets → IsSound (the_group state block V sets) → AreWhole (parts_of (the_group state block V sets))
  whole_sound sets one kept sound = whole_parts sets one kept sound.holds (sound_findable block.slots (enabled_in block.slots sets) sound.disks.each)

-- a group whose note and whose rest are found on its parts
pub whole_rest : (state : Seen) (block : GroupBlock) (V : List Seen) (sets : List HeldSet) → length sets ≤ 1 → IsKept state block V sets → IsNoteTold (below_of (the_group state block V sets)) → AreFindable (rest_of (the_group state block V sets)) → AreWhole (parts_of (the_group state block V sets))
whole_rest state block V sets one kept told found =
    let s = stored state block V sets kept told in
    let slots : block.slots ≡ (kept_on state).slots = sym s.slots_are in
    whole_parts state (kept_on state) V sets one
    (record { room = kept.room; keeps = s.holds.keeps; fits = s.holds.fits; count = kept.count; held = subst (λ (l : List Slot). All (IsHeld l V) sets) slots kept.held })
    (record { told = s.told; label = s.label; holds = s.holds })
    (subst (λ (l : List Slot). All IsFindable (enabled_in l sets)) slots (loud sets one found))
  where
    loud : (sets : List HeldSet) → length sets ≤ 1 → All IsFindable (enabled_in block.slots (map quiet_set sets)) → All IsFindable (enabled_in block.slots sets)
    loud [] one found = found
    loud (h ∷ []) one found = findable_one block.slots h (λ l. findable_quiet h (one_findable block.slots (quiet_set h) found l))
    loud (h ∷ k ∷ l) one found = absurd (omega (arith, one))

-- ---- a group that is found

abbrev pub the_parts : Seen → List Seen → List SetDisks → PartDisks
the_parts state V S = record { state = state; volumes = V; sets = S; overs = [] }

module _ (state state' : Seen) (rest : state' ≡ record state { faults = state'.faults }) where
  kept_same : kept_on state' ≡ kept_on state
  kept_same = ap (λ (d : Seen). kept_on d) rest

  state_same : no_faults state' ≡ no_faults state
  state_same = ap (λ (d : Seen). no_faults d) rest

  told_same : IsTold state → IsTold state'
  told_same told = ap (λ (d : Seen). length d.image) rest ∙ told ∙ sym (ap (λ (d : Seen). d.size) rest)

  holds_same : (block : GroupBlock) → HoldsBlock state block → HoldsBlock state' block
  holds_same block h = subst (λ (d : Seen). HoldsBlock d block) (sym rest) (record { told = h.told; label = h.label; holds = h.holds })

-- the counts of faults of a set's disks
abbrev counts : List Seen → List ℕ
counts l = map (λ (d : Seen). d.faults) l

later_set : (V : List Seen) (slot : ℕ) (kind : Kind) (master : ℕ) (shadow : Option Seen) (bitmap bitmap' : Seen) (over : Option ℕ) (state state' : Seen) → IsTrue (is_some shadow) → state.faults ≤ state'.faults → bitmap.faults ≤ bitmap'.faults
    → NoneFell (counts (disks_in (the_parts state V (record { slot = slot; kind = kind; master = master; shadow = shadow; bitmap = bitmap; over = over } ∷ [])))) (counts (state' ∷ (V ++ (both_disks shadow bitmap' ++ []))))
later_set V slot kind master None bitmap bitmap' over state state' t le le' = cc
later_set V slot kind master (Some d) bitmap bitmap' over state state' t le le' =
    subst (λ (l : List Seen). NoneFell (counts (state ∷ l)) (counts (state' ∷ (V ++ (d ∷ bitmap' ∷ []))))) (sym (append-nil (V ++ (d ∷ bitmap ∷ []))))
    (fell_cons state.faults state'.faults _ _ le
    (subst (λ (l : List ℕ). NoneFell l (counts (V ++ (d ∷ bitmap' ∷ [])))) (sym (map-append (λ (x : Seen). x.faults) V (d ∷ bitmap ∷ [])))
    (subst (λ (l : List ℕ). NoneFell (counts V ++ (d.faults ∷ bitmap.faults ∷ [])) l) (sym (map-append (λ (x : Seen). x.faults) V (d ∷ bitmap' ∷ [])))
    (fell_append (counts V) (counts V) (d.faults ∷ bitmap.faults ∷ []) (d.faults ∷ bitmap'.faults ∷ []) (fell_same (counts V)) (fell_cons d.faults d.faults _ _ (omega arith) (fell_cons bitmap.faults bitmap'.faults _ _ le' fell_nil))))))

-- disks of which some changed their counts of faults alone
same_ends : (V l l' : List Seen) (state state' : Seen) → no_faults state' ≡ no_faults state → map no_faults l' ≡ map no_faults l → map no_faults (state' ∷ (V ++ l')) ≡ map no_faults (state ∷ ((V ++ l) ++ []))
same_ends V l l' state state' first last =
    ap (λ (x : Seen). x ∷ map no_faults (V ++ l')) first
    ∙ ap (λ (m : List Seen). no_faults state ∷ m) (map-append no_faults V l' ∙ ap (λ (m : List Seen). map no_faults V ++ m) last ∙ sym (map-append no_faults V l))
    ∙ ap (λ (m : List Seen). no_faults state ∷ map no_faults m) (sym (append-nil (V ++ l)))

same_set : (V : List Seen) (slot : ℕ) (kind : Kind) (master : ℕ) (shadow : Option Seen) (bitmap bitmap' : Seen) (over : Option ℕ) (state state' : Seen) → no_faults state' ≡ no_faults state → no_faults bitmap' ≡ no_faults bitmap
    → map no_faults (state' ∷ (V ++ (both_disks shadow bitmap' ++ []))) ≡ map no_faults (disks_in (the_parts state V (record { slot = slot; kind = kind; master = master; shadow = shadow; bitmap = bitmap; over = over } ∷ [])))
same_set V slot kind master None bitmap bitmap' over state state' first last = same_ends V (bitmap ∷ []) (bitmap' ∷ []) state state' first (ap (λ (x : Seen). x ∷ []) last)
same_set V slot kind master (Some d) bitmap bitmap' over state state' first last = same_ends V (d ∷ bitmap ∷ []) (d ∷ bitmap' ∷ []) state state' first (ap (λ (x : Seen). no_faults d ∷ x ∷ []) last)

-- what was read of the state disk
pub record IsRead (state : Seen) (block : GroupBlock) (state' : Seen) : Type 0 where
  pub rest : state' ≡ record state { faults = state'.faults }
  pub later : state.faults ≤ state'.faults
  pub room : 64 ≤ state.size
  pub holds : IsTold state → HoldsBlock state block
  pub keeps : GroupBlockKeeps block
  pub fits : GroupBlockFits block

module _ (state state' : Seen) (block : GroupBlock) (V : List Seen) (read : IsRead state block state') (count : length V < 2 ^ 32) where
  room_same : 64 ≤ state'.size
  room_same = omega (arith, read.room, ap (λ (d : Seen). d.size) read.rest)

  kept_held : (sets : List HeldSet) → All (IsHeld block.slots V) sets → IsKept state' block V sets
  kept_held sets held = record { room = room_same; keeps = read.keeps; fits = read.fits; count = count; held = held }

  slots_are : IsTold state → (kept_on state).slots ≡ block.slots
  slots_are told = ap (λ (b : GroupBlock). b.slots) (kept_is state block (read.holds told))

  whole_by : (S : List SetDisks) → IsTold state → All (IsPlaced block.slots V) S → length S ≤ 1 → All (IsLabelled block.slots V) S → All (IsSetSettled block.slots V) S → AreWhole (the_parts state V S)
  whole_by S told placed one labelled settled =
      let h = read.holds told in
      let slots = slots_are told in
      record {
        state = read.room;
        label = h.label;
        block = subst (λ (b : GroupBlock). IsGroupBlock (block_at state.image 1) b) (sym (kept_is state block h)) h.holds;
        placed = record { each = subst (λ (s : List Slot). All (IsPlaced s V) S) (sym slots) placed; one = one; count = count; none = refl };
        labelled = subst (λ (s : List Slot). All (IsLabelled s V) S) (sym slots) labelled;
        settled = subst (λ (s : List Slot). All (IsSetSettled s V) S) (sym slots) settled;
      }

  loads_none : Loads (the_parts state V []) (the_group state' block V [])
  loads_none = record {
    disks = ap (λ (d : Seen). record { state = d; volumes = map no_faults V; sets = []; overs = [] }) (state_same state state' read.rest);
    later = subst (λ (l : List Seen). NoneFell (counts (state ∷ l)) (counts (state' ∷ (V ++ [])))) (sym (append-nil (V ++ []))) (fell_cons state.faults state'.faults _ _ read.later (fell_same (counts (V ++ []))));
    whole = λ told. whole_by [] told.state (all_none (IsPlaced block.slots V)) (omega arith) (all_none (IsLabelled block.slots V)) (all_none (IsSetSettled block.slots V));
    group = ap (λ (b : GroupBlock). group_by b.slots b.note V []) (kept_same state state' read.rest);
    block = λ told. sym (kept_is state block (read.holds told));
    holds = λ told. holds_same state state' read.rest block (read.holds told);
    pending = all_none (IsFoundPending V);
    sound = λ told. record { holds = holds_same state state' read.rest block (read.holds told.state); disks = record { told = told.volumes; each = all_none (IsSoundSet block.slots) } };
    told = λ told. record { state = told_same state state' read.rest told.state; volumes = told.volumes; sets = all_none IsSetTold };
    shape = λ i. record { state = disk_shape (read.rest i); volumes = map disk_shape V; sets = [] };
    same = same_ends V [] [] state state' (state_same state state' read.rest) refl;
  }

  module _ (s : SetDisks) (chunks : ChunkSet) (placed : IsPlaced block.slots V s) (o : OpensChunks block.slots s.slot s.kind s.shadow s.bitmap (size_of V s.master) chunks) where
    abbrev found : HeldSet
    found = record { slot = s.slot; master = s.master; chunks = chunks }

    same_found : (slots : List Slot) (note : List ℕ) → group_by slots note V (found ∷ []) ≡ group_by slots note V (held_on V s ∷ [])
    same_found slots note =
        ap (λ (c : ChunkSet). group_by slots note V (record { slot = s.slot; master = s.master; chunks = c } ∷ [])) o.is
        ∙ ap (λ (d : Seen). group_by slots note V (set_with s.slot s.kind s.master s.shadow d (size_of V s.master) (live_area block.slots s.slot) chunks.memory ∷ [])) o.disk
        ∙ same_group slots note V s.slot s.kind s.master s.shadow s.bitmap chunks.areas.disk.faults (size_of V s.master) (live_area block.slots s.slot) chunks.memory

    loads_found : Loads (the_parts state V (s ∷ [])) (the_group state' block V (found ∷ []))
    loads_found = record {
      disks = λ i. record { state = state_same state state' read.rest i; volumes = map no_faults V; sets = parts_opened block.slots V s chunks placed o i ∷ []; overs = [] };
      later = subst (λ (q : Option Seen). NoneFell (counts (disks_in (the_parts state V (s ∷ [])))) (counts (state' ∷ (V ++ (both_disks q chunks.areas.disk ++ []))))) (sym (shadow_are block.slots V s chunks placed o))
          (later_set V s.slot s.kind s.master s.shadow s.bitmap chunks.areas.disk s.over state state' (subst (λ (q : Option Seen). IsTrue (is_some q)) (sym o.there) refl) read.later o.later);
      whole = λ told. whole_by (s ∷ []) told.state (all_of (IsPlaced block.slots V) s placed) (omega arith)
          (all_of (IsLabelled block.slots V) s (labelled_opened block.slots V s chunks placed o (of_all IsSetTold s told.sets).bitmap))
          (all_of (IsSetSettled block.slots V) s (settled_opened block.slots V s chunks placed o (of_all IsSetTold s told.sets).bitmap));
      group = ap (λ (b : GroupBlock). group_by b.slots b.note V (found ∷ [])) (kept_same state state' read.rest) ∙ same_found (kept_on state).slots (kept_on state).note;
      block = λ told. sym (kept_is state block (read.holds told));
      holds = λ told. holds_same state state' read.rest block (read.holds told);
      pending = pendings_opened block.slots V s chunks placed o;
      sound = λ told. record { holds = holds_same state state' read.rest block (read.holds told.state); disks = record { told = told.volumes; each = sounds_opened block.slots V s chunks placed o (of_all IsSetTold s told.sets) } };
      told = λ told. record { state = told_same state state' read.rest told.state; volumes = told.volumes; sets = all_of IsSetTold (set_parts found) (told_opened block.slots V s chunks placed o (of_all IsSetTold s told.sets)) };
      shape = λ i. record { state = disk_shape (read.rest i); volumes = map disk_shape V; sets = shape_opened block.slots V s chunks placed o i ∷ [] };
      same =
          ap (λ (q : Option Seen). map no_faults (state' ∷ (V ++ (both_disks q chunks.areas.disk ++ [])))) (shadow_are block.slots V s chunks placed o)
          ∙ same_set V s.slot s.kind s.master s.shadow s.bitmap chunks.areas.disk s.over state state' (state_same state state' read.rest) (ap (λ (d : Seen). no_faults d) o.disk);
    }

  found_is : (s : SetDisks) (h : HeldSet) → OpensSet block.slots V s h → record { slot = s.slot; master = s.master; chunks = h.chunks } ≡ h
  found_is s h o = λ i. record { slot = sym o.slot i; master = sym o.master i; chunks = h.chunks }

  pub loads_one : (S : List SetDisks) (sets : List HeldSet) → length S ≤ 1 → OpensOne block.slots V S sets → Loads (the_parts state V S) (the_group state' block V sets)
  loads_one [] sets one w = subst (λ (l : List HeldSet). Loads (the_parts state V []) (the_group state' block V l)) (sym w) loads_none
  loads_one (s ∷ []) sets one w =
      subst (λ (l : List HeldSet). Loads (the_parts state V (s ∷ [])) (the_group state' block V l)) (sym w.1.0)
      (subst (λ (h : HeldSet). Loads (the_parts state V (s ∷ [])) (the_group state' block V (h ∷ []))) (found_is s w.0 w.1.1) (loads_found s w.0.chunks w.1.1.placed w.1.1.chunks))
  loads_one (s ∷ r ∷ l) sets one w = absurd (omega (arith, one))

  pub kept_one : (S : List SetDisks) (sets : List HeldSet) → length S ≤ 1 → OpensOne block.slots V S sets → IsKept state' block V sets
  kept_one [] sets one w = kept_held sets (subst (λ (l : List HeldSet). All (IsHeld block.slots V) l) (sym w) (all_none (IsHeld block.slots V)))
  kept_one (s ∷ []) sets one w =
      kept_held sets (subst (λ (l : List HeldSet). All (IsHeld block.slots V) l) (sym w.1.0)
      (all_of (IsHeld block.slots V) w.0 (subst (λ (h : HeldSet). IsHeld block.slots V h) (found_is s w.0 w.1.1) (held_opened block.slots V s w.0.chunks w.1.1.placed w.1.1.chunks))))
  kept_one (s ∷ r ∷ l) sets one w = absurd (omega (arith, one))

-- ---- no group is found

and_false_left : (a b : Bool) → a ≡ false → (a && b) ≡ false
and_false_left a b e = ap (λ (t : Bool). t && b) e

and_false_right : (a b : Bool) → b ≡ false → (a && b) ≡ false
and_false_right true b e = e
and_false_right false b e = refl

abbrev pub the_disks : Seen → List Seen → List SetDisks → List Seen → PartDisks
the_disks state V S O = record { state = state; volumes = V; sets = S; overs = O }

module _ (state state' : Seen) (V : List Seen) (S : List SetDisks) (O : List Seen) (rest : state' ≡ record state { faults = state'.faults }) (later : state.faults ≤ state'.faults) where
  abbrev P : Seen → PartDisks
  P d = the_disks d V S O

  told_parts : AreTold (P state) → AreTold (P state')
  told_parts told = record { state = told_same state state' rest told.state; volumes = told.volumes; sets = told.sets }

  whole_refused : AreWhole (P state) → AreWhole (P state')
  whole_refused w = subst (λ (d : Seen). AreWhole (P d)) (sym rest) (record {
    state = w.state;
    label = w.label;
    block = w.block;
    placed = record { each = w.placed.each; one = w.placed.one; count = w.placed.count; none = w.placed.none };
    labelled = w.labelled;
    settled = w.settled;
  })

  group_refused : meaning_of_parts (P state') ≡ meaning_of_parts (P state)
  group_refused = ap (λ (d : Seen). meaning_of_parts (P d)) rest

  shape_refused : parts_shape (P state') ≡ parts_shape (P state)
  shape_refused = ap (λ (d : Seen). parts_shape (P d)) rest

  disks_refused : map no_faults (disks_in (P state')) ≡ map no_faults (disks_in (P state))
  disks_refused = ap (λ (d : Seen). map no_faults (disks_in (P d))) rest

  same_parts : parts_no_faults (the_disks state' V S O) ≡ parts_no_faults (the_disks state V S O)
  same_parts = ap (λ (d : Seen). record { state = d; volumes = map no_faults V; sets = map set_no_faults S; overs = map no_faults O }) (state_same state state' rest)

  pub read_refused : (why : Why) → StateRefused state why state' → LoadRefused (record { state = state; volumes = V; sets = S; overs = O }) why (record { state = state'; volumes = V; sets = S; overs = O })
  read_refused why w = record { parts = same_parts; later = fell_cons state.faults state'.faults _ _ later (fell_same _); cause = cause_of why w; told = told_parts; whole = whole_refused; group = group_refused; shape = shape_refused; same = disks_refused }
    where
      cause_of : (why : Why) → StateRefused state why state' → WhyNotFound (the_disks state V S O) why (the_disks state' V S O)
      cause_of (Size need have) w = absurd w
      cause_of (BadRecord field) (inl w) = λ told. (inl w, λ whole. omega (arith, w.less, whole.state))
      cause_of (BadRecord field) (inr w) = λ told. (inr (inl (record { room = w.0; bad = (w.1 told.state).0 })), λ whole. (w.1 told.state).1 (record { block = kept_on state; label = whole.label; holds = whole.block }))
      cause_of NoMemory w = absurd w
      cause_of Fault w = (rose_here _ _ _ _ w.0, and_false_left _ _ w.1)

  pub odd_refused : (IsTold state → IsStateDisk state) → (AreFew (length V) (length S) (length O) → ⊥) → LoadRefused (record { state = state; volumes = V; sets = S; overs = O }) (BadRecord between) (record { state = state'; volumes = V; sets = S; overs = O })
  odd_refused good not_few = record {
    parts = same_parts;
    later = fell_cons state.faults state'.faults _ _ later (fell_same _);
    cause = λ told. (inr (inr (inl (record { state = good told.state; broken = λ p. not_few (few p); number = refl }))), λ whole. not_few (few whole.placed));
    told = told_parts;
    whole = whole_refused;
    group = group_refused;
    shape = shape_refused;
    same = disks_refused;
  }
    where
      few : ArePlaced (kept_on state).slots (the_disks state V S O) → AreFew (length V) (length S) (length O)
      few p = record { count = p.count; one = p.one; none = ap (λ (l : List Seen). length l) p.none }

module _ (V : List Seen) (slot : ℕ) (kind : Kind) (master : ℕ) (over : Option ℕ) (bitmap bitmap' : Seen) (state state' : Seen) where
  abbrev set_on : Option Seen → Seen → SetDisks
  set_on shadow b = record { slot = slot; kind = kind; master = master; shadow = shadow; bitmap = b; over = over }

  spread : (l l' : List Seen) (P : List ℕ → List ℕ → Type 0) → P (counts V ++ counts l) (counts V ++ counts l') → P (counts ((V ++ l) ++ [])) (counts ((V ++ l') ++ []))
  spread l l' P p =
      subst (λ (x : List ℕ). P x (counts ((V ++ l') ++ []))) (sym (ap (λ (m : List Seen). counts m) (append-nil (V ++ l)) ∙ map-append (λ (d : Seen). d.faults) V l))
      (subst (λ (x : List ℕ). P (counts V ++ counts l) x) (sym (ap (λ (m : List Seen). counts m) (append-nil (V ++ l')) ∙ map-append (λ (d : Seen). d.faults) V l')) p)

  later_refused : (shadow : Option Seen) → state.faults ≤ state'.faults → bitmap.faults ≤ bitmap'.faults → NoneFell (counts (disks_in (the_parts state V (set_on shadow bitmap ∷ [])))) (counts (disks_in (the_parts state' V (set_on shadow bitmap' ∷ []))))
  later_refused None le le' = fell_cons state.faults state'.faults _ _ le (spread (bitmap ∷ []) (bitmap' ∷ []) NoneFell (fell_append (counts V) (counts V) _ _ (fell_same (counts V)) (fell_cons bitmap.faults bitmap'.faults _ _ le' (fell_same _))))
  later_refused (Some d) le le' = fell_cons state.faults state'.faults _ _ le (spread (d ∷ bitmap ∷ []) (d ∷ bitmap' ∷ []) NoneFell (fell_append (counts V) (counts V) _ _ (fell_same (counts V)) (fell_cons d.faults d.faults _ _ (omega arith) (fell_cons bitmap.faults bitmap'.faults _ _ le' (fell_same _)))))

  rose_refused : (shadow : Option Seen) → Rose bitmap.faults bitmap'.faults → OneRose (counts (disks_in (the_parts state V (set_on shadow bitmap ∷ [])))) (counts (disks_in (the_parts state' V (set_on shadow bitmap' ∷ []))))
  rose_refused None r = rose_there state.faults state'.faults _ _ (spread (bitmap ∷ []) (bitmap' ∷ []) OneRose (rose_right (counts V) (counts V) _ _ refl (rose_here bitmap.faults bitmap'.faults _ _ r)))
  rose_refused (Some d) r = rose_there state.faults state'.faults _ _ (spread (d ∷ bitmap ∷ []) (d ∷ bitmap' ∷ []) OneRose (rose_right (counts V) (counts V) _ _ refl (rose_there d.faults d.faults _ _ (rose_here bitmap.faults bitmap'.faults _ _ r))))

  unsteady : (shadow : Option Seen) → bitmap.steady ≡ false → list_all (λ (d : Seen). d.steady) (disks_in (the_parts state V (set_on shadow bitmap ∷ []))) ≡ false
  unsteady None e = and_false_right state.steady _ (ap (λ (m : List Seen). list_all (λ (d : Seen). d.steady) m) (append-nil (V ++ (bitmap ∷ []))) ∙ list_all-append (λ (d : Seen). d.steady) V (bitmap ∷ []) ∙ and_false_right (list_all (λ (d : Seen). d.steady) V) _ (and_false_left bitmap.steady _ e))
  unsteady (Some d) e = and_false_right state.steady _ (ap (λ (m : List Seen). list_all (λ (d : Seen). d.steady) m) (append-nil (V ++ (d ∷ bitmap ∷ []))) ∙ list_all-append (λ (d : Seen). d.steady) V (d ∷ bitmap ∷ []) ∙ and_false_right (list_all (λ (d : Seen). d.steady) V) _ (and_false_right d.steady _ (and_false_left bitmap.steady _ e)))

-- the state disk that was read is one
pub disk_read : (state state' : Seen) (block : GroupBlock) → IsRead state block state' → IsTold state → IsStateDisk state
disk_read state state' block read told = let h = read.holds told in record { room = read.room; good = record { block = block; label = h.label; holds = h.holds } }

module _ (state state' : Seen) (block : GroupBlock) (V : List Seen) (read : IsRead state block state') (count : length V < 2 ^ 32) (s : SetDisks) where
  -- the set's bitmap is refused, so the parts are not whole
  not_whole : (slots : List Slot) (field : ℕ) → IsBadSet slots V field s → IsLabelled slots V s → IsSetSettled slots V s → ⊥
  not_whole slots field bad labelled settled = go bad.bitmap
    where
      go : IsBadBitmap s.bitmap (size_of V s.master) (has_flag area_b (slot_in slots s.slot)) field → ⊥
      go (inl other) = other.other (labelled.label bad.live)
      go (inr back) = back.broken (settled.none_back bad.live)

  cause_set : (why : Why) (b : Seen) → WhyNotOpened block.slots V s why b → WhyNotFound (the_parts state V (s ∷ [])) why (the_parts state' V (record s { bitmap = b } ∷ []))
  cause_set (Size need have) b w = absurd w
  cause_set (BadRecord field) b (inl w) = λ told.
      let slots = slots_of told in
      let odd : All (IsPlaced (kept_on state).slots V) (s ∷ []) → ⊥ = λ p. w.1 (of_all (IsPlaced block.slots V) s (subst (λ (x : List Slot). All (IsPlaced x V) (s ∷ [])) slots p)) in
      (inr (inr (inl (record { state = disk_read state state' block read told.state; broken = λ p. odd p.each; number = w.0 }))), λ whole. odd whole.placed.each)
    where
      slots_of : AreTold (the_parts state V (s ∷ [])) → (kept_on state).slots ≡ block.slots
      slots_of told = ap (λ (b : GroupBlock). b.slots) (kept_is state block (read.holds told.state))
  cause_set (BadRecord field) b (inr w) = λ told.
      let slots : block.slots ≡ (kept_on state).slots = sym (slots_of told) in
      let placed : ArePlaced block.slots (the_parts state V (s ∷ [])) = record { each = all_of (IsPlaced block.slots V) s w.0; one = omega arith; count = count; none = refl } in
      let bad : IsBadSet (kept_on state).slots V field s = subst (λ (x : List Slot). IsBadSet x V field s) slots (w.1 (of_all IsSetTold s told.sets).bitmap) in (
        inr (inr (inr (record {
          state = disk_read state state' block read told.state;
          placed = subst (λ (x : List Slot). ArePlaced x (the_parts state V (s ∷ []))) slots placed;
          before = [];
          set = s;
          behind = [];
          order = refl;
          good = all_none (IsGoodSet (kept_on state).slots V);
          bad = bad;
        }))),
        λ whole. not_whole (kept_on state).slots field bad (of_all (IsLabelled (kept_on state).slots V) s whole.labelled) (of_all (IsSetSettled (kept_on state).slots V) s whole.settled),
      )
    where
      slots_of : AreTold (the_parts state V (s ∷ [])) → (kept_on state).slots ≡ block.slots
      slots_of told = ap (λ (b : GroupBlock). b.slots) (kept_is state block (read.holds told.state))
  cause_set NoMemory b w = tt
  cause_set Fault b w = (rose_refused V s.slot s.kind s.master s.over s.bitmap b state state' s.shadow w.0, unsteady V s.slot s.kind s.master s.over s.bitmap b state state' s.shadow w.1)

  -- the set with another count of faults
  abbrev counted_as : ℕ → SetDisks
  counted_as f = record s { bitmap = record s.bitmap { faults = f } }

  told_counted : (f : ℕ) → AreTold (the_parts state V (s ∷ [])) → AreTold (the_parts state' V (counted_as f ∷ []))
  told_counted f told =
      let one = of_all IsSetTold s told.sets in
      record { state = told_same state state' read.rest told.state; volumes = told.volumes; sets = all_of IsSetTold (counted_as f) (record { shadow = one.shadow; bitmap = one.bitmap }) }

  whole_counted : (f : ℕ) → AreWhole (the_parts state V (s ∷ [])) → AreWhole (the_parts state' V (counted_as f ∷ []))
  unfolding live
  whole_counted f w =
      let slots = (kept_on state).slots in
      let placed = of_all (IsPlaced slots V) s w.placed.each in
      let labelled = of_all (IsLabelled slots V) s w.labelled in
      let settled = of_all (IsSetSettled slots V) s w.settled in
      subst (λ (d : Seen). AreWhole (the_parts d V (counted_as f ∷ []))) (sym read.rest) (record {
        state = w.state;
        label = w.label;
        block = w.block;
        placed = record {
          each = all_of (IsPlaced slots V) (counted_as f) (record { slot = placed.slot; master = placed.master; there = placed.there; shadow = placed.shadow; bitmap = placed.bitmap; some = placed.some; whole = placed.whole; plain = placed.plain; fits = placed.fits });
          one = w.placed.one;
          count = w.placed.count;
          none = w.placed.none;
        };
        labelled = all_of (IsLabelled slots V) (counted_as f) (record { label = labelled.label });
        settled = all_of (IsSetSettled slots V) (counted_as f) (record { none_back = λ l. record { none = (settled.none_back l).none } });
      })

  group_counted : (f : ℕ) → meaning_of_parts (the_parts state' V (counted_as f ∷ [])) ≡ meaning_of_parts (the_parts state V (s ∷ []))
  group_counted f =
      let k = kept_on state in
      ap (λ (d : Seen). meaning_of_parts (the_parts d V (counted_as f ∷ []))) read.rest
      ∙ same_group k.slots k.note V s.slot s.kind s.master s.shadow s.bitmap f (size_of V s.master) false []

  shape_counted : (f : ℕ) → parts_shape (the_parts state' V (counted_as f ∷ [])) ≡ parts_shape (the_parts state V (s ∷ []))
  shape_counted f = ap (λ (d : Seen). parts_shape (the_parts d V (s ∷ []))) read.rest

  disks_counted : (f : ℕ) → map no_faults (disks_in (the_parts state' V (counted_as f ∷ []))) ≡ map no_faults (disks_in (the_parts state V (s ∷ [])))
  disks_counted f = ap (λ (d : Seen). map no_faults (disks_in (the_parts d V (counted_as f ∷ [])))) read.rest ∙ go s.shadow
    where
      go : (o : Option Seen) → map no_faults (disks_in (the_parts state V (record (counted_as f) { shadow = o } ∷ []))) ≡ map no_faults (disks_in (the_parts state V (record s { shadow = o } ∷ [])))
      go None = ap (λ (m : List Seen). map no_faults (state ∷ m)) (append-nil (V ++ (record s.bitmap { faults = f } ∷ []))) ∙ same_ends V (s.bitmap ∷ []) (record s.bitmap { faults = f } ∷ []) state state refl refl
      go (Some d) = ap (λ (m : List Seen). map no_faults (state ∷ m)) (append-nil (V ++ (d ∷ record s.bitmap { faults = f } ∷ []))) ∙ same_ends V (d ∷ s.bitmap ∷ []) (d ∷ record s.bitmap { faults = f } ∷ []) state state refl refl

  set_refused : (why : Why) (s' : SetDisks) → SetRefused block.slots V s why s' → LoadRefused (the_parts state V (s ∷ [])) why (the_parts state' V (s' ∷ []))
  set_refused why s' w = subst (λ (x : SetDisks). LoadRefused (the_parts state V (s ∷ [])) why (the_parts state' V (x ∷ []))) (sym w.is) (record {
    parts = ap (λ (d : Seen). record { state = d; volumes = map no_faults V; sets = set_no_faults s ∷ []; overs = [] }) (state_same state state' read.rest);
    later = later_refused V s.slot s.kind s.master s.over s.bitmap (record s.bitmap { faults = s'.bitmap.faults }) state state' s.shadow read.later w.later;
    cause = cause_set why (record s.bitmap { faults = s'.bitmap.faults }) (subst (λ (d : Seen). WhyNotOpened block.slots V s why d) (ap (λ (x : SetDisks). x.bitmap) w.is) w.cause);
    told = told_counted s'.bitmap.faults;
    whole = whole_counted s'.bitmap.faults;
    group = group_counted s'.bitmap.faults;
    shape = shape_counted s'.bitmap.faults;
    same = disks_counted s'.bitmap.faults;
  })

  pub one_refused : (S S' : List SetDisks) (why : Why) → length S ≤ 1 → S ≡ s ∷ [] → RefusesOne block.slots V S why S' → LoadRefused (the_parts state V S) why (the_parts state' V S')
  one_refused S S' why one is w =
      let r = subst (λ (l : List SetDisks). RefusesOne block.slots V l why S') is w in
      subst (λ (l : List SetDisks). LoadRefused (the_parts state V l) why (the_parts state' V S')) (sym is)
      (subst (λ (l : List SetDisks). LoadRefused (the_parts state V (s ∷ [])) why (the_parts state' V l)) (sym r.1.0) (set_refused why r.0 r.1.1))

pub take_refused : (state state' : Seen) (block : GroupBlock) (V : List Seen) (read : IsRead state block state') → length V < 2 ^ 32 → (S S' : List SetDisks) (why : Why) → length S ≤ 1 → RefusesOne block.slots V S why S' → LoadRefused (the_parts state V S) why (the_parts state' V S')
take_refused state state' block V read count [] S' why one w = absurd w
take_refused state state' block V read count (s ∷ []) S' why one w = one_refused state state' block V read count s (s ∷ []) S' why one refl w
take_refused state state' block V read count (s ∷ r ∷ l) S' why one w = absurd (omega (arith, one))

-- ---- what a call has of parts

pub finish_refused : (P P' Q Q' : PartDisks) (why why' : Why) → P ≡ P' → Q' ≡ Q → why' ≡ why → LoadRefused P why Q → LoadRefused P' why' Q'
finish_refused P P' Q Q' why why' p q w r =
    subst (λ (x : PartDisks). LoadRefused x why' Q') p
    (subst (λ (x : PartDisks). LoadRefused P why' x) (sym q)
    (subst (λ (x : Why). LoadRefused P x Q) (sym w) r))

pub few_seen : {D X : Type 0} (seen : D → Seen) (disks : X → SetDisks) (v v' : List D) (r r' : List X) (o o' : List D) → v ≡ v' → r ≡ r' → o ≡ o' → AreFew (length v) (length r) (length o) → AreFew (length (map seen v')) (length (map disks r')) (length (map seen o'))
few_seen {D = D} {X = X} seen disks v v' r r' o o' ev er eo few = record {
  count = omega (arith, few.count, length-map v' seen, ap (λ (l : List D). length l) ev);
  one = omega (arith, few.one, length-map r' disks, ap (λ (l : List X). length l) er);
  none = omega (arith, few.none, length-map o' seen, ap (λ (l : List D). length l) eo);
}

pub few_back : {D X : Type 0} (seen : D → Seen) (disks : X → SetDisks) (v v' : List D) (r r' : List X) (o o' : List D) → v ≡ v' → r ≡ r' → o ≡ o' → AreFew (length (map seen v')) (length (map disks r')) (length (map seen o')) → AreFew (length v) (length r) (length o)
few_back {D = D} {X = X} seen disks v v' r r' o o' ev er eo few = record {
  count = omega (arith, few.count, length-map v' seen, ap (λ (l : List D). length l) ev);
  one = omega (arith, few.one, length-map r' disks, ap (λ (l : List X). length l) er);
  none = omega (arith, few.none, length-map o' seen, ap (λ (l : List D). length l) eo);
}

pub nil_of : (l : List Seen) → length l ≡ zero → l ≡ []
nil_of [] e = refl
nil_of (x ∷ l) e = absurd (none (length l) e)
  where
    none : (n : ℕ) → suc n ≡ zero → ⊥
    none n e = omega (arith, e)
