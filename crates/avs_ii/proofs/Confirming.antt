-- A pending set that is enabled by a write of the block.
use Rattle.std.proofs.Common.{◌≡◌, ◌⊎◌, inl, inr, ℕ, ◌<◌, ◌≤◌, Bool, true, false, not, cond, eqb, ◌&&◌, All, List, [], ◌∷◌, length, map, None, Some, Result, Ok, Err, refl, sym, ◌∙◌, ap, subst, arith}
use Rattle.std.proofs.lemmas.Bool.{false≢true, eq-eqb}
use Rattle.std.proofs.lemmas.List.{get_or-set_same, length-set}
use Rattle.std.proofs.lemmas.List.Elements.{All-set}
use Rattle.avs_seg.specs.Image.{Image, Block, block_at, put, IsMix}
use Rattle.avs_seg.specs.declared.fault.Failed.{Failed}
use Rattle.avs_seg.proofs.Bytes.{blocks_of_one}
use Rattle.avs_seg.proofs.Puts.{put_one, put_below}
use Rattle.avs_dev.proofs.Going.{writes_ok, writes_err}
use Rattle.avs_dev.specs.Seen.{Seen, IsTold, Writes}
use Rattle.avs_code.specs.Label.{IsLabel}
use Rattle.avs_code.specs.GroupBlock.{group_block, group_block_at, GroupBlockKeeps, GroupBlockFits, IsGroupBlock}
use Rattle.avs_code.specs.Slot.{no_slot, SlotKeeps, SlotFits}
use Rattle.avs_code.specs.declared.slot_table.Slot.{Slot}
use Rattle.avs_code.specs.declared.group_blocks.GroupBlock.{GroupBlock}
use Rattle.avs_code.proofs.GroupBlocks.{group_block_at-is}
use Rattle.avs_model.specs.Shadows.{after_enabling, ShadowState, GroupState}
use Rattle.avs_model.specs.declared.answer.Refusal.{Refusal}
use Rattle.avs_model.specs.declared.answer.Refusal.TheVariants as refusal
use Rattle.avs_model.specs.declared.shadow.Kind.{Kind}
use Rattle.avs_model.specs.declared.shadow.Kind.TheVariants.{Ind, Dep, Compact}
use Rattle.avs_ii.specs.Held.{HeldSet, IiDisks, enabled_in, slot_in, is_live, has_flag, live as live_flag, area_b, pending_at}
use Rattle.avs_ii.specs.Meaning.{group_by, shadow_of, disk_image, kept_on, meaning}
use Rattle.avs_ii.specs.Sound.{IsSound, HoldsBlock, IsSoundSet, IsFindable, IsFresh, state_label}
use Rattle.avs_ii.specs.Kept.{IsHeld, IsKept}
use Rattle.avs_ii.specs.Making.{kind_number, fits_slot}
use Rattle.avs_ii.specs.Calls.{live_slot, block_with, Confirms, IsFoundAgain}
use Rattle.avs_ii.proofs.Marks.{with_one}
use Rattle.avs_ii.proofs.Forms.{with_none, group_pending, group_one}
use Rattle.avs_ii.specs.Shape.{disk_shape, set_shape, shape_of}
use Rattle.avs_ii.specs.Parts.{set_parts, parts_of}
use Rattle.avs_ii.specs.Making.{AreWhole, IsPlaced, IsLabelled, IsSetSettled}
use Rattle.avs_ii.proofs.Shapes.{same_steady}
use Rattle.avs_ii.proofs.Findable.{findable_one}
use Rattle.avs_ii.proofs.Loading.{whole_parts, whole_sound}
use Rattle.avs_ii.proofs.Making.{the_group, master_len, all_of, of_all, kept_is, meaning_by, state_fresh, none_back_fresh, pending_one, found_only, none_some}

head_same : (x y : HeldSet) → x ∷ [] ≡ y ∷ [] → x ≡ y
head_same x y e = ap (λ (l : List HeldSet). first l) e
  where
    first : List HeldSet → HeldSet
    first [] = x
    first (z ∷ l) = z

is_err : refusal.Fault ≡ refusal.NoSet → ⊥
is_err e = false≢true (ap (λ r. is_no_set r) e)
  where
    is_no_set : Refusal → Bool
    is_no_set refusal.NoSet = true
    is_no_set other = false

abbrev err_or : {T : Type 0} → Refusal → Result T Refusal → Refusal
err_or x (Ok z) = x
err_or x (Err z) = z

err_same : {T : Type 0} (x y : Refusal) (r s : Result T Refusal) → r ≡ Err x → s ≡ Err y → r ≡ s → x ≡ y
err_same x y r s rx sy e = ap (λ t. err_or x t) (sym rx ∙ e ∙ sy)

abbrev is_error : {T : Type 0} → Result T Refusal → Bool
is_error (Ok z) = false
is_error (Err z) = true

ok_err : {T : Type 0} (x : T) (y : Refusal) → Ok x ≡ Err y → ⊥
ok_err x y e = false≢true (ap (λ r. is_error r) e)

-- the slot of a set that becomes enabled fits its kind
live_fits : (kind : Kind) → fits_slot (live_slot kind) kind ≡ true
live_fits Ind = refl
live_fits Dep = refl
live_fits Compact = refl

-- the block of a group in which a pending set is enabled
module _ (block : GroupBlock) (s : HeldSet) (keeps : GroupBlockKeeps block) (fits : GroupBlockFits block) (slot_lt : s.slot < 16) where
  abbrev next : GroupBlock
  next = block_with block s

  number_small : (kind : Kind) → kind_number kind ≤ 3
  number_small Ind = omega arith
  number_small Dep = omega arith
  number_small Compact = omega arith

  pub next_keeps : GroupBlockKeeps (block_with block s)
  next_keeps = record { version = keeps.version; slots = All-set SlotKeeps block.slots s.slot (live_slot s.chunks.kind) (record { flags = omega arith; kind = number_small s.chunks.kind; stamp = omega arith }) keeps.slots }

  pub next_fits : GroupBlockFits (block_with block s)
  next_fits = record {
    sequence = omega arith;
    slot_count = length-set block.slots s.slot (live_slot s.chunks.kind) ∙ fits.slot_count;
    slots = All-set SlotFits block.slots s.slot (live_slot s.chunks.kind) (record { need = omega arith; slots = omega arith }) fits.slots;
    note_len = fits.note_len;
    note = fits.note;
  }

  pub slot_now : slot_in (block_with block s).slots s.slot ≡ live_slot s.chunks.kind
  slot_now = get_or-set_same block.slots s.slot (live_slot s.chunks.kind) no_slot (omega (arith, slot_lt, fits.slot_count))

  pub live_now : is_live (block_with block s).slots s.slot ≡ true
  live_now = ap (λ (x : Slot). has_flag live_flag x) slot_now

  pub area_now : has_flag area_b (slot_in (block_with block s).slots s.slot) ≡ false
  area_now = ap (λ (x : Slot). has_flag area_b x) slot_now

module _ (state state' : Seen) (block : GroupBlock) (V : List Seen) (s : HeldSet) (kept : IsKept state block V (s ∷ [])) (pending : is_live block.slots s.slot ≡ false) (long : length (group_block (block_with block s)) ≡ 512) where
  own : IsHeld block.slots V s
  own = of_all (IsHeld block.slots V) s kept.held

  is_next : IsTold state → block_at state'.image 1 ≡ group_block (block_with block s) → IsGroupBlock (block_at state'.image 1) (block_with block s)
  is_next told e = record { keeps = next_keeps block s kept.keeps kept.fits own.slot; fits = next_fits block s kept.keeps kept.fits own.slot; spelled = e }

  -- the set is kept with the new slots
  held_next : IsHeld (block_with block s).slots V s
  held_next = record {
    slot = own.slot;
    master = own.master;
    there = own.there;
    blocks = own.blocks;
    whole = own.whole;
    area = λ _. own.first pending ∙ sym (area_now block s kept.keeps kept.fits own.slot);
    first = λ no. absurd (false≢true (sym no ∙ live_now block s kept.keeps kept.fits own.slot));
    fits = λ _. ap (λ (x : Slot). fits_slot x s.chunks.kind) (slot_now block s kept.keeps kept.fits own.slot) ∙ live_fits s.chunks.kind;
    settled = own.settled;
    some = own.some;
    on = own.on;
  }

  meaning_old : HoldsBlock state block → meaning (the_group state block V (s ∷ [])) ≡ with_none V block.note
  meaning_old h = meaning_by (the_group state block V (s ∷ [])) h ∙ group_pending block.slots block.note V s pending

  -- the group by a state disk that holds the new block
  meaning_next : (b : GroupBlock) → kept_on state' ≡ block_with block s → All IsTold V → IsFresh s → meaning (the_group state' b V (s ∷ [])) ≡ after_enabling (with_none V block.note) s.slot s.chunks.kind s.master
  meaning_next b holds told fresh =
      let next = block_with block s in
      let live = live_now block s kept.keeps kept.fits own.slot in
      let area : s.chunks.areas.live_b ≡ has_flag area_b (slot_in next.slots s.slot) = fresh.area ∙ sym (area_now block s kept.keeps kept.fits own.slot) in
      let len = master_len block.slots V s own told state in
      ap (λ (x : GroupBlock). group_by x.slots x.note V (s ∷ [])) holds
      ∙ group_one next.slots next.note V s live area (none_back_fresh s.chunks fresh.states) len
      ∙ ap (λ (x : Slot). with_one (map (λ (d : Seen). d.image) V) (shadow_of x s s.chunks (disk_image V s.master)) block.note) (slot_now block s kept.keeps kept.fits own.slot)
      ∙ ap (λ (x : ShadowState). with_one (map (λ (d : Seen). d.image) V) x block.note) (state_fresh s.slot s (disk_image V s.master) refl fresh.states len)

  sound_next : HoldsBlock state' (block_with block s) → All IsTold V → IsFresh s → IsSound (the_group state' (block_with block s) V (s ∷ []))
  sound_next holds told fresh =
      let next = block_with block s in
      let live = live_now block s kept.keeps kept.fits own.slot in
      let it : IsSoundSet next.slots s = record { known = fresh.known; label = fresh.label; area = fresh.area ∙ sym (area_now block s kept.keeps kept.fits own.slot); none_back = none_back_fresh s.chunks fresh.states } in
      record {
        holds = holds;
        disks = record {
          told = told;
          each = subst (λ (b : Bool). All (IsSoundSet next.slots) (cond b (s ∷ []) [])) (sym live) (all_of (IsSoundSet next.slots) s it);
        };
      }

  same_set : (slot : ℕ) (s' : HeldSet) → pending_at (the_group state block V (s ∷ [])) slot ≡ Some s' → s ≡ s'
  same_set slot s' found = head_same s s' (found_only state block V (s ∷ []) slot s' (omega arith) found).only

  pub found_here : (slot : ℕ) → s.slot ≡ slot → pending_at (the_group state block V (s ∷ [])) slot ≡ Some s
  found_here slot is =
      pending_one state block V s slot
      ∙ ap (λ (t : Bool). cond (not t && eqb s.slot slot) (Some s) None) pending
      ∙ ap (λ (t : Bool). cond t (Some s) None) (eq-eqb s.slot slot is)

  kept_next : state'.size ≡ state.size → IsKept state' (block_with block s) V (s ∷ [])
  kept_next size = record {
    room = omega (arith, kept.room, size);
    keeps = next_keeps block s kept.keeps kept.fits own.slot;
    fits = next_fits block s kept.keeps kept.fits own.slot;
    count = kept.count;
    held = all_of (IsHeld (block_with block s).slots V) s held_next;
  }

  -- a fresh set is found again, whatever the slots say of it
  found_fresh : (slots : List Slot) → IsFresh s → All IsFindable (enabled_in slots (s ∷ []))
  found_fresh slots fresh = findable_one slots s (λ l. record { told = fresh.known.bitmap; label = fresh.label; none_back = none_back_fresh s.chunks fresh.states })

  -- another state disk with the same first two blocks
  whole_same : state'.size ≡ state.size → block_at state'.image 0 ≡ block_at state.image 0 → block_at state'.image 1 ≡ block_at state.image 1 → AreWhole (parts_of (the_group state block V (s ∷ []))) → AreWhole (parts_of (the_group state' block V (s ∷ [])))
  whole_same size first second whole = record {
    state = omega (arith, whole.state, size);
    label = subst (λ (b : Block). IsLabel b state_label) (sym first) whole.label;
    block = subst (λ (b : Block). IsGroupBlock b (group_block_at b)) (sym second) whole.block;
    placed = record { each = subst (λ (b : Block). All (IsPlaced (group_block_at b).slots V) (set_parts s ∷ [])) (sym second) whole.placed.each; one = whole.placed.one; count = whole.placed.count; none = whole.placed.none };
    labelled = subst (λ (b : Block). All (IsLabelled (group_block_at b).slots V) (set_parts s ∷ [])) (sym second) whole.labelled;
    settled = subst (λ (b : Block). All (IsSetSettled (group_block_at b).slots V) (set_parts s ∷ [])) (sym second) whole.settled;
  }

  -- what a write of the block keeps, whatever it answers
  shape_kept : (b : GroupBlock) → state'.size ≡ state.size → state'.steady ≡ state.steady → shape_of (the_group state' b V (s ∷ [])) ≡ shape_of (the_group state block V (s ∷ []))
  shape_kept b size steady = λ i. record { state = record { size = size i; steady = steady i }; volumes = map disk_shape V; sets = set_shape s ∷ [] }

  module _ (w : Writes {T = Unit {0}} {E = Failed} state 1 (group_block (block_with block s)) (Ok tt) state') where
    image_ok : IsTold state → state'.image ≡ put state.image 1 (group_block (block_with block s) ∷ [])
    image_ok told = w.done told ∙ ap (λ (l : Image). put state.image 1 l) (blocks_of_one (group_block (block_with block s)) long)

    second_ok : IsTold state → block_at state'.image 1 ≡ group_block (block_with block s)
    second_ok told = ap (λ (l : Image). block_at l 1) (image_ok told) ∙ put_one state.image 1 (group_block (block_with block s)) 1 refl (omega (arith, told, kept.room))

    holds_ok : IsTold state → IsLabel (block_at state.image 0) state_label → HoldsBlock state' (block_with block s)
    holds_ok told label = record {
      told = w.told told;
      label = subst (λ (b : Block). IsLabel b state_label) (sym (ap (λ (l : Image). block_at l 0) (image_ok told) ∙ put_below state.image 1 (group_block (block_with block s) ∷ []) 0 (omega arith))) label;
      holds = is_next told (second_ok told);
    }

    pub kept_ok : IsKept state' (block_with block s) V (s ∷ [])
    kept_ok = kept_next w.size

    pub confirm_ok : (slot : ℕ) → s.slot ≡ slot → Confirms {T = Unit {0}} (the_group state block V (s ∷ [])) slot (Ok tt) (the_group state' (block_with block s) V (s ∷ []))
    confirm_ok slot is = record {
      names = record { absent = λ none. absurd (none_some (sym none ∙ found_here slot is)); no_set = λ e. absurd (ok_err tt refusal.NoSet e); others = tt };
      no_set = λ e. absurd (ok_err tt refusal.NoSet e);
      rest = refl;
      writes = λ s' found. subst (λ (x : HeldSet). Writes {T = Unit {0}} {E = Refusal} state 1 (group_block (block_with block x)) (Ok tt) state') (same_set slot s' found) (writes_ok state state' 1 (group_block (block_with block s)) tt tt w);
      block = λ s' found. ap (λ (x : HeldSet). block_with block x) (same_set slot s' found);
      kept = tt;
      done = λ s' found sound. subst (λ (x : HeldSet). IsFresh x → meaning (the_group state' (block_with block s) V (s ∷ [])) ≡ after_enabling (meaning (the_group state block V (s ∷ []))) slot x.chunks.kind x.master) (same_set slot s' found) (λ fresh.
          meaning_next (block_with block s) (kept_is state' (block_with block s) (holds_ok sound.holds.told sound.holds.label)) sound.disks.told fresh
          ∙ ap (λ (x : GroupState). after_enabling x s.slot s.chunks.kind s.master) (sym (meaning_old sound.holds))
          ∙ ap (λ (k : ℕ). after_enabling (meaning (the_group state block V (s ∷ []))) k s.chunks.kind s.master) is);
      sound = λ s' found sound. subst (λ (x : HeldSet). IsFresh x → IsSound (the_group state' (block_with block s) V (s ∷ []))) (same_set slot s' found) (λ fresh. sound_next (holds_ok sound.holds.told sound.holds.label) sound.disks.told fresh);
      stopped = λ s' found sound fresh. tt;
      shape = shape_kept (block_with block s) w.size w.steady;
      still_steady = same_steady (the_group state block V (s ∷ [])) (the_group state' (block_with block s) V (s ∷ [])) (shape_kept (block_with block s) w.size w.steady);
      told = λ told. record { state = w.told told.state; volumes = told.volumes; sets = told.sets };
      whole = λ s' found. subst (λ (x : HeldSet). IsFresh x → IsFoundAgain (the_group state block V (s ∷ [])) (the_group state' (block_with block s) V (s ∷ []))) (same_set slot s' found) (λ fresh. record {
        before = whole_sound state block V (s ∷ []) (omega arith) kept;
        after = λ told whole. whole_parts state' (block_with block s) V (s ∷ []) (omega arith) kept_ok (holds_ok told.state whole.label) (found_fresh (block_with block s).slots fresh);
      });
    }

  module _ (e : Failed) (w : Writes {T = Unit {0}} {E = Failed} state 1 (group_block (block_with block s)) (Err e) state') where
    mix_err : IsTold state → IsMix state.image 1 (group_block (block_with block s) ∷ []) state'.image
    mix_err told = subst (λ (l : Image). IsMix state.image 1 l state'.image) (blocks_of_one (group_block (block_with block s)) long) (w.failed told)

    second_err : IsTold state → (block_at state'.image 1 ≡ block_at state.image 1) ⊎ (block_at state'.image 1 ≡ group_block (block_with block s))
    second_err told = (mix_err told).inside 1 (omega arith) (omega arith)

    stopped_err : HoldsBlock state block → All IsTold V → IsFresh s → (block_at state'.image 1 ≡ block_at state.image 1) ⊎ (block_at state'.image 1 ≡ group_block (block_with block s))
        → (meaning (the_group state' block V (s ∷ [])) ≡ meaning (the_group state block V (s ∷ []))) ⊎ (meaning (the_group state' block V (s ∷ [])) ≡ after_enabling (meaning (the_group state block V (s ∷ []))) s.slot s.chunks.kind s.master)
    stopped_err h told fresh (inl same) = inl (ap (λ (b : Block). meaning_of_block b) same)
      where
        meaning_of_block : Block → GroupState
        meaning_of_block b = let x = group_block_at b in group_by x.slots x.note V (s ∷ [])
    stopped_err h told fresh (inr now) = inr (
        meaning_next block (group_block_at-is (block_at state'.image 1) (block_with block s) (is_next h.told now)) told fresh
        ∙ ap (λ (x : GroupState). after_enabling x s.slot s.chunks.kind s.master) (sym (meaning_old h)))

    -- the first block stays, and so does the label
    label_err : IsTold state → block_at state'.image 0 ≡ block_at state.image 0
    label_err told = (mix_err told).outside 0 (inl (omega arith))

    whole_err : IsFresh s → IsTold state → AreWhole (parts_of (the_group state block V (s ∷ []))) → (block_at state'.image 1 ≡ block_at state.image 1) ⊎ (block_at state'.image 1 ≡ group_block (block_with block s)) → AreWhole (parts_of (the_group state' block V (s ∷ [])))
    whole_err fresh told whole (inl same) = whole_same w.size (label_err told) same whole
    whole_err fresh told whole (inr now) = whole_parts state' (block_with block s) V (s ∷ []) (omega arith) (kept_next w.size) (record {
      told = w.told told;
      label = subst (λ (b : Block). IsLabel b state_label) (sym (label_err told)) whole.label;
      holds = is_next told now;
    }) (found_fresh (block_with block s).slots fresh)

    pub confirm_err : (slot : ℕ) → s.slot ≡ slot → Confirms {T = Unit {0}} (the_group state block V (s ∷ [])) slot (Err refusal.Fault) (the_group state' block V (s ∷ []))
    confirm_err slot is = record {
      names = record { absent = λ none. absurd (none_some (sym none ∙ found_here slot is)); no_set = λ same. absurd (is_err (err_same refusal.Fault refusal.NoSet _ _ refl refl same)); others = inr refl };
      no_set = λ same. absurd (is_err (err_same refusal.Fault refusal.NoSet _ _ refl refl same));
      rest = refl;
      writes = λ s' found. subst (λ (x : HeldSet). Writes {T = Unit {0}} {E = Refusal} state 1 (group_block (block_with block x)) (Err refusal.Fault) state') (same_set slot s' found) (writes_err state state' 1 (group_block (block_with block s)) e refusal.Fault w);
      block = λ s' found. tt;
      kept = refl;
      done = λ s' found sound fresh. tt;
      sound = λ s' found sound fresh. tt;
      stopped = λ s' found sound. subst (λ (x : HeldSet). IsFresh x → (meaning (the_group state' block V (s ∷ [])) ≡ meaning (the_group state block V (s ∷ []))) ⊎ (meaning (the_group state' block V (s ∷ [])) ≡ after_enabling (meaning (the_group state block V (s ∷ []))) slot x.chunks.kind x.master)) (same_set slot s' found) (λ fresh.
          subst (λ (k : ℕ). (meaning (the_group state' block V (s ∷ [])) ≡ meaning (the_group state block V (s ∷ []))) ⊎ (meaning (the_group state' block V (s ∷ [])) ≡ after_enabling (meaning (the_group state block V (s ∷ []))) k s.chunks.kind s.master)) is
          (stopped_err sound.holds sound.disks.told fresh (second_err sound.holds.told)));
      shape = shape_kept block w.size w.steady;
      still_steady = same_steady (the_group state block V (s ∷ [])) (the_group state' block V (s ∷ [])) (shape_kept block w.size w.steady);
      told = λ told. record { state = w.told told.state; volumes = told.volumes; sets = told.sets };
      whole = λ s' found. subst (λ (x : HeldSet). IsFresh x → IsFoundAgain (the_group state block V (s ∷ [])) (the_group state' block V (s ∷ []))) (same_set slot s' found) (λ fresh. record {
        before = whole_sound state block V (s ∷ []) (omega arith) kept;
        after = λ told whole. whole_err fresh told.state whole (second_err told.state);
      });
    }

-- no such set is pending
pub confirm_none : (g : IiDisks) (slot : ℕ) → pending_at g slot ≡ None → Confirms {T = Unit {0}} g slot (Err refusal.NoSet) g
confirm_none g slot none = record {
  names = record { absent = λ _. refl; no_set = λ _. none; others = inl refl };
  no_set = λ _. refl;
  rest = refl;
  writes = λ s found. absurd (none_some (sym none ∙ found));
  block = λ s found. tt;
  kept = refl;
  done = λ s found sound fresh. tt;
  sound = λ s found sound fresh. tt;
  stopped = λ s found sound fresh. absurd (none_some (sym none ∙ found));
  shape = refl;
  still_steady = refl;
  told = λ told. told;
  whole = λ s found fresh. absurd (none_some (sym none ∙ found));
}
