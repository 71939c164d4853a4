-- What a write to a volume makes of a group that holds one set at most, as volumes to write to.
use Rattle.std.proofs.Common.{◌≡◌, ◌≢◌, inl, inr, ℕ, zero, suc, ◌+◌, ◌-◌, ◌/◌, ◌^◌, ◌<◌, ◌≤◌, min, Bool, true, false, not, cond, eqb, ◌&&◌, IsTrue, All, List, [], ◌∷◌, length, map, set, get_or, slice_index, slice_index_or, is_some, Result, Ok, Err, is_ok, refl, sym, ◌∙◌, ap, subst, arith}
use Rattle.std.specs.Bool.{⊤}
use Rattle.std.specs.List.{list_all, flat_map}
use Rattle.std.proofs.Math.Seq.{map-set_same}
use Rattle.std.proofs.lemmas.Bool.{cases_Bool, cases_eq, eqb-true, eq-eqb}
use Rattle.std.proofs.lemmas.Simd.{map-map}
use Rattle.std.proofs.lemmas.List.Elements.{All-set}
use Rattle.std.proofs.lemmas.List.{set-append_left, get_or_append_left, length-append, get_or-map, map-set, get_or-set_other, length-set}
use Rattle.std.proofs.lemmas.Result.{on_ok_weaker, on_err_weaker}
use Rattle.avs_seg.specs.Image.{Image, blocks_of, put, range, IsMix, ChangesWithin}
use Rattle.avs_seg.specs.Causes.{HasCause}
use Rattle.avs_seg.proofs.Bytes.{length-blocks_of}
use Rattle.avs_seg.proofs.Changes.{ChangesWithin-put, ChangesWithin-mix}
use Rattle.avs_dev.specs.Seen.{Seen, IsTold, Reads, Writes, UsesTear, GoesOn}
use Rattle.avs_dev.specs.Below.{image_of, IsToldAt, ReadsBelow, WritesBelow}
use Rattle.avs_dev.specs.Devices.{HasOneCause, UsesOneTear}
use Rattle.avs_dev.proofs.SomeDisks.{HasOneCause_at, UsesOneTear_at, steady_same, steady_at}
use Rattle.avs_code.specs.declared.slot_table.Slot.{Slot}
use Rattle.avs_code.specs.declared.group_blocks.GroupBlock.{GroupBlock}
use Rattle.avs_model.specs.Shadows.{ShadowState, GroupState, GroupStage, after_stages, StoppedIn, slots_of, volume_write_stages}
use Rattle.avs_chunk.specs.Disks.{AreSameDisks}
use Rattle.avs_chunk.specs.ChunkSet.{ChunkSet, IsKnown, disks_there}
use Rattle.avs_chunk.specs.Calls as calls
use Rattle.avs_chunk.specs.Calls.{Stays}
use Rattle.avs_ii.specs.Held.{HeldSet, IiDisks, slot_in, is_live, disks_of, pending_in}
use Rattle.avs_ii.specs.Meaning.{group_by, shadow_of, disk_image}
use Rattle.avs_ii.specs.Sound.{IsSoundSet, HasNoneBack}
use Rattle.avs_ii.specs.Saved.{WritesMaster, IsSettledInMemory}
use Rattle.avs_ii.specs.Kept.{IsHeld, IsKept}
use Rattle.avs_ii.specs.Making.{no_faults}
use Rattle.avs_ii.specs.Calls.{written_on, on_each}
use Rattle.avs_ii.specs.AsBelow.{below_of, rest_of, quiet, quiet_set, group_of, IsSoundRest, WroteRest, AreFindable}
use Rattle.avs_ii.proofs.OpenSets.{fits_online}
use Rattle.avs_ii.proofs.Writes.{Ready, none_after, image_now, images_now, image_at, master_done, master_stopped, volume_done, volume_stopped, slots_other}
use Rattle.avs_ii.proofs.Marks.{with_one}
use Rattle.avs_ii.proofs.Forms.{group_none, group_pending, group_one, set_state}
use Rattle.avs_ii.proofs.Groups.{tears_kept, three_same, three_later, three_rose, three_armed, three_used, three_steady, three_are_steady}
use Rattle.avs_ii.proofs.Shapes.{keeps_group, keeps_written, shapes_at, same_disk}
use Rattle.avs_ii.proofs.Quiet.{group_quiet, group_quiet_none, quiet_sound, sound_one, told_at}
use Rattle.avs_ii.proofs.Findable.{findable_one, one_findable, quiet_findable, findable_quiet, findable_kept}

abbrev pub as_group : Seen → GroupBlock → List Seen → List HeldSet → IiDisks
as_group state block volumes sets = record { state = state; block = block; volumes = volumes; sets = sets }

pub all_one : {X : Type 0} (P : X → Type 0) (x : X) → P x → All P (x ∷ [])
all_one {X = X} P x p = λ i d lt. go i d lt
  where
    go : (i : ℕ) (d : X) → i < 1 → P (get_or (x ∷ []) i d)
    go zero d lt = p
    go (suc i) d lt = elim (none i lt) [ ]
      where
        none : (i : ℕ) → suc i < 1 → ⊥
        none i lt = omega arith

pub at_one : {X : Type 0} (P : X → Type 0) (x : X) → All P (x ∷ []) → P x
at_one P x all = all 0 x (omega arith)

-- ---- one volume of several

module _ (V : List Seen) (vol : ℕ) (m m' : Seen) (there : vol < length V) (disk : m ≡ slice_index_or V vol m) where
  pub size_at : slice_index (map (λ (d : Seen). d.size) V) vol ≡ m.size
  size_at = get_or-map (λ (d : Seen). d.size) V vol m 0 there ∙ ap (λ (d : Seen). d.size) (sym disk)

  pub sizes_same : m'.size ≡ m.size → map (λ (d : Seen). d.size) (set V vol m') ≡ map (λ (d : Seen). d.size) V
  sizes_same same = map-set_same (λ (d : Seen). d.size) V vol m' m (same ∙ ap (λ (d : Seen). d.size) disk)

  pub written_was : slice_index (map (λ (d : Seen). d.written) (map quiet V)) vol ≡ m.written
  written_was =
      ap (λ (l : List ℕ). slice_index l vol) (map-map (λ (d : Seen). d.written) quiet V)
      ∙ get_or-map (λ (d : Seen). d.written) V vol m 0 there ∙ ap (λ (d : Seen). d.written) (sym disk)

  pub written_at : map (λ (d : Seen). d.written) (map quiet (set V vol m')) ≡ set (map (λ (d : Seen). d.written) (map quiet V)) vol m'.written
  written_at =
      map-map (λ (d : Seen). d.written) quiet (set V vol m')
      ∙ map-set (λ (d : Seen). d.written) V vol m'
      ∙ ap (λ (l : List ℕ). set l vol m'.written) (sym (map-map (λ (d : Seen). d.written) quiet V))

  pub told_set : All IsTold (map quiet V) → IsTold m' → All IsTold (map quiet (set V vol m'))
  told_set told now = subst (λ (l : List Seen). All IsTold l) (sym (map-set quiet V vol m')) (All-set IsTold (map quiet V) vol (quiet m') now told)

-- a set stays in a group whose volumes keep their sizes
pub held_same : (slots : List Slot) (V V' : List Seen) (s : HeldSet) → map (λ (d : Seen). d.size) V' ≡ map (λ (d : Seen). d.size) V → length V' ≡ length V → IsHeld slots V s → IsHeld slots V' s
held_same slots V V' s sizes long h = record { slot = h.slot; master = omega (arith, h.master, long); there = h.there; blocks = ap (λ (l : List ℕ). slice_index l s.master) sizes ∙ h.blocks; whole = h.whole; area = h.area; first = h.first; fits = h.fits; settled = h.settled; some = h.some; on = h.on }

pub both_true : (a b : Bool) → (a && b) ≡ true → (a ≡ true) × (b ≡ true)
both_true true true t = (refl, refl)
both_true true false t = cc
both_true false b t = cc

-- ---- a master of which the set is enabled

module _ (state : Seen) (block : GroupBlock) (V : List Seen) (h : HeldSet) (kept : IsKept state block V (h ∷ [])) (vol : ℕ) (m : Seen) (there : vol < length V) (disk : m ≡ slice_index_or V vol m) (test : (eqb h.master vol && is_live block.slots h.slot) ≡ true) where
  own : IsHeld block.slots V h
  own = at_one (IsHeld block.slots V) h kept.held

  is : h.master ≡ vol
  is = eqb-true h.master vol (both_true _ _ test).0

  live : is_live block.slots h.slot ≡ true
  live = (both_true _ _ test).1

  pub size_is : m.size ≡ h.chunks.blocks
  size_is = sym (size_at V vol m m there disk) ∙ ap (λ (k : ℕ). slice_index (map (λ (d : Seen). d.size) V) k) (sym is) ∙ own.blocks

  ready : Ready block.slots V h m
  ready = record { live = live; area = own.area live; online = fits_online (slot_in block.slots h.slot) h.chunks.kind (own.fits live); slot = own.slot; there = own.master; disk = disk ∙ ap (λ (k : ℕ). slice_index_or V k m) (sym is); size = size_is }

  module _ (at : ℕ) (bytes : List ℕ) (c' : ChunkSet) (m' : Seen) (stays : Stays h.chunks c') (same : AreSameDisks (calls.disks_of h.chunks m) (calls.disks_of c' m')) (settled : IsSettledInMemory c') where
    abbrev h' : HeldSet
    h' = record h { chunks = c' }

    abbrev V' : List Seen
    V' = set V vol m'

    abbrev g : IiDisks
    g = as_group state block V (h ∷ [])

    abbrev g' : IiDisks
    g' = as_group state block V' (h' ∷ [])

    sizes : map (λ (d : Seen). d.size) V' ≡ map (λ (d : Seen). d.size) V
    sizes = sizes_same V vol m m' there disk same.master.size

    pub master_kept : IsKept state block V' (h' ∷ [])
    master_kept = keeps_group state block V V' h c' (keeps_written h c' m m' stays same) (shapes_at V vol m m' disk (same_disk m m' same.master)) settled kept

    there' : IsTrue (is_some c'.shadow)
    there' = subst (λ (b : Bool). IsTrue b) (sym stays.there) own.there

    image_was : image_of (below_of g) vol ≡ m.image
    image_was = image_at V vol m there disk

    image_after : image_of (below_of g') vol ≡ m'.image
    image_after = image_now V vol m' there

    told_is : IsToldAt (below_of g) vol → IsTold m
    told_is told = ap (λ (i : Image). length i) (sym image_was) ∙ told ∙ size_at V vol m m there disk

    told_now : IsTold m' → IsToldAt (below_of g') vol
    told_now told = ap (λ (i : Image). length i) image_after ∙ told ∙ sym (ap (λ (l : List ℕ). slice_index l vol) sizes ∙ size_at V vol m m there disk ∙ sym same.master.size)

    done_as : m'.image ≡ put m.image at (blocks_of bytes) → image_of (below_of g') vol ≡ put (image_of (below_of g) vol) at (blocks_of bytes)
    done_as done = image_after ∙ done ∙ ap (λ (i : Image). put i at (blocks_of bytes)) (sym image_was)

    mix_as : IsMix m.image at (blocks_of bytes) m'.image → IsMix (image_of (below_of g) vol) at (blocks_of bytes) (image_of (below_of g') vol)
    mix_as mix = subst (λ (i : Image). IsMix i at (blocks_of bytes) (image_of (below_of g') vol)) (sym image_was) (subst (λ (i : Image). IsMix m.image at (blocks_of bytes) i) (sym image_after) mix)

    within_as : (n : ℕ) → length (blocks_of bytes) ≡ n → ChangesWithin at (length (blocks_of bytes)) m.image m'.image → ChangesWithin at n (image_of (below_of g) vol) (image_of (below_of g') vol)
    within_as n is c = subst (λ (k : ℕ). ChangesWithin at k (image_of (below_of g) vol) (image_of (below_of g') vol)) is (subst (λ (i : Image). ChangesWithin at (length (blocks_of bytes)) i (image_of (below_of g') vol)) (sym image_was) (subst (λ (i : Image). ChangesWithin at (length (blocks_of bytes)) m.image i) (sym image_after) c))

    others : (below_of g').images ≡ set (below_of g).images vol (image_of (below_of g') vol)
    others = images_now V vol m' there ∙ ap (λ (i : Image). set (map (λ (d : Seen). d.image) V) vol i) (sym image_after)

    others_kept : (other : ℕ) → other ≢ vol → image_of (below_of g') other ≡ image_of (below_of g) other
    others_kept other apart = ap (λ (l : List Image). slice_index_or l other []) (images_now V vol m' there) ∙ get_or-set_other (map (λ (d : Seen). d.image) V) vol other m'.image [] apart

    told_any : (any : ℕ) → IsToldAt (below_of g) any → IsToldAt (below_of g') any
    told_any any told = elim (cases_eq any vol) [
      | inl at_vol ↦ subst (λ (k : ℕ). IsToldAt (below_of g') k) (sym at_vol) (told_now (same.master.told (told_is (subst (λ (k : ℕ). IsToldAt (below_of g) k) at_vol told))))
      | inr apart ↦ ap (λ (i : Image). length i) (others_kept any apart) ∙ told ∙ sym (ap (λ (l : List ℕ). slice_index l any) sizes)
    ]

    pub master_writes : {T E : Type 0} (r : Result T E) → WritesMaster h.chunks m at bytes r c' m' → WritesBelow ⊤ (below_of g) vol at bytes r (below_of g')
    master_writes (Ok x) w = record {
      others = others;
      sizes = sizes;
      note = refl;
      stored = refl;
      steady = three_steady state V vol m m' h h' there disk own.there there' same;
      cause = record { later = three_later state V vol m m' h h' there disk own.there there' same; failed = tt; same = three_same state V vol m m' h h' there disk own.there there' same w.causes.armed };
      done = λ _ told. done_as (w.done (told_is told));
      failed = λ _ told. tt;
      within = λ _ told. within_as (length bytes / 512) (length-blocks_of bytes) (subst (λ (i : Image). ChangesWithin at (length (blocks_of bytes)) m.image i) (sym (w.done (told_is told))) (ChangesWithin-put m.image at (blocks_of bytes)));
      told = told_any;
      kept = others_kept;
      still_armed = three_armed state V vol m m' h h' there disk own.there there' same (tears_kept _ _ w.causes.armed);
      spent = λ steady. tt;
    }
    master_writes (Err f) w = record {
      others = others;
      sizes = sizes;
      note = refl;
      stored = refl;
      steady = three_steady state V vol m m' h h' there disk own.there there' same;
      cause = record { later = three_later state V vol m m' h h' there disk own.there there' same; failed = three_rose state V vol m m' h h' there disk own.there there' same w.causes.failed; same = tt };
      done = λ _ told. tt;
      failed = λ _ told. mix_as (w.failed (told_is told));
      within = λ _ told. within_as (length bytes / 512) (length-blocks_of bytes) (ChangesWithin-mix m.image at (blocks_of bytes) m'.image (w.failed (told_is told)));
      told = told_any;
      kept = others_kept;
      still_armed = tt;
      spent = λ steady. three_used state V vol m m' h h' there disk own.there there' same (w.causes.used (three_are_steady state V vol m m' h h' there disk own.there there' same steady));
    }

    -- ---- the rest

    quiet_before : group_of (rest_of g) ≡ group_by block.slots [] V (h ∷ [])
    quiet_before = group_quiet block.slots [] V h

    quiet_after : group_of (rest_of g') ≡ group_by block.slots [] V' (h' ∷ [])
    quiet_after = group_quiet block.slots [] V' h'

    sound_set : IsSoundRest (rest_of g) → IsSoundSet block.slots h
    sound_set sound = sound_one block.slots (map quiet V) h live sound

    sound_told : IsSoundRest (rest_of g) → IsTold m
    sound_told sound = told_at V vol m sound.told there disk

    pending_same : pending_in block.slots (quiet_set h' ∷ []) ≡ pending_in block.slots (quiet_set h ∷ [])
    pending_same = ap (λ (b : Bool). cond (not b) (quiet_set h' ∷ []) []) live ∙ sym (ap (λ (b : Bool). cond (not b) (quiet_set h ∷ []) []) live)

    -- a fact of the two groups, said of the rest
    as_rest : (P : GroupState → GroupState → Type 0) → P (group_by block.slots [] V (h ∷ [])) (group_by block.slots [] (set V h.master m') (h' ∷ [])) → P (group_of (rest_of g)) (group_of (rest_of g'))
    as_rest P p =
        subst (λ (x : GroupState). P x (group_of (rest_of g'))) (sym quiet_before)
        (subst (λ (x : GroupState). P (group_by block.slots [] V (h ∷ [])) x) (ap (λ (k : ℕ). group_by block.slots [] (set V k m') (h' ∷ [])) is ∙ sym quiet_after) p)

    abbrev stages : GroupState → List GroupStage
    stages x = volume_write_stages x.sets vol at (blocks_of bytes)

    sound_after : (known : IsKnown c') → HasNoneBack c' → IsSoundRest (rest_of g) → IsTold m' → IsSoundRest (rest_of g')
    sound_after known plain sound told = record {
      told = told_set V vol m m' there disk sound.told told;
      each = subst (λ (b : Bool). All (IsSoundSet block.slots) (cond b (quiet_set h' ∷ []) [])) (sym live) (all_one (IsSoundSet block.slots) (quiet_set h') (quiet_sound block.slots h' (record {
        known = known;
        label = stays.label (sound_set sound).known.bitmap (sound_set sound).label;
        area = stays.live_b ∙ (sound_set sound).area;
        none_back = plain;
      })));
    }

    found_after : AreFindable (rest_of g) → AreFindable (rest_of g')
    found_after found = findable_one block.slots (quiet_set h') (λ l. quiet_findable h' (findable_kept h c' stays own.settled same.bitmap.told (findable_quiet h (one_findable block.slots (quiet_set h) found l))))

    written_set : written_on (rest_of g').volumes ≡ set (written_on (rest_of g).volumes) vol m'.written
    written_set = written_at V vol m m' there disk

    module _ (range : 0 < length bytes / 512) (inside : at + length bytes / 512 ≤ h.chunks.blocks) {T E : Type 0} where
      pub master_wrote : (r : Result T E) → WritesMaster h.chunks m at bytes r c' m' → WroteRest (rest_of g) vol at bytes (is_ok r) (rest_of g')
      master_wrote (Ok x) w = record {
        slots = refl;
        pending = pending_same;
        done = λ sound ok. as_rest (λ a b. b ≡ after_stages a (stages a)) (subst (λ (k : ℕ). group_by block.slots [] (set V h.master m') (h' ∷ []) ≡ after_stages (group_by block.slots [] V (h ∷ [])) (volume_write_stages (group_by block.slots [] V (h ∷ [])).sets k at (blocks_of bytes))) is
            (master_done block.slots [] V h m ready (sound_set sound).none_back (sound_set sound).known (sound_told sound) c' m' at bytes range inside x w));
        stopped = λ sound ok. cc;
        sound = λ sound ok. sound_after (w.known (sound_set sound).known (sound_told sound))
            (none_after h.chunks c' _ _ stays.blocks (sound_set sound).none_back (w.split (sound_set sound).known (sound_told sound))) sound (same.master.told (sound_told sound));
        findable = found_after;
        counts = λ ok. written_set ∙ ap (λ (n : ℕ). set (written_on (rest_of g).volumes) vol n) (w.counted ∙ ap (λ (n : ℕ). min (n + length bytes / 512) (2 ^ 64 - 1)) (sym (written_was V vol m m' there disk)));
      }
      master_wrote (Err f) w = record {
        slots = refl;
        pending = pending_same;
        done = λ sound ok. cc;
        stopped = λ sound ok. as_rest (λ a b. StoppedIn a (stages a) b) (subst (λ (k : ℕ). StoppedIn (group_by block.slots [] V (h ∷ [])) (volume_write_stages (group_by block.slots [] V (h ∷ [])).sets k at (blocks_of bytes)) (group_by block.slots [] (set V h.master m') (h' ∷ []))) is
            (master_stopped block.slots [] V h m ready (sound_set sound).none_back (sound_set sound).known (sound_told sound) c' m' at bytes range inside f w));
        sound = λ sound ok. cc;
        findable = found_after;
        counts = λ ok. cc;
      }

-- ---- a volume that no enabled set has as its master

module _ (state : Seen) (block : GroupBlock) (V : List Seen) (sets : List HeldSet) (vol : ℕ) (m m' : Seen) (there : vol < length V) (disk : m ≡ slice_index_or V vol m) where
  abbrev p : IiDisks
  p = as_group state block V sets

  abbrev p' : IiDisks
  p' = as_group state block (set V vol m') sets

  abbrev rest_disks : List Seen
  rest_disks = flat_map (λ (s : HeldSet). disks_there s.chunks) sets

  disks_are : disks_of p' ≡ set (disks_of p) (suc vol) m'
  disks_are = ap (λ (l : List Seen). state ∷ l) (sym (set-append_left V rest_disks vol m' there))

  disk_at : get_or (disks_of p) (suc vol) m ≡ m
  disk_at = get_or_append_left V rest_disks m vol there ∙ sym disk

  in_all : suc vol < length (disks_of p)
  in_all = omega (arith, length-append V rest_disks, there)

  v_image_was : image_of (below_of p) vol ≡ m.image
  v_image_was = image_at V vol m there disk

  v_image_after : image_of (below_of p') vol ≡ m'.image
  v_image_after = image_now V vol m' there

  v_told_is : IsToldAt (below_of p) vol → IsTold m
  v_told_is told = ap (λ (i : Image). length i) (sym v_image_was) ∙ told ∙ size_at V vol m m there disk

  pub v_kept : m'.size ≡ m.size → IsKept state block V sets → IsKept state block (set V vol m') sets
  v_kept same kept = record {
    room = kept.room;
    keeps = kept.keeps;
    fits = kept.fits;
    count = omega (arith, kept.count, length-set V vol m');
    held = λ i d lt. held_same block.slots V (set V vol m') (get_or sets i d) (sizes_same V vol m m' there disk same) (length-set V vol m') (kept.held i d lt);
  }

  pub v_writes : {T E : Type 0} (at : ℕ) (bytes : List ℕ) (r : Result T E) → Writes m at bytes r m' → WritesBelow ⊤ (below_of p) vol at bytes r (below_of p')
  v_writes at bytes r w = record {
    others = images_now V vol m' there ∙ ap (λ (i : Image). set (map (λ (d : Seen). d.image) V) vol i) (sym v_image_after);
    sizes = sizes;
    note = refl;
    stored = refl;
    steady = ap (λ (l : List Seen). list_all (λ (d : Seen). d.steady) l) disks_are ∙ steady_same (disks_of p) (suc vol) m' m in_all (w.steady ∙ ap (λ (d : Seen). d.steady) (sym disk_at));
    cause = subst (λ (l : List Seen). HasOneCause (map (λ (d : Seen). d.faults) (disks_of p)) (map (λ (d : Seen). d.faults) l) r) (sym disks_are) (HasOneCause_at (disks_of p) (suc vol) m' m in_all r (subst (λ (d : Seen). HasCause d.faults m'.faults r) (sym disk_at) w.cause) (subst (λ (d : Seen). GoesOn d r m') (sym disk_at) w.goes));
    done = λ _ told. on_ok_weaker r (λ done. v_image_after ∙ done ∙ ap (λ (i : Image). put i at (blocks_of bytes)) (sym v_image_was)) (w.done (v_told_is told));
    failed = λ _ told. on_err_weaker r (λ mix. subst (λ (i : Image). IsMix i at (blocks_of bytes) (image_of (below_of p') vol)) (sym v_image_was) (subst (λ (i : Image). IsMix m.image at (blocks_of bytes) i) (sym v_image_after) mix)) (w.failed (v_told_is told));
    within = λ _ told. subst (λ (i : Image). ChangesWithin at (length bytes / 512) i (image_of (below_of p') vol)) (sym v_image_was) (subst (λ (i : Image). ChangesWithin at (length bytes / 512) m.image i) (sym v_image_after) (w.within (v_told_is told)));
    told = told_any;
    kept = others_kept;
    still_armed = on_ok_weaker r (λ armed. ap (λ (l : List Seen). map (λ (d : Seen). d.armed) l) disks_are ∙ map-set_same (λ (d : Seen). d.armed) (disks_of p) (suc vol) m' m (armed ∙ ap (λ (d : Seen). d.armed) (sym disk_at))) w.still_armed;
    spent = λ steady. on_err_weaker r (λ u. subst (λ (l : List Seen). UsesOneTear (map (λ (d : Seen). d.armed) (disks_of p)) (map (λ (d : Seen). d.armed) l)) (sym disks_are) (UsesOneTear_at (disks_of p) (suc vol) m' m in_all (subst (λ (d : Seen). UsesTear d m') (sym disk_at) u))) (w.spent (subst (λ (d : Seen). IsTrue d.steady) disk_at (steady_at (disks_of p) (suc vol) m' m in_all steady)));
  }
    where
      sizes : map (λ (d : Seen). d.size) (set V vol m') ≡ map (λ (d : Seen). d.size) V
      sizes = sizes_same V vol m m' there disk w.size

      told_now : IsTold m' → IsToldAt (below_of p') vol
      told_now told = ap (λ (i : Image). length i) v_image_after ∙ told ∙ sym (ap (λ (l : List ℕ). slice_index l vol) sizes ∙ size_at V vol m m there disk ∙ sym w.size)

      others_kept : (other : ℕ) → other ≢ vol → image_of (below_of p') other ≡ image_of (below_of p) other
      others_kept other apart = ap (λ (l : List Image). slice_index_or l other []) (images_now V vol m' there) ∙ get_or-set_other (map (λ (d : Seen). d.image) V) vol other m'.image [] apart

      told_any : (any : ℕ) → IsToldAt (below_of p) any → IsToldAt (below_of p') any
      told_any any told = elim (cases_eq any vol) [
        | inl at_vol ↦ subst (λ (k : ℕ). IsToldAt (below_of p') k) (sym at_vol) (told_now (w.told (v_told_is (subst (λ (k : ℕ). IsToldAt (below_of p) k) at_vol told))))
        | inr apart ↦ ap (λ (i : Image). length i) (others_kept any apart) ∙ told ∙ sym (ap (λ (l : List ℕ). slice_index l any) sizes)
      ]

  -- the rest, where the write is its own stage
  module _ (at : ℕ) (bytes : List ℕ)
      (done : IsSoundRest (rest_of p) → m'.image ≡ put m.image at (blocks_of bytes) → group_of (rest_of p') ≡ after_stages (group_of (rest_of p)) (volume_write_stages (group_of (rest_of p)).sets vol at (blocks_of bytes)))
      (stopped : IsSoundRest (rest_of p) → IsMix m.image at (blocks_of bytes) m'.image → StoppedIn (group_of (rest_of p)) (volume_write_stages (group_of (rest_of p)).sets vol at (blocks_of bytes)) (group_of (rest_of p'))) where
    v_sound : IsSoundRest (rest_of p) → IsTold m' → IsSoundRest (rest_of p')
    v_sound sound told = record { told = told_set V vol m m' there disk sound.told told; each = sound.each }

    pub v_wrote : {T E : Type 0} (r : Result T E) → Writes m at bytes r m' → WroteRest (rest_of p) vol at bytes (is_ok r) (rest_of p')
    v_wrote (Ok x) w = record {
      slots = refl;
      pending = refl;
      done = λ sound ok. done sound (w.done (told_at V vol m sound.told there disk));
      stopped = λ sound ok. cc;
      sound = λ sound ok. v_sound sound (w.told (told_at V vol m sound.told there disk));
      findable = λ found. found;
      counts = λ ok. written_at V vol m m' there disk ∙ ap (λ (n : ℕ). set (written_on (rest_of p).volumes) vol n) (w.counted ∙ ap (λ (n : ℕ). min (n + length bytes / 512) (2 ^ 64 - 1)) (sym (written_was V vol m m' there disk)));
    }
    v_wrote (Err f) w = record {
      slots = refl;
      pending = refl;
      done = λ sound ok. cc;
      stopped = λ sound ok. stopped sound (w.failed (told_at V vol m sound.told there disk));
      sound = λ sound ok. cc;
      findable = λ found. found;
      counts = λ ok. cc;
    }

-- ---- the stages of such a write

module _ (state : Seen) (block : GroupBlock) (V : List Seen) (vol : ℕ) (m m' : Seen) (there : vol < length V) (disk : m ≡ slice_index_or V vol m) (at : ℕ) (bytes : List ℕ) where
  none_as : (P : GroupState → GroupState → Type 0) → P (group_by block.slots [] V []) (group_by block.slots [] (set V vol m') []) → P (group_of (rest_of (as_group state block V []))) (group_of (rest_of (as_group state block (set V vol m') [])))
  none_as P p =
      subst (λ (x : GroupState). P x (group_of (rest_of (as_group state block (set V vol m') [])))) (sym (group_quiet_none block.slots [] V))
      (subst (λ (x : GroupState). P (group_by block.slots [] V []) x) (sym (group_quiet_none block.slots [] (set V vol m'))) p)

  pub none_wrote : {T E : Type 0} (r : Result T E) → Writes m at bytes r m' → WroteRest (rest_of (as_group state block V [])) vol at bytes (is_ok r) (rest_of (as_group state block (set V vol m') []))
  none_wrote r w = v_wrote state block V [] vol m m' there disk at bytes
      (λ sound done. none_as (λ a b. b ≡ after_stages a (volume_write_stages a.sets vol at (blocks_of bytes))) (volume_done block.slots [] V vol m m' there disk at bytes [] [] [] (group_none block.slots [] V) (group_none block.slots [] (set V vol m')) refl done))
      (λ sound mix. none_as (λ a b. StoppedIn a (volume_write_stages a.sets vol at (blocks_of bytes)) b) (volume_stopped block.slots [] V vol m m' there disk at bytes [] [] [] (group_none block.slots [] V) (group_none block.slots [] (set V vol m')) refl mix))
      r w

  module _ (h : HeldSet) (kept : IsKept state block V (h ∷ [])) (test : (eqb h.master vol && is_live block.slots h.slot) ≡ false) where
    abbrev q : IiDisks
    q = as_group state block V (h ∷ [])

    abbrev q' : IiDisks
    q' = as_group state block (set V vol m') (h ∷ [])

    one_as : (P : GroupState → GroupState → Type 0) → P (group_by block.slots [] V (h ∷ [])) (group_by block.slots [] (set V vol m') (h ∷ [])) → P (group_of (rest_of q)) (group_of (rest_of q'))
    one_as P p =
        subst (λ (x : GroupState). P x (group_of (rest_of q'))) (sym (group_quiet block.slots [] V h))
        (subst (λ (x : GroupState). P (group_by block.slots [] V (h ∷ [])) x) (sym (group_quiet block.slots [] (set V vol m') h)) p)

    apart : is_live block.slots h.slot ≡ true → h.master ≢ vol
    apart live same = no_way (sym test ∙ ap (λ (x : Bool). x && is_live block.slots h.slot) (eq-eqb h.master vol same) ∙ live)
      where
        no_way : false ≡ true → ⊥
        no_way e = cc

    -- a form that both groups have, with the same sets
    record SameSets : Type 0 where
      held : List ShadowState
      before : group_by block.slots [] V (h ∷ []) ≡ record { volumes = map (λ (d : Seen). d.image) V; sets = held; note = [] }
      after : group_by block.slots [] (set V vol m') (h ∷ []) ≡ record { volumes = map (λ (d : Seen). d.image) (set V vol m'); sets = held; note = [] }
      none : slots_of held vol ≡ []

    same_pending : is_live block.slots h.slot ≡ false → SameSets
    same_pending pending = record { held = []; before = group_pending block.slots [] V h pending; after = group_pending block.slots [] (set V vol m') h pending; none = refl }

    same_enabled : IsSoundRest (rest_of q) → is_live block.slots h.slot ≡ true → SameSets
    same_enabled sound live =
        let own : IsHeld block.slots V h = at_one (IsHeld block.slots V) h kept.held in
        let set_sound = sound_one block.slots (map quiet V) h live sound in
        let there_h : h.master < length V = own.master in
        let m_h : Seen = slice_index_or V h.master m in
        let is_h : m_h ≡ slice_index_or V h.master m_h = same_default V h.master m there_h in
        let told : IsTold m_h = told_at V h.master m_h sound.told there_h is_h in
        let image : disk_image V h.master ≡ m_h.image = image_at V h.master m_h there_h is_h in
        let long : length (disk_image V h.master) ≡ h.chunks.blocks = ap (λ (i : Image). length i) image ∙ told ∙ sym (size_at V h.master m_h m_h there_h is_h) ∙ own.blocks in
        let kept_image : disk_image (set V vol m') h.master ≡ disk_image V h.master = ap (λ (l : List Image). slice_index_or l h.master []) (images_now V vol m' there) ∙ get_or-set_other (map (λ (d : Seen). d.image) V) vol h.master m'.image [] (apart live) in
        record {
          held = set_state block.slots V h ∷ [];
          before = group_one block.slots [] V h live (own.area live) set_sound.none_back long;
          after = group_one block.slots [] (set V vol m') h live (own.area live) set_sound.none_back (ap (λ (i : Image). length i) kept_image ∙ long)
              ∙ ap (λ (i : Image). with_one (map (λ (d : Seen). d.image) (set V vol m')) (shadow_of (slot_in block.slots h.slot) h h.chunks i) []) kept_image;
          none = slots_other (set_state block.slots V h) vol (apart live);
        }
      where
        same_default : (l : List Seen) (i : ℕ) (d : Seen) → i < length l → slice_index_or l i d ≡ slice_index_or l i (slice_index_or l i d)
        same_default [] i d lt = refl
        same_default (x ∷ l) zero d lt = refl
        same_default (x ∷ l) (suc i) d lt = same_default l i d (omega (arith, lt))

    same_sets : IsSoundRest (rest_of q) → SameSets
    same_sets sound = elim (cases_Bool (is_live block.slots h.slot)) [
      | inl live ↦ same_enabled sound live
      | inr pending ↦ same_pending pending
    ]

    pub one_wrote : {T E : Type 0} (r : Result T E) → Writes m at bytes r m' → WroteRest (rest_of q) vol at bytes (is_ok r) (rest_of q')
    one_wrote r w = v_wrote state block V (h ∷ []) vol m m' there disk at bytes
        (λ sound done. let same = same_sets sound in one_as (λ a b. b ≡ after_stages a (volume_write_stages a.sets vol at (blocks_of bytes))) (volume_done block.slots [] V vol m m' there disk at bytes (h ∷ []) (h ∷ []) same.held same.before same.after same.none done))
        (λ sound mix. let same = same_sets sound in one_as (λ a b. StoppedIn a (volume_write_stages a.sets vol at (blocks_of bytes)) b) (volume_stopped block.slots [] V vol m m' there disk at bytes (h ∷ []) (h ∷ []) same.held same.before same.after same.none mix))
        r w

-- ---- a read of a volume

module _ (state : Seen) (block : GroupBlock) (V : List Seen) (sets : List HeldSet) (vol : ℕ) (m m' : Seen) (there : vol < length V) (disk : m ≡ slice_index_or V vol m) {T E : Type 0} (at : ℕ) (out : List ℕ) (r : Result T E) (w : Reads m at out r m') where
  abbrev b : IiDisks
  b = as_group state block V sets

  abbrev b' : IiDisks
  b' = as_group state block (set V vol m') sets

  read_disks : disks_of b' ≡ set (disks_of b) (suc vol) m'
  read_disks = disks_are state block V sets vol m m' there disk

  read_at : get_or (disks_of b) (suc vol) m ≡ m
  read_at = disk_at state block V sets vol m m' there disk

  read_in : suc vol < length (disks_of b)
  read_in = in_all state block V sets vol m m' there disk

  read_images : (below_of b').images ≡ (below_of b).images
  read_images = map-set_same (λ (d : Seen). d.image) V vol m' m (ap (λ (d : Seen). d.image) (w.rest ∙ ap (λ (d : Seen). record d { faults = m'.faults }) disk))

  read_sizes : (below_of b').sizes ≡ (below_of b).sizes
  read_sizes = sizes_same V vol m m' there disk (ap (λ (d : Seen). d.size) w.rest)

  read_armed : (below_of b').armed ≡ (below_of b).armed
  read_armed = ap (λ (l : List Seen). map (λ (d : Seen). d.armed) l) read_disks ∙ map-set_same (λ (d : Seen). d.armed) (disks_of b) (suc vol) m' m (ap (λ (d : Seen). d.armed) (w.rest ∙ ap (λ (d : Seen). record d { faults = m'.faults }) (sym read_at)))

  read_steady : (below_of b').steady ≡ (below_of b).steady
  read_steady = ap (λ (l : List Seen). list_all (λ (d : Seen). d.steady) l) read_disks ∙ steady_same (disks_of b) (suc vol) m' m read_in (ap (λ (d : Seen). d.steady) (w.rest ∙ ap (λ (d : Seen). record d { faults = m'.faults }) (sym read_at)))

  read_image : image_of (below_of b) vol ≡ m.image
  read_image = image_at V vol m there disk

  pub v_reads : ReadsBelow ⊤ (below_of b) vol at out r (below_of b')
  v_reads = record {
    kept = λ i. record {
      images = read_images i;
      sizes = read_sizes i;
      note = block.note;
      stored = (below_of b).stored;
      faults = (below_of b').faults;
      armed = read_armed i;
      steady = read_steady i;
    };
    images = read_images;
    sizes = read_sizes;
    cause = subst (λ (l : List Seen). HasOneCause (map (λ (d : Seen). d.faults) (disks_of b)) (map (λ (d : Seen). d.faults) l) r) (sym read_disks) (HasOneCause_at (disks_of b) (suc vol) m' m read_in r (subst (λ (d : Seen). HasCause d.faults m'.faults r) (sym read_at) w.cause) (subst (λ (d : Seen). GoesOn d r m') (sym read_at) w.goes));
    told = λ any told. ap (λ (l : List Image). length (slice_index_or l any [])) read_images ∙ told ∙ sym (ap (λ (l : List ℕ). slice_index l any) read_sizes);
    shows = λ _ told. on_ok_weaker r (λ shown. shown ∙ ap (λ (i : Image). range i at (length out / 512)) (sym read_image)) (w.shows (ap (λ (i : Image). length i) (sym read_image) ∙ told ∙ size_at V vol m m there disk));
    sure = λ steady. w.sure (subst (λ (d : Seen). IsTrue d.steady) read_at (steady_at (disks_of b) (suc vol) m' m read_in steady));
  }

  pub v_reads_rest : rest_of b' ≡ rest_of b
  v_reads_rest = ap (λ (l : List Seen). record (rest_of b) { volumes = l }) (map-set_same quiet V vol m' m (ap quiet (w.rest ∙ ap (λ (d : Seen). record d { faults = m'.faults }) disk)))

  pub v_reads_same : on_each no_faults b' ≡ on_each no_faults b
  v_reads_same = ap (λ (l : List Seen). record (on_each no_faults b) { volumes = l }) (map-set_same no_faults V vol m' m (ap (λ (d : Seen). no_faults d) (w.rest ∙ ap (λ (d : Seen). record d { faults = m'.faults }) disk)))

  pub v_reads_kept : IsKept state block V sets → IsKept state block (set V vol m') sets
  v_reads_kept kept = v_kept state block V sets vol m m' there disk (ap (λ (d : Seen). d.size) w.rest) kept
