-- What reads and writes of a shadow make of a group that holds one set.
use Rattle.std.proofs.Common.{◌≡◌, inl, inr, ℕ, ◌+◌, ◌/◌, ◌<◌, ◌≤◌, Bool, true, false, cond, eqb, ◌&&◌, IsTrue, All, List, [], ◌∷◌, length, map, set, find, slice_index, slice_index_or, Option, None, Some, is_some, Result, Ok, Err, refl, sym, ◌∙◌, ap, subst, arith}
use Rattle.std.proofs.lemmas.Bool.{eqb-true, eq-eqb}
use Rattle.avs_seg.specs.Image.{Image, block_at, blocks_of, range}
use Rattle.avs_dev.specs.Seen.{Seen, IsTold}
use Rattle.avs_code.specs.declared.slot_table.Slot.{Slot}
use Rattle.avs_code.specs.declared.group_blocks.GroupBlock.{GroupBlock}
use Rattle.avs_code.proofs.GroupBlocks.{group_block_at-is}
use Rattle.avs_model.specs.declared.answer.Refusal.TheVariants.{NoSet, Fault}
use Rattle.avs_model.specs.Shadows.{GroupState, ShadowState, after_stages, StoppedIn, shadow_write_stages, image_at as shadow_image_at}
use Rattle.std.specs.Option.{option_map, option_map_or}
use Rattle.std.proofs.Math.Seq.{map-set_same}
use Rattle.std.proofs.lemmas.List.{length-map, map-set, get_or-map, get_or-set_same}
use Rattle.std.proofs.lemmas.Option.{same_Some}
use Rattle.avs_chunk.specs.Disks.{Counts, CountsAtMost, raised}
use Rattle.avs_chunk.specs.Calls.{disks_of as disks_of_chunks}
use Rattle.avs_chunk.specs.ChunkSet.{ChunkSet, disk_of, shadow_image}
use Rattle.avs_ii.specs.AsBelow.{quiet, quiet_chunks, quiet_set}
use Rattle.avs_ii.proofs.OpenSets.{fits_online}
use Rattle.avs_ii.proofs.Quiet.{group_quiet, quiet_sound, sound_quiet}
use Rattle.avs_ii.proofs.Forms.{set_state}
use Rattle.avs_chunk.specs.Calls.{WritesShadow, ReadsShadow, chunks_end, to_master, to_shadow, to_bitmap}
use Rattle.avs_seg.specs.Segment.{first_segment}
use Rattle.avs_ii.specs.Saved.{IsSettledInMemory}
use Rattle.std.proofs.lemmas.List.Elements.{All-set}
use Rattle.avs_ii.proofs.Masters.{settled_first, all_first}
use Rattle.avs_ii.specs.Held.{HeldSet, IiDisks, slot_in, is_live, set_at}
use Rattle.avs_ii.specs.Meaning.{group_by, meaning, kept_on}
use Rattle.avs_ii.specs.Sound.{HoldsBlock, IsSound, IsSoundSet}
use Rattle.avs_ii.specs.Kept.{IsHeld, IsKept}
use Rattle.avs_ii.specs.Calls.{NamesSet, WritesSet, CountsSet, CountsSetAtMost, ReadsSet, faulted, faults_of, written_on, on_each}
use Rattle.avs_ii.proofs.Belows.{as_group, at_one, all_one, size_at}
use Rattle.avs_ii.proofs.Writes.{Ready, image_at, group_before, shadow_done, shadow_stopped, none_after}
use Rattle.avs_ii.specs.Parts.{parts_of}
use Rattle.avs_ii.specs.Making.{AreWhole, no_faults}
use Rattle.avs_ii.proofs.Shapes.{KeepsSet, same_disk, shapes_at, keeps_written, keeps_disks, keeps_group, settled_same, same_steady}
use Rattle.avs_ii.proofs.Findable.{stays_read}
use Rattle.avs_ii.proofs.Keeping.{Keeps, set_keeps}
use Rattle.avs_ii.proofs.Several.{fell_same}
use Rattle.avs_ii.proofs.Groups.{KeepTears, tears_kept, three_later, three_rose, three_armed, three_used, three_are_steady}

-- ---- which set is named

pub set_found : (state : Seen) (block : GroupBlock) (V : List Seen) (h : HeldSet) (slot : ℕ) → (eqb h.slot slot && is_live block.slots h.slot) ≡ true → set_at (as_group state block V (h ∷ [])) slot ≡ Some h
set_found state block V h slot test = go (eqb h.slot slot) (is_live block.slots h.slot) test
  where
    go : (a b : Bool) → (a && b) ≡ true → find (λ (s : HeldSet). eqb s.slot slot) (cond b (h ∷ []) []) ≡ Some h
    go a false t = none a t
      where
        none : (a : Bool) → (a && false) ≡ true → find (λ (s : HeldSet). eqb s.slot slot) [] ≡ Some h
        none true t = cc
        none false t = cc
    go a true t = ap (λ (b : Bool). cond b (Some h) None) (same a t)
      where
        same : (a : Bool) → (a && true) ≡ true → eqb h.slot slot ≡ true
        same a t = own test
          where
            own : (eqb h.slot slot && is_live block.slots h.slot) ≡ true → eqb h.slot slot ≡ true
            own t = left (eqb h.slot slot) (is_live block.slots h.slot) t
              where
                left : (a b : Bool) → (a && b) ≡ true → a ≡ true
                left true b t = refl
                left false b t = cc

pub set_missing : (state : Seen) (block : GroupBlock) (V : List Seen) (h : HeldSet) (slot : ℕ) → (eqb h.slot slot && is_live block.slots h.slot) ≡ false → set_at (as_group state block V (h ∷ [])) slot ≡ None
set_missing state block V h slot test = go (is_live block.slots h.slot) (left (eqb h.slot slot) (is_live block.slots h.slot) test)
  where
    left : (a b : Bool) → (a && b) ≡ false → (b ≡ true → a ≡ false)
    left true true t = λ e. t
    left true false t = λ e. sym e
    left false b t = λ e. refl

    go : (b : Bool) → (b ≡ true → eqb h.slot slot ≡ false) → find (λ (s : HeldSet). eqb s.slot slot) (cond b (h ∷ []) []) ≡ None
    go true other = ap (λ (b : Bool). cond b (Some h) None) (other refl)
    go false other = refl

-- no such set is there
pub names_none : {T : Type 0} (found : Option HeldSet) → found ≡ None → NamesSet {T = T} found (Err NoSet)
names_none found is = record { absent = λ e. refl; no_set = λ e. is; others = inl refl }

pub names_ok : {T : Type 0} (found : Option HeldSet) (h : HeldSet) (x : T) → found ≡ Some h → NamesSet found (Ok x)
names_ok found h x is = record { absent = λ e. elim (apart (sym is ∙ e)) [ ]; no_set = λ e. cc; others = tt }
  where
    apart : Some h ≡ None → ⊥
    apart e = cc

pub names_fault : {T : Type 0} (found : Option HeldSet) (h : HeldSet) → found ≡ Some h → NamesSet {T = T} found (Err Fault)
names_fault found h is = record { absent = λ e. elim (apart (sym is ∙ e)) [ ]; no_set = λ e. cc; others = inr refl }
  where
    apart : Some h ≡ None → ⊥
    apart e = cc

not_ok : false ≡ true → ⊥
not_ok e = cc

-- ---- the block in memory is that on the disk

pub kept_is : (state : Seen) (block : GroupBlock) → HoldsBlock state block → kept_on state ≡ block
kept_is state block holds = group_block_at-is (block_at state.image 1) block holds.holds

pub meaning_is : (state : Seen) (block : GroupBlock) (V : List Seen) (sets : List HeldSet) → HoldsBlock state block → meaning (as_group state block V sets) ≡ group_by block.slots block.note V sets
meaning_is state block V sets holds = ap (λ (x : GroupBlock). group_by x.slots x.note V sets) (kept_is state block holds)

-- ---- a write to the shadow of the set that is held

module _ (state : Seen) (block : GroupBlock) (V : List Seen) (h : HeldSet) (kept : IsKept state block V (h ∷ [])) (slot : ℕ) (test : (eqb h.slot slot && is_live block.slots h.slot) ≡ true) (m : Seen) (disk : m ≡ slice_index_or V h.master m) where
  abbrev g : IiDisks
  g = as_group state block V (h ∷ [])

  own : IsHeld block.slots V h
  own = at_one (IsHeld block.slots V) h kept.held

  parts : (a b : Bool) → (a && b) ≡ true → (a ≡ true) × (b ≡ true)
  parts true true t = (refl, refl)
  parts true false t = cc
  parts false b t = cc

  live : is_live block.slots h.slot ≡ true
  live = (parts _ _ test).1

  is_slot : h.slot ≡ slot
  is_slot = eqb-true h.slot slot (parts _ _ test).0

  pub there_m : h.master < length V
  there_m = own.master

  pub size_m : m.size ≡ h.chunks.blocks
  size_m = sym (size_at V h.master m m own.master disk) ∙ own.blocks

  ready : Ready block.slots V h m
  ready = record { live = live; area = own.area live; online = fits_online (slot_in block.slots h.slot) h.chunks.kind (own.fits live); slot = own.slot; there = own.master; disk = disk; size = size_m }

  found : set_at g slot ≡ Some h
  found = set_found state block V h slot test

  sound_set : IsSound g → IsSoundSet block.slots h
  sound_set sound = at_one (IsSoundSet block.slots) h (subst (λ (b : Bool). All (IsSoundSet block.slots) (cond b (h ∷ []) [])) live sound.disks.each)

  sound_told : IsSound g → IsTold m
  sound_told sound = subst (λ (d : Seen). IsTold d) (sym disk) (sound.disks.told h.master m own.master)

  module _ (at : ℕ) (bytes : List ℕ) (some : 0 < length bytes / 512) (inside : at + length bytes / 512 ≤ h.chunks.blocks) (c' : ChunkSet) (m' : Seen) where
    abbrev V' : List Seen
    V' = set V h.master m'

    abbrev h' : HeldSet
    h' = record h { chunks = c' }

    abbrev g' : IiDisks
    g' = as_group state block V' (h' ∷ [])

    module _ {T E : Type 0} (r : Result T E) (w : WritesShadow h.chunks m at bytes r c' m') where
      there' : IsTrue (is_some c'.shadow)
      there' = subst (λ (b : Bool). IsTrue b) (sym w.stays.there) own.there

      pub shadow_kept : IsSettledInMemory c' → IsKept state block V' (h' ∷ [])
      shadow_kept settled = keeps_group state block V V' h c' (keeps_written h c' m m' w.stays w.disks) (shapes_at V h.master m m' disk (same_disk m m' w.disks.master)) settled kept

      told_set' : All IsTold V → IsTold m' → All IsTold V'
      told_set' told now = All-set IsTold V h.master m' now told

      meaning_before : IsSound g → meaning g ≡ group_by block.slots block.note V (h ∷ [])
      meaning_before sound = meaning_is state block V (h ∷ []) sound.holds

      meaning_after : IsSound g → meaning g' ≡ group_by block.slots block.note V' (h' ∷ [])
      meaning_after sound = meaning_is state block V' (h' ∷ []) sound.holds

      as_meaning : (P : GroupState → GroupState → Type 0) → IsSound g → P (group_by block.slots block.note V (h ∷ [])) (group_by block.slots block.note V' (h' ∷ [])) → P (meaning g) (meaning g')
      as_meaning P sound p = subst (λ (x : GroupState). P x (meaning g')) (sym (meaning_before sound)) (subst (λ (x : GroupState). P (group_by block.slots block.note V (h ∷ [])) x) (sym (meaning_after sound)) p)

    pub settled_after : {T E : Type 0} (r : Result T E) → WritesShadow h.chunks m at bytes r c' m' → IsSettledInMemory c'
    settled_after (Ok x) w = settled_first h.chunks c' _ _ w.stays.blocks own.settled (all_first _ _ _ _ _ ordered w.memory)
      where
        ordered : first_segment at ≤ chunks_end at (length bytes / 512)
        ordered = omega (arith, some)
    settled_after (Err f) w = settled_first h.chunks c' _ _ w.stays.blocks own.settled w.memory_stopped

    shadow_keeps : {T E : Type 0} (r : Result T E) → WritesShadow h.chunks m at bytes r c' m' → Keeps g g'
    shadow_keeps r w = set_keeps state block V h h.master m m' c' own.master disk (same_disk m m' w.disks.master) (keeps_written h c' m m' w.stays w.disks) w.stays kept (shadow_kept r w (settled_after r w))

    -- the set is found behind the write
    found_after : set_at g' h.slot ≡ Some h'
    found_after = set_found state block V' h' h.slot (both (eqb h.slot h.slot) (is_live block.slots h.slot) (eq-eqb h.slot h.slot refl) live)
      where
        both : (a b : Bool) → a ≡ true → b ≡ true → (a && b) ≡ true
        both true b e f = f
        both false b e f = e

    written_was : slice_index (written_on V) h.master ≡ m.written
    written_was = get_or-map (λ (d : Seen). d.written) V h.master m 0 own.master ∙ ap (λ (d : Seen). d.written) (sym disk)

    written_now : written_on V' ≡ set (written_on V) h.master m'.written
    written_now = map-set (λ (d : Seen). d.written) V h.master m'

    written_at : slice_index (written_on V') h.master ≡ m'.written
    written_at = ap (λ (l : List ℕ). slice_index l h.master) written_now ∙ get_or-set_same (written_on V) h.master m'.written 0 (omega (arith, own.master, length-map V (λ (d : Seen). d.written)))

    counts_as : (s : HeldSet) → Some h ≡ Some s → (on_master on_shadow on_bitmap : HeldSet → ℕ) → Counts (disks_of_chunks h.chunks m) (on_master h) (on_shadow h) (on_bitmap h) (disks_of_chunks c' m') → CountsSet g s (on_master s) (on_shadow s) (on_bitmap s) g'
    counts_as s is on_master on_shadow on_bitmap c =
        subst (λ (x : HeldSet). CountsSet g x (on_master x) (on_shadow x) (on_bitmap x) g') (same_Some h s is)
        (record {
          after = h';
          found = found_after;
          volumes = written_now ∙ ap (λ (n : ℕ). set (written_on V) h.master n) (c.master ∙ ap (λ (n : ℕ). raised n (on_master h)) (sym written_was));
          shadow = c.shadow;
          bitmap = c.bitmap;
        })

    most_as : (s : HeldSet) → Some h ≡ Some s → (on_master on_shadow on_bitmap : HeldSet → ℕ) → CountsAtMost (disks_of_chunks h.chunks m) (on_master h) (on_shadow h) (on_bitmap h) (disks_of_chunks c' m') → CountsSetAtMost g s (on_master s) (on_shadow s) (on_bitmap s) g'
    most_as s is on_master on_shadow on_bitmap c =
        subst (λ (x : HeldSet). CountsSetAtMost g x (on_master x) (on_shadow x) (on_bitmap x) g') (same_Some h s is)
        (record {
          after = h';
          found = found_after;
          others = written_now ∙ ap (λ (n : ℕ). set (written_on V) h.master n) (sym written_at);
          master = omega (arith, c.master, written_at, written_was);
          shadow = c.shadow;
          bitmap = c.bitmap;
        })

    pub writes_set : {T E : Type 0} (r : Result T E) → WritesShadow h.chunks m at bytes r c' m' → WritesSet g slot at bytes (faulted r) g'
    writes_set (Ok x) w = record {
      names = names_ok (set_at g slot) h x found;
      no_set = λ e. cc;
      state = refl;
      block = refl;
      later = three_later state V h.master m m' h h' own.master disk own.there (there' (Ok x) w) w.disks;
      fault = λ e. cc;
      still_armed = three_armed state V h.master m m' h h' own.master disk own.there (there' (Ok x) w) w.disks (tears_kept _ _ w.causes.armed);
      spent = λ steady e. cc;
      done = λ sound. as_meaning (Ok x) w (λ a b. b ≡ after_stages a (shadow_write_stages slot at (blocks_of bytes))) sound (subst (λ (k : ℕ). group_by block.slots block.note V' (h' ∷ []) ≡ after_stages (group_by block.slots block.note V (h ∷ [])) (shadow_write_stages k at (blocks_of bytes))) is_slot
          (shadow_done block.slots block.note V h m ready (sound_set sound).none_back (sound_set sound).known (sound_told sound) c' m' at bytes some inside x w));
      stopped = λ sound e. cc;
      sound = λ sound. record {
        holds = sound.holds;
        disks = record {
          told = told_set' (Ok x) w sound.disks.told (w.disks.master.told (sound_told sound));
          each = subst (λ (b : Bool). All (IsSoundSet block.slots) (cond b (h' ∷ []) [])) (sym live) (all_one (IsSoundSet block.slots) h' (record {
            known = w.known (sound_set sound).known (sound_told sound);
            label = w.stays.label (sound_set sound).known.bitmap (sound_set sound).label;
            area = w.stays.live_b ∙ (sound_set sound).area;
            none_back = none_after h.chunks c' _ _ w.stays.blocks (sound_set sound).none_back (w.split (sound_set sound).known (sound_told sound));
          }));
        };
      };
      counts = λ s is. counts_as s (sym found ∙ is) (λ x. to_master x.chunks (first_segment at) (chunks_end at (length bytes / 512))) (λ x. to_shadow x.chunks (first_segment at) (chunks_end at (length bytes / 512)) + length bytes / 512) (λ x. to_bitmap x.chunks (first_segment at) (chunks_end at (length bytes / 512))) w.counts;
      counts_stopped = λ s is e. cc;
      shape = (shadow_keeps (Ok x) w).shape;
      still_steady = same_steady g g' (shadow_keeps (Ok x) w).shape;
      told = (shadow_keeps (Ok x) w).told;
      whole = (shadow_keeps (Ok x) w).whole;
    }
    writes_set (Err f) w = record {
      names = names_fault (set_at g slot) h found;
      no_set = λ e. cc;
      state = refl;
      block = refl;
      later = three_later state V h.master m m' h h' own.master disk own.there (there' (Err f) w) w.disks;
      fault = λ e. three_rose state V h.master m m' h h' own.master disk own.there (there' (Err f) w) w.disks w.causes.failed;
      still_armed = tt;
      spent = λ steady e. three_used state V h.master m m' h h' own.master disk own.there (there' (Err f) w) w.disks (w.causes.used (three_are_steady state V h.master m m' h h' own.master disk own.there (there' (Err f) w) w.disks steady));
      done = λ sound. tt;
      stopped = λ sound e. as_meaning (Err f) w (λ a b. StoppedIn a (shadow_write_stages slot at (blocks_of bytes)) b) sound (subst (λ (k : ℕ). StoppedIn (group_by block.slots block.note V (h ∷ [])) (shadow_write_stages k at (blocks_of bytes)) (group_by block.slots block.note V' (h' ∷ []))) is_slot
          (shadow_stopped block.slots block.note V h m ready (sound_set sound).none_back (sound_set sound).known (sound_told sound) c' m' at bytes some inside f w));
      sound = λ sound. tt;
      counts = λ s is. tt;
      counts_stopped = λ s is e. most_as s (sym found ∙ is) (λ x. to_master x.chunks (first_segment at) (chunks_end at (length bytes / 512))) (λ x. to_shadow x.chunks (first_segment at) (chunks_end at (length bytes / 512))) (λ x. to_bitmap x.chunks (first_segment at) (chunks_end at (length bytes / 512))) w.counts_stopped;
      shape = (shadow_keeps (Err f) w).shape;
      still_steady = same_steady g g' (shadow_keeps (Err f) w).shape;
      told = (shadow_keeps (Err f) w).told;
      whole = (shadow_keeps (Err f) w).whole;
    }

  -- ---- a read

  module _ (at : ℕ) (c' : ChunkSet) (m' : Seen) (out : List ℕ) where
    abbrev read_group : IiDisks
    read_group = as_group state block (set V h.master m') (record h { chunks = c' } ∷ [])

    quiet_shadow : (o o' : Option Seen) → is_some o' ≡ is_some o → disk_of o' ≡ record (disk_of o) { faults = (disk_of o').faults } → option_map quiet o' ≡ option_map quiet o
    quiet_shadow None None same is = refl
    quiet_shadow None (Some d) same is = cc
    quiet_shadow (Some d) None same is = cc
    quiet_shadow (Some d) (Some e) same is = ap (λ (x : Seen). Some (quiet x)) is

    same_shadow : (o o' : Option Seen) → is_some o' ≡ is_some o → disk_of o' ≡ record (disk_of o) { faults = (disk_of o').faults } → option_map no_faults o' ≡ option_map no_faults o
    same_shadow None None same is = refl
    same_shadow None (Some d) same is = cc
    same_shadow (Some d) None same is = cc
    same_shadow (Some d) (Some e) same is = ap (λ (x : Seen). Some (no_faults x)) is

    module _ {T E : Type 0} (r : Result T E) (w : ReadsShadow h.chunks m at out r c' m') where
      quiet_same : quiet_set (record h { chunks = c' }) ≡ quiet_set h
      quiet_same =
          ap (λ (c : ChunkSet). quiet_set (record h { chunks = c })) w.rest
          ∙ ap (λ (o : Option Seen). record h { chunks = record (quiet_chunks h.chunks) { shadow = o } }) (quiet_shadow h.chunks.shadow c'.shadow w.there w.shadow)

      volumes_quiet : map quiet (set V h.master m') ≡ map quiet V
      volumes_quiet = map-set_same quiet V h.master m' m (ap quiet (w.master ∙ ap (λ (d : Seen). record d { faults = m'.faults }) disk))

      disks_same : on_each no_faults read_group ≡ on_each no_faults g
      disks_same =
          ap (λ (l : List Seen). record (on_each no_faults read_group) { volumes = l }) (map-set_same no_faults V h.master m' m (ap (λ (d : Seen). no_faults d) (w.master ∙ ap (λ (d : Seen). record d { faults = m'.faults }) disk)))
          ∙ ap (λ (c : ChunkSet). on_each no_faults (as_group state block V (record h { chunks = c } ∷ []))) w.rest
          ∙ ap (λ (o : Option Seen). record (on_each no_faults g) { sets = record h { chunks = record h.chunks { shadow = o; areas = record h.chunks.areas { disk = no_faults h.chunks.areas.disk } } } ∷ [] }) (same_shadow h.chunks.shadow c'.shadow w.there w.shadow)

      pub read_same : (note : List ℕ) (slots : List Slot) → group_by slots note (set V h.master m') (record h { chunks = c' } ∷ []) ≡ group_by slots note V (h ∷ [])
      read_same note slots =
          sym (group_quiet slots note (set V h.master m') (record h { chunks = c' }))
          ∙ ap (λ (s : HeldSet). group_by slots note (map quiet (set V h.master m')) (s ∷ [])) quiet_same
          ∙ ap (λ (l : List Seen). group_by slots note l (quiet_set h ∷ [])) volumes_quiet
          ∙ group_quiet slots note V h

      read_there : IsTrue (is_some c'.shadow)
      read_there = subst (λ (b : Bool). IsTrue b) (sym w.there) own.there

      read_sound : IsSound g → IsSound read_group
      read_sound sound = record {
        holds = sound.holds;
        disks = record {
          told = All-set IsTold V h.master m' (w.disks.master.told (sound_told sound)) sound.disks.told;
          each = subst (λ (b : Bool). All (IsSoundSet block.slots) (cond b (record h { chunks = c' } ∷ []) [])) (sym live)
              (all_one (IsSoundSet block.slots) (record h { chunks = c' }) (sound_quiet block.slots (record h { chunks = c' }) (subst (λ (s : HeldSet). IsSoundSet block.slots s) (sym quiet_same) (quiet_sound block.slots h (sound_set sound)))));
        };
      }

      still_armed : KeepTears (disks_of_chunks h.chunks m) (disks_of_chunks c' m')
      still_armed = record { master = ap (λ (d : Seen). d.armed) w.master; shadow = ap (λ (d : Seen). d.armed) w.shadow; bitmap = ap (λ (c : ChunkSet). c.areas.disk.armed) w.rest }

      image_is : IsSound g → shadow_image_at (meaning g).sets slot ≡ shadow_image h.chunks m.image
      image_is sound =
          ap (λ (x : GroupState). shadow_image_at x.sets slot) (meaning_is state block V (h ∷ []) sound.holds ∙ group_before block.slots block.note V h m ready (sound_set sound).none_back (sound_told sound))
          ∙ ap (λ (b : Bool). option_map_or (λ (x : ShadowState). x.image) (cond b (Some (set_state block.slots V h)) None) []) (eq-eqb h.slot slot is_slot)
          ∙ ap (λ (i : Image). shadow_image h.chunks i) (image_at V h.master m own.master disk)

      rest_is : c' ≡ record h.chunks { shadow = c'.shadow; areas = record h.chunks.areas { disk = c'.areas.disk } }
      rest_is = w.rest ∙ ap (λ (d : Seen). record h.chunks { shadow = c'.shadow; areas = record h.chunks.areas { disk = d } }) (sym (ap (λ (c : ChunkSet). c.areas.disk) w.rest))

      keeps_set : KeepsSet h c'
      keeps_set = keeps_disks h c' rest_is w.there (same_disk (disk_of h.chunks.shadow) (disk_of c'.shadow) w.disks.shadow) (same_disk h.chunks.areas.disk c'.areas.disk w.disks.bitmap)

      pub read_set_kept : IsKept state block (set V h.master m') (record h { chunks = c' } ∷ [])
      read_set_kept = keeps_group state block V (set V h.master m') h c' keeps_set (shapes_at V h.master m m' disk (same_disk m m' w.disks.master)) (settled_same h c' rest_is own.settled) kept

      read_keeps : Keeps g read_group
      read_keeps = set_keeps state block V h h.master m m' c' own.master disk (same_disk m m' w.disks.master) keeps_set (stays_read h.chunks c' w.rest w.there) kept read_set_kept

    pub reads_set : {T E : Type 0} (r : Result T E) → ReadsShadow h.chunks m at out r c' m' → ReadsSet g slot out at (faulted r) read_group
    reads_set (Ok x) w = record {
      names = names_ok (set_at g slot) h x found;
      no_set = λ e. cc;
      rest = disks_same (Ok x) w;
      state = refl;
      block = refl;
      armed = three_armed state V h.master m m' h (record h { chunks = c' }) own.master disk own.there (read_there (Ok x) w) w.disks (still_armed (Ok x) w);
      later = three_later state V h.master m m' h (record h { chunks = c' }) own.master disk own.there (read_there (Ok x) w) w.disks;
      fault = λ e. cc;
      steady = λ s e. cc;
      group = let b = kept_on state in read_same (Ok x) w b.note b.slots;
      sound = read_sound (Ok x) w;
      shows = λ sound. w.shows (sound_set sound).known (sound_told sound) ∙ ap (λ (i : Image). range i at (length out / 512)) (sym (image_is (Ok x) w sound));
      shape = (read_keeps (Ok x) w).shape;
      still_steady = same_steady g read_group (read_keeps (Ok x) w).shape;
      told = (read_keeps (Ok x) w).told;
      whole = (read_keeps (Ok x) w).whole;
    }
    reads_set (Err f) w = record {
      names = names_fault (set_at g slot) h found;
      no_set = λ e. cc;
      rest = disks_same (Err f) w;
      state = refl;
      block = refl;
      armed = three_armed state V h.master m m' h (record h { chunks = c' }) own.master disk own.there (read_there (Err f) w) w.disks (still_armed (Err f) w);
      later = three_later state V h.master m m' h (record h { chunks = c' }) own.master disk own.there (read_there (Err f) w) w.disks;
      fault = λ e. three_rose state V h.master m m' h (record h { chunks = c' }) own.master disk own.there (read_there (Err f) w) w.disks w.causes.failed;
      steady = λ s e. not_ok (w.sure (three_are_steady state V h.master m m' h (record h { chunks = c' }) own.master disk own.there (read_there (Err f) w) w.disks s));
      group = let b = kept_on state in read_same (Err f) w b.note b.slots;
      sound = read_sound (Err f) w;
      shows = λ sound. tt;
      shape = (read_keeps (Err f) w).shape;
      still_steady = same_steady g read_group (read_keeps (Err f) w).shape;
      told = (read_keeps (Err f) w).told;
      whole = (read_keeps (Err f) w).whole;
    }

-- ---- no set is named

pub writes_none : {T : Type 0} (g : IiDisks) (slot at : ℕ) (bytes : List ℕ) → (IsSound g → AreWhole (parts_of g)) → set_at g slot ≡ None → WritesSet {T = T} g slot at bytes (Err NoSet) g
writes_none g slot at bytes whole none = record {
  names = names_none (set_at g slot) none;
  no_set = λ e. refl;
  state = refl;
  block = refl;
  later = fell_same (faults_of g);
  fault = λ e. cc;
  still_armed = tt;
  spent = λ steady e. cc;
  done = λ sound. tt;
  stopped = λ sound e. cc;
  sound = λ sound. tt;
  counts = λ s is. tt;
  counts_stopped = λ s is e. cc;
  shape = refl;
  still_steady = refl;
  told = λ told. told;
  whole = record { before = whole; after = λ told found. found };
}

pub reads_none : {T : Type 0} (g : IiDisks) (slot at : ℕ) (out : List ℕ) → (IsSound g → AreWhole (parts_of g)) → set_at g slot ≡ None → ReadsSet {T = T} g slot out at (Err NoSet) g
reads_none g slot at out whole none = record {
  names = names_none (set_at g slot) none;
  no_set = λ e. refl;
  rest = refl;
  state = refl;
  block = refl;
  armed = refl;
  later = fell_same (faults_of g);
  fault = λ e. cc;
  steady = λ s e. cc;
  group = refl;
  sound = λ sound. sound;
  shows = λ sound. tt;
  shape = refl;
  still_steady = refl;
  told = λ told. told;
  whole = record { before = whole; after = λ told found. found };
}
