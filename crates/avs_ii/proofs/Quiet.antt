-- What reading and arming change of disks is no part of what they stand for.
use Rattle.std.proofs.Common.{◌≡◌, ℕ, ◌<◌, Bool, true, false, cond, eqb, List, [], ◌∷◌, length, map, All, slice_index_or, Option, None, Some, refl, sym, ◌∙◌, ap, subst, arith}
use Rattle.std.specs.List.{range_with_len}
use Rattle.std.proofs.lemmas.List.{length-map, get_or-map}
use Rattle.std.proofs.lemmas.Simd.{map-map}
use Rattle.avs_seg.specs.Image.{Image}
use Rattle.avs_dev.specs.Seen.{Seen, IsTold}
use Rattle.avs_flip.specs.Areas.{live}
use Rattle.avs_code.specs.declared.slot_table.Slot.{Slot}
use Rattle.avs_model.specs.Shadows.{GroupState}
use Rattle.avs_chunk.specs.ChunkSet.{ChunkSet, IsKnown, master_image, shadow_image}
use Rattle.avs_chunk.specs.States.{on_master, split, on_shadow}
use Rattle.avs_model.specs.declared.shadow.Kind.{Kind}
use Rattle.avs_model.specs.declared.shadow.Kind.TheVariants.{Ind, Dep, Compact}
use Rattle.std.proofs.Math.Path.{fun_ext}
use Rattle.avs_ii.specs.Held.{HeldSet, slot_in, enabled_in, is_live}
use Rattle.avs_ii.specs.Meaning.{group_by, shadow_of, chunks_by, chunks_with, touched_of, left_of, picked, disk_image}
use Rattle.avs_ii.specs.Sound.{IsSoundSet, AreSound}
use Rattle.avs_ii.specs.AsBelow.{quiet, quiet_chunks, quiet_set}

module _ (c : ChunkSet) where
  with_quiet : (state : ℕ) → chunks_with (quiet_chunks c) state ≡ chunks_with c state
  unfolding live
  with_quiet state = fun_ext (λ chunk. refl)

  touched_quiet : (kind : Kind) → touched_of kind (quiet_chunks c) ≡ touched_of kind c
  unfolding live
  touched_quiet Ind = refl
  touched_quiet Dep = fun_ext (λ chunk. refl)
  touched_quiet Compact = fun_ext (λ chunk. refl)

  left_quiet : (kind : Kind) → left_of kind (quiet_chunks c) ≡ left_of kind c
  left_quiet Ind = with_quiet on_master
  left_quiet Dep = refl
  left_quiet Compact = refl

  image_quiet : (img : Image) → shadow_image (quiet_chunks c) img ≡ shadow_image c img
  unfolding live
  image_quiet img = go c.shadow
    where
      go : (o : Option Seen) → shadow_image (quiet_chunks (record c { shadow = o })) img ≡ shadow_image (record c { shadow = o }) img
      go None = refl
      go (Some d) = refl

shadow_quiet : (slot : Slot) (s : HeldSet) (c : ChunkSet) (img : Image) → shadow_of slot (quiet_set s) (quiet_chunks c) img ≡ shadow_of slot s c img
shadow_quiet slot s c img = λ i. record (shadow_of slot s c img) {
  image = image_quiet c img i;
  touched = touched_quiet c c.kind i;
  moved = with_quiet c split i;
  left = left_quiet c c.kind i;
  back = with_quiet c on_shadow i;
}

master_quiet : (c : ChunkSet) (img : Image) → master_image (quiet_chunks c) img ≡ master_image c img
unfolding live
master_quiet c img = go c.shadow
  where
    go : (o : Option Seen) → master_image (quiet_chunks (record c { shadow = o })) img ≡ master_image (record c { shadow = o }) img
    go None = refl
    go (Some d) = refl

pub known_quiet : (c : ChunkSet) → IsKnown (quiet_chunks c) → IsKnown c
unfolding live
known_quiet c known = go c.shadow known
  where
    go : (o : Option Seen) → IsKnown (quiet_chunks (record c { shadow = o })) → IsKnown (record c { shadow = o })
    go None k = record { shadow = k.shadow; bitmap = k.bitmap; step = record { each = k.step.each } }
    go (Some d) k = record { shadow = k.shadow; bitmap = k.bitmap; step = record { each = k.step.each } }

pub quiet_known : (c : ChunkSet) → IsKnown c → IsKnown (quiet_chunks c)
unfolding live
quiet_known c known = go c.shadow known
  where
    go : (o : Option Seen) → IsKnown (record c { shadow = o }) → IsKnown (quiet_chunks (record c { shadow = o }))
    go None k = record { shadow = k.shadow; bitmap = k.bitmap; step = record { each = k.step.each } }
    go (Some d) k = record { shadow = k.shadow; bitmap = k.bitmap; step = record { each = k.step.each } }

pub sound_quiet : (slots : List Slot) (s : HeldSet) → IsSoundSet slots (quiet_set s) → IsSoundSet slots s
unfolding live
sound_quiet slots s o = record { known = known_quiet s.chunks o.known; label = record { label = o.label.label }; area = o.area; none_back = record { none = o.none_back.none } }

pub quiet_sound : (slots : List Slot) (s : HeldSet) → IsSoundSet slots s → IsSoundSet slots (quiet_set s)
unfolding live
quiet_sound slots s o = record { known = quiet_known s.chunks o.known; label = record { label = o.label.label }; area = o.area; none_back = record { none = o.none_back.none } }

-- ---- the group that quiet disks stand for

images_quiet : (volumes : List Seen) → map (λ (d : Seen). d.image) (map quiet volumes) ≡ map (λ (d : Seen). d.image) volumes
images_quiet volumes = map-map (λ (d : Seen). d.image) quiet volumes

-- a group by the images of its volumes
abbrev group_on : List Slot → List ℕ → List Image → List HeldSet → GroupState
group_on slots note images sets = record {
  volumes = map (λ v. picked slots (enabled_in slots sets) v (slice_index_or images v [])) (range_with_len 0 (length images));
  sets = map (λ (s : HeldSet). shadow_of (slot_in slots s.slot) s (chunks_by (slot_in slots s.slot) s.chunks) (slice_index_or images s.master [])) (enabled_in slots sets);
  note = note;
}

on_images : (slots : List Slot) (note : List ℕ) (volumes : List Seen) (sets : List HeldSet) → group_by slots note volumes sets ≡ group_on slots note (map (λ (d : Seen). d.image) volumes) sets
on_images slots note volumes sets = ap (λ (n : ℕ). record (group_by slots note volumes sets) { volumes = map (λ v. picked slots (enabled_in slots sets) v (disk_image volumes v)) (range_with_len 0 n) }) (sym (length-map volumes (λ (d : Seen). d.image)))

-- the same of the sets that are enabled
abbrev on_sets : List Slot → List ℕ → List Image → List HeldSet → GroupState
on_sets slots note images l = record {
  volumes = map (λ v. picked slots l v (slice_index_or images v [])) (range_with_len 0 (length images));
  sets = map (λ (s : HeldSet). shadow_of (slot_in slots s.slot) s (chunks_by (slot_in slots s.slot) s.chunks) (slice_index_or images s.master [])) l;
  note = note;
}

one_quiet : (slots : List Slot) (note : List ℕ) (images : List Image) (s : HeldSet) → group_on slots note images (quiet_set s ∷ []) ≡ group_on slots note images (s ∷ [])
one_quiet slots note images s = go (is_live slots s.slot)
  where
    go : (b : Bool) → on_sets slots note images (cond b (quiet_set s ∷ []) []) ≡ on_sets slots note images (cond b (s ∷ []) [])
    go false = refl
    go true = λ i. record {
      volumes = map (λ v. cond (eqb s.master v) (master_quiet (chunks_by (slot_in slots s.slot) s.chunks) (slice_index_or images v []) i) (slice_index_or images v [])) (range_with_len 0 (length images));
      sets = shadow_quiet (slot_in slots s.slot) s (chunks_by (slot_in slots s.slot) s.chunks) (slice_index_or images s.master []) i ∷ [];
      note = note;
    }

pub group_quiet : (slots : List Slot) (note : List ℕ) (volumes : List Seen) (s : HeldSet) → group_by slots note (map quiet volumes) (quiet_set s ∷ []) ≡ group_by slots note volumes (s ∷ [])
group_quiet slots note volumes s =
    on_images slots note (map quiet volumes) (quiet_set s ∷ [])
    ∙ ap (λ (l : List Image). group_on slots note l (quiet_set s ∷ [])) (images_quiet volumes)
    ∙ one_quiet slots note (map (λ (d : Seen). d.image) volumes) s
    ∙ sym (on_images slots note volumes (s ∷ []))

pub group_quiet_none : (slots : List Slot) (note : List ℕ) (volumes : List Seen) → group_by slots note (map quiet volumes) [] ≡ group_by slots note volumes []
group_quiet_none slots note volumes =
    on_images slots note (map quiet volumes) []
    ∙ ap (λ (l : List Image). group_on slots note l []) (images_quiet volumes)
    ∙ sym (on_images slots note volumes [])

-- ---- soundness

pub told_at : (volumes : List Seen) (v : ℕ) (m : Seen) → All IsTold (map quiet volumes) → v < length volumes → m ≡ slice_index_or volumes v m → IsTold m
told_at volumes v m told there disk =
    let it = told v (quiet m) (omega (arith, length-map volumes quiet, there)) in
    subst (λ (d : Seen). IsTold d) (sym disk) (subst (λ (d : Seen). IsTold d) (get_or-map quiet volumes v m (quiet m) there) it)

pub sound_one : (slots : List Slot) (volumes : List Seen) (s : HeldSet) → is_live slots s.slot ≡ true → AreSound slots volumes (quiet_set s ∷ []) → IsSoundSet slots s
sound_one slots volumes s live sound =
    let all : All (IsSoundSet slots) (quiet_set s ∷ []) = subst (λ (b : Bool). All (IsSoundSet slots) (cond b (quiet_set s ∷ []) [])) live sound.each in
    sound_quiet slots s (all 0 (quiet_set s) (omega arith))
