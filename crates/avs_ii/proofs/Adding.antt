-- A volume more behind the others.
use Rattle.std.proofs.Common.{◌≡◌, ◌≢◌, inl, inr, ℕ, ◌+◌, ◌-◌, ◌^◌, ◌<◌, Bool, true, false, cond, All, List, [], ◌∷◌, ◌++◌, length, map, get_or, slice_index, slice_index_or, Option, None, Some, refl, sym, ◌∙◌, ap, subst, arith}
use Rattle.std.specs.List.{range_with_len}
use Rattle.std.proofs.lemmas.Bool.{cases_lt, ne_eqb}
use Rattle.std.proofs.lemmas.List.{ext_get_or, map-append, length-append, length-map, get_or_append_left, get_or-append_right}
use Rattle.std.proofs.lemmas.List.FromFn.{get_or-map-range_with_len, length-map-range_with_len, map-range_with_len_more}
use Rattle.avs_seg.specs.Image.{Image}
use Rattle.avs_dev.specs.Seen.{Seen, IsTold}
use Rattle.avs_code.specs.declared.slot_table.Slot.{Slot}
use Rattle.avs_code.specs.declared.group_blocks.GroupBlock.{GroupBlock}
use Rattle.avs_model.specs.Shadows.{ShadowState, GroupState}
use Rattle.avs_chunk.specs.ChunkSet.{master_image}
use Rattle.avs_ii.specs.declared.held.Held.{Held}
use Rattle.avs_ii.specs.Opened.{held_of, sets_of}
use Rattle.avs_ii.specs.Held.{HeldSet, IiDisks, is_live, slot_in}
use Rattle.avs_ii.specs.Meaning.{group_by, kept_on, picked, shadow_by, shadow_of, chunks_by, disk_image}
use Rattle.avs_ii.specs.Parts.{size_of}
use Rattle.avs_ii.specs.Kept.{IsHeld, IsKept}
use Rattle.avs_ii.specs.Calls.{Adds}
use Rattle.avs_ii.proofs.Belows.{as_group, at_one}

-- a group by its parts, and with one image more
abbrev group_with : List Image → List ShadowState → List ℕ → GroupState
group_with volumes sets note = record { volumes = volumes; sets = sets; note = note }

abbrev with_last : GroupState → Image → GroupState
with_last group image = record group { volumes = group.volumes ++ image ∷ [] }

module _ (V : List Seen) (d : Seen) where
  abbrev more : List Seen
  more = V ++ d ∷ []

  image_before : (v : ℕ) → v < length V → disk_image more v ≡ disk_image V v
  image_before v lt =
      ap (λ (l : List Image). slice_index_or l v []) (map-append (λ (x : Seen). x.image) V (d ∷ []))
      ∙ get_or_append_left (map (λ (x : Seen). x.image) V) (d.image ∷ []) [] v (omega (arith, lt, length-map V (λ (x : Seen). x.image)))

  image_last : disk_image more (length V) ≡ d.image
  image_last =
      ap (λ (l : List Image). slice_index_or l (length V) []) (map-append (λ (x : Seen). x.image) V (d ∷ []))
      ∙ get_or-append_right (map (λ (x : Seen). x.image) V) (d.image ∷ []) (length V) (length V) [] (length-map V (λ (x : Seen). x.image)) (omega arith)
      ∙ ap (λ (k : ℕ). slice_index_or (d.image ∷ []) k []) (minus (length V))
    where
      minus : (n : ℕ) → n - n ≡ 0
      minus n = omega arith

  size_before : (v : ℕ) → v < length V → size_of more v ≡ size_of V v
  size_before v lt =
      ap (λ (l : List ℕ). slice_index l v) (map-append (λ (x : Seen). x.size) V (d ∷ []))
      ∙ get_or_append_left (map (λ (x : Seen). x.size) V) (d.size ∷ []) 0 v (omega (arith, lt, length-map V (λ (x : Seen). x.size)))

  module _ (slots : List Slot) (note : List ℕ) (l : List HeldSet) (other : (image : Image) → picked slots l (length V) image ≡ image) (same : map (λ s. shadow_by slots more s) l ≡ map (λ s. shadow_by slots V s) l) where
    before : map (λ v. picked slots l v (disk_image more v)) (range_with_len 0 (length V)) ≡ map (λ v. picked slots l v (disk_image V v)) (range_with_len 0 (length V))
    before = ext_get_or [] _ _ (length-map-range_with_len _ 0 (length V) ∙ sym (length-map-range_with_len _ 0 (length V))) (λ i lt. each i (omega (arith, lt, length-map-range_with_len (λ v. picked slots l v (disk_image more v)) 0 (length V))))
      where
        each : (i : ℕ) → i < length V → get_or (map (λ v. picked slots l v (disk_image more v)) (range_with_len 0 (length V))) i [] ≡ get_or (map (λ v. picked slots l v (disk_image V v)) (range_with_len 0 (length V))) i []
        each i lt =
            get_or-map-range_with_len (λ v. picked slots l v (disk_image more v)) 0 (length V) i i [] lt (omega arith)
            ∙ ap (λ (x : Image). picked slots l i x) (image_before i lt)
            ∙ sym (get_or-map-range_with_len (λ v. picked slots l v (disk_image V v)) 0 (length V) i i [] lt (omega arith))

    volumes_more : map (λ v. picked slots l v (disk_image more v)) (range_with_len 0 (length more)) ≡ map (λ v. picked slots l v (disk_image V v)) (range_with_len 0 (length V)) ++ d.image ∷ []
    volumes_more =
        ap (λ (n : ℕ). map (λ v. picked slots l v (disk_image more v)) (range_with_len 0 n)) (length-append V (d ∷ []))
        ∙ map-range_with_len_more (λ v. picked slots l v (disk_image more v)) 0 (length V) (length V) (omega arith)
        ∙ ap (λ (front : List Image). front ++ picked slots l (length V) (disk_image more (length V)) ∷ []) before
        ∙ ap (λ (last : Image). map (λ v. picked slots l v (disk_image V v)) (range_with_len 0 (length V)) ++ last ∷ []) (other (disk_image more (length V)) ∙ image_last)

    pub on_more : group_with (map (λ v. picked slots l v (disk_image more v)) (range_with_len 0 (length more))) (map (λ s. shadow_by slots more s) l) note
        ≡ group_with (map (λ v. picked slots l v (disk_image V v)) (range_with_len 0 (length V)) ++ d.image ∷ []) (map (λ s. shadow_by slots V s) l) note
    on_more = λ i. group_with (volumes_more i) (same i) note

  -- no set, and one
  pub more_none : (slots : List Slot) (note : List ℕ) → group_by slots note more [] ≡ with_last (group_by slots note V []) d.image
  more_none slots note = on_more slots note [] (λ image. refl) refl

  pub more_one : (slots : List Slot) (note : List ℕ) (h : HeldSet) → h.master < length V → group_by slots note more (h ∷ []) ≡ with_last (group_by slots note V (h ∷ [])) d.image
  more_one slots note h there = go (is_live slots h.slot)
    where
      apart : h.master ≢ length V
      apart is = less (length V) (subst (λ (k : ℕ). k < length V) is there)
        where
          less : (n : ℕ) → n < n → ⊥
          less n lt = omega arith

      go : (b : Bool) → group_with (map (λ v. picked slots (cond b (h ∷ []) []) v (disk_image more v)) (range_with_len 0 (length more))) (map (λ s. shadow_by slots more s) (cond b (h ∷ []) [])) note
          ≡ group_with (map (λ v. picked slots (cond b (h ∷ []) []) v (disk_image V v)) (range_with_len 0 (length V)) ++ d.image ∷ []) (map (λ s. shadow_by slots V s) (cond b (h ∷ []) [])) note
      go false = on_more slots note [] (λ image. refl) refl
      go true = on_more slots note (h ∷ [])
          (λ image. ap (λ (b : Bool). cond b (master_image (chunks_by (slot_in slots h.slot) h.chunks) image) image) (ne_eqb h.master (length V) apart))
          (ap (λ (x : Image). shadow_of (slot_in slots h.slot) h (chunks_by (slot_in slots h.slot) h.chunks) x ∷ []) (image_before h.master there))

  held_more : (slots : List Slot) (s : HeldSet) → IsHeld slots V s → IsHeld slots more s
  held_more slots s h = record {
    slot = h.slot;
    master = omega (arith, h.master, length-append V (d ∷ []));
    there = h.there;
    blocks = size_before s.master h.master ∙ h.blocks;
    whole = h.whole;
    area = h.area;
    first = h.first;
    fits = h.fits;
    settled = h.settled;
    some = h.some;
    on = h.on;
  }

  pub kept_more : (state : Seen) (block : GroupBlock) (sets : List HeldSet) → length V + 1 < 2 ^ 32 → IsKept state block V sets → IsKept state block more sets
  kept_more state block sets room kept = record {
    room = kept.room;
    keeps = kept.keeps;
    fits = kept.fits;
    count = omega (arith, room, length-append V (d ∷ []));
    held = λ i e lt. held_more block.slots (get_or sets i e) (kept.held i e lt);
  }

  told_more : All IsTold V → IsTold d → All IsTold more
  told_more told now = λ i e lt. each i e lt
    where
      each : (i : ℕ) (e : Seen) → i < length more → IsTold (get_or more i e)
      each i e lt = elim (cases_lt i (length V)) [
        | inl before ↦ subst (λ (x : Seen). IsTold x) (sym (get_or_append_left V (d ∷ []) e i before)) (told i e before)
        | inr last ↦
            let is : i ≡ length V = omega (arith, last, lt, length-append V (d ∷ [])) in
            let at : get_or more i e ≡ d = get_or-append_right V (d ∷ []) (length V) i e refl last ∙ ap (λ (k : ℕ). get_or (d ∷ []) k e) (minus i (length V) is) in
            subst (λ (x : Seen). IsTold x) (sym at) now
      ]
        where
          minus : (i n : ℕ) → i ≡ n → i - n ≡ 0
          minus i n is = omega arith

  pub adds_none : (state : Seen) (block : GroupBlock) → Adds (as_group state block V []) d (as_group state block more [])
  adds_none state block = record {
    is = refl;
    group = let b = kept_on state in more_none b.slots b.note;
    sound = λ sound told. record { holds = sound.holds; disks = record { told = told_more sound.disks.told told; each = sound.disks.each } };
    told = λ told now. record { state = told.state; volumes = told_more told.volumes now; sets = told.sets };
  }

  pub adds_one : (state : Seen) (block : GroupBlock) (h : HeldSet) → h.master < length V → Adds (as_group state block V (h ∷ [])) d (as_group state block more (h ∷ []))
  adds_one state block h there = record {
    is = refl;
    group = let b = kept_on state in more_one b.slots b.note h there;
    sound = λ sound told. record { holds = sound.holds; disks = record { told = told_more sound.disks.told told; each = sound.disks.each } };
    told = λ told now. record { state = told.state; volumes = told_more told.volumes now; sets = told.sets };
  }

-- the same of disks of any type
pub adds_as : {A D : Type 0} (seen : A → Seen) (state : Seen) (block : GroupBlock) (items items' : List A) (o : Option (Held D)) (g : IiDisks) (x : A)
    → as_group state block (map seen items) (sets_of o) ≡ g → IsKept state block (map seen items) (sets_of o) → items' ≡ items ++ x ∷ []
    → Adds g (seen x) (as_group state block (map seen items') (sets_of o))
adds_as {A = A} {D = D} seen state block items items' o g x view kept is =
    subst (λ (a : IiDisks). Adds a (seen x) (as_group state block (map seen items') (sets_of o))) view
    (subst (λ (l : List Seen). Adds (as_group state block (map seen items) (sets_of o)) (seen x) (as_group state block l (sets_of o))) (sym (map-append seen items (x ∷ [])) ∙ ap (λ (l : List A). map seen l) (sym is)) (go o kept))
  where
    go : (o : Option (Held D)) → IsKept state block (map seen items) (sets_of o) → Adds (as_group state block (map seen items) (sets_of o)) (seen x) (as_group state block (map seen items ++ seen x ∷ []) (sets_of o))
    go None kept = adds_none (map seen items) (seen x) state block
    go (Some h) kept = adds_one (map seen items) (seen x) state block (held_of h) (at_one (IsHeld block.slots (map seen items)) (held_of h) kept.held).master

pub kept_as : {A : Type 0} (seen : A → Seen) (state : Seen) (block : GroupBlock) (items items' : List A) (sets : List HeldSet) (x : A)
    → IsKept state block (map seen items) sets → items' ≡ items ++ x ∷ [] → length items + 1 < 2 ^ 32 → IsKept state block (map seen items') sets
kept_as {A = A} seen state block items items' sets x kept is room =
    subst (λ (l : List Seen). IsKept state block l sets) (sym (map-append seen items (x ∷ [])) ∙ ap (λ (l : List A). map seen l) (sym is)) (kept_more (map seen items) (seen x) state block sets (omega (arith, room, length-map items seen)) kept)

pub room_more : (long number : ℕ) → number ≡ long → long < 2 ^ 32 → number ≢ 4294967295 → long + 1 < 2 ^ 32
room_more long number is less other = omega (arith, other)
