-- The state of a group that holds one set at most, in a form without choices.
use Rattle.std.proofs.Common.{◌≡◌, ◌⊎◌, inl, inr, ℕ, ◌+◌, ◌/◌, ◌<◌, ◌≤◌, Bool, true, false, not, cond, eqb, ◌||◌, ◌&&◌, nat_lt, List, [], ◌∷◌, length, map, get_or, ◌∙◌, sym, refl, ap, arith}
use Rattle.std.specs.List.{range_with_len}
use Rattle.std.proofs.Math.Path.{fun_ext}
use Rattle.std.proofs.lemmas.Bool.{cases_lt, eq-eqb, eqb-true, ne_eqb}
use Rattle.std.proofs.lemmas.Bool.Decides.{nat_tests}
use Rattle.std.proofs.lemmas.List.{ext_get_or, length-map}
use Rattle.std.proofs.lemmas.List.FromFn.{get_or-map-range_with_len, length-map-range_with_len}
use Rattle.avs_seg.specs.Image.{Image, block_at, is_inside}
use Rattle.avs_seg.proofs.Blocks.{length-tabulate, block_at-tabulate, same_images}
use Rattle.avs_seg.specs.Segment.{seg_count}
use Rattle.avs_dev.specs.Seen.{Seen}
use Rattle.avs_code.specs.declared.slot_table.Slot.{Slot}
use Rattle.avs_model.specs.declared.shadow.Kind.{Kind}
use Rattle.avs_model.specs.declared.shadow.Kind.TheVariants.{Ind, Dep, Compact}
use Rattle.avs_model.specs.Shadows.{no_chunks, ShadowState, GroupState}
use Rattle.avs_chunk.specs.States.{on_master, split, on_shadow, Splits}
use Rattle.avs_chunk.specs.ChunkSet.{ChunkSet, chunks_of, disk_state, shadow_image, master_image, master_by, disk_of}
use Rattle.avs_ii.specs.Held.{HeldSet, slot_in, is_live, has_flag, area_b, stopped, enabled_in}
use Rattle.avs_ii.specs.Meaning.{group_by, shadow_by, shadow_of, chunks_by, chunks_with, touched_of, left_of, picked, volume_by, disk_image, standing_of}
use Rattle.avs_ii.specs.Sound.{HasNoneBack}
use Rattle.avs_ii.proofs.Marks.{with_one, row_written, with_row, without_row, touched_row}

-- ---- the master's image is that of its disk where no chunk stands on the shadow alone

pub master_plain : (s : ChunkSet) (img : Image) → HasNoneBack s → length img ≡ s.blocks → master_image s img ≡ img
unfolding master_by
master_plain s img plain len = same_images _ _ long (λ i lt. each i (omega (arith, lt, long, len)))
  where
    long : length (master_image s img) ≡ length img
    long = length-tabulate _ _ ∙ sym len

    each : (i : ℕ) → i < s.blocks → block_at (master_image s img) i ≡ block_at img i
    each i lt = block_at-tabulate _ _ i lt ∙ ap (λ (b : Bool). cond b (block_at (disk_of s.shadow).image i) (block_at img i)) (ne_eqb (disk_state s (i / 64)) on_shadow (plain.none (i / 64) (omega arith)))

-- ---- the volumes

plain_volumes : List Seen → List Image
plain_volumes volumes = map (λ (d : Seen). d.image) volumes

module _ (slots : List Slot) (volumes : List Seen) (sets : List HeldSet) where
  pub volumes_plain : ((v : ℕ) → v < length volumes → volume_by slots volumes sets v ≡ disk_image volumes v) → map (λ v. volume_by slots volumes sets v) (range_with_len 0 (length volumes)) ≡ map (λ (d : Seen). d.image) volumes
  volumes_plain same = ext_get_or [] _ _ (length-map-range_with_len _ 0 (length volumes) ∙ sym (length-map volumes (λ (d : Seen). d.image))) (λ i lt. each i (omega (arith, lt, length-map-range_with_len (λ v. volume_by slots volumes sets v) 0 (length volumes))))
    where
      each : (i : ℕ) → i < length volumes → get_or (map (λ v. volume_by slots volumes sets v) (range_with_len 0 (length volumes))) i [] ≡ get_or (map (λ (d : Seen). d.image) volumes) i []
      each i lt = get_or-map-range_with_len (λ v. volume_by slots volumes sets v) 0 (length volumes) i i [] lt (omega arith) ∙ same i lt

-- ---- a group with no enabled set

abbrev pub with_none : List Seen → List ℕ → GroupState
with_none volumes note = record { volumes = map (λ (d : Seen). d.image) volumes; sets = []; note = note }

pub group_none : (slots : List Slot) (note : List ℕ) (volumes : List Seen) → group_by slots note volumes [] ≡ with_none volumes note
group_none slots note volumes = ap (λ (l : List Image). record { volumes = l; sets = []; note = note }) (volumes_plain slots volumes [] (λ v lt. refl))

pub group_pending : (slots : List Slot) (note : List ℕ) (volumes : List Seen) (s : HeldSet) → is_live slots s.slot ≡ false → group_by slots note volumes (s ∷ []) ≡ with_none volumes note
group_pending slots note volumes s pending =
    let none : enabled_in slots (s ∷ []) ≡ [] = ap (λ (b : Bool). cond b (s ∷ []) []) pending in
    ap (λ (l : List HeldSet). record { volumes = map (λ v. picked slots l v (disk_image volumes v)) (range_with_len 0 (length volumes)); sets = map (λ s. shadow_by slots volumes s) l; note = note }) none
    ∙ group_none slots note volumes

-- ---- a group with one enabled set

-- a set over its master's disk, with the area live that its slot says
abbrev pub HasArea : List Slot → HeldSet → Type 0
HasArea slots s = s.chunks.areas.live_b ≡ has_flag area_b (slot_in slots s.slot)

chunks_same : (slots : List Slot) (s : HeldSet) → HasArea slots s → chunks_by (slot_in slots s.slot) s.chunks ≡ s.chunks
chunks_same slots s area = ap (λ (b : Bool). record s.chunks { areas = record s.chunks.areas { live_b = b } }) (sym area)

-- the set as a state, over its master's disk
abbrev pub set_state : List Slot → List Seen → HeldSet → ShadowState
set_state slots volumes s = shadow_of (slot_in slots s.slot) s s.chunks (disk_image volumes s.master)

pub group_one : (slots : List Slot) (note : List ℕ) (volumes : List Seen) (s : HeldSet)
    → is_live slots s.slot ≡ true → HasArea slots s → HasNoneBack s.chunks → length (disk_image volumes s.master) ≡ s.chunks.blocks
    → group_by slots note volumes (s ∷ []) ≡ with_one (map (λ (d : Seen). d.image) volumes) (set_state slots volumes s) note
group_one slots note volumes s live area plain len =
    let one : enabled_in slots (s ∷ []) ≡ s ∷ [] = ap (λ (b : Bool). cond b (s ∷ []) []) live in
    let same = chunks_same slots s area in
    ap (λ (l : List HeldSet). record { volumes = map (λ v. picked slots l v (disk_image volumes v)) (range_with_len 0 (length volumes)); sets = map (λ s. shadow_by slots volumes s) l; note = note }) one
    ∙ ap (λ (c : ChunkSet). record { volumes = map (λ v. cond (eqb s.master v) (master_image c (disk_image volumes v)) (disk_image volumes v)) (range_with_len 0 (length volumes)); sets = shadow_of (slot_in slots s.slot) s c (disk_image volumes s.master) ∷ []; note = note }) same
    ∙ ap (λ (l : List Image). with_one l (set_state slots volumes s) note) (ext_get_or [] _ _ (length-map-range_with_len _ 0 (length volumes) ∙ sym (length-map volumes (λ (d : Seen). d.image))) (λ i lt. each i (omega (arith, lt, length-map-range_with_len pick 0 (length volumes)))))
  where
    pick : ℕ → Image
    pick v = cond (eqb s.master v) (master_image s.chunks (disk_image volumes v)) (disk_image volumes v)

    either_way : (b : Bool) (v : ℕ) → (b ≡ true → s.master ≡ v) → cond b (master_image s.chunks (disk_image volumes v)) (disk_image volumes v) ≡ disk_image volumes v
    either_way true v is = master_plain s.chunks (disk_image volumes v) plain (ap (λ (k : ℕ). length (disk_image volumes k)) (sym (is refl)) ∙ len)
    either_way false v is = refl

    each : (i : ℕ) → i < length volumes → get_or (map pick (range_with_len 0 (length volumes))) i [] ≡ get_or (map (λ (d : Seen). d.image) volumes) i []
    each i lt = get_or-map-range_with_len pick 0 (length volumes) i i [] lt (omega arith) ∙ either_way (eqb s.master i) i (λ so. eqb-true s.master i so)

-- ---- the lists of a set after a row of its chunks became split

-- a is that the chunk is there, b that it is in the row, x and y its states before and after
module _ (x y : ℕ) where
  moved_test : (a b : Bool) → (b ≡ true → a ≡ true) → (a ≡ true → b ≡ true → y ≡ split) → (a ≡ true → b ≡ false → y ≡ x) → (a && eqb y split) ≡ (b || (a && eqb x split))
  moved_test true true there inner outer = eq-eqb y split (inner refl refl)
  moved_test true false there inner outer = ap (λ (k : ℕ). eqb k split) (outer refl refl)
  moved_test false true there inner outer = there refl
  moved_test false false there inner outer = refl

  out_test : (state : ℕ) → eqb split state ≡ false → (a b : Bool) → (b ≡ true → a ≡ true) → (a ≡ true → b ≡ true → y ≡ split) → (a ≡ true → b ≡ false → y ≡ x) → (a && eqb y state) ≡ (not b && (a && eqb x state))
  out_test state other true true there inner outer = ap (λ (k : ℕ). eqb k state) (inner refl refl) ∙ other
  out_test state other true false there inner outer = ap (λ (k : ℕ). eqb k state) (outer refl refl)
  out_test state other false true there inner outer = refl
  out_test state other false false there inner outer = refl

  touched_test : (a b : Bool) → (b ≡ true → a ≡ true) → (a ≡ true → b ≡ true → y ≡ split) → (a ≡ true → b ≡ false → y ≡ x) → (a && not (eqb y on_master)) ≡ (b || (a && not (eqb x on_master)))
  touched_test true true there inner outer = ap (λ (k : ℕ). not (eqb k on_master)) (inner refl refl)
  touched_test true false there inner outer = ap (λ (k : ℕ). not (eqb k on_master)) (outer refl refl)
  touched_test false true there inner outer = there refl
  touched_test false false there inner outer = refl

no_left : (first n : ℕ) → no_chunks ≡ without_row no_chunks first n
no_left first n = fun_ext (λ c. none (is_inside first n c))
  where
    none : (b : Bool) → false ≡ (not b && false)
    none true = refl
    none false = refl

module _ (old new : ChunkSet) (first n : ℕ) (kind_is : new.kind ≡ old.kind) (blocks_is : new.blocks ≡ old.blocks) (inside : first + n ≤ chunks_of old) (splits : Splits (disk_state old) (disk_state new) (chunks_of old) first (first + n)) where
  row_there : (c : ℕ) → is_inside first n c ≡ true → nat_lt c (chunks_of old) ≡ true
  row_there c row = grind (arith, nat_tests)

  row_split : (c : ℕ) → nat_lt c (chunks_of old) ≡ true → is_inside first n c ≡ true → disk_state new c ≡ split
  row_split c there row = splits.inside c (below c there) (low c row) (high c row)
    where
      below : (c : ℕ) → nat_lt c (chunks_of old) ≡ true → c < chunks_of old
      below c there = grind (arith, nat_tests)

      low : (c : ℕ) → is_inside first n c ≡ true → first ≤ c
      low c row = grind (arith, nat_tests)

      high : (c : ℕ) → is_inside first n c ≡ true → c < first + n
      high c row = grind (arith, nat_tests)

  row_kept : (c : ℕ) → nat_lt c (chunks_of old) ≡ true → is_inside first n c ≡ false → disk_state new c ≡ disk_state old c
  row_kept c there row = splits.outside c (below c there) (apart c row)
    where
      below : (c : ℕ) → nat_lt c (chunks_of old) ≡ true → c < chunks_of old
      below c there = grind (arith, nat_tests)

      apart : (c : ℕ) → is_inside first n c ≡ false → (c < first) ⊎ (first + n ≤ c)
      apart c row = elim (cases_lt c first) [
        | inl low ↦ inl low
        | inr le ↦ elim (cases_lt c (first + n)) [
          | inl within ↦ absurd_row c le within row
          | inr high ↦ inr high
        ]
      ]
        where
          absurd_row : (c : ℕ) → first ≤ c → c < first + n → is_inside first n c ≡ false → (c < first) ⊎ (first + n ≤ c)
          absurd_row c le within row = grind (arith, nat_tests)

  same_count : (c : ℕ) → nat_lt c (chunks_of new) ≡ nat_lt c (chunks_of old)
  same_count c = ap (λ (b : ℕ). nat_lt c (seg_count b)) blocks_is

  moved_row : chunks_with new split ≡ with_row (chunks_with old split) first n
  moved_row = fun_ext (λ c. ap (λ (b : Bool). b && eqb (disk_state new c) split) (same_count c) ∙ moved_test (disk_state old c) (disk_state new c) (nat_lt c (chunks_of old)) (is_inside first n c) (row_there c) (row_split c) (row_kept c))

  out_row : (state : ℕ) → eqb split state ≡ false → chunks_with new state ≡ without_row (chunks_with old state) first n
  out_row state other = fun_ext (λ c. ap (λ (b : Bool). b && eqb (disk_state new c) state) (same_count c) ∙ out_test (disk_state old c) (disk_state new c) state other (nat_lt c (chunks_of old)) (is_inside first n c) (row_there c) (row_split c) (row_kept c))

  all_row : (λ c. nat_lt c (chunks_of new) && not (eqb (disk_state new c) on_master)) ≡ with_row (λ c. nat_lt c (chunks_of old) && not (eqb (disk_state old c) on_master)) first n
  all_row = fun_ext (λ c. ap (λ (b : Bool). b && not (eqb (disk_state new c) on_master)) (same_count c) ∙ touched_test (disk_state old c) (disk_state new c) (nat_lt c (chunks_of old)) (is_inside first n c) (row_there c) (row_split c) (row_kept c))

  touched_row_is : (kind : Kind) → touched_of kind new ≡ touched_row kind (touched_of kind old) first n
  touched_row_is Ind = refl
  touched_row_is Dep = all_row
  touched_row_is Compact = all_row

  left_row_is : (kind : Kind) → left_of kind new ≡ without_row (left_of kind old) first n
  left_row_is Ind = out_row on_master refl
  left_row_is Dep = no_left first n
  left_row_is Compact = no_left first n

  -- the state of the set, with another image of its shadow
  pub row_state : (slot : Slot) (s s' : HeldSet) (img img' : Image) → s'.slot ≡ s.slot → s'.master ≡ s.master
      → shadow_of slot s' new img' ≡ record (row_written (shadow_of slot s old img) first n) { image = shadow_image new img' }
  row_state slot s s' img img' slot_is master_is = λ i. record {
    slot = slot_is i;
    kind = kind_is i;
    master = master_is i;
    blocks = blocks_is i;
    image = shadow_image new img';
    touched = (ap (λ (k : Kind). touched_of k new) kind_is ∙ touched_row_is old.kind) i;
    moved = moved_row i;
    left = (ap (λ (k : Kind). left_of k new) kind_is ∙ left_row_is old.kind) i;
    back = out_row on_shadow refl i;
    stopped = has_flag stopped slot;
    standing = standing_of slot;
  }
