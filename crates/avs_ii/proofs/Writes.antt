-- A write to a volume of a group that holds one set at most, by its stages.
use Rattle.std.proofs.Common.{◌≡◌, ◌≢◌, inl, inr, ℕ, zero, suc, ◌+◌, ◌-◌, ◌/◌, ◌<◌, ◌≤◌, Bool, true, false, cond, eqb, ◌||◌, ◌&&◌, List, [], ◌∷◌, ◌++◌, length, map, filter, set, slice_index_or, None, Some, Result, Ok, Err, ◌∙◌, sym, refl, ap, subst, arith}
use Rattle.std.specs.List.{range_with_len, flat_map}
use Rattle.std.specs.Option.{option_map_or}
use Rattle.std.proofs.Math.Path.{fun_ext}
use Rattle.std.proofs.lemmas.Bool.{cases_lt, eq-eqb, ne_eqb}
use Rattle.std.proofs.lemmas.List.{append-nil, set-get_or, get_or-map, map-set, get_or-set_same, length-set}
use Rattle.avs_seg.specs.Image.{Image, blocks_of, put, IsMix}
use Rattle.avs_seg.specs.Segment.{seg_count, first_segment, touch_count}
use Rattle.avs_seg.proofs.Bytes.{length-blocks_of}
use Rattle.avs_dev.specs.Seen.{Seen, IsTold}
use Rattle.avs_code.specs.declared.slot_table.Slot.{Slot}
use Rattle.avs_model.specs.Shadows.{Online, ShadowState, GroupState, GroupStage, PutVolume, PutShadow, InStage, shadow_write_stages, after_stage, after_stages, StoppedIn, marks, slots_of, volume_write_stages}
use Rattle.avs_chunk.specs.States.{on_shadow, Splits}
use Rattle.avs_chunk.specs.ChunkSet.{ChunkSet, chunks_of, disk_state, shadow_image, IsKnown}
use Rattle.avs_chunk.specs.Calls.{chunks_end, StopsWrite, WritesShadow}
use Rattle.avs_ii.specs.Held.{HeldSet, slot_in, is_live}
use Rattle.avs_ii.specs.Meaning.{group_by, shadow_of, disk_image, standing_of}
use Rattle.avs_ii.specs.Sound.{HasNoneBack}
use Rattle.avs_ii.specs.Saved.{StopsMaster, WritesMaster}
use Rattle.avs_ii.proofs.Marks.{with_one, row_written, row_marks, after_row, after_append, stopped_behind, stopped_row}
use Rattle.avs_ii.proofs.Forms.{master_plain, group_one, HasArea, set_state, row_state}

-- ---- the slots of a master's sets

filter_above : (sl a n : ℕ) → sl < a → filter (λ k. eqb sl k) (range_with_len a n) ≡ []
filter_above sl a zero lt = refl
filter_above sl a (suc n) lt =
    ap (λ (b : Bool). cond b (a ∷ filter (λ k. eqb sl k) (range_with_len (a + 1) n)) (filter (λ k. eqb sl k) (range_with_len (a + 1) n))) (ne_eqb sl a (λ e. omega (arith, e)))
    ∙ filter_above sl (a + 1) n (omega arith)

filter_row : (sl a n : ℕ) → a ≤ sl → sl < a + n → filter (λ k. eqb sl k) (range_with_len a n) ≡ sl ∷ []
filter_row sl a zero le lt = elim (none sl a le lt) [ ]
  where
    none : (sl a : ℕ) → a ≤ sl → sl < a + 0 → ⊥
    none sl a le lt = omega arith
filter_row sl a (suc n) le lt = elim (cases_lt a sl) [
  | inl more ↦
      ap (λ (b : Bool). cond b (a ∷ filter (λ k. eqb sl k) (range_with_len (a + 1) n)) (filter (λ k. eqb sl k) (range_with_len (a + 1) n))) (ne_eqb sl a (λ e. omega (arith, e, more)))
      ∙ filter_row sl (a + 1) n (omega arith) (omega arith)
  | inr same ↦
      let is : a ≡ sl = omega arith in
      ap (λ (b : Bool). cond b (a ∷ filter (λ k. eqb sl k) (range_with_len (a + 1) n)) (filter (λ k. eqb sl k) (range_with_len (a + 1) n))) (eq-eqb sl a (sym is))
      ∙ ap (λ (l : List ℕ). a ∷ l) (filter_above sl (a + 1) n (omega arith))
      ∙ ap (λ (k : ℕ). k ∷ []) is
]

one_test : (a b : Bool) → b ≡ true → (a && b || false) ≡ a
one_test a b is = grind arith

none_test : (a b : Bool) → b ≡ false → (a && b || false) ≡ false
none_test a b is = grind arith

pub slots_one : (set : ShadowState) (v : ℕ) → set.slot < 16 → set.master ≡ v → slots_of (set ∷ []) v ≡ set.slot ∷ []
slots_one set v lt is =
    ap (λ (p : ℕ → Bool). filter p (range_with_len 0 16)) (fun_ext (λ k. one_test (eqb set.slot k) (eqb set.master v) (eq-eqb set.master v is)))
    ∙ filter_row set.slot 0 16 (omega arith) (omega (arith, lt))

filter_false : (l : List ℕ) → filter (λ k. false) l ≡ []
filter_false [] = refl
filter_false (x ∷ l) = filter_false l

pub slots_other : (set : ShadowState) (v : ℕ) → set.master ≢ v → slots_of (set ∷ []) v ≡ []
slots_other set v other =
    ap (λ (p : ℕ → Bool). filter p (range_with_len 0 16)) (fun_ext (λ k. none_test (eqb set.slot k) (eqb set.master v) (ne_eqb set.master v other)))
    ∙ filter_false (range_with_len 0 16)

-- ---- the image of one volume

module _ (volumes : List Seen) (v : ℕ) (m : Seen) (there : v < length volumes) (disk : m ≡ slice_index_or volumes v m) where
  pub image_at : disk_image volumes v ≡ m.image
  image_at = get_or-map (λ (d : Seen). d.image) volumes v m [] there ∙ ap (λ (d : Seen). d.image) (sym disk)

module _ (volumes : List Seen) (v : ℕ) (new : Seen) (there : v < length volumes) where
  pub image_now : disk_image (set volumes v new) v ≡ new.image
  image_now = get_or-map (λ (d : Seen). d.image) (set volumes v new) v new [] (omega (arith, length-set volumes v new, there)) ∙ ap (λ (d : Seen). d.image) (get_or-set_same volumes v new new there)

  pub images_now : map (λ (d : Seen). d.image) (set volumes v new) ≡ set (map (λ (d : Seen). d.image) volumes) v new.image
  images_now = map-set (λ (d : Seen). d.image) volumes v new

-- ---- a set whose master is written

-- an enabled set, its master's disk, and that it can be read
pub record Ready (slots : List Slot) (volumes : List Seen) (s : HeldSet) (m : Seen) : Type 0 where
  pub live : is_live slots s.slot ≡ true
  pub area : HasArea slots s
  pub online : standing_of (slot_in slots s.slot) ≡ Online
  pub slot : s.slot < 16
  pub there : s.master < length volumes
  pub disk : m ≡ slice_index_or volumes s.master m
  pub size : m.size ≡ s.chunks.blocks

-- split chunks do not stand on the shadow alone
pub none_after : (old new : ChunkSet) (first end : ℕ) → new.blocks ≡ old.blocks → HasNoneBack old → Splits (disk_state old) (disk_state new) (chunks_of old) first end → HasNoneBack new
none_after old new first end blocks plain s = record { none = λ c lt. each c (subst (λ (b : ℕ). c < seg_count b) blocks lt) }
  where
    each : (c : ℕ) → c < chunks_of old → disk_state new c ≢ on_shadow
    each c lt = elim (cases_lt c first) [
      | inl low ↦ subst (λ (n : ℕ). n ≢ on_shadow) (sym (s.outside c lt (inl low))) (plain.none c lt)
      | inr le ↦ elim (cases_lt c end) [
        | inl within ↦ subst (λ (n : ℕ). n ≢ on_shadow) (sym (s.inside c lt le within)) (λ e. omega (arith, e))
        | inr high ↦ subst (λ (n : ℕ). n ≢ on_shadow) (sym (s.outside c lt (inr high))) (plain.none c lt)
      ]
    ]

module _ (slots : List Slot) (note : List ℕ) (volumes : List Seen) (s : HeldSet) (m : Seen) (ready : Ready slots volumes s m) (plain : HasNoneBack s.chunks) (told : IsTold m) where
  before : GroupState
  before = with_one (map (λ (d : Seen). d.image) volumes) (set_state slots volumes s) note

  pub group_before : group_by slots note volumes (s ∷ []) ≡ with_one (map (λ (d : Seen). d.image) volumes) (set_state slots volumes s) note
  group_before = group_one slots note volumes s ready.live ready.area plain (ap (λ (i : Image). length i) (image_at volumes s.master m ready.there ready.disk) ∙ told ∙ ready.size)

  -- another disk of the master and other chunks, of which a row became split
  module _ (c' : ChunkSet) (m' : Seen) (first n : ℕ) (kind_is : c'.kind ≡ s.chunks.kind) (blocks_is : c'.blocks ≡ s.chunks.blocks) (live_is : c'.areas.live_b ≡ s.chunks.areas.live_b) (inside : first + n ≤ chunks_of s.chunks) (splits : Splits (disk_state s.chunks) (disk_state c') (chunks_of s.chunks) first (first + n)) (told' : IsTold m') (size' : m'.size ≡ m.size) where
    pub group_after_image : group_by slots note (set volumes s.master m') (record s { chunks = c' } ∷ []) ≡ with_one (set (map (λ (d : Seen). d.image) volumes) s.master m'.image) (record (row_written (set_state slots volumes s) first n) { image = shadow_image c' m'.image }) note
    group_after_image =
        let volumes' = set volumes s.master m' in
        let s' : HeldSet = record s { chunks = c' } in
        let now = image_now volumes s.master m' ready.there in
        group_one slots note volumes' s' ready.live (live_is ∙ ready.area) (none_after s.chunks c' first (first + n) blocks_is plain splits) (ap (λ (i : Image). length i) now ∙ told' ∙ size' ∙ ready.size ∙ sym blocks_is)
        ∙ ap (λ (l : List Image). with_one l (set_state slots volumes' s') note) (images_now volumes s.master m' ready.there)
        ∙ ap (λ (i : Image). with_one (set (map (λ (d : Seen). d.image) volumes) s.master m'.image) (shadow_of (slot_in slots s.slot) s' c' i) note) now
        ∙ ap (λ (x : ShadowState). with_one (set (map (λ (d : Seen). d.image) volumes) s.master m'.image) x note) (row_state s.chunks c' first n kind_is blocks_is inside splits (slot_in slots s.slot) s s' (disk_image volumes s.master) m'.image refl refl)

    pub group_after : shadow_image c' m'.image ≡ shadow_image s.chunks m.image → group_by slots note (set volumes s.master m') (record s { chunks = c' } ∷ []) ≡ with_one (set (map (λ (d : Seen). d.image) volumes) s.master m'.image) (row_written (set_state slots volumes s) first n) note
    group_after image_is =
        group_after_image
        ∙ ap (λ (i : Image). with_one (set (map (λ (d : Seen). d.image) volumes) s.master m'.image) (record (row_written (set_state slots volumes s) first n) { image = i }) note) (image_is ∙ ap (λ (i : Image). shadow_image s.chunks i) (sym (image_at volumes s.master m ready.there ready.disk)))

-- ---- the stages of a write to a master

module _ (slots : List Slot) (note : List ℕ) (volumes : List Seen) (s : HeldSet) (m : Seen) (ready : Ready slots volumes s m) (plain : HasNoneBack s.chunks) (known : IsKnown s.chunks) (told : IsTold m) (c' : ChunkSet) (m' : Seen) (at : ℕ) (bytes : List ℕ) (inside : 0 < length bytes / 512) (range : at + length bytes / 512 ≤ s.chunks.blocks) where
  abbrev images : List Image
  images = map (λ (d : Seen). d.image) volumes

  abbrev was : ShadowState
  was = set_state slots volumes s

  abbrev first : ℕ
  first = first_segment at

  abbrev count : ℕ
  count = touch_count at (length (blocks_of bytes))

  len_is : length (blocks_of bytes) ≡ length bytes / 512
  len_is = length-blocks_of bytes

  stages_are : volume_write_stages (was ∷ []) s.master at (blocks_of bytes) ≡ row_marks s.slot first count ++ PutVolume s.master at (blocks_of bytes) ∷ []
  stages_are =
      ap (λ (l : List ℕ). flat_map (λ slot. marks slot at (length (blocks_of bytes))) l ++ PutVolume s.master at (blocks_of bytes) ∷ []) (slots_one was s.master ready.slot refl)
      ∙ ap (λ (l : List GroupStage). l ++ PutVolume s.master at (blocks_of bytes) ∷ []) (append-nil (row_marks s.slot first count))

  image_is : slice_index_or images s.master [] ≡ m.image
  image_is = image_at volumes s.master m ready.there ready.disk

  end_is : first + count ≡ chunks_end at (length bytes / 512)
  end_is = omega (arith, len_is, inside)

  fits : first + count ≤ chunks_of s.chunks
  fits = omega (arith, len_is, range, inside)

  module _ {T E : Type 0} where
    pub master_done : (x : T) → WritesMaster {T = T} {E = E} s.chunks m at bytes (Ok x) c' m'
        → group_by slots note (set volumes s.master m') (record s { chunks = c' } ∷ []) ≡ after_stages (group_by slots note volumes (s ∷ [])) (volume_write_stages (group_by slots note volumes (s ∷ [])).sets s.master at (blocks_of bytes))
    master_done x w =
        let splits = subst (λ (n : ℕ). Splits (disk_state s.chunks) (disk_state c') (chunks_of s.chunks) first n) (sym end_is) (w.split known told) in
        group_after slots note volumes s m ready plain told c' m' first count w.stays.kind w.stays.blocks w.stays.live_b fits splits (w.disks.master.told told) w.disks.master.size (w.shadow known told)
        ∙ ap (λ (i : Image). with_one (set images s.master i) (row_written was first count) note) (w.done told ∙ ap (λ (i : Image). put i at (blocks_of bytes)) (sym image_is))
        ∙ ap (λ (g : GroupState). after_stage g (PutVolume s.master at (blocks_of bytes))) (sym (after_row images note was first count ready.online))
        ∙ sym (after_append (with_one images was note) (row_marks s.slot first count) (PutVolume s.master at (blocks_of bytes) ∷ []))
        ∙ ap (λ (l : List GroupStage). after_stages (with_one images was note) l) (sym stages_are)
        ∙ ap (λ (g : GroupState). after_stages g (volume_write_stages g.sets s.master at (blocks_of bytes))) (sym (group_before slots note volumes s m ready plain told))

    pub master_stopped : (f : E) → WritesMaster {T = T} {E = E} s.chunks m at bytes (Err f) c' m'
        → StoppedIn (group_by slots note volumes (s ∷ [])) (volume_write_stages (group_by slots note volumes (s ∷ [])).sets s.master at (blocks_of bytes)) (group_by slots note (set volumes s.master m') (record s { chunks = c' } ∷ []))
    master_stopped f w =
        subst (λ (g : GroupState). StoppedIn g (volume_write_stages g.sets s.master at (blocks_of bytes)) (group_by slots note (set volumes s.master m') (record s { chunks = c' } ∷ []))) (sym (group_before slots note volumes s m ready plain told))
        (subst (λ (l : List GroupStage). StoppedIn (with_one images was note) l (group_by slots note (set volumes s.master m') (record s { chunks = c' } ∷ []))) (sym stages_are)
        (subst (λ (g : GroupState). StoppedIn (with_one images was note) (row_marks s.slot first count ++ PutVolume s.master at (blocks_of bytes) ∷ []) g) (sym now) in_midst))
      where
        stops : StopsMaster s.chunks m.image at (blocks_of bytes) c' m'.image
        stops = w.stopped known told

        k : ℕ
        k = stops.saved.upto - first

        reach : first + k ≡ stops.saved.upto
        reach = omega (arith, stops.saved.low)

        within : k ≤ count
        within = omega (arith, stops.saved.high, stops.saved.low, end_is, len_is)

        now : group_by slots note (set volumes s.master m') (record s { chunks = c' } ∷ []) ≡ with_one (set images s.master m'.image) (row_written was first k) note
        now = group_after slots note volumes s m ready plain told c' m' first k w.stays.kind w.stays.blocks w.stays.live_b (omega (arith, fits, within)) (subst (λ (n : ℕ). Splits (disk_state s.chunks) (disk_state c') (chunks_of s.chunks) first n) (sym reach) stops.saved.splits) (w.disks.master.told told) w.disks.master.size (w.shadow known told)

        kept : m'.image ≡ m.image → set images s.master m'.image ≡ images
        kept same = ap (λ (i : Image). set images s.master i) (same ∙ sym image_is) ∙ set-get_or images s.master []

        in_midst : StoppedIn (with_one images was note) (row_marks s.slot first count ++ PutVolume s.master at (blocks_of bytes) ∷ []) (with_one (set images s.master m'.image) (row_written was first k) note)
        in_midst = elim (cases_lt stops.saved.upto (chunks_end at (length (blocks_of bytes)))) [
          | inl less ↦ subst (λ (l : List Image). StoppedIn (with_one images was note) (row_marks s.slot first count ++ PutVolume s.master at (blocks_of bytes) ∷ []) (with_one l (row_written was first k) note)) (sym (kept (stops.before less)))
              (stopped_row images note was first count k (PutVolume s.master at (blocks_of bytes) ∷ []) ready.online within)
          | inr all ↦
              let is : k ≡ count = omega (arith, all, within, stops.saved.low, end_is, len_is, reach) in
              stopped_behind (with_one images was note) (with_one (set images s.master m'.image) (row_written was first k) note) (row_marks s.slot first count) (PutVolume s.master at (blocks_of bytes) ∷ [])
              (subst (λ (g : GroupState). StoppedIn g (PutVolume s.master at (blocks_of bytes) ∷ []) (with_one (set images s.master m'.image) (row_written was first k) note)) (sym (after_row images note was first count ready.online))
              (inr (inl (m'.image, subst (λ (i : Image). IsMix i at (blocks_of bytes) m'.image) (sym image_is) stops.mix, ap (λ (n : ℕ). with_one (set images s.master m'.image) (row_written was first n) note) is))))
        ]

-- ---- a volume of which no set is enabled

module _ (slots : List Slot) (note : List ℕ) (volumes : List Seen) (v : ℕ) (m m' : Seen) (there : v < length volumes) (disk : m ≡ slice_index_or volumes v m) (at : ℕ) (bytes : List ℕ) where
  pub volume_done : (sets sets' : List HeldSet) (held : List ShadowState) → group_by slots note volumes sets ≡ record { volumes = map (λ (d : Seen). d.image) volumes; sets = held; note = note }
      → group_by slots note (set volumes v m') sets' ≡ record { volumes = map (λ (d : Seen). d.image) (set volumes v m'); sets = held; note = note }
      → slots_of held v ≡ [] → m'.image ≡ put m.image at (blocks_of bytes)
      → group_by slots note (set volumes v m') sets' ≡ after_stages (group_by slots note volumes sets) (volume_write_stages (group_by slots note volumes sets).sets v at (blocks_of bytes))
  volume_done sets sets' held before after none done =
      after
      ∙ ap (λ (l : List Image). record { volumes = l; sets = held; note = note }) (images_now volumes v m' there ∙ ap (λ (i : Image). set (map (λ (d : Seen). d.image) volumes) v i) (done ∙ ap (λ (i : Image). put i at (blocks_of bytes)) (sym (image_at volumes v m there disk))))
      ∙ ap (λ (l : List ℕ). after_stages (record { volumes = map (λ (d : Seen). d.image) volumes; sets = held; note = note }) (flat_map (λ slot. marks slot at (length (blocks_of bytes))) l ++ PutVolume v at (blocks_of bytes) ∷ [])) (sym none)
      ∙ ap (λ (g : GroupState). after_stages g (volume_write_stages g.sets v at (blocks_of bytes))) (sym before)

  pub volume_stopped : (sets sets' : List HeldSet) (held : List ShadowState) → group_by slots note volumes sets ≡ record { volumes = map (λ (d : Seen). d.image) volumes; sets = held; note = note }
      → group_by slots note (set volumes v m') sets' ≡ record { volumes = map (λ (d : Seen). d.image) (set volumes v m'); sets = held; note = note }
      → slots_of held v ≡ [] → IsMix m.image at (blocks_of bytes) m'.image
      → StoppedIn (group_by slots note volumes sets) (volume_write_stages (group_by slots note volumes sets).sets v at (blocks_of bytes)) (group_by slots note (set volumes v m') sets')
  volume_stopped sets sets' held before after none mix =
      subst (λ (g : GroupState). StoppedIn g (volume_write_stages g.sets v at (blocks_of bytes)) (group_by slots note (set volumes v m') sets')) (sym before)
      (subst (λ (l : List ℕ). StoppedIn (record { volumes = map (λ (d : Seen). d.image) volumes; sets = held; note = note }) (flat_map (λ slot. marks slot at (length (blocks_of bytes))) l ++ PutVolume v at (blocks_of bytes) ∷ []) (group_by slots note (set volumes v m') sets')) (sym none)
      (inr (inl (m'.image, subst (λ (i : Image). IsMix i at (blocks_of bytes) m'.image) (sym (image_at volumes v m there disk)) mix, after ∙ ap (λ (l : List Image). record { volumes = l; sets = held; note = note }) (images_now volumes v m' there)))))

-- ---- the stages of a write to a shadow

module _ (slots : List Slot) (note : List ℕ) (volumes : List Seen) (s : HeldSet) (m : Seen) (ready : Ready slots volumes s m) (plain : HasNoneBack s.chunks) (known : IsKnown s.chunks) (told : IsTold m) (c' : ChunkSet) (m' : Seen) (at : ℕ) (bytes : List ℕ) (some : 0 < length bytes / 512) (range : at + length bytes / 512 ≤ s.chunks.blocks) where
  abbrev row : ℕ
  row = touch_count at (length (blocks_of bytes))

  abbrev disks : List Image
  disks = map (λ (d : Seen). d.image) volumes

  abbrev old_state : ShadowState
  old_state = set_state slots volumes s

  old_image : old_state.image ≡ shadow_image s.chunks m.image
  old_image = ap (λ (i : Image). shadow_image s.chunks i) (image_at volumes s.master m ready.there ready.disk)

  row_end : first_segment at + row ≡ chunks_end at (length bytes / 512)
  row_end = omega (arith, length-blocks_of bytes, some)

  row_fits : first_segment at + row ≤ chunks_of s.chunks
  row_fits = omega (arith, length-blocks_of bytes, range, some)

  put_shadow : (set : ShadowState) → set.slot ≡ s.slot → (l : List Image) → after_stage (with_one l set note) (PutShadow s.slot at (blocks_of bytes)) ≡ with_one l (record set { image = put set.image at (blocks_of bytes) }) note
  put_shadow set is l = ap (λ (b : Bool). with_one l (cond b (record set { image = put (option_map_or (λ (x : ShadowState). x.image) (cond b (Some set) None) []) at (blocks_of bytes) }) set) note) (eq-eqb set.slot s.slot is)

  in_shadow : (set : ShadowState) → set.slot ≡ s.slot → (l : List Image) (new : GroupState) (image : Image) → IsMix set.image at (blocks_of bytes) image → new ≡ with_one l (record set { image = image }) note
      → InStage (with_one l set note) (PutShadow s.slot at (blocks_of bytes)) new
  in_shadow set is l new image mix now =
      let test = eq-eqb set.slot s.slot is in (
        image,
        subst (λ (b : Bool). IsMix (option_map_or (λ (x : ShadowState). x.image) (cond b (Some set) None) []) at (blocks_of bytes) image) (sym test) mix,
        now ∙ ap (λ (b : Bool). with_one l (cond b (record set { image = image }) set) note) (sym test),
      )

  module _ {T E : Type 0} (r : Result T E) (w : WritesShadow s.chunks m at bytes r c' m') where
    -- the group behind a row of chunks
    shadow_after : (n : ℕ) → first_segment at + n ≤ chunks_of s.chunks → Splits (disk_state s.chunks) (disk_state c') (chunks_of s.chunks) (first_segment at) (first_segment at + n)
        → group_by slots note (set volumes s.master m') (record s { chunks = c' } ∷ []) ≡ with_one disks (record (row_written old_state (first_segment at) n) { image = shadow_image c' m'.image }) note
    shadow_after n fits splits =
        let plain' = none_after s.chunks c' (first_segment at) (first_segment at + n) w.stays.blocks plain splits in
        let long : length m.image ≡ s.chunks.blocks = told ∙ ready.size in
        let told' = w.disks.master.told told in
        let long' : length m'.image ≡ c'.blocks = told' ∙ w.disks.master.size ∙ ready.size ∙ sym w.stays.blocks in
        let same : m'.image ≡ m.image = sym (master_plain c' m'.image plain' long') ∙ w.master known told ∙ master_plain s.chunks m.image plain long in
        let was = image_at volumes s.master m ready.there ready.disk in
        group_after_image slots note volumes s m ready plain told c' m' (first_segment at) n w.stays.kind w.stays.blocks w.stays.live_b fits splits told' w.disks.master.size
        ∙ ap (λ (i : Image). with_one (set disks s.master i) (record (row_written old_state (first_segment at) n) { image = shadow_image c' m'.image }) note) (same ∙ sym was)
        ∙ ap (λ (l : List Image). with_one l (record (row_written old_state (first_segment at) n) { image = shadow_image c' m'.image }) note) (set-get_or disks s.master [])

  module _ {T E : Type 0} where
    pub shadow_done : (x : T) → WritesShadow {T = T} {E = E} s.chunks m at bytes (Ok x) c' m'
        → group_by slots note (set volumes s.master m') (record s { chunks = c' } ∷ []) ≡ after_stages (group_by slots note volumes (s ∷ [])) (shadow_write_stages s.slot at (blocks_of bytes))
    shadow_done x w =
        shadow_after (Ok x) w row row_fits (subst (λ (n : ℕ). Splits (disk_state s.chunks) (disk_state c') (chunks_of s.chunks) (first_segment at) n) (sym row_end) (w.split known told))
        ∙ ap (λ (i : Image). with_one disks (record (row_written old_state (first_segment at) row) { image = i }) note) (w.done known told ∙ ap (λ (i : Image). put i at (blocks_of bytes)) (sym old_image))
        ∙ sym (put_shadow (row_written old_state (first_segment at) row) refl disks)
        ∙ ap (λ (g : GroupState). after_stage g (PutShadow s.slot at (blocks_of bytes))) (sym (after_row disks note old_state (first_segment at) row ready.online))
        ∙ sym (after_append (with_one disks old_state note) (row_marks s.slot (first_segment at) row) (PutShadow s.slot at (blocks_of bytes) ∷ []))
        ∙ ap (λ (g : GroupState). after_stages g (shadow_write_stages s.slot at (blocks_of bytes))) (sym (group_before slots note volumes s m ready plain told))

    pub shadow_stopped : (f : E) → WritesShadow {T = T} {E = E} s.chunks m at bytes (Err f) c' m'
        → StoppedIn (group_by slots note volumes (s ∷ [])) (shadow_write_stages s.slot at (blocks_of bytes)) (group_by slots note (set volumes s.master m') (record s { chunks = c' } ∷ []))
    shadow_stopped f w =
        subst (λ (g : GroupState). StoppedIn g (shadow_write_stages s.slot at (blocks_of bytes)) (group_by slots note (set volumes s.master m') (record s { chunks = c' } ∷ []))) (sym (group_before slots note volumes s m ready plain told))
        (subst (λ (g : GroupState). StoppedIn (with_one disks old_state note) (row_marks s.slot (first_segment at) row ++ PutShadow s.slot at (blocks_of bytes) ∷ []) g) (sym now) in_midst)
      where
        stops : StopsWrite s.chunks m.image at (blocks_of bytes) c' m'.image
        stops = w.stopped known told

        k : ℕ
        k = stops.saved.upto - first_segment at

        reach : first_segment at + k ≡ stops.saved.upto
        reach = omega (arith, stops.saved.low)

        within : k ≤ row
        within = omega (arith, stops.saved.high, stops.saved.low, row_end, length-blocks_of bytes)

        now : group_by slots note (set volumes s.master m') (record s { chunks = c' } ∷ []) ≡ with_one disks (record (row_written old_state (first_segment at) k) { image = shadow_image c' m'.image }) note
        now = shadow_after (Err f) w k (omega (arith, row_fits, within)) (subst (λ (n : ℕ). Splits (disk_state s.chunks) (disk_state c') (chunks_of s.chunks) (first_segment at) n) (sym reach) stops.saved.splits)

        in_midst : StoppedIn (with_one disks old_state note) (row_marks s.slot (first_segment at) row ++ PutShadow s.slot at (blocks_of bytes) ∷ []) (with_one disks (record (row_written old_state (first_segment at) k) { image = shadow_image c' m'.image }) note)
        in_midst = elim (cases_lt stops.saved.upto (chunks_end at (length (blocks_of bytes)))) [
          | inl less ↦ subst (λ (i : Image). StoppedIn (with_one disks old_state note) (row_marks s.slot (first_segment at) row ++ PutShadow s.slot at (blocks_of bytes) ∷ []) (with_one disks (record (row_written old_state (first_segment at) k) { image = i }) note)) (sym (stops.before less ∙ sym old_image))
              (stopped_row disks note old_state (first_segment at) row k (PutShadow s.slot at (blocks_of bytes) ∷ []) ready.online within)
          | inr all ↦
              let is : k ≡ row = omega (arith, all, within, stops.saved.low, row_end, length-blocks_of bytes, reach) in
              let new : GroupState = with_one disks (record (row_written old_state (first_segment at) k) { image = shadow_image c' m'.image }) note in
              let mixed = in_shadow (row_written old_state (first_segment at) row) refl disks new (shadow_image c' m'.image) (subst (λ (i : Image). IsMix i at (blocks_of bytes) (shadow_image c' m'.image)) (sym old_image) stops.mix) (ap (λ (n : ℕ). with_one disks (record (row_written old_state (first_segment at) n) { image = shadow_image c' m'.image }) note) is) in
              stopped_behind (with_one disks old_state note) new (row_marks s.slot (first_segment at) row) (PutShadow s.slot at (blocks_of bytes) ∷ [])
              (subst (λ (g : GroupState). StoppedIn g (PutShadow s.slot at (blocks_of bytes) ∷ []) new) (sym (after_row disks note old_state (first_segment at) row ready.online)) (inr (inl mixed)))
        ]
