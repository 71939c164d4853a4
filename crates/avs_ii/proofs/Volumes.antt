-- What a call on a volume makes of a group, by what it makes of the volumes and of the rest.
use Rattle.std.proofs.Common.{◌≡◌, ℕ, ◌/◌, ◌<◌, ◌≤◌, Bool, true, false, not, cond, ◌&&◌, All, List, [], ◌∷◌, length, map, set, slice_index, slice_index_or, Option, Some, Result, Ok, Err, is_ok, OnOk, inl, inr, refl, sym, ◌∙◌, ap, subst, arith}
use Rattle.std.specs.Bool.{⊤}
use Rattle.std.proofs.lemmas.Bool.{cases_Bool}
use Rattle.std.proofs.lemmas.List.{get_or-map, length-map}
use Rattle.std.proofs.lemmas.Simd.{map-map}
use Rattle.avs_seg.specs.Image.{Image, blocks_of, range}
use Rattle.avs_dev.specs.Seen.{Seen, IsTold}
use Rattle.avs_dev.specs.Memory.{counted}
use Rattle.avs_dev.specs.Below.{image_of, IsToldAt, IsRangeOf, BelowSeen, ReadsBelow, WritesBelow}
use Rattle.avs_code.specs.declared.slot_table.Slot.{Slot}
use Rattle.avs_code.specs.declared.group_blocks.GroupBlock.{GroupBlock}
use Rattle.avs_model.specs.Shadows.{GroupState, GroupStage, Mark, PutVolume, PutShadow, after_stage, after_stages, StoppedIn, InStage, volume_image, volume_write_stages}
use Rattle.avs_chunk.specs.ChunkSet.{ChunkSet}
use Rattle.avs_ii.specs.declared.held.Held.{Held}
use Rattle.avs_ii.specs.Opened.{held_of, sets_of}
use Rattle.avs_ii.specs.Held.{HeldSet, IiDisks, is_live, pending_in}
use Rattle.avs_ii.specs.Meaning.{group_by, meaning, kept_on}
use Rattle.avs_ii.specs.Sound.{IsSound, AreSound, IsSoundSet}
use Rattle.avs_ii.specs.Kept.{IsHeld, IsKept}
use Rattle.avs_ii.specs.Making.{no_faults}
use Rattle.avs_ii.specs.Calls.{IsVolumeRange, ReadsVolume, WritesVolume, written_on, written_after, on_each}
use Rattle.avs_ii.specs.AsBelow.{below_of, rest_of, IiRest, quiet, quiet_set, group_of, IsSoundRest, WroteRest}
use Rattle.avs_ii.proofs.Making.{master_len, all_none, all_of, of_all}
use Rattle.avs_ii.proofs.Forms.{group_none, group_pending, group_one}
use Rattle.avs_ii.proofs.Quiet.{group_quiet, group_quiet_none, quiet_sound, sound_quiet}
use Rattle.avs_ii.proofs.Shadows.{meaning_is}
use Rattle.avs_ii.proofs.Keeping.{Keeps}
use Rattle.avs_ii.proofs.Belows.{as_group, both_true}

-- ---- the range of a call

pub range_below : (g : IiDisks) (volume at len : ℕ) → IsVolumeRange g volume at len → IsRangeOf (below_of g) volume at len
range_below g volume at len r = record {
  there = omega (arith, r.there, length-map g.volumes (λ (d : Seen). d.size));
  some = r.some;
  whole = r.whole;
  inside = omega (arith, r.inside, get_or-map (λ (d : Seen). d.size) g.volumes volume g.state 0 r.there);
}

-- ---- no stage changes the note

stage_note : (g : GroupState) (note : List ℕ) (stage : GroupStage) → after_stage (record g { note = note }) stage ≡ record (after_stage g stage) { note = note }
stage_note g note (Mark slot chunk) = refl
stage_note g note (PutVolume volume at blocks) = refl
stage_note g note (PutShadow slot at blocks) = refl

stages_note : (g : GroupState) (note : List ℕ) (stages : List GroupStage) → after_stages (record g { note = note }) stages ≡ record (after_stages g stages) { note = note }
stages_note g note [] = refl
stages_note g note (stage ∷ stages) = ap (λ (x : GroupState). after_stages x stages) (stage_note g note stage) ∙ stages_note (after_stage g stage) note stages

in_note : (g g' : GroupState) (note : List ℕ) (stage : GroupStage) → InStage g stage g' → InStage (record g { note = note }) stage (record g' { note = note })
in_note g g' note (Mark slot chunk) w = absurd w
in_note g g' note (PutVolume volume at blocks) w = (w.0, w.1, ap (λ (x : GroupState). record x { note = note }) w.2)
in_note g g' note (PutShadow slot at blocks) w = (w.0, w.1, ap (λ (x : GroupState). record x { note = note }) w.2)

stopped_note : (g g' : GroupState) (note : List ℕ) (stages : List GroupStage) → StoppedIn g stages g' → StoppedIn (record g { note = note }) stages (record g' { note = note })
stopped_note g g' note [] w = ap (λ (x : GroupState). record x { note = note }) w
stopped_note g g' note (stage ∷ stages) (inl same) = inl (ap (λ (x : GroupState). record x { note = note }) same)
stopped_note g g' note (stage ∷ stages) (inr (inl within)) = inr (inl (in_note g g' note stage within))
stopped_note g g' note (stage ∷ stages) (inr (inr later)) = inr (inr (subst (λ (x : GroupState). StoppedIn x stages (record g' { note = note })) (sym (stage_note g note stage)) (stopped_note (after_stage g stage) g' note stages later)))

-- ---- a group and its rest

pub group_rest : (slots : List Slot) (note : List ℕ) (V : List Seen) (sets : List HeldSet) → length sets ≤ 1 → group_by slots note V sets ≡ group_by slots note (map quiet V) (map quiet_set sets)
group_rest slots note V [] one = sym (group_quiet_none slots note V)
group_rest slots note V (h ∷ []) one = sym (group_quiet slots note V h)
group_rest slots note V (h ∷ k ∷ l) one = absurd (omega (arith, one))

told_rest : (V : List Seen) → All IsTold V → All IsTold (map quiet V)
told_rest V told = λ i d lt.
    let lt' : i < length V = omega (arith, lt, length-map V quiet) in
    subst (λ (x : Seen). IsTold x) (sym (get_or-map quiet V i d d lt')) (told i d lt')

rest_told : (V : List Seen) → All IsTold (map quiet V) → All IsTold V
rest_told V told = λ i d lt.
    let it = told i d (omega (arith, lt, length-map V quiet)) in
    subst (λ (x : Seen). IsTold x) (get_or-map quiet V i d d lt) it

-- of one set, whether it is enabled or not
all_live : (P Q : HeldSet → Type 0) (b : Bool) (x y : HeldSet) → (P x → Q y) → All P (cond b (x ∷ []) []) → All Q (cond b (y ∷ []) [])
all_live P Q true x y f all = all_of Q y (f (of_all P x all))
all_live P Q false x y f all = all_none Q

pub sound_rest : (slots : List Slot) (V : List Seen) (sets : List HeldSet) → length sets ≤ 1 → AreSound slots V sets → AreSound slots (map quiet V) (map quiet_set sets)
sound_rest slots V [] one sound = record { told = told_rest V sound.told; each = sound.each }
sound_rest slots V (h ∷ []) one sound = record { told = told_rest V sound.told; each = all_live (IsSoundSet slots) (IsSoundSet slots) (is_live slots h.slot) h (quiet_set h) (quiet_sound slots h) sound.each }
sound_rest slots V (h ∷ k ∷ l) one sound = absurd (omega (arith, one))

pub rest_sound : (slots : List Slot) (V : List Seen) (sets : List HeldSet) → length sets ≤ 1 → AreSound slots (map quiet V) (map quiet_set sets) → AreSound slots V sets
rest_sound slots V [] one sound = record { told = rest_told V sound.told; each = sound.each }
rest_sound slots V (h ∷ []) one sound = record { told = rest_told V sound.told; each = all_live (IsSoundSet slots) (IsSoundSet slots) (is_live slots h.slot) (quiet_set h) h (sound_quiet slots h) sound.each }
rest_sound slots V (h ∷ k ∷ l) one sound = absurd (omega (arith, one))

-- the volumes are as their disks hold them
pub volumes_by : (slots : List Slot) (note : List ℕ) (V : List Seen) (sets : List HeldSet) → length sets ≤ 1 → All (IsHeld slots V) sets → AreSound slots V sets → (d : Seen) → (group_by slots note V sets).volumes ≡ map (λ (x : Seen). x.image) V
volumes_by slots note V [] one held sound d = ap (λ (g : GroupState). g.volumes) (group_none slots note V)
volumes_by slots note V (h ∷ []) one held sound d = elim (cases_Bool (is_live slots h.slot)) [
  | inl live ↦
      let own = of_all (IsHeld slots V) h held in
      let it = of_all (IsSoundSet slots) h (subst (λ (b : Bool). All (IsSoundSet slots) (cond b (h ∷ []) [])) live sound.each) in
      ap (λ (g : GroupState). g.volumes) (group_one slots note V h live (own.area live) it.none_back (master_len slots V h own sound.told d))
  | inr pending ↦ ap (λ (g : GroupState). g.volumes) (group_pending slots note V h pending)
]
volumes_by slots note V (h ∷ k ∷ l) one held sound d = absurd (omega (arith, one))

-- no set is pending where the one that is held is enabled
pub pending_saved : {D : Type 0} (slots : List Slot) (o : Option (Held D)) (h : Held D) (c : ChunkSet) (a : Bool) → o ≡ Some h → (a && is_live slots h.slot) ≡ true → pending_in slots (record (held_of h) { chunks = c } ∷ []) ≡ pending_in slots (sets_of o)
pending_saved {D = D} slots o h c a is test =
    let live = (both_true a (is_live slots h.slot) test).1 in
    ap (λ (b : Bool). cond (not b) (record (held_of h) { chunks = c } ∷ []) []) live
    ∙ sym (ap (λ (b : Bool). cond (not b) (held_of h ∷ []) []) live)
    ∙ ap (λ (x : Option (Held D)). pending_in slots (sets_of x)) (sym is)

-- ---- a write

module _ (state : Seen) (block : GroupBlock) (V V' : List Seen) (sets sets' : List HeldSet) (one : length sets ≤ 1) (one' : length sets' ≤ 1) where
  abbrev g : IiDisks
  g = as_group state block V sets

  abbrev g' : IiDisks
  g' = as_group state block V' sets'

  rest_is : IsSound g → meaning g ≡ record (group_of (rest_of g)) { note = block.note }
  rest_is sound = meaning_is state block V sets sound.holds ∙ group_rest block.slots block.note V sets one

  rest_is' : IsSound g → meaning g' ≡ record (group_of (rest_of g')) { note = block.note }
  rest_is' sound = meaning_is state block V' sets' sound.holds ∙ group_rest block.slots block.note V' sets' one'

  sound_g : IsSound g → IsSoundRest (rest_of g)
  sound_g sound = sound_rest block.slots V sets one sound.disks

  sound_g' : IsSound g → IsSoundRest (rest_of g') → IsSound g'
  sound_g' sound rest = record { holds = sound.holds; disks = rest_sound block.slots V' sets' one' rest }

  module _ (vol at : ℕ) (bytes : List ℕ) (pending : pending_in block.slots sets' ≡ pending_in block.slots sets) where
    abbrev stages : GroupState → List GroupStage
    stages x = volume_write_stages x.sets vol at (blocks_of bytes)

    counts_as : written_on (map quiet V') ≡ written_after (map quiet V) vol (length bytes / 512) → written_on V' ≡ written_after V vol (length bytes / 512)
    counts_as c =
        sym (map-map (λ (d : Seen). d.written) quiet V') ∙ c
        ∙ ap (λ (l : List ℕ). set l vol (counted (slice_index l vol) (length bytes / 512))) (map-map (λ (d : Seen). d.written) quiet V)

    writes_volume : {T E : Type 0} (r : Result T E) → Keeps g g' → WritesBelow ⊤ (below_of g) vol at bytes r (below_of g') → WroteRest (rest_of g) vol at bytes (is_ok r) (rest_of g') → WritesVolume g vol at bytes r g'
    writes_volume (Ok x) keeps w rest = record {
      state = refl;
      block = refl;
      pending = pending;
      later = w.cause.later;
      failed = tt;
      still_armed = w.still_armed;
      spent = λ steady. tt;
      done = λ sound.
          rest_is' sound
          ∙ ap (λ (x : GroupState). record x { note = block.note }) (rest.done (sound_g sound) refl)
          ∙ sym (stages_note (group_of (rest_of g)) block.note (stages (group_of (rest_of g))))
          ∙ ap (λ (x : GroupState). after_stages x (stages x)) (sym (rest_is sound));
      stopped = λ sound. tt;
      sound = λ sound. sound_g' sound (rest.sound (sound_g sound) refl);
      counts = counts_as (rest.counts refl);
      shape = keeps.shape;
      still_steady = w.steady;
      told = keeps.told;
      whole = keeps.whole;
    }
    writes_volume (Err f) keeps w rest = record {
      state = refl;
      block = refl;
      pending = pending;
      later = w.cause.later;
      failed = w.cause.failed;
      still_armed = tt;
      spent = w.spent;
      done = λ sound. tt;
      stopped = λ sound.
          subst (λ (x : GroupState). StoppedIn x (stages x) (meaning g')) (sym (rest_is sound))
          (subst (λ (x : GroupState). StoppedIn (record (group_of (rest_of g)) { note = block.note }) (stages (group_of (rest_of g))) x) (sym (rest_is' sound))
          (stopped_note (group_of (rest_of g)) (group_of (rest_of g')) block.note (stages (group_of (rest_of g))) (rest.stopped (sound_g sound) refl)));
      sound = λ sound. tt;
      counts = tt;
      shape = keeps.shape;
      still_steady = w.steady;
      told = keeps.told;
      whole = keeps.whole;
    }

    pub volume_exit : (x : IiDisks) → as_group state block V sets ≡ x → {T E : Type 0} (r : Result T E) → Keeps x (as_group state block V' sets') → WritesBelow ⊤ (below_of x) vol at bytes r (below_of (as_group state block V' sets')) → WroteRest (rest_of x) vol at bytes (is_ok r) (rest_of (as_group state block V' sets')) → WritesVolume x vol at bytes r (as_group state block V' sets')
    volume_exit x view r = subst (λ (y : IiDisks). Keeps y g' → WritesBelow ⊤ (below_of y) vol at bytes r (below_of g') → WroteRest (rest_of y) vol at bytes (is_ok r) (rest_of g') → WritesVolume y vol at bytes r g') view (writes_volume r)

-- ---- a read

module _ (state : Seen) (block : GroupBlock) (V V' : List Seen) (sets : List HeldSet) (one : length sets ≤ 1) (kept : IsKept state block V sets) (vol at : ℕ) (out : List ℕ) where
  abbrev b : IiDisks
  b = as_group state block V sets

  abbrev b' : IiDisks
  b' = as_group state block V' sets

  told_at_volume : vol < length V → IsSound b → IsToldAt (below_of b) vol
  told_at_volume there sound =
      ap (λ (i : Image). length i) (get_or-map (λ (d : Seen). d.image) V vol state [] there)
      ∙ sound.disks.told vol state there
      ∙ sym (get_or-map (λ (d : Seen). d.size) V vol state 0 there)

  image_is : IsSound b → image_of (below_of b) vol ≡ volume_image (meaning b) vol
  image_is sound =
      ap (λ (l : List Image). slice_index_or l vol []) (sym (ap (λ (x : GroupState). x.volumes) (meaning_is state block V sets sound.holds) ∙ volumes_by block.slots block.note V sets one kept.held sound.disks state))

  reads_volume : {T E : Type 0} (r : Result T E) → vol < length V → Keeps b b' → ReadsBelow ⊤ (below_of b) vol at out r (below_of b') → rest_of b' ≡ rest_of b → on_each no_faults b' ≡ on_each no_faults b → ReadsVolume b vol out at r b'
  reads_volume r there keeps w rest same = record {
    rest = same;
    state = refl;
    block = refl;
    pending = refl;
    armed = ap (λ (s : BelowSeen). s.armed) w.kept;
    later = w.cause.later;
    failed = w.cause.failed;
    steady = w.sure;
    group =
        let k = kept_on state in
        group_rest k.slots k.note V' sets one ∙ ap (λ (x : IiRest). group_by k.slots k.note x.volumes x.sets) rest ∙ sym (group_rest k.slots k.note V sets one);
    sound = λ sound. record { holds = sound.holds; disks = rest_sound block.slots V' sets one (subst (λ (x : IiRest). IsSoundRest x) (sym rest) (sound_rest block.slots V sets one sound.disks)) };
    shows = λ sound. shown r (told_at_volume there sound) (image_is sound) (w.shows tt);
    shape = keeps.shape;
    still_steady = ap (λ (s : BelowSeen). s.steady) w.kept;
    told = keeps.told;
    whole = keeps.whole;
  }
    where
      shown : {T E : Type 0} (r : Result T E) → IsToldAt (below_of b) vol → image_of (below_of b) vol ≡ volume_image (meaning b) vol
          → (IsToldAt (below_of b) vol → OnOk r (blocks_of out ≡ range (image_of (below_of b) vol) at (length out / 512))) → OnOk r (blocks_of out ≡ range (volume_image (meaning b) vol) at (length out / 512))
      shown (Ok x) told is shows = shows told ∙ ap (λ (i : Image). range i at (length out / 512)) is
      shown (Err f) told is shows = tt

  pub read_exit : (x : IiDisks) → as_group state block V sets ≡ x → {T E : Type 0} (r : Result T E) → vol < length V → Keeps x (as_group state block V' sets) → ReadsBelow ⊤ (below_of x) vol at out r (below_of (as_group state block V' sets)) → rest_of (as_group state block V' sets) ≡ rest_of x → on_each no_faults (as_group state block V' sets) ≡ on_each no_faults x → ReadsVolume x vol out at r (as_group state block V' sets)
  read_exit x view r = subst (λ (y : IiDisks). vol < length V → Keeps y b' → ReadsBelow ⊤ (below_of y) vol at out r (below_of b') → rest_of b' ≡ rest_of y → on_each no_faults b' ≡ on_each no_faults y → ReadsVolume y vol out at r b') view (reads_volume r)
