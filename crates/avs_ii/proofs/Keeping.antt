-- What a call on a volume keeps: the shape, that disks are told, and that the group is found again.
use Rattle.std.proofs.Common.{◌≡◌, ℕ, ◌<◌, ◌≤◌, true, eqb, ◌&&◌, List, [], ◌∷◌, length, map, set, slice_index_or, Result, refl, sym, ap, subst, arith}
use Rattle.avs_dev.specs.Seen.{Seen, IsTold, Reads, Writes}
use Rattle.avs_code.specs.declared.group_blocks.GroupBlock.{GroupBlock}
use Rattle.avs_model.specs.declared.shadow.Kind.{Kind}
use Rattle.avs_chunk.specs.ChunkSet.{ChunkSet}
use Rattle.avs_chunk.specs.Calls.{Stays}
use Rattle.avs_ii.specs.Held.{HeldSet, IiDisks, is_live, slot_in, has_flag, area_b}
use Rattle.avs_ii.specs.Meaning.{kept_on}
use Rattle.avs_ii.specs.Shape.{disk_shape, set_shape, shape_of}
use Rattle.avs_ii.specs.Parts.{set_parts, parts_of}
use Rattle.avs_ii.specs.Making.{IsSetTold, AreTold, AreWhole, IsPlaced, IsLabelled, IsSetSettled, fits_slot}
use Rattle.avs_ii.specs.Saved.{WritesMaster}
use Rattle.avs_ii.specs.Kept.{IsHeld, IsKept}
use Rattle.avs_ii.specs.Calls.{IsFoundAgain}
use Rattle.avs_ii.proofs.Making.{all_none, all_of, of_all}
use Rattle.avs_ii.proofs.Shapes.{KeepsDisk, KeepsSet, same_disk, shapes_at, told_set, keeps_written, keeps_shape, keeps_told}
use Rattle.avs_ii.proofs.Findable.{none_kept, stays_read}
use Rattle.avs_ii.proofs.Loading.{placed_by, labelled_by, by_labelled, settled_by, by_settled, whole_sound}
use Rattle.avs_ii.proofs.Belows.{as_group, v_kept, master_kept}

pub record Keeps (g g' : IiDisks) : Type 0 where
  pub shape : shape_of g' ≡ shape_of g
  pub told : AreTold (parts_of g) → AreTold (parts_of g')
  pub whole : IsFoundAgain g g'

-- the disks of a read and of a write
pub keeps_read : {T E : Type 0} (m m' : Seen) (at : ℕ) (out : List ℕ) (r : Result T E) → Reads m at out r m' → KeepsDisk m m'
keeps_read m m' at out r w = record { shape = ap disk_shape w.rest; told = w.told }

pub keeps_write : {T E : Type 0} (m m' : Seen) (at : ℕ) (bytes : List ℕ) (r : Result T E) → Writes m at bytes r m' → KeepsDisk m m'
keeps_write m m' at bytes r w = record { shape = λ i. record { size = w.size i; steady = w.steady i }; told = w.told }

-- ---- a group is found again on its state disk

-- no set is there
whole_none : (state : Seen) (block : GroupBlock) (V V' : List Seen) → IsKept state block V' [] → AreWhole (parts_of (as_group state block V [])) → AreWhole (parts_of (as_group state block V' []))
whole_none state block V V' kept whole =
    let slots = (kept_on state).slots in
    record {
      state = whole.state;
      label = whole.label;
      block = whole.block;
      placed = record { each = all_none (IsPlaced slots V'); one = omega arith; count = kept.count; none = refl };
      labelled = all_none (IsLabelled slots V');
      settled = all_none (IsSetSettled slots V');
    }

-- whatever the slots on the state disk say of the set
whole_one : (state : Seen) (block : GroupBlock) (V V' : List Seen) (h : HeldSet) (c : ChunkSet) → Stays h.chunks c → IsKept state block V (h ∷ []) → IsKept state block V' (record h { chunks = c } ∷ []) → AreTold (parts_of (as_group state block V (h ∷ [])))
    → AreWhole (parts_of (as_group state block V (h ∷ []))) → AreWhole (parts_of (as_group state block V' (record h { chunks = c } ∷ [])))
whole_one state block V V' h c stays was kept are_told whole =
    let slots = (kept_on state).slots in
    let h' : HeldSet = record h { chunks = c } in
    let own = of_all (IsHeld block.slots V) h was.held in
    let own' = of_all (IsHeld block.slots V') h' kept.held in
    let told : IsTold h.chunks.areas.disk = (of_all IsSetTold (set_parts h) are_told.sets).bitmap in
    let placed = of_all (IsPlaced slots V) (set_parts h) whole.placed.each in
    let labelled = of_all (IsLabelled slots V) (set_parts h) whole.labelled in
    let settled = of_all (IsSetSettled slots V) (set_parts h) whole.settled in
    record {
      state = whole.state;
      label = whole.label;
      block = whole.block;
      placed = record {
        each = all_of (IsPlaced slots V') (set_parts h') (placed_by block.slots [] V' h' own' slots (λ l. subst (λ (k : Kind). fits_slot (slot_in slots h.slot) k ≡ true) (sym stays.kind) (placed.fits l)));
        one = omega arith;
        count = kept.count;
        none = refl;
      };
      labelled = all_of (IsLabelled slots V') (set_parts h') (labelled_by block.slots [] V' h' own' slots (λ l. stays.label told (by_labelled block.slots [] V h own slots labelled l)));
      settled = all_of (IsSetSettled slots V') (set_parts h') (settled_by block.slots [] V' h' own' slots (λ l. none_kept h.chunks c stays own.settled told (has_flag area_b (slot_in slots h.slot)) (by_settled block.slots [] V h own slots settled l)));
    }

-- ---- a volume changes

whole_volume : (state : Seen) (block : GroupBlock) (V V' : List Seen) (sets : List HeldSet) → length sets ≤ 1 → IsKept state block V sets → IsKept state block V' sets → AreTold (parts_of (as_group state block V sets))
    → AreWhole (parts_of (as_group state block V sets)) → AreWhole (parts_of (as_group state block V' sets))
whole_volume state block V V' [] one was kept told whole = whole_none state block V V' kept whole
whole_volume state block V V' (h ∷ []) one was kept told whole = whole_one state block V V' h h.chunks (stays_read h.chunks h.chunks refl refl) was kept told whole
whole_volume state block V V' (h ∷ k ∷ l) one was kept told whole = absurd (omega (arith, one))

pub volume_keeps : (state : Seen) (block : GroupBlock) (V : List Seen) (sets : List HeldSet) (vol : ℕ) (m m' : Seen) → vol < length V → m ≡ slice_index_or V vol m → KeepsDisk m m' → length sets ≤ 1 → IsKept state block V sets
    → Keeps (as_group state block V sets) (as_group state block (set V vol m') sets)
volume_keeps state block V sets vol m m' there disk keeps one kept = record {
  shape = λ i. record { state = disk_shape state; volumes = shapes_at V vol m m' disk keeps i; sets = map set_shape sets };
  told = λ told. record { state = told.state; volumes = told_set V vol m m' disk keeps there told.volumes; sets = told.sets };
  whole = record {
    before = whole_sound state block V sets one kept;
    after = whole_volume state block V (set V vol m') sets one kept (v_kept state block V sets vol m m' there disk (ap (λ d. d.size) keeps.shape) kept);
  };
}

-- ---- a volume and one set change

pub set_keeps : (state : Seen) (block : GroupBlock) (V : List Seen) (h : HeldSet) (vol : ℕ) (m m' : Seen) (c : ChunkSet) → vol < length V → m ≡ slice_index_or V vol m → KeepsDisk m m' → KeepsSet h c → Stays h.chunks c
    → IsKept state block V (h ∷ []) → IsKept state block (set V vol m') (record h { chunks = c } ∷ []) → Keeps (as_group state block V (h ∷ [])) (as_group state block (set V vol m') (record h { chunks = c } ∷ []))
set_keeps state block V h vol m m' c there disk keeps keeps_set stays was kept = record {
  shape = λ i. record { state = disk_shape state; volumes = shapes_at V vol m m' disk keeps i; sets = keeps_shape h c keeps_set i ∷ [] };
  told = λ told. record {
    state = told.state;
    volumes = told_set V vol m m' disk keeps there told.volumes;
    sets = all_of IsSetTold (set_parts (record h { chunks = c })) (keeps_told h c keeps_set (of_all IsSetTold (set_parts h) told.sets));
  };
  whole = record {
    before = whole_sound state block V (h ∷ []) (omega arith) was;
    after = whole_one state block V (set V vol m') h c stays was kept;
  };
}

module _ (state : Seen) (block : GroupBlock) (V : List Seen) (h : HeldSet) (kept : IsKept state block V (h ∷ [])) (vol : ℕ) (m : Seen) (there : vol < length V) (disk : m ≡ slice_index_or V vol m) (test : (eqb h.master vol && is_live block.slots h.slot) ≡ true) (at : ℕ) (bytes : List ℕ) (c : ChunkSet) (m' : Seen) where
  pub master_keeps : {T E : Type 0} (r : Result T E) → WritesMaster h.chunks m at bytes r c m' → Keeps (as_group state block V (h ∷ [])) (as_group state block (set V vol m') (record h { chunks = c } ∷ []))
  master_keeps r w = set_keeps state block V h vol m m' c there disk (same_disk m m' w.disks.master) (keeps_written h c m m' w.stays w.disks) w.stays kept
      (master_kept state block V h kept vol m there disk test at bytes c m' w.stays w.disks w.settled)
