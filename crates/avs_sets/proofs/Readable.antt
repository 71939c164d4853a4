-- A group is found again behind any call, whatever was answered.
use Rattle.std.proofs.Common.{◌≡◌, ℕ, ◌<◌, true, IsTrue, is_some, None, List, length, get_or, Result, ◌∙◌, sym, refl, ap, subst, arith}
use Rattle.avs_seg.specs.Image.{Block, block_at}
use Rattle.avs_dev.specs.Seen.{Seen, IsTold, shown}
use Rattle.avs_dev.proofs.Going.{shown_told}
use Rattle.avs_model.specs.GroupWork.{GroupSpot, StateDisk, BitmapDisk, OverDisk}
use Rattle.avs_model.specs.GroupStages.{GroupStage}
use Rattle.avs_sets.specs.Sets.{SetSeen}
use Rattle.avs_sets.specs.Meaning.{GroupSeen, set_of, set_in, disk_at, is_enabled}
use Rattle.avs_sets.specs.Whole.{IsReadable}
use Rattle.avs_sets.specs.Goes.{is_labelled, KeepsLabels, Goes}
use Rattle.avs_sets.proofs.Spots.{set_in_own}

-- the first block that two told disks show
first_same : (a b : Seen) → IsTold a → IsTold b → block_at b.image 0 ≡ block_at a.image 0 → block_at (shown b) 0 ≡ block_at (shown a) 0
first_same a b ta tb same = ap (λ img. block_at img 0) (shown_told b tb) ∙ same ∙ sym (ap (λ img. block_at img 0) (shown_told a ta))

-- Where a call enables no set and no overflow volume comes, what a load asks of the disks is kept, with no other premise.
module _ (rule : GroupSpot → Block → Type 0) (old new : GroupSeen) (stages : List GroupStage) {T E : Type 0} (r : Result T E) (goes : Goes old stages r new) (labels : KeepsLabels old new)
    (distinct : (j k : ℕ) → j < length old.sets → k < length old.sets → (set_of old.sets j).slot ≡ (set_of old.sets k).slot → j ≡ k)
    (enabled : (k : ℕ) → k < length old.sets → is_enabled new.says (set_of new.sets k) ≡ true → is_enabled old.says (set_of old.sets k) ≡ true)
    (there : (o : ℕ) → IsTrue (is_some (get_or new.overs o None)) → IsTrue (is_some (get_or old.overs o None))) where
  module _ (readable : IsReadable rule old) where
    told : (spot : GroupSpot) → IsTold (disk_at new spot)
    told spot = (goes.disks.lasts spot).told (readable.told spot)

    label : (spot : GroupSpot) → is_labelled spot ≡ true → block_at (shown (disk_at new spot)) 0 ≡ block_at (shown (disk_at old spot)) 0
    label spot is = first_same (disk_at old spot) (disk_at new spot) (readable.told spot) (told spot) (labels.each spot is (readable.told spot))

    slot_same : (k : ℕ) → k < length old.sets → (set_of new.sets k).slot ≡ (set_of old.sets k).slot
    slot_same k lt = (goes.stays.each k lt).slot

    bitmap : (k : ℕ) → k < length old.sets → block_at (shown (set_of new.sets k).bitmap) 0 ≡ block_at (shown (set_of old.sets k).bitmap) 0
    bitmap k lt =
        ap (λ (t : SetSeen). block_at (shown t.bitmap) 0) (sym now)
        ∙ label (BitmapDisk (set_of old.sets k).slot) refl
        ∙ ap (λ (t : SetSeen). block_at (shown t.bitmap) 0) (set_in_own old.sets k lt (λ j l e. distinct j k l lt e))
      where
        now : set_in new.sets (set_of old.sets k).slot ≡ set_of new.sets k
        now = ap (λ (n : ℕ). set_in new.sets n) (sym (slot_same k lt))
            ∙ set_in_own new.sets k (omega (arith, lt, goes.stays.sets)) (λ j l e.
            let l' : j < length old.sets = omega (arith, l, goes.stays.sets) in
            distinct j k l' lt (sym (slot_same j l') ∙ e ∙ slot_same k lt))

    pub readable_kept : IsReadable rule new
    readable_kept = record {
      told = told;
      state = subst (λ (b : Block). rule StateDisk b) (sym (label StateDisk refl)) readable.state;
      bitmaps = λ k lt live.
          let l : k < length old.sets = omega (arith, lt, goes.stays.sets) in
          subst (λ (n : ℕ). rule (BitmapDisk n) (block_at (shown (set_of new.sets k).bitmap) 0)) (sym (slot_same k l))
          (subst (λ (b : Block). rule (BitmapDisk (set_of old.sets k).slot) b) (sym (bitmap k l)) (readable.bitmaps k l (enabled k l live)));
      overs = λ o is. subst (λ (b : Block). rule (OverDisk o) b) (sym (label (OverDisk o) refl)) (readable.overs o (there o is));
    }
