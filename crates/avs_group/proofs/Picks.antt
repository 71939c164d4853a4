-- Reads of a volume: a block is read from the set on whose shadow alone its chunk stands, else from the volume's disk.
use Rattle.std.proofs.Common.{◌≡◌, ◌≢◌, ◌⊎◌, inl, inr, ℕ, ◌+◌, ◌*◌, ◌/◌, ◌<◌, ◌≤◌, Bool, true, false, cond, eqb, ◌&&◌, IsTrue, is_some, Option, None, Some, List, [], length, map, set, get_or, Result, Ok, Err, OnOk, OnErr, ◌∙◌, sym, refl, ap, subst, arith}
use Rattle.std.specs.List.{range_with_len}
use Rattle.std.specs.Option.{option_map, unwrap_or}
use Rattle.std.proofs.lemmas.Bool.{cases_eq, eqb-true, eq-eqb, ne_eqb}
use Rattle.std.proofs.lemmas.Result.{on_ok_weaker, on_err_weaker}
use Rattle.std.proofs.lemmas.List.{get_or-set_same, set-get_or, length-set}
use Rattle.std.proofs.lemmas.List.FromFn.{get_or-map-range_with_len}
use Rattle.avs_seg.specs.Image.{Image, block_at, range, blocks_of}
use Rattle.avs_seg.proofs.Blocks.{block_at-tabulate}
use Rattle.avs_seg.proofs.Ranges.{same_ranges}
use Rattle.avs_dev.specs.Seen.{Seen, IsTold, shown, Reads}
use Rattle.avs_dev.specs.Devices.{AllGoOn}
use Rattle.avs_dev.proofs.Going.{shown_told}
use Rattle.avs_model.specs.GroupStates.{volume_image, GroupState}
use Rattle.avs_model.specs.GroupWork.{GroupSpot, StateDisk, VolumeDisk, ShadowDisk, BitmapDisk, OverDisk}
use Rattle.avs_sets.specs.Says.{BlockSays}
use Rattle.avs_sets.specs.Sets.{disk_of, chunks_of, shadow_block, IsAlike}
use Rattle.avs_sets.specs.Meaning.{GroupSeen, set_of, disk_in, image_in, disk_at, is_enabled, chunks_by, read, pick, picked, volume_by, shadow_over, slot_of, behind_of, state_of, set_by, over_by, group_by, meaning}
use Rattle.avs_sets.specs.Whole.{AreWhole, IsWhole, IsStep, IsInStep, is_away}
use Rattle.avs_sets.specs.Goes.{Goes, is_labelled}
use Rattle.avs_sets.proofs.Lift.{same_row, none_back, pick_none, pick_own}
use Rattle.avs_sets.proofs.Lists.{keeps_all}
use Rattle.avs_sets.proofs.Lifted.{some_is, only_set}
use Rattle.avs_sets.proofs.Spots.{AreAmong, all_among}
use Rattle.avs_sets.proofs.Chains.{same_set, goes_nothing, labels_none}
use Rattle.avs_seg.specs.declared.fault.Failed.{Failed}
use Rattle.avs_group.specs.Group.{Group, IsKeptGroup, over_disks, group_of}
use Rattle.avs_group.specs.Reads.{ReadsImage, ReadsSet, ReadsDisk, IsOneChunk, IsVolumeRange, is_source, NoSource}
use Rattle.avs_group.proofs.Adding.{there_lt}
use Rattle.avs_group.proofs.ByName.{both}

-- ---- the volume's disk is read: nothing changes but its count of faults

abbrev pub with_volume_disk : Group → ℕ → Seen → Group
with_volume_disk old v d' = record old { volumes = set old.volumes v (Some d') }

module _ (old : Group) (inv : IsKeptGroup old) (v : ℕ) (seat : IsTrue (is_some (get_or old.volumes v None))) (d' : Seen) (at : ℕ) (out : List ℕ) {T E : Type 0} (r : Result T E)
    (rd : Reads (disk_in old.volumes v) at out r d') where
  there : v < length old.volumes
  there = there_lt old.volumes v seat

  now : get_or (set old.volumes v (Some d')) v None ≡ Some d'
  now = get_or-set_same old.volumes v (Some d') None there

  others : (w : ℕ) → w ≢ v → get_or (set old.volumes v (Some d')) w None ≡ get_or old.volumes w None
  others w ne = (only_set old.volumes v d' there).others w (λ e. ne (number w v e))
    where
      number : (a b : ℕ) → Some a ≡ Some b → a ≡ b
      number a b e = cc

  shown_same : shown d' ≡ shown (disk_in old.volumes v)
  shown_same = ap (λ (d : Seen). shown d) rd.rest

  image_same : (w : ℕ) → image_in (set old.volumes v (Some d')) w ≡ image_in old.volumes w
  image_same w = elim (cases_eq w v) [
    | inl is ↦ subst (λ (n : ℕ). image_in (set old.volumes v (Some d')) n ≡ image_in old.volumes n) (sym is) (ap (λ (o : Option Seen). shown (disk_of o)) now ∙ shown_same)
    | inr ne ↦ ap (λ (o : Option Seen). shown (disk_of o)) (others w ne)
  ]

  told_same : (w : ℕ) → IsTold (disk_in old.volumes w) → IsTold (disk_in (set old.volumes v (Some d')) w)
  told_same w told = elim (cases_eq w v) [
    | inl is ↦ subst (λ (n : ℕ). IsTold (disk_in (set old.volumes v (Some d')) n)) (sym is)
        (subst (λ (o : Option Seen). IsTold (disk_of o)) (sym now) (rd.told (subst (λ (n : ℕ). IsTold (disk_in old.volumes n)) is told)))
    | inr ne ↦ subst (λ (o : Option Seen). IsTold (disk_of o)) (sym (others w ne)) told
  ]

  module _ (says : BlockSays) where
    volume_same : (w : ℕ) → volume_by says (set old.volumes v (Some d')) (over_disks old.overs) old.sets w ≡ volume_by says old.volumes (over_disks old.overs) old.sets w
    volume_same w = elim (cases_eq w v) [
      | inl is ↦ subst (λ (n : ℕ). volume_by says (set old.volumes v (Some d')) (over_disks old.overs) old.sets n ≡ volume_by says old.volumes (over_disks old.overs) old.sets n) (sym is)
          (ap (λ (o : Option Seen). option_map (λ disk. picked says (over_disks old.overs) old.sets v (shown disk)) o) now
          ∙ ap (λ (image : Image). Some (picked says (over_disks old.overs) old.sets v image)) shown_same
          ∙ sym (ap (λ (o : Option Seen). option_map (λ disk. picked says (over_disks old.overs) old.sets v (shown disk)) o) (some_is (get_or old.volumes v None) seat)))
      | inr ne ↦ ap (λ (o : Option Seen). option_map (λ disk. picked says (over_disks old.overs) old.sets w (shown disk)) o) (others w ne)
    ]

    group_same : group_by says (set old.volumes v (Some d')) (over_disks old.overs) old.sets ≡ group_by says old.volumes (over_disks old.overs) old.sets
    group_same = λ p. record {
      volumes = (ap (λ (n : ℕ). map (λ w. volume_by says (set old.volumes v (Some d')) (over_disks old.overs) old.sets w) (range_with_len 0 n)) (length-set old.volumes v (Some d'))
          ∙ same_row None (length old.volumes) _ _ (λ w l. volume_same w)) p;
      overs = map (λ o. over_by says (over_disks old.overs) old.sets o) (range_with_len 0 (length (over_disks old.overs)));
      sets = keeps_all (λ t. is_enabled says t) (λ t. set_by says old.volumes (over_disks old.overs) t) (λ t. set_by says (set old.volumes v (Some d')) (over_disks old.overs) t) old.sets
          (λ j lt live. ap (λ (image : Image). state_of (set_of old.sets j) (slot_of says (set_of old.sets j)) (read says (over_disks old.overs) (set_of old.sets j)) image (behind_of (set_of old.sets j))) (image_same (set_of old.sets j).master)) p;
      note = says.note;
      sequence = says.sequence;
    }

    whole_same : AreWhole says old.volumes (over_disks old.overs) old.sets → AreWhole says (set old.volumes v (Some d')) (over_disks old.overs) old.sets
    whole_same w = record {
      volumes_told = λ n. told_same n (w.volumes_told n);
      overs_told = w.overs_told;
      each = λ k lt.
          let was = w.each k lt in
          record {
            shadow = was.shadow;
            bitmap = was.bitmap;
            kind = was.kind;
            off = was.off;
            placed = was.placed;
            alike = λ live on. subst (λ (image : Image). IsAlike (read says (over_disks old.overs) (set_of old.sets k)) image) (sym (image_same (set_of old.sets k).master)) (was.alike live on);
          };
      apart = w.apart;
      slots_apart = w.slots_apart;
    }

  abbrev new : Group
  new = with_volume_disk old v d'

  among : AreAmong {N = Unit {0}} (λ n. disk_in old.volumes v) (λ n. d') (disk_at (group_of old)) (disk_at (group_of new)) (λ n. VolumeDisk v)
  among = record { was = λ n. refl; now = λ n. ap (λ (o : Option Seen). disk_of o) now; others = other }
    where
      other : (m : GroupSpot) → (Unit {0} × (m ≡ VolumeDisk v)) ⊎ (disk_at (group_of new) m ≡ disk_at (group_of old) m)
      other StateDisk = inr refl
      other (VolumeDisk w) = elim (cases_eq w v) [
        | inl is ↦ inl (tt, ap (λ (n : ℕ). VolumeDisk n) is)
        | inr ne ↦ inr (ap (λ (o : Option Seen). disk_of o) (others w ne))
      ]
      other (ShadowDisk slot) = inr refl
      other (BitmapDisk slot) = inr refl
      other (OverDisk o) = inr refl

  one_goes : AllGoOn {N = Unit {0}} (λ n. disk_in old.volumes v) r (λ n. d')
  one_goes = record {
    lasts = λ n. rd.goes.lasts;
    done = on_ok_weaker r (λ spared n. spared) rd.goes.done;
    failed = on_err_weaker r (λ fails. record { name = tt; failed = fails; others = λ other ne. absurd (ne refl) }) rd.goes.failed;
  }

  step_same : IsInStep (group_of old) → IsInStep (group_of new)
  step_same i = record { block = i.block; each = i.each }

  disk_goes : Goes (group_of old) [] r (group_of new)
  disk_goes = record {
    stays = record { volumes = length-set old.volumes v (Some d'); overs = refl; sets = refl; each = λ k lt. same_set (set_of old.sets k) };
    disks = all_among (λ n. disk_in old.volumes v) (λ n. d') (disk_at (group_of old)) (disk_at (group_of new)) (λ n. VolumeDisk v) among r one_goes;
    whole = λ w i. record { state = w.state; disks = whole_same (group_of old).says w.disks };
    step = λ w i. always r (step_same i);
    done = λ w i. always r (group_same (group_of old).says);
    stopped = λ w i. failed r (group_same (group_of old).says);
  }
    where
      always : {X : Type 0} (r : Result T E) → X → OnOk r X
      always (Ok x) is = is
      always (Err e) is = tt

      failed : {X : Type 0} (r : Result T E) → X → OnErr r X
      failed (Ok x) is = tt
      failed (Err e) is = is

  same_disk : OnOk r (d' ≡ disk_in old.volumes v)
  same_disk = on_ok_weaker r (λ spared. rd.rest ∙ (λ p. record (disk_in old.volumes v) { faults = spared.faults p })) rd.goes.done

  pub reads_disk : ReadsDisk old v at out r new
  reads_disk = record {
    reads = record {
      does = record { goes = disk_goes; labels = record { each = label }; state = λ is. is };
      same = on_ok_weaker r (λ is. (λ p. record old { volumes = (ap (λ (d : Seen). set old.volumes v (Some d)) is ∙ ap (λ (o : Option Seen). set old.volumes v o) (sym (some_is (get_or old.volumes v None) seat)) ∙ set-get_or old.volumes v None) p })) same_disk;
      state = refl;
      step = step_same;
    };
    shows = λ w i. on_ok_weaker r (λ is. is ∙ ap (λ (image : Image). range image at (length out / 512)) (sym (shown_told (disk_in old.volumes v) (w.disks.volumes_told v)))) (rd.shows (w.disks.volumes_told v));
  }
    where
      label : (spot : GroupSpot) → is_labelled spot ≡ true → IsTold (disk_at (group_of old) spot) → block_at (disk_at (group_of new) spot).image 0 ≡ block_at (disk_at (group_of old) spot).image 0
      label StateDisk is told = refl
      label (VolumeDisk w) is told = absurd (never is)
        where
          never : false ≡ true → ⊥
          never e = cc
      label (ShadowDisk slot) is told = refl
      label (BitmapDisk slot) is told = refl
      label (OverDisk o) is told = refl

  pub disk_kept : IsKeptGroup new
  disk_kept = record {
    kept = record {
      few = inv.kept.few;
      held = λ k lt. let h = inv.kept.held k lt in record { slot = h.slot; master = seat_same (set_of old.sets k).master h.master; blocks = size_same (set_of old.sets k).master ∙ h.blocks; over = h.over };
      distinct = inv.kept.distinct;
    };
    here = inv.here;
    slots = record { owned = λ over. record { ends = (inv.slots.owned over).ends; owned = (inv.slots.owned over).owned }; served = inv.slots.served };
    count = omega (arith, inv.count, length-set old.volumes v (Some d'));
  }
    where
      seat_same : (w : ℕ) → IsTrue (is_some (get_or old.volumes w None)) → IsTrue (is_some (get_or (set old.volumes v (Some d')) w None))
      seat_same w is = elim (cases_eq w v) [
        | inl same ↦ subst (λ (n : ℕ). IsTrue (is_some (get_or (set old.volumes v (Some d')) n None))) (sym same) (ap (λ (o : Option Seen). is_some o) now)
        | inr ne ↦ ap (λ (o : Option Seen). is_some o) (others w ne) ∙ is
      ]

      size_same : (w : ℕ) → (disk_in (set old.volumes v (Some d')) w).size ≡ (disk_in old.volumes w).size
      size_same w = elim (cases_eq w v) [
        | inl same ↦ subst (λ (n : ℕ). (disk_in (set old.volumes v (Some d')) n).size ≡ (disk_in old.volumes n).size) (sym same) (ap (λ (o : Option Seen). (disk_of o).size) now ∙ rd.goes.lasts.size)
        | inr ne ↦ ap (λ (o : Option Seen). (disk_of o).size) (others w ne)
      ]

-- ---- the block that is picked

module _ (old : Group) (inv : IsKeptGroup old) (v : ℕ) (seat : IsTrue (is_some (get_or old.volumes v None))) (at n : ℕ) (inside : at + n ≤ (disk_in old.volumes v).size) (one : IsOneChunk at n)
    (w : IsWhole (group_of old)) (i : IsInStep (group_of old)) where
  long : length (image_in old.volumes v) ≡ (disk_in old.volumes v).size
  long = ap (λ (image : Image). length image) (shown_told (disk_in old.volumes v) (w.disks.volumes_told v)) ∙ w.disks.volumes_told v

  volume_is : volume_image (meaning (group_of old)) v ≡ picked (group_of old).says (over_disks old.overs) old.sets v (image_in old.volumes v)
  volume_is = ap (λ (image : Option Image). unwrap_or image [])
      (get_or-map-range_with_len (λ x. volume_by (group_of old).says old.volumes (over_disks old.overs) old.sets x) 0 (length old.volumes) v v None (there_lt old.volumes v seat) (omega arith)
      ∙ ap (λ (o : Option Seen). option_map (λ disk. picked (group_of old).says (over_disks old.overs) old.sets v (shown disk)) o) (some_is (get_or old.volumes v None) seat))

  block_is : (j : ℕ) → j < n → block_at (volume_image (meaning (group_of old)) v) (at + j) ≡ pick (group_of old).says (over_disks old.overs) old.sets v (at + j) (block_at (image_in old.volumes v) (at + j))
  block_is j lt = ap (λ (image : Image). block_at image (at + j)) volume_is
      ∙ block_at-tabulate (length (image_in old.volumes v)) (λ x. pick (group_of old).says (over_disks old.overs) old.sets v x (block_at (image_in old.volumes v) x)) (at + j) (omega (arith, lt, inside, long))

  -- of a set of the volume, the chunk of the range is one of it, and its state in memory is the one on the disk
  chunk_lt : (k : ℕ) → k < length old.sets → (set_of old.sets k).master ≡ v → 0 < n → at / 64 < chunks_of (set_of old.sets k)
  chunk_lt k lt is some =
      let blocks : (disk_in old.volumes v).size ≡ (set_of old.sets k).size.blocks = ap (λ (x : ℕ). (disk_in old.volumes x).size) (sym is) ∙ (inv.kept.held k lt).blocks in
      omega (arith, some, inside, blocks)

  by_disk : (k : ℕ) → k < length old.sets → is_enabled (group_of old).says (set_of old.sets k) ≡ true → (c : ℕ) → c < chunks_of (set_of old.sets k) → (set_of old.sets k).memory.state c ≡ (chunks_by (group_of old).says (set_of old.sets k)).state c
  by_disk k lt live c l =
      let step = subst (λ (b : BlockSays). IsStep b (set_of old.sets k)) i.block (i.each k lt) in
      (step.chunks live).state c l ∙ ap (λ (b : Bool). ((set_of old.sets k).area b).state c) (step.area live)

  memory_live : (k : ℕ) → is_enabled (group_of old).says (set_of old.sets k) ≡ true → is_enabled (group_of old).memory (set_of old.sets k) ≡ true
  memory_live k live = ap (λ (b : BlockSays). is_enabled b (set_of old.sets k)) i.block ∙ live

  -- no set has it there alone
  pub from_disk : NoSource (group_of old) v (at / 64) → range (volume_image (meaning (group_of old)) v) at n ≡ range (image_in old.volumes v) at n
  from_disk none = same_ranges _ _ at at n (λ j lt. block_is j lt ∙ pick_none (group_of old).says (over_disks old.overs) old.sets v (at + j) (block_at (image_in old.volumes v) (at + j))
      (λ k lk. none_back (group_of old).says (set_of old.sets k) v (at + j) (λ live is three.
      never (sym (none.each k lk) ∙ all_true (is_enabled (group_of old).memory (set_of old.sets k)) (eqb (set_of old.sets k).master v) (eqb ((set_of old.sets k).memory.state (at / 64)) 3) (memory_live k live) (eq-eqb (set_of old.sets k).master v is)
      (eq-eqb ((set_of old.sets k).memory.state (at / 64)) 3 (by_disk k lk live (at / 64) (chunk_lt k lk is (omega (arith, lt)))
      ∙ ap (λ (c : ℕ). (chunks_by (group_of old).says (set_of old.sets k)).state c) (sym (one.each j lt)) ∙ three))))))
    where
      never : false ≡ true → ⊥
      never e = cc

      all_true : (a b c : Bool) → a ≡ true → b ≡ true → c ≡ true → (a && (b && c)) ≡ true
      all_true a b c x y z = λ p. x p && (y p && z p)

  -- a set has it there alone
  pub from_set : (k : ℕ) → k < length old.sets → is_source (group_of old).memory v (at / 64) (set_of old.sets k) ≡ true
      → range (volume_image (meaning (group_of old)) v) at n
      ≡ range (shadow_over (read (group_of old).says (group_of old).overs (set_of old.sets k)) (image_in old.volumes (set_of old.sets k).master)) at n
  from_set k lk source = same_ranges _ _ at at n (λ j lt. block_is j lt
      ∙ pick_own (group_of old).says (over_disks old.overs) old.sets v (at + j) (block_at (image_in old.volumes v) (at + j)) k lk (λ x lx ne. none_back (group_of old).says (set_of old.sets x) v (at + j) (λ live' is' three'.
      (w.disks.apart k x lk lx (λ e. ne (sym e))).alone live live' (is ∙ sym is') (at / 64) (chunk_lt k lk is (omega (arith, lt))) (three (omega (arith, lt)))
      (ap (λ (c : ℕ). (chunks_by (group_of old).says (set_of old.sets x)).state c) (sym (one.each j lt)) ∙ three')))
      ∙ ap (λ (b : Bool). cond b ((read (group_of old).says (over_disks old.overs) (set_of old.sets k)).stands (at + j)) (block_at (image_in old.volumes v) (at + j)))
      (λ p. live p && (eq-eqb (set_of old.sets k).master v is p && eq-eqb ((chunks_by (group_of old).says (set_of old.sets k)).state ((at + j) / 64)) 3 (three_at j lt) p))
      ∙ sym (block_at-tabulate (set_of old.sets k).size.blocks (λ x. shadow_block (read (group_of old).says (over_disks old.overs) (set_of old.sets k)) (image_in old.volumes (set_of old.sets k).master) x) (at + j) (fits j lt)
      ∙ ap (λ (b : Bool). cond b (block_at (image_in old.volumes (set_of old.sets k).master) (at + j)) ((read (group_of old).says (over_disks old.overs) (set_of old.sets k)).stands (at + j)))
      (ne_eqb ((chunks_by (group_of old).says (set_of old.sets k)).state ((at + j) / 64)) 0 (λ zero_is. three_zero _ (three_at j lt) zero_is))))
    where
      parts : (is_enabled (group_of old).memory (set_of old.sets k) ≡ true) × ((eqb (set_of old.sets k).master v && eqb ((set_of old.sets k).memory.state (at / 64)) 3) ≡ true)
      parts = both (is_enabled (group_of old).memory (set_of old.sets k)) (eqb (set_of old.sets k).master v && eqb ((set_of old.sets k).memory.state (at / 64)) 3) source

      live : is_enabled (group_of old).says (set_of old.sets k) ≡ true
      live = subst (λ (b : BlockSays). is_enabled b (set_of old.sets k) ≡ true) i.block parts.0

      rest : (eqb (set_of old.sets k).master v ≡ true) × (eqb ((set_of old.sets k).memory.state (at / 64)) 3 ≡ true)
      rest = both (eqb (set_of old.sets k).master v) (eqb ((set_of old.sets k).memory.state (at / 64)) 3) parts.1

      is : (set_of old.sets k).master ≡ v
      is = eqb-true (set_of old.sets k).master v rest.0

      three : 0 < n → (chunks_by (group_of old).says (set_of old.sets k)).state (at / 64) ≡ 3
      three some = sym (by_disk k lk live (at / 64) (chunk_lt k lk is some)) ∙ eqb-true ((set_of old.sets k).memory.state (at / 64)) 3 rest.1

      three_at : (j : ℕ) → j < n → (chunks_by (group_of old).says (set_of old.sets k)).state ((at + j) / 64) ≡ 3
      three_at j lt = ap (λ (c : ℕ). (chunks_by (group_of old).says (set_of old.sets k)).state c) (one.each j lt) ∙ three (omega (arith, lt))

      fits : (j : ℕ) → j < n → at + j < (set_of old.sets k).size.blocks
      fits j lt =
          let blocks : (disk_in old.volumes v).size ≡ (set_of old.sets k).size.blocks = ap (λ (x : ℕ). (disk_in old.volumes x).size) (sym is) ∙ (inv.kept.held k lk).blocks in
          omega (arith, lt, inside, blocks)

      three_zero : (x : ℕ) → x ≡ 3 → x ≡ 0 → ⊥
      three_zero x a b = omega (arith, a, b)

-- ---- blocks of one chunk

-- none of the sets below a place has a chunk of a volume on its shadow alone
pub record NoneBack (g : GroupSeen) (v chunk place : ℕ) : Type 0 where
  pub each : (k : ℕ) → k < place → is_source g.memory v chunk (set_of g.sets k) ≡ false

pub no_source : (g : GroupSeen) (v chunk place : ℕ) → length g.sets ≤ place → NoneBack g v chunk place → NoSource g v chunk
no_source g v chunk place all none = record { each = λ k lt. none.each k (omega (arith, lt, all)) }

module _ (old : Group) (inv : IsKeptGroup old) (v at n : ℕ) (range_of : IsVolumeRange old v at (512 * n)) (one : IsOneChunk at n) where
  inside : at + n ≤ (disk_in old.volumes v).size
  inside = subst (λ (k : ℕ). at + k ≤ (disk_in old.volumes v).size) (blocks n) range_of.inside
    where
      blocks : (n : ℕ) → 512 * n / 512 ≡ n
      blocks n = omega arith

  pub chunk_from_disk : (new : Group) (out : List ℕ) {T E : Type 0} (r : Result T E) → length out ≡ 512 * n → NoSource (group_of old) v (at / 64) → ReadsDisk old v at out r new
      → ReadsImage (λ group. volume_image group v) old at out r new
  chunk_from_disk new out r long none a = record {
    reads = a.reads;
    shows = λ w i. on_ok_weaker r (λ is. is ∙ sym (subst (λ (k : ℕ). range (volume_image (meaning (group_of old)) v) at k ≡ range (image_in old.volumes v) at k) (sym (blocks long))
        (from_disk old inv v range_of.there at n inside one w i none))) (a.shows w i);
  }
    where
      blocks : length out ≡ 512 * n → length out / 512 ≡ n
      blocks long = omega (arith, long)

  module _ (k : ℕ) (lk : k < length old.sets) (source : is_source (group_of old).memory v (at / 64) (set_of old.sets k) ≡ true) where
    pub source_live : is_enabled (group_of old).memory (set_of old.sets k) ≡ true
    source_live = (both (is_enabled (group_of old).memory (set_of old.sets k)) (eqb (set_of old.sets k).master v && eqb ((set_of old.sets k).memory.state (at / 64)) 3) source).0

    facts : (eqb (set_of old.sets k).master v ≡ true) × (eqb ((set_of old.sets k).memory.state (at / 64)) 3 ≡ true)
    facts = both (eqb (set_of old.sets k).master v) (eqb ((set_of old.sets k).memory.state (at / 64)) 3)
        (both (is_enabled (group_of old).memory (set_of old.sets k)) (eqb (set_of old.sets k).master v && eqb ((set_of old.sets k).memory.state (at / 64)) 3) source).1

    size_is : (disk_in old.volumes v).size ≡ (set_of old.sets k).size.blocks
    size_is = ap (λ (x : ℕ). (disk_in old.volumes x).size) (sym (eqb-true (set_of old.sets k).master v facts.0)) ∙ (inv.kept.held k lk).blocks

    pub source_inside : at + n ≤ (set_of old.sets k).size.blocks
    source_inside = subst (λ (x : ℕ). at + n ≤ x) size_is inside

    pub source_there : 0 < n → IsTrue (is_some (set_of old.sets k).shadow)
    source_there some = go (is_away (group_of old).memory (set_of old.sets k)) refl
      where
        go : (b : Bool) → is_away (group_of old).memory (set_of old.sets k) ≡ b → IsTrue (is_some (set_of old.sets k).shadow)
        go false is = (inv.here.each k lk).there is
        go true is = absurd ((((inv.here.each k lk).settled is).each (at / 64) (omega (arith, some, source_inside))).1 (eqb-true ((set_of old.sets k).memory.state (at / 64)) 3 facts.1))

    pub chunk_from_set : (new : Group) (out : List ℕ) {T E : Type 0} (r : Result T E) → length out ≡ 512 * n → ReadsSet old k at out r new → ReadsImage (λ group. volume_image group v) old at out r new
    chunk_from_set new out r long a = record {
      reads = a.reads;
      shows = λ w i. on_ok_weaker r (λ is. is ∙ sym (subst (λ (x : ℕ). range (volume_image (meaning (group_of old)) v) at x
          ≡ range (shadow_over (read (group_of old).says (group_of old).overs (set_of old.sets k)) (image_in old.volumes (set_of old.sets k).master)) at x) (sym (blocks long))
          (from_set old inv v range_of.there at n inside one w i k lk source))) (a.shows w i);
    }
      where
        blocks : length out ≡ 512 * n → length out / 512 ≡ n
        blocks long = omega (arith, long)

-- ---- nothing is left to read

pub reads_nothing : (image : GroupState → Image) (old : Group) (at : ℕ) (out : List ℕ) → (IsWhole (group_of old) → IsInStep (group_of old) → blocks_of out ≡ range (image (meaning (group_of old))) at (length out / 512))
    → ReadsImage {T = Unit {0}} {E = Failed} image old at out (Ok tt) old
reads_nothing image old at out shows = record {
  reads = record {
    does = record { goes = goes_nothing (group_of old) tt; labels = labels_none (group_of old); state = λ is. is };
    same = refl;
    state = refl;
    step = λ i. i;
  };
  shows = shows;
}
