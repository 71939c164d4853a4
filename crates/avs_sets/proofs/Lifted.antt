-- A call on one set, its master's disk and its overflow volume, lifted to the group.
use Rattle.std.proofs.Common.{◌≡◌, ◌≢◌, ◌⊎◌, inl, inr, ℕ, ◌<◌, Bool, true, false, ◌&&◌, IsTrue, Option, None, Some, is_some, List, length, map, set, get_or, Result, ◌∙◌, sym, refl, ap, subst, arith}
use Rattle.std.specs.Option.{option_map}
use Rattle.std.proofs.lemmas.Bool.{cases_eq}
use Rattle.std.proofs.lemmas.List.{get_or-set_same, get_or-set_other, length-set, length-map, map-set, get_or_past}
use Rattle.avs_seg.specs.Image.{Image, block_at}
use Rattle.avs_dev.specs.Seen.{Seen, IsTold, shown}
use Rattle.avs_dev.specs.Devices.{AllGoOn}
use Rattle.avs_dev.proofs.Going.{shown_told}
use Rattle.avs_model.specs.ShadowSets.{SetSize, ShadowState, is_online, is_offline, is_exported, is_compact}
use Rattle.avs_model.specs.Room.{over_slots}
use Rattle.avs_model.specs.GroupWork.{GroupSpot, StateDisk, VolumeDisk, ShadowDisk, BitmapDisk, OverDisk}
use Rattle.avs_sets.specs.Sets.{SetSeen, no_set, chunks_of, shadow_disk, disk_of, SetRead, read_from, KeepsMaster, IsAlike}
use Rattle.avs_sets.specs.Meaning.{GroupSeen, set_of, set_in, disk_in, disk_at, image_in, over_disk, over_image, slot_of, is_enabled, chunks_by, read, behind_of, state_of, set_by, group_by}
use Rattle.avs_sets.specs.Whole.{IsApart, IsFree, IsWholeSet, AreWhole, AreSame, IsStep, is_away, IsHeld, IsKept, IsHere, AreHere}
use Rattle.avs_sets.specs.Goes.{IsSameSet, Stays, is_labelled, KeepsLabels}
use Rattle.avs_sets.specs.Steps.{SetSpot, OfMaster, OfShadow, OfBitmap, OfOver, set_disks, OnlyDisk, read_over, IsKnown, KeepsSet, KeepsRead, KeepsRest}
use Rattle.avs_sets.proofs.Lists.{changed_at}
use Rattle.avs_sets.proofs.Lift.{AllStill, Moves, group_moves, whole_moves}
use Rattle.avs_sets.proofs.Places.{OversStay, all_still, still_apart}
use Rattle.avs_sets.proofs.Spots.{AreAmong, all_among, set_in_own, set_in_now, set_in_other}
use Rattle.avs_sets.proofs.Chains.{same_set}

-- ---- disks of which at most one changes

pub some_is : (o : Option Seen) → IsTrue (is_some o) → o ≡ Some (disk_of o)
some_is None is = elim (never is) [ ]
  where
    never : false ≡ true → ⊥
    never is = cc
some_is (Some d) is = refl

pub only_none : (D : List (Option Seen)) → OnlyDisk D D None
only_none D = record { long = refl; others = λ n ne. refl; seat = λ n is. elim (never n is) [ ] }
  where
    never : (n : ℕ) → None ≡ Some n → ⊥
    never n is = cc

pub number_is : (a b : ℕ) → Some a ≡ Some b → a ≡ b
number_is a b e = cc

pub only_set : (D : List (Option Seen)) (at : ℕ) (d : Seen) → at < length D → OnlyDisk D (set D at (Some d)) (Some at)
only_set D at d lt = record {
  long = length-set D at (Some d);
  others = λ n ne. get_or-set_other D at n (Some d) None (λ e. ne (ap (λ (k : ℕ). Some k) e));
  seat = λ n is. subst (λ (k : ℕ). IsTrue (is_some (get_or (set D at (Some d)) k None))) (number_is at n is) (ap (λ (o : Option Seen). is_some o) (get_or-set_same D at (Some d) None lt));
}

-- of disks themselves, where one is put in the place of another
pub only_seen : {D : Type 0} (seen : D → Seen) (V : List (Option D)) (at : ℕ) (d : D) → at < length V
    → OnlyDisk (map (λ v. option_map seen v) V) (map (λ v. option_map seen v) (set V at (Some d))) (Some at)
only_seen seen V at d lt = subst (λ (l : List (Option Seen)). OnlyDisk (map (λ v. option_map seen v) V) l (Some at)) (sym (map-set (λ v. option_map seen v) V at (Some d)))
    (only_set (map (λ v. option_map seen v) V) at (seen d) (omega (arith, lt, length-map V (λ v. option_map seen v))))

-- the number of the disk, where there is one
abbrev pub number_in : List (Option Seen) → Option ℕ → ℕ
number_in D None = length D
number_in D (Some n) = n

module _ (D D' : List (Option Seen)) where
  pub disk_was : (at : Option ℕ) → disk_in D (number_in D at) ≡ over_disk D at
  disk_was None = ap (λ (o : Option Seen). disk_of o) (get_or_past D (length D) None (omega arith))
  disk_was (Some n) = refl

  pub disk_now : (at : Option ℕ) → OnlyDisk D D' at → disk_in D' (number_in D at) ≡ over_disk D' at
  disk_now None only = ap (λ (o : Option Seen). disk_of o) (get_or_past D' (length D) None (omega (arith, only.long)))
  disk_now (Some n) only = refl

  pub disk_other : (at : Option ℕ) → OnlyDisk D D' at → (n : ℕ) → (n ≡ number_in D at) ⊎ (disk_in D' n ≡ disk_in D n)
  disk_other None only n = inr (ap (λ (o : Option Seen). disk_of o) (only.others n (λ e. never n e)))
    where
      never : (n : ℕ) → Some n ≡ None → ⊥
      never n e = cc
  disk_other (Some k) only n = elim (cases_eq n k) [
    | inl same ↦ inl same
    | inr ne ↦ inr (ap (λ (o : Option Seen). disk_of o) (only.others n (λ e. ne (number_is n k e))))
  ]

  -- what is there stays there
  pub seat_kept : (at : Option ℕ) → OnlyDisk D D' at → (n : ℕ) → IsTrue (is_some (get_or D n None)) → IsTrue (is_some (get_or D' n None))
  seat_kept None only n is = ap (λ (o : Option Seen). is_some o) (only.others n (λ e. never n e)) ∙ is
    where
      never : (n : ℕ) → Some n ≡ None → ⊥
      never n e = cc
  seat_kept (Some k) only n is = elim (cases_eq n k) [
    | inl same ↦ only.seat n (ap (λ (x : ℕ). Some x) (sym same))
    | inr ne ↦ ap (λ (o : Option Seen). is_some o) (only.others n (λ e. ne (number_is n k e))) ∙ is
  ]

  -- and with it its room
  pub rooms : (at : Option ℕ) → OnlyDisk D D' at → ((n : ℕ) → at ≡ Some n → IsTrue (is_some (get_or D n None))) → (over_disk D' at).size ≡ (over_disk D at).size
      → (n : ℕ) → option_map (λ d. over_slots d.size) (get_or D' n None) ≡ option_map (λ d. over_slots d.size) (get_or D n None)
  rooms None only held size n = ap (λ (o : Option Seen). option_map (λ d. over_slots d.size) o) (only.others n (λ e. never n e))
    where
      never : (n : ℕ) → Some n ≡ None → ⊥
      never n e = cc
  rooms (Some k) only held size n = elim (cases_eq n k) [
    | inr ne ↦ ap (λ (o : Option Seen). option_map (λ d. over_slots d.size) o) (only.others n (λ e. ne (number_is n k e)))
    | inl same ↦ subst (λ (x : ℕ). option_map (λ d. over_slots d.size) (get_or D' x None) ≡ option_map (λ d. over_slots d.size) (get_or D x None)) (sym same)
        (ap (λ (o : Option Seen). option_map (λ d. over_slots d.size) o) (some_is (get_or D' k None) (only.seat k refl))
        ∙ ap (λ (x : ℕ). Some (over_slots x)) size
        ∙ sym (ap (λ (o : Option Seen). option_map (λ d. over_slots d.size) o) (some_is (get_or D k None) (held k refl))))
  ]

-- ---- the group behind the call

abbrev pub with_step : GroupSeen → List (Option Seen) → List (Option Seen) → ℕ → SetSeen → GroupSeen
with_step g V' O' k s' = record g { volumes = V'; overs = O'; sets = set g.sets k s' }

module _ (g : GroupSeen) (inv : IsKept g.volumes g.overs g.sets) (k : ℕ) (lt : k < length g.sets) (s' : SetSeen) (V' O' : List (Option Seen))
    (only_v : OnlyDisk g.volumes V' (Some (set_of g.sets k).master)) (only_o : OnlyDisk g.overs O' (set_of g.sets k).over) (mine : ℕ → Type 0)
    {T E : Type 0} (r : Result T E)
    (st : KeepsSet g.says mine (set_of g.sets k) (disk_in g.volumes (set_of g.sets k).master) (over_disk g.overs (set_of g.sets k).over) r s' (disk_in V' (set_of g.sets k).master) (over_disk O' (set_of g.sets k).over)) where
  held : IsHeld g.volumes g.overs (set_of g.sets k)
  held = inv.held k lt

  here : set_of (set g.sets k s') k ≡ s'
  here = get_or-set_same g.sets k s' no_set lt

  there : (j : ℕ) → j ≢ k → set_of (set g.sets k s') j ≡ set_of g.sets j
  there j ne = get_or-set_other g.sets k j s' no_set ne

  own_slot : (j : ℕ) → j < length g.sets → (set_of g.sets j).slot ≡ (set_of g.sets k).slot → j ≡ k
  own_slot j l same = inv.distinct j k l lt same

  -- the shape
  pub stays : Stays g (with_step g V' O' k s')
  stays = record { volumes = only_v.long; overs = only_o.long; sets = length-set g.sets k s'; each = λ j l. each j }
    where
      each : (j : ℕ) → IsSameSet (set_of g.sets j) (set_of (set g.sets k s') j)
      each j = elim (cases_eq j k) [
        | inl same ↦ subst (λ (x : ℕ). IsSameSet (set_of g.sets x) (set_of (set g.sets k s') x)) (sym same) (subst (λ (t : SetSeen). IsSameSet (set_of g.sets k) t) (sym here) st.same)
        | inr ne ↦ subst (λ (t : SetSeen). IsSameSet (set_of g.sets j) t) (sym (there j ne)) (same_set (set_of g.sets j))
      ]

  -- the disks
  abbrev spot_of : SetSpot → GroupSpot
  spot_of OfMaster = VolumeDisk (set_of g.sets k).master
  spot_of OfShadow = ShadowDisk (set_of g.sets k).slot
  spot_of OfBitmap = BitmapDisk (set_of g.sets k).slot
  spot_of OfOver = OverDisk (number_in g.overs (set_of g.sets k).over)

  among : AreAmong (set_disks (disk_in g.volumes (set_of g.sets k).master) (set_of g.sets k) (over_disk g.overs (set_of g.sets k).over)) (set_disks (disk_in V' (set_of g.sets k).master) s' (over_disk O' (set_of g.sets k).over)) (disk_at g) (disk_at (with_step g V' O' k s')) spot_of
  among = record { was = was; now = now; others = others }
    where
      was : (n : SetSpot) → disk_at g (spot_of n) ≡ set_disks (disk_in g.volumes (set_of g.sets k).master) (set_of g.sets k) (over_disk g.overs (set_of g.sets k).over) n
      was OfMaster = refl
      was OfShadow = ap (λ (t : SetSeen). shadow_disk t) (set_in_own g.sets k lt own_slot)
      was OfBitmap = ap (λ (t : SetSeen). t.bitmap) (set_in_own g.sets k lt own_slot)
      was OfOver = disk_was g.overs O' (set_of g.sets k).over

      now : (n : SetSpot) → disk_at (with_step g V' O' k s') (spot_of n) ≡ set_disks (disk_in V' (set_of g.sets k).master) s' (over_disk O' (set_of g.sets k).over) n
      now OfMaster = refl
      now OfShadow = ap (λ (t : SetSeen). shadow_disk t) (set_in_now g.sets k s' lt st.same.slot own_slot)
      now OfBitmap = ap (λ (t : SetSeen). t.bitmap) (set_in_now g.sets k s' lt st.same.slot own_slot)
      now OfOver = disk_now g.overs O' (set_of g.sets k).over only_o

      others : (m : GroupSpot) → ((n : SetSpot) × (m ≡ spot_of n)) ⊎ (disk_at (with_step g V' O' k s') m ≡ disk_at g m)
      others StateDisk = inr refl
      others (VolumeDisk v) = elim (disk_other g.volumes V' (Some (set_of g.sets k).master) only_v v) [
        | inl same ↦ inl (OfMaster, ap (λ (x : ℕ). VolumeDisk x) same)
        | inr is ↦ inr is
      ]
      others (ShadowDisk slot) = elim (cases_eq slot (set_of g.sets k).slot) [
        | inl same ↦ inl (OfShadow, ap (λ (x : ℕ). ShadowDisk x) same)
        | inr ne ↦ inr (ap (λ (t : SetSeen). shadow_disk t) (set_in_other g.sets k s' slot lt st.same.slot ne))
      ]
      others (BitmapDisk slot) = elim (cases_eq slot (set_of g.sets k).slot) [
        | inl same ↦ inl (OfBitmap, ap (λ (x : ℕ). BitmapDisk x) same)
        | inr ne ↦ inr (ap (λ (t : SetSeen). t.bitmap) (set_in_other g.sets k s' slot lt st.same.slot ne))
      ]
      others (OverDisk o) = elim (disk_other g.overs O' (set_of g.sets k).over only_o o) [
        | inl same ↦ inl (OfOver, ap (λ (x : ℕ). OverDisk x) same)
        | inr is ↦ inr is
      ]

  pub disks : AllGoOn (disk_at g) r (disk_at (with_step g V' O' k s'))
  disks = all_among _ _ _ _ spot_of among r st.disks

  -- the labels
  pub labels : KeepsRest (set_of g.sets k) (over_disk g.overs (set_of g.sets k).over) s' (over_disk O' (set_of g.sets k).over) → KeepsLabels g (with_step g V' O' k s')
  labels kr = record { each = go }
    where
      never : false ≡ true → ⊥
      never e = cc

      bitmap_of : (t u : SetSeen) → t ≡ u → IsTold t.bitmap → IsTold u.bitmap
      bitmap_of t u is told = subst (λ (x : SetSeen). IsTold x.bitmap) is told

      own_bitmap : IsTold (set_in g.sets (set_of g.sets k).slot).bitmap → block_at (set_in (set g.sets k s') (set_of g.sets k).slot).bitmap.image 0 ≡ block_at (set_in g.sets (set_of g.sets k).slot).bitmap.image 0
      own_bitmap told =
          let was = set_in_own g.sets k lt own_slot in
          ap (λ (t : SetSeen). block_at t.bitmap.image 0) (set_in_now g.sets k s' lt st.same.slot own_slot)
          ∙ kr.label (bitmap_of _ _ was told)
          ∙ sym (ap (λ (t : SetSeen). block_at t.bitmap.image 0) was)

      own_over : IsTold (disk_in g.overs (number_in g.overs (set_of g.sets k).over)) → block_at (disk_in O' (number_in g.overs (set_of g.sets k).over)).image 0 ≡ block_at (disk_in g.overs (number_in g.overs (set_of g.sets k).over)).image 0
      own_over told =
          let was = disk_was g.overs O' (set_of g.sets k).over in
          ap (λ (d : Seen). block_at d.image 0) (disk_now g.overs O' (set_of g.sets k).over only_o)
          ∙ kr.over_label (subst (λ (d : Seen). IsTold d) was told)
          ∙ sym (ap (λ (d : Seen). block_at d.image 0) was)

      go : (spot : GroupSpot) → is_labelled spot ≡ true → IsTold (disk_at g spot) → block_at (disk_at (with_step g V' O' k s') spot).image 0 ≡ block_at (disk_at g spot).image 0
      go StateDisk is told = refl
      go (VolumeDisk v) is told = absurd (never is)
      go (ShadowDisk slot) is told = absurd (never is)
      go (BitmapDisk slot) is told = elim (cases_eq slot (set_of g.sets k).slot) [
        | inl same ↦ subst (λ (n : ℕ). IsTold (set_in g.sets n).bitmap → block_at (set_in (set g.sets k s') n).bitmap.image 0 ≡ block_at (set_in g.sets n).bitmap.image 0) (sym same) own_bitmap told
        | inr ne ↦ ap (λ (t : SetSeen). block_at t.bitmap.image 0) (set_in_other g.sets k s' slot lt st.same.slot ne)
      ]
      go (OverDisk o) is told = elim (disk_other g.overs O' (set_of g.sets k).over only_o o) [
        | inl same ↦ subst (λ (n : ℕ). IsTold (disk_in g.overs n) → block_at (disk_in O' n).image 0 ≡ block_at (disk_in g.overs n).image 0) (sym same) own_over told
        | inr same ↦ ap (λ (d : Seen). block_at d.image 0) same
      ]

  -- what is kept whatever fails
  pub set_kept : IsKept V' O' (set g.sets k s')
  set_kept = record { few = omega (arith, inv.few, length-set g.sets k s'); held = each; distinct = apart }
    where
      slot_same : (j : ℕ) → (set_of (set g.sets k s') j).slot ≡ (set_of g.sets j).slot
      slot_same j = elim (cases_eq j k) [
        | inl same ↦ subst (λ (x : ℕ). (set_of (set g.sets k s') x).slot ≡ (set_of g.sets x).slot) (sym same) (ap (λ (t : SetSeen). t.slot) here ∙ st.same.slot)
        | inr ne ↦ ap (λ (t : SetSeen). t.slot) (there j ne)
      ]

      other : (t : SetSeen) → IsHeld g.volumes g.overs t → IsHeld V' O' t
      other t h = record {
        slot = h.slot;
        master = seat_kept g.volumes V' (Some (set_of g.sets k).master) only_v t.master h.master;
        blocks = (disks.lasts (VolumeDisk t.master)).size ∙ h.blocks;
        over = λ o is. seat_kept g.overs O' (set_of g.sets k).over only_o o (h.over o is);
      }

      own : IsHeld V' O' s'
      own = let h = other (set_of g.sets k) held in record {
        slot = subst (λ (n : ℕ). n < 16) (sym st.same.slot) h.slot;
        master = subst (λ (v : ℕ). IsTrue (is_some (get_or V' v None))) (sym st.same.master) h.master;
        blocks = ap (λ (v : ℕ). (disk_in V' v).size) st.same.master ∙ h.blocks ∙ sym (ap (λ (s : SetSize). s.blocks) st.same.size);
        over = λ o is. h.over o (sym st.same.over ∙ is);
      }

      each : (j : ℕ) → j < length (set g.sets k s') → IsHeld V' O' (set_of (set g.sets k s') j)
      each j l = elim (cases_eq j k) [
        | inl same ↦ subst (λ (t : SetSeen). IsHeld V' O' t) (sym (ap (λ (x : ℕ). set_of (set g.sets k s') x) same ∙ here)) own
        | inr ne ↦ subst (λ (t : SetSeen). IsHeld V' O' t) (sym (there j ne)) (other (set_of g.sets j) (inv.held j (omega (arith, l, length-set g.sets k s'))))
      ]

      apart : (i j : ℕ) → i < length (set g.sets k s') → j < length (set g.sets k s') → (set_of (set g.sets k s') i).slot ≡ (set_of (set g.sets k s') j).slot → i ≡ j
      apart i j li lj same = inv.distinct i j (omega (arith, li, length-set g.sets k s')) (omega (arith, lj, length-set g.sets k s')) (sym (slot_same i) ∙ same ∙ slot_same j)

  -- and each set has its shadow's disk, or needs it for no chunk
  pub here_kept : KeepsRest (set_of g.sets k) (over_disk g.overs (set_of g.sets k).over) s' (over_disk O' (set_of g.sets k).over) → AreHere g.memory g.sets → AreHere g.memory (set g.sets k s')
  here_kept kr are = record {
    each = λ j l. elim (cases_eq j k) [
      | inl same ↦ subst (λ (t : SetSeen). IsHere g.memory t) (sym (ap (λ (x : ℕ). set_of (set g.sets k s') x) same ∙ here)) own
      | inr ne ↦ subst (λ (t : SetSeen). IsHere g.memory t) (sym (there j ne)) (are.each j (omega (arith, l, length-set g.sets k s')))
    ];
  }
    where
      away_same : is_away g.memory s' ≡ is_away g.memory (set_of g.sets k)
      away_same = ap (λ (n : ℕ). (g.memory.slots n).enabled && is_exported (g.memory.slots n).standing) st.same.slot

      own : IsHere g.memory s'
      own = record {
        there = λ away. subst (λ (b : Bool). IsTrue b) (sym kr.there) ((are.each k lt).there (sym away_same ∙ away));
        settled = λ away. kr.settled ((are.each k lt).settled (sym away_same ∙ away));
      }

  -- ---- what the group stands for

  module _ (live : is_enabled g.says (set_of g.sets k) ≡ true) (w : AreWhole g.says g.volumes g.overs g.sets) (step : IsStep g.says (set_of g.sets k))
      (free : (j : ℕ) → j < length g.sets → j ≢ k → (slot : ℕ) → mine slot → IsFree g.says (set_of g.sets j) (set_of g.sets k).over slot) where
    abbrev master_was : Seen
    master_was = disk_in g.volumes (set_of g.sets k).master

    abbrev master_now : Seen
    master_now = disk_in V' (set_of g.sets k).master

    over_told : (at : Option ℕ) → IsTold (over_disk g.overs at)
    over_told None = refl
    over_told (Some o) = w.overs_told o

    pub known : IsKnown g.says (set_of g.sets k) master_was (over_disk g.overs (set_of g.sets k).over)
    known = record {
      master = w.volumes_told (set_of g.sets k).master;
      shadow = (w.each k lt).shadow;
      bitmap = (w.each k lt).bitmap;
      over_told = over_told (set_of g.sets k).over;
      area = step.area live;
      chunks = subst (λ (b : Bool). AreSame ((set_of g.sets k).area b) (set_of g.sets k).memory (chunks_of (set_of g.sets k))) (step.area live) (step.chunks live);
    }

    reads : KeepsRead g.says mine (set_of g.sets k) master_was (over_disk g.overs (set_of g.sets k).over) s' master_now (over_disk O' (set_of g.sets k).over)
    reads = st.read known

    told_now : IsTold master_now
    told_now = (disks.lasts (VolumeDisk (set_of g.sets k).master)).told (w.volumes_told (set_of g.sets k).master)

    -- what is read of the set over the new disks
    pub read_now : read g.says O' s' ≡ read_over g.says s' (over_disk O' (set_of g.sets k).over)
    read_now = ap (λ (o : Option ℕ). read_from (chunks_by g.says s') s'.size.blocks (shown (shadow_disk s')) (over_image O' o)) st.same.over

    moves : Moves g.says g.volumes V' g.overs O' (set_of g.sets k) s' master_was master_now
    moves = record {
      same = st.same;
      live = live;
      was = some_is _ held.master;
      now = some_is _ (only_v.seat (set_of g.sets k).master refl);
      long = ap (λ (img : Image). length img) (shown_told master_was (w.volumes_told (set_of g.sets k).master)) ∙ w.volumes_told (set_of g.sets k).master ∙ held.blocks;
      still_long = ap (λ (img : Image). length img) (shown_told master_now told_now) ∙ told_now ∙ (disks.lasts (VolumeDisk (set_of g.sets k).master)).size ∙ held.blocks;
      keeps = subst (λ (x : SetRead). KeepsMaster (read g.says g.overs (set_of g.sets k)) (shown master_was) x (shown master_now)) (sym read_now) reads.master;
      elsewhere = record {
        volumes = λ v ne. only_v.others v (λ e. ne (number_is v (set_of g.sets k).master e));
        volumes_long = only_v.long;
        overs = rooms g.overs O' (set_of g.sets k).over only_o held.over (st.disks.lasts OfOver).size;
        overs_long = only_o.long;
      };
    }

    apart : (j : ℕ) → j < length g.sets → j ≢ k → IsApart g.says (set_of g.sets k) (set_of g.sets j)
    apart j l ne = w.apart k j lt l (λ e. ne (sym e))

    stay : OversStay mine g.overs O' (set_of g.sets k).over
    stay = record { others = λ o ne. ap (λ (d : Option Seen). shown (disk_of d)) (only_o.others o ne); slots = reads.slots }

    still : (j : ℕ) → j < length g.sets → j ≢ k → AllStill g.says g.overs O' (set_of g.sets j)
    still j l ne = all_still g.says mine g.overs O' (set_of g.sets k).over stay (set_of g.sets j) (free j l ne)

    fits : (j : ℕ) → j < length g.sets → (set_of g.sets j).master ≡ (set_of g.sets k).master → (set_of g.sets j).size.blocks ≡ (set_of g.sets k).size.blocks
    fits j l same = sym (inv.held j l).blocks ∙ ap (λ (v : ℕ). (disk_in g.volumes v).size) same ∙ held.blocks

    -- the set as a state
    set_now : set_by g.says V' O' s' ≡ state_of s' (slot_of g.says (set_of g.sets k)) (read_over g.says s' (over_disk O' (set_of g.sets k).over)) (shown master_now) (behind_of s')
    set_now = λ p. state_of s' (g.says.slots (st.same.slot p)) (read_now p) (image_in V' (st.same.master p)) (behind_of s')

    -- the group stands for the same, but that the set is changed so
    pub lifts : (change : ShadowState → ShadowState)
        → state_of s' (slot_of g.says (set_of g.sets k)) (read_over g.says s' (over_disk O' (set_of g.sets k).over)) (shown master_now) (behind_of s')
        ≡ change (state_of (set_of g.sets k) (slot_of g.says (set_of g.sets k)) (read_over g.says (set_of g.sets k) (over_disk g.overs (set_of g.sets k).over)) (shown master_was) (behind_of (set_of g.sets k)))
        → group_by g.says V' O' (set g.sets k s') ≡ record (group_by g.says g.volumes g.overs g.sets) { sets = changed_at (set_of g.sets k).slot change (group_by g.says g.volumes g.overs g.sets).sets }
    lifts change own = group_moves g.says g.volumes V' g.overs O' g.sets k lt s' master_was master_now moves apart still fits change (set_now ∙ own) (λ j l ne same. ne (own_slot j l same))

    -- the disks are whole
    pub now_whole : AreWhole g.says V' O' (set g.sets k s')
    now_whole = whole_moves g.says g.volumes V' g.overs O' g.sets k lt s' master_was master_now moves apart still fits w own
        (λ v. (disks.lasts (VolumeDisk v)).told (w.volumes_told v))
        (λ o. (disks.lasts (OverDisk o)).told (w.overs_told o))
        (λ j l ne. still_apart g.says mine (set_of g.sets k) s' (set_of g.sets j) st.same.slot st.same.over reads.takes (free j l ne) (w.slots_apart k j lt l (λ e. ne (sym e))))
      where
        old : IsWholeSet g.says g.volumes g.overs (set_of g.sets k)
        old = w.each k lt

        own : IsWholeSet g.says V' O' s'
        own = record {
          shadow = (st.disks.lasts OfShadow).told old.shadow;
          bitmap = (st.disks.lasts OfBitmap).told old.bitmap;
          kind = λ l. ap (λ (n : ℕ). (g.says.slots n).kind) st.same.slot ∙ old.kind live ∙ sym st.same.kind;
          off = λ l off. ap (λ kind. is_compact kind) st.same.kind ∙ old.off live (ap (λ (n : ℕ). is_offline (g.says.slots n).standing) (sym st.same.slot) ∙ off);
          placed = λ l. reads.placed (old.placed live);
          alike = λ l on. subst (λ (v : ℕ). IsAlike (read g.says O' s') (image_in V' v)) (sym st.same.master)
              (moves.keeps.alike (old.alike live (ap (λ (n : ℕ). is_online (g.says.slots n).standing) (sym st.same.slot) ∙ on)));
        }

    -- and at Ok the memory is in step
    pub now_step : IsKnown g.says s' master_now (over_disk O' (set_of g.sets k).over) → ((j : ℕ) → j < length g.sets → IsStep g.says (set_of g.sets j))
        → (j : ℕ) → j < length (set g.sets k s') → IsStep g.says (set_of (set g.sets k s') j)
    now_step kn steps j l = elim (cases_eq j k) [
      | inl same ↦ subst (λ (t : SetSeen). IsStep g.says t) (sym (ap (λ (x : ℕ). set_of (set g.sets k s') x) same ∙ here))
          (record { area = λ live. kn.area; chunks = λ live. subst (λ (b : Bool). AreSame (s'.area b) s'.memory (chunks_of s')) (sym kn.area) kn.chunks })
      | inr ne ↦ subst (λ (t : SetSeen). IsStep g.says t) (sym (there j ne)) (steps j (omega (arith, l, length-set g.sets k s')))
    ]
