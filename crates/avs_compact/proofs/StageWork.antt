-- What the stages of a group name of a compact set.
use Rattle.std.proofs.Common.{◌≡◌, ◌≢◌, inl, inr, ℕ, ◌+◌, ◌<◌, Bool, true, false, ◌||◌, not, cond, eqb, List, [], ◌∷◌, ◌++◌, Option, None, Some, filter, ◌∙◌, sym, refl, ap, subst, arith}
use Rattle.std.specs.List.{range_with_len, sum_by}
use Rattle.std.specs.Option.{option_map, option_map_or}
use Rattle.std.proofs.lemmas.Bool.{cases_eq, eq-eqb, ne_eqb, eqb-true}
use Rattle.std.proofs.lemmas.List.Sums.{sum_by-cons}
use Rattle.avs_seg.specs.Segment.{seg_len}
use Rattle.avs_model.specs.declared.shadow.Kind.{Kind}
use Rattle.avs_model.specs.ShadowSets.{ChunkList, ShadowState, Standing, Online, is_offline, is_independent}
use Rattle.avs_model.specs.GroupWork.{GroupSpot, VolumeDisk, ShadowDisk, BitmapDisk, OverDisk, Work, on, on_over, on_shadow, is_bare, copy_to_shadow, copy_to_master, mark_work, copy_work, blocks_in, blocks_on_spot}
use Rattle.avs_entries.specs.Entries.{state_by}
use Rattle.avs_entries.proofs.Counted.{cond_not}
use Rattle.avs_compact.specs.CompactSet.{CompactSet, chunks_of, entry_of}
use Rattle.avs_compact.specs.Disks.{CompactDisk, Master, Shadow, Bitmap, Over}
use Rattle.avs_compact.specs.Work.{slot_most, settle_most, save_most, ahead_most}
use Rattle.avs_compact.specs.Working.{IsListed, StandsFor, spot_of}
use Rattle.avs_compact.proofs.Work.{sum_zeros}

-- ---- the disks of a set

no_spot : (spot : GroupSpot) → None ≡ Some spot → ⊥
no_spot spot e = cc

spot_is : (a b : GroupSpot) → Some a ≡ Some b → a ≡ b
spot_is a b e = ap (λ (x : Option GroupSpot). option_map_or (λ y. y) x a) e

abbrev spot_by : ShadowState → Option ℕ → CompactDisk → Option GroupSpot
spot_by set over Master = Some (VolumeDisk set.master)
spot_by set over Shadow = Some (ShadowDisk set.slot)
spot_by set over Bitmap = Some (BitmapDisk set.slot)
spot_by set over Over = option_map OverDisk over

by_is : (set : ShadowState) (d : CompactDisk) → spot_by set set.over d ≡ spot_of set d
by_is set Master = refl
by_is set Shadow = refl
by_is set Bitmap = refl
by_is set Over = refl

-- what is written on each of them
at_spots : (set : ShadowState) (over : Option ℕ) (w : List (Work GroupSpot)) (most : CompactDisk → ℕ) → blocks_on_spot w (VolumeDisk set.master) ≡ most Master → blocks_on_spot w (ShadowDisk set.slot) ≡ most Shadow
    → blocks_on_spot w (BitmapDisk set.slot) ≡ most Bitmap → ((v : ℕ) → over ≡ Some v → blocks_on_spot w (OverDisk v) ≡ most Over) → (d : CompactDisk) (spot : GroupSpot) → spot_by set over d ≡ Some spot → blocks_on_spot w spot ≡ most d
at_spots set over w most m s b o Master spot e = subst (λ (x : GroupSpot). blocks_on_spot w x ≡ most Master) (spot_is (VolumeDisk set.master) spot e) m
at_spots set over w most m s b o Shadow spot e = subst (λ (x : GroupSpot). blocks_on_spot w x ≡ most Shadow) (spot_is (ShadowDisk set.slot) spot e) s
at_spots set over w most m s b o Bitmap spot e = subst (λ (x : GroupSpot). blocks_on_spot w x ≡ most Bitmap) (spot_is (BitmapDisk set.slot) spot e) b
at_spots set None w most m s b o Over spot e = absurd (no_spot spot e)
at_spots set (Some v) w most m s b o Over spot e = subst (λ (x : GroupSpot). blocks_on_spot w x ≡ most Over) (spot_is (OverDisk v) spot e) (o v refl)

-- ---- lists of work

module _ (set : ShadowState) (n : ℕ) where
  mine : (b : ℕ) → eqb b b ≡ true
  mine b = eq-eqb b b refl

  abbrev blocks_where : Bool → GroupSpot → ℕ → ℕ
  blocks_where b spot k = sum_by (λ (one : Work GroupSpot). one.blocks) (cond b (record { disk = spot; blocks = k } ∷ []) [])

  one_is : (spot : GroupSpot) (b k : ℕ) → blocks_where (eqb b b) spot k ≡ k
  one_is spot b k = ap (λ (t : Bool). blocks_where t spot k) (mine b) ∙ (let e : 0 + k ≡ k = omega arith in e)

  to_master : (over : Option ℕ) (d : CompactDisk) (spot : GroupSpot) → spot_by set over d ≡ Some spot → blocks_on_spot (on (VolumeDisk set.master) n ++ on (BitmapDisk set.slot) 1) spot ≡ settle_most 3 n d
  to_master over = at_spots set over (on (VolumeDisk set.master) n ++ on (BitmapDisk set.slot) 1) (settle_most 3 n) (one_is (VolumeDisk set.master) set.master n) refl (one_is (BitmapDisk set.slot) set.slot 1) (λ v e. refl)

  marks : (over : Option ℕ) (d : CompactDisk) (spot : GroupSpot) → spot_by set over d ≡ Some spot → blocks_on_spot (on (BitmapDisk set.slot) 1) spot ≡ settle_most 1 n d
  marks over = at_spots set over (on (BitmapDisk set.slot) 1) (settle_most 1 n) refl refl (one_is (BitmapDisk set.slot) set.slot 1) (λ v e. refl)

  nothing : (over : Option ℕ) (d : CompactDisk) (spot : GroupSpot) → spot_by set over d ≡ Some spot → blocks_on_spot [] spot ≡ save_most 2 n d
  nothing over = at_spots set over [] (save_most 2 n) refl refl refl (λ v e. refl)

  -- blocks in slots, and then the entry
  abbrev in_slot_of : Option ℕ → List (Work GroupSpot)
  in_slot_of over = on (ShadowDisk set.slot) n ++ on_over over n

  in_master : (over : Option ℕ) → (blocks_on_spot (in_slot_of over) (VolumeDisk set.master) ≡ 0) × (blocks_on_spot (in_slot_of over ++ on (BitmapDisk set.slot) 1) (VolumeDisk set.master) ≡ 0)
  in_master None = (refl, refl)
  in_master (Some v) = (refl, refl)

  in_shadow : (over : Option ℕ) → (blocks_on_spot (in_slot_of over) (ShadowDisk set.slot) ≡ n) × (blocks_on_spot (in_slot_of over ++ on (BitmapDisk set.slot) 1) (ShadowDisk set.slot) ≡ n)
  in_shadow None = (one_is (ShadowDisk set.slot) set.slot n, one_is (ShadowDisk set.slot) set.slot n)
  in_shadow (Some v) = (one_is (ShadowDisk set.slot) set.slot n, one_is (ShadowDisk set.slot) set.slot n)

  in_bitmap : (over : Option ℕ) → (blocks_on_spot (in_slot_of over) (BitmapDisk set.slot) ≡ 0) × (blocks_on_spot (in_slot_of over ++ on (BitmapDisk set.slot) 1) (BitmapDisk set.slot) ≡ 1)
  in_bitmap None = (refl, one_is (BitmapDisk set.slot) set.slot 1)
  in_bitmap (Some v) = (refl, one_is (BitmapDisk set.slot) set.slot 1)

  in_over : (over : Option ℕ) (v : ℕ) → over ≡ Some v → (blocks_on_spot (in_slot_of over) (OverDisk v) ≡ n) × (blocks_on_spot (in_slot_of over ++ on (BitmapDisk set.slot) 1) (OverDisk v) ≡ n)
  in_over over v e = subst (λ (x : Option ℕ). (blocks_on_spot (in_slot_of x) (OverDisk v) ≡ n) × (blocks_on_spot (in_slot_of x ++ on (BitmapDisk set.slot) 1) (OverDisk v) ≡ n)) (sym e) (one_is (OverDisk v) v n, one_is (OverDisk v) v n)

  in_slots : (over : Option ℕ) (d : CompactDisk) (spot : GroupSpot) → spot_by set over d ≡ Some spot → blocks_on_spot (in_slot_of over) spot ≡ slot_most n d
  in_slots over = at_spots set over (in_slot_of over) (slot_most n) (in_master over).0 (in_shadow over).0 (in_bitmap over).0 (λ v e. (in_over over v e).0)

  to_slot : (over : Option ℕ) (d : CompactDisk) (spot : GroupSpot) → spot_by set over d ≡ Some spot → blocks_on_spot (in_slot_of over ++ on (BitmapDisk set.slot) 1) spot ≡ settle_most 0 n d
  to_slot over = at_spots set over (in_slot_of over ++ on (BitmapDisk set.slot) 1) (settle_most 0 n) (in_master over).1 (in_shadow over).1 (in_bitmap over).1 (λ v e. (in_over over v e).1)

one_told : (b : Bool) (f : ℕ → ℕ) (x : ℕ) (l : List ℕ) (k : ℕ) → sum_by f l ≡ k → sum_by f (cond b (x ∷ l) l) ≡ cond b (f x) 0 + k
one_told true f x l k rest = sum_by-cons f x l ∙ ap (λ (j : ℕ). f x + j) rest
one_told false f x l k rest = rest ∙ omega arith

-- those of a list that are told
sum_told : (told : ℕ → Bool) (f : ℕ → ℕ) (xs : List ℕ) → sum_by f (filter told xs) ≡ sum_by (λ c. cond (told c) (f c) 0) xs
sum_told told f [] = refl
sum_told told f (x ∷ xs) = one_told (told x) f x (filter told xs) (sum_by (λ c. cond (told c) (f c) 0) xs) (sum_told told f xs) ∙ sym (sum_by-cons (λ c. cond (told c) (f c) 0) x xs)

-- ---- what a stage does by the lists

abbrev mark_by : Bool → Bool → Bool → Bool → Bool → List (Work GroupSpot) → List (Work GroupSpot) → List (Work GroupSpot) → List (Work GroupSpot)
mark_by off back left bare moved m s b = cond (off || back) (cond back m (cond left s [])) (cond bare s (cond moved [] b))

-- blocks that are put
pub puts_so_many : (set : ShadowState) (n : ℕ) (d : CompactDisk) (spot : GroupSpot) → spot_of set d ≡ Some spot → blocks_on_spot (on_shadow set n) spot ≡ slot_most n d
puts_so_many set n d spot at = in_slots set n set.over d spot (by_is set d ∙ at)

module _ (s : CompactSet) (set : ShadowState) (st : StandsFor s set) where
  dependent : is_independent set.kind ≡ false
  dependent = ap (λ (k : Kind). is_independent k) st.kind

  module _ (c : ℕ) (there : c < chunks_of s) where
    abbrev len : ℕ
    len = seg_len c set.size.blocks

    as_s : len ≡ seg_len c s.blocks
    as_s = ap (λ (n : ℕ). seg_len c n) st.blocks

    bare_is : (touched : Bool) → set.lists.touched c ≡ not touched → is_bare set c ≡ touched
    bare_is touched e = ap (λ (b : Bool). cond b (set.lists.left c) (not (set.lists.touched c))) dependent ∙ ap not e ∙ twice touched
      where
        twice : (b : Bool) → not (not b) ≡ b
        twice true = refl
        twice false = refl

    marked : set.standing ≡ Online → (back bare moved : Bool) → set.lists.back c ≡ back → is_bare set c ≡ bare → set.lists.moved c ≡ moved
        → mark_work c set ≡ mark_by false back (set.lists.left c) bare moved (copy_to_master set c) (copy_to_shadow set c) (on (BitmapDisk set.slot) 1)
    marked online back bare moved eb er em =
        ap (λ (x : Standing). mark_by (is_offline x) (set.lists.back c) (set.lists.left c) (is_bare set c) (set.lists.moved c) (copy_to_master set c) (copy_to_shadow set c) (on (BitmapDisk set.slot) 1)) online
        ∙ ap (λ (x : Bool). mark_by false x (set.lists.left c) (is_bare set c) (set.lists.moved c) (copy_to_master set c) (copy_to_shadow set c) (on (BitmapDisk set.slot) 1)) eb
        ∙ ap (λ (x : Bool). mark_by false back (set.lists.left c) x (set.lists.moved c) (copy_to_master set c) (copy_to_shadow set c) (on (BitmapDisk set.slot) 1)) er
        ∙ ap (λ (x : Bool). mark_by false back (set.lists.left c) bare x (copy_to_master set c) (copy_to_shadow set c) (on (BitmapDisk set.slot) 1)) em

    -- of a chunk that is the same on both the entry alone is written
    entry_alone : (k : ℕ) → k ≢ 3 → k ≢ 2 → k ≢ 0 → (d : CompactDisk) → save_most k len d ≡ settle_most 1 len d
    entry_alone k n3 n2 n0 Master = cond_not k 2 0 (settle_most k len Master) n2 ∙ cond_not k 0 0 (cond (eqb k 3) len 0) n0 ∙ cond_not k 3 len 0 n3
    entry_alone k n3 n2 n0 Shadow = cond_not k 2 0 (settle_most k len Shadow) n2 ∙ cond_not k 0 len (cond (eqb k 3) 0 0) n0 ∙ cond_not k 3 0 0 n3
    entry_alone k n3 n2 n0 Bitmap = cond_not k 2 0 1 n2
    entry_alone k n3 n2 n0 Over = cond_not k 2 0 (settle_most k len Over) n2 ∙ cond_not k 0 len (cond (eqb k 3) 0 0) n0 ∙ cond_not k 3 0 0 n3

    by_state : set.standing ≡ Online → (k : ℕ) → IsListed set c k → (d : CompactDisk) (spot : GroupSpot) → spot_by set set.over d ≡ Some spot → blocks_on_spot (mark_work c set) spot ≡ save_most k len d
    by_state online k is d spot at = elim (cases_eq k 3) [
      | inl e ↦ (let l = subst (λ (n : ℕ). IsListed set c n) e is in ap (λ (w : List (Work GroupSpot)). blocks_on_spot w spot) (marked online true false false l.back (bare_is false l.touched) l.moved) ∙ to_master set len set.over d spot at ∙ ap (λ (n : ℕ). save_most n len d) (sym e))
      | inr n3 ↦ elim (cases_eq k 2) [
        | inl e ↦ (let l = subst (λ (n : ℕ). IsListed set c n) e is in ap (λ (w : List (Work GroupSpot)). blocks_on_spot w spot) (marked online false false true l.back (bare_is false l.touched) l.moved) ∙ nothing set len set.over d spot at ∙ ap (λ (n : ℕ). save_most n len d) (sym e))
        | inr n2 ↦ elim (cases_eq k 0) [
          | inl e ↦ (let l = subst (λ (n : ℕ). IsListed set c n) e is in ap (λ (w : List (Work GroupSpot)). blocks_on_spot w spot) (marked online false true false l.back (bare_is true l.touched) l.moved) ∙ to_slot set len set.over d spot at ∙ ap (λ (n : ℕ). save_most n len d) (sym e))
          | inr n0 ↦
              ap (λ (w : List (Work GroupSpot)). blocks_on_spot w spot) (marked online false false false (is.back ∙ ne_eqb k 3 n3) (bare_is false (is.touched ∙ ap not (ne_eqb k 0 n0))) (is.moved ∙ ne_eqb k 2 n2))
              ∙ marks set len set.over d spot at
              ∙ sym (entry_alone k n3 n2 n0 d)
        ]
      ]
    ]

    pub marks_so_many : set.standing ≡ Online → (d : CompactDisk) (spot : GroupSpot) → spot_of set d ≡ Some spot → blocks_on_spot (mark_work c set) spot ≡ save_most (state_by (entry_of s c)) (seg_len c s.blocks) d
    marks_so_many online d spot at = by_state online (state_by (entry_of s c)) (st.lists c there) d spot (by_is set d ∙ at) ∙ ap (λ (n : ℕ). save_most (state_by (entry_of s c)) n d) as_s

    -- ---- a chunk is brought back

    pub brings_so_many : set.lists.back c ≡ true → (d : CompactDisk) (spot : GroupSpot) → spot_of set d ≡ Some spot → blocks_on_spot (copy_work c set) spot ≡ settle_most (state_by (entry_of s c)) (seg_len c s.blocks) d
    brings_so_many back d spot at =
        let three : state_by (entry_of s c) ≡ 3 = eqb-true (state_by (entry_of s c)) 3 (sym (st.lists c there).back ∙ back) in
        ap (λ (b : Bool). blocks_on_spot (cond b (copy_to_master set c) (cond (set.lists.left c) (copy_to_shadow set c) [])) spot) back
        ∙ to_master set len set.over d spot (by_is set d ∙ at)
        ∙ ap (λ (n : ℕ). settle_most n len d) (sym three)
        ∙ ap (λ (n : ℕ). settle_most (state_by (entry_of s c)) n d) as_s

  -- ---- chunks are copied ahead

  pub copies_so_many : (told : ChunkList) (d : CompactDisk) (spot : GroupSpot) → spot_of set d ≡ Some spot → blocks_on_spot (on_shadow set (blocks_in set.size.blocks told)) spot ≡ ahead_most s told 0 (chunks_of s) d
  copies_so_many told d spot at = puts_so_many set (blocks_in set.size.blocks told) d spot at ∙ ap (λ (n : ℕ). slot_most (blocks_in n told) d) st.blocks ∙ all d
    where
      none : (b : Bool) → cond {A = ℕ} b 0 0 ≡ 0
      none true = refl
      none false = refl

      all : (d : CompactDisk) → slot_most (blocks_in s.blocks told) d ≡ ahead_most s told 0 (chunks_of s) d
      all Master = sym (sum_zeros (λ c. cond (told c) 0 0) 0 (chunks_of s) (λ c _ _. none (told c)))
      all Shadow = sum_told told (λ c. seg_len c s.blocks) (range_with_len 0 (chunks_of s))
      all Bitmap = sym (sum_zeros (λ c. cond (told c) 0 0) 0 (chunks_of s) (λ c _ _. none (told c)))
      all Over = sum_told told (λ c. seg_len c s.blocks) (range_with_len 0 (chunks_of s))
