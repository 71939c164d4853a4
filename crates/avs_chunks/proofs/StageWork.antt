-- What the stages of a group write for a chunk.
use Rattle.std.proofs.Common.{◌≡◌, ◌≢◌, inl, inr, ℕ, ◌+◌, ◌<◌, Bool, true, false, ◌&&◌, ◌||◌, not, cond, eqb, List, [], ◌∷◌, ◌++◌, Option, ◌∙◌, sym, refl, ap, subst, arith}
use Rattle.std.specs.List.{sum_by}
use Rattle.std.proofs.lemmas.Bool.{cases_eq, eq-eqb, ne_eqb, false≢true}
use Rattle.avs_seg.specs.Segment.{seg_len}
use Rattle.avs_model.specs.declared.shadow.Kind.{Kind}
use Rattle.avs_model.specs.declared.shadow.Kind.TheVariants.{Ind, Dep, Compact}
use Rattle.avs_model.specs.ShadowSets.{ShadowState, Standing, is_offline}
use Rattle.avs_model.specs.ShadowSets as model
use Rattle.avs_model.specs.GroupWork.{GroupSpot, VolumeDisk, ShadowDisk, BitmapDisk, Work, on, on_over, is_bare, copy_to_shadow, copy_to_master, mark_work, copy_work, blocks_on_spot}
use Rattle.avs_chunks.specs.ChunkSet.{ChunkSet, chunks_of, state_of}
use Rattle.avs_chunks.specs.Due.{is_independent, is_due}
use Rattle.avs_chunks.specs.Disks.{ChunkDisk, Master, Shadow, Bitmap, save_work, settle_work}
use Rattle.avs_chunks.specs.Working.{IsListed, StandsFor, spot_of}
use Rattle.avs_chunks.proofs.Quarters.{state_in_small}

-- ---- lists of work

module _ (set : ShadowState) (n : ℕ) where
  mine : (b : ℕ) → eqb b b ≡ true
  mine b = eq-eqb b b refl

  to_master : (d : ChunkDisk) → blocks_on_spot (on (VolumeDisk set.master) n ++ on (BitmapDisk set.slot) 1) (spot_of set d) ≡ settle_work 3 n d
  to_master Master = ap (λ (b : Bool). sum_by (λ (one : Work GroupSpot). one.blocks) (cond b (record { disk = VolumeDisk set.master; blocks = n } ∷ []) [])) (mine set.master) ∙ (let e : 0 + n ≡ n = omega arith in e)
  to_master Shadow = refl
  to_master Bitmap = ap (λ (b : Bool). sum_by (λ (one : Work GroupSpot). one.blocks) (cond b (record { disk = BitmapDisk set.slot; blocks = 1 } ∷ []) [])) (mine set.slot)

  to_shadow : (d : ChunkDisk) → blocks_on_spot (on (ShadowDisk set.slot) n ++ on (BitmapDisk set.slot) 1) (spot_of set d) ≡ settle_work 0 n d
  to_shadow Master = refl
  to_shadow Shadow = ap (λ (b : Bool). sum_by (λ (one : Work GroupSpot). one.blocks) (cond b (record { disk = ShadowDisk set.slot; blocks = n } ∷ []) [])) (mine set.slot) ∙ (let e : 0 + n ≡ n = omega arith in e)
  to_shadow Bitmap = ap (λ (b : Bool). sum_by (λ (one : Work GroupSpot). one.blocks) (cond b (record { disk = BitmapDisk set.slot; blocks = 1 } ∷ []) [])) (mine set.slot)

  marks : (d : ChunkDisk) → blocks_on_spot (on (BitmapDisk set.slot) 1) (spot_of set d) ≡ settle_work 1 n d
  marks Master = refl
  marks Shadow = refl
  marks Bitmap = ap (λ (b : Bool). sum_by (λ (one : Work GroupSpot). one.blocks) (cond b (record { disk = BitmapDisk set.slot; blocks = 1 } ∷ []) [])) (mine set.slot)

-- ---- what a stage does by the lists

bare_is : (k z l t : Bool) → l ≡ (k && z) → t ≡ (not k && not z) → cond k l (not t) ≡ z
bare_is true z l t e f = e
bare_is false true l t e f = ap not f
bare_is false false l t e f = ap not f

abbrev mark_by : Bool → Bool → Bool → Bool → Bool → List (Work GroupSpot) → List (Work GroupSpot) → List (Work GroupSpot) → List (Work GroupSpot)
mark_by off back left bare moved m s b = cond (off || back) (cond back m (cond left s [])) (cond bare s (cond moved [] b))

module _ (s : ChunkSet) (set : ShadowState) (st : StandsFor s set) (c : ℕ) where
  abbrev len : ℕ
  len = seg_len c set.size.blocks

  marked : (back bare moved : Bool) → set.lists.back c ≡ back → is_bare set c ≡ bare → set.lists.moved c ≡ moved
      → mark_work c set ≡ mark_by false back (set.lists.left c) bare moved (copy_to_master set c) (copy_to_shadow set c) (on (BitmapDisk set.slot) 1)
  marked back bare moved eb er em =
      ap (λ (x : Standing). mark_by (is_offline x) (set.lists.back c) (set.lists.left c) (is_bare set c) (set.lists.moved c) (copy_to_master set c) (copy_to_shadow set c) (on (BitmapDisk set.slot) 1)) st.online
      ∙ ap (λ (x : Bool). mark_by false x (set.lists.left c) (is_bare set c) (set.lists.moved c) (copy_to_master set c) (copy_to_shadow set c) (on (BitmapDisk set.slot) 1)) eb
      ∙ ap (λ (x : Bool). mark_by false back (set.lists.left c) x (set.lists.moved c) (copy_to_master set c) (copy_to_shadow set c) (on (BitmapDisk set.slot) 1)) er
      ∙ ap (λ (x : Bool). mark_by false back (set.lists.left c) bare x (copy_to_master set c) (copy_to_shadow set c) (on (BitmapDisk set.slot) 1)) em

  ahead_is : (d : ChunkDisk) → blocks_on_spot (copy_to_shadow set c) (spot_of set d) ≡ settle_work 0 len d
  ahead_is d = ap (λ (x : Option ℕ). blocks_on_spot ((on (ShadowDisk set.slot) len ++ on_over x len) ++ on (BitmapDisk set.slot) 1) (spot_of set d)) st.over ∙ to_shadow set len d

  by_state : (k : ℕ) → k < 4 → IsListed set c k → (d : ChunkDisk) → blocks_on_spot (mark_work c set) (spot_of set d) ≡ save_work k len d
  by_state k small is d = elim (cases_eq k 3) [
    | inl e ↦ (let l = subst (λ (n : ℕ). IsListed set c n) e is in ap (λ (w : List (Work GroupSpot)). blocks_on_spot w (spot_of set d)) (marked true false false l.back (bare_is (model.is_independent set.kind) false _ _ l.left l.touched) l.moved) ∙ to_master set len d ∙ ap (λ (n : ℕ). save_work n len d) (sym e))
    | inr n3 ↦ elim (cases_eq k 2) [
      | inl e ↦ (let l = subst (λ (n : ℕ). IsListed set c n) e is in ap (λ (w : List (Work GroupSpot)). blocks_on_spot w (spot_of set d)) (marked false false true l.back (bare_is (model.is_independent set.kind) false _ _ l.left l.touched) l.moved) ∙ ap (λ (n : ℕ). save_work n len d) (sym e))
      | inr n2 ↦ elim (cases_eq k 1) [
        | inl e ↦ (let l = subst (λ (n : ℕ). IsListed set c n) e is in ap (λ (w : List (Work GroupSpot)). blocks_on_spot w (spot_of set d)) (marked false false false l.back (bare_is (model.is_independent set.kind) false _ _ l.left l.touched) l.moved) ∙ marks set len d ∙ ap (λ (n : ℕ). save_work n len d) (sym e))
        | inr n1 ↦ (let e : k ≡ 0 = omega (arith, small, n3, n2, n1) in let l = subst (λ (n : ℕ). IsListed set c n) e is in ap (λ (w : List (Work GroupSpot)). blocks_on_spot w (spot_of set d)) (marked false true false l.back (bare_is (model.is_independent set.kind) true _ _ l.left l.touched) l.moved) ∙ ahead_is d ∙ ap (λ (n : ℕ). save_work n len d) (sym e))
      ]
    ]
  ]

  as_s : len ≡ seg_len c s.blocks
  as_s = ap (λ (n : ℕ). seg_len c n) st.blocks

  pub saved_work : c < chunks_of s → (d : ChunkDisk) → blocks_on_spot (mark_work c set) (spot_of set d) ≡ save_work (state_of s c) (seg_len c s.blocks) d
  saved_work lt d = by_state (state_of s c) (state_in_small s.memory c) (st.lists c lt) d ∙ ap (λ (n : ℕ). save_work (state_of s c) n d) as_s

  -- ---- a copy step

  abbrev copy_by : Bool → Bool → List (Work GroupSpot) → List (Work GroupSpot) → List (Work GroupSpot)
  copy_by back left m a = cond back m (cond left a [])

  copying : (back left : Bool) → set.lists.back c ≡ back → set.lists.left c ≡ left → copy_work c set ≡ copy_by back left (copy_to_master set c) (copy_to_shadow set c)
  copying back left eb el = ap (λ (x : Bool). copy_by x (set.lists.left c) (copy_to_master set c) (copy_to_shadow set c)) eb ∙ ap (λ (x : Bool). copy_by back x (copy_to_master set c) (copy_to_shadow set c)) el

  same_kind : (k : Kind) → is_independent k ≡ model.is_independent k
  same_kind Ind = refl
  same_kind Dep = refl
  same_kind Compact = refl

  independent : is_due (is_independent s.kind) 0 ≡ true → model.is_independent set.kind ≡ true
  independent due = ap (λ (k : Kind). model.is_independent k) st.kind ∙ sym (same_kind s.kind) ∙ alone (is_independent s.kind) due
    where
      alone : (b : Bool) → is_due b 0 ≡ true → b ≡ true
      alone true e = refl
      alone false e = absurd (false≢true e)

  undue : (b : Bool) (k : ℕ) → k ≢ 3 → k ≢ 0 → is_due b k ≡ true → ⊥
  undue b k n3 n0 due = false≢true (sym (no b) ∙ due)
    where
      three : eqb k 3 ≡ false
      three = ne_eqb k 3 n3

      none : eqb k 0 ≡ false
      none = ne_eqb k 0 n0

      no : (b : Bool) → is_due b k ≡ false
      no true = ap (λ (x : Bool). x || (true && eqb k 0)) three ∙ none
      no false = ap (λ (x : Bool). x || false) three

  due_by : (k : ℕ) → is_due (is_independent s.kind) k ≡ true → IsListed set c k → (d : ChunkDisk) → blocks_on_spot (copy_work c set) (spot_of set d) ≡ settle_work k len d
  due_by k due is d = elim (cases_eq k 3) [
    | inl e ↦ (let l = subst (λ (n : ℕ). IsListed set c n) e is in ap (λ (w : List (Work GroupSpot)). blocks_on_spot w (spot_of set d)) (copying true (set.lists.left c) l.back refl) ∙ to_master set len d ∙ ap (λ (n : ℕ). settle_work n len d) (sym e))
    | inr n3 ↦ elim (cases_eq k 0) [
      | inl e ↦ (let l = subst (λ (n : ℕ). IsListed set c n) e is in let ind = independent (subst (λ (n : ℕ). is_due (is_independent s.kind) n ≡ true) e due) in ap (λ (w : List (Work GroupSpot)). blocks_on_spot w (spot_of set d)) (copying false true l.back (l.left ∙ ap (λ (b : Bool). b && true) ind)) ∙ ahead_is d ∙ ap (λ (n : ℕ). settle_work n len d) (sym e))
      | inr n0 ↦ absurd (undue (is_independent s.kind) k n3 n0 due)
    ]
  ]

  pub copied_work : c < chunks_of s → is_due (is_independent s.kind) (state_of s c) ≡ true → (d : ChunkDisk) → blocks_on_spot (copy_work c set) (spot_of set d) ≡ settle_work (state_of s c) (seg_len c s.blocks) d
  copied_work lt due d = due_by (state_of s c) due (st.lists c lt) d ∙ ap (λ (n : ℕ). settle_work (state_of s c) n d) as_s
