-- The sets of a sound group by their slots, and how many of their chunks are to be copied.
use Rattle.std.proofs.Common.{◌≡◌, inl, inr, ℕ, zero, suc, ◌+◌, ◌<◌, ◌≤◌, Bool, true, false, cond, eqb, ◌||◌, ◌&&◌, nat_lt, All, List, [], ◌∷◌, length, map, filter, find, Option, None, Some, refl, sym, ◌∙◌, ap, subst, arith}
use Rattle.std.specs.List.{range_with_len}
use Rattle.std.specs.Option.{option_map}
use Rattle.std.proofs.lemmas.Bool.{cases_Bool, eqb-true}
use Rattle.std.proofs.lemmas.Bool.Decides.{nat_tests}
use Rattle.avs_dev.specs.Seen.{Seen}
use Rattle.avs_code.specs.declared.slot_table.Slot.{Slot}
use Rattle.avs_code.specs.declared.group_blocks.GroupBlock.{GroupBlock}
use Rattle.avs_model.specs.Shadows.{ShadowState, GroupState, to_copy}
use Rattle.avs_model.specs.declared.shadow.Kind.{Kind}
use Rattle.avs_model.specs.declared.shadow.Kind.TheVariants.{Ind, Dep, Compact}
use Rattle.avs_chunk.specs.States.{on_master, on_shadow}
use Rattle.avs_chunk.specs.ChunkSet.{ChunkSet, chunks_of, state_of, disk_state, IsInStep}
use Rattle.avs_chunk.specs.Finding.{back_of, left_by, left_of}
use Rattle.avs_ii.specs.declared.held.Held.{Held}
use Rattle.avs_ii.specs.Opened.{held_of, sets_of}
use Rattle.avs_ii.specs.Held.{HeldSet, IiDisks, is_live, enabled_in, set_at}
use Rattle.avs_ii.specs.Meaning.{group_by, meaning, chunks_with, left_of as list_left}
use Rattle.avs_ii.specs.Sound.{IsSound, AreSound, IsSoundSet}
use Rattle.avs_ii.specs.Kept.{IsHeld, IsKept}
use Rattle.avs_ii.proofs.OpenSets.{none_count}
use Rattle.avs_ii.proofs.Making.{master_len, at_most_one, of_all}
use Rattle.avs_ii.proofs.Forms.{group_pending, group_one, set_state}
use Rattle.avs_ii.proofs.Shadows.{meaning_is}
use Rattle.avs_ii.proofs.Belows.{as_group}

-- ---- counts

one_step : (l m k : List ℕ) (a : ℕ) (x y z : Bool) → x ≡ (y || z) → (y ≡ true → z ≡ false) → length l ≡ length m + length k → length (cond x (a ∷ l) l) ≡ length (cond y (a ∷ m) m) + length (cond z (a ∷ k) k)
one_step l m k a x true true is apart sum = elim (never (apart refl)) [ ]
  where
    never : true ≡ false → ⊥
    never e = cc
one_step l m k a x true false is apart sum = ap (λ (b : Bool). length (cond b (a ∷ l) l)) is ∙ omega (arith, sum)
one_step l m k a x false true is apart sum = ap (λ (b : Bool). length (cond b (a ∷ l) l)) is ∙ omega (arith, sum)
one_step l m k a x false false is apart sum = ap (λ (b : Bool). length (cond b (a ∷ l) l)) is ∙ omega (arith, sum)

-- what passes one of two tests, which nothing passes both
count_either : (p q r : ℕ → Bool) (a n : ℕ) → ((c : ℕ) → a ≤ c → c < a + n → p c ≡ (q c || r c)) → ((c : ℕ) → q c ≡ true → r c ≡ false)
    → length (filter p (range_with_len a n)) ≡ length (filter q (range_with_len a n)) + length (filter r (range_with_len a n))
count_either p q r a zero same apart = refl
count_either p q r a (suc n) same apart =
    one_step (filter p (range_with_len (a + 1) n)) (filter q (range_with_len (a + 1) n)) (filter r (range_with_len (a + 1) n)) a (p a) (q a) (r a) (same a (omega arith) (omega arith)) (apart a)
    (count_either p q r (a + 1) n (λ c low high. same c (omega (arith, low)) (omega (arith, high))) apart)

-- ---- the chunks of a set

module _ (s : ChunkSet) (step : IsInStep s) where
  there : (c : ℕ) → c < chunks_of s → nat_lt c (chunks_of s) ≡ true
  there c lt = grind (arith, nat_tests)

  both_states : (c : ℕ) → c < chunks_of s → (nat_lt c (chunks_of s) && eqb (disk_state s c) on_master || nat_lt c (chunks_of s) && eqb (disk_state s c) on_shadow) ≡ (eqb (state_of s c) on_master || eqb (state_of s c) on_shadow)
  both_states c lt =
      ap (λ (b : Bool). b && eqb (disk_state s c) on_master || b && eqb (disk_state s c) on_shadow) (there c lt)
      ∙ ap (λ (k : ℕ). eqb k on_master || eqb k on_shadow) (sym (step.each c lt))

  one_state : (c : ℕ) → c < chunks_of s → (false || nat_lt c (chunks_of s) && eqb (disk_state s c) on_shadow) ≡ (false || eqb (state_of s c) on_shadow)
  one_state c lt = ap (λ (b : Bool). b && eqb (disk_state s c) on_shadow) (there c lt) ∙ ap (λ (k : ℕ). eqb k on_shadow) (sym (step.each c lt))

  copies : (kind : Kind) → left_by kind s + back_of s ≡ length (filter (λ c. list_left kind s c || chunks_with s on_shadow c) (range_with_len 0 (chunks_of s)))
  copies Ind = sym (count_either (λ c. list_left Ind s c || chunks_with s on_shadow c) (λ c. eqb (state_of s c) on_master) (λ c. eqb (state_of s c) on_shadow) 0 (chunks_of s)
      (λ c low high. both_states c (omega (arith, high))) (λ c is. ap (λ (k : ℕ). eqb k on_shadow) (eqb-true (state_of s c) on_master is)))
  copies Dep =
      ap (λ (n : ℕ). n + back_of s) (sym (none_count (λ c. false) 0 (chunks_of s) (λ c low high. refl)))
      ∙ sym (count_either (λ c. list_left Dep s c || chunks_with s on_shadow c) (λ c. false) (λ c. eqb (state_of s c) on_shadow) 0 (chunks_of s) (λ c low high. one_state c (omega (arith, high))) (λ c is. cc))
  copies Compact =
      ap (λ (n : ℕ). n + back_of s) (sym (none_count (λ c. false) 0 (chunks_of s) (λ c low high. refl)))
      ∙ sym (count_either (λ c. list_left Compact s c || chunks_with s on_shadow c) (λ c. false) (λ c. eqb (state_of s c) on_shadow) 0 (chunks_of s) (λ c low high. one_state c (omega (arith, high))) (λ c is. cc))

-- ---- the sets by their slots

sets_state : (slots : List Slot) (note : List ℕ) (V : List Seen) (sets : List HeldSet) → length sets ≤ 1 → All (IsHeld slots V) sets → AreSound slots V sets → (d : Seen) → (group_by slots note V sets).sets ≡ map (λ (h : HeldSet). set_state slots V h) (enabled_in slots sets)
sets_state slots note V [] one held sound d = refl
sets_state slots note V (h ∷ []) one held sound d = elim (cases_Bool (is_live slots h.slot)) [
  | inl live ↦
      let own = of_all (IsHeld slots V) h held in
      let it = of_all (IsSoundSet slots) h (subst (λ (b : Bool). All (IsSoundSet slots) (cond b (h ∷ []) [])) live sound.each) in
      ap (λ (g : GroupState). g.sets) (group_one slots note V h live (own.area live) it.none_back (master_len slots V h own sound.told d))
      ∙ sym (ap (λ (b : Bool). map (λ (x : HeldSet). set_state slots V x) (cond b (h ∷ []) [])) live)
  | inr pending ↦
      ap (λ (g : GroupState). g.sets) (group_pending slots note V h pending)
      ∙ sym (ap (λ (b : Bool). map (λ (x : HeldSet). set_state slots V x) (cond b (h ∷ []) [])) pending)
]
sets_state slots note V (h ∷ k ∷ l) one held sound d = absurd (omega (arith, one))

find_state : (slots : List Slot) (V : List Seen) (slot : ℕ) (l : List HeldSet) → find (λ (s : ShadowState). eqb s.slot slot) (map (λ (h : HeldSet). set_state slots V h) l) ≡ option_map (λ (h : HeldSet). set_state slots V h) (find (λ (h : HeldSet). eqb h.slot slot) l)
find_state slots V slot [] = refl
find_state slots V slot (h ∷ l) = go (eqb h.slot slot) (find_state slots V slot l)
  where
    go : (b : Bool) → find (λ (s : ShadowState). eqb s.slot slot) (map (λ (x : HeldSet). set_state slots V x) l) ≡ option_map (λ (x : HeldSet). set_state slots V x) (find (λ (x : HeldSet). eqb x.slot slot) l)
        → cond b (Some (set_state slots V h)) (find (λ (s : ShadowState). eqb s.slot slot) (map (λ (x : HeldSet). set_state slots V x) l)) ≡ option_map (λ (x : HeldSet). set_state slots V x) (cond b (Some h) (find (λ (x : HeldSet). eqb x.slot slot) l))
    go true rest = refl
    go false rest = rest

module _ (state : Seen) (block : GroupBlock) (V : List Seen) (sets : List HeldSet) (one : length sets ≤ 1) (kept : IsKept state block V sets) (slot : ℕ) where
  abbrev g : IiDisks
  g = as_group state block V sets

  named : IsSound g → find (λ (s : ShadowState). eqb s.slot slot) (meaning g).sets ≡ option_map (λ (h : HeldSet). set_state block.slots V h) (set_at g slot)
  named sound =
      ap (λ (x : GroupState). find (λ (s : ShadowState). eqb s.slot slot) x.sets) (meaning_is state block V sets sound.holds)
      ∙ ap (λ (l : List ShadowState). find (λ (s : ShadowState). eqb s.slot slot) l) (sets_state block.slots block.note V sets one kept.held sound.disks state)
      ∙ find_state block.slots V slot (enabled_in block.slots sets)

  through : {X : Type 0} (f : ShadowState → X) (o : Option HeldSet) → option_map f (option_map (λ (h : HeldSet). set_state block.slots V h) o) ≡ option_map (λ (h : HeldSet). f (set_state block.slots V h)) o
  through f None = refl
  through f (Some h) = refl

  sized : (result : Option ℕ) → result ≡ option_map (λ (h : HeldSet). h.chunks.blocks) (set_at g slot) → IsSound g → result ≡ option_map (λ (s : ShadowState). s.blocks) (find (λ (s : ShadowState). eqb s.slot slot) (meaning g).sets)
  sized result is sound = is ∙ sym (ap (λ (o : Option ShadowState). option_map (λ (s : ShadowState). s.blocks) o) (named sound) ∙ through (λ (s : ShadowState). s.blocks) (set_at g slot))

  copied : IsSound g → option_map to_copy (find (λ (s : ShadowState). eqb s.slot slot) (meaning g).sets) ≡ option_map (λ (h : HeldSet). to_copy (set_state block.slots V h)) (set_at g slot)
  copied sound = ap (λ (o : Option ShadowState). option_map to_copy o) (named sound) ∙ through to_copy (set_at g slot)

-- ---- the same of what is held

module _ {D : Type 0} (state : Seen) (block : GroupBlock) (V : List Seen) (o : Option (Held D)) (g : IiDisks) (view : as_group state block V (sets_of o) ≡ g) (kept : IsKept state block V (sets_of o)) (slot : ℕ) where
  pub sized_as : (result : Option ℕ) → result ≡ option_map (λ (h : HeldSet). h.chunks.blocks) (set_at g slot) → IsSound g → result ≡ option_map (λ (s : ShadowState). s.blocks) (find (λ (s : ShadowState). eqb s.slot slot) (meaning g).sets)
  sized_as result is = subst (λ (x : IiDisks). IsSound x → result ≡ option_map (λ (s : ShadowState). s.blocks) (find (λ (s : ShadowState). eqb s.slot slot) (meaning x).sets)) view
      (sized state block V (sets_of o) (at_most_one o) kept slot result (is ∙ ap (λ (x : IiDisks). option_map (λ (h : HeldSet). h.chunks.blocks) (set_at x slot)) (sym view)))

  pub copied_none : set_at g slot ≡ None → IsSound g → None ≡ option_map to_copy (find (λ (s : ShadowState). eqb s.slot slot) (meaning g).sets)
  copied_none none =
      subst (λ (x : IiDisks). set_at x slot ≡ None → IsSound x → None ≡ option_map to_copy (find (λ (s : ShadowState). eqb s.slot slot) (meaning x).sets)) view
      (λ is sound. sym (copied state block V (sets_of o) (at_most_one o) kept slot sound ∙ ap (λ (q : Option HeldSet). option_map (λ (h : HeldSet). to_copy (set_state block.slots V h)) q) is)) none

  pub copied_some : (h : Held D) → o ≡ Some h → is_live block.slots h.slot ≡ true → set_at g slot ≡ Some (held_of h) → (n : ℕ) → n ≡ left_of h.chunks + back_of h.chunks → IsSound g → Some n ≡ option_map to_copy (find (λ (s : ShadowState). eqb s.slot slot) (meaning g).sets)
  copied_some h some live found n count =
      subst (λ (x : IiDisks). set_at x slot ≡ Some (held_of h) → IsSound x → Some n ≡ option_map to_copy (find (λ (s : ShadowState). eqb s.slot slot) (meaning x).sets)) view
      (λ is sound.
      let own : IsSoundSet block.slots (held_of h) = of_all (IsSoundSet block.slots) (held_of h) (subst (λ (b : Bool). All (IsSoundSet block.slots) (cond b (held_of h ∷ []) [])) live (subst (λ (q : Option (Held D)). All (IsSoundSet block.slots) (enabled_in block.slots (sets_of q))) some sound.disks.each)) in
      ap (λ (k : ℕ). Some k) (count ∙ copies h.chunks own.known.step h.chunks.kind)
      ∙ sym (copied state block V (sets_of o) (at_most_one o) kept slot sound ∙ ap (λ (q : Option HeldSet). option_map (λ (x : HeldSet). to_copy (set_state block.slots V x)) q) is)) found
