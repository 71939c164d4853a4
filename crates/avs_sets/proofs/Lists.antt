-- A list of sets of which one changes, as the states of those that are enabled.
use Rattle.std.proofs.Common.{◌≡◌, ◌≢◌, ℕ, zero, suc, ◌<◌, Bool, true, false, cond, eqb, ◌&&◌, ◌||◌, List, [], ◌∷◌, length, map, filter, set, ◌∙◌, sym, refl, ap, arith}
use Rattle.std.proofs.lemmas.Bool.{eq-eqb, ne_eqb}
use Rattle.avs_model.specs.ShadowSets.{ShadowState}
use Rattle.avs_model.specs.GroupStates.{is_over}
use Rattle.avs_sets.specs.Says.{BlockSays}
use Rattle.avs_sets.specs.Sets.{SetSeen}
use Rattle.avs_sets.specs.Meaning.{set_of, is_enabled, is_used}

-- the sets, of which that of one slot is changed
abbrev pub changed_at : ℕ → (ShadowState → ShadowState) → List ShadowState → List ShadowState
changed_at slot change sets = map (λ t. cond (eqb t.slot slot) (change t) t) sets

-- f and g give the state of a set before and after a change of the one with that slot
module _ (p : SetSeen → Bool) (f g : SetSeen → ShadowState) (slot : ℕ) (change : ShadowState → ShadowState) (slot_is : (t : SetSeen) → (f t).slot ≡ t.slot) where
  pub record Other (t : SetSeen) : Type 0 where
    pub same : p t ≡ true → g t ≡ f t
    pub ne : t.slot ≢ slot

  passes : (t : SetSeen) → Other t → p t ≡ true → g t ≡ cond (eqb (f t).slot slot) (change (f t)) (f t)
  passes t o is = o.same is ∙ sym (ap (λ (b : Bool). cond b (change (f t)) (f t)) (ne_eqb (f t).slot slot (λ e. o.ne (sym (slot_is t) ∙ e))))

  keeps_rest : (S : List SetSeen) → ((j : ℕ) → j < length S → Other (set_of S j)) → map g (filter p S) ≡ changed_at slot change (map f (filter p S))
  keeps_rest [] o = refl
  keeps_rest (t ∷ S) o = go (keeps_rest S (λ j l. o (suc j) (omega (arith, l)))) (p t) refl
    where
      go : map g (filter p S) ≡ changed_at slot change (map f (filter p S)) → (b : Bool) → p t ≡ b → map g (cond b (t ∷ filter p S) (filter p S)) ≡ changed_at slot change (map f (cond b (t ∷ filter p S) (filter p S)))
      go rest true is = λ i. passes t (o 0 (omega arith)) is i ∷ rest i
      go rest false is = rest

  pub changes_one : (S : List SetSeen) (k : ℕ) → k < length S → (s' : SetSeen) → p s' ≡ true → p (set_of S k) ≡ true → g s' ≡ change (f (set_of S k)) → (set_of S k).slot ≡ slot
      → ((j : ℕ) → j < length S → j ≢ k → Other (set_of S j)) → map g (filter p (set S k s')) ≡ changed_at slot change (map f (filter p S))
  changes_one [] k lt s' new old own is o = elim (none k lt) [ ]
    where
      none : (k : ℕ) → k < 0 → ⊥
      none k lt = omega arith
  changes_one (t ∷ S) zero lt s' new old own is o =
      ap (λ (b : Bool). map g (cond b (s' ∷ filter p S) (filter p S))) new
      ∙ (λ i. (own ∙ sym (ap (λ (b : Bool). cond b (change (f t)) (f t)) (eq-eqb (f t).slot slot (slot_is t ∙ is)))) i ∷ keeps_rest S (λ j l. o (suc j) (omega (arith, l)) (λ e. omega (arith, e))) i)
      ∙ sym (ap (λ (b : Bool). changed_at slot change (map f (cond b (t ∷ filter p S) (filter p S)))) old)
  changes_one (t ∷ S) (suc k) lt s' new old own is o = go (changes_one S k (omega (arith, lt)) s' new old own is (λ j l ne. o (suc j) (omega (arith, l)) (λ e. ne (omega (arith, e))))) (p t) refl
    where
      go : map g (filter p (set S k s')) ≡ changed_at slot change (map f (filter p S)) → (b : Bool) → p t ≡ b → map g (cond b (t ∷ filter p (set S k s')) (filter p (set S k s'))) ≡ changed_at slot change (map f (cond b (t ∷ filter p S) (filter p S)))
      go rest true same = λ i. passes t (o 0 (omega arith) (λ e. omega (arith, e))) same i ∷ rest i
      go rest false same = rest

-- the states of the enabled sets are as before
pub keeps_all : (p : SetSeen → Bool) (f g : SetSeen → ShadowState) (S : List SetSeen) → ((j : ℕ) → j < length S → p (set_of S j) ≡ true → g (set_of S j) ≡ f (set_of S j)) → map g (filter p S) ≡ map f (filter p S)
keeps_all p f g [] same = refl
keeps_all p f g (t ∷ S) same = go (keeps_all p f g S (λ j l. same (suc j) (omega (arith, l)))) (p t) refl
  where
    go : map g (filter p S) ≡ map f (filter p S) → (b : Bool) → p t ≡ b → map g (cond b (t ∷ filter p S) (filter p S)) ≡ map f (cond b (t ∷ filter p S) (filter p S))
    go rest true is = λ i. same 0 (omega arith) is i ∷ rest i
    go rest false is = rest

-- the states of the enabled sets, with a change of each
pub changes_all : (p p' : SetSeen → Bool) (f g : SetSeen → ShadowState) (change : ShadowState → ShadowState) (S : List SetSeen) → ((j : ℕ) → j < length S → p' (set_of S j) ≡ p (set_of S j))
    → ((j : ℕ) → j < length S → p (set_of S j) ≡ true → g (set_of S j) ≡ change (f (set_of S j))) → map g (filter p' S) ≡ map change (map f (filter p S))
changes_all p p' f g change [] test same = refl
changes_all p p' f g change (t ∷ S) test same =
    ap (λ (b : Bool). map g (cond b (t ∷ filter p' S) (filter p' S))) (test 0 (omega arith))
    ∙ go (changes_all p p' f g change S (λ j l. test (suc j) (omega (arith, l))) (λ j l. same (suc j) (omega (arith, l)))) (p t) refl
  where
    go : map g (filter p' S) ≡ map change (map f (filter p S)) → (b : Bool) → p t ≡ b → map g (cond b (t ∷ filter p' S) (filter p' S)) ≡ map change (map f (cond b (t ∷ filter p S) (filter p S)))
    go rest true is = λ i. same 0 (omega arith) is i ∷ rest i
    go rest false is = rest

-- nothing changes in a list by a change that does nothing
pub changed_nothing : (slot : ℕ) (l : List ShadowState) → changed_at slot (λ x. x) l ≡ l
changed_nothing slot [] = refl
changed_nothing slot (x ∷ l) = λ i. one (eqb x.slot slot) i ∷ changed_nothing slot l i
  where
    one : (b : Bool) → cond b x x ≡ x
    one true = refl
    one false = refl

-- which overflow volumes are used, where one set changes and keeps its own
pub used_same : (says : BlockSays) (S : List SetSeen) (k : ℕ) (s' : SetSeen) (o : ℕ) → s'.slot ≡ (set_of S k).slot → s'.over ≡ (set_of S k).over → is_used says (set S k s') o ≡ is_used says S o
used_same says [] k s' o slot over = refl
used_same says (t ∷ S) zero s' o slot over = λ i. ((says.slots (slot i)).enabled && is_over (over i) o) || is_used says S o
used_same says (t ∷ S) (suc k) s' o slot over = ap (λ (b : Bool). (is_enabled says t && is_over t.over o) || b) (used_same says S k s' o slot over)
