-- Laws of stages.
use Rattle.std.proofs.Common.{◌≡◌, ◌⊎◌, List, [], ◌∷◌, ◌++◌, refl, sym, ◌∙◌, ap, subst, inl, inr, map}
use Rattle.avs_seg.specs.Staged.{Stages, run, StoppedIn, IsWithin, IsOnlyWithin}

-- of any stages
module _ {S T : Type 0} (does : Stages S T) where
  -- nothing is done yet
  pub stopped-before : (state : S) (stages : List T) → StoppedIn does state stages state
  stopped-before state [] = refl
  stopped-before state (stage ∷ stages) = inl refl

  -- all is done
  pub stopped-done : (state : S) (stages : List T) → StoppedIn does state stages (run does state stages)
  stopped-done state [] = refl
  stopped-done state (stage ∷ stages) = inr (inr (stopped-done (does.after state stage) stages))

  -- in the midst of the first
  pub stopped-first : (state : S) (stage : T) (stages : List T) (new : S) → does.In state stage new → StoppedIn does state (stage ∷ stages) new
  stopped-first state stage stages new mid = inr (inl mid)

  -- behind the first
  pub stopped-behind : (state : S) (stage : T) (stages : List T) (new : S) → StoppedIn does (does.after state stage) stages new → StoppedIn does state (stage ∷ stages) new
  stopped-behind state stage stages new is = inr (inr is)

  -- two lists, one after the other
  pub run-append : (state : S) (xs ys : List T) → run does state (xs ++ ys) ≡ run does (run does state xs) ys
  run-append state [] ys = refl
  run-append state (x ∷ xs) ys = run-append (does.after state x) xs ys

  pub stopped-left : (state : S) (xs ys : List T) (new : S) → StoppedIn does state xs new → StoppedIn does state (xs ++ ys) new
  stopped-left state [] ys new is = subst (λ s. StoppedIn does state ys s) (sym is) (stopped-before state ys)
  stopped-left state (x ∷ xs) ys new (inl is) = inl is
  stopped-left state (x ∷ xs) ys new (inr (inl mid)) = inr (inl mid)
  stopped-left state (x ∷ xs) ys new (inr (inr is)) = inr (inr (stopped-left (does.after state x) xs ys new is))

  pub stopped-right : (state : S) (xs ys : List T) (new : S) → StoppedIn does (run does state xs) ys new → StoppedIn does state (xs ++ ys) new
  stopped-right state [] ys new is = is
  stopped-right state (x ∷ xs) ys new is = inr (inr (stopped-right (does.after state x) xs ys new is))

  pub stopped-append : (state : S) (xs ys : List T) (new : S) → StoppedIn does state (xs ++ ys) new → StoppedIn does state xs new ⊎ StoppedIn does (run does state xs) ys new
  stopped-append state [] ys new is = inr is
  stopped-append state (x ∷ xs) ys new (inl is) = inl (inl is)
  stopped-append state (x ∷ xs) ys new (inr (inl mid)) = inl (inr (inl mid))
  stopped-append state (x ∷ xs) ys new (inr (inr is)) = later (stopped-append (does.after state x) xs ys new is)
    where
      later : StoppedIn does (does.after state x) xs new ⊎ StoppedIn does (run does (does.after state x) xs) ys new → StoppedIn does state (x ∷ xs) new ⊎ StoppedIn does (run does (does.after state x) xs) ys new
      later (inl left) = inl (inr (inr left))
      later (inr right) = inr right

  -- what each stage keeps, in its midst too
  pub stopped-keeps : (P : S → Type 0) → ((state : S) (stage : T) → P state → P (does.after state stage)) → ((state : S) (stage : T) (new : S) → P state → does.In state stage new → P new)
      → (state : S) (stages : List T) (new : S) → P state → StoppedIn does state stages new → P new
  stopped-keeps P keeps in_keeps state [] new holds is = subst P (sym is) holds
  stopped-keeps P keeps in_keeps state (stage ∷ stages) new holds (inl is) = subst P (sym is) holds
  stopped-keeps P keeps in_keeps state (stage ∷ stages) new holds (inr (inl mid)) = in_keeps state stage new holds mid
  stopped-keeps P keeps in_keeps state (stage ∷ stages) new holds (inr (inr is)) = stopped-keeps P keeps in_keeps (does.after state stage) stages new (keeps state stage holds) is

module _ {S T U V : Type 0} (does : Stages S T) (outer : Stages U V) (inside : S → U) (as_outer : T → V) (within : IsWithin does outer inside as_outer) where
  pub run-within : (state : S) (stages : List T) → run outer (inside state) (map as_outer stages) ≡ inside (run does state stages)
  run-within state [] = refl
  run-within state (stage ∷ stages) = ap (λ u. run outer u (map as_outer stages)) (within.after_same state stage) ∙ run-within (does.after state stage) stages

  pub stopped-within : (state : S) (stages : List T) (new : S) → StoppedIn does state stages new → StoppedIn outer (inside state) (map as_outer stages) (inside new)
  stopped-within state [] new is = ap inside is
  stopped-within state (stage ∷ stages) new (inl is) = inl (ap inside is)
  stopped-within state (stage ∷ stages) new (inr (inl mid)) = inr (inl (within.in_same state stage new mid))
  stopped-within state (stage ∷ stages) new (inr (inr is)) =
      inr (inr (subst (λ u. StoppedIn outer u (map as_outer stages) (inside new)) (sym (within.after_same state stage)) (stopped-within (does.after state stage) stages new is)))

-- and a larger state in their midst is one of theirs, where the larger stages have no others
module _ {S T U V : Type 0} (does : Stages S T) (outer : Stages U V) (inside : S → U) (as_outer : T → V) (within : IsOnlyWithin does outer inside as_outer) where
  pub stopped-only : (state : S) (stages : List T) (new : U) → StoppedIn outer (inside state) (map as_outer stages) new → (left : S) × (StoppedIn does state stages left × (new ≡ inside left))
  stopped-only state [] new is = (state, (refl, is))
  stopped-only state (stage ∷ stages) new (inl is) = (state, (inl refl, is))
  stopped-only state (stage ∷ stages) new (inr (inl mid)) =
      let left = within.only state stage new mid in (left.0, (inr (inl left.1.0), left.1.1))
  stopped-only state (stage ∷ stages) new (inr (inr is)) =
      let left = stopped-only (does.after state stage) stages new (subst (λ u. StoppedIn outer u (map as_outer stages) new) (within.same.after_same state stage) is) in
      (left.0, (inr (inr left.1.0), left.1.1))
