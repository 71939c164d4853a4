-- Each part of a whole sees its own stages alone.
use Rattle.std.proofs.Common.{◌≡◌, Bool, true, cond, List, [], ◌∷◌, refl, sym, ◌∙◌, ap, subst, inl, inr}
use Rattle.std.proofs.lemmas.Bool.{cases_Bool}
use Rattle.avs_seg.specs.Staged.{Stages, run, StoppedIn, Parts, ArePartsApart, in_parts, own}
use Rattle.avs_seg.proofs.StagedLaws.{stopped-before}

module _ {I S W T : Type 0} (parts : Parts I S W) (apart : ArePartsApart parts) (does : Stages S T) where
  -- a stage of the part itself, and one of another
  after_own : (i j : I) (whole : W) (new : S) → parts.is_same i j ≡ true → parts.part (parts.with_part whole j new) i ≡ new
  after_own i j whole new is = subst (λ (k : I). parts.part (parts.with_part whole k new) i ≡ new) (apart.same i j is) (apart.set whole i new)

  part_own : (i j : I) (whole : W) → parts.is_same i j ≡ true → parts.part whole j ≡ parts.part whole i
  part_own i j whole is = ap (λ (k : I). parts.part whole k) (sym (apart.same i j is))

  -- what a part is behind all stages
  pub run-own : (i : I) (whole : W) (stages : List (I × T))
      → parts.part (run (in_parts parts does) whole stages) i ≡ run does (parts.part whole i) (own parts i stages)
  run-own i whole [] = refl
  run-own i whole (at ∷ stages) = elim (cases_Bool (parts.is_same i at.0)) [
    | inl is ↦
        run-own i next stages
        ∙ ap (λ (s : S). run does s (own parts i stages)) (after_own i at.0 whole here is ∙ ap (λ (s : S). does.after s at.1) (part_own i at.0 whole is))
        ∙ ap (λ (b : Bool). run does (parts.part whole i) (cond b (at.1 ∷ own parts i stages) (own parts i stages))) (sym is)
    | inr not ↦
        run-own i next stages
        ∙ ap (λ (s : S). run does s (own parts i stages)) (apart.others whole i at.0 here not)
        ∙ ap (λ (b : Bool). run does (parts.part whole i) (cond b (at.1 ∷ own parts i stages) (own parts i stages))) (sym not)
  ]
    where
      here : S
      here = does.after (parts.part whole at.0) at.1

      next : W
      next = parts.with_part whole at.0 here

  -- and where they were stopped
  pub stopped-own : (i : I) (whole : W) (stages : List (I × T)) (new : W)
      → StoppedIn (in_parts parts does) whole stages new → StoppedIn does (parts.part whole i) (own parts i stages) (parts.part new i)
  stopped-own i whole [] new is = ap (λ (w : W). parts.part w i) is
  stopped-own i whole (at ∷ stages) new (inl is) =
      subst (λ (s : S). StoppedIn does (parts.part whole i) (own parts i (at ∷ stages)) s) (ap (λ (w : W). parts.part w i) (sym is))
      (stopped-before does (parts.part whole i) (own parts i (at ∷ stages)))
  stopped-own i whole (at ∷ stages) new (inr (inl mid)) = elim (cases_Bool (parts.is_same i at.0)) [
    | inl is ↦
        subst (λ (b : Bool). StoppedIn does (parts.part whole i) (cond b (at.1 ∷ own parts i stages) (own parts i stages)) (parts.part new i)) (sym is)
        (inr (inl (subst (λ (s : S). does.In (parts.part whole i) at.1 s) (sym (ap (λ (w : W). parts.part w i) mid.2 ∙ after_own i at.0 whole mid.0 is))
        (subst (λ (s : S). does.In s at.1 mid.0) (part_own i at.0 whole is) mid.1))))
    | inr not ↦
        subst (λ (b : Bool). StoppedIn does (parts.part whole i) (cond b (at.1 ∷ own parts i stages) (own parts i stages)) (parts.part new i)) (sym not)
        (subst (λ (s : S). StoppedIn does (parts.part whole i) (own parts i stages) s) (sym (ap (λ (w : W). parts.part w i) mid.2 ∙ apart.others whole i at.0 mid.0 not))
        (stopped-before does (parts.part whole i) (own parts i stages)))
  ]
  stopped-own i whole (at ∷ stages) new (inr (inr behind)) = elim (cases_Bool (parts.is_same i at.0)) [
    | inl is ↦
        subst (λ (b : Bool). StoppedIn does (parts.part whole i) (cond b (at.1 ∷ own parts i stages) (own parts i stages)) (parts.part new i)) (sym is)
        (inr (inr (subst (λ (s : S). StoppedIn does s (own parts i stages) (parts.part new i)) (after_own i at.0 whole here is ∙ ap (λ (s : S). does.after s at.1) (part_own i at.0 whole is)) (stopped-own i next stages new behind))))
    | inr not ↦
        subst (λ (b : Bool). StoppedIn does (parts.part whole i) (cond b (at.1 ∷ own parts i stages) (own parts i stages)) (parts.part new i)) (sym not)
        (subst (λ (s : S). StoppedIn does s (own parts i stages) (parts.part new i)) (apart.others whole i at.0 here not) (stopped-own i next stages new behind))
  ]
    where
      here : S
      here = does.after (parts.part whole at.0) at.1

      next : W
      next = parts.with_part whole at.0 here
