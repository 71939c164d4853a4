-- Own slots that are kept: of the slots of a table below one so many are free.
use Rattle.std.proofs.Common.{◌≡◌, ◌≢◌, ℕ, zero, suc, ◌+◌, ◌-◌, ◌<◌, ◌≤◌, cond, [], ◌∷◌, length, set, take, drop, Option, None, Some, is_some, refl, sym, ◌∙◌, ap, arith}
use Rattle.std.specs.List.{sum_by}
use Rattle.std.specs.Prelude.{◌++◌}
use Rattle.std.proofs.lemmas.List.{take_more, take_more_set, take_all, take-set-le, take-append-drop, length-drop}
use Rattle.std.proofs.lemmas.List.Sums.{sum_by-append, count_by-le-length}
use Rattle.std.proofs.Math.ListN.{length-set}
use Rattle.avs_over.specs.Slots.{Owners, owner_at, used_in}
use Rattle.avs_over.proofs.Giving.{used_more}
use Rattle.avs_compact.specs.Steps.{AreUsedFrom}

used_alone : (o : Option ℕ) → sum_by (λ x. cond (is_some x) 1 0) (o ∷ []) ≡ cond (is_some o) 1 0
used_alone None = refl
used_alone (Some c) = refl

-- one slot more
pub used_next : (T : Owners) (k : ℕ) → k < length T → used_in (take (k + 1) T) ≡ used_in (take k T) + cond (is_some (owner_at T k)) 1 0
used_next T k lt =
    ap used_in (take_more T k None lt)
    ∙ sum_by-append (λ x. cond (is_some x) 1 0) (take k T) (owner_at T k ∷ [])
    ∙ ap (λ (n : ℕ). used_in (take k T) + n) (used_alone (owner_at T k))

one_used : (o : Option ℕ) → o ≢ None → ◌≡◌ {A = ℕ} (cond (is_some o) 1 0) 1
one_used None not_none = absurd (not_none refl)
one_used (Some c) not_none = refl

-- slots that are used, one behind another
pub used_between : (T : Owners) (low n : ℕ) → low + n ≤ length T → ((k : ℕ) → low ≤ k → k < low + n → owner_at T k ≢ None) → used_in (take (low + n) T) ≡ used_in (take low T) + n
used_between T low zero inside each = (let e : low + 0 ≡ low = omega arith in ap (λ (k : ℕ). used_in (take k T)) e) ∙ omega arith
used_between T low (suc n) inside each =
    let e : low + suc n ≡ low + n + 1 = omega arith in
    let rest = used_between T low n (omega (arith, inside)) (λ k from below. each k from (omega (arith, below))) in
    let next = used_next T (low + n) (omega (arith, inside)) in
    let here = one_used (owner_at T (low + n)) (each (low + n) (omega arith) (omega arith)) in
    ap (λ (k : ℕ). used_in (take k T)) e ∙ omega (arith, rest, next, here)

module _ (T : Owners) (low ahead : ℕ) (inside : low ≤ length T) (kept : used_in (take low T) + ahead ≡ low) where
  -- up to one from which on all are used
  pub used_upto : (slot : ℕ) → low ≤ slot → slot ≤ length T → ((k : ℕ) → low ≤ k → k < slot → owner_at T k ≢ None) → used_in (take slot T) + ahead ≡ slot
  used_upto slot from below each =
      let e : low + (slot - low) ≡ slot = omega (arith, from) in
      let u = used_between T low (slot - low) (omega (arith, from, below)) (λ k f b. each k f (omega (arith, b, from))) in
      let v : used_in (take slot T) ≡ used_in (take low T) + (slot - low) = ap (λ (k : ℕ). used_in (take k T)) (sym e) ∙ u in
      omega (arith, v, kept, from)

  -- where all behind are used, the others are kept
  pub used_or_kept : AreUsedFrom T low → used_in T + ahead ≡ length T
  used_or_kept full =
      let u = used_upto (length T) inside (omega arith) (λ k f b. full.each k f b) in
      let v : used_in (take (length T) T) ≡ used_in T = ap used_in (take_all (length T) T (omega arith)) in
      omega (arith, u, v)

  pub kept_all : AreUsedFrom T low → used_in (take (length T) T) + ahead ≡ length T
  kept_all full = used_upto (length T) inside (omega arith) (λ k f b. full.each k f b)

  -- where one behind is free, some are neither used nor kept
  pub free_behind : (slot : ℕ) → low ≤ slot → slot < length T → owner_at T slot ≡ None → used_in T + ahead < length T
  free_behind slot from there free =
      let more = used_more T slot 0 there free in
      let same : used_in (take low (set T slot (Some 0))) ≡ used_in (take low T) = ap used_in (take-set-le low T slot (Some 0) from) in
      let split = sum_by-append (λ x. cond (is_some x) 1 0) (take low (set T slot (Some 0))) (drop low (set T slot (Some 0))) in
      let whole : used_in (take low (set T slot (Some 0)) ++ drop low (set T slot (Some 0))) ≡ used_in (set T slot (Some 0)) = ap used_in (take-append-drop low (set T slot (Some 0))) in
      let most = count_by-le-length is_some (drop low (set T slot (Some 0))) in
      omega (arith, more, same, split, whole, most, kept, length-drop low (set T slot (Some 0)), length-set T slot (Some 0), inside)

  module _ (slot : ℕ) (from : low ≤ slot) (there : slot < length T) (free : owner_at T slot ≡ None) (each : (k : ℕ) → low ≤ k → k < slot → owner_at T k ≢ None) where
    upto : used_in (take slot T) + ahead ≡ slot
    upto = used_upto slot from (omega (arith, there)) each

    -- the least free one is taken
    pub kept_taken : (c : ℕ) → used_in (take (slot + 1) (set T slot (Some c))) + ahead ≡ slot + 1
    kept_taken c =
        let u : used_in (take (slot + 1) (set T slot (Some c))) ≡ used_in (take slot T) + 1 = ap used_in (take_more_set T slot (Some c) there) ∙ sum_by-append (λ x. cond (is_some x) 1 0) (take slot T) (Some c ∷ []) in
        omega (arith, u, upto)

    -- it is kept
    pub kept_more : used_in (take (slot + 1) T) + (ahead + 1) ≡ slot + 1
    kept_more =
        let none : ◌≡◌ {A = ℕ} (cond (is_some (owner_at T slot)) 1 0) 0 = ap (λ (o : Option ℕ). cond (is_some o) 1 0) free in
        omega (arith, used_next T slot there, none, upto)

-- a table of which no slot is looked at
pub kept_none : (T : Owners) → used_in (take 0 T) + 0 ≡ 0
kept_none T = refl
