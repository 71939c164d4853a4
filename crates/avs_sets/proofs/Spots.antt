-- Disks by name: those of one set among all of its group.
use Rattle.std.proofs.Common.{◌≡◌, ◌≢◌, ◌⊎◌, inl, inr, ℕ, zero, suc, ◌<◌, Bool, cond, eqb, List, [], ◌∷◌, length, set, Result, Ok, Err, ◌∙◌, sym, refl, ap, subst, arith}
use Rattle.std.proofs.lemmas.Bool.{eq-eqb, ne_eqb}
use Rattle.avs_dev.specs.Seen.{Seen, Lasts, IsSpared, Fails}
use Rattle.avs_dev.specs.Devices.{AllGoOn}
use Rattle.avs_dev.proofs.Going.{lasts_same, spared_same}
use Rattle.avs_sets.specs.Sets.{SetSeen}
use Rattle.avs_sets.specs.Meaning.{set_of, set_in}

-- some disks by their names among others: what is none of them stays
pub record AreAmong {N M : Type 0} (a b : N → Seen) (old new : M → Seen) (at : N → M) : Type 0 where
  pub was : (n : N) → old (at n) ≡ a n
  pub now : (n : N) → new (at n) ≡ b n
  pub others : (m : M) → ((n : N) × (m ≡ at n)) ⊎ (new m ≡ old m)

module _ {N M : Type 0} (a b : N → Seen) (old new : M → Seen) (at : N → M) (among : AreAmong a b old new at) where
  each : (P : Seen → Seen → Type 0) → ((d : Seen) → P d d) → ((n : N) → P (a n) (b n)) → (m : M) → P (old m) (new m)
  each P none here m = elim (among.others m) [
    | inl (n, is) ↦ subst (λ (k : M). P (old k) (new k)) (sym is) (subst (λ (d : Seen). P d (new (at n))) (sym (among.was n)) (subst (λ (d : Seen). P (a n) d) (sym (among.now n)) (here n)))
    | inr same ↦ subst (λ (d : Seen). P (old m) d) (sym same) (none (old m))
  ]

  -- they go on, and so do all
  pub all_among : {T E : Type 0} (r : Result T E) → AllGoOn a r b → AllGoOn old r new
  all_among (Ok x) f = record { lasts = each Lasts lasts_same f.lasts; done = each IsSpared spared_same f.done; failed = tt }
  all_among (Err e) f = record {
    lasts = each Lasts lasts_same f.lasts;
    done = tt;
    failed = record {
      name = at f.failed.name;
      failed = subst (λ (d : Seen). Fails d (new (at f.failed.name))) (sym (among.was f.failed.name)) (subst (λ (d : Seen). Fails (a f.failed.name) d) (sym (among.now f.failed.name)) f.failed.failed);
      others = λ m ne. elim (among.others m) [
        | inl (n, is) ↦ subst (λ (k : M). IsSpared (old k) (new k)) (sym is)
            (subst (λ (d : Seen). IsSpared d (new (at n))) (sym (among.was n)) (subst (λ (d : Seen). IsSpared (a n) d) (sym (among.now n))
            (f.failed.others n (λ same. ne (is ∙ ap at same)))))
        | inr same ↦ subst (λ (d : Seen). IsSpared (old m) d) (sym same) (spared_same (old m))
      ];
    };
  }

-- ---- the set of a slot

pub set_in_own : (S : List SetSeen) (k : ℕ) → k < length S → ((j : ℕ) → j < length S → (set_of S j).slot ≡ (set_of S k).slot → j ≡ k) → set_in S (set_of S k).slot ≡ set_of S k
set_in_own [] k lt distinct = elim (none k lt) [ ]
  where
    none : (k : ℕ) → k < 0 → ⊥
    none k lt = omega arith
set_in_own (s ∷ S) zero lt distinct = ap (λ (b : Bool). cond b s (set_in S s.slot)) (eq-eqb s.slot s.slot refl)
set_in_own (s ∷ S) (suc k) lt distinct =
    ap (λ (b : Bool). cond b s (set_in S (set_of S k).slot)) (ne_eqb s.slot (set_of S k).slot (λ e. never k (distinct 0 (omega arith) e)))
    ∙ set_in_own S k (omega (arith, lt)) (λ j l e. less j k (distinct (suc j) (omega (arith, l)) e))
  where
    never : (k : ℕ) → 0 ≡ suc k → ⊥
    never k e = omega (arith, e)

    less : (j k : ℕ) → suc j ≡ suc k → j ≡ k
    less j k e = omega (arith, e)

pub set_in_now : (S : List SetSeen) (k : ℕ) (s' : SetSeen) → k < length S → s'.slot ≡ (set_of S k).slot → ((j : ℕ) → j < length S → (set_of S j).slot ≡ (set_of S k).slot → j ≡ k)
    → set_in (set S k s') (set_of S k).slot ≡ s'
set_in_now [] k s' lt slot distinct = elim (none k lt) [ ]
  where
    none : (k : ℕ) → k < 0 → ⊥
    none k lt = omega arith
set_in_now (s ∷ S) zero s' lt slot distinct = ap (λ (b : Bool). cond b s' (set_in S s.slot)) (eq-eqb s'.slot s.slot slot)
set_in_now (s ∷ S) (suc k) s' lt slot distinct =
    ap (λ (b : Bool). cond b s (set_in (set S k s') (set_of S k).slot)) (ne_eqb s.slot (set_of S k).slot (λ e. never k (distinct 0 (omega arith) e)))
    ∙ set_in_now S k s' (omega (arith, lt)) slot (λ j l e. less j k (distinct (suc j) (omega (arith, l)) e))
  where
    never : (k : ℕ) → 0 ≡ suc k → ⊥
    never k e = omega (arith, e)

    less : (j k : ℕ) → suc j ≡ suc k → j ≡ k
    less j k e = omega (arith, e)

pub set_in_other : (S : List SetSeen) (k : ℕ) (s' : SetSeen) (slot : ℕ) → k < length S → s'.slot ≡ (set_of S k).slot → slot ≢ (set_of S k).slot → set_in (set S k s') slot ≡ set_in S slot
set_in_other [] k s' slot lt same ne = refl
set_in_other (s ∷ S) zero s' slot lt same ne =
    ap (λ (b : Bool). cond b s' (set_in S slot)) (ne_eqb s'.slot slot (λ e. ne (sym e ∙ same)))
    ∙ sym (ap (λ (b : Bool). cond b s (set_in S slot)) (ne_eqb s.slot slot (λ e. ne (sym e))))
set_in_other (s ∷ S) (suc k) s' slot lt same ne = ap (λ (x : SetSeen). cond (eqb s.slot slot) s x) (set_in_other S k s' slot (omega (arith, lt)) same ne)
