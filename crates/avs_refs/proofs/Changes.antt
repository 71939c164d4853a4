-- What adding, retiring and giving make of the places.
use Rattle.std.proofs.Common.{◌≡◌, ℕ, ◌-◌, ◌<◌, ◌≤◌, Bool, true, false, not, ◌&&◌, ◌||◌, cond, eqb, ltb, leb, List, [], ◌∷◌, ◌++◌, length, set, ap, subst, sym, refl, ◌∙◌, arith}
use Rattle.std.specs.List.{All, filter, count_by, slice_index}
use Rattle.std.specs.List.Sorted.{IsStrictlyIncreasing}
use Rattle.std.proofs.Math.Bool.{or-false}
use Rattle.std.proofs.lemmas.Bool.{ltb-true, lt-ltb, and_from, cond-true, eq-eqb, ne_eqb, or_right, cond_both}
use Rattle.std.proofs.lemmas.Bool.Decides.{nat_tests}
use Rattle.std.proofs.lemmas.List.Elements.{All-head, All-tail, All-weaker, All-push, All-from_get_or, All-filter, filter_passes}
use Rattle.std.proofs.lemmas.List.Sums.{sum_by-set}
use Rattle.std.proofs.lemmas.List.Kept.{IsStrictlyIncreasing-filter}
use Rattle.avs_refs.specs.Places.{Places, greatest_at, is_among, is_idle, is_touched, IsAbove, Adds, Retires, Gives}
use Rattle.avs_refs.proofs.Rising.{length_rising, is_among-filter, among_more}

-- ---- the places up to one are retired

filter_all : (xs : List ℕ) (upto : ℕ) → All (λ p. upto < p) xs → filter (λ p. ltb upto p) xs ≡ xs
filter_all [] upto all = refl
filter_all (x ∷ xs) upto all =
    cond-true (ltb upto x) (x ∷ filter (λ p. ltb upto p) xs) _ (lt-ltb upto x (All-head (λ p. upto < p) x xs all))
    ∙ ap (λ (l : List ℕ). x ∷ l) (filter_all xs upto (All-tail (λ p. upto < p) x xs all))

idle_now : (upto n : ℕ) (among : Bool) → not (ltb upto n && among) ≡ (not among || leb n upto)
idle_now upto n true = grind (arith, nat_tests)
idle_now upto n false = grind (arith, nat_tests)

module _ (old new : Places) (upto : ℕ) (rising : IsStrictlyIncreasing old.outstanding) (same : filter (λ p. ltb upto p) new.outstanding ≡ filter (λ p. ltb upto p) old.outstanding) (above : All (λ p. upto < p) new.outstanding) (greatest : new.greatest ≡ old.greatest) where
  outstanding : new.outstanding ≡ filter (λ p. ltb upto p) old.outstanding
  outstanding = sym (filter_all new.outstanding upto above) ∙ same

  few : (last : ℕ) → All (λ p. p ≤ last) old.outstanding → length new.outstanding ≤ last - upto
  few last below =
      let kept = filter (λ p. ltb upto p) old.outstanding in
      let bound = length_rising kept upto last (IsStrictlyIncreasing-filter (λ p. ltb upto p) old.outstanding rising)
      (All-weaker (λ p. ltb upto p ≡ true) (λ p. upto < p) (λ p is. ltb-true upto p is) kept (filter_passes (λ p. ltb upto p) old.outstanding))
      (All-filter (λ p. ltb upto p) (λ p. p ≤ last) old.outstanding below) in
      omega (arith, ap length outstanding)

  pub retires : new.room ≡ old.room → Retires old upto new
  retires room = record {
    outstanding = outstanding;
    greatest = greatest;
    idle = λ seg.
        ap (λ (l : List ℕ). not (is_among new.outstanding (slice_index l seg))) greatest
        ∙ ap (λ (l : List ℕ). not (is_among l (greatest_at old seg))) outstanding
        ∙ ap not (is_among-filter old.outstanding upto (greatest_at old seg))
        ∙ idle_now upto (greatest_at old seg) (is_among old.outstanding (greatest_at old seg));
    few = few;
    room = room;
    above = λ next was.
        let P : List ℕ → Type 0 = λ l. All (λ p. p < next) l in
        record {
          outstanding = subst P (sym outstanding) (All-filter (λ p. ltb upto p) (λ p. p < next) old.outstanding was.outstanding);
          greatest = subst P (sym greatest) was.greatest;
        };
  }

-- ---- a segment is given

pub same_places : (a b : Places) → a.greatest ≡ b.greatest → a.outstanding ≡ b.outstanding → a.room ≡ b.room → a ≡ b
same_places a b greatest places room =
    let F : List ℕ → Places = λ l. record { greatest = l; outstanding = a.outstanding; room = a.room } in
    let G : List ℕ → Places = λ l. record { greatest = b.greatest; outstanding = l; room = a.room } in
    let H : ℕ → Places = λ n. record { greatest = b.greatest; outstanding = b.outstanding; room = n } in
    ap F greatest ∙ ap G places ∙ ap H room

pub gives : (old new : Places) (seg : ℕ) → seg < length old.greatest → 0 < greatest_at old seg → is_idle old seg ≡ true → new.greatest ≡ set old.greatest seg 0 → new.outstanding ≡ old.outstanding → new.room ≡ old.room → Gives old seg new
gives old new seg inside touched idle greatest places room =
    let had = lt-ltb 0 (greatest_at old seg) touched in
    record {
      inside = inside;
      left = and_from (ltb 0 (greatest_at old seg)) (is_idle old seg) had idle;
      given = same_places new (record { greatest = set old.greatest seg 0; outstanding = old.outstanding; room = old.room }) greatest places room;
      fewer = omega (arith, sum_by-set (λ (p : ℕ). cond (ltb 0 p) 1 0) old.greatest seg 0 0 inside, cond-true {A = ℕ} (ltb 0 (greatest_at old seg)) 1 0 had, ap (λ (l : List ℕ). count_by (λ p. ltb 0 p) l) greatest);
    }

-- ---- a place is added

idle_then : (outstanding : List ℕ) (place n : ℕ) (touched : Bool) → n < place → not (is_among (outstanding ++ place ∷ []) (cond touched place n)) ≡ cond touched false (not (is_among outstanding n))
idle_then outstanding place n true low =
    ap not (among_more outstanding place place ∙ or_right (is_among outstanding place) (eqb place place) (eq-eqb place place refl))
idle_then outstanding place n false low =
    let other : eqb place n ≡ false = ne_eqb place n (λ is. omega arith) in
    ap not (among_more outstanding place n ∙ ap (λ (b : Bool). is_among outstanding n || b) other ∙ or-false (is_among outstanding n))

pub adds : (old new : Places) (place at len : ℕ) → IsAbove place old → new.outstanding ≡ old.outstanding ++ place ∷ [] → length new.greatest ≡ length old.greatest → new.room ≡ old.room → ((seg : ℕ) → seg < length old.greatest → greatest_at new seg ≡ cond (is_touched at len seg) place (greatest_at old seg)) → Adds old place at len new
adds old new place at len was places segs room sets = record {
  outstanding = places;
  segs = segs;
  greatest = sets;
  idle = λ seg within.
      ap (λ (n : ℕ). not (is_among new.outstanding n)) (sets seg within)
      ∙ ap (λ (l : List ℕ). not (is_among l (cond (is_touched at len seg) place (greatest_at old seg)))) places
      ∙ idle_then old.outstanding place (greatest_at old seg) (is_touched at len seg) (was.greatest seg 0 within);
  room = room;
  above = λ next later. record {
    outstanding = subst (All (λ p. p < next)) (sym places) (All-push (λ p. p < next) old.outstanding place (All-weaker (λ p. p < place) (λ p. p < next) (λ p low. omega arith) old.outstanding was.outstanding) later);
    greatest = All-from_get_or (λ p. p < next) new.greatest 0 (λ seg within.
        let P : ℕ → Type 0 = λ p. p < next in
        subst P (sym (sets seg (omega arith))) (cond_both (is_touched at len seg) place (greatest_at old seg) P (λ _. later) (λ _. omega (arith, was.greatest seg 0 (omega arith)))));
  };
}
