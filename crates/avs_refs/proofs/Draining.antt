-- Segments that are given one by one, once a place was retired behind drained places.
use Rattle.std.proofs.Common.{◌≡◌, ◌⊎◌, inl, inr, ℕ, ◌<◌, ◌≤◌, Bool, true, false, not, ◌&&◌, cond, ltb, List, [], ◌∷◌, length, get_or, set, replicate, None, Some, ap, sym, refl, subst, ◌∙◌, arith}
use Rattle.std.specs.Prelude.{nat_lt, nat_le}
use Rattle.std.specs.List.{All}
use Rattle.std.proofs.lemmas.Bool.{cases_lt, cases_eq, cases_Bool, cond-false, le-ltb}
use Rattle.std.proofs.lemmas.Bool.Decides.{nat_tests}
use Rattle.std.proofs.lemmas.List.{get_or-set_same, get_or-set_other, get_or-replicate, get_or_past, length-replicate, length-set}
use Rattle.std.proofs.lemmas.List.Elements.{All-nil, All-head, All-tail, All-from_get_or}
use Rattle.avs_refs.specs.Places.{Places, greatest_at, is_among, places_above, is_left, is_freed, untouched, IsAbove, IsDrained, Retires, Gives, Drains, GoesOnDraining}
use Rattle.avs_refs.proofs.Rising.{is_among-filter}

both : (b : Bool) → b ≡ true → b ≡ false → ⊥
both b on off = cc

-- ---- one segment, over plain numbers: k is its place now and was its place before

left_is : (k : ℕ) (among : Bool) → (nat_lt 0 k && not among) ≡ true → (0 < k) × (among ≡ false)
left_is k true left = grind (arith, nat_tests)
left_is k false left = (grind (arith, nat_tests), refl)

not_left_is : (k : ℕ) (among : Bool) → (nat_lt 0 k && not among) ≡ false → (k ≡ 0) ⊎ (among ≡ true)
not_left_is k true left = inr refl
not_left_is k false left = inl (grind (arith, nat_tests))

freed_is : (k upto : ℕ) → (nat_lt 0 k && nat_le k upto) ≡ true → (0 < k) × (k ≤ upto)
freed_is k upto freed = (grind (arith, nat_tests), grind (arith, nat_tests))

is_freed_from : (k upto : ℕ) → 0 < k → k ≤ upto → (nat_lt 0 k && nat_le k upto) ≡ true
is_freed_from k upto some low = grind (arith, nat_tests)

above_only : (outs : List ℕ) (upto k : ℕ) → upto < k → is_among (places_above upto outs) k ≡ is_among outs k
above_only outs upto k above = is_among-filter outs upto k ∙ ap (λ (b : Bool). b && is_among outs k) (let e : ltb upto k ≡ true = grind (arith, nat_tests) in e)

none_below : (outs : List ℕ) (upto k : ℕ) → k ≤ upto → is_among (places_above upto outs) k ≡ false
none_below outs upto k low = is_among-filter outs upto k ∙ ap (λ (b : Bool). b && is_among outs k) (let e : ltb upto k ≡ false = grind (arith, nat_tests) in e)

-- no place is above one that none is above
none_above : (outs : List ℕ) (upto : ℕ) → All (λ p. p ≤ upto) outs → places_above upto outs ≡ []
none_above [] upto all = refl
none_above (x ∷ xs) upto all =
    cond-false (ltb upto x) (x ∷ places_above upto xs) (places_above upto xs) (le-ltb upto x (All-head (λ p. p ≤ upto) x xs all))
    ∙ none_above xs upto (All-tail (λ p. p ≤ upto) x xs all)

-- ---- the calls

pub drains : (old new : Places) (upto : ℕ) → Retires old upto new → Drains old upto new
drains old new upto r = record {
  outstanding = r.outstanding;
  segs = ap (λ (l : List ℕ). length l) r.greatest;
  room = r.room;
  each = λ seg. inl (ap (λ (l : List ℕ). get_or l seg 0) r.greatest);
}

module _ (start old : Places) (upto : ℕ) (drained : IsDrained start) (so_far : Drains start upto old) where
  among_now : (k : ℕ) → upto < k → is_among old.outstanding k ≡ is_among start.outstanding k
  among_now k above = ap (λ (l : List ℕ). is_among l k) so_far.outstanding ∙ above_only start.outstanding upto k above

  -- a segment that is left is one that the place frees
  freed : (seg : ℕ) → is_left old seg ≡ true → (is_freed start upto seg ≡ true) × (greatest_at old seg ≡ greatest_at start seg)
  freed seg left = elim (so_far.each seg) [
    | inl same ↦ elim (cases_lt upto (greatest_at old seg)) [
      | inl above ↦ elim (not_left_is (greatest_at start seg) (is_among start.outstanding (greatest_at start seg)) (drained.none seg)) [
        | inl none ↦ absurd (omega (arith, now.0, same, none))
        | inr busy ↦ absurd (both (is_among old.outstanding (greatest_at old seg)) (among_now (greatest_at old seg) above ∙ ap (is_among start.outstanding) same ∙ busy) now.1)
      ]
      | inr low ↦ (is_freed_from (greatest_at start seg) upto (omega (arith, now.0, same)) (omega (arith, low, same)), same)
    ]
    | inr gone ↦ absurd (omega (arith, now.0, gone.1))
  ]
    where
      now : (0 < greatest_at old seg) × (is_among old.outstanding (greatest_at old seg) ≡ false)
      now = left_is (greatest_at old seg) (is_among old.outstanding (greatest_at old seg)) left

  pub gives_freed : (seg : ℕ) (new : Places) → Gives old seg new → GoesOnDraining start upto old (Some seg) new
  gives_freed seg new g =
      let from = freed seg g.left in (
        record {
          outstanding = ap (λ (p : Places). p.outstanding) g.given ∙ so_far.outstanding;
          segs = ap (λ (p : Places). length p.greatest) g.given ∙ length-set old.greatest seg 0 ∙ so_far.segs;
          room = ap (λ (p : Places). p.room) g.given ∙ so_far.room;
          each = λ s. elim (cases_eq s seg) [
            | inl same ↦ inr (
              ap (is_freed start upto) same ∙ from.0,
              ap (λ (p : Places). greatest_at p s) g.given ∙ ap (λ (k : ℕ). get_or (set old.greatest seg 0) k 0) same ∙ get_or-set_same old.greatest seg 0 0 g.inside,
            )
            | inr other ↦ elim (so_far.each s) [
              | inl as_before ↦ inl (now s other ∙ as_before)
              | inr gone ↦ inr (gone.0, now s other ∙ gone.1)
            ]
          ];
        },
        from.0,
        from.1,
      )
    where
      now : (s : ℕ) → (s ≡ seg → ⊥) → greatest_at new s ≡ greatest_at old s
      now s other = ap (λ (p : Places). greatest_at p s) g.given ∙ get_or-set_other old.greatest seg s 0 0 other

  -- none is left, so all that the place frees were given
  module _ (none : (seg : ℕ) → is_left old seg ≡ false) where
    low_is_none : (seg : ℕ) → greatest_at old seg ≤ upto → greatest_at old seg ≡ 0
    low_is_none seg low = elim (not_left_is (greatest_at old seg) (is_among old.outstanding (greatest_at old seg)) (none seg)) [
      | inl zero ↦ zero
      | inr busy ↦ absurd (both (is_among old.outstanding (greatest_at old seg)) busy (ap (λ (l : List ℕ). is_among l (greatest_at old seg)) so_far.outstanding ∙ none_below start.outstanding upto (greatest_at old seg) low))
    ]

    greatest : (seg : ℕ) → greatest_at old seg ≡ cond (is_freed start upto seg) 0 (greatest_at start seg)
    greatest seg = elim (so_far.each seg) [
      | inl same ↦ elim (cases_Bool (is_freed start upto seg)) [
        | inl on ↦ low_is_none seg (omega (arith, same, (freed_is (greatest_at start seg) upto on).1)) ∙ sym (ap (λ (b : Bool). cond b 0 (greatest_at start seg)) on)
        | inr off ↦ same ∙ sym (ap (λ (b : Bool). cond b 0 (greatest_at start seg)) off)
      ]
      | inr gone ↦ gone.1 ∙ sym (ap (λ (b : Bool). cond b 0 (greatest_at start seg)) gone.0)
    ]

    -- no place is above it: no segment has one
    reset : All (λ p. p ≤ upto) start.outstanding → IsAbove 1 old
    reset all = record {
      outstanding = subst (All (λ p. p < 1)) (sym none_out) (All-nil (λ p. p < 1));
      greatest = All-from_get_or (λ p. p < 1) old.greatest 0 (λ k inside. no_place k (not_left_is (greatest_at old k) (is_among old.outstanding (greatest_at old k)) (none k)));
    }
      where
        none_out : old.outstanding ≡ []
        none_out = so_far.outstanding ∙ none_above start.outstanding upto all

        no_place : (k : ℕ) → (greatest_at old k ≡ 0) ⊎ (is_among old.outstanding (greatest_at old k) ≡ true) → greatest_at old k < 1
        no_place k (inl zero) = omega (arith, zero)
        no_place k (inr busy) = absurd (both (is_among old.outstanding (greatest_at old k)) busy (ap (λ (l : List ℕ). is_among l (greatest_at old k)) none_out))

    pub all_given : GoesOnDraining start upto old None old
    all_given = record {
      outstanding = so_far.outstanding;
      segs = so_far.segs;
      room = so_far.room;
      greatest = greatest;
      drained = record { none = none };
      ended = λ all. so_far.outstanding ∙ none_above start.outstanding upto all;
      reset = reset;
    }

-- at the start no segment is left
pub untouched_drained : (segs room : ℕ) → IsDrained (untouched segs room)
untouched_drained segs room = record { none = λ seg. none (greatest_at (untouched segs room) seg) (is_among [] (greatest_at (untouched segs room) seg)) (at seg) }
  where
    at : (seg : ℕ) → greatest_at (untouched segs room) seg ≡ 0
    at seg = elim (cases_lt seg segs) [
      | inl inside ↦ get_or-replicate segs seg 0 0 inside
      | inr past ↦ get_or_past (replicate segs 0) seg 0 (omega (arith, length-replicate {A = ℕ} segs 0))
    ]

    none : (k : ℕ) (among : Bool) → k ≡ 0 → (nat_lt 0 k && not among) ≡ false
    none k among is = grind (arith, nat_tests)
