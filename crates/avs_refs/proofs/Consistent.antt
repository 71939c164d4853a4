-- What keeps the greatest places, the outstanding ones and the listed segments consistent.
use Rattle.std.proofs.Common.{◌≡◌, ◌⊎◌, inl, inr, ℕ, ◌+◌, ◌<◌, ◌≤◌, Bool, true, false, not, ◌&&◌, ◌||◌, cond, eqb, ltb, List, [], ◌∷◌, ◌++◌, length, get_or, set, ap, subst, sym, ◌∙◌, arith}
use Rattle.std.specs.List.{All, slice_index}
use Rattle.std.specs.List.Sorted.{IsStrictlyIncreasing}
use Rattle.std.proofs.lemmas.Bool.{cases_lt, cases_eq, cases_Bool, ltb-true, ltb-false, and_parts, and_cases, not-false, eqb-true, eqb-false, eq-eqb, ne_eqb, or_cases, or_parts, or_left, or_right, or_from, and_from, cond-true, cond-false, false≢true}
use Rattle.std.proofs.lemmas.List.{length-set, length-map, get_or-set_other, get_or-map, get_or_past, map_push}
use Rattle.std.proofs.lemmas.Grind.{get_or-set_at}
use Rattle.std.proofs.lemmas.List.Elements.{All-head, All-tail, All-push}
use Rattle.avs_seg.specs.Image.{is_inside}
use Rattle.avs_refs.specs.declared.touch.Touch.{Touch}
use Rattle.avs_refs.specs.Places.{is_among}
use Rattle.avs_refs.specs.Listed.{has_at}
use Rattle.avs_refs.specs.Touches.{places_of, is_behind, is_touched_by, IsConsistent}
use Rattle.avs_refs.proofs.Rising.{is_behind_is, rising_tail, rising_push, above_head, among_all, among_more}

-- ---- the first place is retired, and the segments that no later place touched are listed

module _ (greatest : List ℕ) (touch : Touch) (rest : List Touch) (has new : List Bool) (before : IsConsistent greatest (touch ∷ rest) has) (segs : length new ≡ length greatest) (adds : (seg : ℕ) → has_at new seg ≡ (has_at has seg || (is_touched_by touch seg && eqb (slice_index greatest seg) touch.place))) where
  still_behind : (seg place : ℕ) → is_among (places_of rest) place ≡ true → place ≤ slice_index greatest seg → is_among (places_of rest) (slice_index greatest seg) ≡ true
  still_behind seg place among low =
      elim (or_cases (eqb touch.place (slice_index greatest seg)) (is_among (places_of rest) (slice_index greatest seg)) (before.behind seg place (or_right (eqb touch.place place) (is_among (places_of rest) place) among) low)) [
        | inl first ↦
            let same = eqb-true touch.place (slice_index greatest seg) first in
            let above = among_all (λ p. touch.place < p) (places_of rest) place (above_head touch.place (places_of rest) before.rising) among in
            absurd (omega arith)
        | inr later ↦ later
      ]

  still_listed : (seg : ℕ) → 0 < slice_index greatest seg → is_among (places_of rest) (slice_index greatest seg) ≡ false → has_at new seg ≡ true
  still_listed seg some none = elim (cases_eq (slice_index greatest seg) touch.place) [
    | inl is ↦
        let inside = All-head (λ (t : Touch). (s : ℕ) → slice_index greatest s ≡ t.place → is_touched_by t s ≡ true) touch rest before.own seg is in
        adds seg ∙ or_right (has_at has seg) _ (and_from (is_touched_by touch seg) (eqb (slice_index greatest seg) touch.place) inside (eq-eqb (slice_index greatest seg) touch.place is))
    | inr other ↦
        let apart : eqb touch.place (slice_index greatest seg) ≡ false = ne_eqb touch.place (slice_index greatest seg) (λ is. other (sym is)) in
        adds seg ∙ or_left (has_at has seg) _ (before.listed seg some (or_from (eqb touch.place (slice_index greatest seg)) (is_among (places_of rest) (slice_index greatest seg)) apart none))
  ]

  pub retired : IsConsistent greatest rest new
  retired = record {
    rising = rising_tail touch.place (places_of rest) before.rising;
    positive = All-tail (λ place. 0 < place) touch.place (places_of rest) before.positive;
    inside = All-tail (λ (t : Touch). t.first + t.count ≤ length greatest) touch rest before.inside;
    own = All-tail (λ (t : Touch). (s : ℕ) → slice_index greatest s ≡ t.place → is_touched_by t s ≡ true) touch rest before.own;
    behind = still_behind;
    listed = still_listed;
    segs = segs;
  }

-- ---- what the test of a segment tells

module _ (greatest : List ℕ) (touches : List Touch) (has : List Bool) (kept : IsConsistent greatest touches has) (seg : ℕ) where
  abbrev last : ℕ
  last = slice_index greatest seg

  test : is_behind (places_of touches) last ≡ not (is_among (places_of touches) last)
  test = is_behind_is (places_of touches) last kept.rising (kept.behind seg)

  pub left_yes : (ltb 0 last && is_behind (places_of touches) last) ≡ true → (0 < last) × (not (is_among (places_of touches) last) ≡ true)
  left_yes is =
      let parts = and_parts (ltb 0 last) (is_behind (places_of touches) last) is in
      (ltb-true 0 last parts.0, sym test ∙ parts.1)

  pub left_no : (ltb 0 last && is_behind (places_of touches) last) ≡ false → 0 < last → is_among (places_of touches) last ≡ true
  left_no is some = elim (and_cases (ltb 0 last) (is_behind (places_of touches) last) is) [
    | inl none ↦ absurd (let low = ltb-false 0 last none in omega arith)
    | inr not_behind ↦ not-false (is_among (places_of touches) last) (sym test ∙ not_behind)
  ]

-- ---- a segment is not listed any more

module _ (greatest : List ℕ) (touches : List Touch) (has : List Bool) (before : IsConsistent greatest touches has) (seg : ℕ) where
  -- nothing is left to give of it
  pub unlisted : (0 < slice_index greatest seg → is_among (places_of touches) (slice_index greatest seg) ≡ true) → IsConsistent greatest touches (set has seg false)
  unlisted busy = record {
    rising = before.rising;
    positive = before.positive;
    inside = before.inside;
    own = before.own;
    behind = before.behind;
    listed = λ s some none. get_or-set_other has seg s false false (λ is. both s some none is) ∙ before.listed s some none;
    segs = length-set has seg false ∙ before.segs;
  }
    where
      both : (s : ℕ) → 0 < slice_index greatest s → is_among (places_of touches) (slice_index greatest s) ≡ false → s ≡ seg → ⊥
      both s some none is =
          let P : ℕ → Type 0 = λ k. is_among (places_of touches) (slice_index greatest k) ≡ true in
          false≢true (sym none ∙ subst P (sym is) (busy (let Q : ℕ → Type 0 = λ k. 0 < slice_index greatest k in subst Q is some)))

  -- it was given
  module _ (inside : seg < length greatest) where
    abbrev now : List ℕ
    now = set greatest seg 0

    here : (s : ℕ) → s ≡ seg → slice_index now s ≡ 0
    here s is = get_or-set_at greatest seg s 0 0 is inside

    elsewhere : (s : ℕ) → (s ≡ seg → ⊥) → slice_index now s ≡ slice_index greatest s
    elsewhere s other = get_or-set_other greatest seg s 0 0 other

    place_at : (k : ℕ) (d : Touch) → k < length touches → 0 < (get_or touches k d).place
    place_at k d within =
        let numbered = before.positive k 0 (omega (arith, length-map touches (λ (t : Touch). t.place))) in
        omega (arith, get_or-map (λ (t : Touch). t.place) touches k d 0 within)

    pub given : IsConsistent now touches (set has seg false)
    given = record {
      rising = before.rising;
      positive = before.positive;
      inside = λ k d within. omega (arith, before.inside k d within, length-set greatest seg 0);
      own = λ k d within s is. elim (cases_eq s seg) [
        | inl same ↦ absurd (omega (arith, here s same, place_at k d within))
        | inr other ↦ before.own k d within s (sym (elsewhere s other) ∙ is)
      ];
      behind = λ s place among low. elim (cases_eq s seg) [
        | inl same ↦ absurd (omega (arith, here s same, among_all (λ p. 0 < p) (places_of touches) place before.positive among))
        | inr other ↦
            let P : ℕ → Type 0 = λ n. is_among (places_of touches) n ≡ true in
            subst P (sym (elsewhere s other)) (before.behind s place among (omega (arith, elsewhere s other)))
      ];
      listed = λ s some none. elim (cases_eq s seg) [
        | inl same ↦ absurd (omega (arith, here s same))
        | inr other ↦
            get_or-set_other has seg s false false other
            ∙ before.listed s (omega (arith, elsewhere s other)) (ap (λ (n : ℕ). is_among (places_of touches) n) (sym (elsewhere s other)) ∙ none)
      ];
      segs = length-set has seg false ∙ before.segs ∙ sym (length-set greatest seg 0);
    }

-- ---- a place is added, which touches some segments

module _ (greatest new : List ℕ) (touches : List Touch) (has : List Bool) (place first count : ℕ) (before : IsConsistent greatest touches has) (last : All (λ p. p < place) (places_of touches)) (greater : All (λ p. p < place) greatest) (inside : first + count ≤ length greatest) (some : 0 < count) (len : length new ≡ length greatest)
    (sets : (seg : ℕ) → seg < length greatest → slice_index new seg ≡ cond (is_inside first count seg) place (slice_index greatest seg)) where
  abbrev added : Touch
  added = record { place = place; first = first; count = count }

  above : (seg : ℕ) → slice_index greatest seg < place
  above seg = elim (cases_lt seg (length greatest)) [
    | inl within ↦ greater seg 0 within
    | inr past ↦ omega (arith, get_or_past greatest seg 0 past, greater 0 0 (omega arith))
  ]

  -- the place of a segment is the new one, or as it was
  cases : (seg : ℕ) → ((slice_index new seg ≡ place) × (is_inside first count seg ≡ true)) ⊎ (slice_index new seg ≡ slice_index greatest seg)
  cases seg = elim (cases_lt seg (length greatest)) [
    | inl within ↦ elim (cases_Bool (is_inside first count seg)) [
      | inl touched ↦ inl (sets seg within ∙ cond-true (is_inside first count seg) place (slice_index greatest seg) touched, touched)
      | inr not_touched ↦ inr (sets seg within ∙ cond-false (is_inside first count seg) place (slice_index greatest seg) not_touched)
    ]
    | inr past ↦ inr (get_or_past new seg 0 (omega arith) ∙ sym (get_or_past greatest seg 0 past))
  ]

  places_push : places_of (touches ++ added ∷ []) ≡ places_of touches ++ place ∷ []
  places_push = map_push (λ (t : Touch). t.place) touches added

  among_push : (n : ℕ) → is_among (places_of (touches ++ added ∷ [])) n ≡ (is_among (places_of touches) n || eqb place n)
  among_push n = ap (λ (l : List ℕ). is_among l n) places_push ∙ among_more (places_of touches) place n

  own_at : (k : ℕ) (d : Touch) → k < length touches → (seg : ℕ) → slice_index new seg ≡ (get_or touches k d).place → is_touched_by (get_or touches k d) seg ≡ true
  own_at k d within seg is =
      let low = last k 0 (omega (arith, length-map touches (λ (t : Touch). t.place))) in
      let at = get_or-map (λ (t : Touch). t.place) touches k d 0 within in
      elim (cases seg) [
        | inl new_place ↦ absurd (omega (arith, new_place.0))
        | inr old_place ↦ before.own k d within seg (sym old_place ∙ is)
      ]

  pub consistent : IsConsistent new (touches ++ added ∷ []) has
  consistent = record {
    rising = subst IsStrictlyIncreasing (sym places_push) (rising_push (places_of touches) place before.rising last);
    positive = subst (All (λ p. 0 < p)) (sym places_push) (All-push (λ p. 0 < p) (places_of touches) place before.positive (omega (arith, above 0)));
    inside = subst (λ (n : ℕ). All (λ (t : Touch). t.first + t.count ≤ n) (touches ++ added ∷ [])) (sym len) (All-push (λ (t : Touch). t.first + t.count ≤ length greatest) touches added before.inside inside);
    own = All-push (λ (t : Touch). (s : ℕ) → slice_index new s ≡ t.place → is_touched_by t s ≡ true) touches added own_at (λ seg is. elim (cases seg) [
      | inl new_place ↦ new_place.1
      | inr old_place ↦ absurd (omega (arith, above seg))
    ]);
    behind = λ seg p among low. elim (cases seg) [
      | inl new_place ↦ among_push (slice_index new seg) ∙ or_right (is_among (places_of touches) (slice_index new seg)) (eqb place (slice_index new seg)) (eq-eqb place (slice_index new seg) (sym new_place.0))
      | inr old_place ↦ elim (or_cases (is_among (places_of touches) p) (eqb place p) (sym (among_push p) ∙ among)) [
        | inl old ↦
            among_push (slice_index new seg)
            ∙ or_left (is_among (places_of touches) (slice_index new seg)) (eqb place (slice_index new seg)) (ap (λ (n : ℕ). is_among (places_of touches) n) old_place ∙ before.behind seg p old (omega arith))
        | inr new_one ↦ absurd (omega (arith, eqb-true place p new_one, above seg))
      ]
    ];
    listed = λ seg positive none.
        let parts = or_parts (is_among (places_of touches) (slice_index new seg)) (eqb place (slice_index new seg)) (sym (among_push (slice_index new seg)) ∙ none) in
        elim (cases seg) [
          | inl new_place ↦ absurd (eqb-false place (slice_index new seg) parts.1 (sym new_place.0))
          | inr old_place ↦ before.listed seg (omega arith) (ap (λ (n : ℕ). is_among (places_of touches) n) (sym old_place) ∙ parts.0)
        ];
    segs = before.segs ∙ sym len;
  }
