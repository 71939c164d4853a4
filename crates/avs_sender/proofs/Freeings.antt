-- Segments that a known place frees, one after another.
use Rattle.std.proofs.Common.{◌≡◌, ◌≢◌, ◌⊎◌, inl, inr, ℕ, ◌-◌, ◌≤◌, Bool, true, false, ◌||◌, ◌&&◌, not, cond, eqb, List, All, length, get_or, Ok, Err, None, Some, ◌∙◌, sym, refl, ap, subst, arith}
use Rattle.std.specs.Prelude.{nat_lt, nat_le}
use Rattle.std.proofs.lemmas.Bool.{cases_eq}
use Rattle.std.proofs.lemmas.Bool.Decides.{nat_tests}
use Rattle.std.proofs.lemmas.List.{get_or-set_same, get_or-set_other}
use Rattle.avs_seg.specs.Image.{is_inside}
use Rattle.avs_refs.specs.Places.{Places, Drains, Gives, GoesOnDraining, KeepsOutstanding, Retires, greatest_at, is_freed}
use Rattle.avs_mirrors.specs.Due.{Keys}
use Rattle.avs_halves.specs.SetBits.{SetBits}
use Rattle.avs_halves.specs.Changing.{ChangesSets, keys_of, run_of}
use Rattle.avs_sender.specs.Held.{SetPlaces}
use Rattle.avs_sender.specs.Waits.{waits_at}
use Rattle.avs_sender.specs.Freeing.{FreesPlaces, FreesSoFar, SizedAs, freed_segs, given_segs}
use Rattle.avs_halves.proofs.Following.{changes_none, changes_same, changes_then, changes_wider, changes_ok}

-- ---- one segment, over plain values: t whether it is one of the set, f whether it is freed, and its place

given_none : (t w : Bool) (was now upto : ℕ) → now ≡ was → false ≡ (t && (((nat_lt 0 was && nat_le was upto) && w) && eqb now 0))
given_none true true was now upto same = grind (arith, nat_tests)
given_none true false was now upto same = grind (arith, nat_tests)
given_none false w was now upto same = refl

given_one : (t f inside : Bool) (a b : ℕ) → ((inside ≡ true) × (f ≡ true) × (b ≡ 0)) ⊎ ((inside ≡ false) × (b ≡ a)) → ((t && (f && eqb a 0)) || (t && inside)) ≡ (t && (f && eqb b 0))
given_one false f inside a b which = refl
given_one true f inside a b (inl h) = rw (h.0, h.1, h.2) (right (true && eqb a 0))
  where
    right : (x : Bool) → (x || true) ≡ true
    right true = refl
    right false = refl
given_one true f inside a b (inr h) = rw (h.0, h.1) (left (f && eqb a 0))
  where
    left : (x : Bool) → (x || false) ≡ x
    left true = refl
    left false = refl

given_kept : (t f : Bool) (a b : ℕ) → (f ≡ false) ⊎ (b ≡ a) → (t && (f && eqb a 0)) ≡ (t && (f && eqb b 0))
given_kept t f a b (inl off) = rw off refl
given_kept t f a b (inr same) = rw same refl

given_all : (t f : Bool) (b : ℕ) → (f ≡ true → b ≡ 0) → (t && (f && eqb b 0)) ≡ (t && f)
given_all t true b zero = rw (zero refl) refl
given_all t false b zero = refl

given_part : (t f inside : Bool) (a : ℕ) → (inside ≡ true → f ≡ true) → ((t && (f && eqb a 0)) || (t && inside)) ≡ true → (t && f) ≡ true
given_part true true inside a is on = refl
given_part true false true a is on = is refl
given_part true false false a is on = on
given_part false f inside a is on = on

freed_on : (freed waits : Bool) → freed ≡ true → waits ≡ false → (freed && not waits) ≡ true
freed_on freed waits on off = rw (on, off) refl

freed_off : (freed waits : Bool) → waits ≡ true → (freed && not waits) ≡ false
freed_off true waits on = rw on refl
freed_off false waits on = refl

freed_is : (freed waits : Bool) → (freed && not waits) ≡ true → freed ≡ true
freed_is true waits on = refl
freed_is false waits on = on

one_inside : (seg : ℕ) → is_inside seg 1 seg ≡ true
one_inside seg = grind (arith, nat_tests)

other_inside : (seg g : ℕ) → g ≢ seg → is_inside seg 1 g ≡ false
other_inside seg g ne = grind (arith, nat_tests)

is_one : (seg g : ℕ) → is_inside seg 1 g ≡ true → g ≡ seg
is_one seg g on = grind (arith, nat_tests)

-- ---- the loop over the segments of a set

module _ (set_of_it : ℕ) (copying : Bool) (old : List SetBits) (was : SetPlaces) (upto : ℕ) where
  abbrev given_keys : SetPlaces → Keys
  given_keys now = keys_of set_of_it (given_segs copying was now upto)

  abbrev freed_of : Keys
  freed_of = keys_of set_of_it (freed_segs copying was upto)

  pub start : (touched : Places) → Retires was.touched upto touched → Drains was.touched upto touched → FreesSoFar set_of_it copying old was upto old (record was { touched = touched })
  start touched r d = record {
    bits = changes_same (λ t seg. false) (keys_of set_of_it (given_segs copying was (record was { touched = touched }) upto)) false old old (Ok tt)
        (λ t seg. given_none (eqb t set_of_it) (not (copying && waits_at was.waiting seg)) (greatest_at was.touched seg) (greatest_at touched seg) upto (ap (λ (l : List ℕ). get_or l seg 0) r.greatest))
        (changes_none false old tt);
    drains = d;
    waiting = refl;
    above = r.above;
    few = r.few;
  }

  module _ (new : List SetBits) (now : SetPlaces) (so : FreesSoFar set_of_it copying old was upto new now) (seg : ℕ) (touched : Places)
      (gives : Gives now.touched seg touched) (keeps : KeepsOutstanding now.touched touched) (goes : GoesOnDraining was.touched upto now.touched (Some seg) touched) where
    abbrev next : SetPlaces
    next = record now { touched = touched }

    zero_now : greatest_at touched seg ≡ 0
    zero_now = ap (λ (p : Places). greatest_at p seg) gives.given ∙ get_or-set_same now.touched.greatest seg 0 0 gives.inside

    same_now : (g : ℕ) → g ≢ seg → greatest_at touched g ≡ greatest_at now.touched g
    same_now g other = ap (λ (p : Places). greatest_at p g) gives.given ∙ get_or-set_other now.touched.greatest seg g 0 0 other

    few_now : (last : ℕ) → All (λ p. p ≤ last) was.touched.outstanding → length touched.outstanding ≤ last - upto
    few_now last all = subst (λ (l : List ℕ). length l ≤ last - upto) (sym keeps.outstanding) (so.few last all)

    -- a segment that waits keeps its bit
    kept_one : (copying && waits_at was.waiting seg) ≡ true → (t g : ℕ) → keys_of set_of_it (given_segs copying was now upto) t g ≡ keys_of set_of_it (given_segs copying was (record now { touched = touched }) upto) t g
    kept_one waits t g = given_kept (eqb t set_of_it) (freed_segs copying was upto g) (greatest_at now.touched g) (greatest_at touched g) (elim (cases_eq g seg) [
      | inl same ↦ inl (freed_off (is_freed was.touched upto g) (copying && waits_at was.waiting g) (ap (λ (k : ℕ). copying && waits_at was.waiting k) same ∙ waits))
      | inr other ↦ inr (same_now g other)
    ])

    pub kept : (copying && waits_at now.waiting seg) ≡ true → FreesSoFar set_of_it copying old was upto new (record now { touched = touched })
    kept waits = record {
      bits = changes_same (keys_of set_of_it (given_segs copying was now upto)) (keys_of set_of_it (given_segs copying was (record now { touched = touched }) upto)) false old new (Ok tt)
          (kept_one (ap (λ (l : List Bool). copying && waits_at l seg) (sym so.waiting) ∙ waits)) so.bits;
      drains = goes.0;
      waiting = so.waiting;
      above = λ k a. keeps.above k (so.above k a);
      few = few_now;
    }

    module _ (stays : (copying && waits_at now.waiting seg) ≡ false) where
      freed_here : freed_segs copying was upto seg ≡ true
      freed_here = freed_on (is_freed was.touched upto seg) (copying && waits_at was.waiting seg) goes.1 (ap (λ (l : List Bool). copying && waits_at l seg) (sym so.waiting) ∙ stays)

      freed_one : (t g : ℕ) → (keys_of set_of_it (given_segs copying was now upto) t g || run_of set_of_it seg 1 t g) ≡ keys_of set_of_it (given_segs copying was (record now { touched = touched }) upto) t g
      freed_one t g = given_one (eqb t set_of_it) (freed_segs copying was upto g) (is_inside seg 1 g) (greatest_at now.touched g) (greatest_at touched g) (elim (cases_eq g seg) [
        | inl same ↦ inl (
          ap (λ (k : ℕ). is_inside seg 1 k) same ∙ one_inside seg,
          ap (λ (k : ℕ). freed_segs copying was upto k) same ∙ freed_here,
          ap (λ (k : ℕ). greatest_at touched k) same ∙ zero_now,
        )
        | inr other ↦ inr (other_inside seg g other, same_now g other)
      ])

      pub cleared : {T E : Type 0} (sets : List SetBits) (x : T) → ChangesSets {E = E} (run_of set_of_it seg 1) false new (Ok x) sets → FreesSoFar set_of_it copying old was upto sets (record now { touched = touched })
      cleared sets x c = record {
        bits = changes_same (λ t g. keys_of set_of_it (given_segs copying was now upto) t g || run_of set_of_it seg 1 t g) (keys_of set_of_it (given_segs copying was (record now { touched = touched }) upto)) false old sets (Ok tt) freed_one
            (changes_ok (λ t g. keys_of set_of_it (given_segs copying was now upto) t g || run_of set_of_it seg 1 t g) false old sets x tt
            (changes_then (keys_of set_of_it (given_segs copying was now upto)) (run_of set_of_it seg 1) false old new sets tt so.bits (Ok x) c));
        drains = goes.0;
        waiting = so.waiting;
        above = λ k a. keeps.above k (so.above k a);
        few = few_now;
      }

      -- where the disk failed at it
      stopped_one : (t g : ℕ) → (keys_of set_of_it (given_segs copying was now upto) t g || run_of set_of_it seg 1 t g) ≡ true → keys_of set_of_it (freed_segs copying was upto) t g ≡ true
      stopped_one t g on = given_part (eqb t set_of_it) (freed_segs copying was upto g) (is_inside seg 1 g) (greatest_at now.touched g)
          (λ is. ap (λ (k : ℕ). freed_segs copying was upto k) (is_one seg g is) ∙ freed_here) on

      pub stopped : {T E : Type 0} (sets : List SetBits) (e : E) → ChangesSets {T = T} (run_of set_of_it seg 1) false new (Err e) sets → ChangesSets {T = T} (keys_of set_of_it (freed_segs copying was upto)) false old (Err e) sets
      stopped sets e c = changes_wider (λ t g. keys_of set_of_it (given_segs copying was now upto) t g || run_of set_of_it seg 1 t g) (keys_of set_of_it (freed_segs copying was upto)) false old sets e stopped_one
          (changes_then (keys_of set_of_it (given_segs copying was now upto)) (run_of set_of_it seg 1) false old new sets tt so.bits (Err e) c)

  -- the sizes stay all along
  pub sized : (new : List SetBits) (now : SetPlaces) → FreesSoFar set_of_it copying old was upto new now → SizedAs was now
  sized new now so = record { segs = so.drains.segs; room = so.drains.room; waiting = so.waiting }

  -- none is left
  module _ (new : List SetBits) (now : SetPlaces) (so : FreesSoFar set_of_it copying old was upto new now) (goes : GoesOnDraining was.touched upto now.touched None now.touched) where
    zero_freed : (g : ℕ) → freed_segs copying was upto g ≡ true → greatest_at now.touched g ≡ 0
    zero_freed g on = goes.greatest g ∙ ap (λ (b : Bool). cond b 0 (greatest_at was.touched g)) (freed_is (is_freed was.touched upto g) (copying && waits_at was.waiting g) on)

    pub all_changed : {T E : Type 0} (x : T) → ChangesSets {E = E} (keys_of set_of_it (freed_segs copying was upto)) false old (Ok x) new
    all_changed x = changes_ok (keys_of set_of_it (freed_segs copying was upto)) false old new tt x
        (changes_same (keys_of set_of_it (given_segs copying was now upto)) (keys_of set_of_it (freed_segs copying was upto)) false old new (Ok tt)
        (λ t g. given_all (eqb t set_of_it) (freed_segs copying was upto g) (greatest_at now.touched g) (zero_freed g)) so.bits)

    pub all_freed : FreesPlaces was upto now
    all_freed = record { touched = goes; waiting = so.waiting; above = so.above; few = so.few }
