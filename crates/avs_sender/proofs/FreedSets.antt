-- Segments of all sets that a known place frees, one set after another.
use Rattle.std.proofs.Common.{◌≡◌, ◌≢◌, inl, inr, ℕ, ◌+◌, ◌<◌, ◌≤◌, Bool, true, false, ◌||◌, ◌&&◌, not, eqb, List, length, map, get_or, set, Ok, Err, ◌∙◌, sym, refl, ap, subst, arith, length-set}
use Rattle.std.specs.Prelude.{nat_lt, nat_le}
use Rattle.std.proofs.lemmas.Bool.{cases_lt, cases_eq}
use Rattle.std.proofs.lemmas.Bool.Decides.{nat_tests}
use Rattle.std.proofs.lemmas.List.{get_or-map, get_or-set_same, get_or-set_other, get_or_past, length-map}
use Rattle.avs_refs.specs.Places.{greatest_at}
use Rattle.avs_mirrors.specs.Due.{Keys}
use Rattle.avs_halves.specs.SetBits.{SetBits, set_at}
use Rattle.avs_halves.specs.Changing.{ChangesSets, keys_of}
use Rattle.avs_sender.specs.Held.{SetPlaces}
use Rattle.avs_sender.specs.Meaning.{no_places}
use Rattle.avs_sender.specs.Waits.{waits_at}
use Rattle.avs_sender.specs.SenderView.{set_places}
use Rattle.avs_sender.specs.declared.tracked.Tracked.{Tracked}
use Rattle.avs_sender.specs.Freeing.{AreSizedAs, CanFree, FreesBelow, FreesEach, FreesPlaces, SizedAs, freed_keys, freed_segs, set_places_at}
use Rattle.avs_halves.proofs.Following.{changes_none, changes_same, changes_then, changes_wider, changes_ok}

-- ---- over plain values

none_below : (t : ℕ) (f : Bool) → false ≡ (nat_lt t 0 && f)
none_below t f = grind (arith, nat_tests)

more_below : (t i : ℕ) (f g : Bool) → (t ≡ i → g ≡ f) → ((nat_lt t i && f) || (eqb t i && g)) ≡ (nat_lt t (i + 1) && f)
more_below t i f g same = elim (cases_eq t i) [
  | inl is ↦ rw (same is) (at_one t i f is)
  | inr other ↦ at_other t i f g other
]
  where
    at_one : (t i : ℕ) (f : Bool) → t ≡ i → ((nat_lt t i && f) || (eqb t i && f)) ≡ (nat_lt t (i + 1) && f)
    at_one t i f is = grind (arith, nat_tests)

    at_other : (t i : ℕ) (f g : Bool) → t ≢ i → ((nat_lt t i && f) || (eqb t i && g)) ≡ (nat_lt t (i + 1) && f)
    at_other t i f g other = grind (arith, nat_tests)

any_below : (t i : ℕ) (f g : Bool) → (t ≡ i → g ≡ f) → ((nat_lt t i && f) || (eqb t i && g)) ≡ true → f ≡ true
any_below t i f g same on = after (nat_lt t (i + 1)) f (sym (more_below t i f g same) ∙ on)
  where
    after : (a f : Bool) → (a && f) ≡ true → f ≡ true
    after true f on = on
    after false true on = refl
    after false false on = on

all_below : (t n : ℕ) (f : Bool) → (n ≤ t → f ≡ false) → (nat_lt t n && f) ≡ f
all_below t n true past = elim (cases_lt t n) [ inl low ↦ on t n low | inr high ↦ absurd (no (past high)) ]
  where
    on : (t n : ℕ) → t < n → (nat_lt t n && true) ≡ true
    on t n low = grind (arith, nat_tests)

    no : true ≡ false → ⊥
    no is = cc
all_below t n false past = off (nat_lt t n)
  where
    off : (a : Bool) → (a && false) ≡ false
    off true = refl
    off false = refl

-- where there is no set nothing is freed
none_past : (upto k : ℕ) (b : Bool) → k ≡ 0 → ((nat_lt 0 k && nat_le k upto) && b) ≡ false
none_past upto k b zero = grind (arith, nat_tests)

-- what is freed has as many segments as before
pub sized_freed : (old new : SetPlaces) (upto : ℕ) → FreesPlaces old upto new → SizedAs old new
sized_freed old new upto f = record { segs = f.touched.segs; room = f.touched.room; waiting = f.waiting }

pub sized_same : (old new : SetPlaces) → new ≡ old → SizedAs old new
sized_same old new same = record {
  segs = ap (λ (p : SetPlaces). length p.touched.greatest) same;
  room = ap (λ (p : SetPlaces). p.touched.room) same;
  waiting = ap (λ (p : SetPlaces). p.waiting) same;
}

-- ---- the loop

module _ (copying : Bool) (old : List SetBits) (was : List SetPlaces) (upto : ℕ) where
  abbrev below_keys : ℕ → Keys
  below_keys i t seg = nat_lt t i && freed_keys copying was upto t seg

  pub none_freed : FreesBelow copying old was upto 0 old was
  none_freed = record {
    bits = changes_same (λ t seg. false) (λ t seg. nat_lt t 0 && freed_keys copying was upto t seg) false old old (Ok tt) (λ t seg. none_below t (freed_keys copying was upto t seg)) (changes_none false old tt);
    count = refl;
    below = λ t low. absurd (omega (arith, low));
    above = λ t high. refl;
  }

  module _ (i : ℕ) (new : List SetBits) (now : List SetPlaces) (so : FreesBelow copying old was upto i new now) (q : SetPlaces) (is : q ≡ set_places_at now i) where
    same_here : q ≡ set_places_at was i
    same_here = is ∙ so.above i (omega arith)

    same_keys : (t seg : ℕ) → t ≡ i → freed_segs copying q upto seg ≡ freed_keys copying was upto t seg
    same_keys t seg at = ap (λ (p : SetPlaces). freed_segs copying p upto seg) same_here ∙ ap (λ (k : ℕ). freed_segs copying (set_places_at was k) upto seg) (sym at)

    module _ (lt : i < length now) (r : SetPlaces) where
      here : set_places_at (set now i r) i ≡ r
      here = get_or-set_same now i r no_places lt

      there : (t : ℕ) → t ≢ i → set_places_at (set now i r) t ≡ set_places_at now t
      there t other = get_or-set_other now i t r no_places other

      pub more_freed : {T E : Type 0} (sets : List SetBits) (x : T) → ChangesSets {E = E} (keys_of i (freed_segs copying q upto)) false new (Ok x) sets → FreesPlaces q upto r → FreesBelow copying old was upto (i + 1) sets (set now i r)
      more_freed sets x c f = record {
        bits = changes_same (λ t seg. (nat_lt t i && freed_keys copying was upto t seg) || keys_of i (freed_segs copying q upto) t seg) (λ t seg. nat_lt t (i + 1) && freed_keys copying was upto t seg) false old sets (Ok tt)
            (λ t seg. more_below t i (freed_keys copying was upto t seg) (freed_segs copying q upto seg) (same_keys t seg))
            (changes_ok (λ t seg. (nat_lt t i && freed_keys copying was upto t seg) || keys_of i (freed_segs copying q upto) t seg) false old sets x tt
            (changes_then (λ t seg. nat_lt t i && freed_keys copying was upto t seg) (keys_of i (freed_segs copying q upto)) false old new sets tt so.bits (Ok x) c));
        count = length-set now i r ∙ so.count;
        below = λ t low. elim (cases_eq t i) [
          | inl at ↦ subst (λ (k : ℕ). FreesPlaces (set_places_at was k) upto (set_places_at (set now i r) k)) (sym at) (subst (λ (p : SetPlaces). FreesPlaces (set_places_at was i) upto p) (sym here) (subst (λ (p : SetPlaces). FreesPlaces p upto r) same_here f))
          | inr other ↦ subst (λ (p : SetPlaces). FreesPlaces (set_places_at was t) upto p) (sym (there t other)) (so.below t (omega arith))
        ];
        above = λ t high. there t (omega (arith, high)) ∙ so.above t (omega (arith, high));
      }

      pub stops_freed : {T E : Type 0} (sets : List SetBits) (e : E) → ChangesSets {T = T} (keys_of i (freed_segs copying q upto)) false new (Err e) sets → ChangesSets {T = T} (freed_keys copying was upto) false old (Err e) sets
      stops_freed sets e c = changes_wider (λ t seg. (nat_lt t i && freed_keys copying was upto t seg) || keys_of i (freed_segs copying q upto) t seg) (freed_keys copying was upto) false old sets e
          (λ t seg on. any_below t i (freed_keys copying was upto t seg) (freed_segs copying q upto seg) (same_keys t seg) on)
          (changes_then (λ t seg. nat_lt t i && freed_keys copying was upto t seg) (keys_of i (freed_segs copying q upto)) false old new sets tt so.bits (Err e) c)

      pub sized_then : SizedAs q r → AreSizedAs was (set now i r)
      sized_then s = record {
        count = length-set now i r ∙ so.count;
        each = λ t. elim (cases_eq t i) [
          | inl at ↦ subst (λ (k : ℕ). SizedAs (set_places_at was k) (set_places_at (set now i r) k)) (sym at) (subst (λ (p : SetPlaces). SizedAs (set_places_at was i) p) (sym here) (subst (λ (p : SetPlaces). SizedAs p r) same_here s))
          | inr other ↦ elim (cases_lt t i) [
            | inl low ↦ subst (λ (p : SetPlaces). SizedAs (set_places_at was t) p) (sym (there t other)) (sized_freed (set_places_at was t) (set_places_at now t) upto (so.below t low))
            | inr high ↦ sized_same (set_places_at was t) (set_places_at (set now i r) t) (there t other ∙ so.above t high)
          ]
        ];
      }

  -- behind the last set
  module _ (n : ℕ) (new : List SetBits) (now : List SetPlaces) (so : FreesBelow copying old was upto n new now) (end : length was ≤ n) where
    past : (t seg : ℕ) → n ≤ t → freed_keys copying was upto t seg ≡ false
    past t seg high = subst (λ (p : SetPlaces). freed_segs copying p upto seg ≡ false) (sym (get_or_past was t no_places (omega (arith, end, high)))) (nothing seg)
      where
        nothing : (seg : ℕ) → freed_segs copying no_places upto seg ≡ false
        nothing seg = none_past upto (greatest_at no_places.touched seg) (not (copying && waits_at no_places.waiting seg)) (get_or_past no_places.touched.greatest seg 0 (omega arith))

    pub all_sets : {T E : Type 0} (x : T) → ChangesSets {E = E} (freed_keys copying was upto) false old (Ok x) new
    all_sets x = changes_ok (freed_keys copying was upto) false old new tt x
        (changes_same (λ t seg. nat_lt t n && freed_keys copying was upto t seg) (freed_keys copying was upto) false old new (Ok tt)
        (λ t seg. all_below t n (freed_keys copying was upto t seg) (past t seg)) so.bits)

    pub each_freed : FreesEach was upto now
    each_freed = record { each = λ t low. so.below t (omega (arith, low, end)) }

    pub sized_all : AreSizedAs was now
    sized_all = record {
      count = so.count;
      each = λ t. elim (cases_lt t n) [
        | inl low ↦ sized_freed (set_places_at was t) (set_places_at now t) upto (so.below t low)
        | inr high ↦ sized_same (set_places_at was t) (set_places_at now t) (so.above t high)
      ];
    }

-- ---- in the code's lists

module _ (items : List Tracked) (i : ℕ) (t : Tracked) (lt : i < length items) where
  pub view_is : set_places (get_or items i t) ≡ set_places_at (map set_places items) i
  view_is = sym (get_or-map set_places items i t no_places lt)

  pub view_low : i < length (map set_places items)
  view_low = subst (λ (n : ℕ). i < n) (sym (length-map items set_places)) lt

-- a set is freed where it is its turn
pub can_then : (copying : Bool) (old new : List SetBits) (was now : List SetPlaces) (upto i : ℕ) (q : SetPlaces) → FreesBelow copying old was upto i new now → q ≡ set_places_at now i → CanFree (set_at old i) (set_places_at was i) → CanFree (set_at new i) q
can_then copying old new was now upto i q so is can =
    let same : q ≡ set_places_at was i = is ∙ so.above i (omega arith) in
    let segs : (set_at new i).bits.segs ≡ (set_at old i).bits.segs = ap (λ (s : SetBits). s.bits.segs) (so.bits.part i).rest in
    subst (λ (p : SetPlaces). CanFree (set_at new i) p) (sym same) (record { segs = can.segs ∙ sym segs; waiting = can.waiting ∙ sym segs; drained = can.drained })
