-- Places of the segments of all sets, one set after another.
use Rattle.std.proofs.Common.{◌≡◌, ◌≢◌, inl, inr, ℕ, ◌+◌, ◌<◌, ◌≤◌, Bool, true, false, ◌&&◌, List, [], ◌∷◌, ◌++◌, length, set, take, replicate, get_or, get_or-set_same, get_or-set_other, length-set, ◌∙◌, sym, refl, ap, subst, arith}
use Rattle.std.specs.Prelude.{nat_lt}
use Rattle.std.proofs.lemmas.Bool.{cases_eq, cases_lt}
use Rattle.std.proofs.lemmas.Bool.Decides.{nat_tests}
use Rattle.std.proofs.lemmas.List.{get_or_past, get_or-replicate, length-replicate, map_push, take_more}
use Rattle.avs_halves.specs.SetBits.{SetBits, has_bit, no_set, set_at}
use Rattle.avs_sender.specs.Held.{SetPlaces}
use Rattle.avs_sender.specs.Meaning.{no_places}
use Rattle.avs_sender.specs.Places.{NoneWaits, WaitsForBits, no_places_for, places_for, places_in}

pub track_more : (writes : ℕ) (sets : List SetBits) (i : ℕ) (places next : List SetPlaces) (p : SetPlaces) → i < length sets → places ≡ places_for writes (take i sets) → next ≡ places ++ p ∷ [] → p ≡ no_places_for writes (set_at sets i).bits.segs
    → next ≡ places_for writes (take (i + 1) sets)
track_more writes sets i places next p low so more is =
    more ∙ (λ k. so k ++ is k ∷ [])
    ∙ sym (map_push (λ (s : SetBits). no_places_for writes s.bits.segs) (take i sets) (set_at sets i))
    ∙ sym (ap (λ (l : List SetBits). places_for writes l) (take_more sets i no_set low))

-- ---- segments that wait

-- of the segments below one those that have a bit wait
pub record WaitsBelow (segs : ℕ → Bool) (i : ℕ) (old now : List Bool) : Type 0 where
  pub len : length now ≡ length old
  pub each : (s : ℕ) → get_or now s false ≡ (nat_lt s i && segs s)

none_low : (s : ℕ) (b : Bool) → false ≡ (nat_lt s 0 && b)
none_low s b = grind (arith, nat_tests)

none_waits : (n s : ℕ) → get_or (replicate n false) s false ≡ false
none_waits n s = elim (cases_lt s n) [
  | inl low ↦ get_or-replicate n s false false low
  | inr past ↦ get_or_past (replicate n false) s false (omega (arith, past, length-replicate n false))
]

pub waits_none : (segs : ℕ → Bool) (n : ℕ) (now : List Bool) → now ≡ replicate n false → WaitsBelow segs 0 now now
waits_none segs n now is = record { len = refl; each = λ s. ap (λ (l : List Bool). get_or l s false) is ∙ none_waits n s ∙ none_low s (segs s) }

more_same : (i : ℕ) (b : Bool) → b ≡ true → true ≡ (nat_lt i (i + 1) && b)
more_same i b on = grind (arith, nat_tests)

more_other : (s i : ℕ) (b : Bool) → s ≢ i → (nat_lt s i && b) ≡ (nat_lt s (i + 1) && b)
more_other s i b other = grind (arith, nat_tests)

not_more : (s i : ℕ) (b : Bool) → (s ≡ i → b ≡ false) → (nat_lt s i && b) ≡ (nat_lt s (i + 1) && b)
not_more s i b none = grind (arith, nat_tests)

pub waits_more : (segs : ℕ → Bool) (i : ℕ) (old now : List Bool) → i < length now → segs i ≡ true → WaitsBelow segs i old now → WaitsBelow segs (i + 1) old (set now i true)
waits_more segs i old now low on so = record {
  len = length-set now i true ∙ so.len;
  each = λ s. elim (cases_eq s i) [
    | inl same ↦ subst (λ (k : ℕ). get_or (set now i true) k false ≡ (nat_lt k (i + 1) && segs k)) (sym same) (get_or-set_same now i true false low ∙ more_same i (segs i) on)
    | inr other ↦ get_or-set_other now i s true false other ∙ so.each s ∙ more_other s i (segs s) other
  ];
}

pub waits_not : (segs : ℕ → Bool) (i : ℕ) (old now : List Bool) → segs i ≡ false → WaitsBelow segs i old now → WaitsBelow segs (i + 1) old now
waits_not segs i old now off so = record { len = so.len; each = λ s. so.each s ∙ not_more s i (segs s) (λ same. ap segs same ∙ off) }

all_low : (s n : ℕ) (b : Bool) → (nat_lt s n && (nat_lt s n && b)) ≡ (nat_lt s n && b)
all_low s n b = grind (arith, nat_tests)

-- ---- sets whose segments wait

pub record SetsWaitBelow (sets : List SetBits) (i : ℕ) (old now : List SetPlaces) : Type 0 where
  pub count : length now ≡ length old
  pub touched : (set : ℕ) → (places_in now set).touched ≡ (places_in old set).touched
  pub segs : (set : ℕ) → length (places_in now set).waiting ≡ length (places_in old set).waiting
  pub waits : (set seg : ℕ) → set < i → get_or (places_in now set).waiting seg false ≡ has_bit (set_at sets set) seg
  pub none : (set : ℕ) → i ≤ set → set < length sets → (places_in now set).waiting ≡ replicate (set_at sets set).bits.segs false

pub sets_none : (sets : List SetBits) (now : List SetPlaces) → NoneWaits sets now → SetsWaitBelow sets 0 now now
sets_none sets now n = record {
  count = refl;
  touched = λ set. refl;
  segs = λ set. refl;
  waits = λ set seg low. absurd (omega (arith, low));
  none = λ set from there. n.each set there;
}

pub sets_more : (sets : List SetBits) (i : ℕ) (old now : List SetPlaces) (p : SetPlaces) → i < length now → SetsWaitBelow sets i old now → p.touched ≡ (places_in now i).touched → length p.waiting ≡ length (places_in now i).waiting
    → ((seg : ℕ) → get_or p.waiting seg false ≡ has_bit (set_at sets i) seg) → SetsWaitBelow sets (i + 1) old (set now i p)
sets_more sets i old now p low so touched segs waits = record {
  count = length-set now i p ∙ so.count;
  touched = λ t. elim (cases_eq t i) [
    | inl same ↦ subst (λ (k : ℕ). (places_in (set now i p) k).touched ≡ (places_in old k).touched) (sym same) (ap (λ (q : SetPlaces). q.touched) here ∙ touched ∙ so.touched i)
    | inr other ↦ ap (λ (q : SetPlaces). q.touched) (there t other) ∙ so.touched t
  ];
  segs = λ t. elim (cases_eq t i) [
    | inl same ↦ subst (λ (k : ℕ). length (places_in (set now i p) k).waiting ≡ length (places_in old k).waiting) (sym same) (ap (λ (q : SetPlaces). length q.waiting) here ∙ segs ∙ so.segs i)
    | inr other ↦ ap (λ (q : SetPlaces). length q.waiting) (there t other) ∙ so.segs t
  ];
  waits = λ t seg below. elim (cases_eq t i) [
    | inl same ↦ subst (λ (k : ℕ). get_or (places_in (set now i p) k).waiting seg false ≡ has_bit (set_at sets k) seg) (sym same) (ap (λ (q : SetPlaces). get_or q.waiting seg false) here ∙ waits seg)
    | inr other ↦ ap (λ (q : SetPlaces). get_or q.waiting seg false) (there t other) ∙ so.waits t seg (omega (arith, below, other))
  ];
  none = λ t from inside. ap (λ (q : SetPlaces). q.waiting) (there t (omega (arith, from))) ∙ so.none t (omega (arith, from)) inside;
}
  where
    here : places_in (set now i p) i ≡ p
    here = get_or-set_same now i p no_places low

    there : (t : ℕ) → t ≢ i → places_in (set now i p) t ≡ places_in now t
    there t other = get_or-set_other now i t p no_places other

pub sets_wait : (sets : List SetBits) (i : ℕ) (old now : List SetPlaces) → length sets ≤ i → SetsWaitBelow sets i old now → WaitsForBits sets old now
sets_wait sets i old now end so = record {
  count = so.count;
  touched = so.touched;
  segs = so.segs;
  waits = λ set seg there. so.waits set seg (omega (arith, there, end));
}
