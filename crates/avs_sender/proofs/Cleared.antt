-- Bits that were cleared, and places that a known place frees.
use Rattle.std.proofs.Common.{◌≡◌, inl, inr, ℕ, ◌<◌, ◌≤◌, max, Bool, true, false, ◌||◌, ◌&&◌, not, cond, eqb, List, [], ◌∷◌, All, Ok, Option, None, Some, ◌∙◌, refl, ap, subst, arith}
use Rattle.std.specs.Prelude.{nat_lt, nat_le}
use Rattle.std.specs.Option.{option_map_or}
use Rattle.std.proofs.lemmas.Bool.{cases_Bool, cases_lt, eqb-true}
use Rattle.std.proofs.lemmas.Bool.Decides.{nat_tests}
use Rattle.std.proofs.lemmas.List.Elements.{All-head, All-tail}
use Rattle.avs_bits.specs.BitSet.{set_of}
use Rattle.avs_refs.specs.Places.{greatest_at, is_among, is_freed}
use Rattle.avs_mirrors.specs.Due.{Keys}
use Rattle.avs_sync.specs.declared.session.Session.{Session}
use Rattle.avs_halves.specs.SetBits.{SetBits, set_at, has_bit}
use Rattle.avs_halves.specs.Changing.{ChangesSets}
use Rattle.avs_sender.specs.Held.{SetPlaces}
use Rattle.avs_sender.specs.Kept.{ArePlacesIn}

-- ---- bits

cleared_one : (low was key now : Bool) → now ≡ cond key false was → (low && now) ≡ ((low && was) && not key)
cleared_one true true true now is = is
cleared_one true true false now is = is
cleared_one true false true now is = is
cleared_one true false false now is = is
cleared_one false was key now is = refl

pub has_cleared : {T E : Type 0} (keys : Keys) (old new : List SetBits) (x : T) → ChangesSets {E = E} keys false old (Ok x) new → (set seg : ℕ) → has_bit (set_at new set) seg ≡ (has_bit (set_at old set) seg && not (keys set seg))
has_cleared keys old new x c set seg =
    ap (λ (n : ℕ). nat_lt seg n && set_of (set_at new set).bits seg) (ap (λ (s : SetBits). s.bits.segs) (c.part set).rest)
    ∙ cleared_one (nat_lt seg (set_at old set).bits.segs) (set_of (set_at old set).bits seg) (keys set seg) (set_of (set_at new set).bits seg) ((c.done set).memory seg)

-- ---- places that are above the known one

among_all : (P : ℕ → Type 0) (xs : List ℕ) (n : ℕ) → All P xs → is_among xs n ≡ true → P n
among_all P [] n all on = absurd (no on)
  where
    no : false ≡ true → ⊥
    no is = cc
among_all P (x ∷ xs) n all on = elim (cases_Bool (eqb x n)) [
  | inl same ↦ subst P (eqb-true x n same) (All-head P x xs all)
  | inr other ↦ among_all P xs n (All-tail P x xs all) (rest (eqb x n) (is_among xs n) other on)
]
  where
    rest : (a b : Bool) → a ≡ false → (a || b) ≡ true → b ≡ true
    rest true b off on = cc
    rest false b off on = on

left_or_among : (k : ℕ) (among : Bool) → (nat_lt 0 k && not among) ≡ false → 0 < k → among ≡ true
left_or_among k true none some = refl
left_or_among k false none some = grind (arith, nat_tests)

pub later_than : (s : Session) (p : SetPlaces) (seg : ℕ) → ArePlacesIn s p → 0 < greatest_at p.touched seg → s.known < greatest_at p.touched seg
later_than s p seg in' some = among_all (λ place. s.known < place) p.touched.outstanding (greatest_at p.touched seg) in'.later
    (left_or_among (greatest_at p.touched seg) (is_among p.touched.outstanding (greatest_at p.touched seg)) (in'.drained.none seg) some)

-- so it frees the same segments as the greater one of it and the known place
same_freed : (k known applied : ℕ) → (0 < k → known < k) → (nat_lt 0 k && nat_le k (max known applied)) ≡ (nat_lt 0 k && nat_le k applied)
same_freed k known applied later = elim (cases_lt 0 k) [
  | inl some ↦ elim (cases_lt applied k) [
    | inl above ↦ neither k (max known applied) applied (let e : max known applied < k = omega (arith, later some, above) in e) above
    | inr low ↦ either k (max known applied) applied (let e : k ≤ max known applied = omega (arith, low) in e) low
  ]
  | inr none ↦ at_zero k (max known applied) applied none
]
  where
    neither : (k a b : ℕ) → a < k → b < k → (nat_lt 0 k && nat_le k a) ≡ (nat_lt 0 k && nat_le k b)
    neither k a b x y = grind (arith, nat_tests)

    either : (k a b : ℕ) → k ≤ a → k ≤ b → (nat_lt 0 k && nat_le k a) ≡ (nat_lt 0 k && nat_le k b)
    either k a b x y = grind (arith, nat_tests)

    at_zero : (k a b : ℕ) → k ≤ 0 → (nat_lt 0 k && nat_le k a) ≡ (nat_lt 0 k && nat_le k b)
    at_zero k a b none = grind (arith, nat_tests)

pub freed_at : (s : Session) (p : SetPlaces) (seg applied : ℕ) → ArePlacesIn s p → is_freed p.touched (max s.known applied) seg ≡ is_freed p.touched applied seg
freed_at s p seg applied in' = same_freed (greatest_at p.touched seg) s.known applied (later_than s p seg in')

-- ---- what is due then, of one segment: whether it has a bit, is freed, and waits, and its place before and now

abbrev pub frees_one : ℕ → Option ℕ → Bool
frees_one upto due = option_map_or (λ place. nat_lt 0 place && nat_le place upto) due false

pub freed_due_one : (upto : ℕ) (bit freed w : Bool) (was now : ℕ) → freed ≡ (nat_lt 0 was && nat_le was upto) → (bit ≡ true → now ≡ cond freed 0 was)
    → cond (bit && not (freed && not w)) (Some (cond w 0 now)) None ≡ cond (frees_one upto (cond bit (Some (cond w 0 was)) None)) None (cond bit (Some (cond w 0 was)) None)
freed_due_one upto false freed w was now is places = refl
freed_due_one upto true true true was now is places = refl
freed_due_one upto true false true was now is places = refl
freed_due_one upto true true false was now is places = rw (← is) refl
freed_due_one upto true false false was now is places = rw (← is) (ap Some (places refl))

-- and what is kept of it
pub waiting_kept : (bit freed w : Bool) → w ≡ true → bit ≡ true → (bit && not (freed && not w)) ≡ true
waiting_kept bit true w on has = rw (on, has) refl
waiting_kept bit false w on has = rw has refl

pub placed_kept : (bit freed w : Bool) → (bit && not (freed && not w)) ≡ true → w ≡ false → (bit ≡ true) × (freed ≡ false)
placed_kept true true true has off = absurd (no off)
  where
    no : true ≡ false → ⊥
    no is = cc
placed_kept true true false has off = absurd (no has)
  where
    no : false ≡ true → ⊥
    no is = cc
placed_kept true false w has off = (refl, refl)
placed_kept false freed w has off = absurd (no has)
  where
    no : false ≡ true → ⊥
    no is = cc
