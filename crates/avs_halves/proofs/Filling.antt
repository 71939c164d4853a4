-- Sets that are named are there, with their segments; and their slots are cleared one after another.
use Rattle.std.proofs.Common.{◌≡◌, ◌≢◌, ◌⊎◌, inl, inr, ℕ, suc, ◌+◌, ◌<◌, ◌≤◌, Bool, true, false, ◌&&◌, ◌||◌, not, eqb, List, [], ◌∷◌, length, take, ◌∙◌, sym, refl, ap, subst, arith}
use Rattle.std.specs.Prelude.{nat_lt}
use Rattle.std.specs.List.{All}
use Rattle.std.specs.Int.{bit_at}
use Rattle.std.proofs.lemmas.Bool.{cases_eq, eqb-true, eq-eqb}
use Rattle.std.proofs.lemmas.Bool.Decides.{nat_tests}
use Rattle.std.proofs.lemmas.List.{take_all}
use Rattle.std.proofs.lemmas.List.Folds.{list_any_more}
use Rattle.avs_halves.specs.SetBits.{SetBits, set_at}
use Rattle.avs_halves.specs.Found.{is_filled}
use Rattle.avs_halves.specs.Marks.{AreMarks, AreNamedFilled, IsMark, Mark, in_list, marked, named}
use Rattle.avs_halves.proofs.Markings.{any_front, mark_at, no_mark}

no_true : false ≡ true → ⊥
no_true is = cc

pub either : (a b : Bool) → (a || b) ≡ true → (a ≡ true) ⊎ (b ≡ true)
either true b is = inl refl
either false b is = inr is

left_on : (a b : Bool) → a ≡ true → (a || b) ≡ true
left_on a b on = rw on refl

right_on : (a b : Bool) → b ≡ true → (a || b) ≡ true
right_on true b on = refl
right_on false b on = on

-- a named set is there
all_there : (sets : List SetBits) (marks : List Mark) (set : ℕ) → All (IsMark sets) marks → named marks set ≡ true → set < length sets
all_there sets [] set all on = absurd (no_true on)
all_there sets (m ∷ ms) set all on = elim (either (eqb set m.0) (named ms set) on) [
  | inl same ↦ subst (λ (k : ℕ). k < length sets) (sym (eqb-true set m.0 same)) (all 0 m (omega arith)).there
  | inr more ↦ all_there sets ms set (λ k d low. all (suc k) d (omega (arith, low))) more
]

pub named_there : (sets : List SetBits) (marks : List Mark) (set : ℕ) → AreMarks sets marks → named marks set ≡ true → set < length sets
named_there sets marks set are on = all_there sets marks set are.each on

-- ---- marked segments are segments of their sets

among_low : (list : List ℕ) (n seg : ℕ) → All (λ k. k < n) list → in_list list seg ≡ true → seg < n
among_low [] n seg all is = absurd (no_true is)
among_low (x ∷ xs) n seg all is = elim (either (eqb x seg) (in_list xs seg) is) [
  | inl same ↦ subst (λ (k : ℕ). k < n) (eqb-true x seg same) (all 0 0 (omega arith))
  | inr more ↦ among_low xs n seg (λ k d low. all (suc k) d (omega (arith, low))) more
]

both_on : (a b : Bool) → (a && b) ≡ true → (a ≡ true) × (b ≡ true)
both_on true b is = (refl, is)
both_on false b is = absurd (no_true is)

all_inside : (sets : List SetBits) (marks : List Mark) (set seg : ℕ) → All (IsMark sets) marks → marked marks set seg ≡ true → seg < (set_at sets set).bits.segs
all_inside sets [] set seg all on = absurd (no_true on)
all_inside sets (m ∷ ms) set seg all on = elim (either (eqb set m.0 && in_list m.1 seg) (marked ms set seg) on) [
  | inl here ↦ let b = both_on (eqb set m.0) (in_list m.1 seg) here in
      subst (λ (k : ℕ). seg < (set_at sets k).bits.segs) (sym (eqb-true set m.0 b.0)) (among_low m.1 (set_at sets m.0).bits.segs seg (all 0 m (omega arith)).segs b.1)
  | inr more ↦ all_inside sets ms set seg (λ k d low. all (suc k) d (omega (arith, low))) more
]

low_on : (a b : ℕ) → a < b → nat_lt a b ≡ true
low_on a b low = grind (arith, nat_tests)

pub marks_inside : (sets : List SetBits) (marks : List Mark) (set seg : ℕ) → AreMarks sets marks → marked marks set seg ≡ true → nat_lt seg (set_at sets set).bits.segs ≡ true
marks_inside sets marks set seg are on = low_on seg (set_at sets set).bits.segs (all_inside sets marks set seg are.each on)

-- ---- their slots are cleared one after another

pub none_filled : (sets : List SetBits) (marks : List Mark) (old : ℕ) → AreNamedFilled sets (take 0 marks) old old
none_filled sets marks old = record { sets_are = λ set on. absurd (no_true on); others = λ slot low un. refl }

pub all_named : (sets : List SetBits) (marks : List Mark) (old i now : ℕ) → length marks ≤ i → AreNamedFilled sets (take i marks) old now → AreNamedFilled sets marks old now
all_named sets marks old i now end so = subst (λ (l : List Mark). AreNamedFilled sets l old now) (take_all i marks end) so

filled_by : (slot now : ℕ) → bit_at now slot ≡ 0 → is_filled now slot ≡ true
filled_by slot now is = ap (λ (k : ℕ). not (eqb k 1)) is

module _ (sets : List SetBits) (marks : List Mark) (old i now next : ℕ) (are : AreMarks sets marks) (slots : (set : ℕ) → set < length sets → (set_at sets set).slot < 16)
    (there : i < length marks) (so : AreNamedFilled sets (take i marks) old now)
    (here : bit_at next (set_at sets (mark_at marks i).0).slot ≡ 0) (apart : (k : ℕ) → k < 16 → k ≢ (set_at sets (mark_at marks i).0).slot → bit_at next k ≡ bit_at now k) where
  more : (set : ℕ) → named (take (i + 1) marks) set ≡ (named (take i marks) set || eqb set (mark_at marks i).0)
  more set = list_any_more (λ (m : Mark). eqb set m.0) marks i no_mark there

  before : (set : ℕ) → named (take i marks) set ≡ true → is_filled next (set_at sets set).slot ≡ true
  before set on = elim (cases_eq (set_at sets set).slot (set_at sets (mark_at marks i).0).slot) [
    | inl same ↦ filled_by (set_at sets set).slot next (ap (λ (k : ℕ). bit_at next k) same ∙ here)
    | inr other ↦ ap (λ (k : ℕ). not (eqb k 1)) (apart (set_at sets set).slot (slots set (named_there sets marks set are (any_front (λ (m : Mark). eqb set m.0) marks i on))) other) ∙ so.sets_are set on
  ]

  pub one_filled : AreNamedFilled sets (take (i + 1) marks) old next
  one_filled = record {
    sets_are = λ set on. elim (either (named (take i marks) set) (eqb set (mark_at marks i).0) (sym (more set) ∙ on)) [
      | inl was ↦ before set was
      | inr is ↦ subst (λ (k : ℕ). is_filled next (set_at sets k).slot ≡ true) (sym (eqb-true set (mark_at marks i).0 is)) (filled_by (set_at sets (mark_at marks i).0).slot next here)
    ];
    others = λ slot low un. apart slot low (λ is. un (mark_at marks i).0 (more (mark_at marks i).0 ∙ right_on (named (take i marks) (mark_at marks i).0) (eqb (mark_at marks i).0 (mark_at marks i).0) (eq-eqb (mark_at marks i).0 (mark_at marks i).0 refl)) (sym is))
        ∙ so.others slot low (λ set on. un set (more set ∙ left_on (named (take i marks) set) (eqb set (mark_at marks i).0) on));
  }
