-- Bits of segments that are named in lists are set one after another.
use Rattle.std.proofs.Common.{◌≡◌, ◌≢◌, ◌⊎◌, inl, inr, ℕ, suc, ◌+◌, ◌<◌, ◌≤◌, Bool, true, false, ◌&&◌, ◌||◌, eqb, List, [], ◌∷◌, length, get_or, All, Result, Ok, Err, ◌∙◌, sym, refl, ap, subst, arith}
use Rattle.std.specs.Prelude.{nat_lt}
use Rattle.std.proofs.lemmas.Bool.{cases_eq, cases_lt, eqb-true}
use Rattle.std.proofs.lemmas.Bool.Decides.{nat_tests}
use Rattle.std.proofs.lemmas.List.{get_or_past}
use Rattle.avs_seg.specs.Image.{is_inside}
use Rattle.avs_mirrors.specs.Due.{Keys}
use Rattle.avs_halves.specs.SetBits.{SetBits, set_at}
use Rattle.avs_halves.specs.Changing.{ChangesSets, keys_of}
use Rattle.avs_sender.specs.Noting.{AreLists, in_lists}
use Rattle.avs_halves.specs.Marks.{in_list}
use Rattle.avs_sender.specs.Beginning.{begun_keys}
use Rattle.avs_halves.proofs.Following.{changes_none, changes_ok, changes_err, changes_same, changes_then, changes_wider}
use Rattle.avs_sender.proofs.Noted.{AreInside}

-- ---- a list for each set

same_set : (i : ℕ) (x : Bool) → ((nat_lt i i && x) || (eqb i i && x)) ≡ (nat_lt (i) (i + 1) && x)
same_set i x = grind (arith, nat_tests)

other_set : (set i : ℕ) (x y : Bool) → set ≢ i → ((nat_lt set i && x) || (eqb set i && y)) ≡ (nat_lt set (i + 1) && x)
other_set set i x y other = grind (arith, nat_tests)

low_or : (set n : ℕ) (x : Bool) → (n ≤ set → x ≡ false) → (nat_lt set n && x) ≡ x
low_or set n x past = grind (arith, nat_tests)

and_snd : (a b : Bool) → (a && b) ≡ true → b ≡ true
and_snd true b is = is
and_snd false true is = refl
and_snd false false is = is

-- those of the first sets
abbrev pub lists_below : List (List ℕ) → ℕ → Keys
lists_below lists i set seg = nat_lt set i && in_lists lists set seg

module _ {E : Type 0} (sets : List SetBits) (lists : List (List ℕ)) where
  pub lists_none : ChangesSets {T = Unit {0}} {E = E} (lists_below lists 0) true sets (Ok tt) sets
  lists_none = changes_same {T = Unit {0}} {E = E} (λ t s. false) (lists_below lists 0) true sets sets (Ok (tt {0})) (λ t s. none t (in_lists lists t s)) (changes_none {T = Unit {0}} {E = E} true sets (tt {0}))
    where
      none : (t : ℕ) (b : Bool) → false ≡ (nat_lt t 0 && b)
      none t b = grind (arith, nat_tests)

  pub lists_all : (i : ℕ) (now : List SetBits) (u : Unit {0}) → length lists ≤ i → ChangesSets {T = Unit {0}} {E = E} (lists_below lists i) true sets (Ok tt) now → ChangesSets {T = Unit {0}} {E = E} (in_lists lists) true sets (Ok u) now
  lists_all i now u end c = changes_ok (in_lists lists) true sets now tt u
      (changes_same {T = Unit {0}} {E = E} (lists_below lists i) (in_lists lists) true sets now (Ok (tt {0})) (λ t s. low_or t i (in_lists lists t s) (λ past. ap (λ (l : List ℕ). in_list l s) (get_or_past lists t [] (omega (arith, past, end))))) c)

  module _ (i : ℕ) (now next : List SetBits) (so : ChangesSets {T = Unit {0}} {E = E} (lists_below lists i) true sets (Ok tt) now) where
    pair : (t s : ℕ) → (lists_below lists i t s || (keys_of i (in_list (get_or lists i []))) t s) ≡ lists_below lists (i + 1) t s
    pair t s = elim (cases_eq t i) [
      | inl same ↦ subst (λ (k : ℕ). ((nat_lt k i && in_lists lists k s) || (eqb k i && in_list (get_or lists i []) s)) ≡ (nat_lt k (i + 1) && in_lists lists k s)) (sym same) (same_set i (in_lists lists i s))
      | inr other ↦ other_set t i (in_lists lists t s) (in_list (get_or lists i []) s) other
    ]

    go_on : (r : Result (Unit {0}) E) → ChangesSets (keys_of i (in_list (get_or lists i []))) true now r next → ChangesSets (lists_below lists (i + 1)) true sets r next
    go_on r c = changes_same (λ t s. lists_below lists i t s || (keys_of i (in_list (get_or lists i []))) t s) (lists_below lists (i + 1)) true sets next r pair (changes_then (lists_below lists i) (keys_of i (in_list (get_or lists i []))) true sets now next tt so r c)

    pub lists_go : (u : Unit {0}) → ChangesSets {E = E} (keys_of i (in_list (get_or lists i []))) true now (Ok u) next → ChangesSets {T = Unit {0}} {E = E} (lists_below lists (i + 1)) true sets (Ok tt) next
    lists_go u c = changes_ok (lists_below lists (i + 1)) true sets next u tt (go_on (Ok u) c)

    pub lists_stop : {T E' : Type 0} (e : E) (e' : E') → ChangesSets {T = Unit {0}} (keys_of i (in_list (get_or lists i []))) true now (Err e) next → ChangesSets {T = T} (in_lists lists) true sets (Err e') next
    lists_stop {T = T} e e' c = changes_err (in_lists lists) true sets next e e'
        (changes_wider (lists_below lists (i + 1)) (in_lists lists) true sets next e (λ t s is. and_snd (nat_lt t (i + 1)) (in_lists lists t s) is) (go_on (Err e) c))

-- ---- the keys of a beginning

low_on : (a b : ℕ) → a < b → nat_lt a b ≡ true
low_on a b low = grind (arith, nat_tests)

no_true : false ≡ true → ⊥
no_true is = cc

either : (a b : Bool) → (a || b) ≡ true → (a ≡ true) ⊎ (b ≡ true)
either true b is = inl refl
either false b is = inr is

among_low : (list : List ℕ) (n seg : ℕ) → All (λ k. k < n) list → in_list list seg ≡ true → seg < n
among_low [] n seg all is = absurd (no_true is)
among_low (x ∷ xs) n seg all is = elim (either (eqb x seg) (in_list xs seg) is) [
  | inl same ↦ subst (λ (k : ℕ). k < n) (eqb-true x seg same) (all 0 0 (omega arith))
  | inr more ↦ among_low xs n seg (λ k d low. all (suc k) d (omega (arith, low))) more
]

every_low : (n seg : ℕ) → is_inside 0 n seg ≡ true → nat_lt seg n ≡ true
every_low n seg is = grind (arith, nat_tests)

pub begun_inside : (full : Bool) (sets : List SetBits) (theirs : List (List ℕ)) → (full ≡ false → AreLists sets theirs) → AreInside sets (begun_keys full sets theirs)
begun_inside true sets theirs lists = record { each = λ set seg is. every_low (set_at sets set).bits.segs seg is }
begun_inside false sets theirs lists = record { each = λ set seg is. at set seg is }
  where
    of : AreLists sets theirs
    of = lists refl

    at : (set seg : ℕ) → in_lists theirs set seg ≡ true → nat_lt seg (set_at sets set).bits.segs ≡ true
    at set seg is = elim (cases_lt set (length sets)) [
      | inl there ↦ low_on seg (set_at sets set).bits.segs (among_low (get_or theirs set []) (set_at sets set).bits.segs seg (of.each set there) is)
      | inr past ↦ absurd (no_true (ap (λ (l : List ℕ). in_list l seg) (sym (get_or_past theirs set [] (omega (arith, past, of.count)))) ∙ is))
    ]
