-- Bits of segments that are named in lists are set one after another.
use Rattle.std.proofs.Common.{◌≡◌, ℕ, ◌+◌, ◌<◌, ◌≤◌, Bool, true, false, ◌&&◌, ◌||◌, eqb, List, [], length, take, drop, get_or, All, Result, Ok, Err, ◌∙◌, sym, refl, ap, subst, arith}
use Rattle.std.specs.List.{list_any}
use Rattle.std.proofs.lemmas.Bool.{or_left}
use Rattle.std.proofs.lemmas.Bool.Decides.{nat_tests}
use Rattle.std.proofs.lemmas.List.{take-append-drop, take_all}
use Rattle.std.proofs.lemmas.List.Elements.{All-get_or}
use Rattle.std.proofs.lemmas.List.Folds.{list_any-append, list_any_more}
use Rattle.avs_seg.specs.Image.{is_inside}
use Rattle.avs_mirrors.specs.Due.{Keys}
use Rattle.avs_halves.specs.SetBits.{SetBits, set_at}
use Rattle.avs_halves.specs.Changing.{ChangesSets, keys_of, run_of}
use Rattle.avs_halves.specs.Marks.{AreMarks, AreSegments, IsMark, Mark, in_list, marked}
use Rattle.avs_halves.proofs.Following.{changes_none, changes_ok, changes_err, changes_same, changes_then, changes_wider}

segs_same : {T E : Type 0} (keys : Keys) (on : Bool) (old new : List SetBits) (r : Result T E) → ChangesSets keys on old r new → (set : ℕ) → (set_at new set).bits.segs ≡ (set_at old set).bits.segs
segs_same keys on old new r c set = ap (λ (s : SetBits). s.bits.segs) (c.part set).rest

pub segments_same : {T E : Type 0} (keys : Keys) (on : Bool) (old new : List SetBits) (r : Result T E) (set : ℕ) (list : List ℕ) → ChangesSets keys on old r new → AreSegments old set list → AreSegments new set list
segments_same keys on old new r set list c are = subst (λ (n : ℕ). All (λ seg. seg < n) list) (sym (segs_same keys on old new r c set)) are

-- what the first of a list settle is settled by all
pub any_front : {X : Type 0} (p : X → Bool) (list : List X) (k : ℕ) → list_any p (take k list) ≡ true → list_any p list ≡ true
any_front {X = X} p list k is =
    ap (λ (l : List X). list_any p l) (sym (take-append-drop k list))
    ∙ list_any-append p (take k list) (drop k list)
    ∙ or_left (list_any p (take k list)) (list_any p (drop k list)) is

-- ---- a list

one_inside : (n seg : ℕ) → eqb n seg ≡ is_inside n 1 seg
one_inside n seg = grind (arith, nat_tests)

pub list_more : (list : List ℕ) (i seg : ℕ) → i < length list → in_list (take (i + 1) list) seg ≡ (in_list (take i list) seg || is_inside (get_or list i 0) 1 seg)
list_more list i seg low = list_any_more (λ n. eqb n seg) list i 0 low ∙ ap (λ (b : Bool). in_list (take i list) seg || b) (one_inside (get_or list i 0) seg)

and_or : (a b c : Bool) → (a && (b || c)) ≡ ((a && b) || (a && c))
and_or true b c = refl
and_or false b c = refl

and_right : (a b c : Bool) → (b ≡ true → c ≡ true) → (a && b) ≡ true → (a && c) ≡ true
and_right true b c wider is = wider is
and_right false b c wider is = is

abbrev pub list_front_keys : ℕ → List ℕ → ℕ → Keys
list_front_keys set list k = keys_of set (in_list (take k list))

module _ {E : Type 0} (sets : List SetBits) (set : ℕ) (list : List ℕ) where
  pub list_none : ChangesSets {T = Unit {0}} {E = E} (keys_of set (in_list (take 0 list))) true sets (Ok tt) sets
  list_none = changes_same {T = Unit {0}} {E = E} (λ t s. false) (list_front_keys set list 0) true sets sets (Ok (tt {0})) (λ t s. none (eqb t set)) (changes_none {T = Unit {0}} {E = E} true sets (tt {0}))
    where
      none : (b : Bool) → false ≡ (b && false)
      none true = refl
      none false = refl

  module _ (i : ℕ) (now next : List SetBits) (low : i < length list) (so : ChangesSets {T = Unit {0}} {E = E} (keys_of set (in_list (take i list))) true sets (Ok tt) now) where
    both : (t s : ℕ) → (list_front_keys set list i t s || run_of set (get_or list i 0) 1 t s) ≡ list_front_keys set list (i + 1) t s
    both t s = sym (ap (λ (b : Bool). eqb t set && b) (list_more list i s low) ∙ and_or (eqb t set) (in_list (take i list) s) (is_inside (get_or list i 0) 1 s))

    goes_on : (r : Result (Unit {0}) E) → ChangesSets (run_of set (get_or list i 0) 1) true now r next → ChangesSets (list_front_keys set list (i + 1)) true sets r next
    goes_on r c = changes_same (λ t s. list_front_keys set list i t s || run_of set (get_or list i 0) 1 t s) (list_front_keys set list (i + 1)) true sets next r both (changes_then (list_front_keys set list i) (run_of set (get_or list i 0) 1) true sets now next tt so r c)

    pub list_goes : (u : Unit {0}) → ChangesSets {E = E} (run_of set (get_or list i 0) 1) true now (Ok u) next → ChangesSets {T = Unit {0}} {E = E} (keys_of set (in_list (take (i + 1) list))) true sets (Ok tt) next
    list_goes u c = changes_ok (list_front_keys set list (i + 1)) true sets next u tt (goes_on (Ok u) c)

    pub list_stops : {T E' : Type 0} (e : E) (e' : E') → ChangesSets {T = Unit {0}} (run_of set (get_or list i 0) 1) true now (Err e) next → ChangesSets {T = T} (keys_of set (in_list list)) true sets (Err e') next
    list_stops {T = T} e e' c = changes_err (keys_of set (in_list list)) true sets next e e'
        (changes_wider (list_front_keys set list (i + 1)) (keys_of set (in_list list)) true sets next e (λ t s is. and_right (eqb t set) (in_list (take (i + 1) list) s) (in_list list s) (any_front (λ n. eqb n s) list (i + 1)) is) (goes_on (Err e) c))

-- ---- a list for each of several sets

abbrev pub no_mark : Mark
no_mark = (0, [])

abbrev pub mark_at : List Mark → ℕ → Mark
mark_at marks i = get_or marks i no_mark

pub mark_there : (sets : List SetBits) (marks : List Mark) (i : ℕ) → i < length marks → AreMarks sets marks → IsMark sets (mark_at marks i)
mark_there sets marks i low are = All-get_or (IsMark sets) marks i no_mark low are.each

-- the sets stay there, with their segments
pub mark_same : {T E : Type 0} (keys : Keys) (on : Bool) (old new : List SetBits) (r : Result T E) (marks : List Mark) (i : ℕ) → i < length marks → ChangesSets keys on old r new → AreMarks old marks → IsMark new (mark_at marks i)
mark_same keys on old new r marks i low c are = record {
  there = subst (λ (n : ℕ). (mark_at marks i).0 < n) (sym c.count) m.there;
  segs = segments_same keys on old new r (mark_at marks i).0 (mark_at marks i).1 c m.segs;
}
  where
    m : IsMark old (mark_at marks i)
    m = mark_there old marks i low are

abbrev pub marks_front : List Mark → ℕ → Keys
marks_front marks k = marked (take k marks)

module _ {E : Type 0} (sets : List SetBits) (marks : List Mark) where
  pub marks_none : ChangesSets {T = Unit {0}} {E = E} (marked (take 0 marks)) true sets (Ok tt) sets
  marks_none = changes_none {T = Unit {0}} {E = E} true sets (tt {0})

  pub marks_all : (i : ℕ) (now : List SetBits) (u : Unit {0}) → length marks ≤ i → ChangesSets {T = Unit {0}} {E = E} (marked (take i marks)) true sets (Ok tt) now → ChangesSets {T = Unit {0}} {E = E} (marked marks) true sets (Ok u) now
  marks_all i now u end c = changes_ok (marked marks) true sets now tt u (subst (λ (l : List Mark). ChangesSets {T = Unit {0}} {E = E} (marked l) true sets (Ok tt) now) (take_all i marks end) c)

  module _ (i : ℕ) (now next : List SetBits) (low : i < length marks) (so : ChangesSets {T = Unit {0}} {E = E} (marked (take i marks)) true sets (Ok tt) now) where
    abbrev here : Keys
    here = keys_of (mark_at marks i).0 (in_list (mark_at marks i).1)

    one_more : (r : Result (Unit {0}) E) → ChangesSets here true now r next → ChangesSets (marks_front marks (i + 1)) true sets r next
    one_more r c = changes_same (λ t s. marks_front marks i t s || here t s) (marks_front marks (i + 1)) true sets next r
        (λ t s. sym (list_any_more (λ (m : Mark). eqb t m.0 && in_list m.1 s) marks i no_mark low))
        (changes_then (marks_front marks i) here true sets now next tt so r c)

    pub marks_go : (u : Unit {0}) → ChangesSets {E = E} (keys_of (mark_at marks i).0 (in_list (mark_at marks i).1)) true now (Ok u) next → ChangesSets {T = Unit {0}} {E = E} (marked (take (i + 1) marks)) true sets (Ok tt) next
    marks_go u c = changes_ok (marks_front marks (i + 1)) true sets next u tt (one_more (Ok u) c)

    pub marks_stop : {T E' : Type 0} (e : E) (e' : E') → ChangesSets {T = Unit {0}} (keys_of (mark_at marks i).0 (in_list (mark_at marks i).1)) true now (Err e) next → ChangesSets {T = T} (marked marks) true sets (Err e') next
    marks_stop {T = T} e e' c = changes_err (marked marks) true sets next e e'
        (changes_wider (marks_front marks (i + 1)) (marked marks) true sets next e (λ t s is. any_front (λ (m : Mark). eqb t m.0 && in_list m.1 s) marks (i + 1) is) (one_more (Err e) c))
