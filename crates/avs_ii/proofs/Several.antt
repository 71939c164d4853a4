-- Several disks of which some change: their counts of faults, and the tears that are armed on them.
use Rattle.std.proofs.Common.{◌≡◌, ℕ, zero, suc, ◌≤◌, Bool, true, false, not, IsTrue, List, [], ◌∷◌, ◌++◌, length, set, slice_index, slice_get, Some, refl, sym, ◌∙◌, ap, subst, arith}
use Rattle.std.proofs.lemmas.List.{length-append, get_or_append_left}
use Rattle.avs_seg.specs.Causes.{Rose}
use Rattle.avs_dev.specs.Seen.{Seen, UsesTear}
use Rattle.avs_dev.specs.Devices.{NoneFell, OneRose, UsesOneTear}

-- ---- counts

pub fell_nil : NoneFell [] []
fell_nil = record { same_length = refl; each = λ i. omega arith }

pub fell_same : (l : List ℕ) → NoneFell l l
fell_same l = record { same_length = refl; each = λ i. omega arith }

pub fell_cons : (x x' : ℕ) (l l' : List ℕ) → x ≤ x' → NoneFell l l' → NoneFell (x ∷ l) (x' ∷ l')
fell_cons x x' l l' le f = record { same_length = omega (arith, f.same_length); each = each }
  where
    each : (i : ℕ) → slice_index (x ∷ l) i ≤ slice_index (x' ∷ l') i
    each zero = le
    each (suc i) = f.each i

pub fell_append : (a a' b b' : List ℕ) → NoneFell a a' → NoneFell b b' → NoneFell (a ++ b) (a' ++ b')
fell_append [] [] b b' f g = g
fell_append [] (x' ∷ a') b b' f g = elim (none (length a') f.same_length) [ ]
  where
    none : (n : ℕ) → suc n ≡ 0 → ⊥
    none n e = omega arith
fell_append (x ∷ a) [] b b' f g = elim (none (length a) f.same_length) [ ]
  where
    none : (n : ℕ) → 0 ≡ suc n → ⊥
    none n e = omega arith
fell_append (x ∷ a) (x' ∷ a') b b' f g = fell_cons x x' (a ++ b) (a' ++ b') (f.each 0) (fell_append a a' b b' (record { same_length = omega (arith, f.same_length); each = λ i. f.each (suc i) }) g)

pub rose_here : (x x' : ℕ) (l l' : List ℕ) → Rose x x' → OneRose (x ∷ l) (x' ∷ l')
rose_here x x' l l' rose = record { device = 0; there = omega arith; rose = rose }

pub rose_there : (x x' : ℕ) (l l' : List ℕ) → OneRose l l' → OneRose (x ∷ l) (x' ∷ l')
rose_there x x' l l' r = record { device = suc r.device; there = omega (arith, r.there); rose = r.rose }

pub rose_left : (a a' b b' : List ℕ) → length a' ≡ length a → OneRose a a' → OneRose (a ++ b) (a' ++ b')
rose_left a a' b b' same r =
    let was = get_or_append_left a b 0 r.device r.there in
    let now = get_or_append_left a' b' 0 r.device (omega (arith, r.there, same)) in
    record { device = r.device; there = omega (arith, r.there, length-append a b); rose = omega (arith, r.rose, was, now) }

pub rose_right : (a a' b b' : List ℕ) → length a' ≡ length a → OneRose b b' → OneRose (a ++ b) (a' ++ b')
rose_right [] [] b b' same r = r
rose_right [] (x' ∷ a') b b' same r = elim (none (length a') same) [ ]
  where
    none : (n : ℕ) → suc n ≡ 0 → ⊥
    none n e = omega arith
rose_right (x ∷ a) [] b b' same r = elim (none (length a) same) [ ]
  where
    none : (n : ℕ) → 0 ≡ suc n → ⊥
    none n e = omega arith
rose_right (x ∷ a) (x' ∷ a') b b' same r = rose_there x x' (a ++ b) (a' ++ b') (rose_right a a' b b' (omega (arith, same)) r)

-- ---- tears

is_false : (b : Bool) → IsTrue (not b) → b ≡ false
is_false true not_so = cc
is_false false not_so = refl

is_true : (b : Bool) → IsTrue b → b ≡ true
is_true true so = refl
is_true false so = cc

pub tear_here : (d d' : Seen) (l l' : List Bool) → UsesTear d d' → l' ≡ l → UsesOneTear (d.armed ∷ l) (d'.armed ∷ l')
tear_here d d' l l' u same = record { device = 0; was_armed = ap (λ (b : Bool). Some b) (is_true d.armed u.was_armed); is_used = ap (λ (b : Bool). b ∷ l') (is_false d'.armed u.is_used) ∙ ap (λ (m : List Bool). false ∷ m) same }

pub tear_there : (x x' : Bool) (l l' : List Bool) → x' ≡ x → UsesOneTear l l' → UsesOneTear (x ∷ l) (x' ∷ l')
tear_there x x' l l' same u = record { device = suc u.device; was_armed = u.was_armed; is_used = ap (λ (b : Bool). b ∷ l') same ∙ ap (λ (m : List Bool). x ∷ m) u.is_used }

pub tear_left : (a a' b b' : List Bool) → UsesOneTear a a' → b' ≡ b → UsesOneTear (a ++ b) (a' ++ b')
tear_left a a' b b' u same = go a a' u.device u.was_armed u.is_used
  where
    go : (a a' : List Bool) (n : ℕ) → slice_get a n ≡ Some true → a' ≡ set a n false → UsesOneTear (a ++ b) (a' ++ b')
    go [] a' n was is = cc
    go (x ∷ a) a' zero was is = record { device = 0; was_armed = was; is_used = ap (λ (m : List Bool). m ++ b') is ∙ ap (λ (m : List Bool). false ∷ a ++ m) same }
    go (x ∷ a) a' (suc n) was is =
        let next = go a (set a n false) n was refl in
        subst (λ (m : List Bool). UsesOneTear (x ∷ a ++ b) (m ++ b')) (sym is) (tear_there x x (a ++ b) (set a n false ++ b') refl next)

pub tear_right : (a a' b b' : List Bool) → a' ≡ a → UsesOneTear b b' → UsesOneTear (a ++ b) (a' ++ b')
tear_right a a' b b' same u = subst (λ (m : List Bool). UsesOneTear (a ++ b) (m ++ b')) (sym same) (go a)
  where
    go : (a : List Bool) → UsesOneTear (a ++ b) (a ++ b')
    go [] = u
    go (x ∷ a) = tear_there x x (a ++ b) (a ++ b') refl (go a)
