-- A list of all names, in which each has one number: for worked examples.
use Rattle.std.proofs.Common.{◌≡◌, inl, inr, ℕ, zero, suc, ◌+◌, ◌*◌, ◌<◌, Bool, true, false, nat_eq, [], ◌∷◌, ◌∙◌, refl, sym, ap, arith}
use Rattle.std.specs.Str.{bytes_eq}
use Rattle.std.proofs.lemmas.Bool.{cases_Bool}
use Rattle.avs_model.specs.Hosts.{Name}
use Rattle.avs_mirrors.specs.PairOf.{HaveOwnNames}
use Rattle.avs_pair.proofs.HalfMoves.{sends_not}
use Rattle.avs_pair.proofs.Named.{name_self, same_name}

-- ---- names are counted: the empty one is 0, and one of the first part a and a rest that is n is 2^a * (2 n + 1)

lead : ℕ → ℕ → ℕ
lead zero n = 2 * n + 1
lead (suc a) n = 2 * lead a n

count : Name → ℕ
count [] = 0
count (a ∷ name) = lead a (count name)

doubled : Name → Name
doubled [] = []
doubled (a ∷ name) = suc a ∷ name

next : Name → Name
next [] = 0 ∷ []
next (zero ∷ name) = doubled (next name)
next (suc a ∷ name) = 0 ∷ a ∷ name

pub counted : ℕ → Name
counted zero = []
counted (suc n) = next (counted n)

doubled_count : (name : Name) → count (doubled name) ≡ 2 * count name
unfolding doubled count lead
doubled_count [] = refl
doubled_count (a ∷ name) = refl

after_two : (a b c : ℕ) → a ≡ 2 * b → b ≡ c + 1 → a ≡ 2 * c + 1 + 1
after_two a b c one two = omega (arith, one, two)

one_more : (a n : ℕ) → a ≡ n → a + 1 ≡ suc n
one_more a n is = omega (arith, is)

next_count : (name : Name) → count (next name) ≡ count name + 1
unfolding next count lead
next_count [] = refl
next_count (zero ∷ name) = after_two (count (doubled (next name))) (count (next name)) (count name) (doubled_count (next name)) (next_count name)
next_count (suc a ∷ name) = refl

counted_count : (n : ℕ) → count (counted n) ≡ n
unfolding counted count
counted_count zero = refl
counted_count (suc n) = next_count (counted n) ∙ one_more (count (counted n)) n (counted_count n)

-- ---- and no two are the same number

twice_some : (n : ℕ) → 0 < n → 0 < 2 * n
twice_some n some = omega (arith, some)

lead_some : (a n : ℕ) → 0 < lead a n
unfolding lead
lead_some zero n = omega arith
lead_some (suc a) n = twice_some (lead a n) (lead_some a n)

odd_same : (a b : ℕ) → 2 * a + 1 ≡ 2 * b + 1 → a ≡ b
odd_same a b is = omega (arith, is)

even_same : (a b : ℕ) → 2 * a ≡ 2 * b → a ≡ b
even_same a b is = omega (arith, is)

odd_even : (a b : ℕ) → 2 * a + 1 ≡ 2 * b → ⊥
odd_even a b is = omega (arith, is)

none_some : (n : ℕ) → 0 < n → 0 ≡ n → ⊥
none_some n some is = omega (arith, some, is)

lead_same : (a b n m : ℕ) → lead a n ≡ lead b m → (a ≡ b) × (n ≡ m)
unfolding lead
lead_same zero zero n m is = (refl, odd_same n m is)
lead_same zero (suc b) n m is = absurd (odd_even n (lead b m) is)
lead_same (suc a) zero n m is = absurd (odd_even m (lead a n) (sym is))
lead_same (suc a) (suc b) n m is = let l : (a ≡ b) × (n ≡ m) = lead_same a b n m (even_same (lead a n) (lead b m) is) in (ap suc l.0, l.1)

count_same : (a b : Name) → count a ≡ count b → a ≡ b
unfolding count
count_same [] [] is = refl
count_same [] (b ∷ other) is = absurd (none_some (lead b (count other)) (lead_some b (count other)) is)
count_same (a ∷ name) [] is = absurd (none_some (lead a (count name)) (lead_some a (count name)) (sym is))
count_same (a ∷ name) (b ∷ other) is =
    let l : (a ≡ b) × (count name ≡ count other) = lead_same a b (count name) (count other) is in
    ap (λ (n : ℕ). n ∷ name) l.0 ∙ ap (λ (rest : Name). b ∷ rest) (count_same name other l.1)

-- ---- the list: the number 0 has a name that is not empty, and the empty one is the number 1

abbrev pub all_names : ℕ → Name
all_names zero = 0 ∷ []
all_names (suc zero) = []
all_names (suc (suc n)) = counted (suc (suc n))

abbrev swapped : ℕ → ℕ
swapped zero = 1
swapped (suc zero) = 0
swapped (suc (suc n)) = suc (suc n)

pub number_of : Name → ℕ
number_of name = swapped (count name)

swapped_twice : (n : ℕ) → swapped (swapped n) ≡ n
swapped_twice zero = refl
swapped_twice (suc zero) = refl
swapped_twice (suc (suc n)) = refl

named_as : (key : ℕ) → all_names key ≡ counted (swapped key)
unfolding counted next
named_as zero = refl
named_as (suc zero) = refl
named_as (suc (suc n)) = refl

pub numbered : (key : ℕ) → number_of (all_names key) ≡ key
unfolding number_of
numbered key = ap (λ (name : Name). swapped (count name)) (named_as key) ∙ ap swapped (counted_count (swapped key)) ∙ swapped_twice key

equal : (a b : ℕ) → a ≡ b → nat_eq a b ≡ true
equal a b is = grind arith

each_own : (a b : ℕ) → bytes_eq (all_names a) (all_names b) ≡ nat_eq a b
each_own a b = elim (cases_Bool (bytes_eq (all_names a) (all_names b))) [
  | inl is ↦
      let same : a ≡ b = sym (numbered a) ∙ ap number_of (same_name (all_names a) (all_names b) is) ∙ numbered b in
      is ∙ sym (equal a b same)
  | inr off ↦ off ∙ sym (other (nat_eq a b) refl off)
]
  where
    other : (c : Bool) → nat_eq a b ≡ c → bytes_eq (all_names a) (all_names b) ≡ false → c ≡ false
    other false is off = refl
    other true is off =
        let same : a ≡ b = grind arith in
        absurd (sends_not (bytes_eq (all_names a) (all_names b)) (ap (λ (n : ℕ). bytes_eq (all_names a) (all_names n)) (sym same) ∙ name_self (all_names a)) off)

pub have_own_names : HaveOwnNames all_names
unfolding number_of
have_own_names = record {
  each = each_own;
  all = λ name. (number_of name, named_as (swapped (count name)) ∙ ap counted (swapped_twice (count name)) ∙ count_same (counted (count name)) name (counted_count (count name)));
}
