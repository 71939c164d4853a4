-- Tables in parts, and what a table says that refuses nothing.
use Rattle.std.proofs.Common.{◌≡◌, List, [], ◌∷◌, ◌++◌, refl, ◌∙◌, ap, false, Bool, true, not}
use Rattle.std.specs.Prelude.{Option, Some, None, ◌||◌}
use Rattle.std.specs.Bool.{then_some}
use Rattle.std.specs.Option.{option_or, option_map}
use Rattle.avs_model.specs.declared.answer.Refusal.{Refusal}
use Rattle.avs_model.specs.Rows.{first_row}

option_or_assoc : (a b c : Option Refusal) → option_or a (option_or b c) ≡ option_or (option_or a b) c
option_or_assoc (Some why) b c = refl
option_or_assoc None b c = refl

-- a table in two parts
pub first_row-append : (xs ys : List (Option Refusal)) → first_row (xs ++ ys) ≡ option_or (first_row xs) (first_row ys)
first_row-append [] ys = refl
first_row-append (x ∷ xs) ys = ap (option_or x) (first_row-append xs ys) ∙ option_or_assoc x (first_row xs) (first_row ys)

-- the first part refuses
pub first_row-here : (xs ys : List (Option Refusal)) (why : Refusal) → first_row xs ≡ Some why → first_row (xs ++ ys) ≡ Some why
first_row-here xs ys why is = first_row-append xs ys ∙ ap (λ r. option_or r (first_row ys)) is

-- or nothing in it
pub first_row-there : (xs ys : List (Option Refusal)) → first_row xs ≡ None → first_row (xs ++ ys) ≡ first_row ys
first_row-there xs ys is = first_row-append xs ys ∙ ap (λ r. option_or r (first_row ys)) is

-- no row refuses
abbrev pub NoneRefuse : List (Option Refusal) → Type 0
NoneRefuse [] = Unit {0}
NoneRefuse (row ∷ rows) = (row ≡ None) × NoneRefuse rows

pub none_refuse : (rows : List (Option Refusal)) → first_row rows ≡ None → NoneRefuse rows
none_refuse [] is = tt
none_refuse (None ∷ rows) is = (refl, none_refuse rows is)
none_refuse (Some why ∷ rows) is = absurd (cc)

-- a part of a table that refuses nothing
pub none_here : (xs ys : List (Option Refusal)) → first_row (xs ++ ys) ≡ None → first_row xs ≡ None
none_here [] ys is = refl
none_here (None ∷ xs) ys is = none_here xs ys is
none_here (Some why ∷ xs) ys is = absurd (cc)

pub none_there : (xs ys : List (Option Refusal)) → first_row (xs ++ ys) ≡ None → first_row ys ≡ None
none_there [] ys is = is
none_there (None ∷ xs) ys is = none_there xs ys is
none_there (Some why ∷ xs) ys is = absurd (cc)

-- so its cause does not hold
pub fails : (holds : Bool) (why : Refusal) → then_some holds why ≡ None → holds ≡ false
fails false why is = refl
fails true why is = absurd (cc)

pub fails-not : (holds : Bool) (why : Refusal) → then_some (not holds) why ≡ None → holds ≡ true
fails-not true why is = refl
fails-not false why is = absurd (cc)

-- nor does either of two
pub fails-left : (a b : Bool) (why : Refusal) → then_some (a || b) why ≡ None → a ≡ false
fails-left false b why is = refl
fails-left true b why is = absurd (cc)

pub fails-right : (a b : Bool) (why : Refusal) → then_some (a || b) why ≡ None → b ≡ false
fails-right false b why is = fails b why is
fails-right true b why is = absurd (cc)

pub fails-not_left : (a b : Bool) (why : Refusal) → then_some (not a || b) why ≡ None → a ≡ true
fails-not_left true b why is = refl
fails-not_left false b why is = absurd (cc)

-- and what would be told is not there
pub fails-told : {T : Type 0} (row : T → Refusal) (told : Option T) → option_map row told ≡ None → told ≡ None
fails-told row None is = refl
fails-told row (Some t) is = absurd (cc)
