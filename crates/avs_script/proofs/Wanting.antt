-- Want of memory.
use Rattle.std.proofs.Common.{◌≡◌, ◌↔◌, Option, None, Some, Result, Err, refl, sym, ◌∙◌, ap}
use Rattle.std.specs.Option.{option_map}
use Rattle.std.specs.Prelude.{IsSome}
use Rattle.avs_script.specs.declared.error.LineError.{LineError}
use Rattle.avs_script.specs.declared.error.LineError.TheVariants.{Bad, NoMemory}

-- where bad is answered exactly at none, memory is wanted only for some
pub wanting-some : {A B : Type 0} (result : Result A LineError) (found : Option B) → ((result ≡ Err Bad) ↔ (found ≡ None)) → result ≡ Err NoMemory → IsSome found
wanting-some result None bad wants = let e : Err NoMemory ≡ Err Bad = sym wants ∙ bad.1 refl in absurd (cc)
wanting-some result (Some found) bad wants = refl

none_before : {A B : Type 0} (f : A → B) (named : Option A) → option_map f named ≡ None → named ≡ None
none_before f None is = refl
none_before f (Some x) is = absurd (cc)

same_error : {A : Type 0} (a b : LineError) (result : Result A LineError) → result ≡ Err a → result ≡ Err b → a ≡ b
same_error a b result is_a is_b = let e : Err a ≡ Err b = sym is_a ∙ is_b in cc

-- a disk's name is bad exactly where the event is
pub bad-disk : {A B C : Type 0} (why : LineError) (read : Result A LineError) (named : Option A) (f : A → B) (event : Option B) (result : Result C LineError) → read ≡ Err why → ((read ≡ Err Bad) ↔ (named ≡ None))
    → event ≡ option_map f named → result ≡ Err why → ((result ≡ Err Bad) ↔ (event ≡ None))
bad-disk why read named f event result is bad same gives = (
  (λ wrong. same ∙ ap (option_map f) (bad.0 (is ∙ ap Err (same_error why Bad result gives wrong)))),
  (λ none. gives ∙ ap Err (same_error why Bad read is (bad.1 (none_before f named (sym same ∙ none))))),
)
