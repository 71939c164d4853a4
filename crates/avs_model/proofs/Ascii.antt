-- Names are ASCII.
use Rattle.std.proofs.Common.{◌≡◌, ℕ, ◌<◌, Bool, true, List, [], ◌∷◌, ◌++◌, length, take, drop, sym, ◌∙◌, ap, subst, inl, inr, arith}
use Rattle.std.specs.Prelude.{nat_le, nat_eq, ◌==◌, ◌&&◌, ◌||◌}
use Rattle.std.specs.List.{list_all, starts_with, slice_index}
use Rattle.std.specs.Str.{IsAscii}
use lib.Chars.{codes}
use Rattle.std.proofs.lemmas.Bool.{cases_Bool, and_parts}
use Rattle.std.proofs.lemmas.Bool.Decides.{nat_tests}
use Rattle.std.proofs.lemmas.Str.Ascii.{IsAscii-from_all}
use Rattle.std.proofs.lemmas.Str.{IsAscii-append}
use Rattle.std.specs.Cmp.Lexicographic.{same_text}
use Rattle.std.proofs.lemmas.List.{take-append-drop}
use Rattle.std.proofs.lemmas.List.Elements.{All-from_recursion}
use Rattle.std.specs.List.{AllByRecursion}
use Rattle.avs_model.specs.Names.{is_digit, is_letter, is_name_byte, is_volume_name, is_tag, is_group_name}

name_byte : (b : ℕ) → is_name_byte b ≡ true → b < 128
name_byte b is = grind (arith, nat_tests)

tag_byte : (b : ℕ) → (is_letter b || is_digit b || b == 95 || b == 45) ≡ true → b < 128
tag_byte b is = grind (arith, nat_tests)

-- bytes that all pass a test which only such bytes pass
passing : (p : ℕ → Bool) → ((b : ℕ) → p b ≡ true → b < 128) → (bytes : List ℕ) → list_all p bytes ≡ true → AllByRecursion (λ b. b < 128) bytes
passing p small [] is = tt
passing p small (b ∷ bytes) is = let parts = and_parts (p b) (list_all p bytes) is in (small b parts.0, passing p small bytes parts.1)

volume_bytes : (word : List ℕ) → is_volume_name word ≡ true → AllByRecursion (λ b. b < 128) word
volume_bytes word is =
    let long = and_parts (nat_le 2 (length word)) _ is in
    let short = and_parts (nat_le (length word) 64) _ long.1 in
    let first = and_parts (slice_index word 0 == 47) (list_all is_name_byte word) short.1 in
    passing is_name_byte name_byte word first.1

pub IsAscii-volume_name : (word : List ℕ) → is_volume_name word ≡ true → IsAscii word
IsAscii-volume_name word is = IsAscii-from_all word (All-from_recursion (λ b. b < 128) word (volume_bytes word is))

tag_bytes : (word : List ℕ) → is_tag word ≡ true → AllByRecursion (λ b. b < 128) word
tag_bytes word is =
    let long = and_parts (nat_le 1 (length word)) _ is in
    let short = and_parts (nat_le (length word) 16) _ long.1 in
    passing (λ b. is_letter b || is_digit b || b == 95 || b == 45) tag_byte word short.1

s_colon : IsAscii (codes "s:")
s_colon = IsAscii-from_all (codes "s:") (All-from_recursion (λ b. b < 128) (codes "s:") (omega arith, (omega arith, tt)))

-- `s:` and a volume's name
mirror_name : (word : List ℕ) → (starts_with nat_eq word (codes "s:") && is_volume_name (drop 2 word)) ≡ true → IsAscii word
mirror_name word is =
    let parts = and_parts (starts_with nat_eq word (codes "s:")) (is_volume_name (drop 2 word)) is in
    let front : codes "s:" ≡ take 2 word = same_text (codes "s:") (take 2 word) (sym parts.0) in
    subst IsAscii (ap (λ (l : List ℕ). l ++ drop 2 word) front ∙ take-append-drop 2 word)
    (IsAscii-append (codes "s:") (drop 2 word) s_colon (IsAscii-volume_name (drop 2 word) parts.1))

pub IsAscii-group_name : (word : List ℕ) → is_group_name word ≡ true → IsAscii word
IsAscii-group_name word is = elim (cases_Bool (is_tag word)) [
  | inl tag ↦ IsAscii-from_all word (All-from_recursion (λ b. b < 128) word (tag_bytes word tag))
  | inr other ↦ elim (cases_Bool (is_volume_name word)) [
    | inl volume ↦ IsAscii-volume_name word volume
    | inr none ↦ mirror_name word (sym (λ i. other i || none i || (starts_with nat_eq word (codes "s:") && is_volume_name (drop 2 word))) ∙ is)
  ]
]
