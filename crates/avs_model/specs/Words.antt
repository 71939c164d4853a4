-- Words of a line, numbers and patterns.
use Rattle.std.specs.Prelude.{ℕ, ◌+◌, ◌*◌, ◌-◌, ◌/◌, ◌^◌, ◌<◌, IsTrue, Bool, not, ◌&&◌, ◌||◌, ◌==◌, nat_lt, nat_le, Option, None, Some, List, [], ◌∷◌, length, slice_index, if◌then◌else◌}
use Rattle.std.specs.Option.{option_map}
use Rattle.std.specs.List.{list_all}
use Rattle.avs_model.specs.Names.{is_digit}
use Rattle.avs_model.specs.Filling.{is_pattern_length}

-- space, tab and carriage return stand between words
abbrev pub is_blank : ℕ → Bool
is_blank b = b == 32 || b == 9 || b == 13

-- a byte that is no blank, in front of these bytes, whose words these are: it begins their first word where no blank follows it
abbrev pub onto_word : ℕ → List ℕ → List (List ℕ) → List (List ℕ)
onto_word b [] words = (b ∷ []) ∷ words
onto_word b (c ∷ bytes) [] = (b ∷ []) ∷ []
onto_word b (c ∷ bytes) (word ∷ words) = if is_blank c then (b ∷ []) ∷ word ∷ words else (b ∷ word) ∷ words

-- the words of a line
abbrev pub words_of : List ℕ → List (List ℕ)
words_of [] = []
words_of (b ∷ bytes) = if is_blank b then words_of bytes else onto_word b bytes (words_of bytes)

-- a word: some bytes, none of them a blank
pub record IsWord (word : List ℕ) : Type 0 where
  pub some : 0 < length word
  pub unbroken : IsTrue (list_all (λ b. not (is_blank b)) word)

-- the number that decimal digits stand for, behind those that stand for n
abbrev pub value_behind : ℕ → List ℕ → ℕ
value_behind n [] = n
value_behind n (d ∷ digits) = value_behind (10 * n + (d - 48)) digits

-- decimal digits without a leading zero, or `0`
abbrev pub is_numeral : List ℕ → Bool
is_numeral word = nat_lt 0 (length word) && (list_all is_digit word && (length word == 1 || not (slice_index word 0 == 48)))

-- the number that a word is, at most 2^32 - 1
abbrev pub number : List ℕ → Option ℕ
number word = if is_numeral word && nat_lt (value_behind 0 word) (2 ^ 32) then Some (value_behind 0 word) else None

-- a lower-case hexadecimal digit
abbrev pub is_hex : ℕ → Bool
is_hex b = is_digit b || (nat_le 97 b && nat_le b 102)

abbrev pub hex_value : ℕ → ℕ
hex_value b = if is_digit b then b - 48 else b - 87

-- the bytes that pairs of hexadecimal digits stand for
abbrev pub hex_bytes : List ℕ → Option (List ℕ)
hex_bytes [] = Some []
hex_bytes (a ∷ []) = None
hex_bytes (a ∷ b ∷ digits) = if is_hex a && is_hex b then option_map (λ bytes. (16 * hex_value a + hex_value b) ∷ bytes) (hex_bytes digits) else None

-- the pattern that a word is: 2, 4, 8, 16 or 32 such digits
abbrev pub pattern : List ℕ → Option (List ℕ)
pattern word = if is_pattern_length (length word / 2) then hex_bytes word else None
