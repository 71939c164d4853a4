-- Patterns, a byte at a time.
use Rattle.std.proofs.Common.{◌≡◌, ℕ, ◌+◌, ◌*◌, ◌%◌, ◌/◌, ◌<◌, ◌≤◌, true, cond, ◌&&◌, Option, Some, None, List, [], ◌∷◌, ◌++◌, length, get_or, set, take, drop, refl, sym, ◌∙◌, ap, inl, inr, append_assoc, arith}
use Rattle.std.proofs.lemmas.Bool.{cases_Bool, cond-true, cond-false}
use Rattle.std.proofs.lemmas.List.{drop_more, drop_all, take_more_set, append-nil}
use Rattle.std.proofs.lemmas.Iterator.Adapters.{option_map_id}
use Rattle.std.specs.Option.{option_map}
use Rattle.avs_model.specs.Words.{is_hex, hex_value, hex_bytes, pattern}
use Rattle.avs_model.specs.Filling.{is_pattern_length}
use Rattle.std.proofs.lemmas.Bool.Decides.{nat_tests}

-- the byte that two digits stand for, and none where one of them is none
abbrev pub hex_byte : ℕ → ℕ → Option ℕ
hex_byte high low = cond (is_hex high && is_hex low) (Some (16 * hex_value high + hex_value low)) None

-- a byte in front of those that digits stand for
abbrev onto_bytes : ℕ → Option (List ℕ) → Option (List ℕ)
onto_bytes byte bytes = option_map (λ bytes. byte ∷ bytes) bytes

hex_bytes-pair : (high low byte : ℕ) (digits : List ℕ) → Some byte ≡ hex_byte high low → hex_bytes (high ∷ low ∷ digits) ≡ onto_bytes byte (hex_bytes digits)
hex_bytes-pair high low byte digits is = elim (cases_Bool (is_hex high && is_hex low)) [
  | inl both ↦
      let value = 16 * hex_value high + hex_value low in
      let e : Some byte ≡ Some value = is ∙ cond-true (is_hex high && is_hex low) (Some value) None both in
      let same : value ≡ byte = cc in
      cond-true (is_hex high && is_hex low) (onto_bytes value (hex_bytes digits)) None both ∙ ap (λ b. onto_bytes b (hex_bytes digits)) same
  | inr other ↦
      let value = 16 * hex_value high + hex_value low in
      let e : Some byte ≡ None = is ∙ cond-false (is_hex high && is_hex low) (Some value) None other in absurd (cc)
]

-- an odd number of digits
pub hex_bytes-odd : (digits : List ℕ) → ¬ (length digits % 2 ≡ 0) → hex_bytes digits ≡ None
hex_bytes-odd [] odd = absurd (odd refl)
hex_bytes-odd (high ∷ []) odd = refl
hex_bytes-odd (high ∷ low ∷ digits) odd = elim (cases_Bool (is_hex high && is_hex low)) [
  | inl both ↦
      let value = 16 * hex_value high + hex_value low in
      cond-true (is_hex high && is_hex low) (onto_bytes value (hex_bytes digits)) None both
      ∙ ap (onto_bytes value) (hex_bytes-odd digits (λ even. odd (omega arith)))
  | inr other ↦
      let value = 16 * hex_value high + hex_value low in
      cond-false (is_hex high && is_hex low) (onto_bytes value (hex_bytes digits)) None other
]

-- the first bytes are those of the first digits
pub record ReadsFirst (word bytes : List ℕ) (count : ℕ) : Type 0 where
  pub rest : hex_bytes word ≡ option_map (λ rest. take count bytes ++ rest) (hex_bytes (drop (2 * count) word))

pub reads_none : (word bytes : List ℕ) → ReadsFirst word bytes 0
reads_none word bytes = record { rest = sym (option_map_id (hex_bytes word)) }

-- the digits from a place on
drop-pair : (word : List ℕ) (place : ℕ) → 2 * place + 1 < length word → drop (2 * place) word ≡ get_or word (2 * place) 0 ∷ get_or word (2 * place + 1) 0 ∷ drop (2 * (place + 1)) word
drop-pair word place inside =
    let next : 2 * place + 1 + 1 ≡ 2 * (place + 1) = omega arith in
    let low : drop (2 * place + 1) word ≡ get_or word (2 * place + 1) 0 ∷ drop (2 * place + 1 + 1) word = drop_more word (2 * place + 1) 0 inside in
    drop_more word (2 * place) 0 (omega arith)
    ∙ ap (λ digits. get_or word (2 * place) 0 ∷ digits) low
    ∙ ap (λ n. get_or word (2 * place) 0 ∷ get_or word (2 * place + 1) 0 ∷ drop n word) next

-- bytes in front of a byte, and of those that are left
behind_byte : (front front' : List ℕ) (byte : ℕ) (left : Option (List ℕ)) → front' ≡ front ++ byte ∷ []
    → option_map (λ rest. front ++ rest) (onto_bytes byte left) ≡ option_map (λ rest. front' ++ rest) left
behind_byte front front' byte None is = refl
behind_byte front front' byte (Some rest) is = ap Some (sym (append_assoc front (byte ∷ []) rest) ∙ ap (λ xs. xs ++ rest) (sym is))

pub reads_more : (word bytes : List ℕ) (place byte : ℕ) → 2 * place + 1 < length word → place < length bytes → Some byte ≡ hex_byte (get_or word (2 * place) 0) (get_or word (2 * place + 1) 0)
    → ReadsFirst word bytes place → ReadsFirst word (set bytes place byte) (place + 1)
reads_more word bytes place byte inside room is before =
    let left = drop (2 * (place + 1)) word in
    let here : hex_bytes (drop (2 * place) word) ≡ onto_bytes byte (hex_bytes left) =
    ap hex_bytes (drop-pair word place inside) ∙ hex_bytes-pair (get_or word (2 * place) 0) (get_or word (2 * place + 1) 0) byte left is in
    record {
      rest =
          before.rest
          ∙ ap (option_map (λ rest. take place bytes ++ rest)) here
          ∙ behind_byte (take place bytes) (take (place + 1) (set bytes place byte)) byte (hex_bytes left) (take_more_set bytes place byte room);
    }

pub reads_all : (word bytes : List ℕ) (count : ℕ) → length word ≡ 2 * count → ReadsFirst word bytes count → hex_bytes word ≡ Some (take count bytes)
reads_all word bytes count all before =
    let end : drop (2 * count) word ≡ [] = drop_all (2 * count) word (omega arith) in
    before.rest ∙ ap (λ digits. option_map (λ rest. take count bytes ++ rest) (hex_bytes digits)) end ∙ ap Some (append-nil (take count bytes))

pub pattern-odd : (word : List ℕ) → ¬ (length word % 2 ≡ 0) → pattern word ≡ None
pattern-odd word odd = elim (cases_Bool (is_pattern_length (length word / 2))) [
  | inl is ↦ cond-true (is_pattern_length (length word / 2)) (hex_bytes word) None is ∙ hex_bytes-odd word odd
  | inr other ↦ cond-false (is_pattern_length (length word / 2)) (hex_bytes word) None other
]

-- the longest pattern
pub is_pattern_length-le : (n : ℕ) → is_pattern_length n ≡ true → n ≤ 16
is_pattern_length-le n is = grind (arith, nat_tests)
