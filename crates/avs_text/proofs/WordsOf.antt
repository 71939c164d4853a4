-- The words of a line, one after another.
use Rattle.std.proofs.Common.{◌≡◌, ℕ, suc, ◌+◌, ◌<◌, ◌≤◌, Bool, true, false, not, List, [], ◌∷◌, length, take, drop, refl, sym, ◌∙◌, ap, inl, inr, arith}
use Rattle.std.specs.List.{list_all, position_or_len, take_while}
use Rattle.std.proofs.lemmas.Bool.{cases_Bool, cond-true, cond-false, not_from_false, not_from_true, and_from}
use Rattle.std.specs.Prelude.{position, Some, None}
use Rattle.avs_text.proofs.Places.{position-none, position-some}
use Rattle.avs_model.specs.Words.{words_of, onto_word, is_blank, IsWord}

-- a byte of a word
abbrev pub stays : ℕ → Bool
stays b = not (is_blank b)

take-one : (b n : ℕ) (bs : List ℕ) → take (1 + n) (b ∷ bs) ≡ b ∷ take n bs
take-one b n bs = ap (λ m. take m (b ∷ bs)) is
  where
    is : 1 + n ≡ suc n
    is = omega arith

drop-one : (b n : ℕ) (bs : List ℕ) → drop (1 + n) (b ∷ bs) ≡ drop n bs
drop-one b n bs = ap (λ m. drop m (b ∷ bs)) is
  where
    is : 1 + n ≡ suc n
    is = omega arith

-- how many bytes stand before the first blank
stops : (b : ℕ) (bs : List ℕ) → is_blank b ≡ true → position_or_len is_blank (b ∷ bs) ≡ 0
stops b bs is = cond-false (stays b) (1 + position_or_len is_blank bs) 0 (not_from_true (is_blank b) is)

goes_on : (b : ℕ) (bs : List ℕ) → is_blank b ≡ false → position_or_len is_blank (b ∷ bs) ≡ 1 + position_or_len is_blank bs
goes_on b bs is = cond-true (stays b) (1 + position_or_len is_blank bs) 0 (not_from_false (is_blank b) is)

-- how many blanks stand at the front
no_blank : (b : ℕ) (bs : List ℕ) → is_blank b ≡ false → position_or_len stays (b ∷ bs) ≡ 0
no_blank b bs is = cond-false (not (stays b)) (1 + position_or_len stays bs) 0 (not_from_true (stays b) (not_from_false (is_blank b) is))

one_blank : (b : ℕ) (bs : List ℕ) → is_blank b ≡ true → position_or_len stays (b ∷ bs) ≡ 1 + position_or_len stays bs
one_blank b bs is = cond-true (not (stays b)) (1 + position_or_len stays bs) 0 (not_from_false (stays b) (not_from_true (is_blank b) is))

skips : (b : ℕ) (bs : List ℕ) → is_blank b ≡ true → words_of (b ∷ bs) ≡ words_of bs
skips b bs is = cond-true (is_blank b) (words_of bs) (onto_word b bs (words_of bs)) is

begins : (b : ℕ) (bs : List ℕ) → is_blank b ≡ false → words_of (b ∷ bs) ≡ onto_word b bs (words_of bs)
begins b bs is = cond-false (is_blank b) (words_of bs) (onto_word b bs (words_of bs)) is

-- behind a blank nothing is joined to a word
onto_word-blank : (b c : ℕ) (bs : List ℕ) (words : List (List ℕ)) → is_blank c ≡ true → onto_word b (c ∷ bs) words ≡ (b ∷ []) ∷ words
onto_word-blank b c bs [] is = refl
onto_word-blank b c bs (word ∷ words) is = cond-true (is_blank c) ((b ∷ []) ∷ word ∷ words) ((b ∷ word) ∷ words) is

onto_word-joined : (b c : ℕ) (bs word : List ℕ) (words : List (List ℕ)) → is_blank c ≡ false → onto_word b (c ∷ bs) (word ∷ words) ≡ (b ∷ word) ∷ words
onto_word-joined b c bs word words is = cond-false (is_blank c) ((b ∷ []) ∷ word ∷ words) ((b ∷ word) ∷ words) is

-- the bytes before the first blank, and then the words behind them
abbrev pub split_words : List ℕ → List (List ℕ)
split_words bs = take_while stays bs ∷ words_of (drop (position_or_len is_blank bs) bs)

split_words-one : (b : ℕ) (bs : List ℕ) → is_blank b ≡ false → split_words (b ∷ bs) ≡ (b ∷ take (position_or_len is_blank bs) bs) ∷ words_of (drop (position_or_len is_blank bs) bs)
split_words-one b bs is =
    let n = position_or_len is_blank bs in
    ap (λ m. take m (b ∷ bs) ∷ words_of (drop m (b ∷ bs))) (goes_on b bs is)
    ∙ (λ i. take-one b n bs i ∷ words_of (drop-one b n bs i))

onto_word-words_of : (b : ℕ) (bs : List ℕ) → onto_word b bs (words_of bs) ≡ (b ∷ take (position_or_len is_blank bs) bs) ∷ words_of (drop (position_or_len is_blank bs) bs)
onto_word-words_of b [] = refl
onto_word-words_of b (c ∷ cs) = elim (cases_Bool (is_blank c)) [
  | inl is ↦
      onto_word-blank b c cs (words_of (c ∷ cs)) is
      ∙ ap (λ n. (b ∷ take n (c ∷ cs)) ∷ words_of (drop n (c ∷ cs))) (sym (stops c cs is))
  | inr is ↦
      let n = position_or_len is_blank (c ∷ cs) in
      let rest : words_of (c ∷ cs) ≡ split_words (c ∷ cs) = begins c cs is ∙ onto_word-words_of c cs ∙ sym (split_words-one c cs is) in
      ap (onto_word b (c ∷ cs)) rest ∙ onto_word-joined b c cs (take n (c ∷ cs)) (words_of (drop n (c ∷ cs))) is
]

-- a word stands before the first blank, where the bytes do not begin with one
words_of-word : (b : ℕ) (bs : List ℕ) → is_blank b ≡ false → words_of (b ∷ bs) ≡ split_words (b ∷ bs)
words_of-word b bs is = begins b bs is ∙ onto_word-words_of b bs ∙ sym (split_words-one b bs is)

-- a word has no blank
list_all-take_while : (bs : List ℕ) → list_all stays (take_while stays bs) ≡ true
list_all-take_while [] = refl
list_all-take_while (b ∷ bs) = elim (cases_Bool (is_blank b)) [
  | inl is ↦ ap (λ n. list_all stays (take n (b ∷ bs))) (stops b bs is)
  | inr is ↦
      let n = position_or_len is_blank bs in
      ap (λ m. list_all stays (take m (b ∷ bs))) (goes_on b bs is)
      ∙ ap (list_all stays) (take-one b n bs)
      ∙ and_from (stays b) (list_all stays (take n bs)) (not_from_false (is_blank b) is) (list_all-take_while bs)
]

is_word-take_while : (b : ℕ) (bs : List ℕ) → is_blank b ≡ false → IsWord (take_while stays (b ∷ bs))
is_word-take_while b bs is =
    let n = position_or_len is_blank bs in
    let first : take_while stays (b ∷ bs) ≡ b ∷ take n bs = ap (λ m. take m (b ∷ bs)) (goes_on b bs is) ∙ take-one b n bs in
    record {
      some = rw first (omega arith);
      unbroken = list_all-take_while (b ∷ bs);
    }

-- behind the blanks at the front
drop-blank : (b : ℕ) (bs : List ℕ) → is_blank b ≡ true → drop (position_or_len stays (b ∷ bs)) (b ∷ bs) ≡ drop (position_or_len stays bs) bs
drop-blank b bs is = ap (λ n. drop n (b ∷ bs)) (one_blank b bs is) ∙ drop-one b (position_or_len stays bs) bs

drop-word : (b : ℕ) (bs : List ℕ) → is_blank b ≡ false → drop (position_or_len stays (b ∷ bs)) (b ∷ bs) ≡ b ∷ bs
drop-word b bs is = ap (λ n. drop n (b ∷ bs)) (no_blank b bs is)

-- bytes that are all blank have no word
all_blank : (bs : List ℕ) → length bs ≤ position_or_len stays bs → words_of bs ≡ []
all_blank [] all = refl
all_blank (b ∷ bs) all = elim (cases_Bool (is_blank b)) [
  | inl is ↦ skips b bs is ∙ all_blank bs (omega (arith, one_blank b bs is))
  | inr is ↦ absurd (omega (arith, no_blank b bs is))
]

-- rest is a line behind the blanks at its front: how it goes on, and that it begins with a word
pub record BeginsWith (line rest : List ℕ) : Type 0 where
  pub words : words_of line ≡ split_words rest
  pub is_word : IsWord (take_while stays rest)

not_all_blank : (bs : List ℕ) → position_or_len stays bs < length bs → BeginsWith bs (drop (position_or_len stays bs) bs)
not_all_blank [] some = absurd (omega arith)
not_all_blank (b ∷ bs) some = elim (cases_Bool (is_blank b)) [
  | inl is ↦
      let behind : BeginsWith bs (drop (position_or_len stays bs) bs) = not_all_blank bs (omega (arith, one_blank b bs is)) in
      rw (drop-blank b bs is) (record { words = skips b bs is ∙ behind.words; is_word = behind.is_word })
  | inr is ↦ rw (drop-word b bs is) (record { words = words_of-word b bs is; is_word = is_word-take_while b bs is })
]

-- a line of blanks
pub words_of-none : (bs : List ℕ) → position stays bs ≡ None → words_of bs ≡ []
words_of-none bs none = all_blank bs (position-none stays bs none)

-- the first word of another, behind its first n bytes
pub begins_with : (bs : List ℕ) (n : ℕ) → position stays bs ≡ Some n → BeginsWith bs (drop n bs)
begins_with bs n some =
    let place = position-some stays bs n some in
    rw place.0 (not_all_blank bs (omega (arith, place.0, place.1)))
