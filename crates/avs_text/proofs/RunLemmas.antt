-- What is printed of runs of equal blocks.
use Rattle.std.proofs.Common.{◌≡◌, ℕ, zero, suc, nat_lt, ◌+◌, ◌<◌, ◌≤◌, List, [], ◌∷◌, ◌++◌, length, take, map, ◌∙◌, sym, refl, ap, arith}
use Rattle.std.specs.Fmt.{decimal, digits}
use Rattle.std.specs.List.{join_with_byte}
use Rattle.std.proofs.lemmas.Bool.{cond-true, lt-ltb}
use Rattle.std.proofs.lemmas.List.{append-nil, append_assoc, length-map, length-take-le, map_more, nil_from_length, take_all}
use Rattle.avs_seg.specs.Image.{Image}
use Rattle.avs_model.specs.EqualBlocks.{EqualRun, runs_of, run_at}
use Rattle.avs_model.specs.Printed.{hex_digit, run_text, runs_text}

-- the text of the first runs
abbrev pub first_runs : Image → ℕ → List ℕ
first_runs img n = join_with_byte 32 (map run_text (take n (runs_of img)))

join_more : (xs : List (List ℕ)) (x : List ℕ) → 0 < length xs → join_with_byte 32 (xs ++ x ∷ []) ≡ join_with_byte 32 xs ++ 32 ∷ x
join_more [] x some = absurd (omega (arith, some))
join_more (y ∷ []) x some = refl
join_more (y ∷ z ∷ xs) x some =
    ap (λ (l : List ℕ). y ++ 32 ∷ l) (join_more (z ∷ xs) x (omega arith))
    ∙ sym (append_assoc y (32 ∷ join_with_byte 32 (z ∷ xs)) (32 ∷ x))

-- the first run
pub text_first : (old new : List ℕ) (img : Image) → 0 < length (runs_of img) → new ≡ old ++ run_text (run_at img 0) → new ≡ old ++ first_runs img 1
text_first old new img some is =
    is ∙ ap (λ (texts : List (List ℕ)). old ++ join_with_byte 32 texts) (sym (map_more run_text (runs_of img) 0 (record { count = 0; block = [] }) some))

-- a space, and one run more
pub text_more : (old text spaced new : List ℕ) (img : Image) (i : ℕ) → 0 < i → i < length (runs_of img) → text ≡ old ++ first_runs img i → spaced ≡ text ++ 32 ∷ [] → new ≡ spaced ++ run_text (run_at img i)
    → new ≡ old ++ first_runs img (i + 1)
text_more old text spaced new img i some lt sofar space more =
    more
    ∙ ap (λ (l : List ℕ). l ++ run) (space ∙ ap (λ (l : List ℕ). l ++ 32 ∷ []) sofar)
    ∙ append_assoc (old ++ first_runs img i) (32 ∷ []) run
    ∙ append_assoc old (first_runs img i) (32 ∷ run)
    ∙ ap (λ (l : List ℕ). old ++ l) (sym (join_more (map run_text (take i (runs_of img))) run count))
    ∙ ap (λ (texts : List (List ℕ)). old ++ join_with_byte 32 texts) (sym (map_more run_text (runs_of img) i (record { count = 0; block = [] }) lt))
  where
    run : List ℕ
    run = run_text (run_at img i)

    count : 0 < length (map run_text (take i (runs_of img)))
    count = omega (arith, some, lt, length-map (take i (runs_of img)) run_text, length-take-le i (runs_of img) (omega (arith, lt)))

-- all runs
pub text_all : (old new : List ℕ) (img : Image) (n : ℕ) → length (runs_of img) ≤ n → new ≡ old ++ first_runs img n → new ≡ old ++ runs_text img
text_all old new img n all is = is ∙ ap (λ (runs : List EqualRun). old ++ join_with_byte 32 (map run_text runs)) (take_all n (runs_of img) all)

-- no run
pub text_none : (old : List ℕ) (img : Image) → length (runs_of img) ≡ 0 → old ≡ old ++ runs_text img
text_none old img none = sym (append-nil old) ∙ ap (λ (runs : List EqualRun). old ++ join_with_byte 32 (map run_text runs)) (sym (nil_from_length (runs_of img) none))

-- a number of one digit
pub one_digit : (n : ℕ) → n < 10 → decimal n ≡ hex_digit n ∷ []
unfolding digits
one_digit zero lt = refl
one_digit (suc zero) lt = refl
one_digit (suc (suc zero)) lt = refl
one_digit (suc (suc (suc zero))) lt = refl
one_digit (suc (suc (suc (suc zero)))) lt = refl
one_digit (suc (suc (suc (suc (suc zero))))) lt = refl
one_digit (suc (suc (suc (suc (suc (suc zero)))))) lt = refl
one_digit (suc (suc (suc (suc (suc (suc (suc zero))))))) lt = refl
one_digit (suc (suc (suc (suc (suc (suc (suc (suc zero)))))))) lt = refl
one_digit (suc (suc (suc (suc (suc (suc (suc (suc (suc zero))))))))) lt = refl
one_digit (suc (suc (suc (suc (suc (suc (suc (suc (suc (suc n)))))))))) lt = absurd (omega (arith, lt))

pub one_digit_char : (n char : ℕ) → n < 10 → char ≡ hex_digit n → char < 128
one_digit_char n char lt is = let digit = cond-true (nat_lt n 10) (48 + n) (87 + n) (lt-ltb n 10 lt) in omega (arith, is, digit, lt)
