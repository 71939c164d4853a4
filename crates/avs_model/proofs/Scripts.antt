-- Scripts of lines that stand behind one another.
use Rattle.std.proofs.Common.{◌≡◌, ℕ, zero, suc, ◌+◌, ◌-◌, ◌≤◌, ◌<◌, take, true, Option, None, Some, List, [], ◌∷◌, ◌++◌, length, sym, ◌∙◌, ap, inl, inr, arith}
use Rattle.std.proofs.lemmas.Bool.{cases_Bool, cond-true, cond-false}
use Rattle.std.proofs.lemmas.List.{append-nil}
use Rattle.std.specs.Option.{option_map, option_and_then}
use Rattle.std.specs.Prelude.{◌==◌, nat_lt}
use Rattle.std.proofs.Math.Seq.{take-append-add, take-append_seam}
use Rattle.std.proofs.lemmas.List.{take_all}
use Rattle.avs_seg.specs.Lines.{line_limit, lines_limit, lines_of}
use Rattle.avs_model.specs.Promise.{script_of}
use Rattle.avs_model.specs.Words.{words_of}
use Rattle.avs_model.specs.Script.{Script, script, script_from, with_line, statement, words_statement, words_event, built, if_built}
use Rattle.avs_model.specs.declared.event.Event.{Event}
use Rattle.avs_model.specs.declared.event.Statement.{Statement}
use Rattle.avs_model.specs.declared.event.Statement.TheVariants.{Nothing, Run}

-- a script in front of another
abbrev pub joined : Script → Script → Script
joined first then = record { events = first.events ++ then.events; bad = then.bad }

-- a line in front of two scripts
with_line-joined : (n m m' : ℕ) (said : Option Statement) (front whole : Script) (rest : ℕ → Script) → (with_line n said front).bad ≡ None → m ≡ m' → (front.bad ≡ None → whole ≡ joined front (rest m))
    → with_line n said whole ≡ joined (with_line n said front) (rest m')
with_line-joined n m m' None front whole rest none same then = let e : Some n ≡ None = none in absurd (cc)
with_line-joined n m m' (Some Nothing) front whole rest none same then = then none ∙ ap (λ k. joined front (rest k)) same
with_line-joined n m m' (Some (Run event)) front whole rest none same then =
    ap (with_line n (Some (Run event))) (then none) ∙ ap (λ k. joined (with_line n (Some (Run event)) front) (rest k)) same

pub script_from-append : (n : ℕ) (front lines : List (List ℕ)) → (script_from n front).bad ≡ None → script_from n (front ++ lines) ≡ joined (script_from n front) (script_from (n + length front) lines)
script_from-append n [] lines none = ap (λ m. script_from m lines) place
  where
    place : n ≡ n + 0
    place = omega arith
script_from-append n (line ∷ front) lines none =
    with_line-joined n (n + 1 + length front) (n + suc (length front)) (statement line) (script_from (n + 1) front) (script_from (n + 1) (front ++ lines)) (λ k. script_from k lines) none (omega arith)
    (λ later. script_from-append (n + 1) front lines later)

-- the script of lines in front of which none is bad
pub script-append : (front lines : List (List ℕ)) → (script front).bad ≡ None → script (front ++ lines) ≡ joined (script front) (script_from (1 + length front) lines)
script-append front lines none = script_from-append 1 front lines none

-- one line more, which says nothing
pub script_nothing : (front : List (List ℕ)) (line : List ℕ) → (script front).bad ≡ None → statement line ≡ Some Nothing → script (front ++ line ∷ []) ≡ script front
script_nothing front line none is =
    script-append front (line ∷ []) none
    ∙ ap (λ (said : Option Statement). joined (script front) (with_line (1 + length front) said (script_from (1 + length front + 1) []))) is
    ∙ same
  where
    same : joined (script front) (record { events = []; bad = None }) ≡ script front
    same = (λ i. record { events = append-nil-events i; bad = sym none i })
      where
        append-nil-events : (script front).events ++ [] ≡ (script front).events
        append-nil-events = append-nil (script front).events

-- one line more, which is an event
pub script_event : (front : List (List ℕ)) (line : List ℕ) (event : Event) → (script front).bad ≡ None → statement line ≡ Some (Run event)
    → script (front ++ line ∷ []) ≡ record { events = (script front).events ++ event ∷ []; bad = None }
script_event front line event none is =
    script-append front (line ∷ []) none
    ∙ ap (λ (said : Option Statement). joined (script front) (with_line (1 + length front) said (script_from (1 + length front + 1) []))) is

-- a line that is no statement ends the script
pub script_bad : (front : List (List ℕ)) (line : List ℕ) (lines : List (List ℕ)) → (script front).bad ≡ None → statement line ≡ None
    → script (front ++ line ∷ lines) ≡ record { events = (script front).events ++ []; bad = Some (1 + length front) }
script_bad front line lines none is =
    script-append front (line ∷ lines) none
    ∙ ap (λ (said : Option Statement). joined (script front) (with_line (1 + length front) said (script_from (1 + length front + 1) lines))) is

-- an event that a line says is of a form that there is
if_built-is : (made event : Event) → option_map Run (if_built made) ≡ Some (Run event) → built event ≡ true
if_built-is made event is = elim (cases_Bool (built made)) [
  | inl there ↦
      let e : Some (Run made) ≡ Some (Run event) = sym (ap (option_map Run) (cond-true (built made) (Some made) None there)) ∙ is in
      let same : made ≡ event = cc in
      sym (ap built same) ∙ there
  | inr none ↦
      let e : None ≡ Some (Run event) = sym (ap (option_map Run) (cond-false (built made) (Some made) None none)) ∙ is in
      absurd (cc)
]

and_if_built-is : (made : Option Event) (event : Event) → option_map Run (option_and_then if_built made) ≡ Some (Run event) → built event ≡ true
and_if_built-is None event is = let e : None ≡ Some (Run event) = is in absurd (cc)
and_if_built-is (Some made) event is = if_built-is made event is

words-built : (words : List (List ℕ)) (event : Event) → words_statement words ≡ Some (Run event) → built event ≡ true
words-built [] event is = let e : Some Nothing ≡ Some (Run event) = is in absurd (cc)
words-built ([] ∷ words) event is = let e : None ≡ Some (Run event) = is in absurd (cc)
words-built ((b ∷ word) ∷ words) event is = elim (cases_Bool (b == 35)) [
  | inl comment ↦
      let e : Some Nothing ≡ Some (Run event) = sym (cond-true (b == 35) (Some Nothing) (option_map Run (option_and_then if_built (words_event (b ∷ word) words))) comment) ∙ is in
      absurd (cc)
  | inr other ↦
      and_if_built-is (words_event (b ∷ word) words) event
      (sym (cond-false (b == 35) (Some Nothing) (option_map Run (option_and_then if_built (words_event (b ∷ word) words))) other) ∙ is)
]

pub built-statement : (line : List ℕ) (event : Event) → statement line ≡ Some (Run event) → built event ≡ true
built-statement line event is = elim (cases_Bool (nat_lt line_limit (length line))) [
  | inl long ↦
      let e : None ≡ Some (Run event) = sym (cond-true (nat_lt line_limit (length line)) None (words_statement (words_of line)) long) ∙ is in
      absurd (cc)
  | inr fits ↦ words-built (words_of line) event (sym (cond-false (nat_lt line_limit (length line)) None (words_statement (words_of line)) fits) ∙ is)
]

-- the lines that may be read, of which so many were read
take-front : (front rest : List (List ℕ)) (n : ℕ) → length front ≤ n → take n (front ++ rest) ≡ front ++ take (n - length front) rest
take-front front rest n le =
    let split : n ≡ length front + (n - length front) = omega arith in
    ap (λ k. take k (front ++ rest)) split ∙ take-append-add front rest (n - length front)

pub script_of-front : (input : List ℕ) (front rest : List (List ℕ)) → lines_of input ≡ front ++ rest → length front ≤ lines_limit → script_of input ≡ script (front ++ take (lines_limit - length front) rest)
script_of-front input front rest is le = ap script (ap (take lines_limit) is ∙ take-front front rest lines_limit le)

-- all of them, where no line is left
pub script_of-all : (input : List ℕ) (lines : List (List ℕ)) → lines_of input ≡ lines → length lines ≤ lines_limit → script_of input ≡ script lines
script_of-all input lines is le = ap script (ap (take lines_limit) is ∙ take_all lines_limit lines le)

-- one line more
take-line : (n : ℕ) (line : List ℕ) (lines : List (List ℕ)) → 0 < n → take n (line ∷ lines) ≡ line ∷ take (n - 1) lines
take-line zero line lines lt = absurd (omega arith)
take-line (suc n) line lines lt = ap (λ k. line ∷ take k lines) less
  where
    less : n ≡ suc n - 1
    less = omega arith

pub script_of-line : (input : List ℕ) (front : List (List ℕ)) (line : List ℕ) (rest : List (List ℕ)) → lines_of input ≡ front ++ line ∷ rest → length front < lines_limit
    → script_of input ≡ script (front ++ line ∷ take (lines_limit - length front - 1) rest)
script_of-line input front line rest is lt =
    script_of-front input front (line ∷ rest) is (omega arith) ∙ ap (λ (ls : List (List ℕ)). script (front ++ ls)) (take-line (lines_limit - length front) line rest (omega arith))

-- the first events of a script are those of its first lines
pub script-events : (front lines : List (List ℕ)) → (script front).bad ≡ None → take (length (script front).events) (script (front ++ lines)).events ≡ (script front).events
script-events front lines none =
    ap (λ (s : Script). take (length (script front).events) s.events) (script-append front lines none)
    ∙ take-append_seam (script front).events (script_from (1 + length front) lines).events
