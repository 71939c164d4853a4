-- The lines of bytes that begin with bytes without a line feed.
use Rattle.std.proofs.Common.{◌≡◌, ◌≢◌, true, false, ℕ, ◌<◌, List, [], ◌∷◌, ◌++◌, length, All, if◌then◌else◌, ◌==◌, refl, sym, ◌∙◌, ap, subst, append_assoc, length-append, arith}
use Rattle.std.proofs.lemmas.Bool.{ne_eqb}
use Rattle.std.proofs.lemmas.List.{append-nil}
use Rattle.std.proofs.lemmas.List.Elements.{All-nil, All-head, All-tail, All-append}
use Rattle.avs_seg.specs.Lines.{line_feed, line_limit, HasNoFeed, lines_of, onto_first, whole_lines, onto_whole, with_feeds}
use Rattle.avs_io.specs.Next.{FirstIsLong}

pub HasNoFeed-nil : HasNoFeed []
HasNoFeed-nil = record { others = All-nil (λ byte. byte ≢ line_feed) }

pub HasNoFeed-append : (xs ys : List ℕ) → HasNoFeed xs → HasNoFeed ys → HasNoFeed (xs ++ ys)
HasNoFeed-append xs ys p q = record { others = All-append (λ byte. byte ≢ line_feed) xs ys p.others q.others }

first_is_other : (byte : ℕ) (bytes : List ℕ) → HasNoFeed (byte ∷ bytes) → byte ≢ line_feed
first_is_other byte bytes p = All-head (λ byte. byte ≢ line_feed) byte bytes p.others

HasNoFeed-tail : (byte : ℕ) (bytes : List ℕ) → HasNoFeed (byte ∷ bytes) → HasNoFeed bytes
HasNoFeed-tail byte bytes p = record { others = All-tail (λ byte. byte ≢ line_feed) byte bytes p.others }

-- the bytes onto the first line
onto : List ℕ → List (List ℕ) → List (List ℕ)
onto [] lines = lines
onto (byte ∷ bytes) lines = onto_first byte (onto bytes lines)

onto-cons : (bytes line : List ℕ) (lines : List (List ℕ)) → onto bytes (line ∷ lines) ≡ (bytes ++ line) ∷ lines
unfolding onto
onto-cons [] line lines = refl
onto-cons (byte ∷ bytes) line lines = ap (onto_first byte) (onto-cons bytes line lines)

onto-nil : (bytes : List ℕ) → 0 < length bytes → onto bytes [] ≡ bytes ∷ []
unfolding onto
onto-nil [] some = absurd (omega arith)
onto-nil (byte ∷ []) some = refl
onto-nil (byte ∷ next ∷ bytes) some = ap (onto_first byte) (onto-nil (next ∷ bytes) (omega arith))

lines_of-append : (part bytes : List ℕ) → HasNoFeed part → lines_of (part ++ bytes) ≡ onto part (lines_of bytes)
unfolding onto
lines_of-append [] bytes p = refl
lines_of-append (byte ∷ part) bytes p =
    let no_feed : (byte == line_feed) ≡ false = ne_eqb byte line_feed (first_is_other byte part p) in
    ap (λ test. if test then [] ∷ lines_of (part ++ bytes) else onto_first byte (lines_of (part ++ bytes))) no_feed
    ∙ ap (onto_first byte) (lines_of-append part bytes (HasNoFeed-tail byte part p))

-- a line that its line feed ends
pub lines_of-fed : (line bytes : List ℕ) → HasNoFeed line → lines_of ((line ++ line_feed ∷ []) ++ bytes) ≡ line ∷ lines_of bytes
lines_of-fed line bytes p =
    ap lines_of (append_assoc line (line_feed ∷ []) bytes)
    ∙ lines_of-append line (line_feed ∷ bytes) p
    ∙ onto-cons line [] (lines_of bytes)
    ∙ ap (λ (first : List ℕ). first ∷ lines_of bytes) (append-nil line)

-- a line that the end of the bytes ends
pub lines_of-last : (line : List ℕ) → HasNoFeed line → 0 < length line → lines_of (line ++ []) ≡ line ∷ []
lines_of-last line p some = lines_of-append line [] p ∙ onto-nil line some

long_onto : (part : List ℕ) (lines : List (List ℕ)) → line_limit < length part → FirstIsLong (onto part lines)
long_onto part [] long = subst FirstIsLong (sym (onto-nil part (omega arith))) long
long_onto part (line ∷ lines) long = subst FirstIsLong (sym (onto-cons part line lines)) (omega (arith, length-append part line))

pub FirstIsLong-append : (part bytes : List ℕ) → HasNoFeed part → line_limit < length part → FirstIsLong (lines_of (part ++ bytes))
FirstIsLong-append part bytes p long = subst FirstIsLong (sym (lines_of-append part bytes p)) (long_onto part (lines_of bytes) long)

some_onto_first : (byte : ℕ) (lines : List (List ℕ)) → 0 < length (onto_first byte lines)
some_onto_first byte [] = omega arith
some_onto_first byte (line ∷ lines) = omega arith

-- where there is a byte there is a line
pub lines_of-some : (bytes : List ℕ) → 0 < length bytes → 0 < length (lines_of bytes)
lines_of-some [] some = absurd (omega arith)
lines_of-some (byte ∷ bytes) some =
    elim (byte == line_feed) as (λ test. 0 < length (if test then [] ∷ lines_of bytes else onto_first byte (lines_of bytes))) [
      | true ↦ omega arith
      | false ↦ some_onto_first byte (lines_of bytes)
    ]

-- bytes without a line feed are no whole line
pub whole_lines-no_feed : (part : List ℕ) → HasNoFeed part → whole_lines part ≡ []
whole_lines-no_feed [] p = refl
whole_lines-no_feed (byte ∷ part) p =
    let no_feed : (byte == line_feed) ≡ false = ne_eqb byte line_feed (first_is_other byte part p) in
    ap (λ test. if test then [] ∷ whole_lines part else onto_whole byte (whole_lines part)) no_feed
    ∙ ap (onto_whole byte) (whole_lines-no_feed part (HasNoFeed-tail byte part p))

whole_lines-fed : (line bytes : List ℕ) → HasNoFeed line → whole_lines (line ++ line_feed ∷ bytes) ≡ line ∷ whole_lines bytes
whole_lines-fed [] bytes p = refl
whole_lines-fed (byte ∷ line) bytes p =
    let rest = line ++ line_feed ∷ bytes in
    let no_feed : (byte == line_feed) ≡ false = ne_eqb byte line_feed (first_is_other byte line p) in
    ap (λ test. if test then [] ∷ whole_lines rest else onto_whole byte (whole_lines rest)) no_feed
    ∙ ap (onto_whole byte) (whole_lines-fed line bytes (HasNoFeed-tail byte line p))

-- the whole lines are those that their line feeds end, and not the part of a line behind them
pub whole_lines-with_feeds : (lines : List (List ℕ)) (part : List ℕ) → All HasNoFeed lines → HasNoFeed part → whole_lines (with_feeds lines ++ part) ≡ lines
whole_lines-with_feeds [] part p q = whole_lines-no_feed part q
whole_lines-with_feeds (line ∷ lines) part p q =
    let rest = with_feeds lines ++ part in
    ap whole_lines (append_assoc (line ++ line_feed ∷ []) (with_feeds lines) part ∙ append_assoc line (line_feed ∷ []) rest)
    ∙ whole_lines-fed line rest (All-head HasNoFeed line lines p)
    ∙ ap (λ (ls : List (List ℕ)). line ∷ ls) (whole_lines-with_feeds lines part (All-tail HasNoFeed line lines p) q)

-- one line more
pub with_feeds-push : (lines : List (List ℕ)) (line : List ℕ) → with_feeds (lines ++ line ∷ []) ≡ with_feeds lines ++ (line ++ line_feed ∷ [])
with_feeds-push [] line = append-nil (line ++ line_feed ∷ [])
with_feeds-push (first ∷ lines) line =
    ap (λ (bytes : List ℕ). (first ++ line_feed ∷ []) ++ bytes) (with_feeds-push lines line)
    ∙ sym (append_assoc (first ++ line_feed ∷ []) (with_feeds lines) (line ++ line_feed ∷ []))
