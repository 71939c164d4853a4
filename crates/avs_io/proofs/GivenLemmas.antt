-- The lines given so far, one call after another.
use Rattle.std.proofs.Common.{◌≡◌, ◌⊎◌, inl, inr, ⊎_elim, true, ℕ, ◌<◌, List, [], ◌∷◌, ◌++◌, Option, Some, None, Result, Ok, Err, All, IfOk, IfErr, length, refl, sym, ◌∙◌, ap, subst, append_assoc, length-append, arith}
use Rattle.std.proofs.lemmas.Bool.{false≢true}
use Rattle.std.proofs.lemmas.List.{append-nil}
use Rattle.std.proofs.lemmas.List.Elements.{All-push}
use Rattle.std.specs.Io.KnownBytes.{prepend_known, IsAtEnd}
use Rattle.avs_io.specs.Told.{WhereTold}
use Rattle.avs_seg.specs.Lines.{line_feed, line_limit, HasNoFeed, lines_of, with_feeds}
use Rattle.avs_io.specs.Reader.{Reader}
use Rattle.avs_io.specs.Next.{GivesLine, EndsByFeed, EndsByEnd, MeetsLong, MeetsEnd, MeetsLimit, IsCut, FirstIsLong, Gives, Breaks}
use Rattle.avs_io.specs.Given.{HasGiven, HasTaken, LongFollows, AreAll, MoreFollow, GoesOn}
use Rattle.avs_io.specs.declared.lines.Next.{Next}
use Rattle.avs_io.specs.declared.lines.Next.TheVariants.{Line, Long, End, Budget}
use Rattle.avs_io.specs.declared.lines.LineFault.{LineFault}
use Rattle.avs_io.specs.declared.lines.LineFault.TheVariants.{Read, NoMemory}
use Rattle.avs_io.proofs.KnownLemmas.{prepend_known-nil, prepend_known-prepend_known}
use Rattle.avs_io.proofs.LinesLemmas.{HasNoFeed-nil, whole_lines-with_feeds, with_feeds-push}

still_at_end : (bytes : List ℕ) (old new : Option (List ℕ)) → old ≡ prepend_known bytes new → 0 < length bytes → IsAtEnd old → IsAtEnd new
still_at_end bytes old None is some end = tt
still_at_end bytes old (Some rest) is some end =
    let none : bytes ++ rest ≡ [] = subst IsAtEnd is end in
    absurd (omega (arith, length-append bytes rest, ap length none))

fed_line : {input : Option (List ℕ)} {old new : Reader} {line : List ℕ} (lines : List (List ℕ)) (taken : List ℕ)
    → (taken ≡ with_feeds lines) ⊎ ((old.ended ≡ true) × IsAtEnd old.rest) → input ≡ prepend_known taken old.rest → EndsByFeed old new line
    → (input ≡ prepend_known (taken ++ (line ++ line_feed ∷ [])) new.rest)
    × ((taken ++ (line ++ line_feed ∷ []) ≡ with_feeds (lines ++ line ∷ [])) ⊎ ((new.ended ≡ true) × IsAtEnd new.rest))
fed_line {input} {old} {new} {line} lines taken fed is ends = (
  is ∙ ap (prepend_known taken) ends.bytes ∙ prepend_known-prepend_known taken (line ++ line_feed ∷ []) new.rest,
  ⊎_elim
      (λ same. inl (ap (λ (bytes : List ℕ). bytes ++ (line ++ line_feed ∷ [])) same ∙ sym (with_feeds-push lines line)))
      (λ over. inr (ends.ended ∙ over.0, still_at_end (line ++ line_feed ∷ []) old.rest new.rest ends.bytes (omega (arith, length-append line (line_feed ∷ []))) over.1))
      fed,
)

pub HasGiven-line : {input : Option (List ℕ)} {lines : List (List ℕ)} {old new : Reader} {line : List ℕ} → HasGiven input lines old → GivesLine old new line → HasGiven input (lines ++ line ∷ []) new
HasGiven-line {input} {lines} {old} {new} {line} h g =
    let count : new.given ≡ length (lines ++ line ∷ []) = omega (arith, g.given, h.count, length-append lines (line ∷ [])) in
    let no_feed : All HasNoFeed (lines ++ line ∷ []) = All-push HasNoFeed lines line h.no_feed g.no_feed in
    let follow : WhereTold input new.rest (λ before after. lines_of before ≡ (lines ++ line ∷ []) ++ lines_of after) =
    λ before is.
    let was = h.follow before is in
    let then = g.first was.0 was.1 in
    (then.0, then.1, was.2 ∙ ap (λ (ls : List (List ℕ)). lines ++ ls) then.2 ∙ sym (append_assoc lines (line ∷ []) (lines_of then.0))) in
    ⊎_elim
    (λ (ends : EndsByFeed old new line).
    let fed = fed_line lines h.bytes h.fed h.taken ends in
    record { count = count; no_feed = no_feed; bytes = h.bytes ++ (line ++ line_feed ∷ []); taken = fed.0; fed = fed.1; follow = follow })
    (λ (ends : EndsByEnd old new line).
    record {
      count = count;
      no_feed = no_feed;
      bytes = h.bytes ++ line;
      taken = h.taken ∙ ap (prepend_known h.bytes) ends.bytes ∙ prepend_known-prepend_known h.bytes line new.rest;
      fed = inr (ends.ended, ends.at_end);
      follow = follow;
    })
    g.taken

long_parts : (lines : List (List ℕ)) → FirstIsLong lines → (line : List ℕ) × (more : List (List ℕ)) × (lines ≡ line ∷ more) × (line_limit < length line)
long_parts [] long = absurd long
long_parts (line ∷ more) long = (line, more, refl, long)

pub LongFollows-from : {input : Option (List ℕ)} {lines : List (List ℕ)} {old new : Reader} → HasGiven input lines old → MeetsLong old new → LongFollows input lines
LongFollows-from {lines = lines} h g = record {
  first = λ bytes is.
      let was = h.follow bytes is in
      let parts = long_parts (lines_of was.0) (g.first was.0 was.1) in
      (parts.0, parts.1, was.2 ∙ ap (λ (ls : List (List ℕ)). lines ++ ls) parts.2, parts.3);
}

pub AreAll-from : {input : Option (List ℕ)} {lines : List (List ℕ)} {old new : Reader} → HasGiven input lines old → MeetsEnd old new → AreAll input lines
AreAll-from {lines = lines} {old = old} h g = record {
  all = λ bytes is.
      let was = h.follow bytes is in
      was.2 ∙ ap (λ (ls : List (List ℕ)). lines ++ ls) (g.none was.0 was.1) ∙ append-nil lines;
}

-- the lines that were given with their feeds, and a part of another
HasTaken-part : {input : Option (List ℕ)} {lines : List (List ℕ)} {rest left : Option (List ℕ)} {part : List ℕ} → All HasNoFeed lines → input ≡ prepend_known (with_feeds lines) rest → rest ≡ prepend_known part left
    → HasNoFeed part → HasTaken input lines left
HasTaken-part {input} {lines} {rest} {left} {part} fed is more no_feed = record {
  bytes = with_feeds lines ++ part;
  taken = is ∙ ap (prepend_known (with_feeds lines)) more ∙ prepend_known-prepend_known (with_feeds lines) part left;
  whole = whole_lines-with_feeds lines part fed no_feed;
}

pub HasTaken-from_cut : {input : Option (List ℕ)} {lines : List (List ℕ)} {old new : Reader} → HasGiven input lines old → IsCut old new → HasTaken input lines new.left
HasTaken-from_cut {input} {lines} {old} {new} h g =
    ⊎_elim
    (λ (fed : h.bytes ≡ with_feeds lines).
    HasTaken-part h.no_feed (h.taken ∙ ap (λ (bytes : List ℕ). prepend_known bytes old.rest) fed) (g.loses.bytes ∙ ap (prepend_known g.part) g.rest) g.loses.no_feed)
    (λ (over : (old.ended ≡ true) × IsAtEnd old.rest). absurd (false≢true (sym g.not_ended ∙ over.0)))
    h.fed

-- where nothing is left of told bytes, none follow
untold : {input : Option (List ℕ)} {lines : List (List ℕ)} (bytes : List ℕ) (rest : Option (List ℕ)) → All HasNoFeed lines → input ≡ prepend_known bytes rest → IsAtEnd rest
    → ((before : List ℕ) → rest ≡ Some before → 0 < length (lines_of before)) → HasTaken input lines rest
untold {input} {lines} bytes None fed is end more = HasTaken-part {rest = None} {part = []} fed is refl HasNoFeed-nil
untold bytes (Some rest) fed is end more = absurd (omega (arith, more rest refl, ap (λ (bs : List ℕ). length (lines_of bs)) end))

pub MoreFollow-from : {input : Option (List ℕ)} {lines : List (List ℕ)} {old new : Reader} → HasGiven input lines old → MeetsLimit old new → MoreFollow input lines new
MoreFollow-from {input} {lines} {old} {new} h g =
    let taken : HasTaken input lines old.rest =
    ⊎_elim
    (λ (fed : h.bytes ≡ with_feeds lines).
    HasTaken-part {part = []} h.no_feed (h.taken ∙ ap (λ (bytes : List ℕ). prepend_known bytes old.rest) fed) (sym (prepend_known-nil old.rest)) HasNoFeed-nil)
    (λ (over : (old.ended ≡ true) × IsAtEnd old.rest). untold h.bytes old.rest h.no_feed h.taken over.1 g.more)
    h.fed in
    record {
      count = sym h.count ∙ g.at_limit;
      taken = subst (HasTaken input lines) (sym g.rest) taken;
      more = λ bytes is.
          let was = h.follow bytes is in
          omega (arith, g.more was.0 was.1, ap length was.2, length-append lines (lines_of was.0), h.count, g.at_limit);
    }

goes_on_by_next : {input : Option (List ℕ)} {lines : List (List ℕ)} {old : Reader} (new : Reader) → HasGiven input lines old → (next : Next) → Gives old new next → GoesOn input lines new (Ok next)
goes_on_by_next new h (Line line) g = HasGiven-line h g
goes_on_by_next new h Long g = LongFollows-from h g
goes_on_by_next new h End g = AreAll-from h g
goes_on_by_next new h Budget g = MoreFollow-from h g

goes_on_by_fault : {input : Option (List ℕ)} {lines : List (List ℕ)} {old : Reader} (new : Reader) → HasGiven input lines old → (fault : LineFault) → Breaks old new fault → GoesOn input lines new (Err fault)
goes_on_by_fault new h Read g = HasTaken-from_cut h g
goes_on_by_fault new h NoMemory g = tt

-- what one call says, said of all calls so far
pub goes_on : (old new : Reader) (result : Result Next LineFault) → IfOk result (Gives old new) → IfErr result (Breaks old new) → (input : Option (List ℕ)) (lines : List (List ℕ)) → HasGiven input lines old
    → GoesOn input lines new result
goes_on old new (Ok next) gives breaks input lines h = goes_on_by_next new h next gives
goes_on old new (Err fault) gives breaks input lines h = goes_on_by_fault new h fault breaks
