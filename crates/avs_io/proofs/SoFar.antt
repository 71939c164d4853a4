-- A line that is put together piece by piece, and what then ends it.
use Rattle.std.proofs.Common.{◌≡◌, inl, inr, ℕ, ◌+◌, ◌≤◌, ◌<◌, List, [], ◌∷◌, ◌++◌, Option, Some, None, length, refl, sym, ◌∙◌, ap, subst, append_assoc, length-append, arith}
use Rattle.std.proofs.lemmas.Option.{none-some, same_Some}
use Rattle.std.specs.Io.KnownBytes.{prepend_known, IsAtEnd}
use Rattle.avs_io.specs.Told.{WhereTold}
use Rattle.avs_seg.specs.Lines.{line_feed, line_limit, lines_limit, HasNoFeed, lines_of}
use Rattle.avs_io.specs.Reader.{Reader}
use Rattle.avs_io.specs.Next.{GivesLine, Loses, MeetsLong, MeetsLimit, IsCut, FirstIsLong}
use Rattle.avs_io.specs.Pieces.{IsSame, HoldsSome, HoldsNone, IsDone, Completes, Overflows}
use Rattle.avs_io.proofs.KnownLemmas.{prepend_known-nil, prepend_known-prepend_known}
use Rattle.avs_io.proofs.LinesLemmas.{HasNoFeed-nil, HasNoFeed-append, lines_of-fed, lines_of-last, lines_of-some, FirstIsLong-append, whole_lines-no_feed}

-- the reader has taken these bytes of the next line
pub record HasPart (old now : Reader) (line : List ℕ) : Type 0 where
  pub loses : Loses old now line
  pub ended : now.ended ≡ old.ended
  pub short : length line ≤ line_limit

pub begins : (old : Reader) → HasPart old old []
begins old = record {
  loses = record { given = refl; no_feed = HasNoFeed-nil; bytes = sym (prepend_known-nil old.rest) };
  ended = refl;
  short = omega arith;
}

-- bytes more were lost
Loses-then : {old now new : Reader} {line part : List ℕ} → Loses old now line → Loses now new part → Loses old new (line ++ part)
Loses-then {old} {now} {new} {line} {part} p q = record {
  given = q.given ∙ p.given;
  no_feed = HasNoFeed-append line part p.no_feed q.no_feed;
  bytes = p.bytes ∙ ap (prepend_known line) q.bytes ∙ prepend_known-prepend_known line part new.rest;
}

Loses-same : {old now new : Reader} {line : List ℕ} → Loses old now line → IsSame now new → Loses old new line
Loses-same {old} {now} {new} {line} p q = record {
  given = q.given ∙ p.given;
  no_feed = p.no_feed;
  bytes = p.bytes ∙ ap (prepend_known line) (sym q.rest);
}

-- a told list that is another before what is left
told : (part before : List ℕ) (old new : Option (List ℕ)) → old ≡ prepend_known part new → old ≡ Some before → (after : List ℕ) × (new ≡ Some after) × (before ≡ part ++ after)
told part before old None is was = absurd (none-some before (sym is ∙ was))
told part before old (Some after) is was = (after, refl, same_Some before (part ++ after) (sym was ∙ is))

first_by_feed : (line : List ℕ) (old new : Option (List ℕ)) → HasNoFeed line → old ≡ prepend_known (line ++ line_feed ∷ []) new → WhereTold old new (λ before after. lines_of before ≡ line ∷ lines_of after)
first_by_feed line old new no_feed is before was =
    let t = told (line ++ line_feed ∷ []) before old new is was in
    (t.0, t.1, ap lines_of t.2 ∙ lines_of-fed line t.0 no_feed)

none_at_end : (new : Option (List ℕ)) (after : List ℕ) → IsAtEnd new → new ≡ Some after → after ≡ []
none_at_end None after end is = absurd (none-some after is)
none_at_end (Some bytes) after end is = same_Some after bytes (sym is) ∙ end

first_by_end : (line : List ℕ) (old new : Option (List ℕ)) → HasNoFeed line → 0 < length line → old ≡ prepend_known line new → IsAtEnd new → WhereTold old new (λ before after. lines_of before ≡ line ∷ lines_of after)
first_by_end line old new no_feed some is end before was =
    let t = told line before old new is was in
    let none = none_at_end new t.0 end t.1 in
    (t.0, t.1, ap lines_of (t.2 ∙ ap (λ (bytes : List ℕ). line ++ bytes) none) ∙ lines_of-last line no_feed some ∙ ap (λ (bytes : List ℕ). line ∷ lines_of bytes) (sym none))

-- a line feed ends the line
pub completes : {old now mid new end : Reader} {line after : List ℕ} → old.given < lines_limit → HasPart old now line → IsSame now mid → mid.ended ≡ now.ended → Completes mid new line after → new.ended ≡ mid.ended
    → end.given ≡ new.given + 1 → end.rest ≡ new.rest → end.ended ≡ new.ended → GivesLine old end after
completes {old} {now} {mid} {new} {end} {line} {after} below p same filled g took count rest last =
    let lost = Loses-same p.loses same in
    let no_feed : HasNoFeed after = subst HasNoFeed (sym g.grown) (HasNoFeed-append line g.part p.loses.no_feed g.no_feed) in
    let bytes : old.rest ≡ prepend_known (after ++ line_feed ∷ []) end.rest =
    lost.bytes ∙ ap (prepend_known line) g.bytes ∙ prepend_known-prepend_known line (g.part ++ line_feed ∷ []) new.rest
    ∙ (λ i. prepend_known (sym (append_assoc line g.part (line_feed ∷ [])) i) (sym rest i))
    ∙ ap (λ (l : List ℕ). prepend_known (l ++ line_feed ∷ []) end.rest) (sym g.grown) in
    record {
      below_limit = below;
      given = omega (arith, count, g.given, lost.given);
      no_feed = no_feed;
      short = g.short;
      taken = inl (record { bytes = bytes; ended = last ∙ took ∙ filled ∙ p.ended });
      first = first_by_feed after old.rest end.rest no_feed bytes;
    }

-- the end of the source ends the line
pub ends : {old now new end : Reader} {line : List ℕ} → old.given < lines_limit → HasPart old now line → 0 < length line → IsSame now new → IsDone new
    → end.given ≡ new.given + 1 → end.rest ≡ new.rest → end.ended ≡ new.ended → GivesLine old end line
ends {old} {now} {new} {end} {line} below p some same done count rest last =
    let lost = Loses-same p.loses same in
    let bytes : old.rest ≡ prepend_known line end.rest = lost.bytes ∙ ap (prepend_known line) (sym rest) in
    let at_end : IsAtEnd end.rest = subst IsAtEnd (sym rest) done.at_end in
    record {
      below_limit = below;
      given = omega (arith, count, lost.given);
      no_feed = p.loses.no_feed;
      short = p.short;
      taken = inr (record { bytes = bytes; some = some; ended = last ∙ done.ended; at_end = at_end });
      first = first_by_end line old.rest end.rest p.loses.no_feed some bytes at_end;
    }

-- the line is too long
pub overflows : {old now mid new : Reader} {line : List ℕ} → old.given < lines_limit → HasPart old now line → IsSame now mid → Overflows mid new line → MeetsLong old new
overflows {old} {now} {mid} {new} {line} below p same g =
    let lost = Loses-then (Loses-same p.loses same) g.loses in
    let long : line_limit < length (line ++ g.part) = omega (arith, g.long, length-append line g.part) in
    record {
      below_limit = below;
      part = line ++ g.part;
      long = long;
      loses = lost;
      first = λ before was.
          let t = told (line ++ g.part) before old.rest new.rest lost.bytes was in
          subst (λ (bytes : List ℕ). FirstIsLong (lines_of bytes)) (sym t.2) (FirstIsLong-append (line ++ g.part) t.0 lost.no_feed long);
    }

-- the source failed
pub is_cut : {old now new : Reader} {line : List ℕ} → HasPart old now line → IsSame now new → HoldsNone now new → IsCut old new
is_cut {old} {now} {new} {line} p same none =
    let lost = Loses-same p.loses same in
    record {
      not_ended = sym p.ended ∙ none.was_not_ended;
      part = line;
      loses = lost;
      rest = none.rest;
      taken = λ before was.
          let t = told line before old.rest new.left (lost.bytes ∙ ap (prepend_known line) none.rest) was in
          (line, t.0, t.1, t.2, whole_lines-no_feed line lost.no_feed);
    }

-- there was no memory for a piece
pub is_lost : {old now mid new : Reader} {line part : List ℕ} → HasPart old now line → IsSame now mid → Loses mid new part → (all : List ℕ) × Loses old new all
is_lost {line = line} {part = part} p same lost = (line ++ part, Loses-then (Loses-same p.loses same) lost)

-- as many lines were given as may be, and some byte is held
pub meets_limit : {old new : Reader} {held : List ℕ} → old.given ≡ lines_limit → IsSame old new → HoldsSome old new held → new.rest ≡ prepend_known held new.left → MeetsLimit old new
meets_limit {old} {new} {held} limit same holds is = record {
  at_limit = limit;
  given = same.given;
  rest = same.rest;
  more = λ before was.
      let t = told held before old.rest new.left (sym same.rest ∙ is) was in
      lines_of-some before (omega (arith, holds.some, ap length t.2, length-append held t.0));
}
