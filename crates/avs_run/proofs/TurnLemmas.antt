-- What the end of a run has written.
use Rattle.std.proofs.Common.{◌≡◌, ℕ, ◌+◌, ◌-◌, ◌≤◌, ◌<◌, Option, Some, None, List, [], ◌∷◌, ◌++◌, length, take, refl, sym, ◌∙◌, ap, subst, arith, append_assoc}
use Rattle.std.specs.Prelude.{nat_lt}
use Rattle.std.proofs.lemmas.Bool.{cond-true, lt-ltb}
use Rattle.std.proofs.lemmas.List.{append-nil}
use Rattle.std.specs.Io.KnownBytes.{prepend_known, IsAtEnd}
use Rattle.avs_seg.specs.Lines.{line_limit, lines_limit, lines_of, whole_lines}
use Rattle.avs_dev.specs.Seen.{Seen}
use Rattle.avs_io.specs.Given.{HasGiven, HasTaken, LongFollows, AreAll, MoreFollow}
use Rattle.avs_io.specs.Reader.{Reader}
use Rattle.avs_model.specs.Script.{Script, script, statement, words_statement}
use Rattle.avs_model.specs.Words.{words_of}
use Rattle.avs_model.specs.Promise.{Claim, Meets, Wrote, IsWhole, IsAnsweredToBad, IsCutBySource, IsCutBySink, IsCutByRack, IsCutByMemory, IsOverBudget, script_of}
use Rattle.avs_model.proofs.Scripts.{script_of-front, script_of-all, script_of-line}
use Rattle.avs_run.specs.Ends.{status_of, EndsIn, Printed}
use Rattle.avs_run.specs.Bad.{TellsBad}
use Rattle.std.specs.Prelude.{Result}
use Rattle.std.proofs.Common.{Ok, Err}
use Rattle.avs_run.specs.Run.{SoFar, RunsLine, Turns}
use Rattle.avs_world.specs.declared.world.World.{World}
use Rattle.avs_run.specs.declared.end.End.{End}
use Rattle.avs_run.specs.declared.end.End.TheVariants as end
use Rattle.avs_run.proofs.LineLemmas.{meets, cut_by_memory, bad_ends}

module _ (claim : Claim) (input : List ℕ) (left : Option (List ℕ)) (bytes : List ℕ) where
  pub wrote_whole : IsWhole claim input left bytes → Wrote claim 0 input left bytes
  wrote_whole is = record {
    known = refl;
    whole = λ _. is;
    words = λ e. absurd (omega arith);
    bad = λ e. absurd (omega arith);
    source = λ e. absurd (omega arith);
    sink = λ e. absurd (omega arith);
    rack = λ e. absurd (omega arith);
    memory = λ e. absurd (omega arith);
    budget = λ e. absurd (omega arith);
  }

  pub wrote_bad : IsAnsweredToBad claim (script_of input) bytes → Wrote claim 3 input left bytes
  wrote_bad is = record {
    known = refl;
    whole = λ e. absurd (omega arith);
    words = λ e. absurd (omega arith);
    bad = λ _. is;
    source = λ e. absurd (omega arith);
    sink = λ e. absurd (omega arith);
    rack = λ e. absurd (omega arith);
    memory = λ e. absurd (omega arith);
    budget = λ e. absurd (omega arith);
  }

  pub wrote_source : IsCutBySource claim input left bytes → Wrote claim 4 input left bytes
  wrote_source is = record {
    known = refl;
    whole = λ e. absurd (omega arith);
    words = λ e. absurd (omega arith);
    bad = λ e. absurd (omega arith);
    source = λ _. is;
    sink = λ e. absurd (omega arith);
    rack = λ e. absurd (omega arith);
    memory = λ e. absurd (omega arith);
    budget = λ e. absurd (omega arith);
  }

  pub wrote_sink : IsCutBySink claim (script_of input) bytes → Wrote claim 5 input left bytes
  wrote_sink is = record {
    known = refl;
    whole = λ e. absurd (omega arith);
    words = λ e. absurd (omega arith);
    bad = λ e. absurd (omega arith);
    source = λ e. absurd (omega arith);
    sink = λ _. is;
    rack = λ e. absurd (omega arith);
    memory = λ e. absurd (omega arith);
    budget = λ e. absurd (omega arith);
  }

  pub wrote_rack : IsCutByRack claim (script_of input) bytes → Wrote claim 6 input left bytes
  wrote_rack is = record {
    known = refl;
    whole = λ e. absurd (omega arith);
    words = λ e. absurd (omega arith);
    bad = λ e. absurd (omega arith);
    source = λ e. absurd (omega arith);
    sink = λ e. absurd (omega arith);
    rack = λ _. is;
    memory = λ e. absurd (omega arith);
    budget = λ e. absurd (omega arith);
  }

  pub wrote_memory : IsCutByMemory claim (script_of input) bytes → Wrote claim 7 input left bytes
  wrote_memory is = record {
    known = refl;
    whole = λ e. absurd (omega arith);
    words = λ e. absurd (omega arith);
    bad = λ e. absurd (omega arith);
    source = λ e. absurd (omega arith);
    sink = λ e. absurd (omega arith);
    rack = λ e. absurd (omega arith);
    memory = λ _. is;
    budget = λ e. absurd (omega arith);
  }

  pub wrote_budget : IsOverBudget claim input bytes → Wrote claim 8 input left bytes
  wrote_budget is = record {
    known = refl;
    whole = λ e. absurd (omega arith);
    words = λ e. absurd (omega arith);
    bad = λ e. absurd (omega arith);
    source = λ e. absurd (omega arith);
    sink = λ e. absurd (omega arith);
    rack = λ e. absurd (omega arith);
    memory = λ e. absurd (omega arith);
    budget = λ _. is;
  }

  -- an end that a line brought
  pub wrote_line : (last : End) → EndsIn claim last (script_of input) bytes → Wrote claim (status_of last) input left bytes
  wrote_line end.Whole is = absurd is
  wrote_line end.BadLine is = wrote_bad is
  wrote_line end.SourceFault is = absurd is
  wrote_line end.SinkFault is = wrote_sink is
  wrote_line end.RackFault is = wrote_rack is
  wrote_line end.NoMemory is = wrote_memory is
  wrote_line end.OverBudget is = absurd is

-- nothing was written
pub wrote_words : (claim : Claim) (input : List ℕ) (left : Option (List ℕ)) → Wrote claim 2 input left []
wrote_words claim input left = record {
  known = refl;
  whole = λ e. absurd (omega arith);
  words = λ _. refl;
  bad = λ e. absurd (omega arith);
  source = λ e. absurd (omega arith);
  sink = λ e. absurd (omega arith);
  rack = λ e. absurd (omega arith);
  memory = λ e. absurd (omega arith);
  budget = λ e. absurd (omega arith);
}

-- a line that is longer than a line may be is no statement
long_is_bad : (line : List ℕ) → line_limit < length line → statement line ≡ None
long_is_bad line long = cond-true (nat_lt line_limit (length line)) None (words_statement (words_of line)) (lt-ltb line_limit (length line) long)

-- the lines behind those that were given
follow : (input : List ℕ) (lines : List (List ℕ)) (reader : Reader) → HasGiven (Some input) lines reader → (rest : List (List ℕ)) × (lines_of input ≡ lines ++ rest)
follow input lines reader given = let f = given.follow input refl in (lines_of f.0, f.2)

-- a source that is at its end has nothing left, where it told what it had
pub nothing_left : (input bytes held : List ℕ) (left : Option (List ℕ)) → Some input ≡ prepend_known bytes (prepend_known held left) → IsAtEnd left → left ≡ Some []
nothing_left input bytes held None told end = let e : Some input ≡ None = told in absurd (cc)
nothing_left input bytes held (Some xs) told end = ap Some end

module _ {D : Type 0} (seen : D → Seen) (claim : Claim) (input : List ℕ) (lines : List (List ℕ)) (old : World D) (printed : List ℕ) (left : Option (List ℕ)) where
  -- all was read
  pub ends_whole : SoFar seen claim lines old printed → AreAll (Some input) lines → left ≡ Some [] → Wrote claim 0 input left (printed ++ [])
  ends_whole so_far all end =
      let is = all.all input refl in
      let same = script_of-all input lines is so_far.within in
      wrote_whole claim input left (printed ++ []) (record {
        at_end = end;
        within = subst (λ (ls : List (List ℕ)). length ls ≤ lines_limit) (sym is) so_far.within;
        not_bad = ap (λ (s : Script). s.bad) same ∙ so_far.not_bad;
        answered = record {
          answers = so_far.answers;
          printed = append-nil printed ∙ so_far.is_text;
          good = subst (λ (s : Script). Meets claim s.events so_far.answers) (sym same) (meets seen claim (script lines).events so_far.answers old so_far.ran);
        };
      })

  -- as many lines were read as may be
  pub ends_budget : (reader to : Reader) → SoFar seen claim lines old printed → HasGiven (Some input) lines reader → MoreFollow (Some input) lines to → Wrote claim 8 input left (printed ++ [])
  ends_budget reader to so_far given more =
      let f = follow input lines reader given in
      let none : lines_limit - length lines ≡ 0 = omega (arith, more.count) in
      let same : script_of input ≡ script lines =
      script_of-front input lines f.0 f.1 so_far.within ∙ ap (λ (n : ℕ). script (lines ++ take n f.0)) none ∙ ap script (append-nil lines) in
      wrote_budget claim input left (printed ++ []) (record {
        more = more.more input refl;
        not_bad = ap (λ (s : Script). s.bad) same ∙ so_far.not_bad;
        answered = record {
          answers = so_far.answers;
          printed = append-nil printed ∙ so_far.is_text;
          good = subst (λ (s : Script). Meets claim s.events so_far.answers) (sym same) (meets seen claim (script lines).events so_far.answers old so_far.ran);
        };
      })

  -- the source failed
  pub ends_source : SoFar seen claim lines old printed → HasTaken (Some input) lines left → Wrote claim 4 input left (printed ++ [])
  ends_source so_far taken =
      let same : script (whole_lines taken.bytes) ≡ script lines = ap script taken.whole in
      wrote_source claim input left (printed ++ []) (record {
        taken = taken.bytes;
        took = taken.taken;
        within = subst (λ (ls : List (List ℕ)). length ls ≤ lines_limit) (sym taken.whole) so_far.within;
        not_bad = ap (λ (s : Script). s.bad) same ∙ so_far.not_bad;
        answered = record {
          answers = so_far.answers;
          printed = append-nil printed ∙ so_far.is_text;
          good = subst (λ (s : Script). Meets claim s.events so_far.answers) (sym same) (meets seen claim (script lines).events so_far.answers old so_far.ran);
        };
      })

  -- there was no memory for a line
  pub ends_memory : (reader : Reader) → SoFar seen claim lines old printed → HasGiven (Some input) lines reader → Wrote claim 7 input left (printed ++ [])
  ends_memory reader so_far given =
      let f = follow input lines reader given in
      let same = script_of-front input lines f.0 f.1 so_far.within in
      wrote_memory claim input left (printed ++ [])
      (subst (λ (s : Script). IsCutByMemory claim s (printed ++ [])) (sym same) (cut_by_memory seen claim lines old printed (take (lines_limit - length lines) f.0) so_far))

  -- a line is longer than a line may be
  pub ends_long : (last : End) (before after : Option (List ℕ)) (number : ℕ) → SoFar seen claim lines old printed → number ≡ length lines + 1 → length lines < lines_limit → LongFollows (Some input) lines → TellsBad before after number last
      → Printed before after (λ more. Wrote claim (status_of last) input left (printed ++ more))
  ends_long last before after number so_far count lt long tells =
      let l = long.first input refl in
      let same = script_of-line input lines l.0 l.1 l.2 lt in
      let p = bad_ends seen claim lines l.0 old printed (take (lines_limit - length lines - 1) l.1) last before after number tells so_far count (long_is_bad l.0 l.3) in
      (p.0, p.1, wrote_line claim input left (printed ++ p.0) last (subst (λ (s : Script). EndsIn claim last s (printed ++ p.0)) (sym same) p.2))

-- a line of the input was done, or ended the run
pub turns_line : {D : Type 0} (seen : D → Seen) (claim : Claim) (input : List ℕ) (from to : Reader) (old new : World D) (before after : Option (List ℕ)) (line : List ℕ) (number : ℕ) (result : Result (Unit {0}) End)
    → from.given < lines_limit → number ≡ from.given + 1 → ((lines : List (List ℕ)) → HasGiven (Some input) lines from → HasGiven (Some input) (lines ++ line ∷ []) to)
    → RunsLine seen claim line number old new before after result → Turns seen claim input from to old new before after result
turns_line seen claim input from to old new before after line number (Ok x) lt is gives runs = record {
  goes_on = λ lines printed given so_far. (line, gives lines given, runs.goes_on lines printed so_far (omega (arith, given.count)));
  ends = tt;
}
turns_line seen claim input from to old new before after line number (Err last) lt is gives runs = record {
  goes_on = tt;
  ends = λ lines printed given so_far.
      let count : number ≡ length lines + 1 = omega (arith, given.count) in
      let below : length lines < lines_limit = omega (arith, given.count) in
      let f = follow input (lines ++ line ∷ []) to (gives lines given) in
      let same = script_of-line input lines line f.0 (f.1 ∙ append_assoc lines (line ∷ []) f.0) below in
      let p = runs.ends lines (take (lines_limit - length lines - 1) f.0) printed so_far count in
      (p.0, p.1, wrote_line claim input to.left (printed ++ p.0) last (subst (λ (s : Script). EndsIn claim last s (printed ++ p.0)) (sym same) p.2));
}
