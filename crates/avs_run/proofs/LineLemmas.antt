-- What a line makes of a run so far.
use Rattle.std.proofs.Common.{◌≡◌, ◌≢◌, ℕ, ◌+◌, ◌<◌, Result, Ok, Err, IsTrue, Bool, Option, Some, None, List, [], ◌∷◌, ◌++◌, length, take, refl, sym, ◌∙◌, ap, subst, inl, inr, arith, append_assoc, length-append}
use Rattle.std.specs.Prelude.{⊤}
use Rattle.std.proofs.lemmas.List.{append-nil}
use Rattle.std.proofs.Math.Seq.{take-append-add}
use Rattle.std.specs.Io.KnownBytes.{append_known}
use Rattle.avs_seg.specs.Lines.{lines_limit}
use Rattle.avs_dev.specs.Seen.{Seen}
use Rattle.avs_dev.specs.Rack.{RackSeen}
use Rattle.avs_model.specs.Script.{Script, script, statement, with_line, script_from}
use Rattle.avs_model.specs.Printed.{answer_line, bad_line}
use Rattle.avs_model.specs.State.{State, start}
use Rattle.avs_model.specs.Promise.{Claim, OneEach, AreGood, Meets, Asks, IsAnswered, IsAnsweredToBad, IsCutBySink, IsCutByRack, IsCutByMemory, AsksForDisk}
use Rattle.avs_model.proofs.Scripts.{script-append, script_nothing, script_event, script_bad, script-events, joined}
use Rattle.avs_model.proofs.Runs.{RunTo-more, text-more}
use Rattle.avs_model.specs.declared.event.Event.{Event}
use Rattle.avs_model.specs.declared.event.Statement.TheVariants.{Nothing, Run}
use Rattle.avs_model.specs.declared.answer.Answer.{Answer}
use Rattle.avs_world.specs.World.{Stands, Steps}
use Rattle.avs_run.specs.Run.{Supports, Ran, SoFar}
use Rattle.avs_run.specs.Ends.{EndsIn, Printed}
use Rattle.avs_run.specs.Bad.{TellsBad}
use Rattle.avs_run.specs.declared.end.End.{End}
use Rattle.avs_run.specs.declared.end.End.TheVariants.{Whole, BadLine, SourceFault, SinkFault, RackFault, NoMemory, OverBudget}
use Rattle.avs_world.specs.declared.world.World.{World}

-- what is Ok is no error
pub ok_is_no_err : {T E : Type 0} (r : Result T E) (x : T) (e : E) → r ≡ Ok x → r ≢ Err e
ok_is_no_err r x e ok err = let is : Ok x ≡ Err e = sym ok ∙ err in cc

-- an error is no other one
pub err_is_no_other : {T E : Type 0} (r : Result T E) (e other : E) → r ≡ Err e → e ≢ other → r ≢ Err other
err_is_no_other r e other is differs err = differs (let both = sym is ∙ err in cc)

one_more : (lines : List (List ℕ)) (line : List ℕ) → length (lines ++ line ∷ []) ≡ length lines + 1
one_more lines line = omega (arith, length-append lines (line ∷ []))

pub append_known-nil : (known : Option (List ℕ)) → append_known known [] ≡ known
append_known-nil None = refl
append_known-nil (Some xs) = ap Some (append-nil xs)

-- the first bytes of what stands behind others
take-behind : (front bytes : List ℕ) (n : ℕ) → front ++ take n bytes ≡ take (length front + n) (front ++ bytes)
take-behind front bytes n = sym (take-append-add front bytes n)

-- an event is a step, as far as that is claimed
abbrev pub StepsAs : {D : Type 0} → (D → Seen) → Claim → World D → Event → Answer → World D → Type 0
StepsAs seen OneEach old event answer new = ⊤
StepsAs seen (AreGood steady) old event answer new = Steps seen steady old event answer new

module _ {D : Type 0} (seen : D → Seen) where
  -- what a step says over a rack is all that may be claimed there
  pub steps_as : (rack : RackSeen) (claim : Claim) (old : World D) (event : Event) (answer : Answer) (new : World D) → Supports rack claim
      → (IsTrue rack.tells → Steps seen rack.steady old event answer new) → StepsAs seen claim old event answer new
  steps_as rack OneEach old event answer new can steps = tt
  steps_as rack (AreGood steady) old event answer new can steps = subst (λ (s : Bool). Steps seen s old event answer new) (sym can.1) (steps can.0)

  -- a world that stands for the same states
  pub kept_as : (claim : Claim) (old : World D) (event : Event) (answer : Answer) (mid new : World D) → StepsAs seen claim old event answer mid
      → ((steady : Bool) (state : State) → Stands seen steady mid state → Stands seen steady new state) → StepsAs seen claim old event answer new
  kept_as OneEach old event answer mid new steps keeps = tt
  kept_as (AreGood steady) old event answer mid new steps keeps =
      λ state stands. let step = steps state stands in (step.0, step.1, keeps steady step.0 step.2)

  ran_more : (claim : Claim) (events : List Event) (answers : List Answer) (old : World D) (event : Event) (answer : Answer) (new : World D) → Ran seen claim events answers old → StepsAs seen claim old event answer new
      → Ran seen claim (events ++ event ∷ []) (answers ++ answer ∷ []) new
  ran_more OneEach events answers old event answer new ran steps = omega (arith, ran, length-append answers (answer ∷ []), length-append events (event ∷ []))
  ran_more (AreGood steady) events answers old event answer new ran steps =
      let step = steps ran.state ran.stands in
      record { state = step.0; ran = RunTo-more steady start ran.state step.0 events answers event answer ran.ran step.1; stands = step.2 }

  -- what is claimed of the answers alone
  pub meets : (claim : Claim) (events : List Event) (answers : List Answer) (world : World D) → Ran seen claim events answers world → Meets claim events answers
  meets OneEach events answers world ran = ran
  meets (AreGood steady) events answers world ran = (ran.state, ran.ran)

  -- an event that asks the rack for a disk in each state for which the world may stand
  asks_as : (claim : Claim) (events : List Event) (answers : List Answer) (world : World D) (event : Event) → Ran seen claim events answers world
      → ((steady : Bool) (state : State) → Stands seen steady world state → AsksForDisk state event) → Asks claim events answers event
  asks_as OneEach events answers world event ran asks = ran
  asks_as (AreGood steady) events answers world event ran asks = record { state = ran.state; ran = ran.ran; asks = asks steady ran.state ran.stands }

-- the events so far are the first of the script
answered : {D : Type 0} (seen : D → Seen) (claim : Claim) (lines : List (List ℕ)) (old : World D) (printed : List ℕ) (rest : List (List ℕ)) → SoFar seen claim lines old printed
    → IsAnswered claim (take (length (script lines).events) (script (lines ++ rest)).events) printed
answered seen claim lines old printed rest so_far = record {
  answers = so_far.answers;
  printed = so_far.is_text;
  good = subst (λ (es : List Event). Meets claim es so_far.answers) (sym (script-events lines rest so_far.not_bad)) (meets seen claim (script lines).events so_far.answers old so_far.ran);
}

-- there was no memory
pub cut_by_memory : {D : Type 0} (seen : D → Seen) (claim : Claim) (lines : List (List ℕ)) (old : World D) (printed : List ℕ) (rest : List (List ℕ)) → SoFar seen claim lines old printed
    → IsCutByMemory claim (script (lines ++ rest)) (printed ++ [])
cut_by_memory seen claim lines old printed rest so_far = record {
  count = length (script lines).events;
  answered = subst (λ (b : List ℕ). IsAnswered claim (take (length (script lines).events) (script (lines ++ rest)).events) b) (sym (append-nil printed)) (answered seen claim lines old printed rest so_far);
}

module _ {D : Type 0} (seen : D → Seen) (claim : Claim) (lines : List (List ℕ)) (line : List ℕ) (old : World D) (printed : List ℕ) where
  -- a line that says nothing
  pub nothing_done : SoFar seen claim lines old printed → length lines < lines_limit → statement line ≡ Some Nothing → SoFar seen claim (lines ++ line ∷ []) old (printed ++ [])
  nothing_done so_far lt is =
      let same = script_nothing lines line so_far.not_bad is in
      record {
        within = omega (arith, one_more lines line);
        not_bad = ap (λ (s : Script). s.bad) same ∙ so_far.not_bad;
        answers = so_far.answers;
        is_text = append-nil printed ∙ so_far.is_text;
        ran = subst (λ (s : Script). Ran seen claim s.events so_far.answers old) (sym same) so_far.ran;
      }

  -- a line whose event was done and answered
  pub event_done : (new : World D) (event : Event) (answer : Answer) → SoFar seen claim lines old printed → length lines < lines_limit → statement line ≡ Some (Run event) → StepsAs seen claim old event answer new
      → SoFar seen claim (lines ++ line ∷ []) new (printed ++ answer_line answer)
  event_done new event answer so_far lt is steps =
      let same = script_event lines line event so_far.not_bad is in
      record {
        within = omega (arith, one_more lines line);
        not_bad = ap (λ (s : Script). s.bad) same;
        answers = so_far.answers ++ answer ∷ [];
        is_text = ap (λ (l : List ℕ). l ++ answer_line answer) so_far.is_text ∙ sym (text-more so_far.answers answer);
        ran = subst (λ (s : Script). Ran seen claim s.events (so_far.answers ++ answer ∷ []) new) (sym same)
            (ran_more seen claim (script lines).events so_far.answers old event answer new so_far.ran steps);
      }

  module _ (rest : List (List ℕ)) where
    -- the line is no statement
    pub answered_to_bad : (number : ℕ) → SoFar seen claim lines old printed → number ≡ length lines + 1 → statement line ≡ None → IsAnsweredToBad claim (script (lines ++ line ∷ rest)) (printed ++ bad_line number)
    answered_to_bad number so_far is bad =
        let same = script_bad lines line rest so_far.not_bad bad in
        record {
          number = number;
          bad = ap (λ (s : Script). s.bad) same ∙ ap Some (omega arith);
          answers = so_far.answers;
          printed = ap (λ (l : List ℕ). l ++ bad_line number) so_far.is_text;
          good = subst (λ (es : List Event). Meets claim es so_far.answers) (sym (ap (λ (s : Script). s.events) same ∙ append-nil (script lines).events))
              (meets seen claim (script lines).events so_far.answers old so_far.ran);
        }

    -- and the sink failed while that was told
    pub cut_bad : (number count : ℕ) → SoFar seen claim lines old printed → number ≡ length lines + 1 → statement line ≡ None → IsCutBySink claim (script (lines ++ line ∷ rest)) (printed ++ take count (bad_line number))
    cut_bad number count so_far is bad = record {
      whole = printed ++ bad_line number;
      count = length printed + count;
      first = take-behind printed (bad_line number) count;
      such = inr (answered_to_bad number so_far is bad);
    }

    -- the rack failed
    pub cut_by_rack : (event : Event) → SoFar seen claim lines old printed → statement line ≡ Some (Run event) → ((steady : Bool) (state : State) → Stands seen steady old state → AsksForDisk state event) → IsCutByRack claim (script (lines ++ line ∷ rest)) (printed ++ [])
    cut_by_rack event so_far is asks = record {
      before = (script lines).events;
      event = event;
      after = (script_from (1 + length lines + 1) rest).events;
      events = ap (λ (s : Script). s.events) (script-append lines (line ∷ rest) so_far.not_bad
          ∙ ap (λ (said : _). joined (script lines) (with_line (1 + length lines) said (script_from (1 + length lines + 1) rest))) is);
      answers = so_far.answers;
      printed = append-nil printed ∙ so_far.is_text;
      asks = asks_as seen claim (script lines).events so_far.answers old event so_far.ran asks;
    }

    -- the sink failed while the answer was printed
    pub cut_answer : (new : World D) (event : Event) (answer : Answer) (count : ℕ) → SoFar seen claim lines old printed → statement line ≡ Some (Run event) → StepsAs seen claim old event answer new
        → IsCutBySink claim (script (lines ++ line ∷ rest)) (printed ++ take count (answer_line answer))
    cut_answer new event answer count so_far is steps =
        let same = script_event lines line event so_far.not_bad is in
        let not_bad = ap (λ (s : Script). s.bad) same in
        let first : take (length (script (lines ++ line ∷ [])).events) (script (lines ++ line ∷ rest)).events ≡ (script (lines ++ line ∷ [])).events =
        ap (λ (ls : List (List ℕ)). take (length (script (lines ++ line ∷ [])).events) (script ls).events) (sym (append_assoc lines (line ∷ []) rest)) ∙ script-events (lines ++ line ∷ []) rest not_bad in
        record {
          whole = printed ++ answer_line answer;
          count = length printed + count;
          first = take-behind printed (answer_line answer) count;
          such = inl (
            length (script (lines ++ line ∷ [])).events,
            record {
              answers = so_far.answers ++ answer ∷ [];
              printed = ap (λ (l : List ℕ). l ++ answer_line answer) so_far.is_text ∙ sym (text-more so_far.answers answer);
              good = subst (λ (es : List Event). Meets claim es (so_far.answers ++ answer ∷ [])) (sym (first ∙ ap (λ (s : Script). s.events) same))
                  (meets seen claim ((script lines).events ++ event ∷ []) (so_far.answers ++ answer ∷ []) new (ran_more seen claim (script lines).events so_far.answers old event answer new so_far.ran steps));
            },
          );
        }

    -- the run ends at a line that is no statement
    pub bad_ends : (end : End) (before after : Option (List ℕ)) (number : ℕ) → TellsBad before after number end → SoFar seen claim lines old printed → number ≡ length lines + 1 → statement line ≡ None
        → Printed before after (λ more. EndsIn claim end (script (lines ++ line ∷ rest)) (printed ++ more))
    bad_ends Whole before after number tells so_far is bad = absurd tells
    bad_ends BadLine before after number tells so_far is bad = (bad_line number, tells, answered_to_bad number so_far is bad)
    bad_ends SourceFault before after number tells so_far is bad = absurd tells
    bad_ends SinkFault before after number tells so_far is bad = (take tells.0 (bad_line number), tells.1, cut_bad number tells.0 so_far is bad)
    bad_ends RackFault before after number tells so_far is bad = absurd tells
    bad_ends NoMemory before after number tells so_far is bad = ([], tells ∙ sym (append_known-nil before), cut_by_memory seen claim lines old printed (line ∷ rest) so_far)
    bad_ends OverBudget before after number tells so_far is bad = absurd tells

-- bytes that were written, and then others
pub append_known-append : (before mid after : Option (List ℕ)) (xs ys : List ℕ) → mid ≡ append_known before xs → after ≡ append_known mid ys → after ≡ append_known before (xs ++ ys)
append_known-append before mid after xs ys first then = then ∙ ap (λ (k : Option (List ℕ)). append_known k ys) first ∙ both before
  where
    both : (k : Option (List ℕ)) → append_known (append_known k xs) ys ≡ append_known k (xs ++ ys)
    both None = refl
    both (Some bs) = ap Some (append_assoc bs xs ys)

-- a rack of the same kind
pub supports_same : (old new : RackSeen) → new.tells ≡ old.tells → new.steady ≡ old.steady → (claim : Claim) → Supports old claim → Supports new claim
supports_same old new tells steady OneEach can = tt
supports_same old new tells steady (AreGood sure) can = (subst IsTrue (sym tells) can.0, can.1 ∙ sym steady)

-- before the first event
ran_none : {D : Type 0} (seen : D → Seen) (claim : Claim) (world : World D) → ((steady : Bool) → Stands seen steady world start) → Ran seen claim [] [] world
ran_none seen OneEach world stands = refl
ran_none seen (AreGood steady) world stands = record { state = start; ran = refl; stands = stands steady }

-- before the first line
pub so_far_none : {D : Type 0} (seen : D → Seen) (claim : Claim) (world : World D) → ((steady : Bool) → Stands seen steady world start) → SoFar seen claim [] world []
so_far_none seen claim world stands = record { within = omega arith; not_bad = refl; answers = []; is_text = refl; ran = ran_none seen claim world stands }
