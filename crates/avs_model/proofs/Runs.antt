-- Runs that go on by one event, and what they print.
use Rattle.std.proofs.Common.{◌≡◌, ℕ, Bool, List, [], ◌∷◌, ◌++◌, refl, ◌∙◌, ap, subst}
use Rattle.std.proofs.lemmas.List.{append-nil}
use Rattle.std.proofs.lemmas.List.Concat.{flat_map-append}
use Rattle.avs_model.specs.State.{State}
use Rattle.avs_model.specs.Good.{Step, RunTo}
use Rattle.avs_model.specs.Printed.{text, answer_line}
use Rattle.avs_model.specs.declared.event.Event.{Event}
use Rattle.avs_model.specs.declared.answer.Answer.{Answer}

pub RunTo-more : (steady : Bool) (old mid new : State) (events : List Event) (answers : List Answer) (event : Event) (answer : Answer)
    → RunTo steady old events answers mid → Step steady mid event answer new → RunTo steady old (events ++ event ∷ []) (answers ++ answer ∷ []) new
RunTo-more steady old mid new [] [] event answer run step = (new, subst (λ (s : State). Step steady s event answer new) run step, refl)
RunTo-more steady old mid new (e ∷ events) (a ∷ answers) event answer run step =
    (run.0, run.1, RunTo-more steady run.0 mid new events answers event answer run.2 step)
RunTo-more steady old mid new [] (a ∷ answers) event answer run step = absurd run
RunTo-more steady old mid new (e ∷ events) [] event answer run step = absurd run

pub text-more : (answers : List Answer) (answer : Answer) → text (answers ++ answer ∷ []) ≡ text answers ++ answer_line answer
text-more answers answer = flat_map-append answer_line answers (answer ∷ []) ∙ ap (λ (l : List ℕ). text answers ++ l) (append-nil (answer_line answer))
