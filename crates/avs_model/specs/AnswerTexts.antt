-- The printed form of the answers to statements on volumes and their shadows.
use Rattle.std.specs.Prelude.{ℕ, Option, None, Some, List, [], ◌∷◌, ◌++◌}
use Rattle.std.specs.List.{flat_map}
use Rattle.std.specs.Fmt.{decimal}
use lib.Chars.{codes}
use Rattle.avs_model.specs.Printed.{host_text, runs_text, recovered_text, refusal_text}
use Rattle.avs_model.specs.declared.shadow.Kind.{Kind}
use Rattle.avs_model.specs.declared.shadow.Kind.TheVariants.{Ind, Dep, Compact}
use Rattle.avs_model.specs.declared.product.SetState.{SetState}
use Rattle.avs_model.specs.declared.product.SetState.TheVariants as standing
use Rattle.avs_model.specs.declared.product.ShadowShown.{ShadowShown}
use Rattle.avs_model.specs.declared.product.Answer.{Answer}
use Rattle.avs_model.specs.declared.product.Answer.TheVariants.{Done, Shown, Copied, Idle, Down, Up, Slots, Exported, Sets, ShadowShown as SetShown, Refused, Faulted}

abbrev pub kind_text : Kind → List ℕ
kind_text Ind = codes "ind"
kind_text Dep = codes "dep"
kind_text Compact = codes "compact"

abbrev pub standing_text : SetState → List ℕ
standing_text standing.Online = codes "online"
standing_text standing.Stopped = codes "stopped"
standing_text standing.Offline = codes "offline"
standing_text standing.Exported = codes "exported"

-- what may be missing is told by a dash
abbrev pub or_dash : Option (List ℕ) → List ℕ
or_dash (Some text) = text
or_dash None = codes "-"

-- names, each behind a space
abbrev pub names_text : List (List ℕ) → List ℕ
names_text [] = codes " -"
names_text (name ∷ names) = flat_map (λ one. 32 ∷ one) (name ∷ names)

abbrev pub shown_text : ShadowShown → List ℕ
shown_text set =
    codes "set " ++ set.set ++ 32 ∷ kind_text set.kind ++ 32 ∷ set.master ++ codes " group " ++ set.group
    ++ codes " left " ++ decimal set.left ++ codes " moved " ++ decimal set.moved ++ 32 ∷ standing_text set.state ++ codes " tag " ++ or_dash set.tag

abbrev pub answer_text : Answer → List ℕ
answer_text Done = codes "ok"
answer_text (Shown blocks) = codes "data " ++ runs_text blocks
answer_text (Copied chunk) = codes "copied " ++ decimal chunk
answer_text Idle = codes "idle"
answer_text (Down host) = codes "down " ++ host_text host
answer_text (Up told) = recovered_text told
answer_text (Slots slots used) = codes "slots " ++ decimal slots ++ codes " used " ++ decimal used
answer_text (Exported stamp) = codes "exported " ++ decimal stamp
answer_text (Sets names) = codes "sets" ++ names_text names
answer_text (SetShown set) = shown_text set
answer_text (Refused why) = codes "refused " ++ refusal_text why
answer_text (Faulted host) = codes "refused Fault " ++ host_text host

-- an answer and its line feed, and the printed bytes of answers
abbrev pub answer_line : Answer → List ℕ
answer_line answer = answer_text answer ++ 10 ∷ []

abbrev pub text : List Answer → List ℕ
text answers = flat_map answer_line answers
