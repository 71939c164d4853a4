use Rattle.std.proofs.Common.{◌≡◌, ◌∷◌, ◌∙◌, Err, ap, sym}
use Rattle.avs_model.specs.Words.{words_of}
use Rattle.avs_model.specs.Script.{words_event}
use Rattle.avs_script.proofs.Wanting.{wanting-some}
use Rattle.avs_script.proofs.reasons.words_reason.Goals as goal

pub returns-in-Err-NoMemory-clause-memory : goal.returns-in-Err-NoMemory-clause-memory
returns-in-Err-NoMemory-clause-memory c =
    let word = c.in-Some.word.now in
    let words : words_of c.args.line.now ≡ word ∷ c.next.new.self = sym c.new-words.ensures ∙ c.in-Some.ensures.word in
    λ _. rw words (wanting-some c.read_event.result (words_event word c.next.new.self) c.read_event.ensures.bad (c.in-Err-NoMemory.is ∙ ap Err c.in-Err-NoMemory.field-0-is))
