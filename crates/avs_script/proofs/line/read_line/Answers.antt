use Rattle.std.proofs.Common.{◌≡◌, ◌∷◌, ◌∙◌, Err, ap, sym, arith}
use Rattle.std.proofs.lemmas.Result.{err_from_is_err_and}
use Rattle.avs_model.proofs.Fitting.{built-fits, words_event-named}
use Rattle.avs_model.specs.Words.{words_of}
use Rattle.avs_model.specs.Script.{words_event}
use Rattle.avs_script.specs.declared.error.LineError.TheVariants.{NoMemory}
use Rattle.avs_script.proofs.Wanting.{wanting-some}
use Rattle.avs_script.proofs.line.read_line.Goals as goal

pub returns-in_err-event-clause-memory : goal.returns-in_err-event-clause-memory
returns-in_err-event-clause-memory c =
    let word = c.in-Some.word.now in
    let p = err_from_is_err_and c.from_residual.result c.from_residual.ensures.1 in
    let words : words_of c.args.line.now ≡ word ∷ c.next.new.self = sym c.new-words.ensures ∙ c.in-Some.ensures.word in
    λ wants.
    let error : p.0 ≡ NoMemory = cc (sym p.1 ∙ wants) in
    (omega arith, rw words (wanting-some c.read_event.result (words_event word c.next.new.self) c.read_event.ensures.bad (c.in_err-event.was ∙ ap Err (sym p.2 ∙ error))))

pub returns-then-is_built-clause-fits : goal.returns-then-is_built-clause-fits
returns-then-is_built-clause-fits c =
    built-fits c.in_ok-event.event (sym c.is_built.ensures ∙ c.if-is_built.true) (words_event-named c.in-Some.word.now c.next.new.self c.in_ok-event.event c.in_ok-event.ensures.ok)
