use Rattle.std.proofs.Common.{[], List, ℕ, Option, subst, rules}
use Rattle.avs_io.specs.Given.{HasGiven}
use Rattle.avs_io.specs.Reader.{reader_of}
use Rattle.avs_model.specs.Promise.{Wrote}
use Rattle.avs_run.specs.Ends.{status_of, Printed}
use Rattle.avs_run.proofs.run.run_source.Goals as goal

pub returns-clause-ran : goal.returns-clause-ran
returns-clause-ran g c claim can input is =
    let ran = c.run_lines.ensures.ran claim can input (subst (λ (o : Option (List ℕ)). HasGiven o [] (reader_of c.new-lines.result)) is c.new-lines.ensures.goes_on) in
    subst (λ (s : g.row.S.Denot). Printed (g.K.Sink.written c.args.sink.now) (g.K.Sink.written c.run_lines.new.sink) (Wrote claim (status_of c.run_lines.result) input (g.S.Source.left s))) (search rules) ran
