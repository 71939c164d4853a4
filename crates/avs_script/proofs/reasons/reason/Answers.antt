use Rattle.std.proofs.Common.{◌≡◌, rules}
use Rattle.avs_model.specs.Words.{words_of}
use Rattle.avs_model.specs.Script.{statement, words_statement}
use Rattle.avs_script.proofs.Exact.{exact-ok}
use Rattle.avs_script.proofs.reasons.reason.Goals as goal

pub returns-clause-exact : goal.returns-clause-exact
returns-clause-exact c =
    let same : statement c.args.line.now ≡ words_statement (words_of c.args.line.now) = search rules in
    exact-ok c.words_reason.result (words_of c.args.line.now) (statement c.args.line.now) same c.words_reason.ensures.is
