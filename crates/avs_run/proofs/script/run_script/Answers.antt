use Rattle.std.proofs.Common.{[], refl, sym}
use Rattle.avs_model.specs.Promise.{OneEach, AreGood}
use Rattle.avs_run.proofs.LineLemmas.{append_known-nil}
use Rattle.avs_run.proofs.TurnLemmas.{wrote_words}
use Rattle.avs_run.proofs.script.run_script.Goals as goal

pub returns-then-not-is_empty-clause-wrote : goal.returns-then-not-is_empty-clause-wrote
returns-then-not-is_empty-clause-wrote g c tells input is =
    ([], sym (append_known-nil (g.K.Sink.written c.args.sink.now)), wrote_words (AreGood (g.R.Rack.seen c.args.rack.now).steady) input (g.S.Source.left c.args.source.now))

pub returns-then-not-is_empty-clause-counted : goal.returns-then-not-is_empty-clause-counted
returns-then-not-is_empty-clause-counted g c input is =
    ([], sym (append_known-nil (g.K.Sink.written c.args.sink.now)), wrote_words OneEach input (g.S.Source.left c.args.source.now))

pub returns-clause-wrote : goal.returns-clause-wrote
returns-clause-wrote g c tells input is =
    let end = c.run_source.ensures.ran (AreGood (g.R.Rack.seen c.args.rack.now).steady) (tells, refl) input is in
    rw c.status.ensures end

pub returns-clause-counted : goal.returns-clause-counted
returns-clause-counted g c input is = rw c.status.ensures (c.run_source.ensures.ran OneEach tt input is)
