use Rattle.std.proofs.Common.{◌∙◌, [], ◌∷◌, ◌++◌, sym, refl}
use Rattle.avs_run.proofs.LineLemmas.{ok_is_no_err, append_known-nil, append_known-append, supports_same, so_far_none}
use Rattle.avs_run.proofs.run.run_lines.Goals as goal

pub loop-end-init : goal.loop-end-init
loop-end-init g c = record {
  reference = refl;
  tells = refl;
  steady = refl;
  source = refl;
  sink = refl;
  rack = refl;
  so_far = λ claim can input given. (
    [],
    given,
    (
      [],
      sym (append_known-nil (g.K.Sink.written c.args.sink.now)),
      so_far_none g.R.D.Disk.seen claim c.new-world.result c.new-world.ensures,
    ),
  );
}

pub returns-in-Err-clause-ran : goal.returns-in-Err-clause-ran
returns-in-Err-clause-ran g c claim can input given =
    let i = c.loop-end.invariant in
    let so = i.so_far claim can input given in
    let turns = c.in-Err.ensures.turns claim (supports_same (g.R.Rack.seen c.args.rack.now) (g.R.Rack.seen c.loop-end.rack) i.tells i.steady claim can) input in
    let end = turns.ends so.0 so.2.0 so.1 so.2.2 in
    (so.2.0 ++ end.0, append_known-append (g.K.Sink.written c.args.sink.now) (g.K.Sink.written c.loop-end.sink) (g.K.Sink.written c.turn.new.sink) so.2.0 end.0 so.2.1 end.1, end.2)

pub loop-end-preserved : goal.loop-end-preserved
loop-end-preserved g c =
    let i = c.loop-end.invariant in
    record {
      reference = c.turn.ensures.reference ∙ i.reference;
      tells = c.turn.ensures.tells ∙ i.tells;
      steady = c.turn.ensures.steady ∙ i.steady;
      source = c.turn.ensures.read_quiet (ok_is_no_err _ _ _ c.in_default.is) ∙ i.source;
      sink = c.turn.ensures.write_quiet (ok_is_no_err _ _ _ c.in_default.is) ∙ i.sink;
      rack = c.turn.ensures.rack_quiet (ok_is_no_err _ _ _ c.in_default.is) ∙ i.rack;
      so_far = λ claim can input given.
          let so = i.so_far claim can input given in
          let turns = c.in_default.ensures.turns claim (supports_same (g.R.Rack.seen c.args.rack.now) (g.R.Rack.seen c.loop-end.rack) i.tells i.steady claim can) input in
          let on = turns.goes_on so.0 so.2.0 so.1 so.2.2 in (
            so.0 ++ on.0 ∷ [],
            on.1,
            (
              so.2.0 ++ on.2.0,
              append_known-append (g.K.Sink.written c.args.sink.now) (g.K.Sink.written c.loop-end.sink) (g.K.Sink.written c.turn.new.sink) so.2.0 on.2.0 so.2.1 on.2.1,
              on.2.2,
            ),
          );
    }
