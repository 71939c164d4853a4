use Rattle.std.proofs.Common.{◌∙◌, [], ◌∷◌, Some, Err, sym, ap}
use Rattle.avs_run.proofs.LineLemmas.{nothing_done, cut_by_memory, bad_ends, append_known-nil}
use Rattle.avs_run.proofs.line.run_line.Goals as goal

pub returns-in-Ok-Nothing-clause-runs : goal.returns-in-Ok-Nothing-clause-runs
returns-in-Ok-Nothing-clause-runs g c claim can = record {
  goes_on = λ lines printed so_far lt. (
    [],
    sym (append_known-nil (g.K.Sink.written c.args.sink.now)),
    nothing_done g.R.D.Disk.seen claim lines c.args.line.now c.args.world.now printed so_far lt (c.in-Ok-Nothing.ensures.ok ∙ ap Some c.in-Ok-Nothing.field-0-is),
  );
  ends = tt;
}

pub returns-in-Ok-Run-clause-runs : goal.returns-in-Ok-Run-clause-runs
returns-in-Ok-Run-clause-runs g c claim can = c.run_event.ensures.runs claim can c.args.line.now (c.in-Ok-Run.ensures.ok ∙ ap Some c.in-Ok-Run.field-0-is) c.args.number

pub returns-in-Err-Bad-clause-runs : goal.returns-in-Err-Bad-clause-runs
returns-in-Err-Bad-clause-runs g c claim can =
    let bad = c.read_line.ensures.bad (c.in-Err-Bad.is ∙ ap Err c.in-Err-Bad.field-0-is) in
    record {
      goes_on = tt;
      ends = λ lines rest printed so_far count.
          bad_ends g.R.D.Disk.seen claim lines c.args.line.now c.args.world.now printed rest c.tell_bad_line.result (g.K.Sink.written c.args.sink.now) (g.K.Sink.written c.tell_bad_line.new.sink)
          c.args.number c.tell_bad_line.ensures.tells so_far count bad;
    }

pub returns-in-Err-NoMemory-clause-runs : goal.returns-in-Err-NoMemory-clause-runs
returns-in-Err-NoMemory-clause-runs g c claim can = record {
  goes_on = tt;
  ends = λ lines rest printed so_far count. (
    [],
    sym (append_known-nil (g.K.Sink.written c.args.sink.now)),
    cut_by_memory g.R.D.Disk.seen claim lines c.args.world.now printed (c.args.line.now ∷ rest) so_far,
  );
}
