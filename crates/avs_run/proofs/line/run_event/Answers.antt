use Rattle.std.proofs.Common.{◌∙◌, [], ◌∷◌, Err, take, sym, ap}
use Rattle.avs_model.specs.Printed.{answer_line}
use Rattle.avs_run.proofs.LineLemmas.{steps_as, kept_as, event_done, cut_by_memory, cut_by_rack, cut_answer, append_known-nil}
use Rattle.avs_run.proofs.line.run_event.Goals as goal

pub returns-in-Err-Rack-clause-runs : goal.returns-in-Err-Rack-clause-runs
returns-in-Err-Rack-clause-runs g c claim can line is number =
    let refused = c.in-Err-Rack.is ∙ ap Err c.in-Err-Rack.field-0-is in
    record {
      goes_on = tt;
      ends = λ lines rest printed so_far count. (
        [],
        sym (append_known-nil (g.K.Sink.written c.args.sink.now)),
        cut_by_rack g.R.D.Disk.seen claim lines line c.args.world.now printed rest c.args.event.now so_far is (c.step.ensures.asked refused),
      );
    }

pub returns-in-Err-NoMemory-clause-runs : goal.returns-in-Err-NoMemory-clause-runs
returns-in-Err-NoMemory-clause-runs g c claim can line is number = record {
  goes_on = tt;
  ends = λ lines rest printed so_far count. (
    [],
    sym (append_known-nil (g.K.Sink.written c.args.sink.now)),
    cut_by_memory g.R.D.Disk.seen claim lines c.args.world.now printed (line ∷ rest) so_far,
  );
}

pub returns-in-Ok-print_answer-clause-runs : goal.returns-in-Ok-print_answer-clause-runs
returns-in-Ok-print_answer-clause-runs g c claim can line is number =
    record {
      goes_on = λ lines printed so_far lt. (
        answer_line c.in-Ok.answer,
        c.in-Ok-print_answer.ensures.printed,
        event_done g.R.D.Disk.seen claim lines line c.args.world.now printed c.keep.new.self c.args.event.now c.in-Ok.answer so_far lt is
            (kept_as g.R.D.Disk.seen claim c.args.world.now c.args.event.now c.in-Ok.answer c.step.new.self c.keep.new.self
            (steps_as g.R.D.Disk.seen (g.R.Rack.seen c.args.rack.now) claim c.args.world.now c.args.event.now c.in-Ok.answer c.step.new.self can c.in-Ok.ensures.steps) c.keep.ensures.stands),
      );
      ends = tt;
    }

pub returns-in-Err-Sink-clause-runs : goal.returns-in-Err-Sink-clause-runs
returns-in-Err-Sink-clause-runs g c claim can line is number =
    let cut = rw c.in-Err-Sink.field-0-is at c.in-Err-Sink.ensures.cut in
    record {
      goes_on = tt;
      ends = λ lines rest printed so_far count. (
        take cut.0 (answer_line c.in-Ok.answer),
        cut.1,
        cut_answer g.R.D.Disk.seen claim lines line c.args.world.now printed rest c.step.new.self c.args.event.now c.in-Ok.answer cut.0 so_far is
            (steps_as g.R.D.Disk.seen (g.R.Rack.seen c.args.rack.now) claim c.args.world.now c.args.event.now c.in-Ok.answer c.step.new.self can c.in-Ok.ensures.steps),
      );
    }

pub returns-clause-runs : goal.returns-clause-runs
returns-clause-runs g c claim can line is number =
    let cut = rw c.in-Err-NoMemory-print_answer.field-0-is at c.in-Err-NoMemory-print_answer.ensures.cut in
    record {
      goes_on = tt;
      ends = λ lines rest printed so_far count. (
        [],
        cut ∙ sym (append_known-nil (g.K.Sink.written c.args.sink.now)),
        cut_by_memory g.R.D.Disk.seen claim lines c.args.world.now printed (line ∷ rest) so_far,
      );
    }
