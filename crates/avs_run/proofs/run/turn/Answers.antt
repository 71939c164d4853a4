use Rattle.std.proofs.Common.{◌≡◌, ◌∙◌, ◌+◌, [], Some, Ok, Err, sym, ap, subst, arith}
use Rattle.std.specs.Prelude.{Result}
use Rattle.std.specs.Io.KnownBytes.{prepend_known}
use Rattle.avs_io.specs.Given.{GoesOn}
use Rattle.avs_io.specs.Reader.{reader_of, held}
use Rattle.avs_io.specs.declared.lines.Next.{Next}
use Rattle.avs_io.specs.declared.lines.Next.TheVariants.{Line, Long, End, Budget}
use Rattle.avs_io.specs.declared.lines.LineFault.{LineFault}
use Rattle.avs_io.specs.declared.lines.LineFault.TheVariants.{Read}
use Rattle.avs_run.proofs.LineLemmas.{append_known-nil}
use Rattle.avs_run.proofs.TurnLemmas.{ends_whole, ends_budget, ends_source, ends_memory, ends_long, nothing_left, turns_line}
use Rattle.avs_run.proofs.run.turn.Goals as goal

pub returns-in-Ok-Line-clause-turns : goal.returns-in-Ok-Line-clause-turns
returns-in-Ok-Line-clause-turns g c claim can input =
    let result : c.next.result ≡ Ok (Line c.in-Ok-Line.line) = c.in-Ok-Line.is ∙ ap Ok c.in-Ok-Line.field-0-is in
    let gives = rw c.in-Ok-Line.field-0-is at c.in-Ok-Line.ensures.gives in
    let runs = rw c.as_slice.ensures at (c.run_line.ensures.runs claim can) in
    turns_line g.R.D.Disk.seen claim input (reader_of c.args.lines.now) (reader_of c.next.new.self) c.args.world.now c.run_line.new.world
    (g.K.Sink.written c.args.sink.now) (g.K.Sink.written c.run_line.new.sink) c.in-Ok-Line.line (c.given-number.result + 1) c.run_line.result gives.below_limit (omega (arith, c.given-number.ensures))
    (λ lines given. subst (λ (r : Result Next LineFault). GoesOn (Some input) lines (reader_of c.next.new.self) r) result (c.next.ensures.goes_on (Some input) lines given))
    runs

pub returns-in-Ok-Long-clause-turns : goal.returns-in-Ok-Long-clause-turns
returns-in-Ok-Long-clause-turns g c claim can input =
    let result : c.next.result ≡ Ok Long = c.in-Ok-Long.is ∙ ap Ok c.in-Ok-Long.field-0-is in
    let meets = rw c.in-Ok-Long.field-0-is at c.in-Ok-Long.ensures.gives in
    record {
      goes_on = tt;
      ends = λ lines printed given so_far.
          ends_long g.R.D.Disk.seen claim input lines c.args.world.now printed (reader_of c.next.new.self).left c.tell_bad_line.result
          (g.K.Sink.written c.args.sink.now) (g.K.Sink.written c.tell_bad_line.new.sink) (c.given-number.result + 1) so_far (omega (arith, given.count, c.given-number.ensures)) (omega (arith, given.count, meets.below_limit))
          (subst (λ (r : Result Next LineFault). GoesOn (Some input) lines (reader_of c.next.new.self) r) result (c.next.ensures.goes_on (Some input) lines given)) c.tell_bad_line.ensures.tells;
    }

pub returns-in-Ok-End-clause-turns : goal.returns-in-Ok-End-clause-turns
returns-in-Ok-End-clause-turns g c claim can input =
    let result : c.next.result ≡ Ok End = c.in-Ok-End.is ∙ ap Ok c.in-Ok-End.field-0-is in
    let meets = rw c.in-Ok-End.field-0-is at c.in-Ok-End.ensures.gives in
    record {
      goes_on = tt;
      ends = λ lines printed given so_far. (
        [],
        sym (append_known-nil (g.K.Sink.written c.args.sink.now)),
        ends_whole g.R.D.Disk.seen claim input lines c.args.world.now printed (reader_of c.next.new.self).left so_far
            (subst (λ (r : Result Next LineFault). GoesOn (Some input) lines (reader_of c.next.new.self) r) result (c.next.ensures.goes_on (Some input) lines given))
            (nothing_left input given.bytes (held c.next.new.self) (reader_of c.next.new.self).left (given.taken ∙ ap (prepend_known given.bytes) (sym meets.rest)) meets.source_at_end),
      );
    }

pub returns-in-Ok-Budget-clause-turns : goal.returns-in-Ok-Budget-clause-turns
returns-in-Ok-Budget-clause-turns g c claim can input =
    let result : c.next.result ≡ Ok Budget = c.in-Ok-Budget.is ∙ ap Ok c.in-Ok-Budget.field-0-is in
    record {
      goes_on = tt;
      ends = λ lines printed given so_far. (
        [],
        sym (append_known-nil (g.K.Sink.written c.args.sink.now)),
        ends_budget g.R.D.Disk.seen claim input lines c.args.world.now printed (reader_of c.next.new.self).left (reader_of c.args.lines.now) (reader_of c.next.new.self) so_far given
            (subst (λ (r : Result Next LineFault). GoesOn (Some input) lines (reader_of c.next.new.self) r) result (c.next.ensures.goes_on (Some input) lines given)),
      );
    }

pub returns-in-Err-Read-clause-turns : goal.returns-in-Err-Read-clause-turns
returns-in-Err-Read-clause-turns g c claim can input =
    let result : c.next.result ≡ Err Read = c.in-Err-Read.is ∙ ap Err c.in-Err-Read.field-0-is in
    record {
      goes_on = tt;
      ends = λ lines printed given so_far. (
        [],
        sym (append_known-nil (g.K.Sink.written c.args.sink.now)),
        ends_source g.R.D.Disk.seen claim input lines c.args.world.now printed (reader_of c.next.new.self).left so_far
            (subst (λ (r : Result Next LineFault). GoesOn (Some input) lines (reader_of c.next.new.self) r) result (c.next.ensures.goes_on (Some input) lines given)),
      );
    }

pub returns-in-Err-NoMemory-clause-turns : goal.returns-in-Err-NoMemory-clause-turns
returns-in-Err-NoMemory-clause-turns g c claim can input = record {
  goes_on = tt;
  ends = λ lines printed given so_far. (
    [],
    sym (append_known-nil (g.K.Sink.written c.args.sink.now)),
    ends_memory g.R.D.Disk.seen claim input lines c.args.world.now printed (reader_of c.next.new.self).left (reader_of c.args.lines.now) so_far given,
  );
}
