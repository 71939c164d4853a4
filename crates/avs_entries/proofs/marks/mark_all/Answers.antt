use Rattle.std.proofs.Common.{rules, ◌≡◌, Err, ℕ, length, refl, subst, arith}
use Rattle.avs_entries.specs.Entries.{entry_in}
use Rattle.avs_entries.specs.Counting.{is_own, is_over}
use Rattle.avs_entries.specs.Slots.{MarksOne, IsBadMark}
use Rattle.avs_entries.proofs.Counted.{count_most}
use Rattle.avs_entries.proofs.Marking.{marks_none, marks_more, bad_mark}
use Rattle.avs_entries.proofs.marks.mark_all.Goals as goal

pub loop-chunk-init : goal.loop-chunk-init
loop-chunk-init c = record { so_far = marks_none (entry_in c.args.bytes.now) c.args.table.now _ c.requires.free refl refl }

pub mark_one-requires-clause-own : goal.mark_one-requires-clause-own
mark_one-requires-clause-own c = omega (arith, c.loop-chunk.invariant.so_far.own_count, count_most (λ k. is_own (length c.args.table.now) (entry_in c.args.bytes.now k)) c.loop-chunk.chunk)

pub mark_one-requires-clause-over : goal.mark_one-requires-clause-over
mark_one-requires-clause-over c = omega (arith, c.loop-chunk.invariant.so_far.over_count, count_most (λ k. is_over (length c.args.table.now) (entry_in c.args.bytes.now k)) c.loop-chunk.chunk)

pub loop-chunk-preserved : goal.loop-chunk-preserved
loop-chunk-preserved c = record {
  so_far = marks_more (entry_in c.args.bytes.now) _ c.loop-chunk.chunk c.loop-chunk.table c.mark_one.new.table c.loop-chunk.counts c.in_ok-counts.counts c.loop-chunk.invariant.so_far
      (subst (λ (e : ℕ). MarksOne c.loop-chunk.table c.loop-chunk.counts c.loop-chunk.chunk e c.mark_one.new.table c.in_ok-counts.counts) c.entry_in.ensures c.in_ok-counts.ensures.marked);
}

pub returns-in_err-counts-clause-bad : goal.returns-in_err-counts-clause-bad
returns-in_err-counts-clause-bad c =
    let is : c.from_residual.result ≡ Err c.in_err-counts.field-0.0 = search rules in
    let bad = c.in_err-counts.ensures.bad in
    rw is (bad.0, bad_mark (entry_in c.args.bytes.now) _ c.loop-chunk.chunk c.args.end c.loop-chunk.table c.loop-chunk.counts c.loop-chunk.invariant.so_far c.loop-chunk-test.true (subst (λ (e : ℕ). IsBadMark c.loop-chunk.table e) c.entry_in.ensures bad.1))
