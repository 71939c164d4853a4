use Rattle.std.proofs.Common.{rules, ◌≡◌, ◌∙◌, sym, arith}
use Rattle.avs_chunks.specs.States.{code_of, state_in}
use Rattle.avs_chunks.proofs.Counted.{has_one, are_few, counted_set, counted_past}
use Rattle.avs_chunks.proofs.counting.set_counted.Goals as goal

pub changed-requires-clause-one : goal.changed-requires-clause-one
changed-requires-clause-one c = has_one (state_in c.args.bytes.now) c.args.end c.args.counts c.args.chunk _ (omega arith) (sym c.state_in-from.ensures) c.requires.counted

pub changed-requires-clause-few : goal.changed-requires-clause-few
changed-requires-clause-few c = are_few (state_in c.args.bytes.now) c.args.end c.args.counts c.requires.few c.requires.counted

pub returns-then-chunk-end-clause-counted : goal.returns-then-chunk-end-clause-counted
returns-then-chunk-end-clause-counted c = counted_past (state_in c.args.bytes.now) (state_in c.set_state.new.bytes) c.args.end c.args.chunk c.args.counts (omega arith) c.set_state.ensures.others c.requires.counted

pub returns-clause-counted : goal.returns-clause-counted
returns-clause-counted c = counted_set (state_in c.args.bytes.now) (state_in c.set_state.new.bytes) c.args.end c.args.chunk _ _ c.args.counts c.changed.result (omega arith) c.set_state.ensures.others (sym c.state_in-from.ensures) c.set_state.ensures.now c.requires.counted c.changed.ensures
