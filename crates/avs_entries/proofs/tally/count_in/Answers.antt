use Rattle.std.proofs.Common.{◌≡◌, ℕ, cond, ◌∙◌, ap, arith}
use Rattle.avs_entries.specs.Entries.{entry_in, code_of}
use Rattle.avs_entries.specs.Counting.{is_in}
use Rattle.avs_entries.proofs.Counted.{count_more, one_most}
use Rattle.avs_entries.proofs.tally.count_in.Goals as goal

pub loop-chunk-preserved : goal.loop-chunk-preserved
loop-chunk-preserved c =
    let one : ◌≡◌ {A = ℕ} c.one_in-count.result (cond (is_in (code_of c.args.state) (entry_in c.args.bytes.now c.loop-chunk.chunk)) 1 0) = c.one_in-count.ensures ∙ ap (λ (e : ℕ). cond (is_in (code_of c.args.state) e) 1 0) c.entry_in.ensures in
    record {
      counted = omega (arith, one, c.loop-chunk.invariant.counted, count_more (λ k. is_in (code_of c.args.state) (entry_in c.args.bytes.now k)) c.loop-chunk.chunk);
      small = omega (arith, c.loop-chunk.invariant.small, one_most (is_in (code_of c.args.state) (entry_in c.args.bytes.now c.loop-chunk.chunk)), one);
    }
