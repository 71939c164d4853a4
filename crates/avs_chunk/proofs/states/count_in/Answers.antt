use Rattle.std.proofs.Common.{◌≡◌, ℕ, cond, eqb, ◌∙◌, ap, arith}
use Rattle.avs_chunk.specs.States.{state_in}
use Rattle.avs_chunk.proofs.Counts.{count_more, one_most}
use Rattle.avs_chunk.proofs.states.count_in.Goals as goal

pub loop-chunk-preserved : goal.loop-chunk-preserved
loop-chunk-preserved c =
    let one : c.one_if-count.result ≡ cond (eqb (state_in c.args.bytes.now c.loop-chunk.chunk) c.args.state) 1 0 = c.one_if-count.ensures ∙ ap (λ (k : ℕ). cond (eqb k c.args.state) 1 0) c.state_in.ensures.is in
    record {
      counted = omega (arith, one, c.loop-chunk.invariant.counted, count_more (λ k. eqb (state_in c.args.bytes.now k) c.args.state) c.loop-chunk.chunk);
      small = omega (arith, c.loop-chunk.invariant.small, one_most (eqb (state_in c.args.bytes.now c.loop-chunk.chunk) c.args.state), one);
    }
