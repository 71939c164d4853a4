use Rattle.std.proofs.Common.{◌≡◌, Bool, cond, eqb, ◌∙◌, ap, arith}
use Rattle.avs_chunks.specs.States.{state_in, code_of}
use Rattle.avs_chunks.proofs.Counts.{count_more, one_most}
use Rattle.avs_chunks.proofs.states.count_in.Goals as goal

pub loop-chunk-preserved : goal.loop-chunk-preserved
loop-chunk-preserved c =
    let one : c.one_if-count.result ≡ cond (eqb (state_in c.args.bytes.now c.loop-chunk.chunk) (code_of c.args.state)) 1 0 = c.one_if-count.ensures ∙ ap (λ (b : Bool). cond b 1 0) c.is_in.ensures in
    record {
      counted = omega (arith, one, c.loop-chunk.invariant.counted, count_more (λ k. eqb (state_in c.args.bytes.now k) (code_of c.args.state)) c.loop-chunk.chunk);
      small = omega (arith, c.loop-chunk.invariant.small, one_most (eqb (state_in c.args.bytes.now c.loop-chunk.chunk) (code_of c.args.state)), one);
    }
