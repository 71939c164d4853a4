use Rattle.std.proofs.Common.{◌≡◌, ℕ, ◌+◌, ◌-◌, ◌*◌, List, take, drop, sym, ◌∙◌, ap, arith}
use Rattle.std.proofs.lemmas.List.{length-take-le}
use Rattle.std.proofs.lemmas.Slice.Eq.{bytes_eq-Decides}
use Rattle.avs_model.proofs.HeldRuns.{EqualFirst-one, EqualFirst-more, blocks_of-equal}
use Rattle.avs_model.proofs.equal_runs.first_run.Goals as goal

width : (bytes : List ℕ) (n : ℕ) → take (512 * n + 512 - 512 * n) (drop (512 * n) bytes) ≡ take 512 (drop (512 * n) bytes)
width bytes n = let block : 512 * n + 512 - 512 * n ≡ 512 = omega arith in ap (λ (k : ℕ). take k (drop (512 * n) bytes)) block

pub slice_bounds-block-end : goal.slice_bounds-block-end
slice_bounds-block-end c = sym (length-take-le 512 c.args.bytes.now (omega arith))

pub loop-count-init : goal.loop-count-init
loop-count-init c = record { some = omega arith; within = omega arith; equal = EqualFirst-one c.args.bytes.now }

pub loop-count-preserved : goal.loop-count-preserved
loop-count-preserved c = record {
  some = omega arith;
  within = omega arith;
  equal = EqualFirst-more c.args.bytes.now c.loop-count.count c.loop-count.invariant.equal (sym (width c.args.bytes.now c.loop-count.count) ∙ (bytes_eq-Decides _ _).0 (sym c.eq.ensures ∙ c.if-eq.true));
}

pub returns-else-eq-clause-equal : goal.returns-else-eq-clause-equal
returns-else-eq-clause-equal c = blocks_of-equal c.args.bytes.now c.loop-count.count c.loop-count.invariant.within c.loop-count.invariant.equal

pub returns-after-loop-count-clause-equal : goal.returns-after-loop-count-clause-equal
returns-after-loop-count-clause-equal c = blocks_of-equal c.args.bytes.now c.loop-count.count c.loop-count.invariant.within c.loop-count.invariant.equal
