use Rattle.std.proofs.Common.{rules, ◌≡◌, ◌<◌, ℕ, Ok, Err, ap, subst, arith}
use Rattle.avs_seg.specs.declared.fault.Failed.{Failed}
use Rattle.avs_chunks.specs.States.{area_len}
use Rattle.avs_chunks.specs.ChunkSet.{ChunkSet, chunks_of, state_of}
use Rattle.avs_chunks.specs.Staging.{StagesParts, updated}
use Rattle.avs_chunks.proofs.Staged.{parts_none, parts_more, parts_fail}
use Rattle.avs_chunks.proofs.chunks.Chunks.stage_all.Goals as goal

pub loop-part-init : goal.loop-part-init
loop-part-init g c = record { so_far = parts_none c.args.self.now (λ k. updated c.args.update (state_of c.args.self.now k)) }

pub stage_one-requires : goal.stage_one-requires
stage_one-requires g c =
    let blocks = ap (λ (s : ChunkSet). s.blocks) c.self.view_is in
    let same = ap (λ (s : ChunkSet). s.blocks) c.loop-part.invariant.so_far.is in
    omega (arith, blocks, same, c.loop-part-test.true, c.area_len-part-end.ensures.is)

pub loop-part-preserved : goal.loop-part-preserved
loop-part-preserved g c =
    let so = c.loop-part.invariant.so_far in
    record {
      so_far = parts_more c.args.self.now c.loop-part.self c.stage_one.new.self (λ k. updated c.args.update (state_of c.args.self.now k)) (λ k. updated c.args.update (state_of c.loop-part.self k)) c.loop-part.part
          (λ k. ap (λ (s : ChunkSet). updated c.args.update (state_of s k)) so.is) so c.stage_one.result c.in_ok-stage_one.was c.stage_one.ensures;
    }

pub returns-in_err-stage_one : goal.returns-in_err-stage_one
returns-in_err-stage_one g c =
    let so = c.loop-part.invariant.so_far in
    let is : c.from_residual.result ≡ Err c.in_err-stage_one.field-0.0 = search rules in
    let blocks = ap (λ (s : ChunkSet). s.blocks) c.self.view_is in
    let lt : c.loop-part.part < area_len (chunks_of c.args.self.now) = omega (arith, blocks, c.loop-part-test.true, c.area_len-part-end.ensures.is) in
    rw is (parts_fail c.args.self.now c.loop-part.self c.stage_one.new.self (λ k. updated c.args.update (state_of c.args.self.now k)) (λ k. updated c.args.update (state_of c.loop-part.self k)) c.loop-part.part
    (λ k. ap (λ (s : ChunkSet). updated c.args.update (state_of s k)) so.is) so (area_len (chunks_of c.args.self.now)) c.in_err-stage_one.field-0.0 c.stage_one.result lt c.in_err-stage_one.was c.stage_one.ensures)

pub returns : goal.returns
returns g c =
    let blocks = ap (λ (s : ChunkSet). s.blocks) c.self.view_is in
    let all : c.loop-part.part ≡ area_len (chunks_of c.args.self.now) = omega (arith, blocks, c.loop-part-test.false, c.area_len-part-end.ensures.is, c.loop-part.auto.part-end) in
    subst (λ (n : ℕ). StagesParts {T = Unit {0}} {E = Failed} c.args.self.now (λ k. updated c.args.update (state_of c.args.self.now k)) 0 n (Ok tt) c.loop-part.self) all c.loop-part.invariant.so_far
