use Rattle.std.proofs.Common.{rules, ◌≡◌, ◌≤◌, ◌+◌, ℕ, Ok, Err, ap, subst, arith}
use Rattle.avs_seg.specs.declared.fault.Failed.{Failed}
use Rattle.avs_entries.specs.Entries.{area_len}
use Rattle.avs_entries.specs.Staging.{updated}
use Rattle.avs_compact.specs.CompactSet.{CompactSet, chunks_of, entry_of}
use Rattle.avs_compact.specs.Staging.{StagesBlocks}
use Rattle.avs_compact.proofs.Staged.{blocks_none, blocks_more, blocks_fail}
use Rattle.avs_compact.proofs.compact.Compact.stage_all.Goals as goal

pub loop-at-init : goal.loop-at-init
loop-at-init g c = record { so_far = blocks_none c.args.self.now (λ k. updated c.args.update (entry_of c.args.self.now k)) 0 }

pub stage_one-requires : goal.stage_one-requires
stage_one-requires g c =
    let blocks = ap (λ (s : CompactSet). s.blocks) c.self.view_is in
    let same = ap (λ (s : CompactSet). s.blocks) c.loop-at.invariant.so_far.is in
    omega (arith, blocks, same, c.loop-at-test.true, c.area_len-at-end.ensures.is)

pub loop-at-preserved : goal.loop-at-preserved
loop-at-preserved g c =
    let so = c.loop-at.invariant.so_far in
    let place : c.loop-at.at ≡ 0 + c.loop-at.at = omega arith in
    record {
      so_far = blocks_more c.args.self.now c.loop-at.self c.stage_one.new.self (λ k. updated c.args.update (entry_of c.args.self.now k)) (λ k. updated c.args.update (entry_of c.loop-at.self k)) 0 c.loop-at.at 1
          (λ k low high. ap (λ (s : CompactSet). updated c.args.update (entry_of s k)) so.is) so c.stage_one.result c.in_ok-stage_one.was (subst (λ (k : ℕ). StagesBlocks c.loop-at.self (λ j. updated c.args.update (entry_of c.loop-at.self j)) k 1 c.stage_one.result c.stage_one.new.self) place c.stage_one.ensures);
    }

pub returns-in_err-stage_one : goal.returns-in_err-stage_one
returns-in_err-stage_one g c =
    let so = c.loop-at.invariant.so_far in
    let place : c.loop-at.at ≡ 0 + c.loop-at.at = omega arith in
    let is : c.from_residual.result ≡ Err c.in_err-stage_one.field-0.0 = search rules in
    let blocks = ap (λ (s : CompactSet). s.blocks) c.self.view_is in
    let lt : c.loop-at.at + 1 ≤ area_len (chunks_of c.args.self.now) = omega (arith, blocks, c.loop-at-test.true, c.area_len-at-end.ensures.is) in
    rw is (blocks_fail c.args.self.now c.loop-at.self c.stage_one.new.self (λ k. updated c.args.update (entry_of c.args.self.now k)) (λ k. updated c.args.update (entry_of c.loop-at.self k)) 0 c.loop-at.at 1
    (λ k low high. ap (λ (s : CompactSet). updated c.args.update (entry_of s k)) so.is) so (area_len (chunks_of c.args.self.now)) c.in_err-stage_one.field-0.0 c.stage_one.result lt c.in_err-stage_one.was (subst (λ (k : ℕ). StagesBlocks c.loop-at.self (λ j. updated c.args.update (entry_of c.loop-at.self j)) k 1 c.stage_one.result c.stage_one.new.self) place c.stage_one.ensures))

pub returns : goal.returns
returns g c =
    let blocks = ap (λ (s : CompactSet). s.blocks) c.self.view_is in
    let all : c.loop-at.at ≡ area_len (chunks_of c.args.self.now) = omega (arith, blocks, c.loop-at-test.false, c.area_len-at-end.ensures.is, c.loop-at.auto.at-end) in
    subst (λ (n : ℕ). StagesBlocks {T = Unit {0}} {E = Failed} c.args.self.now (λ k. updated c.args.update (entry_of c.args.self.now k)) 0 n (Ok tt) c.loop-at.self) all c.loop-at.invariant.so_far
