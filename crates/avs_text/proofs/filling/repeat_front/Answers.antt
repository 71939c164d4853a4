use Rattle.std.proofs.Common.{length, ◌∙◌, arith}
use Rattle.avs_model.proofs.FillLemmas.{CopiesFront, take-CopiesFront, Repeats-more, whole_patterns}
use Rattle.avs_text.proofs.filling.repeat_front.Goals as goal

pub loop-done-preserved : goal.loop-done-preserved
loop-done-preserved c =
    let sofar = c.loop-done.invariant in
    let copies : CopiesFront c.loop-done.done c.min-more.result c.loop-done.out c.copy_front.new.out = record { is = c.copy_front.ensures; part = omega arith; within = omega arith } in
    record {
      some = omega arith;
      within = omega arith;
      whole = whole_patterns c.args.len c.loop-done.done c.min-more.result (length c.loop-done.out) c.requires.pattern sofar.whole c.min-more.ensures (omega arith) sofar.within;
      front = take-CopiesFront c.args.len c.loop-done.done c.min-more.result c.loop-done.out c.copy_front.new.out copies sofar.some ∙ sofar.front;
      repeats = Repeats-more c.args.len c.loop-done.done c.min-more.result c.loop-done.out c.copy_front.new.out c.requires.pattern sofar.whole sofar.some copies sofar.repeats;
    }
