use Rattle.std.proofs.Common.{◌∙◌, ℕ, List, length, take, ap, arith}
use Rattle.std.proofs.lemmas.List.{take_rest, length-drop}
use Rattle.std.specs.Io.KnownBytes.{append_known}
use Rattle.avs_io.proofs.KnownLemmas.{append_known-take}
use Rattle.avs_io.proofs.stream.put_all.Goals as goal

pub loop-done-preserved : goal.loop-done-preserved
loop-done-preserved g c =
    let bytes = c.args.bytes.now in
    let done = c.loop-done.done in
    let n = c.in_ok-done.field-0 in
    let written = g.K.Sink.written in
    let rest = take_rest bytes done in
    record {
      within = omega (arith, c.in_ok-done.ensures.bound, ap length rest, length-drop done bytes);
      taken = append_known-take (written c.args.sink.now) (written c.loop-done.sink) (written c.write.new.self) done n bytes c.loop-done.invariant.taken
          (c.in_ok-done.ensures.bytes ∙ ap (λ (l : List ℕ). append_known (written c.loop-done.sink) (take n l)) rest);
      quiet = c.in_ok-done.ensures.quiet ∙ c.loop-done.invariant.quiet;
    }
