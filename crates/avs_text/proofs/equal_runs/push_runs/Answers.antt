use Rattle.std.proofs.Common.{◌<◌, ◌++◌, ℕ, List, length, ◌∙◌, ap, arith}
use Rattle.std.specs.String.{string_bytes}
use Rattle.std.proofs.lemmas.Str.{encode_ascii}
use Rattle.avs_model.specs.EqualBlocks.{runs_of}
use Rattle.avs_text.proofs.RunLemmas.{text_first, text_more, text_all}
use Rattle.avs_text.proofs.equal_runs.push_runs.Goals as goal

pub loop-index-init : goal.loop-index-init
loop-index-init c =
    let some : 0 < length (runs_of c.args.runs.now) = omega (arith, c.len-count.ensures, c.if-count-eq0.false) in
    (omega arith, text_first (string_bytes c.args.text.now) (string_bytes c.push_run.new.text) c.args.runs.now some c.in_ok-push_run.ensures)

pub loop-index-preserved : goal.loop-index-preserved
loop-index-preserved c =
    let text = string_bytes c.loop-index.text in
    let within : c.loop-index.index < length (runs_of c.args.runs.now) = omega (arith, c.len-count.ensures, c.loop-index-test.true) in (
      omega arith,
      text_more (string_bytes c.args.text.now) text (string_bytes c.push.new.self) (string_bytes c.push_run-in-loop-index.new.text) c.args.runs.now c.loop-index.index c.loop-index.invariant.0 within c.loop-index.invariant.1
          (c.in_ok-push.ensures.bytes ∙ ap (λ (l : List ℕ). text ++ l) (encode_ascii 32 (omega arith))) c.in_ok-push_run-2.ensures,
    )

pub returns : goal.returns
returns c = text_all (string_bytes c.args.text.now) (string_bytes c.loop-index.text) c.args.runs.now c.loop-index.index (omega (arith, c.len-count.ensures, c.loop-index-test.false)) c.loop-index.invariant.1
