use Rattle.std.proofs.Common.{◌≡◌, ◌∙◌, ◌≤◌, ◌/◌, length, length-set, refl, ap, take, sym, Some, None, arith}
use Rattle.std.proofs.lemmas.Bool.{cond-true, cond-false}
use Rattle.avs_model.specs.Words.{hex_bytes}
use Rattle.avs_model.specs.Filling.{is_pattern_length}
use Rattle.avs_text.proofs.Patterns.{pattern-odd, reads_none, reads_more, reads_all, is_pattern_length-le}
use Rattle.avs_text.proofs.numbers.pattern.Goals as goal
use Rattle.avs_text.proofs.numbers.pattern.Goals.{then-word-ne0-via-then-word-ne0, then-word-ne0-via-else-word-ne0+then-not-is_pattern_length}

pub returns-then-word-ne0 : goal.returns-then-word-ne0
returns-then-word-ne0 c = elim c.then-word-ne0.branch [
  | then-word-ne0-via-then-word-ne0 w ↦ sym (pattern-odd c.args.word.now w.if-word-ne0.true)
  | then-word-ne0-via-else-word-ne0+then-not-is_pattern_length w ↦
      sym (cond-false (is_pattern_length (length c.args.word.now / 2)) (hex_bytes c.args.word.now) None (sym w.is_pattern_length.ensures ∙ w.if-not-is_pattern_length.true))
]

pub loop-place-init : goal.loop-place-init
loop-place-init c = record { room = refl; reads = reads_none c.args.word.now _ }

pub loop-place-preserved : goal.loop-place-preserved
loop-place-preserved c =
    let short : length c.args.word.now / 2 ≤ 16 = is_pattern_length-le (length c.args.word.now / 2) (sym c.is_pattern_length.ensures ∙ c.if-not-is_pattern_length.false) in
    record {
      room = length-set c.loop-place.bytes c.loop-place.place c.in_ok-bytes.field-0 ∙ c.loop-place.invariant.room;
      reads = reads_more c.args.word.now c.loop-place.bytes c.loop-place.place c.in_ok-bytes.field-0 (omega arith) (omega arith) c.in_ok-bytes.ensures c.loop-place.invariant.reads;
    }

pub returns : goal.returns
returns c =
    let word = c.args.word.now in
    let len = length word / 2 in
    let end : c.loop-place.place ≡ len = omega arith in
    let read = reads_all word c.loop-place.bytes c.loop-place.place (omega arith) c.loop-place.invariant.reads in
    ap Some c.new.ensures
    ∙ ap (λ n. Some (take n c.loop-place.bytes)) (sym end)
    ∙ sym read
    ∙ sym (cond-true (is_pattern_length len) (hex_bytes word) None (sym c.is_pattern_length.ensures ∙ c.if-not-is_pattern_length.false))
