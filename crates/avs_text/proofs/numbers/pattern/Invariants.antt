use Rattle.std.proofs.Common.{◌≡◌, length}
use Rattle.avs_text.proofs.Patterns.{ReadsFirst}
use Rattle.avs_text.proofs.numbers.pattern.Given as goal

abbrev pub invariant-loop-place : goal.invariant-loop-place
invariant-loop-place l = record {
  room : length l.bytes ≡ 16;
  reads : ReadsFirst l.word l.bytes l.place;
}
