use Rattle.std.proofs.Common.{◌≡◌, true, drop, ◌<◌, ◌^◌}
use Rattle.std.specs.List.{list_all}
use Rattle.avs_model.specs.Names.{is_digit}
use Rattle.avs_model.specs.Words.{value_behind}
use Rattle.avs_text.proofs.numbers.number.Given as goal

abbrev pub invariant-loop-digit : goal.invariant-loop-digit
invariant-loop-digit l = record {
  value : value_behind l.value (drop l.digit-index l.word) ≡ value_behind 0 l.word;
  fits : l.value < 2 ^ 32;
  digits : list_all is_digit (drop l.digit-index l.word) ≡ true;
}
