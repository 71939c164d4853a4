use Rattle.std.proofs.Common.{ℕ, ◌≡◌, length, refl, arith}
use Rattle.avs_entries.proofs.Mapped.{zero_bits}
use Rattle.avs_entries.proofs.alone.map_anew.Goals as goal

pub loop-chunk-init : goal.loop-chunk-init
loop-chunk-init c = record {
  len = c.fill.ensures.len;
  mapped = λ k below. absurd (omega (arith, below));
  rest = λ k low. zero_bits c.fill.new.self _ (c.fill.ensures.after (λ y is. is)) k;
}
