use Rattle.std.proofs.Common.{◌≡◌, ℕ, zero, suc, ◌/◌, get_or, replicate, refl, arith}
use Rattle.avs_bits.proofs.SomeBits.{bit_of-zero_byte}
use Rattle.avs_entries.proofs.parts.tell_split.Goals as goal

zeros_at : (n k : ℕ) → get_or {A = ℕ} (replicate n 0) k 0 ≡ 0
zeros_at zero k = refl
zeros_at (suc n) zero = refl
zeros_at (suc n) (suc k) = zeros_at n k

pub loop-place-init : goal.loop-place-init
loop-place-init c = record {
  told = λ i below. absurd (omega (arith, below));
  rest = λ i low. bit_of-zero_byte (replicate 256 0) i i (zeros_at 256 (i / 8)) refl;
}
