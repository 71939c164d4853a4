use Rattle.std.proofs.Common.{◌≡◌, ◌∙◌, ℕ, ◌*◌, ◌-◌, ◌^◌, ◌%◌, ◌<◌, length, bit_and, w16, subst, arith}
use Rattle.std.specs.Int.{bit_at}
use Rattle.std.proofs.lemmas.Nat.Bits.{bit_at_clear_same, bit_at_clear_other}
use Rattle.avs_receiver.proofs.Slotting.{one_marked}
use Rattle.avs_receiver.proofs.slots.filled.Goals as goal

pub loop-set-preserved : goal.loop-set-preserved
loop-set-preserved g c =
    let there : c.loop-set.set < length c.args.sets.now = omega arith in
    let within = c.requires.each c.loop-set.set there in
    let low : c.slot.result < 16 = omega (arith, within, c.slot.ensures) in
    let here = subst (λ (k : ℕ). bit_at (bit_and c.loop-set.slots (65535 - 1 * 2 ^ c.slot.result % 65536)) k ≡ 0) c.slot.ensures (bit_at_clear_same w16 c.loop-set.slots c.slot.result low) in
    one_marked 0 c.args.sets.now c.args.empty c.loop-set.set c.loop-set.slots (bit_and c.loop-set.slots (65535 - 1 * 2 ^ c.slot.result % 65536)) c.requires c.loop-set.invariant there here
    (λ k small other. bit_at_clear_other w16 c.loop-set.slots c.slot.result low k small (λ is. other (is ∙ c.slot.ensures)))
