use Rattle.std.proofs.Common.{◌≡◌, ◌∙◌, ℕ, ◌*◌, ◌-◌, ◌^◌, ◌%◌, ◌<◌, length, bit_and, w16, ap, subst, arith}
use Rattle.std.specs.Int.{bit_at}
use Rattle.std.proofs.lemmas.List.{get_or_default}
use Rattle.std.proofs.lemmas.Nat.Bits.{bit_at_clear_same, bit_at_clear_other}
use Rattle.avs_halves.specs.Marks.{Mark}
use Rattle.avs_halves.specs.SetBits.{set_at}
use Rattle.avs_halves.proofs.Filling.{one_filled}
use Rattle.avs_halves.proofs.Markings.{mark_there, no_mark}
use Rattle.avs_halves.proofs.marking.filled_slots.Goals as goal

pub loop-set-preserved : goal.loop-set-preserved
loop-set-preserved g c =
    let there : c.loop-set.set-index < length c.args.marks.now = omega arith in
    let item = c.loop-set-item.is ∙ get_or_default c.args.marks.now c.loop-set.set-index c.loop-set-item.result no_mark there in
    let same = c.slot.ensures ∙ ap (λ (m : Mark). (set_at c.args.sets.now m.0).slot) item in
    let within = c.requires.slots _ (mark_there c.args.sets.now c.args.marks.now c.loop-set.set-index there c.requires.marks).there in
    let low : c.slot.result < 16 = omega (arith, within, same) in
    let here = subst (λ (k : ℕ). bit_at (bit_and c.loop-set.slots (65535 - 1 * 2 ^ c.slot.result % 65536)) k ≡ 0) same (bit_at_clear_same w16 c.loop-set.slots c.slot.result low) in
    one_filled c.args.sets.now c.args.marks.now c.args.empty c.loop-set.set-index c.loop-set.slots (bit_and c.loop-set.slots (65535 - 1 * 2 ^ c.slot.result % 65536)) c.requires.marks c.requires.slots there c.loop-set.invariant here
    (λ k small other. bit_at_clear_other w16 c.loop-set.slots c.slot.result low k small (λ is. other (is ∙ same)))
