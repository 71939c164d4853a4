use Rattle.std.proofs.Common.{◌≡◌, ◌+◌, ◌-◌, ◌*◌, ℕ, Bool, List, cond, eqb, ◌∙◌, ap, arith}
use Rattle.std.specs.Prelude.{◌&&◌}
use Rattle.avs_bits.specs.Bit.{bit_of}
use Rattle.avs_entries.specs.Entries.{entry_in}
use Rattle.avs_entries.specs.Parts.{is_ahead}
use Rattle.avs_entries.proofs.Counted.{one_most, count_on}
use Rattle.avs_compact.specs.CompactSet.{CompactSet, entry_of}
use Rattle.avs_compact.proofs.compact.Compact.lacks.Goals as goal

pub overflow_mul-first : goal.overflow_mul-first
overflow_mul-first g c =
    let blocks = ap (λ (s : CompactSet). s.blocks) c.self.view_is in
    omega (arith, c.requires, blocks, c.self.invariant.0.small)

pub loop-place-preserved : goal.loop-place-preserved
loop-place-preserved g c =
    let at = 2048 * c.args.part + c.loop-place.place in
    let place : c.loop-place.place ≡ at - 2048 * c.args.part = omega arith in
    let told : c.has_bit.result ≡ bit_of c.args.split.now (at - 2048 * c.args.part) = c.has_bit.ensures ∙ ap (λ (k : ℕ). bit_of c.args.split.now k) place in
    let entry : c.entry_in.result ≡ entry_of c.args.self.now at = c.entry_in.ensures ∙ ap (λ (l : List ℕ). entry_in l at) c.deref.ensures.value ∙ ap (λ (s : CompactSet). entry_of s at) c.self.view_is in
    let one : ◌≡◌ {A = ℕ} c.one_lacking-lacking.result (cond (is_ahead c.args.split.now c.args.part (entry_of c.args.self.now) at) 1 0) =
    c.one_lacking-lacking.ensures ∙ ap (λ (b : Bool). cond (b && eqb c.entry_in.result 0) 1 0) told ∙ ap (λ (e : ℕ). cond (bit_of c.args.split.now (at - 2048 * c.args.part) && eqb e 0) 1 0) entry in
    record {
      counted = omega (arith, one, c.loop-place.invariant.counted, count_on (is_ahead c.args.split.now c.args.part (entry_of c.args.self.now)) (2048 * c.args.part) c.loop-place.place);
      small = omega (arith, c.loop-place.invariant.small, one_most (is_ahead c.args.split.now c.args.part (entry_of c.args.self.now) at), one);
    }
