use Rattle.std.proofs.Common.{◌≡◌, ◌+◌, ℕ, List, cond, eqb, ◌∙◌, ap, arith}
use Rattle.avs_entries.specs.Entries.{entry_in}
use Rattle.avs_entries.proofs.Counted.{one_most}
use Rattle.avs_compact.specs.CompactSet.{CompactSet, entry_of}
use Rattle.avs_compact.proofs.Chained.{lacking_more}
use Rattle.avs_compact.proofs.compact.Compact.lacking.Goals as goal

pub loop-place-preserved : goal.loop-place-preserved
loop-place-preserved g c =
    let at = c.args.first + c.loop-place.place in
    let entry : c.entry_in.result ≡ entry_of c.args.self.now at = c.entry_in.ensures ∙ ap (λ (l : List ℕ). entry_in l at) c.deref.ensures.value ∙ ap (λ (s : CompactSet). entry_of s at) c.self.view_is in
    let one : ◌≡◌ {A = ℕ} c.one_lacking-lacking.result (cond (eqb (entry_of c.args.self.now at) 0) 1 0) = c.one_lacking-lacking.ensures ∙ ap (λ (e : ℕ). cond (eqb e 0) 1 0) entry in
    record {
      counted = omega (arith, one, c.loop-place.invariant.counted, lacking_more c.args.self.now c.args.first c.loop-place.place);
      small = omega (arith, c.loop-place.invariant.small, one_most (eqb (entry_of c.args.self.now at) 0), one);
    }
