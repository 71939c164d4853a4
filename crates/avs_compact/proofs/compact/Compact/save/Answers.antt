use Rattle.std.proofs.Common.{◌≡◌, ℕ, List, sym, ap, ◌∙◌, arith}
use Rattle.avs_entries.specs.Entries.{entry_in, state_by}
use Rattle.avs_compact.specs.CompactSet.{CompactSet, entry_of}
use Rattle.avs_compact.proofs.Settled.{zero_state}
use Rattle.avs_compact.proofs.compact.Compact.save.Goals as goal

state_two : (e : ℕ) → e ≡ 0 → state_by e ≡ 2 → ⊥
state_two e zero two = (let none = zero_state e zero in omega (arith, none, two))

pub returns-then-entry-eq0-clause-saves : goal.returns-then-entry-eq0-clause-saves
returns-then-entry-eq0-clause-saves g c =
    let entry : entry_of c.args.self.now c.args.chunk ≡ c.entry_in-entry.result = ap (λ (s : CompactSet). entry_of s c.args.chunk) (sym c.self.view_is) ∙ ap (λ (l : List ℕ). entry_in l c.args.chunk) (sym c.deref.ensures.value) ∙ sym c.entry_in-entry.ensures in
    record { settles = λ whole. c.settle_new.ensures.settles; nothing = λ two. absurd (state_two (entry_of c.args.self.now c.args.chunk) (entry ∙ c.if-entry-eq0.true) two) }
