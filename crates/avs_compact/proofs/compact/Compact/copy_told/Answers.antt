use Rattle.std.proofs.Common.{rules, ◌≡◌, ◌≢◌, Bool, eqb, true, false, refl, ap, ◌∙◌}
use Rattle.std.specs.Prelude.{◌&&◌}
use Rattle.std.proofs.lemmas.Bool.{eq-eqb, ne_eqb}
use Rattle.avs_compact.specs.CompactSet.{entry_of, over_of}
use Rattle.avs_compact.proofs.Ahead.{told_not}
use Rattle.avs_compact.proofs.compact.Compact.copy_told.Goals as goal

and_false : (b : Bool) → (b && false) ≡ false
and_false true = refl
and_false false = refl

pub returns-then-entry_in-ne0-clause-copies : goal.returns-then-entry_in-ne0-clause-copies
returns-then-entry_in-ne0-clause-copies g c =
    let some : entry_of c.args.self.now c.args.chunk ≢ 0 = search rules in
    λ list is. told_not c.args.self.now (over_of c.args.over.now) (g.D.Disk.seen c.args.master.now) list c.args.chunk tt (is ∙ ap (λ (b : Bool). c.args.told && b) (ne_eqb (entry_of c.args.self.now c.args.chunk) 0 some) ∙ and_false c.args.told)

pub returns-clause-copies : goal.returns-clause-copies
returns-clause-copies g c =
    let told : c.args.told ≡ true = search rules in
    let none : entry_of c.args.self.now c.args.chunk ≡ 0 = search rules in
    λ list is. c.copy_ahead.ensures.copies list (is ∙ ap (λ (b : Bool). b && eqb (entry_of c.args.self.now c.args.chunk) 0) told ∙ eq-eqb (entry_of c.args.self.now c.args.chunk) 0 none)
