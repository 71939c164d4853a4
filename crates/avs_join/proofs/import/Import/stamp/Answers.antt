use Rattle.std.proofs.Common.{sym, ◌∙◌, ap}
use Rattle.avs_code.proofs.LabelBlocks.{label_at-is}
use Rattle.avs_code.specs.declared.labels.Label.{Label}
use Rattle.avs_join.specs.Imported.{ImportDisks}
use Rattle.avs_join.proofs.import.Import.stamp.Goals as goal

pub returns-clause-known : goal.returns-clause-known
returns-clause-known g c known =
    let memory = ap (λ (i : ImportDisks). i.bits.stamp) c.self.view_is in
    let same = label_at-is _ _ known.readable.label in
    c.stamp.ensures ∙ memory ∙ sym (ap (λ (x : Label). x.stamp) same)
