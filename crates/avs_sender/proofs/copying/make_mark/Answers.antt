use Rattle.std.proofs.Common.{◌≡◌, [], ◌∙◌, refl, ap}
use Rattle.avs_seg.specs.Image.{Image, blocks_of, tabulate}
use Rattle.avs_mirrors.specs.Entries.{a_mark}
use Rattle.avs_sender.proofs.copying.make_mark.Goals as goal

none : blocks_of [] ≡ []
unfolding blocks_of tabulate
none = refl

pub returns : goal.returns
returns c = ap (λ (b : Image). record a_mark { bytes = b }) (c.new-2.ensures ∙ ap (λ l. blocks_of l) c.new.ensures.items ∙ none)
