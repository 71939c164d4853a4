use Rattle.std.proofs.Common.{List, Option, IsTrue, is_some, refl, sym, subst, ℕ}
use Rattle.avs_ii.specs.Held.{enabled_in}
use Rattle.avs_ii.proofs.Commits.{stored_is}
use Rattle.avs_ii.proofs.Findable.{all_quiet, sound_findable}
use Rattle.avs_ii.proofs.laws.sound_is_found.Goals as goal

pub returns-clause-note : goal.returns-clause-note
returns-clause-note c = λ g sound.
    subst (λ (o : Option (List ℕ)). IsTrue (is_some o)) (sym (stored_is g.state g.block g.block.slots sound.holds.told sound.holds.label sound.holds.holds refl)) refl

pub returns-clause-sets : goal.returns-clause-sets
returns-clause-sets c = λ g sound. all_quiet g.block.slots g.sets (sound_findable g.block.slots (enabled_in g.block.slots g.sets) sound.disks.each)
