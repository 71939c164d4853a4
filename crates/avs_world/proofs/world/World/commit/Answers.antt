use Rattle.std.proofs.Common.{◌≡◌, ap, subst}
use Rattle.avs_ii.specs.Held.{disks_of}
use Rattle.avs_ii.specs.Meaning.{meaning}
use Rattle.avs_ii.specs.Parts.{PartDisks, meaning_of_parts}
use Rattle.avs_ii.specs.Sound.{IsSound}
use Rattle.avs_ii.specs.Making.{AreWhole, disks_in}
use Rattle.avs_world.specs.Views.{OnDisks}
use Rattle.avs_world.proofs.world.World.commit.Goals as goal

pub returns-in-Err-clause-commits : goal.returns-in-Err-clause-commits
returns-in-Err-clause-commits g c =
    let held = c.confirm.new.self in
    let made = c.into_parts.ensures in
    record {
      why = c.in-Err.field-0;
      held_new = held;
      confirms = c.in-Err.ensures;
      same = record {
        meaning = subst (λ (p : PartDisks). meaning_of_parts p ≡ meaning held) made.parts made.meaning;
        disks = subst (λ (p : PartDisks). disks_in p ≡ disks_of held) made.parts made.disks;
        whole = subst (λ (p : PartDisks). IsSound held → AreWhole p) made.parts made.whole;
      };
      is = ap (OnDisks c.args.set) made.parts;
    }
