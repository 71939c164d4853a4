use Rattle.std.proofs.Common.{◌≡◌, ◌∙◌, sym, subst}
use Rattle.avs_ii.specs.Meaning.{meaning}
use Rattle.avs_ii.specs.Parts.{PartDisks, meaning_of_parts}
use Rattle.avs_ii.specs.Held.{disks_of}
use Rattle.avs_ii.specs.Sound.{IsSound}
use Rattle.avs_ii.specs.Making.{AreWhole, disks_in}
use Rattle.avs_world.specs.Views.{SameApart, group_view}
use Rattle.avs_world.proofs.group.Group.close.Goals as goal
use Rattle.avs_world.proofs.group.Group.close.Goals.{in-None, in-Free, in-Open, in-Closed}

pub returns-clause-same : goal.returns-clause-same
returns-clause-same g c = elim c.match-replace.branch [
  | in-None w ↦ subst (λ v. SameApart (group_view g.D.Disk.seen v)) (sym w.in-None.is ∙ c.replace.ensures.value) tt
  | in-Free w ↦ subst (λ v. SameApart (group_view g.D.Disk.seen v)) (sym w.in-Free.is ∙ c.replace.ensures.value) tt
  | in-Open w ↦
      let held = w.in-Open.group in
      let made = w.into_parts.ensures in
      subst (λ v. SameApart (group_view g.D.Disk.seen v)) (sym w.in-Open.is ∙ c.replace.ensures.value)
      (record {
        meaning = subst (λ (p : PartDisks). meaning_of_parts p ≡ meaning held) made.parts made.meaning;
        disks = subst (λ (p : PartDisks). disks_in p ≡ disks_of held) made.parts made.disks;
        whole = subst (λ (p : PartDisks). IsSound held → AreWhole p) made.parts made.whole;
      })
  | in-Closed w ↦ subst (λ v. SameApart (group_view g.D.Disk.seen v)) (sym w.in-Closed.is ∙ c.replace.ensures.value) tt
]
