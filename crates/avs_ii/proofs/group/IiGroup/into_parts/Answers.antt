use Rattle.std.proofs.Common.{◌≡◌, All, List, [], map, sym, ap, subst, ◌∙◌}
use Rattle.avs_ii.specs.Held.{IiDisks, disks_of}
use Rattle.avs_ii.specs.Shape.{shape_of, parts_shape}
use Rattle.avs_ii.specs.Meaning.{meaning, kept_on}
use Rattle.avs_ii.specs.Sound.{IsSound}
use Rattle.avs_ii.specs.Opened.{sets_of}
use Rattle.avs_dev.specs.Below.{IsNoteTold}
use Rattle.avs_ii.specs.AsBelow.{below_of, rest_of, group_of, AreFindable}
use Rattle.avs_ii.specs.SetDisks.{SetDisks}
use Rattle.avs_ii.specs.Parts.{PartDisks, part_disks, parts_of, meaning_of_parts}
use Rattle.avs_ii.specs.Making.{StaysMade, AreWhole, disks_in}
use Rattle.avs_ii.proofs.Making.{at_most_one}
use Rattle.avs_ii.proofs.Loading.{meaning_parts, rest_parts, disks_parts, shape_parts, made_sets, whole_sound, whole_rest}
use Rattle.avs_ii.proofs.group.IiGroup.into_parts.Goals as goal

pub returns-clause-meaning : goal.returns-clause-meaning
returns-clause-meaning g c =
    let i = c.self.inside in
    let seen = g.D.Disk.seen in
    let parts : part_disks seen c.all_parts.result ≡ parts_of c.args.self = c.all_parts.ensures
    ∙ ap (λ (l : List SetDisks). record { state = seen i.state; volumes = map seen i.volumes.items; sets = l; overs = [] }) c.close_all.ensures
    ∙ ap (λ (d : IiDisks). parts_of d) c.self.view_is in
    ap (λ (p : PartDisks). meaning_of_parts p) parts
    ∙ subst (λ (d : IiDisks). meaning_of_parts (parts_of d) ≡ meaning d) c.self.view_is
    (meaning_parts (seen i.state) i.block (map seen i.volumes.items) (sets_of i.set) (at_most_one i.set) c.self.invariant.0)

pub returns-clause-rest : goal.returns-clause-rest
returns-clause-rest g c =
    let i = c.self.inside in
    let seen = g.D.Disk.seen in
    subst (λ (d : IiDisks). IsNoteTold (below_of d) → meaning d ≡ record (group_of (rest_of d)) { note = (kept_on d.state).note }) c.self.view_is
    (rest_parts (seen i.state) i.block (map seen i.volumes.items) (sets_of i.set) (at_most_one i.set) c.self.invariant.0)

pub returns-clause-whole : goal.returns-clause-whole
returns-clause-whole g c =
    let i = c.self.inside in
    let seen = g.D.Disk.seen in
    let parts : part_disks seen c.all_parts.result ≡ parts_of c.args.self = c.all_parts.ensures
    ∙ ap (λ (l : List SetDisks). record { state = seen i.state; volumes = map seen i.volumes.items; sets = l; overs = [] }) c.close_all.ensures
    ∙ ap (λ (d : IiDisks). parts_of d) c.self.view_is in
    λ sound.
    subst (λ (p : PartDisks). AreWhole p) (sym parts)
    (subst (λ (d : IiDisks). IsSound d → AreWhole (parts_of d)) c.self.view_is
    (whole_sound (seen i.state) i.block (map seen i.volumes.items) (sets_of i.set) (at_most_one i.set) c.self.invariant.0) sound)

pub returns-clause-found : goal.returns-clause-found
returns-clause-found g c =
    let i = c.self.inside in
    let seen = g.D.Disk.seen in
    let parts : part_disks seen c.all_parts.result ≡ parts_of c.args.self = c.all_parts.ensures
    ∙ ap (λ (l : List SetDisks). record { state = seen i.state; volumes = map seen i.volumes.items; sets = l; overs = [] }) c.close_all.ensures
    ∙ ap (λ (d : IiDisks). parts_of d) c.self.view_is in
    λ told found.
    subst (λ (p : PartDisks). AreWhole p) (sym parts)
    (subst (λ (d : IiDisks). IsNoteTold (below_of d) → AreFindable (rest_of d) → AreWhole (parts_of d)) c.self.view_is
    (whole_rest (seen i.state) i.block (map seen i.volumes.items) (sets_of i.set) (at_most_one i.set) c.self.invariant.0) told found)

pub returns-clause-disks : goal.returns-clause-disks
returns-clause-disks g c =
    let i = c.self.inside in
    let seen = g.D.Disk.seen in
    let parts : part_disks seen c.all_parts.result ≡ parts_of c.args.self = c.all_parts.ensures
    ∙ ap (λ (l : List SetDisks). record { state = seen i.state; volumes = map seen i.volumes.items; sets = l; overs = [] }) c.close_all.ensures
    ∙ ap (λ (d : IiDisks). parts_of d) c.self.view_is in
    ap (λ (p : PartDisks). disks_in p) parts
    ∙ subst (λ (d : IiDisks). disks_in (parts_of d) ≡ disks_of d) c.self.view_is
    (disks_parts (seen i.state) i.block (map seen i.volumes.items) (sets_of i.set) (at_most_one i.set))

pub returns-clause-shape : goal.returns-clause-shape
returns-clause-shape g c =
    let i = c.self.inside in
    let seen = g.D.Disk.seen in
    let parts : part_disks seen c.all_parts.result ≡ parts_of c.args.self = c.all_parts.ensures
    ∙ ap (λ (l : List SetDisks). record { state = seen i.state; volumes = map seen i.volumes.items; sets = l; overs = [] }) c.close_all.ensures
    ∙ ap (λ (d : IiDisks). parts_of d) c.self.view_is in
    ap (λ (p : PartDisks). parts_shape p) parts
    ∙ subst (λ (d : IiDisks). parts_shape (parts_of d) ≡ shape_of d) c.self.view_is
    (shape_parts (seen i.state) i.block (map seen i.volumes.items) (sets_of i.set) (at_most_one i.set) c.self.invariant.0)

pub returns-clause-made : goal.returns-clause-made
returns-clause-made g c =
    let i = c.self.inside in
    let seen = g.D.Disk.seen in
    subst (λ (d : IiDisks). All (StaysMade d.volumes) d.sets) c.self.view_is
    (made_sets (seen i.state) i.block (map seen i.volumes.items) (sets_of i.set) (at_most_one i.set) c.self.invariant.0)
