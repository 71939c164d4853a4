use Rattle.std.proofs.Common.{map, ap}
use Rattle.std.specs.Option.{option_map}
use Rattle.avs_code.specs.declared.group_blocks.GroupBlock.{GroupBlock}
use Rattle.avs_group.specs.Group.{Group, seen}
use Rattle.avs_group.proofs.Committing.{note_does, note_kept}
use Rattle.avs_group.proofs.group.ShadowGroup.set_note.Goals as goal

pub invariant_of-self : goal.invariant_of-self
invariant_of-self g c =
    let i = c.self.inside in
    let old : Group = seen (record { state = i.state; volumes = map (λ v. option_map g.D.Disk.seen v) i.volumes.items; overs = i.overs.items; sets = i.sets.items }) in
    note_kept old c.self.invariant c.args.note.now (record c.next.result { note = c.args.note.now }) (ap (λ (b : GroupBlock). record b { note = c.args.note.now }) c.next.ensures.is)
    c.commit.new.self c.commit.result c.commit.ensures

pub returns : goal.returns
returns g c =
    let i = c.self.inside in
    let old : Group = seen (record { state = i.state; volumes = map (λ v. option_map g.D.Disk.seen v) i.volumes.items; overs = i.overs.items; sets = i.sets.items }) in
    rw (← c.self.view_is) (note_does old c.self.invariant c.args.note.now (record c.next.result { note = c.args.note.now }) (ap (λ (b : GroupBlock). record b { note = c.args.note.now }) c.next.ensures.is)
    c.commit.new.self c.commit.result c.commit.ensures)
