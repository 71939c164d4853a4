use Rattle.std.proofs.Common.{rules, ◌≡◌, ◌∙◌, vec_len, ◌+◌, ◌<◌, ◌^◌, length, arith}
use Rattle.std.proofs.lemmas.List.{length-map}
use Rattle.avs_ii.specs.Opened.{sets_of}
use Rattle.avs_ii.proofs.Adding.{adds_as, kept_as, room_more}
use Rattle.avs_ii.proofs.group.IiGroup.add_volume.Goals as goal

pub returns-clause-adds : goal.returns-clause-adds
returns-clause-adds g c =
    let i = c.self.inside in
    adds_as g.D.Disk.seen (g.D.Disk.seen i.state) i.block i.volumes.items c.push.new.self.items i.set c.args.self.now c.args.disk c.self.view_is c.self.invariant.0 c.in_default.ensures.items

pub invariant_of-self-2 : goal.invariant_of-self-2
invariant_of-self-2 g c =
    let i = c.self.inside in
    let kept = c.self.invariant.0 in
    let long : vec_len i.volumes ≡ length i.volumes.items = search rules in
    let room : length i.volumes.items + 1 < 2 ^ 32 = room_more (length i.volumes.items) c.len-number.result (c.len-number.ensures ∙ long) (omega (arith, kept.count, length-map i.volumes.items g.D.Disk.seen)) c.if-number.false in
    (kept_as g.D.Disk.seen (g.D.Disk.seen i.state) i.block i.volumes.items c.push.new.self.items (sets_of i.set) c.args.disk kept c.in_default.ensures.items room, c.self.invariant.1)
