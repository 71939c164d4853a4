use Rattle.std.proofs.Common.{rules, ◌<◌, length, map, Option, refl, sym, ap, ◌∙◌}
use Rattle.avs_ii.specs.declared.held.Held.{Held}
use Rattle.avs_ii.specs.Opened.{sets_of}
use Rattle.avs_ii.proofs.Belows.{as_group}
use Rattle.avs_ii.proofs.Views.{held_some, room_some}
use Rattle.avs_ii.proofs.Shadows.{writes_none}
use Rattle.avs_ii.proofs.ShadowViews.{none_set, whole_as, master_there, other_set, master_size, shadow_inside, write_set, write_set_kept}
use Rattle.avs_ii.proofs.group.IiGroup.write_shadow.Goals as goal

pub is_named-requires : goal.is_named-requires
is_named-requires g c =
    let i = c.self.inside in
    (held_some (g.D.Disk.seen i.state) i.block (map g.D.Disk.seen i.volumes.items) i.set c.in-Some.held c.in-Some.is c.self.invariant.0).slot

pub index_mut-master-requires : goal.index_mut-master-requires
index_mut-master-requires g c =
    let i = c.self.inside in
    let lt : c.in-Some.held.master < length i.volumes.items = master_there g.D.Disk.seen (g.D.Disk.seen i.state) i.block i.volumes.items i.set c.args.self.now c.self.view_is c.in-Some.held c.in-Some.is c.self.invariant.0 c.args.set in search rules

pub write-requires-clause-blocks : goal.write-requires-clause-blocks
write-requires-clause-blocks g c =
    let i = c.self.inside in
    master_size g.D.Disk.seen (g.D.Disk.seen i.state) i.block i.volumes.items i.set c.args.self.now c.self.view_is c.in-Some.held c.in-Some.is c.self.invariant.0 c.args.set (sym c.is_named.ensures ∙ c.if-is_named.true) c.index_mut-master.result.now c.index_mut-master.ensures.value

pub write-requires-clause-inside : goal.write-requires-clause-inside
write-requires-clause-inside g c =
    let i = c.self.inside in
    shadow_inside g.D.Disk.seen (g.D.Disk.seen i.state) i.block i.volumes.items i.set c.args.self.now c.self.view_is c.in-Some.held c.in-Some.is c.self.invariant.0 c.args.set (sym c.is_named.ensures ∙ c.if-is_named.true) c.index_mut-master.result.now c.index_mut-master.ensures.value c.args.at (length c.args.bytes.now) c.requires

pub write-requires-clause-there : goal.write-requires-clause-there
write-requires-clause-there g c =
    let i = c.self.inside in
    (held_some (g.D.Disk.seen i.state) i.block (map g.D.Disk.seen i.volumes.items) i.set c.in-Some.held c.in-Some.is c.self.invariant.0).there

pub invariant_of-self : goal.invariant_of-self
invariant_of-self g c =
    let i = c.self.inside in
    (write_set_kept g.D.Disk.seen (g.D.Disk.seen i.state) i.block i.volumes.items i.set c.args.self.now c.self.view_is c.in-Some.held c.in-Some.is c.self.invariant.0 c.args.set (sym c.is_named.ensures ∙ c.if-is_named.true) c.index_mut-master.result.now c.index_mut-master.ensures.value c.args.at c.args.bytes.now c.requires c.write.new.self c.write.new.master c.write.result c.write.ensures, room_some i.set c.in-Some.held c.in-Some.is c.self.invariant.1 refl)

pub returns-then-is_named : goal.returns-then-is_named
returns-then-is_named g c =
    let i = c.self.inside in
    rw c.faulted.ensures (write_set g.D.Disk.seen (g.D.Disk.seen i.state) i.block i.volumes.items i.set c.args.self.now c.self.view_is c.in-Some.held c.in-Some.is c.self.invariant.0 c.args.set (sym c.is_named.ensures ∙ c.if-is_named.true) c.index_mut-master.result.now c.index_mut-master.ensures.value c.args.at c.args.bytes.now c.requires c.write.new.self c.write.new.master c.write.result c.write.ensures)

pub returns-in-Some : goal.returns-in-Some
returns-in-Some g c =
    let i = c.self.inside in
    let r = writes_none c.args.self.now c.args.set c.args.at c.args.bytes.now (whole_as (g.D.Disk.seen i.state) i.block (map g.D.Disk.seen i.volumes.items) i.set c.args.self.now c.self.view_is c.self.invariant.0) (other_set g.D.Disk.seen (g.D.Disk.seen i.state) i.block i.volumes.items i.set c.args.self.now c.self.view_is c.in-Some.held c.in-Some.is c.self.invariant.0 c.args.set (sym c.is_named.ensures ∙ c.if-is_named.false)) in rw (ap (λ (s : Option (Held g.row.D.Denot)). as_group (g.D.Disk.seen i.state) i.block (map g.D.Disk.seen i.volumes.items) (sets_of s)) (sym c.in-Some.is) ∙ c.self.view_is) r

pub returns : goal.returns
returns g c =
    let i = c.self.inside in
    let r = writes_none c.args.self.now c.args.set c.args.at c.args.bytes.now (whole_as (g.D.Disk.seen i.state) i.block (map g.D.Disk.seen i.volumes.items) i.set c.args.self.now c.self.view_is c.self.invariant.0) (none_set (g.D.Disk.seen i.state) i.block (map g.D.Disk.seen i.volumes.items) i.set c.args.self.now c.args.set c.self.view_is c.in_default.is) in rw c.self.view_is r
