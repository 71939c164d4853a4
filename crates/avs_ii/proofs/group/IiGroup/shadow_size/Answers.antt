use Rattle.std.proofs.Common.{rules, ◌≡◌, ◌<◌, length, map, None, Some, sym, ap, ◌∙◌}
use Rattle.std.specs.Option.{option_map}
use Rattle.avs_ii.specs.Held.{HeldSet, IiDisks, set_at}
use Rattle.avs_ii.specs.Opened.{held_of}
use Rattle.avs_ii.proofs.Views.{held_some}
use Rattle.avs_ii.proofs.Shadows.{set_found}
use Rattle.avs_ii.proofs.ShadowViews.{none_set, other_set, view_h, master_there, master_size}
use Rattle.avs_ii.proofs.Copying.{sized_as}
use Rattle.avs_ii.proofs.group.IiGroup.shadow_size.Goals as goal

pub is_named-requires : goal.is_named-requires
is_named-requires g c =
    let i = c.self.inside in
    (held_some (g.D.Disk.seen i.state) i.block (map g.D.Disk.seen i.volumes.items) i.set c.in-Some.held c.in-Some.is c.self.invariant.0).slot

pub index-requires : goal.index-requires
index-requires g c =
    let i = c.self.inside in
    let lt : c.in-Some.held.master < length i.volumes.items = master_there g.D.Disk.seen (g.D.Disk.seen i.state) i.block i.volumes.items i.set c.args.self.now c.self.view_is c.in-Some.held c.in-Some.is c.self.invariant.0 c.args.set in search rules

pub returns-then-is_named-clause-held : goal.returns-then-is_named-clause-held
returns-then-is_named-clause-held g c =
    let i = c.self.inside in
    let found : set_at c.args.self.now c.args.set ≡ Some (held_of c.in-Some.held) = ap (λ (x : IiDisks). set_at x c.args.set) (sym (view_h g.D.Disk.seen (g.D.Disk.seen i.state) i.block i.volumes.items i.set c.args.self.now c.self.view_is c.in-Some.held c.in-Some.is c.self.invariant.0 c.args.set)) ∙ set_found (g.D.Disk.seen i.state) i.block (map g.D.Disk.seen i.volumes.items) (held_of c.in-Some.held) c.args.set (sym c.is_named.ensures ∙ c.if-is_named.true) in
    ap Some (c.blocks-then-is_named.ensures ∙ master_size g.D.Disk.seen (g.D.Disk.seen i.state) i.block i.volumes.items i.set c.args.self.now c.self.view_is c.in-Some.held c.in-Some.is c.self.invariant.0 c.args.set (sym c.is_named.ensures ∙ c.if-is_named.true) c.index.result.now c.index.ensures) ∙ ap (option_map (λ (s : HeldSet). s.chunks.blocks)) (sym found)

pub returns-then-is_named-clause-named : goal.returns-then-is_named-clause-named
returns-then-is_named-clause-named g c =
    let i = c.self.inside in
    let found : set_at c.args.self.now c.args.set ≡ Some (held_of c.in-Some.held) = ap (λ (x : IiDisks). set_at x c.args.set) (sym (view_h g.D.Disk.seen (g.D.Disk.seen i.state) i.block i.volumes.items i.set c.args.self.now c.self.view_is c.in-Some.held c.in-Some.is c.self.invariant.0 c.args.set)) ∙ set_found (g.D.Disk.seen i.state) i.block (map g.D.Disk.seen i.volumes.items) (held_of c.in-Some.held) c.args.set (sym c.is_named.ensures ∙ c.if-is_named.true) in
    let size = c.blocks-then-is_named.ensures ∙ master_size g.D.Disk.seen (g.D.Disk.seen i.state) i.block i.volumes.items i.set c.args.self.now c.self.view_is c.in-Some.held c.in-Some.is c.self.invariant.0 c.args.set (sym c.is_named.ensures ∙ c.if-is_named.true) c.index.result.now c.index.ensures in
    sized_as (g.D.Disk.seen i.state) i.block (map g.D.Disk.seen i.volumes.items) i.set c.args.self.now c.self.view_is c.self.invariant.0 c.args.set (Some c.blocks-then-is_named.result) (ap Some size ∙ ap (option_map (λ (s : HeldSet). s.chunks.blocks)) (sym found))

pub returns-in-Some-clause-named : goal.returns-in-Some-clause-named
returns-in-Some-clause-named g c =
    let i = c.self.inside in
    sized_as (g.D.Disk.seen i.state) i.block (map g.D.Disk.seen i.volumes.items) i.set c.args.self.now c.self.view_is c.self.invariant.0 c.args.set None (ap (option_map (λ (s : HeldSet). s.chunks.blocks)) (sym (other_set g.D.Disk.seen (g.D.Disk.seen i.state) i.block i.volumes.items i.set c.args.self.now c.self.view_is c.in-Some.held c.in-Some.is c.self.invariant.0 c.args.set (sym c.is_named.ensures ∙ c.if-is_named.false))))

pub returns-clause-named : goal.returns-clause-named
returns-clause-named g c =
    let i = c.self.inside in
    sized_as (g.D.Disk.seen i.state) i.block (map g.D.Disk.seen i.volumes.items) i.set c.args.self.now c.self.view_is c.self.invariant.0 c.args.set None (ap (option_map (λ (s : HeldSet). s.chunks.blocks)) (sym (none_set (g.D.Disk.seen i.state) i.block (map g.D.Disk.seen i.volumes.items) i.set c.args.self.now c.args.set c.self.view_is c.in_default.is)))
