use Rattle.std.proofs.Common.{◌≡◌, ◌+◌, Some, map, sym, ap, ◌∙◌, arith}
use Rattle.std.specs.Option.{option_map}
use Rattle.avs_chunk.specs.Finding.{left_of, back_of}
use Rattle.avs_ii.specs.Held.{HeldSet, IiDisks, set_at}
use Rattle.avs_ii.specs.Opened.{held_of}
use Rattle.avs_ii.proofs.Belows.{both_true}
use Rattle.avs_ii.proofs.Views.{held_some}
use Rattle.avs_ii.proofs.Shadows.{set_found}
use Rattle.avs_ii.proofs.ShadowViews.{none_set, other_set, view_h}
use Rattle.avs_ii.proofs.Copying.{copied_none, copied_some}
use Rattle.avs_ii.proofs.group.IiGroup.to_copy.Goals as goal

pub is_named-requires : goal.is_named-requires
is_named-requires g c =
    let i = c.self.inside in
    (held_some (g.D.Disk.seen i.state) i.block (map g.D.Disk.seen i.volumes.items) i.set c.in-Some.held c.in-Some.is c.self.invariant.0).slot

pub returns-then-is_named-clause-held : goal.returns-then-is_named-clause-held
returns-then-is_named-clause-held g c =
    let i = c.self.inside in
    let found : set_at c.args.self.now c.args.set ≡ Some (held_of c.in-Some.held) = ap (λ (x : IiDisks). set_at x c.args.set) (sym (view_h g.D.Disk.seen (g.D.Disk.seen i.state) i.block i.volumes.items i.set c.args.self.now c.self.view_is c.in-Some.held c.in-Some.is c.self.invariant.0 c.args.set)) ∙ set_found (g.D.Disk.seen i.state) i.block (map g.D.Disk.seen i.volumes.items) (held_of c.in-Some.held) c.args.set (sym c.is_named.ensures ∙ c.if-is_named.true) in
    let sum : c.left.result + c.back.result ≡ left_of c.in-Some.held.chunks + back_of c.in-Some.held.chunks = omega (arith, c.left.ensures.counted, c.back.ensures.counted) in
    ap Some sum ∙ ap (option_map (λ (s : HeldSet). left_of s.chunks + back_of s.chunks)) (sym found)

pub returns-then-is_named-clause-named : goal.returns-then-is_named-clause-named
returns-then-is_named-clause-named g c =
    let i = c.self.inside in
    let test = sym c.is_named.ensures ∙ c.if-is_named.true in
    let found : set_at c.args.self.now c.args.set ≡ Some (held_of c.in-Some.held) = ap (λ (x : IiDisks). set_at x c.args.set) (sym (view_h g.D.Disk.seen (g.D.Disk.seen i.state) i.block i.volumes.items i.set c.args.self.now c.self.view_is c.in-Some.held c.in-Some.is c.self.invariant.0 c.args.set)) ∙ set_found (g.D.Disk.seen i.state) i.block (map g.D.Disk.seen i.volumes.items) (held_of c.in-Some.held) c.args.set (sym c.is_named.ensures ∙ c.if-is_named.true) in
    let sum : c.left.result + c.back.result ≡ left_of c.in-Some.held.chunks + back_of c.in-Some.held.chunks = omega (arith, c.left.ensures.counted, c.back.ensures.counted) in
    copied_some (g.D.Disk.seen i.state) i.block (map g.D.Disk.seen i.volumes.items) i.set c.args.self.now c.self.view_is c.self.invariant.0 c.args.set c.in-Some.held c.in-Some.is (both_true _ _ test).1 found (c.left.result + c.back.result) sum

pub returns-in-Some-clause-held : goal.returns-in-Some-clause-held
returns-in-Some-clause-held g c =
    let i = c.self.inside in
    sym (ap (option_map (λ (s : HeldSet). left_of s.chunks + back_of s.chunks)) (other_set g.D.Disk.seen (g.D.Disk.seen i.state) i.block i.volumes.items i.set c.args.self.now c.self.view_is c.in-Some.held c.in-Some.is c.self.invariant.0 c.args.set (sym c.is_named.ensures ∙ c.if-is_named.false)))

pub returns-in-Some-clause-named : goal.returns-in-Some-clause-named
returns-in-Some-clause-named g c =
    let i = c.self.inside in
    copied_none (g.D.Disk.seen i.state) i.block (map g.D.Disk.seen i.volumes.items) i.set c.args.self.now c.self.view_is c.self.invariant.0 c.args.set (other_set g.D.Disk.seen (g.D.Disk.seen i.state) i.block i.volumes.items i.set c.args.self.now c.self.view_is c.in-Some.held c.in-Some.is c.self.invariant.0 c.args.set (sym c.is_named.ensures ∙ c.if-is_named.false))

pub returns-clause-held : goal.returns-clause-held
returns-clause-held g c =
    let i = c.self.inside in
    sym (ap (option_map (λ (s : HeldSet). left_of s.chunks + back_of s.chunks)) (none_set (g.D.Disk.seen i.state) i.block (map g.D.Disk.seen i.volumes.items) i.set c.args.self.now c.args.set c.self.view_is c.in_default.is))

pub returns-clause-named : goal.returns-clause-named
returns-clause-named g c =
    let i = c.self.inside in
    copied_none (g.D.Disk.seen i.state) i.block (map g.D.Disk.seen i.volumes.items) i.set c.args.self.now c.self.view_is c.self.invariant.0 c.args.set (none_set (g.D.Disk.seen i.state) i.block (map g.D.Disk.seen i.volumes.items) i.set c.args.self.now c.args.set c.self.view_is c.in_default.is)
