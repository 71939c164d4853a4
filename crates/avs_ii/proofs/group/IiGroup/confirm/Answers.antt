use Rattle.std.proofs.Common.{◌≡◌, List, Ok, Err, Some, length, map, sym, subst, ◌∙◌, arith}
use Rattle.std.specs.Option.{option_map}
use Rattle.avs_dev.specs.Seen.{Writes}
use Rattle.avs_code.specs.GroupBlock.{group_block, GroupBlockKeeps}
use Rattle.avs_code.specs.declared.group_blocks.GroupBlock.{GroupBlock}
use Rattle.avs_model.specs.declared.answer.Refusal.TheVariants as refusal
use Rattle.avs_ii.specs.Held.{HeldSet, IiDisks, pending_at}
use Rattle.avs_ii.specs.Opened.{sets_of}
use Rattle.avs_ii.specs.Kept.{IsKept, IsHeld}
use Rattle.avs_ii.specs.Calls.{block_with, Confirms}
use Rattle.avs_ii.proofs.Making.{the_group, found_kind, at_most_one, next_is, of_all}
use Rattle.avs_ii.proofs.Confirming.{next_keeps, confirm_ok, confirm_err, kept_ok}
use Rattle.avs_ii.proofs.group.IiGroup.confirm.Goals as goal

pub next_with-block-requires : goal.next_with-block-requires
next_with-block-requires g c =
    let i = c.self.inside in
    let seen = g.D.Disk.seen in
    let e = subst (λ (d : IiDisks). option_map (λ (s : HeldSet). s.chunks.kind) (pending_at d c.args.set) ≡ Some c.in-Some.kind) (sym c.self.view_is) (sym c.pending_kind.ensures ∙ c.in-Some.is) in
    let f = found_kind (seen i.state) i.block (map seen i.volumes.items) (sets_of i.set) c.args.set c.in-Some.kind (at_most_one i.set) e in
    let h = of_all (IsHeld i.block.slots (map seen i.volumes.items)) f.set (subst (λ (l : List HeldSet). IsKept (seen i.state) i.block (map seen i.volumes.items) l) f.only c.self.invariant.0).held in
    omega (arith, h.slot, f.place)

pub put_block-requires-clause-keeps : goal.put_block-requires-clause-keeps
put_block-requires-clause-keeps g c =
    let i = c.self.inside in
    let seen = g.D.Disk.seen in
    let e = subst (λ (d : IiDisks). option_map (λ (s : HeldSet). s.chunks.kind) (pending_at d c.args.set) ≡ Some c.in-Some.kind) (sym c.self.view_is) (sym c.pending_kind.ensures ∙ c.in-Some.is) in
    let f = found_kind (seen i.state) i.block (map seen i.volumes.items) (sets_of i.set) c.args.set c.in-Some.kind (at_most_one i.set) e in
    let kept = subst (λ (l : List HeldSet). IsKept (seen i.state) i.block (map seen i.volumes.items) l) f.only c.self.invariant.0 in
    let h = of_all (IsHeld i.block.slots (map seen i.volumes.items)) f.set kept.held in
    let is = c.next_with-block.ensures ∙ next_is i.block f.set c.args.set c.in-Some.kind f.place f.kind_is in
    subst (λ (b : GroupBlock). GroupBlockKeeps b) (sym is) (next_keeps i.block f.set kept.keeps kept.fits h.slot)

pub invariant_of-self : goal.invariant_of-self
invariant_of-self g c =
    let i = c.self.inside in
    let seen = g.D.Disk.seen in
    let V = map seen i.volumes.items in
    let e = subst (λ (d : IiDisks). option_map (λ (s : HeldSet). s.chunks.kind) (pending_at d c.args.set) ≡ Some c.in-Some.kind) (sym c.self.view_is) (sym c.pending_kind.ensures ∙ c.in-Some.is) in
    let f = found_kind (seen i.state) i.block V (sets_of i.set) c.args.set c.in-Some.kind (at_most_one i.set) e in
    let kept = subst (λ (l : List HeldSet). IsKept (seen i.state) i.block V l) f.only c.self.invariant.0 in
    let is = c.next_with-block.ensures ∙ next_is i.block f.set c.args.set c.in-Some.kind f.place f.kind_is in
    let new = seen c.put_block.new.state in
    let long = subst (λ (b : GroupBlock). length (group_block b) ≡ 512) is c.put_block.ensures.len in
    let w = subst (λ (b : GroupBlock). Writes (seen i.state) 1 (group_block b) (Ok c.in-Ok.field-0) new) is c.in-Ok.ensures.writes in (
      subst (λ (b : GroupBlock). IsKept new b V (sets_of i.set)) (sym is)
          (subst (λ (l : List HeldSet). IsKept new (block_with i.block f.set) V l) (sym f.only)
          (kept_ok (seen i.state) new i.block V f.set kept f.pending long w)),
      c.self.invariant.1,
    )

pub returns-in-Ok : goal.returns-in-Ok
returns-in-Ok g c =
    let i = c.self.inside in
    let seen = g.D.Disk.seen in
    let V = map seen i.volumes.items in
    let e = subst (λ (d : IiDisks). option_map (λ (s : HeldSet). s.chunks.kind) (pending_at d c.args.set) ≡ Some c.in-Some.kind) (sym c.self.view_is) (sym c.pending_kind.ensures ∙ c.in-Some.is) in
    let f = found_kind (seen i.state) i.block V (sets_of i.set) c.args.set c.in-Some.kind (at_most_one i.set) e in
    let kept = subst (λ (l : List HeldSet). IsKept (seen i.state) i.block V l) f.only c.self.invariant.0 in
    let is = c.next_with-block.ensures ∙ next_is i.block f.set c.args.set c.in-Some.kind f.place f.kind_is in
    let new = seen c.put_block.new.state in
    let long = subst (λ (b : GroupBlock). length (group_block b) ≡ 512) is c.put_block.ensures.len in
    let w = subst (λ (b : GroupBlock). Writes (seen i.state) 1 (group_block b) (Ok c.in-Ok.field-0) new) is c.in-Ok.ensures.writes in
    subst (λ (d : IiDisks). Confirms d c.args.set (Ok tt) (the_group new c.next_with-block.result V (sets_of i.set))) c.self.view_is
    (subst (λ (b : GroupBlock). Confirms (the_group (seen i.state) i.block V (sets_of i.set)) c.args.set (Ok tt) (the_group new b V (sets_of i.set))) (sym is)
    (subst (λ (l : List HeldSet). Confirms (the_group (seen i.state) i.block V l) c.args.set (Ok tt) (the_group new (block_with i.block f.set) V l)) (sym f.only)
    (confirm_ok (seen i.state) new i.block V f.set kept f.pending long w c.args.set f.place)))

pub returns-in-Err : goal.returns-in-Err
returns-in-Err g c =
    let i = c.self.inside in
    let seen = g.D.Disk.seen in
    let V = map seen i.volumes.items in
    let e = subst (λ (d : IiDisks). option_map (λ (s : HeldSet). s.chunks.kind) (pending_at d c.args.set) ≡ Some c.in-Some.kind) (sym c.self.view_is) (sym c.pending_kind.ensures ∙ c.in-Some.is) in
    let f = found_kind (seen i.state) i.block V (sets_of i.set) c.args.set c.in-Some.kind (at_most_one i.set) e in
    let kept = subst (λ (l : List HeldSet). IsKept (seen i.state) i.block V l) f.only c.self.invariant.0 in
    let is = c.next_with-block.ensures ∙ next_is i.block f.set c.args.set c.in-Some.kind f.place f.kind_is in
    let new = seen c.put_block.new.state in
    let long = subst (λ (b : GroupBlock). length (group_block b) ≡ 512) is c.put_block.ensures.len in
    let w = subst (λ (b : GroupBlock). Writes (seen i.state) 1 (group_block b) (Err c.in-Err.field-0) new) is c.in-Err.ensures.writes in
    subst (λ (d : IiDisks). Confirms {T = Unit {0}} d c.args.set (Err refusal.Fault) (the_group new i.block V (sets_of i.set))) c.self.view_is
    (subst (λ (l : List HeldSet). Confirms {T = Unit {0}} (the_group (seen i.state) i.block V l) c.args.set (Err refusal.Fault) (the_group new i.block V l)) (sym f.only)
    (confirm_err (seen i.state) new i.block V f.set kept f.pending long c.in-Err.field-0 w c.args.set f.place))
