use Rattle.std.proofs.Common.{◌≡◌, ◌∷◌, [], List, Option, Some, false, map, refl, sym, ap, subst, ◌∙◌, arith}
use Rattle.std.specs.Option.{option_map, option_copied}
use Rattle.avs_ii.specs.Held.{HeldSet, IiDisks, is_live}
use Rattle.avs_ii.specs.Opened.{held_of, sets_of}
use Rattle.avs_ii.specs.declared.held.Held.{Held}
use Rattle.avs_ii.specs.Kept.{IsHeld}
use Rattle.avs_ii.specs.Calls.{GivesUp}
use Rattle.avs_ii.proofs.Making.{held_one, some_same, the_group}
use Rattle.avs_ii.proofs.TakenApart.{gives_up, no_shadow}
use Rattle.avs_ii.proofs.group.IiGroup.give_up.Goals as goal

pub is_live-requires : goal.is_live-requires
is_live-requires g c =
    let i = c.self.inside in
    let is : i.set ≡ Some c.in_ok-slot.field-0.now = sym c.as_ref.ensures.value ∙ ap (λ o. option_copied o) c.in_ok-slot.was in
    let h = held_one (IsHeld i.block.slots (map g.D.Disk.seen i.volumes.items)) i.set c.in_ok-slot.field-0.now is c.self.invariant.0.held in
    omega (arith, h.slot)

pub returns-in_err-shadow-clause-none : goal.returns-in_err-shadow-clause-none
returns-in_err-shadow-clause-none g c =
    let i = c.self.inside in
    let is : i.set ≡ Some c.in_ok-slot-2.field-0 = sym c.take.ensures.value ∙ c.in_ok-slot-2.was in
    let h = held_one (IsHeld i.block.slots (map g.D.Disk.seen i.volumes.items)) i.set c.in_ok-slot-2.field-0 is c.self.invariant.0.held in
    absurd (no_shadow c.in_ok-slot-2.field-0.chunks.shadow (sym c.into_disks-shadow.ensures.shadow ∙ ap (λ o. option_map g.D.Disk.seen o) c.in_err-shadow.was) h.there)

pub returns-in_err-shadow-clause-kept : goal.returns-in_err-shadow-clause-kept
returns-in_err-shadow-clause-kept g c =
    let i = c.self.inside in
    let is : i.set ≡ Some c.in_ok-slot-2.field-0 = sym c.take.ensures.value ∙ c.in_ok-slot-2.was in
    let h = held_one (IsHeld i.block.slots (map g.D.Disk.seen i.volumes.items)) i.set c.in_ok-slot-2.field-0 is c.self.invariant.0.held in
    absurd (no_shadow c.in_ok-slot-2.field-0.chunks.shadow (sym c.into_disks-shadow.ensures.shadow ∙ ap (λ o. option_map g.D.Disk.seen o) c.in_err-shadow.was) h.there)

pub returns-clause-given : goal.returns-clause-given
returns-clause-given g c =
    let i = c.self.inside in
    let seen = g.D.Disk.seen in
    let h = c.in_ok-slot-2.field-0 in
    let V = map seen i.volumes.items in
    let is : i.set ≡ Some h = sym c.take.ensures.value ∙ c.in_ok-slot-2.was in
    let first : i.set ≡ Some c.in_ok-slot.field-0.now = sym c.as_ref.ensures.value ∙ ap (λ o. option_copied o) c.in_ok-slot.was in
    let same : c.in_ok-slot.field-0.now ≡ h = some_same c.in_ok-slot.field-0.now h (sym first ∙ is) in
    let pending : is_live i.block.slots h.slot ≡ false = ap (λ (x : Held g.row.D.Denot). is_live i.block.slots x.slot) (sym same) ∙ sym c.is_live.ensures ∙ c.if-is_live.false in
    let shadow : h.chunks.shadow ≡ Some (seen c.in_ok-shadow.field-0) = sym c.into_disks-shadow.ensures.shadow ∙ ap (λ o. option_map seen o) c.in_ok-shadow.was in
    let up = gives_up (seen i.state) i.block V (held_of h) (seen c.in_ok-shadow.field-0) (seen c.into_disks-shadow.result.1) pending shadow c.into_disks-shadow.ensures.bitmap in (
      held_of h,
      (
        refl,
        subst (λ (d : IiDisks). GivesUp d (held_of h) (seen c.in_ok-shadow.field-0) (seen c.into_disks-shadow.result.1) (the_group (seen i.state) i.block V (sets_of c.take.new.self))) c.self.view_is
            (subst (λ (l : List HeldSet). GivesUp (the_group (seen i.state) i.block V l) (held_of h) (seen c.in_ok-shadow.field-0) (seen c.into_disks-shadow.result.1) (the_group (seen i.state) i.block V (sets_of c.take.new.self))) (sym (ap (λ (o : Option (Held g.row.D.Denot)). sets_of o) is))
            (subst (λ (l : List HeldSet). GivesUp (the_group (seen i.state) i.block V (held_of h ∷ [])) (held_of h) (seen c.in_ok-shadow.field-0) (seen c.into_disks-shadow.result.1) (the_group (seen i.state) i.block V l)) (sym (ap (λ (o : Option (Held g.row.D.Denot)). sets_of o) c.take.ensures.after)) up)),
      ),
    )
