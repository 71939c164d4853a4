use Rattle.std.proofs.Common.{◌≡◌, ℕ, ◌<◌, true, length, map, subst, sym, ◌∙◌, ap}
use Rattle.std.specs.Option.{option_map}
use Rattle.avs_sets.specs.Sets.{SetSeen}
use Rattle.avs_sets.specs.Meaning.{set_of, slot_of}
use Rattle.avs_held.specs.Held.{seen_of}
use Rattle.avs_state.specs.Saying.{said_of, says_of, SaysOne}
use Rattle.avs_group.specs.Group.{Group, seen}
use Rattle.avs_group.proofs.ByName.{set_is, place_lt}
use Rattle.avs_group.proofs.Stamps.{stamp_fits}
use Rattle.avs_group.proofs.Committing.{stop_does, stop_kept}
use Rattle.avs_group.proofs.group.ShadowGroup.stop_at.Goals as goal

pub put_said-requires-clause-number : goal.put_said-requires-clause-number
put_said-requires-clause-number g c =
    let i = c.self.inside in
    let lt : c.args.place < length (map seen_of i.sets.items) = rw (← c.self.view_is) at c.requires.place in
    let is = set_is i.sets.items c.args.place c.index.result.now (place_lt i.sets.items c.args.place lt) c.index.ensures in
    subst (λ (n : ℕ). n < 16) (sym (c.seat-slot.ensures.slot ∙ ap (λ (s : SetSeen). s.slot) (sym is))) (c.self.invariant.kept.held c.args.place lt).slot

pub put_said-requires-clause-stamp : goal.put_said-requires-clause-stamp
put_said-requires-clause-stamp g c =
    let i = c.self.inside in
    let said : slot_of (says_of i.state.block) (set_of (map seen_of i.sets.items) c.args.place) ≡ said_of c.args.state = rw (← c.self.view_is) at c.requires.said in
    stamp_fits c.next-block.result c.next-block.ensures.keeps (set_of (map seen_of i.sets.items) c.args.place).slot c.args.state
    (ap (λ b. (says_of b).slots (set_of (map seen_of i.sets.items) c.args.place).slot) c.next-block.ensures.is ∙ said)

pub invariant_of-self : goal.invariant_of-self
invariant_of-self g c =
    let i = c.self.inside in
    let old : Group = seen (record { state = i.state; volumes = map (λ v. option_map g.D.Disk.seen v) i.volumes.items; overs = i.overs.items; sets = i.sets.items }) in
    let lt : c.args.place < length (map seen_of i.sets.items) = rw (← c.self.view_is) at c.requires.place in
    let is = set_is i.sets.items c.args.place c.index.result.now (place_lt i.sets.items c.args.place lt) c.index.ensures in
    let slot : c.seat-slot.result.slot ≡ (set_of old.sets c.args.place).slot = c.seat-slot.ensures.slot ∙ ap (λ (s : SetSeen). s.slot) (sym is) in
    let live = rw (← c.self.view_is) at c.requires.enabled in
    let said = rw (← c.self.view_is) at c.requires.said in
    let says = subst (λ b. SaysOne (says_of b) (set_of old.sets c.args.place).slot (said_of (record c.args.state { stopped = true })) (says_of c.put_said.new.block)) c.next-block.ensures.is
    (subst (λ (n : ℕ). SaysOne (says_of c.next-block.result) n (said_of (record c.args.state { stopped = true })) (says_of c.put_said.new.block)) slot c.put_said.ensures.says) in
    stop_kept old c.self.invariant c.args.place lt live c.args.state said c.put_said.new.block says c.commit.new.self c.commit.result c.commit.ensures

pub returns : goal.returns
returns g c =
    let i = c.self.inside in
    let old : Group = seen (record { state = i.state; volumes = map (λ v. option_map g.D.Disk.seen v) i.volumes.items; overs = i.overs.items; sets = i.sets.items }) in
    let lt : c.args.place < length (map seen_of i.sets.items) = rw (← c.self.view_is) at c.requires.place in
    let is = set_is i.sets.items c.args.place c.index.result.now (place_lt i.sets.items c.args.place lt) c.index.ensures in
    let slot : c.seat-slot.result.slot ≡ (set_of old.sets c.args.place).slot = c.seat-slot.ensures.slot ∙ ap (λ (s : SetSeen). s.slot) (sym is) in
    let live = rw (← c.self.view_is) at c.requires.enabled in
    let said = rw (← c.self.view_is) at c.requires.said in
    let says = subst (λ b. SaysOne (says_of b) (set_of old.sets c.args.place).slot (said_of (record c.args.state { stopped = true })) (says_of c.put_said.new.block)) c.next-block.ensures.is
    (subst (λ (n : ℕ). SaysOne (says_of c.next-block.result) n (said_of (record c.args.state { stopped = true })) (says_of c.put_said.new.block)) slot c.put_said.ensures.says) in
    rw (← c.self.view_is) (stop_does old c.self.invariant c.args.place lt live c.args.state said c.put_said.new.block says c.commit.new.self c.commit.result c.commit.ensures)
