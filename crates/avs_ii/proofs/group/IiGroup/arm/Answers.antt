use Rattle.std.proofs.Common.{rules, ◌≡◌, ◌-◌, ◌<◌, ◌≤◌, ◌∙◌, ℕ, Bool, IsTrue, vec_len, length, map, refl, sym, subst, arith}
use Rattle.avs_chunk.specs.Arming.{ArmsOne}
use Rattle.avs_ii.specs.Opened.{sets_of}
use Rattle.avs_ii.proofs.Views.{room_some}
use Rattle.avs_ii.proofs.Arming.{state_arms_as, volume_arms_as, volume_arms_kept, set_arms_as, set_arms_kept_as, no_set_arms}
use Rattle.avs_ii.proofs.group.IiGroup.arm.Goals as goal

pub returns-then-disk-eq0 : goal.returns-then-disk-eq0
returns-then-disk-eq0 g c =
    let i = c.self.inside in
    state_arms_as c.args.disk c.if-disk-eq0.true c.args.self.now (g.D.Disk.seen i.state) (g.D.Disk.seen c.arm.new.self) i.block (map g.D.Disk.seen i.volumes.items) (sets_of i.set) c.self.view_is c.args.tear c.arm.result c.arm.ensures
    (λ steady. subst (λ (b : Bool). IsTrue b) (sym c.arm.ensures.answer) (g.met.D.Arm.steady_arms i.state steady))

pub returns-then-place-len : goal.returns-then-place-len
returns-then-place-len g c =
    let i = c.self.inside in
    let place : ℕ = c.args.disk - 1 in
    let lt : place < length i.volumes.items = search rules in
    volume_arms_as g.D.Disk.seen (g.D.Disk.seen i.state) i.block i.volumes.items i.set c.args.self.now c.self.view_is c.self.invariant.0 c.args.disk place (omega (arith, c.if-disk-eq0.false)) c.index_mut.result.now c.arm-then-place-len.new.self c.index_mut.ensures.value lt c.args.tear c.arm-then-place-len.result c.arm-then-place-len.ensures
    (λ steady. subst (λ (b : Bool). IsTrue b) (sym c.arm-then-place-len.ensures.answer) (g.met.D.Arm.steady_arms c.index_mut.result.now steady))

pub invariant_of-self-then-place-len : goal.invariant_of-self-then-place-len
invariant_of-self-then-place-len g c =
    let i = c.self.inside in
    let place : ℕ = c.args.disk - 1 in
    let lt : place < length i.volumes.items = search rules in
    (volume_arms_kept g.D.Disk.seen (g.D.Disk.seen i.state) i.block i.volumes.items i.set c.args.self.now c.self.view_is c.self.invariant.0 c.args.disk place (omega (arith, c.if-disk-eq0.false)) c.index_mut.result.now c.arm-then-place-len.new.self c.index_mut.ensures.value lt c.args.tear c.arm-then-place-len.result c.arm-then-place-len.ensures, c.self.invariant.1)

pub returns-in-Some : goal.returns-in-Some
returns-in-Some g c =
    let i = c.self.inside in
    let place : ℕ = c.args.disk - 1 in
    let le : length i.volumes.items ≤ place = search rules in
    let long : vec_len i.volumes ≡ length i.volumes.items = search rules in
    set_arms_as g.D.Disk.seen (g.D.Disk.seen i.state) i.block i.volumes.items i.set c.args.self.now c.self.view_is c.self.invariant.0 c.args.disk place (omega (arith, c.if-disk-eq0.false)) c.in-Some.held c.in-Some.is le c.arm-in-Some.new.self c.args.tear c.arm-in-Some.result
    (subst (λ (k : ℕ). ArmsOne c.in-Some.held.chunks (place - k) c.args.tear c.arm-in-Some.result c.arm-in-Some.new.self) (c.len-2.ensures ∙ long) c.arm-in-Some.ensures)

pub invariant_of-self-in-Some : goal.invariant_of-self-in-Some
invariant_of-self-in-Some g c =
    let i = c.self.inside in
    let place : ℕ = c.args.disk - 1 in
    let le : length i.volumes.items ≤ place = search rules in
    let long : vec_len i.volumes ≡ length i.volumes.items = search rules in (
      set_arms_kept_as g.D.Disk.seen (g.D.Disk.seen i.state) i.block i.volumes.items i.set c.args.self.now c.self.view_is c.self.invariant.0 c.args.disk place (omega (arith, c.if-disk-eq0.false)) c.in-Some.held c.in-Some.is le c.arm-in-Some.new.self c.args.tear c.arm-in-Some.result
          (subst (λ (k : ℕ). ArmsOne c.in-Some.held.chunks (place - k) c.args.tear c.arm-in-Some.result c.arm-in-Some.new.self) (c.len-2.ensures ∙ long) c.arm-in-Some.ensures),
      room_some i.set c.in-Some.held c.in-Some.is c.self.invariant.1 refl,
    )

pub returns : goal.returns
returns g c =
    let i = c.self.inside in
    let place : ℕ = c.args.disk - 1 in
    let le : length i.volumes.items ≤ place = search rules in
    rw c.self.view_is (no_set_arms g.D.Disk.seen (g.D.Disk.seen i.state) i.block i.volumes.items i.set c.args.self.now c.self.view_is c.self.invariant.0 c.args.disk place (omega (arith, c.if-disk-eq0.false)) c.args.tear c.in_default.is le)
