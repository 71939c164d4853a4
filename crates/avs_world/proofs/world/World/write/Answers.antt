use Rattle.std.proofs.Common.{◌≡◌, ◌∙◌, ℕ, List, Some, None, sym, ap, subst}
use Rattle.avs_seg.specs.Image.{blocks_of}
use Rattle.avs_model.specs.Limits.{longest_write}
use Rattle.avs_model.specs.Refusals.{range_causes, first_cause}
use Rattle.avs_model.specs.Good.{Step}
use Rattle.avs_model.specs.declared.event.Host.TheVariants.{P}
use Rattle.avs_model.specs.declared.event.Event.TheVariants.{Write}
use Rattle.avs_model.specs.declared.answer.Answer.{Answer}
use Rattle.avs_world.specs.Views.{view_of}
use Rattle.avs_world.specs.Calls.{IsOf}
use Rattle.avs_world.proofs.Standing.{refused_step}
use Rattle.avs_world.proofs.RangeSteps.{write_done, write_stopped}
use Rattle.avs_world.proofs.world.World.write.Goals as goal

pub returns-in-Err-clause-steps : goal.returns-in-Err-clause-steps
returns-in-Err-clause-steps g c steady s stands =
    refused_step g.D.Disk.seen steady c.args.self.now s (Write P c.args.volume.now c.args.at c.args.len c.args.pattern.now) c.in-Err.why stands
    (subst (λ (n : List ℕ). first_cause (range_causes s P n c.args.at c.args.len longest_write) ≡ Some c.in-Err.why) c.as_slice.ensures (c.in-Err.ensures.refused steady s stands))

pub returns-in_default-clause-steps : goal.returns-in_default-clause-steps
returns-in_default-clause-steps g c steady s stands =
    let seen = g.D.Disk.seen in
    let self = c.args.self.now in
    let name = c.args.volume.now in
    let sought = subst (λ (n : List ℕ). IsOf (view_of seen self) c.in-Ok.target n) c.as_slice.ensures c.in-Ok.ensures.of in
    let passes = subst (λ (n : List ℕ). first_cause (range_causes s P n c.args.at c.args.len longest_write) ≡ None) c.as_slice.ensures (c.in-Ok.ensures.passes steady s stands) in
    let filled = ap blocks_of c.deref.ensures.value ∙ c.in_ok-bytes.ensures.blocks in
    let falls = write_stopped seen steady self s stands c.in-Ok.ensures.up name c.args.at c.args.len c.args.pattern.now c.write_at.new.self c.stop.new.self c.in-Ok.target c.deref.result.now c.in_default.field-0 c.in_ok-write.write
    passes sought c.in_default.ensures.writes filled c.stop.ensures.apart c.stop.ensures.same c.stop.ensures.up c.stop.ensures.stopped c.in_ok-write.ensures.event in
    (falls.0, subst (λ (answer : Answer). Step steady s (Write P name c.args.at c.args.len c.args.pattern.now) answer falls.0) (sym c.stop.ensures.told) falls.1, falls.2)

pub returns-clause-steps : goal.returns-clause-steps
returns-clause-steps g c steady s stands =
    let seen = g.D.Disk.seen in
    let self = c.args.self.now in
    let name = c.args.volume.now in
    let sought = subst (λ (n : List ℕ). IsOf (view_of seen self) c.in-Ok.target n) c.as_slice.ensures c.in-Ok.ensures.of in
    let passes = subst (λ (n : List ℕ). first_cause (range_causes s P n c.args.at c.args.len longest_write) ≡ None) c.as_slice.ensures (c.in-Ok.ensures.passes steady s stands) in
    let filled = ap blocks_of c.deref.ensures.value ∙ c.in_ok-bytes.ensures.blocks in
    write_done seen steady self s stands c.in-Ok.ensures.up name c.args.at c.args.len c.args.pattern.now (record c.write_at.new.self { spare = c.in_ok-bytes.bytes }) c.in-Ok.target c.deref.result.now c.in-Ok-write_at.field-0
    passes sought c.in-Ok-write_at.ensures.writes filled c.in-Ok-write_at.ensures.up c.in-Ok-write_at.ensures.stopped
