use Rattle.std.proofs.Common.{◌∙◌, refl, sym}
use Rattle.avs_model.specs.Stages.{after_stage}
use Rattle.avs_model.specs.Stages.Stage.{Make}
use Rattle.avs_model.specs.declared.event.Event.TheVariants.{Volume}
use Rattle.avs_model.specs.declared.event.Host.TheVariants.{P}
use Rattle.avs_world.specs.Views.{store_view, view_of}
use Rattle.avs_world.proofs.Making.{holds_made}
use Rattle.avs_world.proofs.Standing.{refused_step, stands_up, up_holds, up_kept, up_none, up_phase}
use Rattle.avs_world.proofs.world.World.make_volume.Goals as goal

pub returns-in-Err-clause-steps : goal.returns-in-Err-clause-steps
returns-in-Err-clause-steps g c tells s stands =
    let steady = (g.R.Rack.seen c.args.rack.now).steady in
    refused_step g.D.Disk.seen steady c.args.self.now s (Volume P c.args.name.now c.args.blocks) c.in-Err.why stands (c.in-Err.ensures.refused steady s stands)

pub returns-clause-steps : goal.returns-clause-steps
returns-clause-steps g c tells s stands =
    let rack = g.R.Rack.seen c.args.rack.now in
    let seen = g.D.Disk.seen in
    let old = c.args.self.now in
    let name = c.args.name.now in
    let n = c.args.blocks in
    let added = c.in_ok-add.ensures in
    let holds = up_holds seen rack.steady old s stands c.in_default.ensures.up in
    let next = after_stage s (Make P name n) in (
      next,
      record { right = (c.in_default.ensures.passes rack.steady s stands, refl); next = refl },
      stands_up seen rack.steady _ next c.in_default.ensures.up (sym stands.up ∙ c.in_default.ensures.up) (up_none seen rack.steady old s stands c.in_default.ensures.up)
          (up_kept seen rack.steady old s stands c.in_default.ensures.up)
          (holds_made rack (view_of seen old) (store_view seen c.add.new.self old.group) s name (seen c.in-Ok.disk) n tells c.in_default.ensures.least c.in-Ok.ensures.made holds added.names added.places added.blocks refl)
          (up_phase seen rack.steady old s stands c.in_default.ensures.up),
    )
