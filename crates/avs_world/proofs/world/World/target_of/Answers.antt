use Rattle.std.proofs.Common.{◌∙◌, sym}
use Rattle.avs_world.proofs.Ranging.{range_down}
use Rattle.avs_world.proofs.Targets.{refused_stood, passes_stood}
use Rattle.avs_world.proofs.world.World.target_of.Goals as goal

pub returns-then-not-self-clause-refused : goal.returns-then-not-self-clause-refused
returns-then-not-self-clause-refused g c steady s stands = range_down s c.args.name.now c.args.at c.args.len c.args.longest (sym stands.up ∙ c.if-not-self.true)

pub returns-clause-refused : goal.returns-clause-refused
returns-clause-refused g c = refused_stood g.D.Disk.seen c.args.self.now c.args.name.now c.args.at c.args.len c.args.longest c.if-not-self.false c.range_of.result c.range_of.ensures.refused

pub returns-clause-passes : goal.returns-clause-passes
returns-clause-passes g c = passes_stood g.D.Disk.seen c.args.self.now c.args.name.now c.args.at c.args.len c.args.longest c.if-not-self.false c.range_of.result c.range_of.ensures.passes
