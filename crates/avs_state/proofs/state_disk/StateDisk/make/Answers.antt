use Rattle.avs_state.proofs.StateDisks.{makes}
use Rattle.avs_state.proofs.state_disk.StateDisk.make.Goals as goal

pub returns-in-Ok-clause-made : goal.returns-in-Ok-clause-made
returns-in-Ok-clause-made g c =
    makes (g.D.Disk.seen c.args.disk) (g.D.Disk.seen c.format.new.disk) c.requires c.in-Ok.ensures.label c.in-Ok.ensures.block c.in-Ok.ensures.formats c.empty_block.result c.empty_block.ensures.is
