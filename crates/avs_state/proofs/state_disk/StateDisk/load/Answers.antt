use Rattle.avs_state.proofs.StateDisks.{loads}
use Rattle.avs_state.proofs.state_disk.StateDisk.load.Goals as goal

pub returns-in-Ok-clause-loaded : goal.returns-in-Ok-clause-loaded
returns-in-Ok-clause-loaded g c =
    loads (g.D.Disk.seen c.args.disk) (g.D.Disk.seen c.read_block.new.disk) c.in-Ok.block c.in-Ok.ensures.kept c.in-Ok.ensures.room (λ told. c.in-Ok.ensures.holds told)
