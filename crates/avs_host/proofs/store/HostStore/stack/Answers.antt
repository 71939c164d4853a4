use Rattle.std.proofs.Common.{sym}
use Rattle.avs_host.proofs.Volumes.{kept_names}
use Rattle.avs_host.proofs.store.HostStore.stack.Goals as goal

pub returns : goal.returns
returns g c = rw (← c.self.view_is) (sym (kept_names g.D.Disk.seen c.self.inside.stack c.self.inside.disks.items c.self.invariant))
