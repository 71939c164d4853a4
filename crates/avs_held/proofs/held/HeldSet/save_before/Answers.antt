use Rattle.std.proofs.Common.{◌+◌}
use Rattle.avs_held.specs.Held.{seen_of}
use Rattle.avs_held.specs.Rooms.{on_disks}
use Rattle.avs_held.proofs.Answered.{saves_fail, saves_done}
use Rattle.avs_held.proofs.held.HeldSet.save_before.Goals as goal

pub returns-in_err-save_range-clause-saves : goal.returns-in_err-save_range-clause-saves
returns-in_err-save_range-clause-saves g c = λ o.
    saves_fail (on_disks (seen_of c.args.self.now) (g.D.Disk.seen c.args.master.now) o) (on_disks (seen_of c.save_range.new.self) (g.D.Disk.seen c.save_range.new.master) o)
    c.args.first (c.args.first + c.args.count) c.save_range.result _ c.in_err-save_range.was c.from_residual.result c.from_residual.ensures.0 (c.save_range.ensures o)

pub returns-clause-saves : goal.returns-clause-saves
returns-clause-saves g c = λ o.
    saves_done (on_disks (seen_of c.args.self.now) (g.D.Disk.seen c.args.master.now) o) (on_disks (seen_of c.save_range.new.self) (g.D.Disk.seen c.save_range.new.master) o)
    c.args.first (c.args.first + c.args.count) c.save_range.result _ c.in_ok-save_range.was (c.save_range.ensures o)
