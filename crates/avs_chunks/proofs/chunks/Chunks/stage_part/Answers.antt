use Rattle.std.proofs.Common.{rules, ◌≡◌, Err}
use Rattle.avs_chunks.proofs.Ahead.{stages_part, stops_part}
use Rattle.avs_chunks.proofs.chunks.Chunks.stage_part.Goals as goal

pub returns-in_err-copy_part : goal.returns-in_err-copy_part
returns-in_err-copy_part g c =
    let is : c.from_residual.result ≡ Err c.in_err-copy_part.field-0.0 = search rules in
    rw is (stops_part c.args.self.now c.copy_part.new.self (g.D.Disk.seen c.args.master.now) (g.D.Disk.seen c.copy_part.new.master) c.args.part c.args.split.now c.in_err-copy_part.field-0.0 c.copy_part.result c.in_err-copy_part.was c.copy_part.ensures)

pub returns : goal.returns
returns g c = stages_part c.args.self.now c.copy_part.new.self c.stage_split.new.self (g.D.Disk.seen c.args.master.now) (g.D.Disk.seen c.copy_part.new.master) c.args.part c.args.split.now c.in_ok-copy_part.ensures c.stage_split.result c.stage_split.ensures
