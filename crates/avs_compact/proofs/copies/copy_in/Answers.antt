use Rattle.std.proofs.Common.{ℕ, length-take, arith}
use Rattle.std.specs.Option.{option_map}
use Rattle.avs_compact.specs.CompactSet.{disk_of, over_of}
use Rattle.avs_compact.proofs.Copied.{in_written}
use Rattle.avs_compact.proofs.copies.copy_in.Goals as goal

pub returns-clause-copies : goal.returns-clause-copies
returns-clause-copies g c =
    let seen = g.D.Disk.seen in
    in_written (seen c.args.master.now) (seen c.read.new.self) (disk_of (option_map seen c.args.shadow.now)) (disk_of (option_map seen c.write_slot.new.shadow)) (over_of c.args.over.now) (over_of c.write_slot.new.over)
    c.args.own c.args.slot c.args.span.at c.args.span.len c.read.new.out c.read.result _ c.write_slot.result (omega (arith, length-take {A = ℕ})) c.requires.some c.requires.chunk c.requires.inside.in_own c.write_slot.ensures.on_disk c.in_ok-read.was c.read.ensures c.write_slot.ensures.writes
