use Rattle.std.proofs.Common.{ℕ, rules, ◌≡◌, Err, length-take, arith}
use Rattle.std.specs.Option.{option_map}
use Rattle.avs_compact.specs.CompactSet.{disk_of, over_of}
use Rattle.avs_compact.proofs.Copied.{out_written, out_unread}
use Rattle.avs_compact.proofs.copies.copy_out.Goals as goal

pub returns-clause-copies : goal.returns-clause-copies
returns-clause-copies g c =
    let seen = g.D.Disk.seen in
    out_written (seen c.args.master.now) (seen c.write.new.self) (disk_of (option_map seen c.args.shadow.now)) (disk_of (option_map seen c.read_slot.new.shadow)) (over_of c.args.over.now) (over_of c.read_slot.new.over)
    c.args.own c.args.slot c.args.span.at c.args.span.len c.read_slot.new.out c.read_slot.result _ c.write.result (omega (arith, c.read_slot.ensures.len, length-take {A = ℕ})) c.requires.some c.requires.master c.in_ok-read_slot.was c.read_slot.ensures.reads c.write.ensures

pub returns-in_err-read_slot-clause-copies : goal.returns-in_err-read_slot-clause-copies
returns-in_err-read_slot-clause-copies g c =
    let seen = g.D.Disk.seen in
    let is : c.from_residual.result ≡ Err c.in_err-read_slot.field-0.0 = search rules in
    rw is (out_unread (seen c.args.master.now) (disk_of (option_map seen c.args.shadow.now)) (disk_of (option_map seen c.read_slot.new.shadow)) (over_of c.args.over.now) (over_of c.read_slot.new.over)
    c.args.own c.args.slot c.args.span.at c.args.span.len c.read_slot.new.out c.read_slot.result c.in_err-read_slot.field-0.0 c.in_err-read_slot.field-0.0 c.in_err-read_slot.was c.read_slot.ensures.reads)
