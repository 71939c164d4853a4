use Rattle.std.proofs.Common.{rules}
use Rattle.avs_dev.specs.Memory.{state_of}
use Rattle.avs_dev.proofs.Outcomes.{Writes-torn_after, Writes-done_after}
use Rattle.avs_dev.proofs.mem_disk.MemDiskDisk.write.Goals as goal

pub returns-in-Some-clause-writes : goal.returns-in-Some-clause-writes
returns-in-Some-clause-writes c =
    Writes-torn_after (state_of c.args.self.now) (state_of c.fails_by_list.new.self) (state_of c.take_due.new.self) (state_of c.store_torn.new.self) c.args.at c.args.bytes.now (search rules) c.take_due.ensures.after
    c.in-Some.tear _ (search rules) c.store_torn.ensures.later c.store_torn.ensures.after

pub returns-clause-writes : goal.returns-clause-writes
returns-clause-writes c =
    Writes-done_after (state_of c.args.self.now) (state_of c.fails_by_list.new.self) (state_of c.take_due.new.self) (state_of c.store_all.new.self) c.args.at c.args.bytes.now (search rules) c.take_due.ensures.after
    _ (search rules) c.store_all.ensures.later c.store_all.ensures.after
