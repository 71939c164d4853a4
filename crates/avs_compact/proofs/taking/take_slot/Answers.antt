use Rattle.std.proofs.Common.{rules, ◌≡◌, None, arith}
use Rattle.avs_compact.specs.CompactSet.{over_of}
use Rattle.avs_compact.proofs.NextSlot.{takes_over, takes_none}
use Rattle.avs_compact.proofs.taking.take_slot.Goals as goal

pub returns-in_err-slot-clause-takes : goal.returns-in_err-slot-clause-takes
returns-in_err-slot-clause-takes g c =
    let is : c.from_residual.result ≡ None = search rules in
    rw is (takes_none c.args.table.now c.args.set (over_of c.args.over.now) (over_of c.take_over.new.over) c.args.low c.in_default.ensures c.in_err-slot.ensures.taken)

pub overflow_add-result : goal.overflow_add-result
overflow_add-result g c = omega (arith, c.in_ok-slot.ensures.small, c.requires.few)

pub returns-clause-takes : goal.returns-clause-takes
returns-clause-takes g c = takes_over c.args.table.now c.args.set (over_of c.args.over.now) (over_of c.take_over.new.over) c.args.low c.in_ok-slot.slot c.in_default.ensures c.in_ok-slot.ensures.taken

pub returns-clause-small : goal.returns-clause-small
returns-clause-small g c = omega (arith, c.in_ok-slot.ensures.small, c.requires.few)
