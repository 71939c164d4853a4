use Rattle.std.proofs.Common.{◌/◌, length}
use Rattle.avs_receiver_plain.proofs.Restoring.{not_noted_by}
use Rattle.avs_receiver_plain.proofs.errands.restore_on.Goals as goal

pub returns-in_err-set_note-clause-puts : goal.returns-in_err-set_note-clause-puts
returns-in_err-set_note-clause-puts g c =
    let count = length c.args.bytes.now / 512 in
    not_noted_by _ c.args.below.now c.set_note.new.self c.args.note.now c.args.vol c.args.at count c.in_err-set_note.field-0.0 c.in_err-set_note.ensures.sets c.in_err-set_note.ensures.state c.from_residual.result c.from_residual.ensures.0
