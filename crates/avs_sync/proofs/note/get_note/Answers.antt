use Rattle.std.proofs.Common.{◌≡◌, Err, rules}
use Rattle.avs_code.proofs.Ruled.{Reads-Ok, Reads-Err}
use Rattle.avs_sync.specs.Note.{IsNote, note_rules, note_at}
use Rattle.avs_sync.proofs.Notes.{is_note, note_at-is, rules-is_note}
use Rattle.avs_sync.proofs.note.get_note.Goals as goal

pub returns-in_err-check : goal.returns-in_err-check
returns-in_err-check c =
    let bytes = c.args.bytes.now in
    let is : c.from_residual.result ≡ Err c.in_err-check.field-0.0 = search rules in
    rw is (Reads-Err IsNote note_rules bytes _ (rules-is_note bytes) (rw c.note_rules.ensures at c.in_err-check.ensures))

pub returns : goal.returns
returns c =
    let bytes = c.args.bytes.now in
    let none = rw c.note_rules.ensures at c.in_ok-check.ensures in
    rw c.note_at.ensures (Reads-Ok IsNote note_rules bytes (note_at bytes) (is_note bytes c.told-bytes c.fits-bytes none) (note_at-is bytes) none)
