use Rattle.std.proofs.Common.{◌≡◌, ℕ, ◌-◌, ◌++◌, ◌∙◌, ap, length, arith}
use Rattle.avs_code.specs.Bytes.{zeros}
use Rattle.avs_sync.proofs.Notes.{note_bytes-written}
use Rattle.avs_sync.proofs.note.put_note.Goals as goal

pub returns : goal.returns
returns c =
    let size : length c.args.out.now - 0 ≡ 64 = omega (arith, c.told-out) in
    let begun = c.start.ensures ∙ ap zeros size in
    let half = rw (c.role_byte.ensures, c.state_byte.ensures) at c.put_part.ensures in
    let direction = rw c.reverse_byte.ensures at c.put_part-2.ensures in
    record {
      keeps = c.requires;
      fits = record { empty = c.put_u16.ensures.fits };
      spelled = note_bytes-written c.args.x.now _ _ _ _ _ _ begun c.put_u64.ensures.after half c.put_u16.ensures.after direction c.put_u64-2.ensures.after;
    }
