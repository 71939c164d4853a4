use Rattle.std.proofs.Common.{◌∙◌, inr, true, false, sym, refl}
use Rattle.avs_halves.proofs.Errands.{over_run, same_bytes}
use Rattle.avs_receiver.proofs.receiver.Receiver.restore_by.Goals as goal

pub invariant_of-self : goal.invariant_of-self
invariant_of-self g c =
    let may = rw (← c.self.view_is) at c.requires.errand in
    let errand = rw (← c.self-inside.view_is) at may in
    let noted = rw (← c.self-inside.view_is) at c.restored_note-note.ensures.note in
    let over = rw (← c.self-inside.view_is) at c.self.invariant in
    let run = errand c.bytes_of-bytes.result false _ _ (record { note = c.restored_note-note.result; stands = c.bytes_of-bytes.ensures; restoring = noted }) c.in_err-run.ensures.ran in
    over_run _ _ _ _ _ _ run over

pub invariant_of-self-then-ne : goal.invariant_of-self-then-ne
invariant_of-self-then-ne g c =
    let may = rw (← c.self.view_is) at c.requires.errand in
    let errand = rw (← c.self-inside.view_is) at may in
    let noted = rw (← c.self-inside.view_is) at c.restored_note-note.ensures.note in
    let over = rw (← c.self-inside.view_is) at c.self.invariant in
    let run = errand c.bytes_of-bytes.result true _ _ (record { note = c.restored_note-note.result; stands = c.bytes_of-bytes.ensures; restoring = noted }) c.in_ok-run.ensures.ran in
    over_run _ _ _ _ _ _ run over

pub invariant_of-self-2 : goal.invariant_of-self-2
invariant_of-self-2 g c =
    let may = rw (← c.self.view_is) at c.requires.errand in
    let errand = rw (← c.self-inside.view_is) at may in
    let noted = rw (← c.self-inside.view_is) at c.restored_note-note.ensures.note in
    let over = rw (← c.self-inside.view_is) at c.self.invariant in
    let run = errand c.bytes_of-bytes.result true _ _ (record { note = c.restored_note-note.result; stands = c.bytes_of-bytes.ensures; restoring = noted }) c.in_ok-run.ensures.ran in
    over_run _ _ _ _ _ _ run over

pub returns-clause-runs : goal.returns-clause-runs
returns-clause-runs g c =
    let may = rw (← c.self.view_is) at c.requires.errand in
    let errand = rw (← c.self-inside.view_is) at may in
    let noted = rw (← c.self-inside.view_is) at c.restored_note-note.ensures.note in
    let run = errand c.bytes_of-bytes.result true _ _ (record { note = c.restored_note-note.result; stands = c.bytes_of-bytes.ensures; restoring = noted }) c.in_ok-run.ensures.ran in
    rw (← c.self.view_is, ← c.self-inside.view_is) (record {
      bytes = c.bytes_of-bytes.result;
      given = record { note = c.restored_note-note.result; stands = c.bytes_of-bytes.ensures; restoring = noted };
      below = run;
      done = inr (sym c.note.ensures ∙ same_bytes c.note.result c.bytes_of-bytes.result (sym c.if-ne.false ∙ c.ne.ensures), refl);
      failed = tt;
      rose = tt;
    })
