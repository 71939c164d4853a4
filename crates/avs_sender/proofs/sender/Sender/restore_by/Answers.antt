use Rattle.std.proofs.Common.{◌∙◌, inr, true, false, sym, subst}
use Rattle.avs_halves.specs.Over.{IsOver}
use Rattle.avs_halves.proofs.Errands.{over_run, same_bytes}
use Rattle.avs_sender.specs.Held.{SenderHalf}
use Rattle.avs_sender.proofs.sender.Sender.restore_by.Goals as goal

pub invariant_of-self : goal.invariant_of-self
invariant_of-self g c =
    let errand = rw (← c.self.view_is) at c.requires.errand in
    let run = errand c.bytes_of-bytes.result false _ _ (record { note = c.restored_note-note.result; stands = c.bytes_of-bytes.ensures; restoring = c.restored_note-note.ensures.note }) c.in_err-run.ensures.ran in
    over_run _ _ _ _ _ _ run c.self.invariant

pub invariant_of-self-then-ne : goal.invariant_of-self-then-ne
invariant_of-self-then-ne g c =
    let errand = rw (← c.self.view_is) at c.requires.errand in
    let run = errand c.bytes_of-bytes.result true _ _ (record { note = c.restored_note-note.result; stands = c.bytes_of-bytes.ensures; restoring = c.restored_note-note.ensures.note }) c.in_ok-run.ensures.ran in
    over_run _ _ _ _ _ _ run c.self.invariant

pub invariant_of-self-2 : goal.invariant_of-self-2
invariant_of-self-2 g c =
    let errand = rw (← c.self.view_is) at c.requires.errand in
    let run = errand c.bytes_of-bytes.result true _ _ (record { note = c.restored_note-note.result; stands = c.bytes_of-bytes.ensures; restoring = c.restored_note-note.ensures.note }) c.in_ok-run.ensures.ran in
    subst (λ (x : SenderHalf). IsOver (g.B.Below.seen c.run.new.below) x.sets) (sym c.fill_by.ensures) (over_run _ _ _ _ _ _ run c.self.invariant)

pub returns-clause-runs : goal.returns-clause-runs
returns-clause-runs g c =
    let errand = rw (← c.self.view_is) at c.requires.errand in
    let run = errand c.bytes_of-bytes.result true _ _ (record { note = c.restored_note-note.result; stands = c.bytes_of-bytes.ensures; restoring = c.restored_note-note.ensures.note }) c.in_ok-run.ensures.ran in
    rw (← c.self.view_is) (record {
      bytes = c.bytes_of-bytes.result;
      given = record { note = c.restored_note-note.result; stands = c.bytes_of-bytes.ensures; restoring = c.restored_note-note.ensures.note };
      below = run;
      done = inr (sym c.note.ensures ∙ same_bytes c.note.result c.bytes_of-bytes.result (sym c.if-ne.false ∙ c.ne.ensures), c.fill_by.ensures);
      failed = tt;
      rose = tt;
    })
