use Rattle.std.proofs.Common.{◌∙◌, inr, ◌<◌, Err, Ok, ap, refl, subst, arith}
use Rattle.avs_sync.specs.declared.note.Note.{Note}
use Rattle.avs_halves.specs.Writing.{PutsNote}
use Rattle.avs_halves.proofs.Staying.{over_sizes}
use Rattle.avs_receiver.specs.Held.{half_noted}
use Rattle.avs_receiver.proofs.Askings.{is_asked, is_not_asked}
use Rattle.avs_receiver.proofs.receiver.Receiver.ask.Goals as goal

pub returns-in-Err-clause-asks : goal.returns-in-Err-clause-asks
returns-in-Err-clause-asks g c =
    let later : c.self.inside.half.note.session < c.args.session = grind arith in
    let n = c.asked_note-note.ensures.note in
    let puts = subst (λ (m : Note). PutsNote (g.B.Below.IsSound c.self.inside.below) (g.B.Below.seen c.self.inside.below) m (Err c.in-Err.field-0) (g.B.Below.seen c.write_note.new.below)) n.is c.in-Err.ensures.puts in
    rw (← c.self.view_is) (inr (is_not_asked (g.B.Below.IsSound c.self.inside.below) (g.B.Below.seen c.self.inside.below) (g.B.Below.seen c.write_note.new.below) c.self.inside.half c.args.session c.asked_note-note.result.empty later n.slots _ c.in-Err.field-0 refl
    (over_sizes (g.B.Below.seen c.self.inside.below) (g.B.Below.seen c.write_note.new.below) c.self.inside.half.sets puts.sets.sizes c.self.invariant) puts))

pub returns-clause-asks : goal.returns-clause-asks
returns-clause-asks g c =
    let later : c.self.inside.half.note.session < c.args.session = grind arith in
    let n = c.asked_note-note.ensures.note in
    let puts = subst (λ (m : Note). PutsNote (g.B.Below.IsSound c.self.inside.below) (g.B.Below.seen c.self.inside.below) m (Ok c.in_default.field-0) (g.B.Below.seen c.write_note.new.below)) n.is c.in_default.ensures.puts in
    let half = c.enter.ensures ∙ ap (λ (m : Note). half_noted c.self.inside.half m 0) n.is in
    rw (← c.self.view_is, half) (is_asked (g.B.Below.IsSound c.self.inside.below) (g.B.Below.seen c.self.inside.below) (g.B.Below.seen c.write_note.new.below) c.self.inside.half c.args.session c.asked_note-note.result.empty later n.slots (g.B.Below.IsSound c.write_note.new.below) c.in_default.field-0 puts c.in_default.ensures.sound)
