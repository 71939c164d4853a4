use Rattle.std.proofs.Common.{◌≡◌, inl, inr, true, false, refl, arith}
use Rattle.avs_mirrors.specs.Half.{is_session}
use Rattle.avs_halves.specs.SetBits.{set_at}
use Rattle.avs_halves.specs.Found.{is_filled}
use Rattle.avs_receiver.specs.Meaning.{state_in}
use Rattle.avs_receiver.proofs.Written.{is_written}
use Rattle.avs_receiver.proofs.Stopped.{stopped_below, stopped_in_bits, not_err}
use Rattle.avs_receiver.proofs.receiver.Receiver.write.Goals as goal

pub returns-in-Ok-clause-writes : goal.returns-in-Ok-clause-writes
returns-in-Ok-clause-writes g c =
    let over = rw (← c.self-inside.view_is) at c.self.invariant in
    let set = rw (← c.self.view_is) at c.requires.set in
    let there = rw (← c.self-inside.view_is) at set in
    let inside = rw (← c.self.view_is) at c.requires.range in
    let range = rw (← c.self-inside.view_is) at inside in
    let away : is_session (state_in c.self-inside.inside.0.1.0.note) ≡ false = grind arith in
    let full : is_filled c.self-inside.inside.0.1.0.note.empty (set_at c.self-inside.inside.0.1.0.sets c.args.set).slot ≡ true = grind arith in
    rw (← c.self.view_is, ← c.self-inside.view_is) (elim c.in-Ok.ensures.writes [
      | inl stops ↦ absurd (not_err stops.answer)
      | inr behind ↦ is_written (g.B.Below.IsSound c.self-inside.inside.0.0) (g.B.Below.seen c.self-inside.inside.0.0) _ c.args.set c.args.at c.args.bytes.now over there range away full (g.B.Below.seen c.write_noted.new.below) _ c.write_noted.new.self behind.bits behind.writes (g.B.Below.IsSound c.write_noted.new.below) c.in-Ok.ensures.sound
    ])

pub returns-in-Err-clause-writes : goal.returns-in-Err-clause-writes
returns-in-Err-clause-writes g c =
    let over = rw (← c.self-inside.view_is) at c.self.invariant in
    let set = rw (← c.self.view_is) at c.requires.set in
    let there = rw (← c.self-inside.view_is) at set in
    let inside = rw (← c.self.view_is) at c.requires.range in
    let range = rw (← c.self-inside.view_is) at inside in
    let away : is_session (state_in c.self-inside.inside.0.1.0.note) ≡ false = grind arith in
    let full : is_filled c.self-inside.inside.0.1.0.note.empty (set_at c.self-inside.inside.0.1.0.sets c.args.set).slot ≡ true = grind arith in
    rw (← c.self.view_is, ← c.self-inside.view_is) (inr (inr (elim c.in-Err.ensures.writes [
      | inl stops ↦ rw (stops.below) (stopped_in_bits (g.B.Below.IsSound c.self-inside.inside.0.0) (g.B.Below.seen c.self-inside.inside.0.0) _ c.args.set c.args.at c.args.bytes.now over there range away full _ refl c.write_noted.new.self c.in-Err.field-0 stops.bits)
      | inr behind ↦ stopped_below (g.B.Below.IsSound c.self-inside.inside.0.0) (g.B.Below.seen c.self-inside.inside.0.0) _ c.args.set c.args.at c.args.bytes.now over there range away full _ refl c.write_noted.new.self (g.B.Below.seen c.write_noted.new.below) _ c.in-Err.field-0 behind.bits behind.writes
    ])))
