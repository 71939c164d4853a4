use Rattle.std.proofs.Common.{subst, List, ℕ, Ok, Err}
use Rattle.avs_seg.specs.declared.fault.Failed.{Failed}
use Rattle.avs_dev.specs.Seen.{Writes}
use Rattle.avs_dev.specs.Below.{SetsNote}
use Rattle.avs_dev.specs.Bare.{BareDisks, below_of, IsSoundBare, WritesNote}
use Rattle.avs_dev.proofs.BareViews.{seen_as}
use Rattle.avs_dev.proofs.BareCalls.{in_step_after, Writes-noted, Writes-not_noted, Writes-note, Writes-no_note}
use Rattle.avs_dev.proofs.bare.BareBelow.set_note.Goals as goal

pub returns-in_err-write-clause-sets : goal.returns-in_err-write-clause-sets
returns-in_err-write-clause-sets g c =
    let i = c.self.inside in
    let b = seen_as g.D.Disk.seen i.state i.volumes.items i.note in
    let new = g.D.Disk.seen c.write.new.self in
    let note = c.args.note.now in
    let failed = c.in_err-write.field-0.0 in
    let w = subst (λ (l : List ℕ). Writes (g.D.Disk.seen i.state) 1 l (Err failed) new) c.note_block.ensures c.in_err-write.ensures in
    subst (λ (x : BareDisks). SetsNote (IsSoundBare x) (below_of x) note c.from_residual.result (below_of (record b { state = new }))) c.self.view_is
    (Writes-not_noted b note new c.self.invariant.0 c.told-note failed c.from_residual.result c.from_residual.ensures.0 w)

pub returns-in_err-write-clause-state : goal.returns-in_err-write-clause-state
returns-in_err-write-clause-state g c =
    let i = c.self.inside in
    let b = seen_as g.D.Disk.seen i.state i.volumes.items i.note in
    let new = g.D.Disk.seen c.write.new.self in
    let note = c.args.note.now in
    let failed = c.in_err-write.field-0.0 in
    let w = subst (λ (l : List ℕ). Writes (g.D.Disk.seen i.state) 1 l (Err failed) new) c.note_block.ensures c.in_err-write.ensures in
    subst (λ (x : BareDisks). WritesNote x note c.from_residual.result (record b { state = new })) c.self.view_is
    (Writes-no_note b note new c.self.invariant.0 c.told-note failed c.from_residual.result c.from_residual.ensures.0 w)

pub returns-clause-sets : goal.returns-clause-sets
returns-clause-sets g c =
    let i = c.self.inside in
    let b = seen_as g.D.Disk.seen i.state i.volumes.items i.note in
    let new = g.D.Disk.seen c.write.new.self in
    let note = c.args.note.now in
    let w = subst (λ (l : List ℕ). Writes (g.D.Disk.seen i.state) 1 l (Ok tt) new) c.note_block.ensures c.in_ok-write.ensures in
    subst (λ (x : BareDisks). SetsNote (IsSoundBare x) (below_of x) note (Ok tt) (below_of (record b { state = new; note = note }))) c.self.view_is (Writes-noted b note new c.self.invariant.0 c.told-note tt w)

pub returns-clause-state : goal.returns-clause-state
returns-clause-state g c =
    let i = c.self.inside in
    let b = seen_as g.D.Disk.seen i.state i.volumes.items i.note in
    let new = g.D.Disk.seen c.write.new.self in
    let note = c.args.note.now in
    let w = subst (λ (l : List ℕ). Writes (g.D.Disk.seen i.state) 1 l (Ok tt) new) c.note_block.ensures c.in_ok-write.ensures in
    subst (λ (x : BareDisks). WritesNote x note (Ok tt) (record b { state = new; note = note })) c.self.view_is (Writes-note b note new c.self.invariant.0 c.told-note tt w)

pub returns-clause-sound : goal.returns-clause-sound
returns-clause-sound g c = λ sound.
    let i = c.self.inside in
    let b = seen_as g.D.Disk.seen i.state i.volumes.items i.note in
    let new = g.D.Disk.seen c.write.new.self in
    let note = c.args.note.now in
    let w = subst (λ (l : List ℕ). Writes {E = Failed} (g.D.Disk.seen i.state) 1 l (Ok tt) new) c.note_block.ensures c.in_ok-write.ensures in
    in_step_after b note new c.self.invariant.0 c.told-note tt w
