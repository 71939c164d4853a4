use Rattle.std.proofs.Common.{◌+◌, ◌%◌, ◌^◌, map, refl, subst, arith, Ok, Err}
use Rattle.avs_code.specs.declared.group_blocks.GroupBlock.{GroupBlock}
use Rattle.avs_dev.specs.Below.{SetsNote}
use Rattle.avs_dev.proofs.Soundly.{notes_where}
use Rattle.avs_ii.specs.Sound.{IsSound}
use Rattle.avs_ii.specs.Held.{IiDisks}
use Rattle.avs_ii.specs.Opened.{sets_of}
use Rattle.avs_ii.specs.AsBelow.{below_of}
use Rattle.avs_ii.proofs.Belows.{as_group}
use Rattle.avs_ii.proofs.Commits.{sets_note_ok, sound_note_ok, sets_note_err, kept_note, is_next}
use Rattle.avs_ii.proofs.group.IiGroupBelow.set_note.Goals as goal

pub returns-in-Ok-clause-sets : goal.returns-in-Ok-clause-sets
returns-in-Ok-clause-sets g c =
    let i = c.self.inside in
    let state = g.D.Disk.seen i.state in
    let state' = g.D.Disk.seen c.put_block.new.state in
    let V = map g.D.Disk.seen i.volumes.items in
    let kept = c.self.invariant.0 in
    let next : GroupBlock = record i.block { sequence = (i.block.sequence + 1) % (2 ^ 64); note = c.args.note.now } in
    let after = kept_note state state i.block V (sets_of i.set) c.args.note.now refl c.told-note c.fits-note kept in
    subst (λ (x : IiDisks). SetsNote (IsSound x) (below_of x) c.args.note.now (Ok c.in-Ok.field-0) (below_of (as_group state' next V (sets_of i.set)))) c.self.view_is
    (notes_where _ _ _ _ (sets_note_ok state state' next (omega (arith, kept.room)) c.put_block.ensures.len (is_next next after.keeps after.fits) i.block V (sets_of i.set) refl c.in-Ok.field-0 c.in-Ok.ensures.writes))

pub returns-in-Err-clause-sets : goal.returns-in-Err-clause-sets
returns-in-Err-clause-sets g c =
    let i = c.self.inside in
    let state = g.D.Disk.seen i.state in
    let state' = g.D.Disk.seen c.put_block.new.state in
    let V = map g.D.Disk.seen i.volumes.items in
    let kept = c.self.invariant.0 in
    let next : GroupBlock = record i.block { sequence = (i.block.sequence + 1) % (2 ^ 64); note = c.args.note.now } in
    let after = kept_note state state i.block V (sets_of i.set) c.args.note.now refl c.told-note c.fits-note kept in
    subst (λ (x : IiDisks). SetsNote (IsSound x) (below_of x) c.args.note.now (Err c.in-Err.field-0) (below_of (as_group state' i.block V (sets_of i.set)))) c.self.view_is
    (notes_where _ _ _ _ (sets_note_err state state' next (omega (arith, kept.room)) c.put_block.ensures.len (is_next next after.keeps after.fits) i.block V (sets_of i.set) refl c.in-Err.field-0 c.in-Err.field-0 c.in-Err.ensures.writes))

pub returns-in-Ok-clause-sound : goal.returns-in-Ok-clause-sound
returns-in-Ok-clause-sound g c =
    let i = c.self.inside in
    let state = g.D.Disk.seen i.state in
    let state' = g.D.Disk.seen c.put_block.new.state in
    let V = map g.D.Disk.seen i.volumes.items in
    let kept = c.self.invariant.0 in
    let next : GroupBlock = record i.block { sequence = (i.block.sequence + 1) % (2 ^ 64); note = c.args.note.now } in
    let after = kept_note state state i.block V (sets_of i.set) c.args.note.now refl c.told-note c.fits-note kept in
    subst (λ (x : IiDisks). IsSound x → IsSound (as_group state' next V (sets_of i.set))) c.self.view_is
    (sound_note_ok state state' next (omega (arith, kept.room)) c.put_block.ensures.len (is_next next after.keeps after.fits) i.block V (sets_of i.set) refl c.in-Ok.field-0 c.in-Ok.ensures.writes)
