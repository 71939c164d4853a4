use Rattle.std.proofs.Common.{List, [], ◌∷◌, map, set, refl, sym, ap, ◌∙◌, arith}
use Rattle.avs_ii.specs.Held.{HeldSet, pending_in}
use Rattle.avs_ii.specs.Opened.{held_of, sets_of}
use Rattle.avs_ii.proofs.Views.{write_range, held_some, set_size, set_inside, exit_kept, exit_keeps, exit_writes, exit_wrote, other_wrote, plain_kept, plain_keeps, plain_writes, none_wrote_as, sets_some, kept_some, room_some}
use Rattle.avs_ii.proofs.Making.{at_most_one}
use Rattle.avs_ii.proofs.Volumes.{volume_exit, pending_saved}
use Rattle.avs_ii.proofs.group.IiGroup.write_at.Goals as goal

pub is_set_of-requires : goal.is_set_of-requires
is_set_of-requires g c =
    let i = c.self.inside in
    (held_some (g.D.Disk.seen i.state) i.block (map g.D.Disk.seen i.volumes.items) i.set c.in-Some.held c.in-Some.is c.self.invariant.0).slot

pub write_saved-requires-clause-inside : goal.write_saved-requires-clause-inside
write_saved-requires-clause-inside g c =
    let i = c.self.inside in
    set_inside g.D.Disk.seen (g.D.Disk.seen i.state) i.block i.volumes.items i.set c.args.self.now c.self.view_is c.args.volume c.index_mut-disk.result.now c.index_mut-disk.ensures.value c.args.at c.args.bytes.now c.requires c.in-Some.held c.in-Some.is c.self.invariant.0 (sym c.is_set_of.ensures ∙ c.if-is_set_of.true)

pub write_saved-requires-clause-blocks : goal.write_saved-requires-clause-blocks
write_saved-requires-clause-blocks g c =
    let i = c.self.inside in
    set_size g.D.Disk.seen (g.D.Disk.seen i.state) i.block i.volumes.items i.set c.args.self.now c.self.view_is c.args.volume c.index_mut-disk.result.now c.index_mut-disk.ensures.value c.args.at c.args.bytes.now c.requires c.in-Some.held c.in-Some.is c.self.invariant.0 (sym c.is_set_of.ensures ∙ c.if-is_set_of.true)

pub write_saved-requires-clause-there : goal.write_saved-requires-clause-there
write_saved-requires-clause-there g c =
    let i = c.self.inside in
    (held_some (g.D.Disk.seen i.state) i.block (map g.D.Disk.seen i.volumes.items) i.set c.in-Some.held c.in-Some.is c.self.invariant.0).there

pub write_saved-requires-clause-settled : goal.write_saved-requires-clause-settled
write_saved-requires-clause-settled g c =
    let i = c.self.inside in
    (held_some (g.D.Disk.seen i.state) i.block (map g.D.Disk.seen i.volumes.items) i.set c.in-Some.held c.in-Some.is c.self.invariant.0).settled

pub returns-then-is_set_of-clause-writes : goal.returns-then-is_set_of-clause-writes
returns-then-is_set_of-clause-writes g c =
    let i = c.self.inside in
    exit_writes g.D.Disk.seen (g.D.Disk.seen i.state) i.block i.volumes.items i.set c.args.self.now c.self.view_is c.args.volume c.index_mut-disk.result.now c.index_mut-disk.ensures.value c.args.at c.args.bytes.now c.requires c.in-Some.held c.in-Some.is c.self.invariant.0 (sym c.is_set_of.ensures ∙ c.if-is_set_of.true) c.write_saved.result c.write_saved.new.master c.write_saved.new.chunks c.write_saved.ensures

pub returns-then-is_set_of-clause-wrote : goal.returns-then-is_set_of-clause-wrote
returns-then-is_set_of-clause-wrote g c =
    let i = c.self.inside in
    exit_wrote g.D.Disk.seen (g.D.Disk.seen i.state) i.block i.volumes.items i.set c.args.self.now c.self.view_is c.args.volume c.index_mut-disk.result.now c.index_mut-disk.ensures.value c.args.at c.args.bytes.now c.requires c.in-Some.held c.in-Some.is c.self.invariant.0 (sym c.is_set_of.ensures ∙ c.if-is_set_of.true) c.write_saved.result c.write_saved.new.master c.write_saved.new.chunks c.write_saved.ensures

pub write-requires : goal.write-requires
write-requires g c =
    let i = c.self.inside in
    write_range g.D.Disk.seen (g.D.Disk.seen i.state) i.block i.volumes.items i.set c.args.self.now c.self.view_is c.args.volume c.index_mut-disk.result.now c.index_mut-disk.ensures.value c.args.at c.args.bytes.now c.requires

pub write-requires-2 : goal.write-requires-2
write-requires-2 g c =
    let i = c.self.inside in
    write_range g.D.Disk.seen (g.D.Disk.seen i.state) i.block i.volumes.items i.set c.args.self.now c.self.view_is c.args.volume c.index_mut-disk.result.now c.index_mut-disk.ensures.value c.args.at c.args.bytes.now c.requires

pub returns-in-Some-clause-writes : goal.returns-in-Some-clause-writes
returns-in-Some-clause-writes g c =
    let i = c.self.inside in
    plain_writes g.D.Disk.seen (g.D.Disk.seen i.state) i.block i.volumes.items i.set c.args.self.now c.self.view_is c.args.volume c.index_mut-disk.result.now c.index_mut-disk.ensures.value c.args.at c.args.bytes.now c.requires c.write.result c.write.new.self c.write.ensures (held_of c.in-Some.held ∷ []) (sets_some i.set c.in-Some.held c.in-Some.is)

pub returns-in-Some-clause-wrote : goal.returns-in-Some-clause-wrote
returns-in-Some-clause-wrote g c =
    let i = c.self.inside in
    other_wrote g.D.Disk.seen (g.D.Disk.seen i.state) i.block i.volumes.items i.set c.args.self.now c.self.view_is c.args.volume c.index_mut-disk.result.now c.index_mut-disk.ensures.value c.args.at c.args.bytes.now c.requires c.in-Some.held c.in-Some.is c.self.invariant.0 (sym c.is_set_of.ensures ∙ c.if-is_set_of.false) c.write.result c.write.new.self c.write.ensures

pub returns-clause-writes : goal.returns-clause-writes
returns-clause-writes g c =
    let i = c.self.inside in
    plain_writes g.D.Disk.seen (g.D.Disk.seen i.state) i.block i.volumes.items i.set c.args.self.now c.self.view_is c.args.volume c.index_mut-disk.result.now c.index_mut-disk.ensures.value c.args.at c.args.bytes.now c.requires c.write-2.result c.write-2.new.self c.write-2.ensures (sets_of i.set) refl

pub returns-clause-wrote : goal.returns-clause-wrote
returns-clause-wrote g c =
    let i = c.self.inside in
    none_wrote_as g.D.Disk.seen (g.D.Disk.seen i.state) i.block i.volumes.items i.set c.args.self.now c.self.view_is c.args.volume c.index_mut-disk.result.now c.index_mut-disk.ensures.value c.args.at c.args.bytes.now c.requires c.write-2.result c.write-2.new.self c.write-2.ensures c.in_default.is

pub invariant_of-self : goal.invariant_of-self
invariant_of-self g c =
    let i = c.self.inside in
    (exit_kept g.D.Disk.seen (g.D.Disk.seen i.state) i.block i.volumes.items i.set c.args.self.now c.self.view_is c.args.volume c.index_mut-disk.result.now c.index_mut-disk.ensures.value c.args.at c.args.bytes.now c.requires c.in-Some.held c.in-Some.is c.self.invariant.0 (sym c.is_set_of.ensures ∙ c.if-is_set_of.true) c.write_saved.result c.write_saved.new.master c.write_saved.new.chunks c.write_saved.ensures, room_some i.set c.in-Some.held c.in-Some.is c.self.invariant.1 refl)

pub invariant_of-self-in-Some : goal.invariant_of-self-in-Some
invariant_of-self-in-Some g c =
    let i = c.self.inside in
    (plain_kept g.D.Disk.seen (g.D.Disk.seen i.state) i.block i.volumes.items i.set c.args.self.now c.self.view_is c.args.volume c.index_mut-disk.result.now c.index_mut-disk.ensures.value c.args.at c.args.bytes.now c.requires c.write.result c.write.new.self c.write.ensures (held_of c.in-Some.held ∷ []) (kept_some (g.D.Disk.seen i.state) i.block (map g.D.Disk.seen i.volumes.items) i.set c.in-Some.held c.in-Some.is c.self.invariant.0), room_some i.set c.in-Some.held c.in-Some.is c.self.invariant.1 refl)

pub invariant_of-self-2 : goal.invariant_of-self-2
invariant_of-self-2 g c =
    let i = c.self.inside in
    (plain_kept g.D.Disk.seen (g.D.Disk.seen i.state) i.block i.volumes.items i.set c.args.self.now c.self.view_is c.args.volume c.index_mut-disk.result.now c.index_mut-disk.ensures.value c.args.at c.args.bytes.now c.requires c.write-2.result c.write-2.new.self c.write-2.ensures (sets_of i.set) c.self.invariant.0, c.self.invariant.1)

pub returns-then-is_set_of-clause-volume : goal.returns-then-is_set_of-clause-volume
returns-then-is_set_of-clause-volume g c =
    let i = c.self.inside in
    let h = c.in-Some.held in
    let test = sym c.is_set_of.ensures ∙ c.if-is_set_of.true in
    let w = c.write_saved in
    volume_exit (g.D.Disk.seen i.state) i.block (map g.D.Disk.seen i.volumes.items) (map g.D.Disk.seen (set i.volumes.items c.args.volume w.new.master)) (sets_of i.set) (record (held_of h) { chunks = w.new.chunks } ∷ []) (at_most_one i.set) (omega arith) c.args.volume c.args.at c.args.bytes.now
    (pending_saved i.block.slots i.set h w.new.chunks _ c.in-Some.is test) c.args.self.now c.self.view_is w.result
    (exit_keeps g.D.Disk.seen (g.D.Disk.seen i.state) i.block i.volumes.items i.set c.args.self.now c.self.view_is c.args.volume c.index_mut-disk.result.now c.index_mut-disk.ensures.value c.args.at c.args.bytes.now c.requires h c.in-Some.is c.self.invariant.0 test w.result w.new.master w.new.chunks w.ensures)
    (exit_writes g.D.Disk.seen (g.D.Disk.seen i.state) i.block i.volumes.items i.set c.args.self.now c.self.view_is c.args.volume c.index_mut-disk.result.now c.index_mut-disk.ensures.value c.args.at c.args.bytes.now c.requires h c.in-Some.is c.self.invariant.0 test w.result w.new.master w.new.chunks w.ensures)
    (exit_wrote g.D.Disk.seen (g.D.Disk.seen i.state) i.block i.volumes.items i.set c.args.self.now c.self.view_is c.args.volume c.index_mut-disk.result.now c.index_mut-disk.ensures.value c.args.at c.args.bytes.now c.requires h c.in-Some.is c.self.invariant.0 test w.result w.new.master w.new.chunks w.ensures)

pub returns-in-Some-clause-volume : goal.returns-in-Some-clause-volume
returns-in-Some-clause-volume g c =
    let i = c.self.inside in
    let h = c.in-Some.held in
    let w = c.write in
    let some = sets_some i.set h c.in-Some.is in
    volume_exit (g.D.Disk.seen i.state) i.block (map g.D.Disk.seen i.volumes.items) (map g.D.Disk.seen (set i.volumes.items c.args.volume w.new.self)) (sets_of i.set) (held_of h ∷ []) (at_most_one i.set) (omega arith) c.args.volume c.args.at c.args.bytes.now
    (ap (λ (l : List HeldSet). pending_in i.block.slots l) (sym some)) c.args.self.now c.self.view_is w.result
    (plain_keeps g.D.Disk.seen (g.D.Disk.seen i.state) i.block i.volumes.items i.set c.args.self.now c.self.view_is c.args.volume c.index_mut-disk.result.now c.index_mut-disk.ensures.value c.args.at c.args.bytes.now c.requires w.result w.new.self w.ensures (held_of h ∷ []) some (kept_some (g.D.Disk.seen i.state) i.block (map g.D.Disk.seen i.volumes.items) i.set h c.in-Some.is c.self.invariant.0))
    (plain_writes g.D.Disk.seen (g.D.Disk.seen i.state) i.block i.volumes.items i.set c.args.self.now c.self.view_is c.args.volume c.index_mut-disk.result.now c.index_mut-disk.ensures.value c.args.at c.args.bytes.now c.requires w.result w.new.self w.ensures (held_of h ∷ []) some)
    (other_wrote g.D.Disk.seen (g.D.Disk.seen i.state) i.block i.volumes.items i.set c.args.self.now c.self.view_is c.args.volume c.index_mut-disk.result.now c.index_mut-disk.ensures.value c.args.at c.args.bytes.now c.requires h c.in-Some.is c.self.invariant.0 (sym c.is_set_of.ensures ∙ c.if-is_set_of.false) w.result w.new.self w.ensures)

pub returns-clause-volume : goal.returns-clause-volume
returns-clause-volume g c =
    let i = c.self.inside in
    let w = c.write-2 in
    volume_exit (g.D.Disk.seen i.state) i.block (map g.D.Disk.seen i.volumes.items) (map g.D.Disk.seen (set i.volumes.items c.args.volume w.new.self)) (sets_of i.set) (sets_of i.set) (at_most_one i.set) (at_most_one i.set) c.args.volume c.args.at c.args.bytes.now
    refl c.args.self.now c.self.view_is w.result
    (plain_keeps g.D.Disk.seen (g.D.Disk.seen i.state) i.block i.volumes.items i.set c.args.self.now c.self.view_is c.args.volume c.index_mut-disk.result.now c.index_mut-disk.ensures.value c.args.at c.args.bytes.now c.requires w.result w.new.self w.ensures (sets_of i.set) refl c.self.invariant.0)
    (plain_writes g.D.Disk.seen (g.D.Disk.seen i.state) i.block i.volumes.items i.set c.args.self.now c.self.view_is c.args.volume c.index_mut-disk.result.now c.index_mut-disk.ensures.value c.args.at c.args.bytes.now c.requires w.result w.new.self w.ensures (sets_of i.set) refl)
    (none_wrote_as g.D.Disk.seen (g.D.Disk.seen i.state) i.block i.volumes.items i.set c.args.self.now c.self.view_is c.args.volume c.index_mut-disk.result.now c.index_mut-disk.ensures.value c.args.at c.args.bytes.now c.requires w.result w.new.self w.ensures c.in_default.is)
