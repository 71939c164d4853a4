use Rattle.std.proofs.Common.{map}
use Rattle.avs_sender.specs.Held.{SenderHalf}
use Rattle.avs_sender.specs.SenderView.{set_places}
use Rattle.avs_sender.proofs.PlacedCopies.{marks_kept, marks_placed}
use Rattle.avs_sender.proofs.half.Half.place_mark.Goals as goal

pub invariant_of-self : goal.invariant_of-self
invariant_of-self g c =
    let h : SenderHalf = record { host = c.self.inside.host; sets = c.self.inside.sets; places = map set_places c.self.inside.tracked.items; land = g.D.Disk.seen c.self.inside.land; note = c.self.inside.note; session = c.self.inside.session; queue = c.self.inside.queue } in
    let room = rw (← c.self.view_is) at c.requires.room in
    let unmarked = rw (← c.self.view_is) at c.requires.unmarked in
    let none = rw (← c.self.view_is) at c.requires.none in
    marks_kept h c.self.inside.writes c.args.mark c.self.invariant room unmarked none c.requires.mark c.marked-self-inside.result c.add.new.self c.add.ensures.pushes c.marked-self-inside.ensures

pub returns-clause-marked : goal.returns-clause-marked
returns-clause-marked g c =
    let h : SenderHalf = record { host = c.self.inside.host; sets = c.self.inside.sets; places = map set_places c.self.inside.tracked.items; land = g.D.Disk.seen c.self.inside.land; note = c.self.inside.note; session = c.self.inside.session; queue = c.self.inside.queue } in
    let room = rw (← c.self.view_is) at c.requires.room in
    let unmarked = rw (← c.self.view_is) at c.requires.unmarked in
    let none = rw (← c.self.view_is) at c.requires.none in
    rw (← c.self.view_is) (marks_placed h c.self.inside.writes c.args.mark c.self.invariant room unmarked none c.requires.mark c.marked-self-inside.result c.add.new.self c.add.ensures.pushes c.marked-self-inside.ensures)
