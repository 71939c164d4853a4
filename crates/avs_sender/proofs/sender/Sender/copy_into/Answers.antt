use Rattle.std.proofs.Common.{◌≡◌, ◌*◌, ◌∙◌, ℕ, List, length, sym, ap, rules}
use Rattle.std.specs.Vec.{with_items}
use Rattle.std.proofs.lemmas.List.{with_items_is}
use Rattle.avs_seg.specs.Image.{blocks_of}
use Rattle.avs_sender.specs.Copying.{copied}
use Rattle.avs_sender.proofs.Copyings.{copies_made, copy_is, copy_over, copy_room, range_at, read_stopped}
use Rattle.avs_sender.proofs.sender.Sender.copy_into.Goals as goal

pub read-requires : goal.read-requires
read-requires g c =
    let may = rw (← c.self.view_is) at c.requires.may in
    let kept = rw (← c.self.view_is) at c.requires.kept in
    let first = rw (← c.self.view_is) at c.requires.first in
    let span = rw (← c.self.view_is) at c.requires.span in
    range_at (g.B.Below.seen c.self.inside.below) c.self.inside.half kept c.self.invariant may c.args.waits.set c.args.waits.seg first c.args.span.at c.args.span.len span c.vol-vol.result (length c.deref_mut.result.now) c.vol-vol.ensures
    (ap (λ (l : List ℕ). length l) c.deref_mut.ensures.value ∙ c.requires.bytes)

pub returns-in-Err-clause-copies : goal.returns-in-Err-clause-copies
returns-in-Err-clause-copies g c =
    let may = rw (← c.self.view_is) at c.requires.may in
    let kept = rw (← c.self.view_is) at c.requires.kept in
    rw (← c.self.view_is) (read_stopped (g.B.Below.IsSound c.self.inside.below) (g.B.Below.seen c.self.inside.below) (g.B.Below.seen c.read.new.self) c.self.inside.half c.stop.new.self kept c.self.invariant may c.vol-vol.result c.args.span.at c.read.new.out c.in-Err.field-0
    c.in-Err.ensures.reads c.stop.ensures)

pub place_copy-requires-clause-room : goal.place_copy-requires-clause-room
place_copy-requires-clause-room g c =
    let may = rw (← c.self.view_is) at c.requires.may in
    let kept = rw (← c.self.view_is) at c.requires.kept in
    let first = rw (← c.self.view_is) at c.requires.first in
    let span = rw (← c.self.view_is) at c.requires.span in
    let last = rw (← c.self.view_is) at c.requires.place in
    let fits = rw (← c.self.view_is) at c.requires.fits in
    let items : (with_items c.args.bytes c.read.new.out).items ≡ c.read.new.out = with_items_is c.args.bytes c.read.new.out (search rules) in
    let is = c.make_copy-entry.ensures ∙ ap (λ (l : List ℕ). copied c.args.waits.set c.args.waits.seg (blocks_of l)) items in
    let size : length c.read.new.out ≡ 512 * c.args.span.len = sym (ap (λ (l : List ℕ). length l) items) ∙ search rules ∙ c.requires.bytes in
    copy_room (g.B.Below.seen c.self.inside.below) c.self.inside.half kept c.self.invariant may c.args.waits.set c.args.waits.seg first c.args.span.at c.args.span.len span c.make_copy-entry.result c.read.new.out is size last fits

pub place_copy-requires-clause-over : goal.place_copy-requires-clause-over
place_copy-requires-clause-over g c =
    let may = rw (← c.self.view_is) at c.requires.may in
    let kept = rw (← c.self.view_is) at c.requires.kept in
    let first = rw (← c.self.view_is) at c.requires.first in
    let span = rw (← c.self.view_is) at c.requires.span in
    let items : (with_items c.args.bytes c.read.new.out).items ≡ c.read.new.out = with_items_is c.args.bytes c.read.new.out (search rules) in
    let is = c.make_copy-entry.ensures ∙ ap (λ (l : List ℕ). copied c.args.waits.set c.args.waits.seg (blocks_of l)) items in
    let size : length c.read.new.out ≡ 512 * c.args.span.len = sym (ap (λ (l : List ℕ). length l) items) ∙ search rules ∙ c.requires.bytes in
    copy_over (g.B.Below.seen c.self.inside.below) c.self.inside.half kept c.self.invariant may c.args.waits.set c.args.waits.seg first c.args.span.at c.args.span.len span c.make_copy-entry.result c.read.new.out is size

pub place_copy-requires-clause-copy : goal.place_copy-requires-clause-copy
place_copy-requires-clause-copy g c =
    let may = rw (← c.self.view_is) at c.requires.may in
    let kept = rw (← c.self.view_is) at c.requires.kept in
    let first = rw (← c.self.view_is) at c.requires.first in
    let span = rw (← c.self.view_is) at c.requires.span in
    let items : (with_items c.args.bytes c.read.new.out).items ≡ c.read.new.out = with_items_is c.args.bytes c.read.new.out (search rules) in
    let is = c.make_copy-entry.ensures ∙ ap (λ (l : List ℕ). copied c.args.waits.set c.args.waits.seg (blocks_of l)) items in
    let size : length c.read.new.out ≡ 512 * c.args.span.len = sym (ap (λ (l : List ℕ). length l) items) ∙ search rules ∙ c.requires.bytes in
    copy_is (g.B.Below.seen c.self.inside.below) c.self.inside.half kept c.self.invariant may c.args.waits.set c.args.waits.seg first c.args.span.at c.args.span.len span c.make_copy-entry.result c.read.new.out is size

pub returns-clause-copies : goal.returns-clause-copies
returns-clause-copies g c =
    let may = rw (← c.self.view_is) at c.requires.may in
    let kept = rw (← c.self.view_is) at c.requires.kept in
    let first = rw (← c.self.view_is) at c.requires.first in
    let span = rw (← c.self.view_is) at c.requires.span in
    let fits = rw (← c.self.view_is) at c.requires.fits in
    let items : (with_items c.args.bytes c.read.new.out).items ≡ c.read.new.out = with_items_is c.args.bytes c.read.new.out (search rules) in
    let is = c.make_copy-entry.ensures ∙ ap (λ (l : List ℕ). copied c.args.waits.set c.args.waits.seg (blocks_of l)) items in
    let size : length c.read.new.out ≡ 512 * c.args.span.len = sym (ap (λ (l : List ℕ). length l) items) ∙ search rules ∙ c.requires.bytes in
    rw (← c.self.view_is, c.place_copy.ensures.place) (copies_made (g.B.Below.seen c.self.inside.below) c.self.inside.half kept c.self.invariant may c.args.waits.set c.args.waits.seg first c.args.span.at c.args.span.len span c.make_copy-entry.result c.read.new.out is size
    (g.B.Below.IsSound c.self.inside.below) (g.B.Below.IsSound c.read.new.self) (g.B.Below.seen c.read.new.self) _ c.place_copy.new.self c.place_copy.ensures.copied fits c.in_default.ensures.sound c.vol-vol.result c.vol-vol.ensures c.in_default.ensures.reads)
