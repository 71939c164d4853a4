use Rattle.std.proofs.Common.{rules, ◌≡◌, subst}
use Rattle.std.specs.Vec.{with_items}
use Rattle.std.proofs.lemmas.List.{with_items_is}
use Rattle.avs_seg.specs.Segment.{seg_count}
use Rattle.avs_dev.specs.Seen.{Seen, IsTold}
use Rattle.avs_flip.specs.Areas.{live}
use Rattle.avs_chunks.specs.Making.{HasArea, areas_on}
use Rattle.avs_chunks.proofs.formats.find.Goals as goal

pub returns-clause-area : goal.returns-clause-area
returns-clause-area g c told =
    let items : (with_items c.in_ok-room.room.memory c.read_states.new.memory).items ≡ c.read_states.new.memory = with_items_is c.in_ok-room.room.memory c.read_states.new.memory (search rules) in
    let same = c.in_ok-read_label.ensures.kept in
    rw items (subst (λ (d : Seen). IsTold d → HasArea (live (areas_on d c.args.blocks c.args.live_b)) (seg_count c.args.blocks) c.read_states.new.memory) same c.in_ok-read_states.ensures.area told)
