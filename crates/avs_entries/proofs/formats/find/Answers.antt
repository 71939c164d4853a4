use Rattle.std.proofs.Common.{rules, ◌≡◌, ℕ, List, length, inr, subst, ◌∙◌}
use Rattle.std.specs.Vec.{with_items}
use Rattle.std.proofs.lemmas.List.{with_items_is}
use Rattle.avs_seg.specs.Segment.{seg_count}
use Rattle.avs_dev.specs.Seen.{Seen, IsTold}
use Rattle.avs_flip.specs.Areas.{live}
use Rattle.avs_entries.specs.Entries.{entry_in, entry_on}
use Rattle.avs_entries.specs.Slots.{HasBadEntry}
use Rattle.avs_entries.specs.Bitmap.{Fits, HasArea, areas_on}
use Rattle.avs_entries.proofs.Marking.{bad_as}
use Rattle.avs_entries.proofs.formats.find.Goals as goal

pub returns-in-Err-clause-refused : goal.returns-in-Err-clause-refused
returns-in-Err-clause-refused g c =
    let d = g.D.Disk.seen c.args.disk.now in
    let same = c.in_ok-read_label.ensures.kept in
    let items : (with_items c.in_ok-room.room.memory c.read_entries.new.memory).items ≡ c.read_entries.new.memory = with_items_is c.in_ok-room.room.memory c.read_entries.new.memory (search rules) in
    let bytes : c.deref.result.now ≡ c.read_entries.new.memory = c.deref.ensures.value ∙ items in
    let own : length c.deref_mut-2.result.now ≡ c.args.own = search rules in
    let bad = c.in-Err.ensures.bad in
    let found = subst (λ (n : ℕ). HasBadEntry (entry_in c.read_entries.new.memory) c.args.own n) c.seg_count.ensures
    (subst (λ (n : ℕ). HasBadEntry (entry_in c.read_entries.new.memory) n c.seg_count.result) own
    (subst (λ (l : List ℕ). HasBadEntry (entry_in l) (length c.deref_mut-2.result.now) c.seg_count.result) bytes bad.1)) in (
      subst (λ (n : ℕ). Fits n c.args.blocks) c.blocks-2.ensures c.in_ok-room.ensures.fits,
      (
        c.in_ok-read_entries.ensures.kept ∙ same,
        λ told. inr (
          c.in_ok-read_label.ensures.label told,
          (
            bad_as (entry_in c.read_entries.new.memory) (entry_on (live (areas_on d c.args.blocks c.args.live_b))) c.args.own (seg_count c.args.blocks)
                (subst (λ (x : Seen). IsTold x → HasArea (live (areas_on x c.args.blocks c.args.live_b)) (seg_count c.args.blocks) c.read_entries.new.memory) same c.in_ok-read_entries.ensures.area told).each found,
            bad.0,
          ),
        ),
      ),
    )
