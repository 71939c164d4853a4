-- A tear is armed on a disk of a compact set: its areas stay, and the sizes of its disks.
use Rattle.std.proofs.Common.{◌≡◌, ℕ, Bool, true, false, not, IsTrue, Option, None, Some, List, slice_get, slice_set, ◌∙◌, sym, refl, ap, subst}
use Rattle.std.specs.Option.{option_map}
use Rattle.avs_seg.specs.Image.{range}
use Rattle.avs_seg.specs.Segment.{seg_count}
use Rattle.avs_dev.specs.Seen.{Seen, with_tear}
use Rattle.avs_dev.specs.declared.disk.Tear.{Tear}
use Rattle.avs_flip.specs.Areas.{live_from}
use Rattle.avs_chunks.specs.Arming as chunked
use Rattle.avs_chunks.specs.ChunkSet as chunked_set
use Rattle.avs_entries.specs.Entries.{entry_in, entry_on}
use Rattle.avs_compact.specs.CompactSet.{CompactSet, disk_of}
use Rattle.avs_compact.specs.Arming as arming
use Rattle.avs_held.specs.declared.held.Seat.{Seat}
use Rattle.avs_held.specs.Held.{slot_map, compact_set, IsSeated}
use Rattle.avs_held.specs.Arming.{ArmsOne, written_of}
use Rattle.avs_held.proofs.Armed.{Stays, stays, armed_on}
use Rattle.avs_held.proofs.SlotSteps.{seated_kept}

same_disks : (o : Option Seen) (b : Seen) → arming.both_disks o b ≡ chunked.both_disks o b
same_disks None b = refl
same_disks (Some d) b = refl

same_lets : (o : Option Seen) → arming.lets_arm o ≡ chunked.lets_arm o
same_lets None = refl
same_lets (Some d) = refl

same_size : (o : Option Seen) → (disk_of o).size ≡ (chunked_set.disk_of o).size
same_size None = refl
same_size (Some d) = refl

-- the blocks written on a disk
pub written_is : (seat : Seat) (s : CompactSet) (disk : ℕ) → arming.written_of s disk ≡ written_of (compact_set seat s) disk
written_is seat s disk = ap (λ (l : List Seen). option_map (λ (d : Seen). d.written) (slice_get l disk)) (same_disks s.shadow s.areas.disk)

module _ (seat : Seat) (s s' : CompactSet) (disk : ℕ) (tear : Tear) (r : Bool) (a : arming.ArmsOne s disk tear r s') where
  at_was : (o : Option Seen) → slice_get (chunked.both_disks s.shadow s.areas.disk) disk ≡ o → slice_get (arming.both_disks s.shadow s.areas.disk) disk ≡ o
  at_was o is = ap (λ (l : List Seen). slice_get l disk) (same_disks s.shadow s.areas.disk) ∙ is

  armed_now : IsTrue r → (d : Seen) → slice_get (chunked.both_disks s.shadow s.areas.disk) disk ≡ Some d
      → chunked.both_disks s'.shadow s'.areas.disk ≡ slice_set (chunked.both_disks s.shadow s.areas.disk) disk (with_tear tear d)
  armed_now is d at = sym (same_disks s'.shadow s'.areas.disk) ∙ a.armed is d (at_was (Some d) at) ∙ ap (λ (l : List Seen). slice_set l disk (with_tear tear d)) (same_disks s.shadow s.areas.disk)

  answer : r ≡ chunked.lets_arm (slice_get (chunked.both_disks s.shadow s.areas.disk) disk)
  answer = a.answer ∙ ap (λ (l : List Seen). arming.lets_arm (slice_get l disk)) (same_disks s.shadow s.areas.disk) ∙ same_lets (slice_get (chunked.both_disks s.shadow s.areas.disk) disk)

  both : IsTrue r → Stays s.shadow s'.shadow s.areas.disk s'.areas.disk
  both is = go (armed_on (slice_get (chunked.both_disks s.shadow s.areas.disk) disk) (sym answer ∙ is))
    where
      go : (d : Seen) × (slice_get (chunked.both_disks s.shadow s.areas.disk) disk ≡ Some d) → Stays s.shadow s'.shadow s.areas.disk s'.areas.disk
      go (d, at) = stays s.shadow s'.shadow s.areas.disk s'.areas.disk disk tear d a.still_there at (armed_now is d at)

  pub arms_set : ArmsOne (compact_set seat s) disk tear r (compact_set seat s')
  arms_set = record {
    answer = answer;
    armed = armed_now;
    rest = λ is p. record {
      slot = (a.rest p).set;
      kind = (compact_set seat s).kind;
      master = seat.master;
      size = record { blocks = (a.rest p).blocks; own = (a.rest p).own };
      over = seat.over;
      shadow = s'.shadow;
      bitmap = s'.areas.disk;
      area = λ b. slot_map (a.rest p).own (seg_count (a.rest p).blocks) (λ c. entry_on (range ((both is).shows p) (live_from (record (a.rest p).areas { live_b = b })) (a.rest p).areas.len) c);
      memory = slot_map (a.rest p).own (seg_count (a.rest p).blocks) (λ c. entry_in (a.rest p).memory c);
      next = slot_map (a.rest p).own (seg_count (a.rest p).blocks) (λ c. entry_in (a.rest p).next c);
      live_b = (a.rest p).areas.live_b;
    };
    still_there = a.still_there;
    unarmed = λ is. ap (λ (x : CompactSet). compact_set seat x) (a.unarmed is);
    sure = λ d at steady. a.sure d (at_was (Some d) at) steady;
  }

  pub seated_armed : IsSeated seat s → IsSeated seat s'
  seated_armed fit = go r refl
    where
      go : (b : Bool) → r ≡ b → IsSeated seat s'
      go true is = seated_kept seat s s' (record {
        set = ap (λ (x : CompactSet). x.set) a.rest;
        own = ap (λ (x : CompactSet). x.own) a.rest;
        blocks = ap (λ (x : CompactSet). x.blocks) a.rest;
        live_b = ap (λ (x : CompactSet). x.areas.live_b) a.rest;
        there = a.still_there;
      }) (same_size s'.shadow ∙ (both is).size ∙ sym (same_size s.shadow)) fit
      go false is = subst (λ (x : CompactSet). IsSeated seat x) (sym (a.unarmed (ap (λ (b : Bool). not b) is))) fit
