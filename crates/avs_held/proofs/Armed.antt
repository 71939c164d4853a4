-- A tear is armed on a disk of a set in chunks: its areas stay, and the sizes of its disks.
use Rattle.std.proofs.Common.{◌≡◌, ℕ, zero, suc, Bool, true, false, not, IsTrue, Option, None, Some, is_some, List, [], ◌∷◌, slice_get, slice_set, ◌∙◌, sym, refl, ap, subst}
use Rattle.avs_seg.specs.Image.{range}
use Rattle.avs_dev.specs.Seen.{Seen, shown, with_tear}
use Rattle.avs_dev.specs.declared.disk.Tear.{Tear}
use Rattle.avs_flip.specs.Areas.{live_from}
use Rattle.avs_chunks.specs.States.{state_in, state_on}
use Rattle.avs_chunks.specs.ChunkSet.{ChunkSet, disk_of}
use Rattle.avs_chunks.specs.Arming as arming
use Rattle.avs_chunks.specs.Arming.{both_disks, lets_arm, disks_there}
use Rattle.avs_held.specs.declared.held.Seat.{Seat}
use Rattle.avs_held.specs.Held.{own_map, chunk_set, HasRoom}
use Rattle.avs_held.specs.Arming.{ArmsOne}
use Rattle.avs_held.proofs.Room.{room_kept}

never : false ≡ true → ⊥
never is = cc

-- the first of a list, and the second
first : Seen → List Seen → Seen
first d [] = d
first d (x ∷ xs) = x

second : Seen → List Seen → Seen
second d [] = d
second d (x ∷ xs) = first d xs

-- what stays of both disks
pub record Stays (o o' : Option Seen) (b b' : Seen) : Type 0 where
  pub shows : shown b' ≡ shown b
  pub size : (disk_of o').size ≡ (disk_of o).size

pub stays : (o o' : Option Seen) (b b' : Seen) (disk : ℕ) (tear : Tear) (d : Seen) → is_some o' ≡ is_some o → slice_get (both_disks o b) disk ≡ Some d
    → both_disks o' b' ≡ slice_set (both_disks o b) disk (with_tear tear d) → Stays o o' b b'
unfolding first second
stays None (Some x') b b' disk tear d there at is = absurd (never (sym there))
stays (Some x) None b b' disk tear d there at is = absurd (never there)
stays None None b b' zero tear d there at is = record {
  shows = ap (λ (l : List Seen). shown (first b' l)) is ∙ sym (ap (λ (o : Option Seen). shown (disk_of o)) at);
  size = refl;
}
stays None None b b' (suc k) tear d there at is = absurd (never (ap (λ (o : Option Seen). is_some o) at))
stays (Some x) (Some x') b b' zero tear d there at is = record {
  shows = ap (λ (l : List Seen). shown (second b' l)) is;
  size = ap (λ (l : List Seen). (first x' l).size) is ∙ sym (ap (λ (o : Option Seen). (disk_of o).size) at);
}
stays (Some x) (Some x') b b' (suc zero) tear d there at is = record {
  shows = ap (λ (l : List Seen). shown (second b' l)) is ∙ sym (ap (λ (o : Option Seen). shown (disk_of o)) at);
  size = ap (λ (l : List Seen). (first x' l).size) is;
}
stays (Some x) (Some x') b b' (suc (suc k)) tear d there at is = absurd (never (ap (λ (o : Option Seen). is_some o) at))

-- a disk that lets a tear be armed is there
pub armed_on : (o : Option Seen) → IsTrue (lets_arm o) → (d : Seen) × (o ≡ Some d)
armed_on None is = absurd (never is)
armed_on (Some d) is = (d, refl)

module _ (seat : Seat) (s s' : ChunkSet) (disk : ℕ) (tear : Tear) (r : Bool) (a : arming.ArmsOne s disk tear r s') where
  both : IsTrue r → Stays s.shadow s'.shadow s.areas.disk s'.areas.disk
  both is = go (armed_on (slice_get (disks_there s) disk) (sym a.answer ∙ is))
    where
      go : (d : Seen) × (slice_get (disks_there s) disk ≡ Some d) → Stays s.shadow s'.shadow s.areas.disk s'.areas.disk
      go (d, at) = stays s.shadow s'.shadow s.areas.disk s'.areas.disk disk tear d a.still_there at (a.armed is d at)

  pub arms_set : ArmsOne (chunk_set seat s) disk tear r (chunk_set seat s')
  arms_set = record {
    answer = a.answer;
    armed = a.armed;
    rest = λ is p. record {
      slot = seat.slot;
      kind = (a.rest p).kind;
      master = seat.master;
      size = record { blocks = (a.rest p).blocks; own = seat.own };
      over = seat.over;
      shadow = s'.shadow;
      bitmap = s'.areas.disk;
      area = λ b. own_map (λ c. state_on (range ((both is).shows p) (live_from (record (a.rest p).areas { live_b = b })) (a.rest p).areas.len) c);
      memory = own_map (λ c. state_in (a.rest p).memory c);
      next = own_map (λ c. state_in (a.rest p).next c);
      live_b = (a.rest p).areas.live_b;
    };
    still_there = a.still_there;
    unarmed = λ is. ap (λ (x : ChunkSet). chunk_set seat x) (a.unarmed is);
    sure = a.sure;
  }

  pub room_armed : HasRoom s → HasRoom s'
  room_armed room = go r refl
    where
      go : (b : Bool) → r ≡ b → HasRoom s'
      go true is = room_kept s s' (ap (λ (x : ChunkSet). x.kind) a.rest) (ap (λ (x : ChunkSet). x.blocks) a.rest) a.still_there (both is).size room
      go false is = subst (λ (x : ChunkSet). HasRoom x) (sym (a.unarmed (ap (λ (b : Bool). not b) is))) room
