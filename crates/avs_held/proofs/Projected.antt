-- A set in chunks as its group sees it: its disks, and what is read of it.
use Rattle.std.proofs.Common.{◌≡◌, ◌⊎◌, inl, inr, ℕ, ◌+◌, ◌/◌, ◌≤◌, Bool, true, false, not, cond, Option, None, Some, [], length, drop, ◌-◌, Result, Ok, Err, ◌∙◌, sym, refl, ap, arith}
use Rattle.std.proofs.Math.Path.{fun_ext}
use Rattle.std.proofs.lemmas.List.{get_or-drop, length-drop}
use Rattle.avs_seg.specs.Image.{Image, block_at, range}
use Rattle.avs_seg.proofs.Blocks.{same_images}
use Rattle.avs_dev.specs.Seen.{Seen, IsTold, shown}
use Rattle.avs_dev.specs.Devices.{AllGoOn, Adds, raised}
use Rattle.avs_dev.proofs.Going.{shown_told}
use Rattle.avs_flip.specs.Areas.{Areas, live, staged, live_from}
use Rattle.avs_chunks.specs.States.{state_on}
use Rattle.avs_chunks.specs.ChunkSet.{ChunkSet, disk_of, disk_state}
use Rattle.avs_chunks.specs.Disks.{ChunkDisk, Master, Shadow, Bitmap, disk_at}
use Rattle.avs_chunks.specs.Calls.{KeepsBlocks, KeepsBehind}
use Rattle.avs_sets.specs.Says.{BlockSays}
use Rattle.avs_sets.specs.Sets as sets
use Rattle.avs_sets.specs.Sets.{OwnSlot, SetSeen, shadow_disk, SetRead, block_in, KeepsMaster, KeepsShadow}
use Rattle.avs_sets.specs.Meaning.{chunks_by, behind_of}
use Rattle.avs_sets.specs.Steps.{SetSpot, OfMaster, OfShadow, OfBitmap, OfOver, set_disks, read_over}
use Rattle.avs_sets.proofs.OwnSlots.{own_block}
use Rattle.avs_sets.proofs.Spots.{all_among}
use Rattle.avs_held.specs.declared.held.Seat.{Seat}
use Rattle.avs_held.specs.Held.{area_of, chunk_set}
use Rattle.avs_held.specs.Calls.{on_spot}

-- ---- disks

pub same_disk : (o : Option Seen) → sets.disk_of o ≡ disk_of o
same_disk None = refl
same_disk (Some d) = refl

-- the names of the disks of a set in chunks
abbrev pub spot_of : ChunkDisk → SetSpot
spot_of Master = OfMaster
spot_of Shadow = OfShadow
spot_of Bitmap = OfBitmap

module _ (seat : Seat) (s s' : ChunkSet) (m m' over : Seen) where
  pub spot_was : (d : ChunkDisk) → set_disks m (chunk_set seat s) over (spot_of d) ≡ disk_at s m d
  spot_was Master = refl
  spot_was Shadow = same_disk s.shadow
  spot_was Bitmap = refl

  pub spot_now : (d : ChunkDisk) → set_disks m' (chunk_set seat s') over (spot_of d) ≡ disk_at s' m' d
  spot_now Master = refl
  spot_now Shadow = same_disk s'.shadow
  spot_now Bitmap = refl

  spot_other : (n : SetSpot) → ((d : ChunkDisk) × (n ≡ spot_of d)) ⊎ (set_disks m' (chunk_set seat s') over n ≡ set_disks m (chunk_set seat s) over n)
  spot_other OfMaster = inl (Master, refl)
  spot_other OfShadow = inl (Shadow, refl)
  spot_other OfBitmap = inl (Bitmap, refl)
  spot_other OfOver = inr refl

  -- they go on, and the overflow volume stays
  pub all_spots : {T E : Type 0} (r : Result T E) → AllGoOn (disk_at s m) r (disk_at s' m') → AllGoOn (set_disks m (chunk_set seat s) over) r (set_disks m' (chunk_set seat s') over)
  all_spots r go = all_among (disk_at s m) (disk_at s' m') (set_disks m (chunk_set seat s) over) (set_disks m' (chunk_set seat s') over) spot_of (record { was = spot_was; now = spot_now; others = spot_other }) r go

  -- and so many blocks are written there
  pub all_adds : {T E : Type 0} (r : Result T E) (work : ChunkDisk → ℕ) → Adds (disk_at s m) work r (disk_at s' m') → Adds (set_disks m (chunk_set seat s) over) (on_spot work) r (set_disks m' (chunk_set seat s') over)
  all_adds (Ok x) work a = record { done = each; most = tt }
    where
      each : (n : SetSpot) → (set_disks m' (chunk_set seat s') over n).written ≡ raised (set_disks m (chunk_set seat s) over n).written (on_spot work n)
      each OfMaster = a.done Master
      each OfShadow = ap (λ (d : Seen). d.written) (same_disk s'.shadow) ∙ a.done Shadow ∙ sym (ap (λ (d : Seen). raised d.written (work Shadow)) (same_disk s.shadow))
      each OfBitmap = a.done Bitmap
      each OfOver = refl
  all_adds (Err e) work a = record { done = tt; most = each }
    where
      each : (n : SetSpot) → (set_disks m' (chunk_set seat s') over n).written ≤ (set_disks m (chunk_set seat s) over n).written + on_spot work n
      each OfMaster = a.most Master
      each OfShadow = omega (arith, a.most Shadow, ap (λ (d : Seen). d.written) (same_disk s'.shadow), ap (λ (d : Seen). d.written) (same_disk s.shadow))
      each OfBitmap = a.most Bitmap
      each OfOver = omega arith

-- ---- areas

pub live_is : (a : Areas) (b : Bool) → IsTold a.disk → b ≡ a.live_b → area_of a b ≡ live a
unfolding live
live_is a b told is = λ p. range (shown_told a.disk told p) (live_from (record a { live_b = is p })) a.len

pub staged_is : (a : Areas) → IsTold a.disk → area_of a (not a.live_b) ≡ staged a
unfolding staged
staged_is a told =
    ap (λ (img : Image). range img (live_from (record a { live_b = not a.live_b })) a.len) (shown_told a.disk told)
    ∙ ap (λ (n : ℕ). range a.disk.image n a.len) (turned a.live_b)
  where
    turned : (b : Bool) → cond (not b) (a.first + a.len) a.first ≡ cond b a.first (a.first + a.len)
    turned true = refl
    turned false = refl

-- ---- what is read

-- of a set whose disks tell their blocks
abbrev pub plain_read : ChunkSet → SetRead
plain_read s = record { blocks = s.blocks; state = λ c. disk_state s c; stands = λ i. block_at (disk_of s.shadow).image i }

pub shown_is : (s : ChunkSet) → IsTold (disk_of s.shadow) → shown (sets.disk_of s.shadow) ≡ (disk_of s.shadow).image
shown_is s told = ap (λ (d : Seen). shown d) (same_disk s.shadow) ∙ shown_told (disk_of s.shadow) told

module _ (says : BlockSays) (seat : Seat) (s : ChunkSet) (over : Seen) (shadow : IsTold (disk_of s.shadow)) (bitmap : IsTold s.areas.disk) (area : (says.slots seat.slot).area_b ≡ s.areas.live_b) where
  pub states_are : (chunks_by says (chunk_set seat s)).state ≡ (λ c. disk_state s c)
  states_are = ap (λ (img : Image). λ (c : ℕ). state_on img c) (live_is s.areas (says.slots seat.slot).area_b bitmap area)

  stands_at : (i : ℕ) → block_in (shown (sets.disk_of s.shadow)) (shown over) (OwnSlot (i / 64)) i ≡ block_at (disk_of s.shadow).image i
  stands_at i = own_block (shown (sets.disk_of s.shadow)) (shown over) i ∙ ap (λ (img : Image). block_at img i) (shown_is s shadow)

  stands_are : (read_over says (chunk_set seat s) over).stands ≡ (plain_read s).stands
  stands_are = fun_ext stands_at

  pub read_is : read_over says (chunk_set seat s) over ≡ plain_read s
  read_is = λ p. record { blocks = s.blocks; state = states_are p; stands = stands_are p }

module _ (s s' : ChunkSet) (m m' : Image) (k : KeepsBlocks s m s' m') where
  pub plain_master : KeepsMaster (plain_read s) m (plain_read s') m'
  plain_master = record {
    master = k.master;
    only = k.only;
    alike = λ a. record { same = (k.alike (record { same = a.same })).same };
    back = k.back;
    splits = k.split;
  }

  pub plain_shadow : KeepsShadow (plain_read s) m (plain_read s') m'
  plain_shadow = record { shadow = k.shadow }

-- ---- the blocks behind

pub drop_same : (n : ℕ) (a b : Image) → length a ≡ length b → ((i : ℕ) → n ≤ i → block_at a i ≡ block_at b i) → drop n a ≡ drop n b
drop_same n a b len each = same_images (drop n a) (drop n b) (length-drop n a ∙ ap (λ (k : ℕ). k - n) len ∙ sym (length-drop n b))
    (λ i lt. get_or-drop n a i [] ∙ each (n + i) (omega arith) ∙ sym (get_or-drop n b i []))

pub behind_same : (seat : Seat) (s s' : ChunkSet) → s'.blocks ≡ s.blocks → IsTold (disk_of s.shadow) → IsTold (disk_of s'.shadow) → (disk_of s'.shadow).size ≡ (disk_of s.shadow).size → KeepsBehind s s'
    → behind_of (chunk_set seat s') ≡ behind_of (chunk_set seat s)
behind_same seat s s' blocks told told' size k =
    ap (λ (img : Image). drop s'.blocks img) (shown_is s' told')
    ∙ ap (λ (n : ℕ). drop n (disk_of s'.shadow).image) blocks
    ∙ drop_same s.blocks (disk_of s'.shadow).image (disk_of s.shadow).image (told' ∙ size ∙ sym told) k.behind
    ∙ sym (ap (λ (img : Image). drop s.blocks img) (shown_is s told))
