-- How the sets of a half are found on their disks.
use Rattle.std.specs.Prelude.{◌≡◌, ◌⊎◌, ℕ, ◌<◌, ◌≤◌, false, List, ◌∷◌, ◌++◌, length, map, All, slice_index, reverse, []}
use Rattle.avs_seg.specs.Image.{block_at}
use Rattle.avs_seg.specs.Segment.{seg_count}
use Rattle.avs_dev.specs.Seen.{IsTold}
use Rattle.avs_dev.specs.declared.back.Why.{Why}
use Rattle.avs_dev.specs.declared.back.Why.TheVariants.{Size, BadRecord, NoMemory, Fault}
use Rattle.avs_code.specs.Label.{IsLabel}
use Rattle.avs_bits.specs.BitSet.{IsInStep, LoadRefused, bitmap_label, blocks_for}
use Rattle.avs_sync.specs.Parts.{MirrorSet}
use Rattle.avs_halves.specs.SetBits.{SetBits, part_of}

-- a set has a volume below
abbrev pub HasVolume : List ℕ → MirrorSet → Type 0
HasVolume sizes part = part.vol < length sizes

-- how many blocks the volume of a set has
abbrev pub blocks_of_set : List ℕ → MirrorSet → ℕ
blocks_of_set sizes part = slice_index sizes part.vol

-- the disk is large enough for the bits of the set's volume, and has the label of their bitmap
pub record IsOpenable (sizes : List ℕ) (part : MirrorSet) : Type 0 where
  pub fits : blocks_for (seg_count (blocks_of_set sizes part)) ≤ part.bits.size
  pub label : IsTold part.bits → (stamp : ℕ) × IsLabel (block_at part.bits.image 0) (bitmap_label false (blocks_of_set sizes part) stamp)

-- the set is as it is found on its disk, which is as it was
pub record OpensSet (sizes : List ℕ) (part : MirrorSet) (new : SetBits) : Type 0 where
  pub as_found : part_of new ≡ part
  pub segs : new.bits.segs ≡ seg_count (blocks_of_set sizes part)
  pub step : IsTold part.bits → IsInStep new.bits
  pub openable : IsOpenable sizes part

-- a rule between disks: the number that is told in place of a field
abbrev pub between : ℕ
between = 64

-- what a half says: a disk that is too small for its use breaks a rule between disks
abbrev pub half_why : Why → Why
half_why (Size need have) = BadRecord between
half_why (BadRecord field) = BadRecord field
half_why NoMemory = NoMemory
half_why Fault = Fault

-- why a set was not found, and the disk that is handed back
pub record OpenRefused (sizes : List ℕ) (part : MirrorSet) (why : Why) (left : MirrorSet) : Type 0 where
  pub cause : Why
  pub told : why ≡ half_why cause
  pub refused : LoadRefused part.bits false (blocks_of_set sizes part) cause left.bits
  pub rest : left ≡ record part { bits = record part.bits { faults = left.bits.faults } }

-- all sets are as they are found on their disks, which are as they were
pub record LoadsSets (sizes : List ℕ) (parts : List MirrorSet) (new : List SetBits) : Type 0 where
  pub as_found : map part_of new ≡ parts
  pub each : All (λ s. OpensSet sizes (part_of s) s) new

-- one set was not found, behind others that were; the disks of all are handed back
pub record OneRefused (sizes : List ℕ) (parts : List MirrorSet) (why : Why) (back : List MirrorSet) : Type 0 where
  pub front : List MirrorSet
  pub part : MirrorSet
  pub left : MirrorSet
  pub behind : List MirrorSet
  pub given : parts ≡ front ++ part ∷ behind
  pub handed_back : back ≡ front ++ left ∷ behind
  pub found : All (IsOpenable sizes) front
  pub refused : OpenRefused sizes part why left

-- there was no memory for the list of them
pub record HasNoRoom (parts : List MirrorSet) (why : Why) (back : List MirrorSet) : Type 0 where
  pub cause : why ≡ NoMemory
  pub kept : back ≡ parts

abbrev pub SetsRefused : List ℕ → List MirrorSet → Why → List MirrorSet → Type 0
SetsRefused sizes parts why back = HasNoRoom parts why back ⊎ OneRefused sizes parts why back

-- all of these parts, of which the last is the first set, were opened in turn
pub record OpensAll (sizes : List ℕ) (parts : List MirrorSet) (new : List SetBits) : Type 0 where
  pub as_found : map part_of new ≡ reverse parts
  pub each : All (λ s. OpensSet sizes (part_of s) s) new

-- one was refused, and stands last among those that are left
pub record StopsAt (sizes : List ℕ) (parts : List MirrorSet) (why : Why) (left : List MirrorSet) (new : List SetBits) : Type 0 where
  pub behind : List MirrorSet
  pub part : MirrorSet
  pub given_back : MirrorSet
  pub given : parts ≡ behind ++ part ∷ reverse (map part_of new)
  pub are_left : left ≡ behind ++ given_back ∷ []
  pub each : All (λ s. OpensSet sizes (part_of s) s) new
  pub refused : OpenRefused sizes part why given_back
