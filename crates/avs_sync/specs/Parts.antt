-- The disks of a half.
use Rattle.std.specs.Prelude.{ℕ}
use Rattle.avs_dev.specs.Seen.{Seen}
use Rattle.avs_sync.specs.declared.parts.HalfSet.{HalfSet}

-- a mirror set: its volume below the half, its bit in the note, and what contracts see of its bitmap's disk
pub record MirrorSet : Type 0 where
  pub vol : ℕ
  pub slot : ℕ
  pub bits : Seen

abbrev pub mirror_set : {D : Type 0} → (D → Seen) → HalfSet D → MirrorSet
mirror_set seen s = record { vol = s.vol; slot = s.slot; bits = seen s.bits }
