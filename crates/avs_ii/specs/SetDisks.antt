-- The disks of a set.
use Rattle.std.specs.Prelude.{ℕ, Option}
use Rattle.std.specs.Option.{option_map}
use Rattle.avs_dev.specs.Seen.{Seen}
use Rattle.avs_model.specs.declared.shadow.Kind.{Kind}
use Rattle.avs_ii.specs.declared.lists.SetParts.{SetParts}

-- the disks of a set: its slot, its kind, the place of its master, the shadow's disk where it is there, the bitmap's, and the
-- place of the overflow volume that it has
pub record SetDisks : Type 0 where
  pub slot : ℕ
  pub kind : Kind
  pub master : ℕ
  pub shadow : Option Seen
  pub bitmap : Seen
  pub over : Option ℕ

-- what contracts see of them
abbrev pub set_disks : {D : Type 0} → (D → Seen) → SetParts D → SetDisks
set_disks seen s = record { slot = s.slot; kind = s.kind; master = s.master; shadow = option_map seen s.shadow; bitmap = seen s.bitmap; over = s.over }
