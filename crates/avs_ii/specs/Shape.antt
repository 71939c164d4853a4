-- The shape of a group: what no call on its contents changes.
use Rattle.std.specs.Prelude.{ℕ, Bool, List, map, Option}
use Rattle.std.specs.Option.{option_map}
use Rattle.avs_dev.specs.Seen.{Seen}
use Rattle.avs_model.specs.declared.shadow.Kind.{Kind}
use Rattle.avs_ii.specs.Held.{HeldSet, IiDisks}
use Rattle.avs_ii.specs.Parts.{PartDisks, held_on}

-- of a disk: its size, and whether it fails only where a tear is armed
pub record DiskShape : Type 0 where
  pub size : ℕ
  pub steady : Bool

-- of a set: its slot, its master, its kind, how many blocks it has, and its disks, the shadow's where it is there
pub record SetShape : Type 0 where
  pub slot : ℕ
  pub master : ℕ
  pub kind : Kind
  pub blocks : ℕ
  pub shadow : Option DiskShape
  pub bitmap : DiskShape

-- of a group: the state disk, the volumes and the sets in order
pub record GroupShape : Type 0 where
  pub state : DiskShape
  pub volumes : List DiskShape
  pub sets : List SetShape

abbrev pub disk_shape : Seen → DiskShape
disk_shape d = record { size = d.size; steady = d.steady }

abbrev pub set_shape : HeldSet → SetShape
set_shape s = record {
  slot = s.slot;
  master = s.master;
  kind = s.chunks.kind;
  blocks = s.chunks.blocks;
  shadow = option_map disk_shape s.chunks.shadow;
  bitmap = disk_shape s.chunks.areas.disk;
}

abbrev pub shape_of : IiDisks → GroupShape
shape_of g = record { state = disk_shape g.state; volumes = map disk_shape g.volumes; sets = map set_shape g.sets }

-- of the group that parts stand for
abbrev pub parts_shape : PartDisks → GroupShape
parts_shape parts = record {
  state = disk_shape parts.state;
  volumes = map disk_shape parts.volumes;
  sets = map (λ s. set_shape (held_on parts.volumes s)) parts.sets;
}
