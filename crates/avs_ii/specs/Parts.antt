-- The disks that a group is found on, and is taken apart into.
use Rattle.std.specs.Prelude.{ℕ, false, List, [], map, slice_index, None}
use Rattle.avs_dev.specs.Seen.{Seen}
use Rattle.avs_model.specs.Shadows.{GroupState}
use Rattle.avs_chunk.specs.Making.{areas_on}
use Rattle.avs_ii.specs.declared.parts.IiParts.{IiParts}
use Rattle.avs_ii.specs.SetDisks.{SetDisks}
use Rattle.avs_ii.specs.Held.{HeldSet, IiDisks}
use Rattle.avs_ii.specs.Meaning.{group_by, kept_on}

-- the state disk, the volumes in order, the sets in order of enabling, and the overflow volumes
pub record PartDisks : Type 0 where
  pub state : Seen
  pub volumes : List Seen
  pub sets : List SetDisks
  pub overs : List Seen

-- what contracts see of the disks of a group
abbrev pub part_disks : {D : Type 0} → (D → Seen) → IiParts D → PartDisks
part_disks seen p = record { state = seen p.state; volumes = p.volumes; sets = p.sets; overs = p.overs }

-- the size of a volume, by its place
abbrev pub size_of : List Seen → ℕ → ℕ
size_of volumes volume = slice_index (map (λ v. v.size) volumes) volume

-- a set on its disks, as large as its master, with nothing in memory
abbrev pub held_on : List Seen → SetDisks → HeldSet
held_on volumes s = record {
  slot = s.slot;
  master = s.master;
  chunks = record {
    kind = s.kind;
    shadow = s.shadow;
    areas = areas_on s.bitmap (size_of volumes s.master) false;
    memory = [];
    blocks = size_of volumes s.master;
  };
}

-- the group that parts stand for
abbrev pub meaning_of_parts : PartDisks → GroupState
meaning_of_parts parts =
    let block = kept_on parts.state in group_by block.slots block.note parts.volumes (map (held_on parts.volumes) parts.sets)

-- the disks of a set that is taken apart, and of a group
abbrev pub set_parts : HeldSet → SetDisks
set_parts s = record {
  slot = s.slot;
  kind = s.chunks.kind;
  master = s.master;
  shadow = s.chunks.shadow;
  bitmap = s.chunks.areas.disk;
  over = None;
}

abbrev pub parts_of : IiDisks → PartDisks
parts_of g = record { state = g.state; volumes = g.volumes; sets = map set_parts g.sets; overs = [] }
