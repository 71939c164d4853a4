use Rattle.std.proofs.Common.{◌≡◌, ◌+◌, ◌≤◌, ◌++◌, map, reverse, vec_len, vec_capacity}
use Rattle.std.specs.List.{All}
use Rattle.avs_sync.specs.Parts.{mirror_set}
use Rattle.avs_halves.specs.SetBits.{part_of}
use Rattle.avs_halves.specs.MirrorView.{set_bits}
use Rattle.avs_halves.specs.Loading.{HasVolume, OpensSet}
use Rattle.avs_halves.proofs.loading.open_all.Given as goal

abbrev pub invariant-loop-part : goal.invariant-loop-part
invariant-loop-part g l = record {
  room : vec_len l.parts + vec_len l.sets ≤ vec_capacity l.parts;
  place : vec_len l.parts + vec_len l.sets ≤ vec_capacity l.sets;
  whole : map part_of (map set_bits l.sets.items) ++ reverse (map (mirror_set g.D.Disk.seen) l.parts.items) ≡ reverse (map (mirror_set g.D.Disk.seen) l.initial.parts.items);
  volumes : All (HasVolume (g.B.Below.seen l.below).sizes) (map (mirror_set g.D.Disk.seen) l.parts.items);
  opened : All (λ s. OpensSet (g.B.Below.seen l.below).sizes (part_of s) s) (map set_bits l.sets.items);
}

abbrev pub decreases-loop-part : goal.decreases-loop-part
decreases-loop-part g l = vec_len l.parts
