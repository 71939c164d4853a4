use Rattle.std.proofs.Common.{◌≡◌, ◌+◌, ◌≤◌, ◌++◌, map, reverse, vec_len, vec_capacity}
use Rattle.avs_sync.specs.Parts.{mirror_set}
use Rattle.avs_halves.specs.SetBits.{part_of}
use Rattle.avs_halves.specs.MirrorView.{set_bits}
use Rattle.avs_halves.proofs.loading.close_all.Given as goal

abbrev pub invariant-loop-set : goal.invariant-loop-set
invariant-loop-set g l = record {
  room : vec_len l.parts + vec_len l.sets ≤ vec_capacity l.parts;
  whole : map part_of (map set_bits l.sets.items) ++ reverse (map (mirror_set g.D.Disk.seen) l.parts.items) ≡ map part_of (map set_bits l.initial.sets.items) ++ reverse (map (mirror_set g.D.Disk.seen) l.initial.parts.items);
}

abbrev pub decreases-loop-set : goal.decreases-loop-set
decreases-loop-set g l = vec_len l.sets
