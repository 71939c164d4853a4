use Rattle.std.proofs.Common.{◌≡◌, ◌-◌, ◌≤◌}
use Rattle.avs_dev.specs.Seen.{IsTold}
use Rattle.avs_seg.proofs.Fills.{ShowsFirst}
use Rattle.avs_chunks.specs.ChunkSet.{shadow_image, IsKnown}
use Rattle.avs_chunks.proofs.chunks.Chunks.read.Given as goal

abbrev pub invariant-loop-done : goal.invariant-loop-done
invariant-loop-done g l =
    let before = g.D.Disk.seen l.fn.master in
    record {
      within : l.done ≤ l.count;
      set : l.self ≡ l.fn.self;
      master : g.D.Disk.seen l.master ≡ before;
      shows : IsKnown l.fn.self → IsTold before → ShowsFirst (shadow_image l.fn.self before.image) l.at l.out l.done;
    }

abbrev pub decreases-loop-done : goal.decreases-loop-done
decreases-loop-done g l = l.count - l.done
