use Rattle.std.proofs.Common.{◌+◌, ◌-◌, ◌*◌, ◌≤◌, inl, inr, refl, ap, ◌∙◌, arith}
use Rattle.std.proofs.lemmas.Result.{on_ok_weaker, on_err_weaker}
use Rattle.avs_seg.proofs.Exits.{both}
use Rattle.avs_bits.specs.Bit.{bit_of, raised}
use Rattle.avs_bits.specs.BitSet.{BitSet, place, blocks_for}
use Rattle.avs_bits.proofs.SomeBits.{segs_put, segs_on, place_apart, on_disk, held_by}
use Rattle.avs_bits.proofs.Dues.{due_count_shifted, is_due_shifted}
use Rattle.avs_bits.proofs.Stops.{stops_in, idle_set, zeros_held, zeros_of, zeros_stopped}
use Rattle.avs_bits.proofs.Parts.{memory_part, disk_part}
use Rattle.avs_bits.proofs.bits.Bits.change.Goals as goal

pub returns : goal.returns
returns g c = rw (← c.self.view_is) (
    let e = c.change.ensures in
    let old = c.self.inside.bytes.items in
    let new = c.change.new.bytes.items in
    let before = g.D.Disk.seen c.self.inside.disk in
    let now = g.D.Disk.seen c.change.new.disk in
    let segs = c.self.inside.segs in
    let end = c.args.first + c.args.count in
    let segs_is = ap (λ (b : BitSet). b.segs) c.self.view_is in
    let inside : end ≤ segs = omega (arith, segs_is) in
    let old_set : BitSet = record { disk = before; bytes = old; segs = segs; stamp = c.self.inside.stamp } in
    let new_set : BitSet = record { disk = now; bytes = new; segs = segs; stamp = c.self.inside.stamp } in
    let low : end ≤ c.args.first + (end - c.args.first) = omega arith in
    let set = on_ok_weaker c.change.result (segs_put (bit_of old) (bit_of new) c.args.first end (place end) c.args.on refl) e.put in
    let stopped = on_err_weaker c.change.result (stops_in old new c.args.first end c.args.on before now segs c.self.inside.stamp) e.stopped in
    let memory = memory_part old_set new_set c.args.first (end - c.args.first) end c.args.on low c.change.result set stopped in
    record {
      segs = refl;
      stamp = refl;
      size = e.size;
      steady = e.steady;
      cause = e.cause;
      goes = e.goes;
      told = e.told;
      within = e.within;
      label = λ told. (e.within told).outside 0 (inl (omega arith));
      still = λ told k none. e.still told (k + 1) (is_due_shifted (bit_of old) c.args.first end c.args.on k ∙ none);
      zeros = λ told step zeros.
          let held = zeros_held before.image segs old c.self.invariant.clean step zeros in
          both c.change.result
          (on_ok_weaker c.change.result (zeros_of now.image segs old (bit_of new) c.self.invariant.clean (λ p past. e.only p (inr (omega arith)))) (e.done told (4096 * blocks_for segs) held))
          (on_err_weaker c.change.result (zeros_stopped old new c.args.first end c.args.on before now segs inside told c.self.invariant.clean held e.only) e.stopped);
      only = λ s apart. e.only (place s) (place_apart s c.args.first end apart);
      set = set;
      written = on_ok_weaker c.change.result (λ is. is ∙ ap (raised before.written) (due_count_shifted (bit_of old) c.args.first end c.args.on)) e.written;
      still_armed = e.still_armed;
      done = λ told step. on_ok_weaker c.change.result (on_disk now.image segs new) (e.done told (place segs) (held_by before.image segs old step));
      stopped = stopped;
      part = record {
        memory = memory;
        disk = λ told step.
            let done = on_ok_weaker c.change.result (on_disk now.image segs new) (e.done told (place segs) (held_by before.image segs old step)) in
            disk_part old_set new_set c.args.first (end - c.args.first) end c.args.on low refl memory c.change.result done stopped told step;
      };
      spent = e.spent;
      idle = λ all. idle_set old new c.change.result before now segs c.self.inside.stamp (e.idle (segs_on (bit_of old) c.args.first end c.args.on all));
    })
