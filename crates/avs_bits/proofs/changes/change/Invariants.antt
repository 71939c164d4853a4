use Rattle.std.proofs.Common.{◌≡◌, ◌≤◌, ◌+◌, ◌-◌, ◌*◌, ◌/◌, ◌<◌, min, ℕ, false, Ok, length}
use Rattle.avs_seg.specs.Image.{block_at, ChangesWithin}
use Rattle.avs_dev.specs.Seen.{IsTold, GoesOn}
use Rattle.avs_bits.specs.Bit.{bit_of, is_due, due_below, raised, IsPut, IsHeld}
use Rattle.avs_bits.proofs.changes.change.Given as goal

abbrev pub invariant-loop-block : goal.invariant-loop-block
invariant-loop-block g l =
    let before = g.D.Disk.seen l.fn.disk in
    let now = g.D.Disk.seen l.disk in
    record {
      len : length l.bytes.items ≡ length l.fn.bytes.items;
      size : now.size ≡ before.size;
      steady : now.steady ≡ before.steady;
      told : IsTold before → IsTold now;
      later : before.faults ≤ now.faults;
      goes : GoesOn {T = ℕ} {E = ℕ} before (Ok 0) now;
      within : IsTold before → ChangesWithin (l.from / 4096) ((l.to + 4095) / 4096 - l.from / 4096) before.image now.image;
      still : IsTold before → (k : ℕ) → is_due (bit_of l.fn.bytes.items) l.from l.to l.on k ≡ false → block_at now.image k ≡ block_at before.image k;
      written : now.written ≡ raised before.written (due_below (bit_of l.fn.bytes.items) l.from l.to l.on l.block);
      armed : now.armed ≡ before.armed;
      idle : ((p : ℕ) → l.from ≤ p → p < l.to → bit_of l.fn.bytes.items p ≡ l.on) → (now ≡ before) × (l.bytes.items ≡ l.fn.bytes.items);
      put : IsPut (bit_of l.fn.bytes.items) (bit_of l.bytes.items) l.from (min (4096 * l.block) l.to) l.on;
      held : IsTold before → (n : ℕ) → IsHeld before.image n (bit_of l.fn.bytes.items) → IsHeld now.image n (bit_of l.bytes.items);
    }
