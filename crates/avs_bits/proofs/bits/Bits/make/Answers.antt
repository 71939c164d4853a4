use Rattle.std.proofs.Common.{◌≡◌, ◌≤◌, ◌*◌, ℕ, length, subst, refl, ap, sym, ◌∙◌, arith}
use Rattle.std.specs.Prelude.{nat_lt}
use Rattle.avs_seg.specs.Image.{Block}
use Rattle.avs_code.specs.Label.{IsLabel}
use Rattle.avs_bits.specs.BitSet.{place, blocks_for, bitmap_label, IsClean}
use Rattle.avs_bits.proofs.SomeBits.{range-written, first_is, held_shown, on_disk}
use Rattle.avs_bits.specs.Bit.{bit_of}
use Rattle.avs_bits.proofs.Stops.{zeros_of}
use Rattle.avs_bits.proofs.bits.Bits.make.Goals as goal

pub returns-in-Ok-write-clause-label : goal.returns-in-Ok-write-clause-label
returns-in-Ok-write-clause-label g c told =
    let bytes = c.fill_bytes.new.bytes.items in
    let after = (g.D.Disk.seen c.write.new.self).image in
    let len : length bytes ≡ 512 * blocks_for c.seg_count-segs.result = c.fill_bytes.ensures.len ∙ ap (λ (n : ℕ). 512 * blocks_for n) (sym c.seg_count-segs.ensures) in
    let fits : blocks_for c.seg_count-segs.result ≤ (g.D.Disk.seen c.args.disk).size = c.in-Ok.ensures.fits in
    let done = rw c.in-Ok-write.is at (c.write.ensures.done told) in
    let shown = range-written (g.D.Disk.seen c.args.disk).image after bytes _ (omega (arith, len, fits, told)) c.deref.ensures.value done in
    subst (λ (b : Block). IsLabel b (bitmap_label (nat_lt 0 c.args.stamp) c.args.blocks c.args.stamp)) (sym (first_is after bytes shown (omega (arith, len)))) c.fill_bytes.ensures.label

pub returns-in-Ok-write-clause-zeros : goal.returns-in-Ok-write-clause-zeros
returns-in-Ok-write-clause-zeros g c told =
    let bytes = c.fill_bytes.new.bytes.items in
    let segs = c.seg_count-segs.result in
    let after = (g.D.Disk.seen c.write.new.self).image in
    let len : length bytes ≡ 512 * blocks_for segs = c.fill_bytes.ensures.len ∙ ap (λ (n : ℕ). 512 * blocks_for n) (sym c.seg_count-segs.ensures) in
    let fits : blocks_for segs ≤ (g.D.Disk.seen c.args.disk).size = c.in-Ok.ensures.fits in
    let done = rw c.in-Ok-write.is at (c.write.ensures.done told) in
    let shown = range-written (g.D.Disk.seen c.args.disk).image after bytes _ (omega (arith, len, fits, told)) c.deref.ensures.value done in
    let clean : IsClean bytes segs = subst (λ (n : ℕ). IsClean bytes n) (sym c.seg_count-segs.ensures) c.fill_bytes.ensures.clean in
    zeros_of after segs bytes (bit_of bytes) clean (λ p past. refl) (held_shown after bytes shown (4096 * blocks_for segs) (omega (arith, len)) (omega (arith, len)))

pub returns-in-Ok-write-clause-step : goal.returns-in-Ok-write-clause-step
returns-in-Ok-write-clause-step g c told =
    let bytes = c.fill_bytes.new.bytes.items in
    let segs = c.seg_count-segs.result in
    let after = (g.D.Disk.seen c.write.new.self).image in
    let len : length bytes ≡ 512 * blocks_for c.seg_count-segs.result = c.fill_bytes.ensures.len ∙ ap (λ (n : ℕ). 512 * blocks_for n) (sym c.seg_count-segs.ensures) in
    let fits : blocks_for c.seg_count-segs.result ≤ (g.D.Disk.seen c.args.disk).size = c.in-Ok.ensures.fits in
    let done = rw c.in-Ok-write.is at (c.write.ensures.done told) in
    let shown = range-written (g.D.Disk.seen c.args.disk).image after bytes _ (omega (arith, len, fits, told)) c.deref.ensures.value done in
    on_disk after segs bytes (held_shown after bytes shown (place segs) (omega (arith, len)) (omega (arith, len)))
