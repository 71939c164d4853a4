-- A new import.
use Rattle.std.proofs.Common.{◌≡◌, inl, inr, ℕ, ◌*◌, ◌<◌, ◌≤◌, Bool, true, false, Result, Ok, Err, IfOk, refl, sym, ◌∙◌, ap, subst, arith}
use Rattle.std.specs.Prelude.{nat_lt, ◌&&◌}
use Rattle.std.proofs.Math.Path.{fun_ext}
use Rattle.std.proofs.lemmas.Bool.{cases_lt}
use Rattle.avs_seg.specs.Image.{Image, block_at}
use Rattle.avs_seg.specs.Segment.{seg_count}
use Rattle.avs_dev.specs.Seen.{Seen, IsTold}
use Rattle.avs_code.specs.Label.{label_at}
use Rattle.avs_code.specs.declared.labels.Label.{Label}
use Rattle.avs_code.proofs.LabelBlocks.{label_at-is}
use Rattle.avs_bits.specs.Bit.{disk_bit}
use Rattle.avs_bits.specs.BitSet.{place, blocks_for, bitmap_label}
use Rattle.avs_model.specs.Limits.{import_blocks}
use Rattle.avs_model.specs.ShadowSets.{no_chunks}
use Rattle.avs_join.specs.Imported.{ImportDisks, segments_on}
use Rattle.avs_join.specs.Formatting.{IsCleared, IsNewBitmap, Formats}
use Rattle.avs_join.specs.Importing.{IsFormatted, MakesImport, LoadsImport}
use Rattle.avs_join.proofs.Marks.{none_behind}

and_false : (a b : Bool) → b ≡ false → a && b ≡ false
and_false true b is = is
and_false false b is = refl

no_segments : (blocks : ℕ) (bitmap : Image) → IsCleared bitmap blocks → segments_on blocks bitmap ≡ no_chunks
no_segments blocks bitmap clear = fun_ext (λ s. elim (cases_lt s (seg_count blocks)) [
  | inr past ↦ none_behind blocks bitmap s past
  | inl lt ↦ and_false (nat_lt s (seg_count blocks)) (disk_bit bitmap (place s)) (clear.each (place s) (omega arith) (omega arith))
])

module _ {T E : Type 0} (volume bitmap mid : Seen) (stamp : ℕ) (x : T) (fits : import_blocks volume.size ≤ bitmap.size) (f : Formats {T = T} {E = E} bitmap volume.size stamp (Ok x) mid) where
  pub makes : (i : ImportDisks) → LoadsImport volume mid i → MakesImport volume bitmap stamp i
  makes i l = record {
    fits = fits;
    volume_same = l.volume_same;
    segs = l.segs;
    formatted = subst (λ (d : Seen). IsFormatted bitmap volume.size d) (sym l.bitmap_same) (record { lasts = f.goes.lasts; spared = f.goes.done; within = f.within; written = f.counted });
    known = λ told. l.known (f.goes.lasts.told told);
    zeros = λ told. record { each = zeros told };
    state = λ told p. record { image = (l.volume_same p).image; stamp = stamp_is told p; segments = none told p };
  }
    where
      size_is : i.volume.size ≡ volume.size
      size_is = ap (λ (d : Seen). d.size) l.volume_same

      new : IsTold bitmap → IsNewBitmap volume.size stamp i.bits.disk.image
      new told = subst (λ (d : Seen). IsNewBitmap volume.size stamp d.image) (sym l.bitmap_same) (f.done told)

      zeros : IsTold bitmap → (p : ℕ) → place i.bits.segs ≤ p → p < 4096 * blocks_for i.bits.segs → disk_bit i.bits.disk.image p ≡ false
      zeros told p low high = (new told).clear.each p (omega arith) (omega (arith, l.segs, high))

      stamp_is : IsTold bitmap → (label_at (block_at i.bits.disk.image 0)).stamp ≡ stamp
      stamp_is told = ap (λ (x : Label). x.stamp) (label_at-is (block_at i.bits.disk.image 0) (bitmap_label true volume.size stamp) (new told).label)

      none : IsTold bitmap → segments_on i.volume.size i.bits.disk.image ≡ no_chunks
      none told = ap (λ (n : ℕ). segments_on n i.bits.disk.image) size_is ∙ no_segments volume.size i.bits.disk.image (new told).clear

-- what holds of each value holds of that of a result
pub if_ok_more : {T E : Type 0} (P Q : T → Type 0) (r : Result T E) → ((x : T) → P x → Q x) → IfOk r P → IfOk r Q
if_ok_more P Q (Ok x) more p = more x p
if_ok_more P Q (Err e) more p = tt
