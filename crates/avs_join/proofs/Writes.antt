-- A write to an import: its bits, and then its blocks.
use Rattle.std.proofs.Common.{◌≡◌, ◌≢◌, ◌⊎◌, inl, inr, ℕ, ◌+◌, ◌-◌, ◌/◌, ◌≤◌, true, List, length, Result, Ok, Err, refl, sym, ◌∙◌, ap, subst, arith}
use Rattle.avs_seg.specs.Image.{Block, Image, block_at, blocks_of, is_inside, ChangesWithin}
use Rattle.avs_seg.specs.Segment.{seg_count, first_segment, touch_count, touch}
use Rattle.avs_seg.proofs.Bytes.{length-blocks_of}
use Rattle.avs_dev.specs.Seen.{Seen, IsTold, IsRange, Writes}
use Rattle.avs_dev.specs.Devices.{AllGoOn, raised}
use Rattle.avs_dev.proofs.Going.{all_go, all_then, all_err}
use Rattle.avs_code.specs.Label.{label_at}
use Rattle.avs_bits.specs.BitSet.{BitSet, Changes, IsInStep, IsOnDisk, HoldsPart, set_of}
use Rattle.avs_model.specs.ShadowSets.{chunks_among, together}
use Rattle.avs_model.specs.HostStages.{ArePartly}
use Rattle.avs_join.specs.Imported.{ImportDisks, import_of, segments_on, IsKnown, marked, Covers}
use Rattle.avs_join.specs.Writing.{ImportDisk, Volume, Bitmap, disk_at, KeepsImport, MarksInPart, WritesImport, write_work}
use Rattle.avs_join.proofs.Marks.{all_marked, some_marked, covers_part, covers_all}
use Rattle.avs_join.proofs.Works.{raised_some, raised_most, raised_within, due_within}

volume_or : (d : ImportDisk) → (d ≡ Volume) ⊎ (d ≢ Volume)
volume_or Volume = inl refl
volume_or Bitmap = inr (λ e. cc)

bitmap_or : (d : ImportDisk) → (d ≡ Bitmap) ⊎ (d ≢ Bitmap)
bitmap_or Volume = inr (λ e. cc)
bitmap_or Bitmap = inl refl

module _ (old : ImportDisks) (at : ℕ) (bytes : List ℕ) (segs : old.bits.segs ≡ seg_count old.volume.size) (range : IsRange old.volume at (length bytes)) (bits : BitSet) where
  abbrev count : ℕ
  count = length bytes / 512

  abbrev first : ℕ
  first = first_segment at

  abbrev touched : ℕ
  touched = touch_count at count

  inside : first + touched ≤ seg_count old.volume.size
  inside = omega (arith, range.inside, range.some, range.whole)

  held : (b : BitSet) → b.segs ≡ old.bits.segs → IsInStep b → IsOnDisk b.disk.image (seg_count old.volume.size) (set_of b)
  held b same step = subst (λ (n : ℕ). IsOnDisk b.disk.image n (set_of b)) (same ∙ segs) step

  as_blocks : touch at count ≡ touch at (length (blocks_of bytes))
  as_blocks = ap (λ (n : ℕ). touch at n) (sym (length-blocks_of bytes))

  module _ {T E : Type 0} (result : Result T E) (c : Changes old.bits first (first + touched) true result bits) where
    keeps : (volume : Seen) → volume.size ≡ old.volume.size → KeepsImport old (record { volume = volume; bits = bits })
    keeps volume size = record {
      size = size;
      segs = c.segs;
      stamp = c.stamp;
      readable = λ r. record {
        told = c.told r.told;
        label = rw (c.label r.told, size, c.stamp) r.label;
      };
      zeros = c.zeros;
    }

    stamp_same : IsTold old.bits.disk → (label_at (block_at bits.disk.image 0)).stamp ≡ (label_at (block_at old.bits.disk.image 0)).stamp
    stamp_same told = ap (λ (b : Block). (label_at b).stamp) (c.label told)

  -- ---- the bits were not all marked

  pub bits_failed : {T E T' E' : Type 0} (e : E) (e' : E') → Changes {T = T} old.bits first (first + touched) true (Err e) bits → WritesImport {T = T'} old at bytes (Err e') (record { volume = old.volume; bits = bits })
  bits_failed {T} {E} e e' c =
      let new : ImportDisks = record { volume = old.volume; bits = bits } in
      let part : IsKnown old → MarksInPart (import_of old) at (blocks_of bytes) (import_of new) = λ known. record {
        image = refl;
        stamp = stamp_same (Err e) c known.readable.told;
        segments = subst (λ (l : List ℕ). ArePartly (import_of old).segments (chunks_among l) (import_of new).segments) as_blocks (marks known);
      } in
      record {
        goes = all_err (disk_at old) (disk_at new) e e' (all_go (disk_at old) (disk_at new) Bitmap bitmap_or other (Err e) c.goes);
        keeps = keeps (Err e) c old.volume refl;
        done = λ told known. tt;
        stopped = λ told known. inl (part known);
        known = λ known. tt;
        covers = λ told known base was. covers_part base (import_of old) (import_of new) was at (blocks_of bytes) refl (part known).segments;
        adds = record { done = tt; most = most };
      }
    where
      other : (d : ImportDisk) → d ≢ Bitmap → disk_at (record { volume = old.volume; bits = bits }) d ≡ disk_at old d
      other Volume apart = refl
      other Bitmap apart = absurd (apart refl)

      rest : first + touched - first ≡ touched
      rest = omega arith

      marks : IsKnown old → ArePartly (segments_on old.volume.size old.bits.disk.image) (chunks_among (touch at count)) (segments_on old.volume.size bits.disk.image)
      marks known =
          let part = c.part.disk known.readable.told known.step in
          let in_range = subst (λ (n : ℕ). HoldsPart (is_inside first n) true (set_of old.bits) bits.disk.image old.bits.segs) rest part in
          some_marked old.volume.size old.bits.disk.image bits.disk.image (set_of old.bits) at count inside (held old.bits refl known.step) (subst (λ (n : ℕ). HoldsPart (is_inside first touched) true (set_of old.bits) bits.disk.image n) segs in_range)

      most : (d : ImportDisk) → (disk_at (record { volume = old.volume; bits = bits }) d).written ≤ (disk_at old d).written + write_work old at count d
      most Volume = omega arith
      most Bitmap = let is = c.stopped.written in omega (arith, is, raised_within old.bits.disk.written _ _ (due_within (set_of old.bits) first (first + touched) true c.stopped.block c.stopped.due))

  -- ---- they were, and then the blocks were written, or not all of them

  module _ {T E : Type 0} (x : T) (c : Changes {T = T} {E = E} old.bits first (first + touched) true (Ok x) bits) (volume : Seen) where
    abbrev new : ImportDisks
    new = record { volume = volume; bits = bits }

    abbrev mid : ImportDisks
    mid = record { volume = old.volume; bits = bits }

    marks : IsKnown old → volume.size ≡ old.volume.size → (import_of new).segments ≡ marked (import_of old) at (blocks_of bytes)
    marks known size =
        ap (λ (n : ℕ). segments_on n bits.disk.image) size
        ∙ all_marked old.volume.size old.bits.disk.image bits.disk.image (set_of old.bits) at count inside (held old.bits refl known.step) (set_of bits) c.set (held bits c.segs (c.done known.readable.told known.step))
        ∙ ap (λ (l : List ℕ). together (chunks_among l) (import_of old).segments) as_blocks

    goes : {T' E' : Type 0} (r : Result T' E') → Writes old.volume at bytes r volume → AllGoOn (disk_at old) r (disk_at new)
    goes r w = all_then (disk_at old) (disk_at mid) (disk_at new) x r (all_go (disk_at old) (disk_at mid) Bitmap bitmap_or first_other (Ok x) c.goes) (all_go (disk_at mid) (disk_at new) Volume volume_or then_other r w.goes)
      where
        first_other : (d : ImportDisk) → d ≢ Bitmap → disk_at mid d ≡ disk_at old d
        first_other Volume apart = refl
        first_other Bitmap apart = absurd (apart refl)

        then_other : (d : ImportDisk) → d ≢ Volume → disk_at new d ≡ disk_at mid d
        then_other Volume apart = absurd (apart refl)
        then_other Bitmap apart = refl

    covers : {T' E' : Type 0} (r : Result T' E') → Writes old.volume at bytes r volume → IsTold old.volume → IsKnown old → (base : Image) → Covers base (import_of old) → Covers base (import_of new)
    covers r w told known base was = covers_all base (import_of old) (import_of new) was at (blocks_of bytes) (subst (λ (n : ℕ). ChangesWithin at n old.volume.image volume.image) (sym (length-blocks_of bytes)) (w.within told)) (marks known w.size)

    bits_written : bits.disk.written ≤ old.bits.disk.written + write_work old at count Bitmap
    bits_written = let is = c.written in omega (arith, is, raised_most old.bits.disk.written (write_work old at count Bitmap))

    pub blocks_written : {T' E' : Type 0} (r : Result T' E') → Writes old.volume at bytes r volume → WritesImport old at bytes r new
    blocks_written (Ok y) w = record {
      goes = goes (Ok y) w;
      keeps = keeps (Ok x) c volume w.size;
      done = λ told known p. record { image = w.done told p; stamp = stamp_same (Ok x) c known.readable.told p; segments = marks known w.size p };
      stopped = λ told known. tt;
      known = λ known. record { readable = (keeps (Ok x) c volume w.size).readable known.readable; step = c.done known.readable.told known.step };
      covers = covers (Ok y) w;
      adds = record { done = adds; most = tt };
    }
      where
        adds : (d : ImportDisk) → (disk_at new d).written ≡ raised (disk_at old d).written (write_work old at count d)
        adds Volume = w.counted ∙ sym (raised_some old.volume.written count (omega (arith, range.some, range.whole)))
        adds Bitmap = c.written
    blocks_written (Err e) w = record {
      goes = goes (Err e) w;
      keeps = keeps (Ok x) c volume w.size;
      done = λ told known. tt;
      stopped = λ told known. inr (record { image = w.failed told; stamp = stamp_same (Ok x) c known.readable.told; segments = marks known w.size });
      known = λ known. tt;
      covers = covers (Err e) w;
      adds = record { done = tt; most = most };
    }
      where
        most : (d : ImportDisk) → (disk_at new d).written ≤ (disk_at old d).written + write_work old at count d
        most Volume = let same = w.uncounted in omega (arith, same)
        most Bitmap = bits_written
