-- A write to the shadow: its chunks are saved, and then its range is written.
use Rattle.std.proofs.Common.{◌≡◌, inr, ℕ, ◌+◌, ◌-◌, ◌*◌, ◌/◌, ◌<◌, ◌≤◌, List, length, Option, is_some, IsTrue, Some, None, Result, Ok, Err, refl, sym, ◌∙◌, ap, subst, arith}
use Rattle.std.proofs.lemmas.Bool.{false≢true}
use Rattle.std.proofs.lemmas.Result.{on_ok_weaker, on_err_weaker}
use Rattle.avs_seg.specs.Image.{Image, put, blocks_of, IsMix}
use Rattle.avs_seg.specs.Segment.{first_segment, touch_count}
use Rattle.avs_seg.proofs.Bytes.{length-blocks_of}
use Rattle.avs_seg.proofs.Mixes.{IsMix-same}
use Rattle.avs_dev.specs.Seen.{Seen, IsTold, Writes}
use Rattle.avs_dev.proofs.Going.{all_then, all_err}
use Rattle.avs_flip.specs.Areas.{live}
use Rattle.avs_chunks.specs.States.{state_on, Splits, SplitsFirst}
use Rattle.avs_chunks.specs.ChunkSet.{ChunkSet, shadow_by, master_by, disk_of, disk_state, chunks_of, shadow_image, master_image, IsKnown}
use Rattle.avs_chunks.specs.Disks.{ChunkDisk, Master, Shadow, Bitmap, disk_at, raised, Adds, range_work, write_work}
use Rattle.avs_chunks.specs.Calls.{KeepsBlocks, AreSplit, PutsImage, PutsShadow}
use Rattle.avs_chunks.specs.Writing.{SavesRange, chunks_end, WritesShadow}
use Rattle.avs_chunks.proofs.Going.{each_disk, shadow_goes, raised-some}
use Rattle.avs_chunks.proofs.Images.{same_shadow, same_master, shadow-put, shadow-mix, master-kept, alike-kept}
use Rattle.avs_chunks.proofs.Chained.{adds_then, adds_as, adds_wider}

-- both images are kept where their blocks are
shadow_kept : (a b : ChunkSet) (m m' : Image) → b.blocks ≡ a.blocks → KeepsBlocks a m b m' → shadow_image b m' ≡ shadow_image a m
shadow_kept a b m m' blocks kept = ap (λ (n : ℕ). shadow_by n (live b.areas) (disk_of b.shadow).image m') blocks ∙ same_shadow a.blocks (live a.areas) (disk_of a.shadow).image m (live b.areas) (disk_of b.shadow).image m' kept.shadow

master_kept : (a b : ChunkSet) (m m' : Image) → b.blocks ≡ a.blocks → KeepsBlocks a m b m' → master_image b m' ≡ master_image a m
master_kept a b m m' blocks kept = ap (λ (n : ℕ). master_by n (live b.areas) (disk_of b.shadow).image m') blocks ∙ same_master a.blocks (live a.areas) (disk_of a.shadow).image m (live b.areas) (disk_of b.shadow).image m' kept.master

-- blocks are written on the shadow's disk in chunks that are split there
module _ (s : ChunkSet) (X : Option Seen) (at : ℕ) (bytes : List ℕ) (fits : at + length bytes / 512 ≤ s.blocks) where
  module _ (all : (i : ℕ) → at ≤ i → i < at + length bytes / 512 → state_on (live s.areas) (i / 64) ≡ 2) (long : s.blocks ≤ length (disk_of s.shadow).image) (told : IsTold (disk_of s.shadow)) (m : Image) where
    pub puts_image : {T E : Type 0} (r : Result T E) → Writes (disk_of s.shadow) at bytes r (disk_of X) → PutsImage s m at (blocks_of bytes) r (record s { shadow = X })
    puts_image r w = record {
      master = master-kept s.blocks (live s.areas) m (disk_of s.shadow).image at (length bytes / 512) all fits (disk_of X).image (w.within told);
      alike = λ al. record {
        same = λ i lt one. alike-kept s.blocks (live s.areas) m (disk_of s.shadow).image at (length bytes / 512) all fits (disk_of X).image (w.within told) i one ∙ al.same i lt one;
      };
      done = on_ok_weaker r (λ done.
          ap (λ (l : Image). shadow_by s.blocks (live s.areas) l m) done
          ∙ shadow-put s.blocks (live s.areas) m (disk_of s.shadow).image at (length bytes / 512) all fits (blocks_of bytes) (length-blocks_of bytes) long) (w.done told);
      stopped = on_err_weaker r (λ mix. shadow-mix s.blocks (live s.areas) m (disk_of s.shadow).image at (length bytes / 512) all fits (blocks_of bytes) (disk_of X).image (length-blocks_of bytes) mix) (w.failed told);
    }

  -- by the memory, which is in step
  split_there : IsKnown s → AreSplit s at (length bytes / 512) → (i : ℕ) → at ≤ i → i < at + length bytes / 512 → state_on (live s.areas) (i / 64) ≡ 2
  split_there kn all i low high = sym (kn.step.each (i / 64) (omega (arith, high, fits))) ∙ all.each (i / 64) (omega (arith, low)) (omega (arith, high))

  pub puts_shadow : {T E : Type 0} (r : Result T E) → is_some X ≡ is_some s.shadow → s.blocks ≤ (disk_of s.shadow).size → Writes (disk_of s.shadow) at bytes r (disk_of X) → PutsShadow s at bytes r (record s { shadow = X })
  puts_shadow r still room w = record {
    rest = refl;
    there = still;
    writes = w;
    behind = λ told. record { behind = λ i past. (w.within told).outside i (inr (omega (arith, fits, past))) };
    known = λ kn. record { shadow = w.told kn.shadow; bitmap = kn.bitmap; step = record { each = kn.step.each } };
    seen = λ kn all m. puts_image (split_there kn all) (omega (arith, room, kn.shadow)) kn.shadow m r w;
  }

module _ (a b : ChunkSet) (m m' : Seen) (at : ℕ) (bytes : List ℕ) (some : 0 < length bytes) (whole : 512 * (length bytes / 512) ≡ length bytes) (fits : at + length bytes / 512 ≤ a.blocks) where
  same_end : chunks_end at (length (blocks_of bytes)) ≡ chunks_end at (length bytes / 512)
  same_end = ap (λ (n : ℕ). chunks_end at n) (length-blocks_of bytes)

  more : (d : ChunkDisk) → range_work a (first_segment at) (chunks_end at (length bytes / 512) - first_segment at) d ≤ write_work a (first_segment at) (touch_count at (length bytes / 512)) (length bytes / 512) d
  more = each_disk (λ d. range_work a (first_segment at) (chunks_end at (length bytes / 512) - first_segment at) d ≤ write_work a (first_segment at) (touch_count at (length bytes / 512)) (length bytes / 512) d) (omega arith) (omega arith) (omega arith)

  -- not all chunks were saved
  pub writes_saves : {T T' E E' : Type 0} (e : E) (e' : E') (q : Result T' E') → q ≡ Err e' → SavesRange a m (first_segment at) (chunks_end at (length bytes / 512)) q b m' → WritesShadow {T = T} a m at bytes (Err e) b m'
  writes_saves {T' = T'} {E' = E'} e e' q is saved =
      let p = subst (λ (r : Result T' E'). SavesRange a m (first_segment at) (chunks_end at (length bytes / 512)) r b m') is saved in
      record {
        shape = p.keeps.shape;
        goes = all_err (disk_at a m) (disk_at b m') e' e p.keeps.goes;
        bitmap = p.keeps.bitmap;
        behind = p.keeps.behind;
        master = λ kn td. record { image = master_kept a b m.image m'.image p.keeps.shape.blocks (p.keeps.blocks kn td); alike = (p.keeps.blocks kn td).alike };
        done = λ kn td. tt;
        stopped = λ kn td.
            let image = shadow_kept a b m.image m'.image p.keeps.shape.blocks (p.keeps.blocks kn td) in
            record {
              saved = subst (λ (k : ℕ). SplitsFirst (disk_state a) (disk_state b) (chunks_of a) (first_segment at) k) (sym same_end) (p.stopped kn);
              before = λ _. image;
              mix = subst (λ (l : Image). IsMix (shadow_image a m.image) at (blocks_of bytes) l) (sym image) (IsMix-same (shadow_image a m.image) at (blocks_of bytes));
            };
        adds = adds_wider {T' = T'} (disk_at a m) (disk_at b m') (range_work a (first_segment at) (chunks_end at (length bytes / 512) - first_segment at)) (write_work a (first_segment at) (touch_count at (length bytes / 512)) (length bytes / 512)) e more (record { done = tt; most = p.adds.most });
      }

  module _ (X : Option Seen) (still : is_some X ≡ is_some b.shadow) (room : a.blocks ≤ (disk_of b.shadow).size) {T' E' : Type 0} (x : T') (p : SavesRange {E = E'} a m (first_segment at) (chunks_end at (length bytes / 512)) (Ok x) b m') where
    abbrev pub written : ChunkSet
    written = record b { shadow = X }

    all_split : IsKnown a → (i : ℕ) → at ≤ i → i < at + length bytes / 512 → state_on (live b.areas) (i / 64) ≡ 2
    all_split kn i low high = (p.done kn).inside (i / 64) (omega (arith, high, fits)) (omega (arith, low)) (omega (arith, high))

    fits_b : at + length bytes / 512 ≤ b.blocks
    fits_b = omega (arith, fits, p.keeps.shape.blocks)

    told_b : IsKnown a → IsTold (disk_of b.shadow)
    told_b kn = (p.keeps.goes.lasts Shadow).told kn.shadow

    long_b : IsKnown a → b.blocks ≤ length (disk_of b.shadow).image
    long_b kn = omega (arith, room, told_b kn, p.keeps.shape.blocks)

    image : IsKnown a → IsTold m → shadow_image b m'.image ≡ shadow_image a m.image
    image kn td = shadow_kept a b m.image m'.image p.keeps.shape.blocks (p.keeps.blocks kn td)

    puts : {T E : Type 0} → IsKnown a → (r : Result T E) → Writes (disk_of b.shadow) at bytes r (disk_of X) → PutsImage b m'.image at (blocks_of bytes) r written
    puts kn r w = puts_image b X at bytes fits_b (all_split kn) (long_b kn) (told_b kn) m'.image r w

    abbrev put_work : ChunkDisk → ℕ
    put_work Master = 0
    put_work Shadow = length bytes / 512
    put_work Bitmap = 0

    put_adds : {T E : Type 0} (r : Result T E) → Writes (disk_of b.shadow) at bytes r (disk_of X) → Adds (disk_at b m') put_work r (disk_at written m')
    put_adds (Ok y) w = record {
      done = each_disk (λ d. (disk_at written m' d).written ≡ raised (disk_at b m' d).written (put_work d)) refl (w.counted ∙ sym (raised-some (disk_of b.shadow).written (length bytes / 512) (omega (arith, some, whole)))) refl;
      most = tt;
    }
    put_adds (Err e) w = record {
      done = tt;
      most = each_disk (λ d. (disk_at written m' d).written ≤ (disk_at b m' d).written + put_work d) (omega arith) (omega (arith, w.uncounted)) (omega arith);
    }

    work_is : (d : ChunkDisk) → range_work a (first_segment at) (chunks_end at (length bytes / 512) - first_segment at) d + put_work d ≡ write_work a (first_segment at) (touch_count at (length bytes / 512)) (length bytes / 512) d
    work_is = each_disk (λ d. range_work a (first_segment at) (chunks_end at (length bytes / 512) - first_segment at) d + put_work d ≡ write_work a (first_segment at) (touch_count at (length bytes / 512)) (length bytes / 512) d) (omega arith) (omega arith) (omega arith)

    pub writes_put : {T E : Type 0} (r : Result T E) → Writes (disk_of b.shadow) at bytes r (disk_of X) → WritesShadow a m at bytes r written m'
    writes_put r w = record {
      shape = record { kind = p.keeps.shape.kind; blocks = p.keeps.shape.blocks; there = still ∙ p.keeps.shape.there; first = p.keeps.shape.first; len = p.keeps.shape.len; live_b = p.keeps.shape.live_b; next = p.keeps.shape.next };
      goes = all_then (disk_at a m) (disk_at b m') (disk_at written m') x r p.keeps.goes (shadow_goes m' (disk_of b.shadow) (disk_of X) b.areas.disk r w.goes);
      bitmap = λ told. let k = p.keeps.bitmap told in record { label = k.label; staged = k.staged; clean = λ zeros. record { each = (k.clean zeros).each } };
      behind = λ told. record {
        behind = λ i past. (w.within ((p.keeps.goes.lasts Shadow).told told)).outside i (inr (omega (arith, fits, past))) ∙ (p.keeps.behind told).behind i past;
      };
      master = λ kn td.
          let put = puts kn r w in
          record {
            image = put.master ∙ master_kept a b m.image m'.image p.keeps.shape.blocks (p.keeps.blocks kn td);
            alike = λ al. record { same = λ i lt one. (put.alike (record { same = λ j lt' one'. ((p.keeps.blocks kn td).alike al).same j (omega (arith, lt', p.keeps.shape.blocks)) one' })).same i (omega (arith, lt, p.keeps.shape.blocks)) one };
          };
      done = λ kn td. on_ok_weaker r (λ done. record {
        image = done ∙ ap (λ (l : Image). put l at (blocks_of bytes)) (image kn td);
        split = subst (λ (k : ℕ). Splits (disk_state a) (disk_state written) (chunks_of a) (first_segment at) k) (sym same_end) (p.done kn);
        known = record { shadow = w.told (told_b kn); bitmap = (p.known kn).bitmap; step = record { each = (p.known kn).step.each } };
      }) (puts kn r w).done;
      stopped = λ kn td. on_err_weaker r (λ mix. record {
        saved = record { upto = chunks_end at (length (blocks_of bytes)); low = omega (arith, same_end); high = omega arith; splits = subst (λ (k : ℕ). Splits (disk_state a) (disk_state written) (chunks_of a) (first_segment at) k) (sym same_end) (p.done kn) };
        before = λ less. absurd (never less);
        mix = subst (λ (l : Image). IsMix l at (blocks_of bytes) (shadow_image written m'.image)) (image kn td) mix;
      }) (puts kn r w).stopped;
      adds = adds_as (disk_at a m) (disk_at written m') (λ d. range_work a (first_segment at) (chunks_end at (length bytes / 512) - first_segment at) d + put_work d) (write_work a (first_segment at) (touch_count at (length bytes / 512)) (length bytes / 512)) r work_is
          (adds_then (disk_at a m) (disk_at b m') (disk_at written m') (range_work a (first_segment at) (chunks_end at (length bytes / 512) - first_segment at)) put_work x r p.adds (put_adds r w));
    }
      where
        never : {k : ℕ} → k < k → ⊥
        never {k} less = omega arith

-- the disk that is there has room
pub room_there : (X : Option Seen) (n : ℕ) → IsTrue (is_some X) → ((d : Seen) → X ≡ Some d → n ≤ d.size) → n ≤ (disk_of X).size
room_there None n there room = absurd (false≢true there)
room_there (Some d) n there room = room d refl
