-- A write to the shadow: its chunks are saved, and then its range is written.
use Rattle.std.proofs.Common.{◌≡◌, inl, inr, ℕ, ◌+◌, ◌/◌, ◌<◌, ◌≤◌, List, length, is_some, Result, Ok, Err, refl, sym, ◌∙◌, ap, subst, arith}
use Rattle.std.proofs.lemmas.Bool.{cases_lt}
use Rattle.avs_seg.specs.declared.fault.Failed.{Failed as DiskFailed}
use Rattle.avs_seg.specs.Image.{Image, put, blocks_of, IsMix}
use Rattle.avs_seg.specs.Segment.{first_segment, touch_count, seg_len}
use Rattle.avs_seg.proofs.Exits.{ok_exit, err_exit}
use Rattle.avs_seg.proofs.Blocks.{same_images}
use Rattle.avs_seg.proofs.Bytes.{length-blocks_of}
use Rattle.avs_seg.proofs.Mixes.{IsMix-same}
use Rattle.avs_dev.specs.Seen.{Seen, IsTold}
use Rattle.avs_dev.specs.Devices.{AllGoOn}
use Rattle.avs_dev.proofs.Going.{all_then, all_err}
use Rattle.avs_flip.specs.Areas.{live}
use Rattle.avs_over.specs.Slots.{Owners}
use Rattle.avs_over.specs.Over.{OverSet}
use Rattle.avs_entries.specs.Entries.{state_by, slot_by}
use Rattle.avs_compact.specs.declared.fault.CompactFault.{CompactFault}
use Rattle.avs_compact.specs.declared.fault.CompactFault.TheVariants.{Failed}
use Rattle.avs_compact.specs.CompactSet.{CompactSet, disk_of, entry_of, disk_entry, chunks_of, shadow_image, master_image, room_of}
use Rattle.avs_compact.specs.Disks.{CompactDisk, Over, disk_at, Adds}
use Rattle.avs_compact.specs.Work.{AddsUpTo, save_work, save_most, saved_work, saved_most, put_work, write_work, write_most}
use Rattle.avs_compact.specs.Calls.{AreThere, IsKnown}
use Rattle.avs_compact.specs.Places.{ArePlaced, OnlyTakes, Splits, SplitsFirst}
use Rattle.avs_compact.specs.Keeping.{IsPlaced, OwnFirst, UsesOwnFirst, KeepsBitmap, KeepsBlocks, KeepsSlots, CountsSlots}
use Rattle.avs_compact.specs.Saving.{SavesAll, SavesRange, lacking, need_with}
use Rattle.avs_compact.specs.Writing.{AreSplit, PutsShadow, KeepsWritten, WritesRange, WritesShadow}
use Rattle.avs_compact.proofs.Work.{up_to, up_to_as, up_to_then, save_less, sum_below, sum_most}
use Rattle.avs_compact.proofs.Placed.{only_takes_none}
use Rattle.avs_compact.proofs.Readings.{shadow_at}
use Rattle.avs_compact.proofs.Chained.{slots_then, over_then}
use Rattle.avs_compact.proofs.Written.{master_at, long_shadow, long_master}

-- both images are kept where their blocks are
shadow_kept : (a b : CompactSet) (o o1 : OverSet) (m m1 : Image) → b.blocks ≡ a.blocks → KeepsBlocks a o m b o1 m1 → shadow_image b o1 m1 ≡ shadow_image a o m
shadow_kept a b o o1 m m1 blocks kept = same_images (shadow_image b o1 m1) (shadow_image a o m) (long_b ∙ blocks ∙ sym long_a) (λ i below.
    let lt : i < b.blocks = omega (arith, below, long_b) in
    let lt' : i < a.blocks = omega (arith, lt, blocks) in
    shadow_at b.blocks b.own (live b.areas) (disk_of b.shadow).image o1.disk.image m1 i lt ∙ kept.shadow i lt' ∙ sym (shadow_at a.blocks a.own (live a.areas) (disk_of a.shadow).image o.disk.image m i lt'))
  where
    long_b : length (shadow_image b o1 m1) ≡ b.blocks
    long_b = long_shadow b.blocks b.own (live b.areas) (disk_of b.shadow).image o1.disk.image m1

    long_a : length (shadow_image a o m) ≡ a.blocks
    long_a = long_shadow a.blocks a.own (live a.areas) (disk_of a.shadow).image o.disk.image m

master_kept : (a b : CompactSet) (o o1 : OverSet) (m m1 : Image) → b.blocks ≡ a.blocks → KeepsBlocks a o m b o1 m1 → master_image b o1 m1 ≡ master_image a o m
master_kept a b o o1 m m1 blocks kept = same_images (master_image b o1 m1) (master_image a o m) (long_b ∙ blocks ∙ sym long_a) (λ i below.
    let lt : i < b.blocks = omega (arith, below, long_b) in
    let lt' : i < a.blocks = omega (arith, lt, blocks) in
    master_at b.blocks b.own (live b.areas) (disk_of b.shadow).image o1.disk.image m1 i lt ∙ kept.master i lt' ∙ sym (master_at a.blocks a.own (live a.areas) (disk_of a.shadow).image o.disk.image m i lt'))
  where
    long_b : length (master_image b o1 m1) ≡ b.blocks
    long_b = long_master b.blocks b.own (live b.areas) (disk_of b.shadow).image o1.disk.image m1

    long_a : length (master_image a o m) ≡ a.blocks
    long_a = long_master a.blocks a.own (live a.areas) (disk_of a.shadow).image o.disk.image m

abbrev first : ℕ → ℕ
first at = first_segment at

abbrev count : ℕ → List ℕ → ℕ
count at bytes = touch_count at (length bytes / 512)

module _ (a b : CompactSet) (o o1 : OverSet) (m m1 : Seen) (at : ℕ) (bytes : List ℕ) where
  same_end : first at + count at bytes ≡ first at + touch_count at (length (blocks_of bytes))
  same_end = ap (λ (n : ℕ). first at + touch_count at n) (sym (length-blocks_of bytes))

  kept_err : {T : Type 0} (e : CompactFault) → SavesAll {T = T} a o m (first at) (count at bytes) (Err e) b o1 m1 → WritesRange {T = T} a o m at bytes (Err e) b o1 m1
  kept_err e p = record {
    keeps = record {
      shape = p.keeps.shape;
      goes = p.keeps.goes;
      bitmap = p.keeps.bitmap;
      slots = p.keeps.slots;
      over = p.keeps.over;
      master = λ kn placed td. record { image = master_kept a b o o1 m.image m1.image p.keeps.shape.blocks (p.keeps.blocks kn placed td); alike = (p.keeps.blocks kn placed td).alike };
      own_first = p.keeps.own_first;
    };
    done = λ kn placed td. tt;
    stopped = λ kn placed td.
        let image = shadow_kept a b o o1 m.image m1.image p.keeps.shape.blocks (p.keeps.blocks kn placed td) in
        record {
          saved = subst (λ (k : ℕ). SplitsFirst (disk_entry a) (disk_entry b) (chunks_of a) (first at) k) same_end (p.stopped kn);
          before = λ _. image;
          mix = subst (λ (l : Image). IsMix (shadow_image a o m.image) at (blocks_of bytes) l) (sym image) (IsMix-same (shadow_image a o m.image) at (blocks_of bytes));
        };
    known = λ kn. tt;
    counts = tt;
    work = record { done = tt; stopped = λ k. omega (arith, p.work.stopped k) };
  }

  pub writes_unsaved : (e : CompactFault) (q : Result (Unit {0}) CompactFault) → q ≡ Err e → SavesRange a o m (first at) (count at bytes) q b o1 m1 → WritesShadow {T = Unit {0}} a o m at bytes (Err e) b o1 m1
  writes_unsaved e q is saved =
      let p = subst (λ (r : Result (Unit {0}) CompactFault). SavesRange a o m (first at) (count at bytes) r b o1 m1) is saved in
      record { refuses = p.refuses; writes = λ room. kept_err e (p.saves room); cause = p.cause }

  module _ (x : Unit {0}) (q : Result (Unit {0}) CompactFault) (is_ok : q ≡ Ok x) (saved : SavesRange a o m (first at) (count at bytes) q b o1 m1) where
    range_saved : SavesRange a o m (first at) (count at bytes) (Ok x) b o1 m1
    range_saved = subst (λ (r : Result (Unit {0}) CompactFault). SavesRange a o m (first at) (count at bytes) r b o1 m1) is_ok saved

    -- there was room
    room : need_with a (first at) (count at bytes) ≤ room_of a o
    room = elim (cases_lt (room_of a o) (need_with a (first at) (count at bytes))) [
      | inl less ↦ absurd ((range_saved.refuses less).refused)
      | inr enough ↦ enough
    ]

    p : SavesAll {E = CompactFault} a o m (first at) (count at bytes) (Ok x) b o1 m1
    p = range_saved.saves room

    pub blocks_b : b.blocks ≡ a.blocks
    blocks_b = p.keeps.shape.blocks

    pub still_b : is_some b.shadow ≡ is_some a.shadow
    still_b = p.keeps.shape.there

    -- the chunks of the range are split in memory
    pub split_b : 0 < length bytes / 512 → at + length bytes / 512 ≤ a.blocks → AreSplit b at (length bytes / 512)
    split_b some fits = record { each = λ i lt. p.memory.inside ((at + i) / 64) (omega (arith, lt, fits)) (omega arith) (omega (arith, lt)) }

    pub there_b : AreThere a o → AreThere b o1
    there_b t = p.keeps.slots.there t

    module _ (d : CompactSet) (o2 : OverSet) {T E : Type 0} (r : Result T E) (w : PutsShadow b o1 at (blocks_of bytes) r d o2) where
      owners_same : o2.owners ≡ o1.owners
      owners_same = ap (λ (z : OverSet). z.owners) w.owners

      slots_put : KeepsSlots b o1 d o2
      slots_put = record {
        there = λ t. subst (λ (s : CompactSet). AreThere s o2) (sym w.is) (record { each = λ c lt some past. (let low = t.each c lt some past in let k = ap length owners_same in omega (arith, low, k)) });
        placed = λ t. subst (λ (s : CompactSet). IsPlaced s o2) (sym w.is) (subst (λ (l : Owners). ArePlaced (entry_of b) b.own (chunks_of b) b.set l) (sym owners_same) t);
        own_first = λ u. subst (λ (s : CompactSet). UsesOwnFirst s) (sym w.is) u;
        owners = subst (λ (l : Owners). OnlyTakes b.set o1.owners l) (sym owners_same) (only_takes_none b.set o1.owners);
      }

      areas_same : d.areas ≡ b.areas
      areas_same = ap (λ (s : CompactSet). s.areas) w.is

      counts_put : CountsSlots a o (lacking a (first at) (count at bytes)) d o2
      counts_put = subst (λ (s : CompactSet). CountsSlots a o (lacking a (first at) (count at bytes)) s o2) (sym w.is)
          (subst (λ (z : OverSet). CountsSlots a o (lacking a (first at) (count at bytes)) (record b { shadow = d.shadow }) z) (sym w.owners)
          (record { need = p.counts.need; room = p.counts.room; taken = p.counts.taken }))

      keeps_put : {U H : Type 0} (z : Result U H) → AllGoOn (disk_at a o m) z (disk_at d o2 m1) → KeepsWritten a o m z d o2 m1
      keeps_put z goes = record {
        shape = record {
          set = ap (λ (s : CompactSet). s.set) w.is ∙ p.keeps.shape.set;
          own = ap (λ (s : CompactSet). s.own) w.is ∙ p.keeps.shape.own;
          blocks = ap (λ (s : CompactSet). s.blocks) w.is ∙ p.keeps.shape.blocks;
          there = w.there ∙ p.keeps.shape.there;
          areas = (ap (λ (s : CompactSet). s.areas.first) w.is ∙ p.keeps.shape.areas.0, ap (λ (s : CompactSet). s.areas.len) w.is ∙ p.keeps.shape.areas.1);
          live_b = ap (λ (s : CompactSet). s.areas.live_b) w.is ∙ p.keeps.shape.live_b;
          next = ap (λ (s : CompactSet). s.next) w.is ∙ p.keeps.shape.next;
          ahead = ap (λ (s : CompactSet). s.ahead) w.is ∙ p.keeps.shape.ahead;
        };
        goes = goes;
        bitmap = λ told. subst (λ (s : CompactSet). KeepsBitmap a s) (sym w.is) (let k = p.keeps.bitmap told in record { label = k.label; staged = k.staged; clean = λ zeros. record { each = (k.clean zeros).each } });
        slots = slots_then a b d o o1 o2 p.keeps.shape.set p.keeps.slots slots_put;
        over = λ placed told. over_then a.set b.set o o1 o2 p.keeps.shape.set slots_put.owners (p.keeps.over placed told) (w.over (p.keeps.slots.placed placed) ((p.keeps.goes.lasts Over).told told));
        master = λ kn placed td.
            let kept = p.keeps.blocks kn placed td in
            let puts = w.blocks (p.known kn) (p.keeps.slots.placed placed) m1.image in
            record { image = puts.master ∙ master_kept a b o o1 m.image m1.image p.keeps.shape.blocks kept; alike = λ al. puts.alike (kept.alike al) };
        own_first = λ kn first. subst (λ (s : CompactSet). OwnFirst (disk_entry s) a.own (chunks_of a) a.ahead) (sym w.is) (p.keeps.own_first kn first);
      }

      image_was : IsKnown a o → IsPlaced a o → IsTold m → shadow_image b o1 m1.image ≡ shadow_image a o m.image
      image_was kn placed td = shadow_kept a b o o1 m.image m1.image p.keeps.shape.blocks (p.keeps.blocks kn placed td)

      entries_same : (c : ℕ) → disk_entry d c ≡ disk_entry b c
      entries_same c = ap (λ (s : CompactSet). disk_entry s c) w.is

      splits_put : IsKnown a o → Splits (disk_entry a) (disk_entry d) (chunks_of a) (first at) (first at + touch_count at (length (blocks_of bytes)))
      splits_put kn = subst (λ (s : CompactSet). Splits (disk_entry a) (disk_entry s) (chunks_of a) (first at) (first at + touch_count at (length (blocks_of bytes)))) (sym w.is)
          (subst (λ (k : ℕ). Splits (disk_entry a) (disk_entry b) (chunks_of a) (first at) k) same_end (p.done kn))

    -- the blocks of the chunks, and then those of the range
    work_put : {T E T' E' : Type 0} (d : CompactSet) (o2 : OverSet) (r : Result T E) → PutsShadow b o1 at (blocks_of bytes) r d o2 → (z : Result T' E') → Adds (disk_at b o1 m1) (put_work b at (length (blocks_of bytes))) z (disk_at d o2 m1)
        → AddsUpTo (disk_at a o m) (write_work a d at (length bytes / 512)) (write_most a at (length bytes / 512)) z (disk_at d o2 m1)
    work_put d o2 r w z puts =
        up_to_as (disk_at a o m) (disk_at d o2 m1) (λ k. saved_work a b (first at) (count at bytes) k + put_work b at (length (blocks_of bytes)) k) (write_work a d at (length bytes / 512))
        (λ k. saved_most a (first at) (count at bytes) k + put_work b at (length (blocks_of bytes)) k) (write_most a at (length bytes / 512)) z
        (ok_exit z (λ k. same k)) (err_exit z (λ k. less k))
        (up_to_then (disk_at a o m) (disk_at b o1 m1) (disk_at d o2 m1) (saved_work a b (first at) (count at bytes)) (put_work b at (length (blocks_of bytes))) (saved_most a (first at) (count at bytes)) (put_work b at (length (blocks_of bytes))) x z
        (λ k. sum_below (λ c. save_work a.own (state_by (entry_of a c)) (slot_by (entry_of b c)) (seg_len c a.blocks) k) (λ c. save_most (state_by (entry_of a c)) (seg_len c a.blocks) k) (first at) (count at bytes)
        (λ c. save_less a.own (state_by (entry_of a c)) (slot_by (entry_of b c)) (seg_len c a.blocks) k)) p.work
        (up_to (disk_at b o1 m1) (disk_at d o2 m1) (put_work b at (length (blocks_of bytes))) (put_work b at (length (blocks_of bytes))) z (λ k. omega arith) puts))
      where
        same : (k : CompactDisk) → saved_work a b (first at) (count at bytes) k + put_work b at (length (blocks_of bytes)) k ≡ write_work a d at (length bytes / 512) k
        same k =
            let f : saved_work a d (first at) (count at bytes) k ≡ saved_work a b (first at) (count at bytes) k = ap (λ (s : CompactSet). saved_work a s (first at) (count at bytes) k) w.is in
            let h : put_work d at (length bytes / 512) k ≡ put_work b at (length bytes / 512) k = ap (λ (s : CompactSet). put_work s at (length bytes / 512) k) w.is in
            let j = ap (λ (n : ℕ). put_work b at n k) (length-blocks_of bytes) in
            omega (arith, f, h, j)

        less : (k : CompactDisk) → saved_most a (first at) (count at bytes) k + put_work b at (length (blocks_of bytes)) k ≤ write_most a at (length bytes / 512) k
        less k =
            let j = ap (λ (n : ℕ). put_work b at n k) (length-blocks_of bytes) in
            omega (arith, j, sum_most b.own at (length bytes / 512) (λ i. slot_by (entry_of b (i / 64))) k)

    module _ (d : CompactSet) (o2 : OverSet) where
      pub writes_put : (y : Unit {0}) (r : Result (Unit {0}) DiskFailed) → r ≡ Ok y → PutsShadow b o1 at (blocks_of bytes) r d o2 → WritesShadow {T = Unit {0}} a o m at bytes (Ok tt) d o2 m1
      writes_put y r is written =
          let w = subst (λ (z : Result (Unit {0}) DiskFailed). PutsShadow b o1 at (blocks_of bytes) z d o2) is written in
          record {
            refuses = λ less. absurd (omega (arith, less, room));
            writes = λ _. record {
              keeps = keeps_put d o2 (Ok y) w (Ok tt) (all_then (disk_at a o m) (disk_at b o1 m1) (disk_at d o2 m1) x (Ok tt) p.keeps.goes (let g = w.goes m1 in record { lasts = g.lasts; done = g.done; failed = tt }));
              done = λ kn placed td. record {
                image = (w.blocks (p.known kn) (p.keeps.slots.placed placed) m1.image).done ∙ ap (λ (l : Image). put l at (blocks_of bytes)) (image_was d o2 (Ok y) w kn placed td);
                split = splits_put d o2 (Ok y) w kn;
              };
              stopped = λ kn placed td. tt;
              known = λ kn. w.known (p.known kn);
              counts = counts_put d o2 (Ok y) w;
              work = work_put d o2 (Ok y) w (Ok tt) (let n = w.work m1 in record { done = n.done; most = tt });
            };
            cause = λ _. tt;
          }

      pub writes_torn : (e : DiskFailed) (r : Result (Unit {0}) DiskFailed) → r ≡ Err e → PutsShadow b o1 at (blocks_of bytes) r d o2 → WritesShadow {T = Unit {0}} a o m at bytes (Err Failed) d o2 m1
      writes_torn e r is written =
          let w = subst (λ (z : Result (Unit {0}) DiskFailed). PutsShadow b o1 at (blocks_of bytes) z d o2) is written in
          record {
            refuses = λ less. absurd (omega (arith, less, room));
            writes = λ _. record {
              keeps = keeps_put d o2 (Err e) w (Err Failed) (all_then (disk_at a o m) (disk_at b o1 m1) (disk_at d o2 m1) x (Err Failed) p.keeps.goes (all_err (disk_at b o1 m1) (disk_at d o2 m1) e Failed (w.goes m1)));
              done = λ kn placed td. tt;
              stopped = λ kn placed td. record {
                saved = record { upto = first at + touch_count at (length (blocks_of bytes)); low = omega arith; high = omega arith; splits = splits_put d o2 (Err e) w kn };
                before = λ less. absurd (omega (arith, less));
                mix = subst (λ (l : Image). IsMix l at (blocks_of bytes) (shadow_image d o2 m1.image)) (image_was d o2 (Err e) w kn placed td) (w.blocks (p.known kn) (p.keeps.slots.placed placed) m1.image).stopped;
              };
              known = λ kn. tt;
              counts = tt;
              work = work_put d o2 (Err e) w (Err Failed) (let n = w.work m1 in record { done = tt; most = n.most });
            };
            cause = λ _. refl;
          }
