-- Blocks of the shadow that are written in the slots of their chunks.
use Rattle.std.proofs.Common.{◌≡◌, ◌≢◌, ◌⊎◌, inl, inr, ℕ, ◌+◌, ◌-◌, ◌*◌, ◌/◌, ◌%◌, ◌<◌, ◌≤◌, cond, eqb, List, length, Option, Some, None, is_some, IsTrue, Result, Ok, Err, refl, sym, ◌∙◌, ap, subst, arith}
use Rattle.std.proofs.lemmas.Bool.{cases_lt, cases_eq, false≢true}
use Rattle.std.proofs.lemmas.Result.{on_ok_weaker, on_err_weaker}
use Rattle.avs_seg.specs.declared.fault.Failed.{Failed}
use Rattle.avs_seg.specs.Image.{Image, Block, block_at, put, range, blocks_of, IsMix}
use Rattle.avs_seg.proofs.Blocks.{block_at_past, block_at-tabulate, length-tabulate, same_images}
use Rattle.avs_seg.proofs.Bytes.{length-blocks_of}
use Rattle.avs_seg.proofs.Puts.{length-put, put_none, put_inside, put_outside}
use Rattle.avs_seg.proofs.Mixes.{mix_more}
use Rattle.avs_seg.proofs.Ranges.{put_more, length-range}
use Rattle.avs_dev.specs.Seen.{Seen, IsTold}
use Rattle.avs_dev.specs.Devices.{AllGoOn}
use Rattle.avs_dev.proofs.Going.{all_then, all_same, all_err}
use Rattle.avs_flip.specs.Areas.{live}
use Rattle.avs_over.specs.Slots.{Owners, owner_at}
use Rattle.avs_over.specs.Over.{OverSet, slot_from}
use Rattle.avs_entries.specs.Entries.{state_by, slot_by, entry_on}
use Rattle.avs_entries.proofs.Counted.{cond_is, cond_not}
use Rattle.avs_compact.specs.CompactSet.{CompactSet, disk_of, entry_of, disk_entry, chunks_of, in_slot, shadow_by, master_by, shadow_image, master_image}
use Rattle.avs_compact.specs.Disks.{CompactDisk, Shadow, Over, disk_at, Adds}
use Rattle.avs_compact.specs.Work.{slot_work, put_work}
use Rattle.avs_compact.specs.Calls.{AreThere, IsKnown}
use Rattle.avs_compact.specs.Places.{ArePlaced, OnlyTakes, KeepsOver}
use Rattle.avs_compact.specs.Steps.{WritesOne}
use Rattle.avs_compact.specs.Keeping.{IsPlaced}
use Rattle.avs_compact.specs.Writing.{AreSplit, PutsBlocks, PutsShadow}
use Rattle.avs_compact.proofs.Work.{adds_same, adds_as, adds_then, sum_slot, sum_plus, sum_longer}
use Rattle.avs_compact.proofs.Copied.{only_slot, other_slots, over_kept, slot_goes, slot_adds, slot_kept, slot_done, slot_failed}
use Rattle.avs_compact.proofs.Readings.{shadow_at}
use Rattle.avs_compact.proofs.Placed.{only_takes_none}
use Rattle.avs_compact.proofs.Chained.{over_then}

pub master_at : (n own : ℕ) (area s o m : Image) (i : ℕ) → i < n → block_at (master_by n own area s o m) i ≡ cond (eqb (state_by (entry_on area (i / 64))) 3) (in_slot own s o (slot_by (entry_on area (i / 64))) (i % 64)) (block_at m i)
unfolding master_by
master_at n own area s o m i lt = block_at-tabulate _ _ i lt

pub long_shadow : (n own : ℕ) (area s o m : Image) → length (shadow_by n own area s o m) ≡ n
unfolding shadow_by
long_shadow n own area s o m = length-tabulate _ _

pub long_master : (n own : ℕ) (area s o m : Image) → length (master_by n own area s o m) ≡ n
unfolding master_by
long_master n own area s o m = length-tabulate _ _

-- ---- blocks of one chunk

module _ (s : CompactSet) (X : Option Seen) (still : is_some X ≡ is_some s.shadow) (o o' : OverSet) (at : ℕ) (bytes : List ℕ) (some : 0 < length bytes / 512) (fits : at + length bytes / 512 ≤ s.blocks) (one : at % 64 + length bytes / 512 ≤ 64)
    (split : state_by (entry_of s (at / 64)) ≡ 2) {T E : Type 0} (r : Result T E)
    (w : WritesOne (disk_of s.shadow) o s.own (slot_by (entry_of s (at / 64))) (at % 64) bytes r (disk_of X) o')
    (room_s : slot_by (entry_of s (at / 64)) < s.own → 64 * s.own ≤ (disk_of s.shadow).size) (room_o : s.own ≤ slot_by (entry_of s (at / 64)) → slot_from (slot_by (entry_of s (at / 64)) - s.own) + 64 ≤ o.disk.size) where
  abbrev pub after : CompactSet
  after = record s { shadow = X }

  abbrev slot : ℕ
  slot = slot_by (entry_of s (at / 64))

  abbrev len : ℕ
  len = length bytes / 512

  there : at / 64 < chunks_of s
  there = omega (arith, some, fits)

  has : entry_of s (at / 64) ≢ 0
  has z = omega (arith, z, split)

  abbrev old_slot : ℕ → ℕ → Block
  old_slot k i = in_slot s.own (disk_of s.shadow).image o.disk.image k i

  abbrev new_slot : ℕ → ℕ → Block
  new_slot k i = in_slot s.own (disk_of X).image o'.disk.image k i

  module _ (kn : IsKnown s o) (placed : IsPlaced s o) where
    known : (c : ℕ) → c < chunks_of s → entry_of s c ≡ disk_entry s c
    known c lt = kn.step.each c lt

    chunk_in : (i : ℕ) → i < s.blocks → i / 64 < chunks_of s
    chunk_in i lt = omega (arith, lt)

    -- outside of the range every block stands where it stood
    kept : (i : ℕ) → i < s.blocks → (i < at) ⊎ (at + len ≤ i) → disk_entry s (i / 64) ≢ 0 → new_slot (slot_by (disk_entry s (i / 64))) (i % 64) ≡ old_slot (slot_by (disk_entry s (i / 64))) (i % 64)
    kept i lt out touched = elim (cases_eq (i / 64) (at / 64)) [
      | inl is ↦
          let e : slot_by (disk_entry s (i / 64)) ≡ slot = ap (λ (c : ℕ). slot_by (disk_entry s c)) is ∙ ap slot_by (sym (known (at / 64) there)) in
          ap (λ (k : ℕ). new_slot k (i % 64)) e
          ∙ slot_kept (disk_of s.shadow) (disk_of X) o o' s.own slot (at % 64) bytes r w one kn.shadow kn.over (i % 64) (beside i is out)
          ∙ ap (λ (k : ℕ). old_slot k (i % 64)) (sym e)
      | inr ne ↦
          let k = known (i / 64) (chunk_in i lt) in
          (other_slots (disk_of s.shadow) (disk_of X) o o' s.own slot (at % 64) bytes r w one kn.shadow kn.over).each (slot_by (disk_entry s (i / 64))) (i % 64) (omega arith)
          (λ z. placed.apart (at / 64) (i / 64) there (chunk_in i lt) (λ e. ne (sym e)) has (λ e. touched (sym k ∙ e)) (ap slot_by k ∙ z))
    ]
      where
        beside : (j : ℕ) → j / 64 ≡ at / 64 → (j < at) ⊎ (at + len ≤ j) → (j % 64 < at % 64) ⊎ (at % 64 + len ≤ j % 64)
        beside j is (inl low) = inl (omega (arith, is, low))
        beside j is (inr high) = inr (omega (arith, is, high, one))

    inside_chunk : (i : ℕ) → at ≤ i → i < at + len → i / 64 ≡ at / 64
    inside_chunk i low high = omega (arith, low, high, one)

    entry_in_range : (i : ℕ) → at ≤ i → i < at + len → disk_entry s (i / 64) ≡ entry_of s (at / 64)
    entry_in_range i low high = ap (λ (c : ℕ). disk_entry s c) (inside_chunk i low high) ∙ sym (known (at / 64) there)

    module _ (m : Image) where
      shadow_now : (i : ℕ) → i < s.blocks → block_at (shadow_image after o' m) i ≡ cond (eqb (disk_entry s (i / 64)) 0) (block_at m i) (new_slot (slot_by (disk_entry s (i / 64))) (i % 64))
      shadow_now i lt = shadow_at s.blocks s.own (live s.areas) (disk_of X).image o'.disk.image m i lt

      shadow_was : (i : ℕ) → i < s.blocks → block_at (shadow_image s o m) i ≡ cond (eqb (disk_entry s (i / 64)) 0) (block_at m i) (old_slot (slot_by (disk_entry s (i / 64))) (i % 64))
      shadow_was i lt = shadow_at s.blocks s.own (live s.areas) (disk_of s.shadow).image o.disk.image m i lt

      long : length (shadow_image s o m) ≡ s.blocks
      long = long_shadow s.blocks s.own (live s.areas) (disk_of s.shadow).image o.disk.image m

      long_now : length (shadow_image after o' m) ≡ s.blocks
      long_now = long_shadow s.blocks s.own (live s.areas) (disk_of X).image o'.disk.image m

      outside : (i : ℕ) → i < s.blocks → (i < at) ⊎ (at + len ≤ i) → block_at (shadow_image after o' m) i ≡ block_at (shadow_image s o m) i
      outside i lt out = shadow_now i lt ∙ elim (cases_eq (disk_entry s (i / 64)) 0) [
        | inl e ↦ cond_is _ 0 _ _ e ∙ sym (cond_is _ 0 _ _ e)
        | inr ne ↦ cond_not _ 0 _ _ ne ∙ kept i lt out ne ∙ sym (cond_not _ 0 _ _ ne)
      ] ∙ sym (shadow_was i lt)

      -- what a block of the range is, by what stands in the slot
      range_now : (i : ℕ) → i < s.blocks → at ≤ i → i < at + len → block_at (shadow_image after o' m) i ≡ new_slot slot (at % 64 + (i - at))
      range_now i lt low high =
          let e = entry_in_range i low high in
          let j : i % 64 ≡ at % 64 + (i - at) = omega (arith, low, high, one) in
          shadow_now i lt
          ∙ cond_not _ 0 _ _ (λ z. has (sym e ∙ z))
          ∙ ap (λ (k : ℕ). new_slot (slot_by k) (i % 64)) e
          ∙ ap (λ (k : ℕ). new_slot slot k) j

      range_was : (i : ℕ) → i < s.blocks → at ≤ i → i < at + len → block_at (shadow_image s o m) i ≡ old_slot slot (at % 64 + (i - at))
      range_was i lt low high =
          let e = entry_in_range i low high in
          let j : i % 64 ≡ at % 64 + (i - at) = omega (arith, low, high, one) in
          shadow_was i lt
          ∙ cond_not _ 0 _ _ (λ z. has (sym e ∙ z))
          ∙ ap (λ (k : ℕ). old_slot (slot_by k) (i % 64)) e
          ∙ ap (λ (k : ℕ). old_slot slot k) j

      state_split : (i : ℕ) → at ≤ i → i < at + len → state_by (disk_entry s (i / 64)) ≡ 2
      state_split i low high = ap state_by (entry_in_range i low high) ∙ split

      in_range : (i : ℕ) → ((at ≤ i) × (i < at + len)) ⊎ ((i < at) ⊎ (at + len ≤ i))
      in_range i = elim (cases_lt i at) [
        | inl low ↦ inr (inl low)
        | inr from ↦ elim (cases_lt i (at + len)) [ inl high ↦ inl (from, high) | inr past ↦ inr (inr past) ]
      ]

      -- what stands in a slot alone, or is the same on both, is not touched
      kept_state : (k i : ℕ) → i < s.blocks → state_by (disk_entry s (i / 64)) ≡ k → k ≢ 2 → k ≢ 0 → new_slot (slot_by (disk_entry s (i / 64))) (i % 64) ≡ old_slot (slot_by (disk_entry s (i / 64))) (i % 64)
      kept_state k i lt is no_2 no_0 = elim (in_range i) [
        | inl inside ↦ absurd (no_2 (sym is ∙ state_split i inside.0 inside.1))
        | inr out ↦ kept i lt out (λ z. no_0 (sym is ∙ zero_is (disk_entry s (i / 64)) z))
      ]
        where
          zero_is : (e : ℕ) → e ≡ 0 → state_by e ≡ 0
          zero_is e z = omega (arith, z)

      master_same : master_image after o' m ≡ master_image s o m
      master_same = same_images (master_image after o' m) (master_image s o m) (long_a ∙ sym long_b) (λ i below. (let lt : i < s.blocks = omega (arith, below, long_a) in
          master_at s.blocks s.own (live s.areas) (disk_of X).image o'.disk.image m i lt
          ∙ elim (cases_eq (state_by (disk_entry s (i / 64))) 3) [
            | inl e ↦ cond_is _ 3 _ _ e ∙ kept_state 3 i lt e (λ z. omega (arith, z)) (λ z. omega (arith, z)) ∙ sym (cond_is _ 3 _ _ e)
            | inr ne ↦ cond_not _ 3 _ _ ne ∙ sym (cond_not _ 3 _ _ ne)
          ]
          ∙ sym (master_at s.blocks s.own (live s.areas) (disk_of s.shadow).image o.disk.image m i lt)))
        where
          long_a : length (master_image after o' m) ≡ s.blocks
          long_a = long_master s.blocks s.own (live s.areas) (disk_of X).image o'.disk.image m

          long_b : length (master_image s o m) ≡ s.blocks
          long_b = long_master s.blocks s.own (live s.areas) (disk_of s.shadow).image o.disk.image m

      done_image : ((i : ℕ) → i < len → new_slot slot (at % 64 + i) ≡ block_at (blocks_of bytes) i) → shadow_image after o' m ≡ put (shadow_image s o m) at (blocks_of bytes)
      done_image written = same_images (shadow_image after o' m) (put (shadow_image s o m) at (blocks_of bytes)) (long_now ∙ sym (length-put _ _ _ ∙ long)) (λ i below. (let lt : i < s.blocks = omega (arith, below, long_now) in elim (in_range i) [
        | inl inside ↦
            range_now i lt inside.0 inside.1
            ∙ written (i - at) (omega (arith, inside.0, inside.1))
            ∙ sym (put_inside (shadow_image s o m) at (blocks_of bytes) i inside.0 (omega (arith, inside.1, length-blocks_of bytes)) (omega (arith, lt, long)))
        | inr out ↦ outside i lt out ∙ sym (put_outside (shadow_image s o m) at (blocks_of bytes) i (wide i out))
      ]))
        where
          wide : (i : ℕ) → (i < at) ⊎ (at + len ≤ i) → (i < at) ⊎ (at + length (blocks_of bytes) ≤ i)
          wide i (inl low) = inl low
          wide i (inr high) = inr (omega (arith, high, length-blocks_of bytes))

      mix_image : ((i : ℕ) → i < len → (new_slot slot (at % 64 + i) ≡ old_slot slot (at % 64 + i)) ⊎ (new_slot slot (at % 64 + i) ≡ block_at (blocks_of bytes) i)) → IsMix (shadow_image s o m) at (blocks_of bytes) (shadow_image after o' m)
      mix_image either = record {
        same_length = long_now ∙ sym long;
        outside = λ i out. elim (cases_lt i s.blocks) [
          | inl lt ↦ outside i lt (narrow i out)
          | inr past ↦ block_at_past (shadow_image after o' m) i (omega (arith, past, long_now)) ∙ sym (block_at_past (shadow_image s o m) i (omega (arith, past, long)))
        ];
        inside = λ i low high.
            let high' : i < at + len = omega (arith, high, length-blocks_of bytes) in
            let lt : i < s.blocks = omega (arith, high', fits) in
            elim (either (i - at) (omega (arith, low, high'))) [
              | inl same ↦ inl (range_now i lt low high' ∙ same ∙ sym (range_was i lt low high'))
              | inr set ↦ inr (range_now i lt low high' ∙ set)
            ];
      }
        where
          narrow : (i : ℕ) → (i < at) ⊎ (at + length (blocks_of bytes) ≤ i) → (i < at) ⊎ (at + len ≤ i)
          narrow i (inl low) = inl low
          narrow i (inr high) = inr (omega (arith, high, length-blocks_of bytes))

      pub puts_blocks : PutsBlocks s o m at (blocks_of bytes) r after o'
      puts_blocks = record {
        master = master_same;
        alike = λ a. record { same = λ i lt is. kept_state 1 i lt is (λ z. omega (arith, z)) (λ z. omega (arith, z)) ∙ a.same i lt is };
        done = on_ok_weaker r done_image (slot_done (disk_of s.shadow) (disk_of X) o o' s.own slot (at % 64) bytes r w one kn.shadow kn.over room_s room_o);
        stopped = on_err_weaker r mix_image (slot_failed (disk_of s.shadow) (disk_of X) o o' s.own slot (at % 64) bytes r w one kn.shadow kn.over);
      }

  -- what was written of the slots of an overflow volume
  owners_kept : o'.owners ≡ o.owners
  owners_kept = ap (λ (z : OverSet). z.owners) (over_kept (disk_of s.shadow) (disk_of X) o o' s.own slot (at % 64) bytes r w one)

  keeps_over : IsPlaced s o → IsTold o.disk → KeepsOver s.set o o'
  keeps_over placed told =
      let only = only_slot (disk_of s.shadow) (disk_of X) o o' s.own slot (at % 64) bytes r w one told in
      record {
        label = only.label;
        slots = λ k i lt ne. only.others k i lt (λ e.
            let past : s.own ≤ slot = omega (arith, e) in
            let here : k ≡ slot - s.own = omega (arith, e) in
            ne (ap (λ (l : Owners). owner_at l k) owners_kept ∙ ap (λ (j : ℕ). owner_at o.owners j) here ∙ placed.mine (at / 64) there has past));
      }

  go : (m : Seen) → AllGoOn (disk_at s o m) r (disk_at after o' m)
  go m = slot_goes (disk_of s.shadow) (disk_of X) o o' s.own slot (at % 64) bytes r w one m s.areas.disk

  pub puts_part : PutsShadow s o at (blocks_of bytes) r after o'
  puts_part = record {
    is = refl;
    there = still;
    owners = over_kept (disk_of s.shadow) (disk_of X) o o' s.own slot (at % 64) bytes r w one;
    goes = go;
    over = keeps_over;
    blocks = λ kn placed m. puts_blocks kn placed m;
    known = λ kn. record {
      shadow = ((go s.areas.disk).lasts Shadow).told kn.shadow;
      bitmap = kn.bitmap;
      over = ((go s.areas.disk).lasts Over).told kn.over;
      step = record { each = kn.step.each };
    };
    work = λ m. adds_as (disk_at s o m) (disk_at after o' m) (slot_work s.own slot len) (put_work s at (length (blocks_of bytes))) r (λ d. sym (put_slot d))
        (slot_adds (disk_of s.shadow) (disk_of X) o o' s.own slot (at % 64) bytes r w one some m m s.areas.disk refl);
  }
    where
      put_slot : (d : CompactDisk) → put_work s at (length (blocks_of bytes)) d ≡ slot_work s.own slot len d
      put_slot d = ap (λ (n : ℕ). put_work s at n d) (length-blocks_of bytes)
          ∙ sum_slot s.own slot at len (λ i. slot_by (entry_of s (i / 64))) d (λ i low high. ap (λ (c : ℕ). slot_by (entry_of s c)) (let e : i / 64 ≡ at / 64 = omega (arith, low, high, one) in e))

-- ---- chunk by chunk

pub puts_none : (s : CompactSet) (o : OverSet) (at : ℕ) (bs : Image) → PutsShadow {T = Unit {0}} {E = Failed} s o at (range bs 0 0) (Ok tt) s o
puts_none s o at bs = record {
  is = refl;
  there = refl;
  owners = refl;
  goes = λ m. all_same (disk_at s o m) tt;
  over = λ placed told. record { label = refl; slots = λ k i lt ne. refl };
  blocks = λ kn placed m. record {
    master = refl;
    alike = λ a. a;
    done = sym (put_none (shadow_image s o m) at (range bs 0 0) (length-range bs 0 0));
    stopped = tt;
  };
  known = λ kn. kn;
  work = λ m. adds_same (disk_at s o m) (put_work s at (length (range bs 0 0))) tt (λ d. ap (λ (n : ℕ). put_work s at n d) (length-range bs 0 0));
}

module _ (a b d : CompactSet) (o o1 o2 : OverSet) (at i n : ℕ) (bs : Image) (fits : i + n ≤ length bs) (inside : at + length bs ≤ a.blocks)
    (p : PutsShadow {T = Unit {0}} {E = Failed} a o at (range bs 0 i) (Ok tt) b o1) where
  blocks_b : b.blocks ≡ a.blocks
  blocks_b = ap (λ (x : CompactSet). x.blocks) p.is

  own_b : o1.owners ≡ o.owners
  own_b = ap (λ (z : OverSet). z.owners) p.owners

  pub placed_b : IsPlaced a o → IsPlaced b o1
  placed_b placed = subst (λ (x : CompactSet). IsPlaced x o1) (sym p.is) (subst (λ (l : Owners). ArePlaced (entry_of a) a.own (chunks_of a) a.set l) (sym own_b) placed)

  is_then : {T E : Type 0} (r : Result T E) (at' : ℕ) (cs : Image) → PutsShadow b o1 at' cs r d o2 → d ≡ record a { shadow = d.shadow }
  is_then r at' cs q = q.is ∙ ap (λ (x : CompactSet). record x { shadow = d.shadow }) p.is

  owners_then : {T E : Type 0} (r : Result T E) (at' : ℕ) (cs : Image) → PutsShadow b o1 at' cs r d o2 → o2 ≡ record o { disk = o2.disk }
  owners_then r at' cs q = q.owners ∙ ap (λ (z : OverSet). record z { disk = o2.disk }) p.owners

  set_b : b.set ≡ a.set
  set_b = ap (λ (x : CompactSet). x.set) p.is

  over_both : {T E : Type 0} (r : Result T E) (at' : ℕ) (cs : Image) → PutsShadow b o1 at' cs r d o2 → IsPlaced a o → IsTold o.disk → KeepsOver a.set o o2
  over_both r at' cs q placed told =
      let same : o2.owners ≡ o1.owners = ap (λ (z : OverSet). z.owners) q.owners in
      over_then a.set b.set o o1 o2 set_b (subst (λ (l : Owners). OnlyTakes b.set o1.owners l) (sym same) (only_takes_none b.set o1.owners))
      (p.over placed told) (q.over (placed_b placed) (((p.goes a.areas.disk).lasts Over).told told))

  long_image : (m : Image) → length (shadow_image a o m) ≡ a.blocks
  long_image m = long_shadow a.blocks a.own (live a.areas) (disk_of a.shadow).image o.disk.image m

  -- the blocks of both
  put_both : (e : CompactDisk) → put_work a at (length (range bs 0 i)) e + put_work b (at + i) (length (range bs i n)) e ≡ put_work a at (i + n) e
  put_both e =
      let f = ap (λ (k : ℕ). put_work a at k e) (length-range bs 0 i) in
      let h : put_work b (at + i) (length (range bs i n)) e ≡ put_work a (at + i) n e = ap (λ (x : CompactSet). put_work x (at + i) (length (range bs i n)) e) p.is ∙ ap (λ (k : ℕ). put_work a (at + i) k e) (length-range bs i n) in
      omega (arith, f, h, sum_plus (λ j. slot_work a.own (slot_by (entry_of a (j / 64))) 1 e) at i n)

  adds_both : {T E : Type 0} (r : Result T E) → PutsShadow b o1 (at + i) (range bs i n) r d o2 → (m : Seen) → Adds (disk_at a o m) (put_work a at (i + n)) r (disk_at d o2 m)
  adds_both r q m = adds_as (disk_at a o m) (disk_at d o2 m) (λ e. put_work a at (length (range bs 0 i)) e + put_work b (at + i) (length (range bs i n)) e) (put_work a at (i + n)) r put_both
      (adds_then (disk_at a o m) (disk_at b o1 m) (disk_at d o2 m) (put_work a at (length (range bs 0 i))) (put_work b (at + i) (length (range bs i n))) tt r (p.work m) (q.work m))

  pub puts_more : (r : Result (Unit {0}) Failed) → r ≡ Ok tt → PutsShadow b o1 (at + i) (range bs i n) r d o2 → PutsShadow {T = Unit {0}} {E = Failed} a o at (range bs 0 (i + n)) (Ok tt) d o2
  puts_more r is one =
      let q = subst (λ (z : Result (Unit {0}) Failed). PutsShadow b o1 (at + i) (range bs i n) z d o2) is one in
      record {
        is = is_then (Ok tt) (at + i) (range bs i n) q;
        there = q.there ∙ p.there;
        owners = owners_then (Ok tt) (at + i) (range bs i n) q;
        goes = λ m. all_then (disk_at a o m) (disk_at b o1 m) (disk_at d o2 m) tt (Ok tt) (p.goes m) (q.goes m);
        over = over_both (Ok tt) (at + i) (range bs i n) q;
        blocks = λ kn placed m.
            let f = p.blocks kn placed m in
            let h = q.blocks (p.known kn) (placed_b placed) m in
            record {
              master = h.master ∙ f.master;
              alike = λ al. h.alike (f.alike al);
              done = h.done ∙ ap (λ (l : Image). put l (at + i) (range bs i n)) f.done ∙ put_more (shadow_image a o m) bs at i n;
              stopped = tt;
            };
        known = λ kn. q.known (p.known kn);
        work = λ m. subst (λ (k : ℕ). Adds {E = Failed} (disk_at a o m) (put_work a at k) (Ok tt) (disk_at d o2 m)) (sym (length-range bs 0 (i + n))) (adds_both (Ok tt) q m);
      }

  pub puts_fail : {T : Type 0} (e : Failed) (r : Result (Unit {0}) Failed) → r ≡ Err e → PutsShadow b o1 (at + i) (range bs i n) r d o2 → PutsShadow {T = T} a o at bs (Err e) d o2
  puts_fail e r is one =
      let q = subst (λ (z : Result (Unit {0}) Failed). PutsShadow b o1 (at + i) (range bs i n) z d o2) is one in
      record {
        is = is_then (Err e) (at + i) (range bs i n) q;
        there = q.there ∙ p.there;
        owners = owners_then (Err e) (at + i) (range bs i n) q;
        goes = λ m. all_then (disk_at a o m) (disk_at b o1 m) (disk_at d o2 m) tt (Err e) (p.goes m) (all_err (disk_at b o1 m) (disk_at d o2 m) e e (q.goes m));
        over = over_both (Err e) (at + i) (range bs i n) q;
        blocks = λ kn placed m.
            let f = p.blocks kn placed m in
            let h = q.blocks (p.known kn) (placed_b placed) m in
            record {
              master = h.master ∙ f.master;
              alike = λ al. h.alike (f.alike al);
              done = tt;
              stopped = mix_more (shadow_image a o m) bs (shadow_image d o2 m) at i n fits (omega (arith, inside, long_image m))
                  (subst (λ (l : Image). IsMix l (at + i) (range bs i n) (shadow_image d o2 m)) f.done h.stopped);
            };
        known = λ kn. q.known (p.known kn);
        work = λ m. record { done = tt; most = λ k. omega (arith, (adds_both (Err e) q m).most k, sum_longer (λ j. slot_work a.own (slot_by (entry_of a (j / 64))) 1 k) at (i + n) (length bs) fits) };
      }

-- the disk that is there has room
pub size_there : (n : ℕ) (X : Option Seen) → IsTrue (is_some X) → ((d : Seen) → X ≡ Some d → n ≤ d.size) → n ≤ (disk_of X).size
size_there n None is room = absurd (false≢true is)
size_there n (Some d) is room = room d refl

-- the first chunk of a range is split
pub first_split : (s : CompactSet) (at len : ℕ) → 0 < len → AreSplit s at len → state_by (entry_of s (at / 64)) ≡ 2
first_split s at len some split = (let e : at + 0 ≡ at = omega arith in subst (λ (k : ℕ). state_by (entry_of s (k / 64)) ≡ 2) e (split.each 0 some))

-- a part of a range whose chunks are split
pub part_split : (a b : CompactSet) (o o1 : OverSet) (at i n len : ℕ) (bs cs : Image) {T E : Type 0} (r : Result T E) → PutsShadow a o at cs r b o1 → i + n ≤ len → AreSplit a at len → AreSplit b (at + i) n
part_split a b o o1 at i n len bs cs r p fits split = record {
  each = λ j lt.
      let e : at + (i + j) ≡ at + i + j = omega arith in
      ap (λ (x : CompactSet). state_by (entry_of x ((at + i + j) / 64))) p.is
      ∙ subst (λ (k : ℕ). state_by (entry_of a (k / 64)) ≡ 2) e (split.each (i + j) (omega (arith, lt, fits)));
}

-- the slots are there still
pub there_then : (a b : CompactSet) (o o1 : OverSet) (at : ℕ) (cs : Image) {T E : Type 0} (r : Result T E) → PutsShadow a o at cs r b o1 → AreThere a o → AreThere b o1
there_then a b o o1 at cs r p t = subst (λ (s : CompactSet). AreThere s o1) (sym p.is) (record { each = λ c lt some past. (let low = t.each c lt some past in let k = ap (λ (z : OverSet). length z.owners) p.owners in omega (arith, low, k)) })
