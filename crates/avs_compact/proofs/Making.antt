-- A set that is made, and one that is found.
use Rattle.std.proofs.Common.{◌≡◌, ◌≢◌, ℕ, ◌+◌, ◌-◌, ◌*◌, ◌/◌, ◌%◌, ◌^◌, ◌<◌, Bool, false, cond, eqb, List, length, replicate, Option, Some, Result, Ok, refl, sym, ◌∙◌, ap, subst, arith}
use Rattle.avs_seg.specs.Image.{Block, Image, block_at, put}
use Rattle.avs_seg.specs.Segment.{seg_count}
use Rattle.avs_seg.proofs.Blocks.{same_images, length-tabulate, block_at-tabulate, same_place}
use Rattle.avs_seg.proofs.Puts.{put_inside}
use Rattle.avs_seg.proofs.Ranges.{block_at-range}
use Rattle.avs_dev.specs.Seen.{Seen, IsTold}
use Rattle.avs_flip.specs.Areas.{live}
use Rattle.avs_code.specs.Label.{IsLabel}
use Rattle.avs_entries.specs.Entries.{entry_in, entry_on, state_by, slot_by, area_len, blocks_for}
use Rattle.avs_entries.specs.Bitmap.{compact_label, Fits, Formats, HasArea, areas_on, formatted}
use Rattle.avs_entries.specs.Slots.{AreEntries}
use Rattle.avs_entries.proofs.Counted.{cond_is, cond_not}
use Rattle.avs_entries.proofs.Formatting.{length-formatted, zeros_at, entries_none, entry_in-zero_block}
use Rattle.avs_compact.specs.CompactSet.{CompactSet, own_slots, entry_of, disk_entry, shadow_by, master_by, in_slot, HasLabel}
use Rattle.avs_compact.specs.Making.{Makes, Loads, own_of}
use Rattle.avs_compact.proofs.OwnFirst.{first_same}

-- where no chunk has a slot, both images are the master's
no_state : (e : ℕ) → e ≡ 0 → state_by e ≢ 3
no_state e is three = omega (arith, is, three)

shadow_is_master : (n own : ℕ) (area s o m : Image) → length m ≡ n → ((c : ℕ) → c < seg_count n → entry_on area c ≡ 0) → shadow_by n own area s o m ≡ m
unfolding shadow_by
shadow_is_master n own area s o m len all = same_images _ _ (length-tabulate _ _ ∙ sym len) (λ i below.
    let lt : i < n = omega (arith, below, length-tabulate n (λ (i : ℕ). cond (eqb (entry_on area (i / 64)) 0) (block_at m i) (in_slot own s o (slot_by (entry_on area (i / 64))) (i % 64)))) in
    block_at-tabulate _ _ i lt ∙ cond_is _ 0 _ _ (all (i / 64) (omega arith)))

master_is_master : (n own : ℕ) (area s o m : Image) → length m ≡ n → ((c : ℕ) → c < seg_count n → entry_on area c ≡ 0) → master_by n own area s o m ≡ m
unfolding master_by
master_is_master n own area s o m len all = same_images _ _ (length-tabulate _ _ ∙ sym len) (λ i below.
    let lt : i < n = omega (arith, below, length-tabulate n (λ (i : ℕ). cond (eqb (state_by (entry_on area (i / 64))) 3) (in_slot own s o (slot_by (entry_on area (i / 64))) (i % 64)) (block_at m i))) in
    block_at-tabulate _ _ i lt ∙ cond_not _ 3 _ _ (no_state _ (all (i / 64) (omega arith))))

module _ (set : ℕ) (shadow bitmap e : Seen) (blocks : ℕ) (memory next : List ℕ) (small : blocks < 2 ^ 32) (room : Fits bitmap.size blocks) (zeros : memory ≡ replicate (512 * area_len (seg_count blocks)) 0) where
  abbrev pub made : CompactSet
  made = record { set = set; own = own_slots shadow.size; shadow = Some shadow; areas = areas_on e blocks false; memory = memory; next = next; blocks = blocks; low = 0; ahead = 0 }

  module _ (image : e.image ≡ put bitmap.image 0 (formatted blocks)) (told : IsTold bitmap) where
    at_formatted : (i : ℕ) → i < blocks_for (seg_count blocks) → block_at e.image i ≡ block_at (formatted blocks) i
    at_formatted i lt =
        ap (λ (l : Image). block_at l i) image
        ∙ put_inside bitmap.image 0 (formatted blocks) i (omega arith) (omega (arith, lt, length-formatted blocks)) (omega (arith, lt, told, room))
        ∙ same_place (formatted blocks) (i - 0) i (omega arith)

    made_entry : (c : ℕ) → c < seg_count blocks → disk_entry made c ≡ 0
    unfolding live entry_on
    made_entry c lt =
        let inside : c / 128 < area_len (seg_count blocks) = omega arith in
        ap (λ (b : Block). entry_in b (c % 128)) (block_at-range e.image 1 (area_len (seg_count blocks)) (c / 128) inside ∙ at_formatted (1 + c / 128) (omega arith) ∙ zeros_at blocks (c / 128) (omega arith))
        ∙ entry_in-zero_block (c % 128)

    made_label : HasLabel made
    made_label = record {
      label = record {
        keeps = record { version = refl; kind_some = omega arith; kind = omega arith; stamp = omega arith; stamp_none = λ _. refl };
        fits = record { blocks = small; segments = omega (arith, small) };
        spelled = at_formatted 0 (omega arith);
      };
    }

  memory_entry : (c : ℕ) → entry_of made c ≡ 0
  memory_entry c = entries_none memory (512 * area_len (seg_count blocks)) zeros c

  Makes-made : {T E : Type 0} (x : T) → Formats {E = E} bitmap blocks (Ok x) e → Makes set shadow bitmap blocks made
  Makes-made x f = record {
    is = refl;
    fits = room;
    written = record { lasts = f.goes.lasts; spared = f.goes.done; counted = f.counted };
    on_disk = λ told. (made_label (f.done told) told, f.done told);
    entries = memory_entry;
    step = λ told. record { each = λ c lt. memory_entry c ∙ sym (made_entry (f.done told) told c lt) };
    images = λ told o m len. (shadow_is_master blocks (own_slots shadow.size) (live made.areas) shadow.image o.disk.image m len (made_entry (f.done told) told), master_is_master blocks (own_slots shadow.size) (live made.areas) shadow.image o.disk.image m len (made_entry (f.done told) told));
  }

  pub Makes-format : {T E : Type 0} (q : Result T E) (x : T) (new : CompactSet) → q ≡ Ok x → Formats bitmap blocks q e → new ≡ made → Makes set shadow bitmap blocks new
  Makes-format {T = T} {E = E} q x new is f new_is = subst (λ (s : CompactSet). Makes set shadow bitmap blocks s) (sym new_is) (Makes-made x (subst (λ (r : Result T E). Formats bitmap blocks r e) is f))

-- ---- a set that is found

pub Loads-found : (set own : ℕ) (X : Option Seen) (bitmap e : Seen) (blocks : ℕ) (live_b : Bool) (memory next : List ℕ) (new : CompactSet)
    → own ≡ own_of X → Fits bitmap.size blocks → e ≡ bitmap
    → (IsTold bitmap → IsLabel (block_at bitmap.image 0) (compact_label blocks))
    → (IsTold bitmap → HasArea (live (areas_on bitmap blocks live_b)) (seg_count blocks) memory)
    → AreEntries (entry_in memory) own (seg_count blocks)
    → new ≡ record { set = set; own = own; shadow = X; areas = areas_on e blocks live_b; memory = memory; next = next; blocks = blocks; low = 0; ahead = 0 }
    → Loads set X bitmap blocks live_b new
Loads-found set own X bitmap e blocks live_b memory next new own_is room same label area entries new_is =
    let is : new ≡ record { set = set; own = own_of X; shadow = X; areas = areas_on bitmap blocks live_b; memory = memory; next = next; blocks = blocks; low = 0; ahead = 0 } =
    new_is ∙ ap (λ (d : Seen). record { set = set; own = own; shadow = X; areas = areas_on d blocks live_b; memory = memory; next = next; blocks = blocks; low = 0; ahead = 0 }) same
    ∙ ap (λ (n : ℕ). record { set = set; own = n; shadow = X; areas = areas_on bitmap blocks live_b; memory = memory; next = next; blocks = blocks; low = 0; ahead = 0 }) own_is in
    subst (λ (s : CompactSet). Loads set X bitmap blocks live_b s) (sym is) (record {
      is = refl;
      fits = room;
      label = λ told. record { label = label told };
      entries = subst (λ (n : ℕ). AreEntries (entry_in memory) n (seg_count blocks)) own_is entries;
      step = λ told. record { each = (area told).each };
      own_first = λ told first. first_same (λ c. entry_on (live (areas_on bitmap blocks live_b)) c) (entry_in memory) (own_of X) (seg_count blocks) 0 (area told).each first;
    })
