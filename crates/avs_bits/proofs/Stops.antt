-- A change of bits that stopped at a block.
use Rattle.std.proofs.Common.{◌≡◌, ◌⊎◌, inl, inr, subst, ℕ, ◌+◌, ◌-◌, ◌*◌, ◌<◌, ◌≤◌, min, max, Bool, true, false, IsTrue, Result, List, ap, sym, ◌∙◌, arith}
use Rattle.std.proofs.lemmas.Bool.{cases_lt, cases_order, true≢false}
use Rattle.avs_seg.specs.Image.{Image, block_at, ChangesWithin}
use Rattle.avs_dev.specs.Seen.{Seen, IsTold, UsesTear}
use Rattle.avs_bits.specs.Bit.{bit_of, has_other, is_due, due_below, raised, IsPut, IsHeld, StopsAt, IsIdleChange}
use Rattle.avs_bits.specs.BitSet.{place, blocks_for, BitSet, IsOnDisk, IsClean, IsZeroBehind, StopsIn, IsIdle}
use Rattle.avs_bits.proofs.SomeBits.{put_then, segs_put, on_disk, held_by}
use Rattle.avs_bits.proofs.Dues.{has_other_none, due_is, is_due_shifted, due_below_shifted}

-- the blocks below one were changed, and then it was
pub put_more : (old mid new : ℕ → Bool) (first end block low high : ℕ) (on : Bool) → first ≤ end → first < 4096 * (block + 1) → 4096 * block < end → low ≡ max first (4096 * block) → high ≡ min end (4096 * (block + 1))
    → IsPut old mid first (min (4096 * block) end) on → IsPut mid new low high on → IsPut old new first (min (4096 * (block + 1)) end) on
put_more old mid new first end block low high on ordered near over low_is high_is a b =
    let same : high ≡ min (4096 * (block + 1)) end = omega arith in
    put_then old mid new first (min (4096 * block) end) low (min (4096 * (block + 1)) end) on (omega arith) (omega arith) (omega arith) a (subst (λ (k : ℕ). IsPut mid new low k on) same b)

-- the blocks below it were changed, and then its own bits in memory
pub stops : (old mid new : ℕ → Bool) (first end block low high : ℕ) (on : Bool) (before then now : Seen) → first ≤ end → first < 4096 * (block + 1) → 4096 * block < end → low ≡ max first (4096 * block) → high ≡ min end (4096 * (block + 1))
    → IsPut old mid first (min (4096 * block) end) on → IsPut mid new low high on → has_other mid low high on ≡ true → then.written ≡ raised before.written (due_below old first end on block) → now.written ≡ then.written
    → (IsTold before → (n : ℕ) → IsHeld before.image n old → IsHeld now.image n mid ⊎ IsHeld now.image n new) → StopsAt old new first end on before now
stops old mid new first end block low high on before then now ordered near over low_is high_is a b due raised kept held = record {
  block = block;
  due = sym (due_is old mid first end block low high on low_is high_is a) ∙ due;
  put = put_more old mid new first end block low high on ordered near over low_is high_is a b;
  written = kept ∙ raised;
  below = mid;
  put_below = a;
  held = held;
}

no_bits : (bits : ℕ → Bool) (first end block : ℕ) (on : Bool) → is_due bits (place first) (place end) on block ≡ true → 0 < block
no_bits bits first end block on due = elim (cases_lt 0 block) [
  | inl some ↦ some
  | inr none ↦ absurd (true≢false (sym due ∙ has_other_none bits (max (place first) (4096 * block)) (min (place end) (4096 * (block + 1))) on (λ p low high. absurd (omega arith))))
]

-- the same of segments
pub stops_in : (old new : List ℕ) (first end : ℕ) (on : Bool) (before now : Seen) (segs stamp : ℕ) → StopsAt (bit_of old) (bit_of new) (place first) (place end) on before now
    → StopsIn (record { disk = before; bytes = old; segs = segs; stamp = stamp }) first end on (record { disk = now; bytes = new; segs = segs; stamp = stamp })
stops_in old new first end on before now segs stamp part =
    let some : 0 < part.block = no_bits (bit_of old) first end part.block on part.due in
    let same : part.block - 1 + 1 ≡ part.block = omega arith in
    record {
      block = part.block - 1;
      due =
          sym (is_due_shifted (bit_of old) first end on (part.block - 1))
          ∙ ap (λ (k : ℕ). is_due (bit_of old) (place first) (place end) on k) same
          ∙ part.due;
      set = segs_put (bit_of old) (bit_of new) first (min (4096 * (part.block - 1 + 1)) end) (min (4096 * (part.block + 1)) (place end)) on (omega arith) part.put;
      written = part.written ∙ ap (λ (n : ℕ). raised before.written n) (due_below_shifted (bit_of old) first end on (part.block - 1) part.block (sym same));
      disk = λ told step. elim (part.held told (place segs) (held_by before.image segs old step)) [
        | inl below ↦ inl (record {
          set = λ s. part.below (place s);
          put = segs_put (bit_of old) part.below first (min (4096 * (part.block - 1)) end) (min (4096 * part.block) (place end)) on (omega arith) part.put_below;
          held = record { each = λ s under. below.each (place s) (omega arith) (omega arith) };
        })
        | inr all ↦ inr (on_disk now.image segs new all)
      ];
    }

pub idle_set : {T E : Type 0} (old new : List ℕ) (result : Result T E) (before now : Seen) (segs stamp : ℕ) → IsIdleChange before old result now new
    → IsIdle (record { disk = before; bytes = old; segs = segs; stamp = stamp }) result (record { disk = now; bytes = new; segs = segs; stamp = stamp })
idle_set old new result before now segs stamp idle = record { answer = idle.answer; kept = same idle.disk idle.bytes }
  where
    same : now ≡ before → new ≡ old → ◌≡◌ {A = BitSet} (record { disk = now; bytes = new; segs = segs; stamp = stamp }) (record { disk = before; bytes = old; segs = segs; stamp = stamp })
    same d b = cc

-- a tear that was armed before is used
pub uses_since : (before then now : Seen) → then.armed ≡ before.armed → UsesTear then now → UsesTear before now
uses_since before then now same uses = record { was_armed = subst (λ (b : Bool). IsTrue b) same uses.was_armed; is_used = uses.is_used }

-- no block is due where each bit is so already
pub not_due : {P : Type 0} (old mid : List ℕ) (first end low high : ℕ) (on : Bool) → first ≤ low → high ≤ end → mid ≡ old → ((p : ℕ) → first ≤ p → p < end → bit_of old p ≡ on) → has_other (bit_of mid) low high on ≡ true → P
not_due old mid first end low high on low_in high_in same all due =
    absurd (true≢false (sym due ∙ has_other_none (bit_of mid) low high on (λ p above below. ap (λ (l : List ℕ). bit_of l p) same ∙ all p (omega arith) (omega arith))))

-- where each bit is so already, a change of one block more changes nothing
pub idle_more : (before then now : Seen) (old mid new : List ℕ) (first end low high : ℕ) (on : Bool) → first ≤ low → high ≤ end → ((p : ℕ) → first ≤ p → p < end → bit_of old p ≡ on) → (then ≡ before) × (mid ≡ old)
    → (has_other (bit_of mid) low high on ≡ false → (now ≡ then) × (new ≡ mid)) → (now ≡ before) × (new ≡ old)
idle_more before then now old mid new first end low high on low_in high_in all so_far idle =
    let none = idle (has_other_none (bit_of mid) low high on (λ p above below. ap (λ (l : List ℕ). bit_of l p) so_far.1 ∙ all p (omega arith) (omega arith))) in
    (none.0 ∙ so_far.0, none.1 ∙ so_far.1)

-- a block that is not due is as it was, after the change of another one or of none
pub still_more : (old mid : ℕ → Bool) (first end block low high : ℕ) (on : Bool) (then now : Seen) → low ≡ max first (4096 * block) → high ≡ min end (4096 * (block + 1)) → IsPut old mid first (min (4096 * block) end) on
    → ChangesWithin block 1 then.image now.image → (has_other mid low high on ≡ false → now ≡ then) → (k : ℕ) → is_due old first end on k ≡ false → block_at now.image k ≡ block_at then.image k
still_more old mid first end block low high on then now low_is high_is put within idle k none = elim (cases_order k block) [
  | inl here ↦
      let same : has_other mid low high on ≡ false = due_is old mid first end block low high on low_is high_is put ∙ sym (ap (λ (b : ℕ). is_due old first end on b) here) ∙ none in
      ap (λ (d : Seen). block_at d.image k) (idle same)
  | inr apart ↦ within.outside k (elim apart [ inl below ↦ inl below | inr above ↦ inr (omega arith) ])
]

-- what a disk holds behind the last segment
pub zeros_held : (img : Image) (segs : ℕ) (bytes : List ℕ) → IsClean bytes segs → IsOnDisk img segs (λ s. bit_of bytes (place s)) → IsZeroBehind img segs → IsHeld img (4096 * blocks_for segs) (bit_of bytes)
zeros_held img segs bytes clean step zeros = record {
  each = λ p behind below. elim (cases_lt p (place segs)) [
    | inl inside ↦ (held_by img segs bytes step).each p behind inside
    | inr past ↦ zeros.each p past below ∙ sym (clean.each p past)
  ];
}

pub zeros_of : (img : Image) (segs : ℕ) (bytes : List ℕ) (bits : ℕ → Bool) → IsClean bytes segs → ((p : ℕ) → place segs ≤ p → bits p ≡ bit_of bytes p) → IsHeld img (4096 * blocks_for segs) bits → IsZeroBehind img segs
zeros_of img segs bytes bits clean same held = record { each = λ p past below. held.each p (omega arith) below ∙ same p past ∙ clean.each p past }

pub zeros_stopped : (old new : List ℕ) (first end : ℕ) (on : Bool) (before now : Seen) (segs : ℕ) → end ≤ segs → IsTold before → IsClean old segs → IsHeld before.image (4096 * blocks_for segs) (bit_of old) → ((p : ℕ) → (p < place first) ⊎ (place end ≤ p) → bit_of new p ≡ bit_of old p)
    → StopsAt (bit_of old) (bit_of new) (place first) (place end) on before now → IsZeroBehind now.image segs
zeros_stopped old new first end on before now segs inside told clean held only part = elim (part.held told (4096 * blocks_for segs) held) [
  | inl below ↦ zeros_of now.image segs old part.below clean (λ p past. part.put_below.outside p (inr (omega arith))) below
  | inr all ↦ zeros_of now.image segs old (bit_of new) clean (λ p past. only p (inr (omega arith))) all
]
