-- Segments that a write marks: in a list of numbers, in a set, and on a disk.
use Rattle.std.proofs.Common.{◌≡◌, ◌⊎◌, inl, inr, ℕ, ◌+◌, ◌-◌, ◌<◌, ◌≤◌, Bool, true, false, eqb, length, get_or, refl, sym, ◌∙◌, ap, subst, arith}
use Rattle.std.specs.Prelude.{nat_lt, ◌&&◌, ◌||◌}
use Rattle.std.specs.List.{list_any, range_with_len, Contains}
use Rattle.std.proofs.Math.Path.{fun_ext}
use Rattle.std.proofs.lemmas.Bool.{cases_Bool, cases_lt, eq-eqb, ne_eqb}
use Rattle.std.proofs.lemmas.Bool.Decides.{nat_tests}
use Rattle.std.proofs.lemmas.List.Folds.{list_any_none, list_any_at}
use Rattle.std.proofs.lemmas.List.FromFn.{length-range_with_len, get_or-range_with_len}
use Rattle.avs_seg.specs.Image.{Image, is_inside, ChangesWithin}
use Rattle.avs_seg.specs.Segment.{seg_count, touch, touch_count, first_segment, differ}
use Rattle.avs_seg.proofs.Differ.{differ_after}
use Rattle.avs_bits.specs.Bit.{disk_bit, IsPut}
use Rattle.avs_bits.specs.BitSet.{place, IsOnDisk, HoldsPart}
use Rattle.avs_model.specs.ShadowSets.{ChunkList, chunks_among, together}
use Rattle.avs_model.specs.HostStages.{ArePartly}
use Rattle.avs_join.specs.Imported.{ImportState, segments_on, marked, Covers}

-- ---- the numbers of a range

inside_is : (first n s : ℕ) → is_inside first n s ≡ true → (first ≤ s) × (s < first + n)
inside_is first n s is = (grind (arith, nat_tests), grind (arith, nat_tests))

outside_is : (first n s : ℕ) → is_inside first n s ≡ false → (s < first) ⊎ (first + n ≤ s)
outside_is first n s is = grind (arith, nat_tests)

is_within : (first n s : ℕ) → first ≤ s → s < first + n → is_inside first n s ≡ true
is_within first n s low high = grind (arith, nat_tests)

is_apart : (first n s : ℕ) → (s < first) ⊎ (first + n ≤ s) → is_inside first n s ≡ false
is_apart first n s (inl low) = grind (arith, nat_tests)
is_apart first n s (inr high) = grind (arith, nat_tests)

pub among-range : (first n s : ℕ) → list_any (λ one. eqb s one) (range_with_len first n) ≡ is_inside first n s
among-range first n s = elim (cases_Bool (is_inside first n s)) [
  | inl is ↦
      let low = (inside_is first n s is).0 in
      let high = (inside_is first n s is).1 in
      let there : get_or (range_with_len first n) (s - first) 0 ≡ s = get_or-range_with_len first n (s - first) 0 (omega arith) ∙ omega arith in
      list_any_at (λ one. eqb s one) (range_with_len first n) (s - first) 0 (omega (arith, length-range_with_len first n)) (eq-eqb s _ (sym there)) ∙ sym is
  | inr is ↦
      list_any_none (λ one. eqb s one) (range_with_len first n) (λ k d lt.
      let short : k < n = omega (arith, lt, length-range_with_len first n) in
      let there : get_or (range_with_len first n) k d ≡ first + k = get_or-range_with_len first n k d short in
      ap (λ (m : ℕ). eqb s m) there ∙ ne_eqb s (first + k) (λ same. elim (outside_is first n s is) [ inl low ↦ absurd (omega arith) | inr high ↦ absurd (omega arith) ])) ∙ sym is
]

-- the segments of a range are those between its first and its last
pub among-touch : (at len s : ℕ) → chunks_among (touch at len) s ≡ is_inside (first_segment at) (touch_count at len) s
among-touch at len s = among-range (first_segment at) (touch_count at len) s

-- ---- sets on disks

pub on_disk : (blocks : ℕ) (img : Image) (set : ℕ → Bool) → IsOnDisk img (seg_count blocks) set → (s : ℕ) → s < seg_count blocks → segments_on blocks img s ≡ set s
on_disk blocks img set is s lt =
    let low : nat_lt s (seg_count blocks) ≡ true = grind (arith, nat_tests) in
    ap (λ (b : Bool). b && disk_bit img (place s)) low ∙ is.each s lt

pub none_behind : (blocks : ℕ) (img : Image) (s : ℕ) → seg_count blocks ≤ s → segments_on blocks img s ≡ false
none_behind blocks img s le =
    let high : nat_lt s (seg_count blocks) ≡ false = grind (arith, nat_tests) in
    ap (λ (b : Bool). b && disk_bit img (place s)) high

or_false : (a b c : Bool) → a ≡ false → b ≡ c → b ≡ a || c
or_false a b c is same = same ∙ sym (ap (λ (t : Bool). t || c) is)

or_true : (a b c : Bool) → a ≡ true → b ≡ true → b ≡ a || c
or_true a b c is same = same ∙ sym (ap (λ (t : Bool). t || c) is)

-- ---- a set that a write marked, on a disk

module _ (blocks : ℕ) (old new : Image) (set : ℕ → Bool) (at len : ℕ) (inside : first_segment at + touch_count at len ≤ seg_count blocks) (was : IsOnDisk old (seg_count blocks) set) where
  abbrev more : ChunkList
  more = chunks_among (touch at len)

  abbrev within : ℕ → Bool
  within s = is_inside (first_segment at) (touch_count at len) s

  not_more : (s : ℕ) → within s ≡ false → more s ≡ false
  not_more s is = among-touch at len s ∙ is

  is_more : (s : ℕ) → within s ≡ true → more s ≡ true
  is_more s is = among-touch at len s ∙ is

  far : (s : ℕ) → seg_count blocks ≤ s → segments_on blocks new s ≡ together more (segments_on blocks old) s
  far s le =
      let apart : within s ≡ false = is_apart (first_segment at) (touch_count at len) s (inr (omega arith)) in
      or_false (more s) (segments_on blocks new s) (segments_on blocks old s) (not_more s apart) (none_behind blocks new s le ∙ sym (none_behind blocks old s le))

  -- of the segments all were marked
  module _ (now : ℕ → Bool) (put : IsPut set now (first_segment at) (first_segment at + touch_count at len) true) (held : IsOnDisk new (seg_count blocks) now) where
    near : (s : ℕ) → s < seg_count blocks → segments_on blocks new s ≡ together more (segments_on blocks old) s
    near s lt = elim (cases_Bool (within s)) [
      | inl is ↦
          let range = inside_is (first_segment at) (touch_count at len) s is in
          or_true (more s) (segments_on blocks new s) (segments_on blocks old s) (is_more s is) (on_disk blocks new now held s lt ∙ put.inside s range.0 range.1)
      | inr is ↦
          or_false (more s) (segments_on blocks new s) (segments_on blocks old s) (not_more s is) (on_disk blocks new now held s lt ∙ put.outside s (outside_is (first_segment at) (touch_count at len) s is) ∙ sym (on_disk blocks old set was s lt))
    ]

    pub all_marked : segments_on blocks new ≡ together more (segments_on blocks old)
    all_marked = fun_ext (λ s. elim (cases_lt s (seg_count blocks)) [ inl lt ↦ near s lt | inr le ↦ far s le ])

  -- some of them were
  pub some_marked : HoldsPart (is_inside (first_segment at) (touch_count at len)) true set new (seg_count blocks) → ArePartly (segments_on blocks old) more (segments_on blocks new)
  some_marked part = record { each = each }
    where
      stays : (s : ℕ) → s < seg_count blocks → part.set s ≡ set s → segments_on blocks new s ≡ segments_on blocks old s
      stays s lt same = on_disk blocks new part.set part.held s lt ∙ same ∙ sym (on_disk blocks old set was s lt)

      each : (s : ℕ) → (segments_on blocks new s ≡ segments_on blocks old s) ⊎ (segments_on blocks new s ≡ together more (segments_on blocks old) s)
      each s = elim (cases_lt s (seg_count blocks)) [
        | inr le ↦ inl (none_behind blocks new s le ∙ sym (none_behind blocks old s le))
        | inl lt ↦ elim (cases_Bool (within s)) [
          | inr out ↦ inl (stays s lt (part.part.outside s out))
          | inl is ↦ elim (part.part.inside s is) [
            | inl same ↦ inl (stays s lt same)
            | inr on ↦ inr (or_true (more s) (segments_on blocks new s) (segments_on blocks old s) (is_more s is) (on_disk blocks new part.set part.held s lt ∙ on))
          ]
        ]
      ]

-- ---- what differs is marked

module _ (base : Image) (old new : ImportState) (was : Covers base old) where
  or_first : (a b : Bool) → a ≡ true → a || b ≡ true
  or_first a b is = ap (λ (t : Bool). t || b) is

  or_second : (a b : Bool) → b ≡ true → a || b ≡ true
  or_second true b is = refl
  or_second false b is = is

  -- no block was written
  pub covers_part : (at : ℕ) (blocks : Image) → new.image ≡ old.image → ArePartly old.segments (chunks_among (touch at (length blocks))) new.segments → Covers base new
  covers_part at blocks same part = record {
    each = λ s found.
        let before = was.each s (subst (λ (img : Image). Contains (differ img base) s) same found) in
        elim (part.each s) [
          | inl kept ↦ kept ∙ before
          | inr made ↦ made ∙ or_second (chunks_among (touch at (length blocks)) s) (old.segments s) before
        ];
  }

  -- blocks of the range alone were, and its segments are marked
  pub covers_all : (at : ℕ) (blocks : Image) → ChangesWithin at (length blocks) old.image new.image → new.segments ≡ marked old at blocks → Covers base new
  covers_all at blocks changes all = record {
    each = λ s found.
        ap (λ (f : ChunkList). f s) all
        ∙ elim (differ_after at (length blocks) old.image new.image base s changes found) [
          | inl touched ↦ or_first (chunks_among (touch at (length blocks)) s) (old.segments s) (in_touch at (length blocks) s touched)
          | inr before ↦ or_second (chunks_among (touch at (length blocks)) s) (old.segments s) (was.each s before)
        ];
  }
    where
      in_touch : (at len s : ℕ) → Contains (touch at len) s → chunks_among (touch at len) s ≡ true
      in_touch at len s found = list_any_at (λ one. eqb s one) (touch at len) found.0 s found.1 (eq-eqb s _ (sym found.2))
