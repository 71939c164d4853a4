-- What an entry makes of images, block by block.
use Rattle.std.proofs.Common.{◌≡◌, ◌≢◌, ◌⊎◌, inl, inr, ℕ, suc, ◌+◌, ◌-◌, ◌*◌, ◌/◌, ◌<◌, ◌≤◌, Bool, true, false, ◌&&◌, nat_eq, cond, List, [], ◌∷◌, ◌++◌, length, Some, slice_get, ◌∙◌, sym, refl, ap, subst, arith}
use Rattle.std.specs.Prelude.{not}
use Rattle.std.proofs.lemmas.Bool.Decides.{nat_tests}
use Rattle.std.proofs.lemmas.Bool.{cases_Bool, cases_lt}
use Rattle.avs_seg.specs.Image.{Image, block_at, put, is_inside}
use Rattle.avs_seg.specs.Segment.{segment, first_segment, touch_count}
use Rattle.avs_seg.proofs.Blocks.{block_at_past, same_place}
use Rattle.avs_seg.proofs.Puts.{length-put, put_inside, put_outside, put-put}
use Rattle.avs_seg.proofs.Cuts.{length-segment, block_at-segment}
use Rattle.avs_model.specs.declared.entry.Entry.{Entry}
use Rattle.avs_mirrors.specs.Entries.{Images, SameSize, after_entries, after_entry, block_in, copy_of, touches}

-- the image of a set behind an entry, whichever set it is
image_cases : (P : Image → Type 0) (images : Images) (e : Entry) (t : ℕ) → (nat_eq t e.set ≡ false → P (images t)) → (nat_eq t e.set ≡ true → P (put (images t) e.at e.bytes)) → P (after_entry images e t)
unfolding after_entry
image_cases P images e t other same = elim (cases_Bool (nat_eq t e.set)) [
  | inl on ↦ subst (λ (b : Bool). P (cond b (put (images t) e.at e.bytes) (images t))) (sym on) (same on)
  | inr off ↦ subst (λ (b : Bool). P (cond b (put (images t) e.at e.bytes) (images t))) (sym off) (other off)
]

-- ---- sizes

pub size_same : (a : Images) (t : ℕ) → SameSize a a t
size_same a t = record { len = refl }

pub size_sym : (a b : Images) (t : ℕ) → SameSize a b t → SameSize b a t
size_sym a b t s = record { len = sym s.len }

pub size_then : (a b c : Images) (t : ℕ) → SameSize a b t → SameSize b c t → SameSize a c t
size_then a b c t s r = record { len = s.len ∙ r.len }

pub size_after : (a : Images) (e : Entry) (t : ℕ) → SameSize (after_entry a e) a t
size_after a e t = record { len = image_cases (λ (img : Image). length img ≡ length (a t)) a e t (λ off. refl) (λ on. length-put (a t) e.at e.bytes) }

pub size_after_both : (a b : Images) (e : Entry) (t : ℕ) → SameSize a b t → SameSize (after_entry a e) (after_entry b e) t
size_after_both a b e t s = size_then _ _ _ t (size_after a e t) (size_then _ _ _ t s (size_sym _ _ t (size_after b e t)))

pub size_after_all : (a : Images) (es : List Entry) (t : ℕ) → SameSize (after_entries a es) a t
unfolding after_entries
size_after_all a [] t = size_same a t
size_after_all a (e ∷ es) t = size_then _ _ _ t (size_after_all (after_entry a e) es t) (size_after a e t)

-- ---- blocks

inside_cases : (at n i : ℕ) → ((at ≤ i) × (i < at + n)) ⊎ ((i < at) ⊎ (at + n ≤ i))
inside_cases at n i = elim (cases_lt i at) [
  | inl low ↦ inr (inl low)
  | inr high ↦ elim (cases_lt i (at + n)) [ inl within ↦ inl (high, within) | inr above ↦ inr (inr above) ]
]

-- put does the same to blocks that are the same
same_put : (a b : Image) (at : ℕ) (bs : Image) (i : ℕ) → length a ≡ length b → block_at a i ≡ block_at b i → block_at (put a at bs) i ≡ block_at (put b at bs) i
same_put a b at bs i len same = elim (cases_lt i (length a)) [
  | inl lt ↦ elim (inside_cases at (length bs) i) [
    | inl within ↦ put_inside a at bs i within.0 within.1 lt ∙ sym (put_inside b at bs i within.0 within.1 (omega arith))
    | inr apart ↦ put_outside a at bs i apart ∙ same ∙ sym (put_outside b at bs i apart)
  ]
  | inr past ↦ block_at_past (put a at bs) i (omega (arith, length-put a at bs)) ∙ sym (block_at_past (put b at bs) i (omega (arith, length-put b at bs)))
]

pub same_after : (a b : Images) (e : Entry) (t i : ℕ) → SameSize a b t → block_in a t i ≡ block_in b t i → block_in (after_entry a e) t i ≡ block_in (after_entry b e) t i
unfolding after_entry
same_after a b e t i s same = elim (cases_Bool (nat_eq t e.set)) [
  | inl on ↦ subst (λ (c : Bool). block_at (cond c (put (a t) e.at e.bytes) (a t)) i ≡ block_at (cond c (put (b t) e.at e.bytes) (b t)) i) (sym on) (same_put (a t) (b t) e.at e.bytes i s.len same)
  | inr off ↦ subst (λ (c : Bool). block_at (cond c (put (a t) e.at e.bytes) (a t)) i ≡ block_at (cond c (put (b t) e.at e.bytes) (b t)) i) (sym off) same
]

pub same_after_all : (a b : Images) (es : List Entry) (t i : ℕ) → SameSize a b t → block_in a t i ≡ block_in b t i → block_in (after_entries a es) t i ≡ block_in (after_entries b es) t i
unfolding after_entries
same_after_all a b [] t i s same = same
same_after_all a b (e ∷ es) t i s same = same_after_all (after_entry a e) (after_entry b e) es t i (size_after_both a b e t s) (same_after a b e t i s same)

pub after_entries-push : (a : Images) (es : List Entry) (e : Entry) → after_entries a (es ++ e ∷ []) ≡ after_entry (after_entries a es) e
unfolding after_entries
after_entries-push a [] e = refl
after_entries-push a (x ∷ es) e = after_entries-push (after_entry a x) es e

-- a block in no segment that the entry touches
pub not_touched : (at n i : ℕ) → is_inside (first_segment at) (touch_count at n) (i / 64) ≡ false → (i < at) ⊎ (at + n ≤ i)
not_touched at n i is = elim (inside_cases at n i) [
  | inl within ↦ absurd (inside_touched at n i within.0 within.1 is)
  | inr apart ↦ apart
]
  where
    inside_touched : (at n i : ℕ) → at ≤ i → i < at + n → is_inside (first_segment at) (touch_count at n) (i / 64) ≡ false → ⊥
    inside_touched at n i low high is = grind (arith, nat_tests)

pub touches_at : (e : Entry) (t seg : ℕ) → nat_eq t e.set ≡ true → touches e t seg ≡ false → is_inside (first_segment e.at) (touch_count e.at (length e.bytes)) seg ≡ false
unfolding touches
touches_at e t seg is not = grind (arith, nat_tests)

pub untouched : (a : Images) (e : Entry) (t i : ℕ) → touches e t (i / 64) ≡ false → block_in (after_entry a e) t i ≡ block_in a t i
untouched a e t i not = image_cases (λ (img : Image). block_at img i ≡ block_in a t i) a e t (λ off. refl) (λ on. put_outside (a t) e.at e.bytes i (not_touched e.at (length e.bytes) i (touches_at e t (i / 64) on not)))

-- entries none of which touches the block's segment
pub untouched_all : (a : Images) (es : List Entry) (t i : ℕ) → ((j : ℕ) (e : Entry) → slice_get es j ≡ Some e → touches e t (i / 64) ≡ false) → block_in (after_entries a es) t i ≡ block_in a t i
unfolding after_entries
untouched_all a [] t i none = refl
untouched_all a (e ∷ es) t i none = untouched_all (after_entry a e) es t i (λ j f is. none (suc j) f is) ∙ untouched a e t i (none 0 e refl)

-- ---- the copy of a segment

same_set : (t : ℕ) → nat_eq t t ≡ false → ⊥
same_set t off = grind (arith, nat_tests)

-- its blocks are there afterwards
pub copied : (r s : Images) (t g i : ℕ) → SameSize r s t → i / 64 ≡ g → block_in (after_entry r (copy_of s t g)) t i ≡ block_in s t i
copied r s t g i size seg = image_cases (λ (img : Image). block_at img i ≡ block_in s t i) r (copy_of s t g) t (λ off. absurd (same_set t off)) (λ on. inside (r t) (s t) size.len)
  where
    inside : (a b : Image) → length a ≡ length b → block_at (put a (64 * g) (segment b g)) i ≡ block_at b i
    inside a b len = elim (cases_lt i (length b)) [
      | inl lt ↦
          put_inside a (64 * g) (segment b g) i (omega arith) (omega (arith, length-segment b g)) (omega arith)
          ∙ block_at-segment b g (i - 64 * g) (omega arith) ∙ same_place b (64 * g + (i - 64 * g)) i (omega arith)
      | inr past ↦ block_at_past (put a (64 * g) (segment b g)) i (omega (arith, length-put a (64 * g) (segment b g))) ∙ sym (block_at_past b i past)
    ]

-- it touches its own segment alone
pub copy_elsewhere : (s : Images) (t g t' g' : ℕ) → (t' ≢ t) ⊎ (g' ≢ g) → touches (copy_of s t g) t' g' ≡ false
unfolding touches
copy_elsewhere s t g t' g' other = elsewhere t g t' g' (length (segment (s t) g)) (omega (arith, length-segment (s t) g)) other
  where
    elsewhere : (t g t' g' n : ℕ) → n ≤ 64 → (t' ≢ t) ⊎ (g' ≢ g) → (nat_eq t t' && is_inside (first_segment (64 * g)) (touch_count (64 * g) n) g') ≡ false
    elsewhere t g t' g' n small other = grind (arith, nat_tests)

-- and that one, where it has a block
pub copy_touches : (s : Images) (t g : ℕ) → 64 * g < length (s t) → touches (copy_of s t g) t g ≡ true
unfolding touches
copy_touches s t g some = here t g (length (segment (s t) g)) (omega (arith, length-segment (s t) g))
  where
    here : (t g n : ℕ) → 0 < n → (nat_eq t t && is_inside (first_segment (64 * g)) (touch_count (64 * g) n) g) ≡ true
    here t g n some = grind (arith, nat_tests)

-- ---- an entry put once more

pub once_more : (a : Images) (e : Entry) (t i : ℕ) → block_in (after_entry (after_entry a e) e) t i ≡ block_in (after_entry a e) t i
unfolding after_entry
once_more a e t i = by_set (nat_eq t e.set)
  where
    by_set : (b : Bool) → block_at (cond b (put (cond b (put (a t) e.at e.bytes) (a t)) e.at e.bytes) (cond b (put (a t) e.at e.bytes) (a t))) i ≡ block_at (cond b (put (a t) e.at e.bytes) (a t)) i
    by_set true = ap (λ (img : Image). block_at img i) (put-put (a t) e.at e.bytes e.bytes (omega arith))
    by_set false = refl

pub copy_once : (a : Images) (set seg t i : ℕ) → block_in (after_entry a (copy_of a set seg)) t i ≡ block_in a t i
copy_once a set seg t i = elim (cases_Bool (nat_eq t set && nat_eq (i / 64) seg)) [
  | inl on ↦
      let t_is : t ≡ set = grind (arith, nat_tests) in
      let g_is : i / 64 ≡ seg = grind (arith, nat_tests) in
      subst (λ (n : ℕ). block_in (after_entry a (copy_of a n seg)) t i ≡ block_in a t i) t_is (copied a a t seg i (size_same a t) g_is)
  | inr off ↦ untouched a (copy_of a set seg) t i (copy_elsewhere a set seg t (i / 64) (apart t (i / 64) set seg off))
]
  where
    apart : (t g set seg : ℕ) → (nat_eq t set && nat_eq g seg) ≡ false → (t ≢ set) ⊎ (g ≢ seg)
    apart t g set seg off = grind (arith, nat_tests)

-- past its end a volume has no block
pub past_end : (a b : Images) (t i : ℕ) → SameSize a b t → length (b t) ≤ i → block_in a t i ≡ block_in b t i
past_end a b t i s past = block_at_past (a t) i (omega (arith, s.len)) ∙ sym (block_at_past (b t) i past)
