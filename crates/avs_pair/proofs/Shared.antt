-- Which blocks the two halves share.
use Rattle.std.proofs.Common.{◌≡◌, ◌≢◌, ◌⊎◌, inl, inr, ℕ, ◌+◌, ◌/◌, ◌<◌, ◌≤◌, Bool, true, false, nat_eq, cond, List, [], ◌∷◌, ◌++◌, length, Option, None, Some, is_some, slice_get, ◌∙◌, sym, ap, subst, arith}
use Rattle.std.specs.Prelude.{not}
use Rattle.std.proofs.lemmas.Bool.Decides.{nat_tests}
use Rattle.std.proofs.lemmas.Bool.{cases_Bool}
use Rattle.avs_seg.specs.Image.{Image, block_at}
use Rattle.avs_model.specs.declared.entry.Entry.{Entry}
use Rattle.avs_mirrors.specs.Allowed.{ChangesInside, IsLast}
use Rattle.avs_mirrors.specs.Due.{Due, both_due, freed_due, has, noted, placed_due}
use Rattle.avs_mirrors.specs.Entries.{Images, SameSize, after_entries, after_entry, between, block_in, copy_of, touches, with_image}
use Rattle.avs_mirrors.specs.Half.{HalfState, Sets}
use Rattle.avs_mirrors.specs.Pair.{Session, is_copying}
use Rattle.avs_pair.proofs.Sound.{IsFreed, SameOutside, SameOutsideBoth, is_waiting}
use Rattle.avs_pair.proofs.Images.{after_entries-push, copied, same_after, size_after_all, size_then, untouched, untouched_all}
use Rattle.avs_pair.proofs.Orders.{between_get, between_push}
use Rattle.avs_pair.proofs.Dues.{IsWithin}

-- whether two numbers are the same
pub eq_cases : (a b : ℕ) → ((nat_eq a b ≡ true) × (a ≡ b)) ⊎ ((nat_eq a b ≡ false) × (a ≢ b))
eq_cases a b = elim (cases_Bool (nat_eq a b)) [ inl on ↦ inl (on, grind (arith, nat_tests)) | inr off ↦ inr (off, grind (arith, nat_tests)) ]

-- of these sets no block changes outside these segments
pub record IsInsideDue (on : Sets) (due : Due) (old new : Images) : Type 0 where
  pub sizes : (set : ℕ) → on set ≡ true → SameSize new old set
  pub outside : (set i : ℕ) → on set ≡ true → has due set (i / 64) ≡ false → block_in new set i ≡ block_in old set i

pub changes_inside : (h : HalfState) (set : ℕ) (image : Image) → ChangesInside h set image → IsInsideDue h.on h.due h.images (with_image h.images set image)
changes_inside h set image c = record { sizes = λ t here. size t here (eq_cases t set); outside = λ t i here none. outside t i here none (eq_cases t set) }
  where
    size : (t : ℕ) → h.on t ≡ true → ((nat_eq t set ≡ true) × (t ≡ set)) ⊎ ((nat_eq t set ≡ false) × (t ≢ set)) → SameSize (with_image h.images set image) h.images t
    size t here (inl is) = record { len = ap (λ (b : Bool). length (cond b image (h.images t))) is.0 ∙ c.size (subst (λ (n : ℕ). h.on n ≡ true) is.1 here) ∙ ap (λ (n : ℕ). length (h.images n)) (sym is.1) }
    size t here (inr off) = record { len = ap (λ (b : Bool). length (cond b image (h.images t))) off.0 }

    outside : (t i : ℕ) → h.on t ≡ true → has h.due t (i / 64) ≡ false → ((nat_eq t set ≡ true) × (t ≡ set)) ⊎ ((nat_eq t set ≡ false) × (t ≢ set)) → block_in (with_image h.images set image) t i ≡ block_in h.images t i
    outside t i here none (inl is) =
        ap (λ (b : Bool). block_at (cond b image (h.images t)) i) is.0
        ∙ c.outside (subst (λ (n : ℕ). h.on n ≡ true) is.1 here) i (subst (λ (n : ℕ). has h.due n (i / 64) ≡ false) is.1 none)
        ∙ ap (λ (n : ℕ). block_in h.images n i) (sym is.1)
    outside t i here none (inr off) = ap (λ (b : Bool). block_at (cond b image (h.images t)) i) off.0

-- ---- outside the segments of one half

pub outside_more : (on : ℕ → Bool) (due more : Due) (a b : Images) → IsWithin due more → SameOutside on due a b → SameOutside on more a b
outside_more on due more a b within s = record { each = λ t i here none. s.each t i here (within.each t (i / 64) none) }

pub outside_source : (on : ℕ → Bool) (due more : Due) (a b : Images) (e : Entry) → IsWithin due more → ((t g : ℕ) → has more t g ≡ false → touches e t g ≡ false) → SameOutside on due a b → SameOutside on more a (after_entry b e)
outside_source on due more a b e within apart s = record { each = λ t i here none. s.each t i here (within.each t (i / 64) none) ∙ sym (untouched b e t i (apart t (i / 64) none)) }

pub outside_target : (on : ℕ → Bool) (due : Due) (a b : Images) (e : Entry) → ((t g : ℕ) → has due t g ≡ false → touches e t g ≡ false) → SameOutside on due a b → SameOutside on due (after_entry a e) b
outside_target on due a b e apart s = record { each = λ t i here none. untouched a e t i (apart t (i / 64) none) ∙ s.each t i here none }

pub outside_begun : (on : ℕ → Bool) (due other : Due) (a b : Images) → IsWithin due (both_due due other) → IsWithin other (both_due due other) → SameOutsideBoth on due other a b → SameOutside on (both_due due other) a b
outside_begun on due other a b left right s = record { each = λ t i here none. s.each t i here (left.each t (i / 64) none) (right.each t (i / 64) none) }

-- ---- outside the segments of both

pub both_more : (on : ℕ → Bool) (due other more wider : Due) (a b : Images) → IsWithin due more → IsWithin other wider → SameOutsideBoth on due other a b → SameOutsideBoth on more wider a b
both_more on due other more wider a b w v s = record { each = λ t i here none gone. s.each t i here (w.each t (i / 64) none) (v.each t (i / 64) gone) }

pub both_from : (on : ℕ → Bool) (due other : Due) (a b : Images) → SameOutside on due a b → SameOutsideBoth on due other a b
both_from on due other a b s = record { each = λ t i here none _. s.each t i here none }

pub both_source : (on : ℕ → Bool) (due more other : Due) (a b : Images) (e : Entry) → IsWithin due more → ((t g : ℕ) → has more t g ≡ false → touches e t g ≡ false) → SameOutsideBoth on due other a b → SameOutsideBoth on more other a (after_entry b e)
both_source on due more other a b e within apart s = record { each = λ t i here none gone. s.each t i here (within.each t (i / 64) none) gone ∙ sym (untouched b e t i (apart t (i / 64) none)) }

pub outside_changed : (sets on : ℕ → Bool) (due : Due) (a b new : Images) → ((t : ℕ) → on t ≡ true → sets t ≡ true) → IsInsideDue sets due b new → SameOutside on due a b → SameOutside on due a new
outside_changed sets on due a b new sub c s = record { each = λ t i here none. s.each t i here none ∙ sym (c.outside t i (sub t here) none) }

pub both_changed_source : (sets on : ℕ → Bool) (due other : Due) (a b new : Images) → ((t : ℕ) → on t ≡ true → sets t ≡ true) → IsInsideDue sets due b new → SameOutsideBoth on due other a b → SameOutsideBoth on due other a new
both_changed_source sets on due other a b new sub c s = record { each = λ t i here none gone. s.each t i here none gone ∙ sym (c.outside t i (sub t here) none) }

pub both_changed_target : (sets on : ℕ → Bool) (due other : Due) (a b new : Images) → ((t : ℕ) → on t ≡ true → sets t ≡ true) → IsInsideDue sets other a new → SameOutsideBoth on due other a b → SameOutsideBoth on due other new b
both_changed_target sets on due other a b new sub c s = record { each = λ t i here none gone. c.outside t i (sub t here) gone ∙ s.each t i here none gone }

pub both_swapped : (on swapped : ℕ → Bool) (due other : Due) (a b : Images) → ((t : ℕ) → swapped t ≡ true → on t ≡ true) → SameOutsideBoth on due other a b → SameOutsideBoth swapped other due b a
both_swapped on swapped due other a b sub s = record { each = λ t i here gone none. sym (s.each t i (sub t here) none gone) }

-- ---- once all is applied: block i of set t, whatever is said of its segment

-- the source's and the target's block agree once these entries are applied
abbrev pub IsSameAfter : Images → List Entry → Images → ℕ → ℕ → Type 0
IsSameAfter a es b t i = block_in (after_entries a es) t i ≡ block_in b t i

pub same_write : (a b : Images) (n : ℕ) (order : List Entry) (e : Entry) (t i : ℕ) → n ≤ length order → SameSize a b t → IsSameAfter a (between n (length order) order) b t i → IsSameAfter a (between n (length (order ++ e ∷ [])) (order ++ e ∷ [])) (after_entry b e) t i
same_write a b n order e t i le sizes same =
    ap (λ (es : List Entry). block_in (after_entries a es) t i) (between_push n order e le)
    ∙ ap (λ (l : Images). block_in l t i) (after_entries-push a (between n (length order) order) e)
    ∙ same_after (after_entries a (between n (length order) order)) b e t i (size_then _ _ _ t (size_after_all a (between n (length order) order) t) sizes) same

-- an entry that does not touch the block, as a mark or the copy of another segment
pub same_apart : (a b : Images) (n : ℕ) (order : List Entry) (e : Entry) (t i : ℕ) → n ≤ length order → touches e t (i / 64) ≡ false → IsSameAfter a (between n (length order) order) b t i → IsSameAfter a (between n (length (order ++ e ∷ [])) (order ++ e ∷ [])) b t i
same_apart a b n order e t i le apart same =
    ap (λ (es : List Entry). block_in (after_entries a es) t i) (between_push n order e le)
    ∙ ap (λ (l : Images). block_in l t i) (after_entries-push a (between n (length order) order) e)
    ∙ untouched (after_entries a (between n (length order) order)) e t i apart ∙ same

pub same_copy : (a b : Images) (n : ℕ) (order : List Entry) (t g i : ℕ) → n ≤ length order → SameSize a b t → i / 64 ≡ g → IsSameAfter a (between n (length (order ++ copy_of b t g ∷ [])) (order ++ copy_of b t g ∷ [])) b t i
same_copy a b n order t g i le sizes seg =
    ap (λ (es : List Entry). block_in (after_entries a es) t i) (between_push n order (copy_of b t g) le)
    ∙ ap (λ (l : Images). block_in l t i) (after_entries-push a (between n (length order) order) (copy_of b t g))
    ∙ copied (after_entries a (between n (length order) order)) b t g i (size_then _ _ _ t (size_after_all a (between n (length order) order) t) sizes) seg

-- where no entry to come touches the block, it is the source's already
pub same_now : (a b : Images) (n : ℕ) (order : List Entry) (t i : ℕ) → ((j : ℕ) (e : Entry) → n ≤ j → slice_get order j ≡ Some e → touches e t (i / 64) ≡ false) → IsSameAfter a (between n (length order) order) b t i → block_in a t i ≡ block_in b t i
same_now a b n order t i none same =
    sym (untouched_all a (between n (length order) order) t i (λ j e is. none (n + j) e (omega arith) (between_get n (length order) order j e is))) ∙ same

-- ---- which segments wait to be copied

pub waiting_noted : (s : Session) (due : Due) (keys : ℕ → ℕ → Bool) (t g : ℕ) → is_waiting s (noted due keys t g) ≡ false → is_waiting s (due t g) ≡ false
waiting_noted s due keys t g not = grind (arith, nat_tests)

pub waiting_placed : (s : Session) (due : Due) (e : Entry) (place t g : ℕ) → is_waiting s (placed_due due (is_copying s) e place t g) ≡ false → is_waiting s (due t g) ≡ false
waiting_placed s due e place t g not = grind (arith, nat_tests)

pub waiting_marked : (s : Session) (o : Option ℕ) → 0 < s.mark → is_waiting s o ≡ false
waiting_marked s o some = grind (arith, nat_tests)

-- segments freed by places that are applied
pub outside_freed : (on : ℕ → Bool) (due : Due) (order : List Entry) (known : ℕ) (keys : ℕ → ℕ → Bool) (upto n : ℕ) (a b : Images) → upto ≤ n → ((t g : ℕ) → keys t g ≡ true → (place : ℕ) × (due t g ≡ Some place) × (0 < place) × (place ≤ upto)) → IsFreed due order known → ((t i place : ℕ) → on t ≡ true → due t (i / 64) ≡ Some place → 0 < place → IsSameAfter a (between n (length order) order) b t i) → SameOutside on due a b → SameOutside on (freed_due due keys) a b
outside_freed on due order known keys upto n a b le each f ahead s = record { each = λ t i here none. one t i here none (cases_Bool (keys t (i / 64))) }
  where
    kept : (c : Bool) (o : Option ℕ) → c ≡ false → is_some (cond c None o) ≡ false → is_some o ≡ false
    kept c o off none = grind arith

    one : (t i : ℕ) → on t ≡ true → has (freed_due due keys) t (i / 64) ≡ false → (keys t (i / 64) ≡ true) ⊎ (keys t (i / 64) ≡ false) → block_in a t i ≡ block_in b t i
    one t i here none (inl yes') =
        let k = each t (i / 64) yes' in
        let last : IsLast order known t (i / 64) k.0 = f.each t (i / 64) k.0 k.1 k.2 in
        same_now a b n order t i (λ j e low is. last.last j e (omega (arith, k.3)) is) (ahead t i k.0 here k.1 k.2)
    one t i here none (inr off) = s.each t i here (kept (keys t (i / 64)) (due t (i / 64)) off none)
