-- Bits that are not as a change makes them, and the blocks in which there is one.
use Rattle.std.proofs.Common.{◌≡◌, inl, inr, ℕ, zero, suc, ◌+◌, ◌-◌, ◌*◌, ◌/◌, ◌<◌, ◌≤◌, min, max, Bool, true, false, cond, ◌||◌, List, get_or, ap, sym, refl, ◌∙◌, arith}
use Rattle.std.specs.Prelude.{count_by}
use Rattle.std.specs.List.{list_any, range_with_len}
use Rattle.std.proofs.lemmas.Bool.{cases_Bool, cases_eq, eq-eqb, ne_eqb, true≢false}
use Rattle.std.proofs.lemmas.List.{map-id}
use Rattle.std.proofs.lemmas.List.Folds.{list_any_none, list_any_at}
use Rattle.std.proofs.lemmas.List.FromFn.{length-range_with_len, get_or-range_with_len, sum_by-map-range_with_len_more}
use Rattle.std.proofs.lemmas.List.Sums.{sum_by-cons}
use Rattle.avs_dev.specs.Memory.{counted}
use Rattle.avs_bits.specs.Bit.{bit_of, is_other, has_other, is_due, due_below, due_count, raised, IsPut}

as_on : (on bit : Bool) → is_other on bit ≡ false → bit ≡ on
as_on true true is = refl
as_on true false is = sym is
as_on false true is = is
as_on false false is = refl

not_other : (on bit : Bool) → bit ≡ on → is_other on bit ≡ false
not_other true true is = refl
not_other true false is = sym is
not_other false true is = is
not_other false false is = refl

pub has_other_none : (bits : ℕ → Bool) (first end : ℕ) (on : Bool) → ((p : ℕ) → first ≤ p → p < end → bits p ≡ on) → has_other bits first end on ≡ false
unfolding has_other
has_other_none bits first end on all =
    list_any_none (λ p. is_other on (bits p)) (range_with_len first (end - first)) (λ k d lt.
    let short : k < end - first = omega (arith, lt, length-range_with_len first (end - first)) in
    let there : get_or (range_with_len first (end - first)) k d ≡ first + k = get_or-range_with_len first (end - first) k d short in
    ap (λ (p : ℕ). is_other on (bits p)) there ∙ not_other on (bits (first + k)) (all (first + k) (omega arith) (omega arith)))

pub none_other : (bits : ℕ → Bool) (first end : ℕ) (on : Bool) → has_other bits first end on ≡ false → (p : ℕ) → first ≤ p → p < end → bits p ≡ on
unfolding has_other
none_other bits first end on none p low high = elim (cases_Bool (is_other on (bits p))) [
  | inl other ↦
      let short : p - first < end - first = omega arith in
      let there : get_or (range_with_len first (end - first)) (p - first) 0 ≡ first + (p - first) = get_or-range_with_len first (end - first) (p - first) 0 short in
      let at : first + (p - first) ≡ p = omega arith in
      absurd (true≢false (sym (list_any_at (λ q. is_other on (bits q)) (range_with_len first (end - first)) (p - first) 0 (omega (arith, short, length-range_with_len first (end - first))) (ap (λ (q : ℕ). is_other on (bits q)) (there ∙ at) ∙ other)) ∙ none))
  | inr same ↦ as_on on (bits p) same
]

-- whether a change of bits changed one is whether one was other
pub has_other_is : (old new : List ℕ) (from to : ℕ) (on r : Bool) → IsPut (bit_of old) (bit_of new) from to on → (r ≡ false → new ≡ old) → (((p : ℕ) → from ≤ p → p < to → bit_of old p ≡ on) → r ≡ false) → has_other (bit_of old) from to on ≡ r
has_other_is old new from to on r put kept idle = elim (cases_Bool r) [
  | inl is_true ↦ elim (cases_Bool (has_other (bit_of old) from to on)) [
    | inl other ↦ other ∙ sym is_true
    | inr none ↦ absurd (true≢false (sym is_true ∙ idle (none_other (bit_of old) from to on none)))
  ]
  | inr is_false ↦ has_other_none (bit_of old) from to on (λ p low high. sym (ap (λ (l : List ℕ). bit_of l p) (kept is_false)) ∙ put.inside p low high) ∙ sym is_false
]

-- where the bits are the same, so is the answer
pub has_other_same : (old mid : ℕ → Bool) (first end : ℕ) (on : Bool) → ((p : ℕ) → first ≤ p → p < end → mid p ≡ old p) → has_other mid first end on ≡ has_other old first end on
has_other_same old mid first end on same = elim (cases_Bool (has_other old first end on)) [
  | inr none ↦ has_other_none mid first end on (λ p low high. same p low high ∙ none_other old first end on none p low high) ∙ sym none
  | inl other ↦ elim (cases_Bool (has_other mid first end on)) [
    | inl also ↦ also ∙ sym other
    | inr none ↦ absurd (true≢false (sym other ∙ has_other_none old first end on (λ p low high. sym (same p low high) ∙ none_other mid first end on none p low high)))
  ]
]

-- a block of a change that was made below it
pub due_is : (old mid : ℕ → Bool) (first end block low high : ℕ) (on : Bool) → low ≡ max first (4096 * block) → high ≡ min end (4096 * (block + 1)) → IsPut old mid first (min (4096 * block) end) on → has_other mid low high on ≡ is_due old first end on block
due_is old mid first end block low high on low_is high_is put =
    has_other_same old mid low high on (λ p above below. put.outside p (inr (omega arith)))
    ∙ ap (λ (k : ℕ). has_other old k high on) low_is
    ∙ ap (λ (k : ℕ). has_other old (max first (4096 * block)) k on) high_is

count_more : (p : ℕ → Bool) (a n j : ℕ) → a + n ≡ j → count_by p (range_with_len a (n + 1)) ≡ count_by p (range_with_len a n) + cond (p j) 1 0
count_more p a n j e =
    sym (ap (count_by p) (map-id (range_with_len a (n + 1))))
    ∙ sum_by-map-range_with_len_more (λ k. cond (p k) 1 0) (λ k. k) a n j e
    ∙ ap (λ (l : List ℕ). count_by p l + cond (p j) 1 0) (map-id (range_with_len a n))

pub due_below_more : (bits : ℕ → Bool) (first end : ℕ) (on : Bool) (k : ℕ) → first / 4096 ≤ k → due_below bits first end on (k + 1) ≡ due_below bits first end on k + cond (is_due bits first end on k) 1 0
unfolding due_below
due_below_more bits first end on k le =
    let one_more : k + 1 - first / 4096 ≡ k - first / 4096 + 1 = omega arith in
    ap (λ (n : ℕ). count_by (is_due bits first end on) (range_with_len (first / 4096) n)) one_more
    ∙ count_more (is_due bits first end on) (first / 4096) (k - first / 4096) k (omega arith)

pub due_below_none : (bits : ℕ → Bool) (first end : ℕ) (on : Bool) (k : ℕ) → k ≤ first / 4096 → due_below bits first end on k ≡ 0
unfolding due_below
due_below_none bits first end on k le =
    let none : k - first / 4096 ≡ 0 = omega arith in
    ap (λ (n : ℕ). count_by (is_due bits first end on) (range_with_len (first / 4096) n)) none

-- ---- bits that lie behind the first block

any_shifted : (f : ℕ → Bool) (a b n : ℕ) → b ≡ 4096 + a → list_any f (range_with_len b n) ≡ list_any (λ s. f (4096 + s)) (range_with_len a n)
any_shifted f a b zero is = refl
any_shifted f a b (suc n) is =
    ap (λ (k : ℕ). f k || list_any f (range_with_len (b + 1) n)) is
    ∙ ap (λ (t : Bool). f (4096 + a) || t) (any_shifted f (a + 1) (b + 1) n (omega arith))

has_other_shifted : (bits : ℕ → Bool) (low high low' high' : ℕ) (on : Bool) → low' ≡ 4096 + low → high' ≡ 4096 + high → has_other bits low' high' on ≡ has_other (λ s. bits (4096 + s)) low high on
unfolding has_other
has_other_shifted bits low high low' high' on low_is high_is =
    let long : high' - low' ≡ high - low = omega arith in
    ap (λ (n : ℕ). list_any (λ p. is_other on (bits p)) (range_with_len low' n)) long
    ∙ any_shifted (λ p. is_other on (bits p)) low low' (high - low) low_is

pub is_due_shifted : (bits : ℕ → Bool) (first end : ℕ) (on : Bool) (k : ℕ) → is_due bits (4096 + first) (4096 + end) on (k + 1) ≡ is_due (λ s. bits (4096 + s)) first end on k
is_due_shifted bits first end on k = has_other_shifted bits (max first (4096 * k)) (min end (4096 * (k + 1))) (max (4096 + first) (4096 * (k + 1))) (min (4096 + end) (4096 * (k + 1 + 1))) on (omega arith) (omega arith)

count_shifted : (p q : ℕ → Bool) → ((k : ℕ) → p (k + 1) ≡ q k) → (a b n : ℕ) → b ≡ a + 1 → count_by p (range_with_len b n) ≡ count_by q (range_with_len a n)
count_shifted p q same a b zero is = refl
count_shifted p q same a b (suc n) is =
    let here : p b ≡ q a = ap p is ∙ same a in
    sum_by-cons (λ k. cond (p k) 1 0) b (range_with_len (b + 1) n)
    ∙ ap (λ (m : ℕ). cond (p b) 1 0 + m) (count_shifted p q same (a + 1) (b + 1) n (omega arith))
    ∙ ap (λ (t : Bool). cond t 1 0 + count_by q (range_with_len (a + 1) n)) here
    ∙ sym (sum_by-cons (λ k. cond (q k) 1 0) a (range_with_len (a + 1) n))

pub due_below_shifted : (bits : ℕ → Bool) (first end : ℕ) (on : Bool) (k k' : ℕ) → k' ≡ k + 1 → due_below bits (4096 + first) (4096 + end) on k' ≡ due_below (λ s. bits (4096 + s)) first end on k
unfolding due_below
due_below_shifted bits first end on k k' is =
    let long : k' - (4096 + first) / 4096 ≡ k - first / 4096 = omega arith in
    ap (λ (n : ℕ). count_by (is_due bits (4096 + first) (4096 + end) on) (range_with_len ((4096 + first) / 4096) n)) long
    ∙ count_shifted (is_due bits (4096 + first) (4096 + end) on) (is_due (λ s. bits (4096 + s)) first end on) (is_due_shifted bits first end on) (first / 4096) ((4096 + first) / 4096) (k - first / 4096) (omega arith)

pub due_count_shifted : (bits : ℕ → Bool) (first end : ℕ) (on : Bool) → due_count bits (4096 + first) (4096 + end) on ≡ due_count (λ s. bits (4096 + s)) first end on
due_count_shifted bits first end on = due_below_shifted bits first end on ((end + 4095) / 4096) ((4096 + end + 4095) / 4096) (omega arith)

-- ---- counts of blocks that were written

raised_none : (before n : ℕ) → n ≡ 0 → raised before n ≡ before
raised_none before n none = ap (λ (b : Bool). cond b before (counted before n)) (eq-eqb n 0 none)

raised_some : (before n : ℕ) → 0 < n → raised before n ≡ counted before n
raised_some before n some = ap (λ (b : Bool). cond b before (counted before n)) (ne_eqb n 0 (λ none. omega arith))

pub raised_more : (before a b : ℕ) → raised (raised before a) b ≡ raised before (a + b)
raised_more before a b = elim (cases_eq a 0) [
  | inl none ↦
      let same : b ≡ a + b = omega arith in
      ap (λ (n : ℕ). raised n b) (raised_none before a none) ∙ ap (raised before) same
  | inr some ↦ elim (cases_eq b 0) [
    | inl none ↦
        let same : a ≡ a + b = omega arith in
        raised_none (raised before a) b none ∙ ap (raised before) same
    | inr more ↦
        let twice : counted (counted before a) b ≡ counted before (a + b) = omega arith in
        raised_some (raised before a) b (omega (arith, more))
        ∙ ap (λ (n : ℕ). counted n b) (raised_some before a (omega (arith, some)))
        ∙ twice
        ∙ sym (raised_some before (a + b) (omega (arith, some)))
  ]
]

pub written_none : (old : ℕ → Bool) (first end : ℕ) (on : Bool) (block before : ℕ) → block ≤ first / 4096 → before ≡ raised before (due_below old first end on block)
written_none old first end on block before none = sym (raised_none before (due_below old first end on block) (due_below_none old first end on block none))

-- the write of a block that changed
pub written_due : (other : Bool) (before after len : ℕ) → other ≡ true → len ≡ 512 → after ≡ counted before (len / 512) → after ≡ raised before (cond other 1 0)
written_due other before after len due long is =
    let one_block : len / 512 ≡ 1 = omega arith in
    is ∙ ap (counted before) one_block ∙ sym (ap (λ (b : Bool). raised before (cond b 1 0)) due)

pub unwritten_idle : (other : Bool) (before : ℕ) → other ≡ false → before ≡ raised before (cond other 1 0)
unwritten_idle other before none = sym (ap (λ (b : Bool). raised before (cond b 1 0)) none)

-- the blocks below one were written, and then it was where it changed
pub written_more : (old mid : ℕ → Bool) (first end block low high : ℕ) (on : Bool) (before then now : ℕ) → first / 4096 ≤ block → low ≡ max first (4096 * block) → high ≡ min end (4096 * (block + 1)) → IsPut old mid first (min (4096 * block) end) on
    → then ≡ raised before (due_below old first end on block) → now ≡ raised then (cond (has_other mid low high on) 1 0) → now ≡ raised before (due_below old first end on (block + 1))
written_more old mid first end block low high on before then now from low_is high_is put below here =
    here
    ∙ ap (λ (b : Bool). raised then (cond b 1 0)) (due_is old mid first end block low high on low_is high_is put)
    ∙ ap (λ (n : ℕ). raised n (cond (is_due old first end on block) 1 0)) below
    ∙ raised_more before (due_below old first end on block) (cond (is_due old first end on block) 1 0)
    ∙ sym (ap (raised before) (due_below_more old first end on block from))
