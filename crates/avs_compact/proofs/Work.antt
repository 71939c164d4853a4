-- Counts of written blocks, of one call after another, and sums of them.
use Rattle.std.proofs.Common.{◌≡◌, inl, inr, ℕ, zero, suc, ◌+◌, ◌-◌, ◌≤◌, ◌<◌, Bool, true, false, cond, eqb, [], Result, Ok, Err, OnOk, OnErr, refl, sym, ◌∙◌, ap, subst, arith}
use Rattle.std.specs.List.{range_with_len, sum_by}
use Rattle.std.proofs.lemmas.Bool.{cases_lt, lt-ltb, le-ltb}
use Rattle.std.proofs.lemmas.List.Sums.{sum_by-cons}
use Rattle.std.proofs.lemmas.Result.{on_ok_weaker, on_err_weaker}
use Rattle.avs_seg.proofs.Exits.{ok_exit, err_exit}
use Rattle.avs_dev.specs.Seen.{Seen}
use Rattle.avs_dev.specs.Memory.{counted}
use Rattle.avs_entries.proofs.Counted.{raised-none, raised-some, raised-then, raised_most}
use Rattle.avs_compact.specs.Disks.{CompactDisk, Master, Shadow, Bitmap, Over, four, raised, Adds}
use Rattle.avs_compact.specs.Work.{AddsUpTo, slot_work, slot_most, out_work, copy_work, copy_most, settle_work, settle_most, save_work, save_most}

-- one fact for each disk
pub each_disk : (P : CompactDisk → Type 0) → P Master → P Shadow → P Bitmap → P Over → (d : CompactDisk) → P d
each_disk P m s b o Master = m
each_disk P m s b o Shadow = s
each_disk P m s b o Bitmap = b
each_disk P m s b o Over = o

-- ---- one disk

pub same_written : (d d' : Seen) (k : ℕ) {T E : Type 0} (r : Result T E) → d'.written ≡ d.written → k ≡ 0 → OnOk r (d'.written ≡ raised d.written k)
same_written d d' k r same none = ok_exit r (same ∙ sym (raised-none d.written k none))

pub same_most : (d d' : Seen) (k : ℕ) {T E : Type 0} (r : Result T E) → d'.written ≡ d.written → OnErr r (d'.written ≤ d.written + k)
same_most d d' k r same = err_exit r (omega (arith, same))

pub now_written : (d d' : Seen) (k n : ℕ) {T E : Type 0} (r : Result T E) → 0 < n → k ≡ n → OnOk r (d'.written ≡ counted d.written n) → OnOk r (d'.written ≡ raised d.written k)
now_written d d' k n r some is = on_ok_weaker r (λ e. e ∙ sym (raised-some d.written n some) ∙ ap (λ (j : ℕ). raised d.written j) (sym is))

pub now_most : (d d' : Seen) (k : ℕ) {T E : Type 0} (r : Result T E) → OnErr r (d'.written ≡ d.written) → OnErr r (d'.written ≤ d.written + k)
now_most d d' k r = on_err_weaker r (λ e. omega (arith, e))

-- ---- all of them

pub adds_four : {T E : Type 0} (m s b o m' s' b' o' : Seen) (work : CompactDisk → ℕ) (r : Result T E)
    → OnOk r (m'.written ≡ raised m.written (work Master)) → OnOk r (s'.written ≡ raised s.written (work Shadow)) → OnOk r (b'.written ≡ raised b.written (work Bitmap)) → OnOk r (o'.written ≡ raised o.written (work Over))
    → OnErr r (m'.written ≤ m.written + work Master) → OnErr r (s'.written ≤ s.written + work Shadow) → OnErr r (b'.written ≤ b.written + work Bitmap) → OnErr r (o'.written ≤ o.written + work Over)
    → Adds (four m s b o) work r (four m' s' b' o')
adds_four m s b o m' s' b' o' work (Ok x) em es eb eo _ _ _ _ = record { done = each_disk (λ d. (four m' s' b' o' d).written ≡ raised (four m s b o d).written (work d)) em es eb eo; most = tt }
adds_four m s b o m' s' b' o' work (Err e) _ _ _ _ em es eb eo = record { done = tt; most = each_disk (λ d. (four m' s' b' o' d).written ≤ (four m s b o d).written + work d) em es eb eo }

pub adds_same : {T E : Type 0} (disks : CompactDisk → Seen) (work : CompactDisk → ℕ) (x : T) → ((d : CompactDisk) → work d ≡ 0) → Adds {E = E} disks work (Ok x) disks
adds_same disks work x none = record { done = λ d. sym (raised-none (disks d).written (work d) (none d)); most = tt }

pub adds_as : {T E : Type 0} (old new : CompactDisk → Seen) (v w : CompactDisk → ℕ) (r : Result T E) → ((d : CompactDisk) → v d ≡ w d) → Adds old v r new → Adds old w r new
adds_as old new v w r same p = record {
  done = on_ok_weaker r (λ n d. n d ∙ ap (λ (k : ℕ). raised (old d).written k) (same d)) p.done;
  most = on_err_weaker r (λ n d. omega (arith, n d, same d)) p.most;
}

-- so many at most, told otherwise
pub up_to : {T E : Type 0} (old new : CompactDisk → Seen) (work most : CompactDisk → ℕ) (r : Result T E) → ((d : CompactDisk) → work d ≤ most d) → Adds old work r new → AddsUpTo old work most r new
up_to old new work most r less p = record { done = p.done; stopped = on_err_weaker r (λ n d. omega (arith, n d, less d)) p.most }

pub up_to_none : {T E : Type 0} (disks : CompactDisk → Seen) (work most : CompactDisk → ℕ) (x : T) → ((d : CompactDisk) → work d ≡ 0) → AddsUpTo {E = E} disks work most (Ok x) disks
up_to_none disks work most x none = record { done = λ d. sym (raised-none (disks d).written (work d) (none d)); stopped = tt }

-- the same by other words
pub up_to_as : {T E : Type 0} (old new : CompactDisk → Seen) (v w v' w' : CompactDisk → ℕ) (r : Result T E) → OnOk r ((d : CompactDisk) → v d ≡ w d) → OnErr r ((d : CompactDisk) → v' d ≤ w' d) → AddsUpTo old v v' r new → AddsUpTo old w w' r new
up_to_as old new v w v' w' (Ok x) same _ p = record { done = λ d. p.done d ∙ ap (λ (k : ℕ). raised (old d).written k) (same d); stopped = tt }
up_to_as old new v w v' w' (Err e) _ less p = record { done = tt; stopped = λ d. omega (arith, p.stopped d, less d) }

-- one call after another
pub up_to_then : {T E T' E' : Type 0} (old mid new : CompactDisk → Seen) (v w v' w' : CompactDisk → ℕ) (x : T') (r : Result T E) → ((d : CompactDisk) → v d ≤ v' d) → AddsUpTo {E = E'} old v v' (Ok x) mid → AddsUpTo mid w w' r new
    → AddsUpTo old (λ d. v d + w d) (λ d. v' d + w' d) r new
up_to_then old mid new v w v' w' x r less p q = record {
  done = on_ok_weaker r (λ n d. n d ∙ ap (λ (k : ℕ). raised k (w d)) (p.done d) ∙ raised-then (old d).written (v d) (w d)) q.done;
  stopped = on_err_weaker r (λ n d. (let k : (mid d).written ≤ (old d).written + v d = subst (λ (j : ℕ). j ≤ (old d).written + v d) (sym (p.done d)) (raised_most (old d).written (v d)) in omega (arith, n d, k, less d))) q.stopped;
}

pub adds_then : {T E T' E' : Type 0} (old mid new : CompactDisk → Seen) (v w : CompactDisk → ℕ) (x : T') (r : Result T E) → Adds {E = E'} old v (Ok x) mid → Adds mid w r new → Adds old (λ d. v d + w d) r new
adds_then old mid new v w x r p q = record {
  done = on_ok_weaker r (λ n d. n d ∙ ap (λ (k : ℕ). raised k (w d)) (p.done d) ∙ raised-then (old d).written (v d) (w d)) q.done;
  most = on_err_weaker r (λ n d. (let k : (mid d).written ≤ (old d).written + v d = subst (λ (j : ℕ). j ≤ (old d).written + v d) (sym (p.done d)) (raised_most (old d).written (v d)) in omega (arith, n d, k))) q.most;
}

-- whatever is answered beside
pub up_to_err : {T E T' E' : Type 0} (old new : CompactDisk → Seen) (work most : CompactDisk → ℕ) (w' : CompactDisk → ℕ) (e : E) (e' : E') → AddsUpTo {T = T} old work most (Err e) new → AddsUpTo {T = T'} old w' most (Err e') new
up_to_err old new work most w' e e' p = record { done = tt; stopped = p.stopped }

pub up_to_ok : {T E T' E' : Type 0} (old new : CompactDisk → Seen) (work most : CompactDisk → ℕ) (x : T) (x' : T') → AddsUpTo {E = E} old work most (Ok x) new → AddsUpTo {E = E'} old work most (Ok x') new
up_to_ok old new work most x x' p = record { done = p.done; stopped = tt }

-- ---- one chunk writes so many at most

pub own_work : (own slot len : ℕ) → slot < own → (slot_work own slot len Shadow ≡ len) × (slot_work own slot len Over ≡ 0)
own_work own slot len lt = (ap (λ (b : Bool). cond b len 0) (lt-ltb slot own lt), ap (λ (b : Bool). cond b 0 len) (lt-ltb slot own lt))

pub over_work : (own slot len : ℕ) → own ≤ slot → (slot_work own slot len Shadow ≡ 0) × (slot_work own slot len Over ≡ len)
over_work own slot len past = (ap (λ (b : Bool). cond b len 0) (le-ltb slot own past), ap (λ (b : Bool). cond b 0 len) (le-ltb slot own past))

-- on both disks with slots together
pub both_work : (own slot len : ℕ) → slot_work own slot len Shadow + slot_work own slot len Over ≡ len
both_work own slot len = elim (cases_lt slot own) [
  | inl lt ↦ (let e = own_work own slot len lt in omega (arith, e.0, e.1))
  | inr past ↦ (let e = over_work own slot len past in omega (arith, e.0, e.1))
]

pub slot_less : (own slot len : ℕ) (d : CompactDisk) → slot_work own slot len d ≤ slot_most len d
slot_less own slot len Master = omega arith
slot_less own slot len Shadow = elim (cases_lt slot own) [
  | inl lt ↦ (let e = (own_work own slot len lt).0 in omega (arith, e))
  | inr past ↦ (let e = (over_work own slot len past).0 in omega (arith, e))
]
slot_less own slot len Bitmap = omega arith
slot_less own slot len Over = elim (cases_lt slot own) [
  | inl lt ↦ (let e = (own_work own slot len lt).1 in omega (arith, e))
  | inr past ↦ (let e = (over_work own slot len past).1 in omega (arith, e))
]

-- a choice of the smaller or the larger
if_less : (b : Bool) (x y x' y' : ℕ) → x ≤ x' → y ≤ y' → cond b x y ≤ cond b x' y'
if_less true x y x' y' p q = p
if_less false x y x' y' p q = q

same_less : (x : ℕ) → x ≤ x
same_less x = omega arith

pub copy_less : (own state slot len : ℕ) (d : CompactDisk) → copy_work own state slot len d ≤ copy_most state len d
copy_less own state slot len d = if_less (eqb state 0) _ _ _ _ (slot_less own slot len d) (same_less (cond (eqb state 3) (out_work len d) 0))

pub settle_less : (own state slot len : ℕ) (d : CompactDisk) → settle_work own state slot len d ≤ settle_most state len d
settle_less own state slot len Master = copy_less own state slot len Master
settle_less own state slot len Shadow = copy_less own state slot len Shadow
settle_less own state slot len Bitmap = omega arith
settle_less own state slot len Over = copy_less own state slot len Over

pub copy_settle : (own state slot len : ℕ) (d : CompactDisk) → copy_work own state slot len d ≤ settle_work own state slot len d
copy_settle own state slot len Master = same_less (copy_work own state slot len Master)
copy_settle own state slot len Shadow = same_less (copy_work own state slot len Shadow)
copy_settle own state slot len Bitmap = none_on (eqb state 0) (eqb state 3)
  where
    none_on : (a b : Bool) → cond a 0 (cond b 0 0) ≤ 1
    none_on true b = omega arith
    none_on false true = omega arith
    none_on false false = omega arith
copy_settle own state slot len Over = same_less (copy_work own state slot len Over)

pub save_less : (own state slot len : ℕ) (d : CompactDisk) → save_work own state slot len d ≤ save_most state len d
save_less own state slot len d = if_less (eqb state 2) _ _ _ _ (same_less 0) (settle_less own state slot len d)

-- ---- sums

pub sum_on : (f : ℕ → ℕ) (a n : ℕ) → sum_by f (range_with_len a (suc n)) ≡ sum_by f (range_with_len a n) + f (a + n)
sum_on f a zero =
    let here : a ≡ a + 0 = omega arith in
    let one = sum_by-cons f a [] in
    let last : f a ≡ f (a + 0) = ap f here in
    omega (arith, one, last)
sum_on f a (suc n) =
    let here : a + 1 + n ≡ a + suc n = omega arith in
    let rest = sum_on f (a + 1) n in
    let last : f (a + 1 + n) ≡ f (a + suc n) = ap f here in
    let long = sum_by-cons f a (range_with_len (a + 1) (suc n)) in
    let short = sum_by-cons f a (range_with_len (a + 1) n) in
    omega (arith, rest, last, long, short)

pub sum_more : (f : ℕ → ℕ) (a n : ℕ) → sum_by f (range_with_len a (n + 1)) ≡ sum_by f (range_with_len a n) + f (a + n)
sum_more f a n = (let next : n + 1 ≡ suc n = omega arith in ap (λ (k : ℕ). sum_by f (range_with_len a k)) next ∙ sum_on f a n)

pub sum_one : (f : ℕ → ℕ) (a : ℕ) → sum_by f (range_with_len a 1) ≡ f a
sum_one f a = (let here : a + 0 ≡ a = omega arith in let last : f (a + 0) ≡ f a = ap f here in let all = sum_on f a 0 in omega (arith, all, last))

pub sum_plus : (f : ℕ → ℕ) (a n k : ℕ) → sum_by f (range_with_len a (n + k)) ≡ sum_by f (range_with_len a n) + sum_by f (range_with_len (a + n) k)
sum_plus f a n zero = (let e : n + 0 ≡ n = omega arith in ap (λ (j : ℕ). sum_by f (range_with_len a j)) e ∙ omega arith)
sum_plus f a n (suc k) =
    let e : n + suc k ≡ suc (n + k) = omega arith in
    let long : sum_by f (range_with_len a (n + suc k)) ≡ sum_by f (range_with_len a (n + k)) + f (a + (n + k)) = ap (λ (j : ℕ). sum_by f (range_with_len a j)) e ∙ sum_on f a (n + k) in
    let place : a + (n + k) ≡ a + n + k = omega arith in
    let last : f (a + (n + k)) ≡ f (a + n + k) = ap f place in
    omega (arith, long, last, sum_plus f a n k, sum_on f (a + n) k)

pub sum_parts : (f : ℕ → ℕ) (first c end : ℕ) → first ≤ c → c ≤ end → sum_by f (range_with_len first (end - first)) ≡ sum_by f (range_with_len first (c - first)) + sum_by f (range_with_len c (end - c))
sum_parts f first c end low high =
    let whole : end - first ≡ c - first + (end - c) = omega (arith, low, high) in
    let here : first + (c - first) ≡ c = omega (arith, low) in
    ap (λ (k : ℕ). sum_by f (range_with_len first k)) whole
    ∙ sum_plus f first (c - first) (end - c)
    ∙ ap (λ (k : ℕ). sum_by f (range_with_len first (c - first)) + sum_by f (range_with_len k (end - c))) here

pub sum_longer : (f : ℕ → ℕ) (a n m : ℕ) → n ≤ m → sum_by f (range_with_len a n) ≤ sum_by f (range_with_len a m)
sum_longer f a n m le =
    let e : n + (m - n) ≡ m = omega (arith, le) in
    subst (λ (k : ℕ). sum_by f (range_with_len a n) ≤ sum_by f (range_with_len a k)) e (omega (arith, sum_plus f a n (m - n)))

pub sum_same : (f g : ℕ → ℕ) (a n : ℕ) → ((c : ℕ) → a ≤ c → c < a + n → g c ≡ f c) → sum_by g (range_with_len a n) ≡ sum_by f (range_with_len a n)
sum_same f g a zero same = refl
sum_same f g a (suc n) same =
    let last : g (a + n) ≡ f (a + n) = same (a + n) (omega arith) (omega arith) in
    let rest = sum_same f g a n (λ c low lt. same c low (omega (arith, lt))) in
    omega (arith, sum_on f a n, sum_on g a n, last, rest)

pub sum_below : (f g : ℕ → ℕ) (a n : ℕ) → ((c : ℕ) → f c ≤ g c) → sum_by f (range_with_len a n) ≤ sum_by g (range_with_len a n)
sum_below f g a zero less = omega arith
sum_below f g a (suc n) less = omega (arith, sum_on f a n, sum_on g a n, less (a + n), sum_below f g a n less)

pub sum_zeros : (f : ℕ → ℕ) (a n : ℕ) → ((c : ℕ) → a ≤ c → c < a + n → f c ≡ 0) → sum_by f (range_with_len a n) ≡ 0
sum_zeros f a zero none = refl
sum_zeros f a (suc n) none = omega (arith, sum_on f a n, none (a + n) (omega arith) (omega arith), sum_zeros f a n (λ c low lt. none c low (omega (arith, lt))))

pub sum_ones : (f : ℕ → ℕ) (a n : ℕ) → ((c : ℕ) → a ≤ c → c < a + n → f c ≡ 1) → sum_by f (range_with_len a n) ≡ n
sum_ones f a zero each = refl
sum_ones f a (suc n) each = omega (arith, sum_on f a n, each (a + n) (omega arith) (omega arith), sum_ones f a n (λ c low lt. each c low (omega (arith, lt))))

-- blocks of one slot
pub sum_slot : (own slot a n : ℕ) (g : ℕ → ℕ) (d : CompactDisk) → ((i : ℕ) → a ≤ i → i < a + n → g i ≡ slot) → sum_by (λ i. slot_work own (g i) 1 d) (range_with_len a n) ≡ slot_work own slot n d
sum_slot own slot a n g Master is = sum_zeros _ a n (λ i low lt. refl)
sum_slot own slot a n g Shadow is = elim (cases_lt slot own) [
  | inl lt ↦ sum_ones _ a n (λ i low high. (own_work own (g i) 1 (omega (arith, lt, is i low high))).0) ∙ sym (own_work own slot n lt).0
  | inr past ↦ sum_zeros _ a n (λ i low high. (over_work own (g i) 1 (omega (arith, past, is i low high))).0) ∙ sym (over_work own slot n past).0
]
sum_slot own slot a n g Bitmap is = sum_zeros _ a n (λ i low lt. refl)
sum_slot own slot a n g Over is = elim (cases_lt slot own) [
  | inl lt ↦ sum_zeros _ a n (λ i low high. (own_work own (g i) 1 (omega (arith, lt, is i low high))).1) ∙ sym (own_work own slot n lt).1
  | inr past ↦ sum_ones _ a n (λ i low high. (over_work own (g i) 1 (omega (arith, past, is i low high))).1) ∙ sym (over_work own slot n past).1
]

-- blocks in slots, whichever
pub sum_most : (own a n : ℕ) (g : ℕ → ℕ) (d : CompactDisk) → sum_by (λ i. slot_work own (g i) 1 d) (range_with_len a n) ≤ slot_most n d
sum_most own a n g Master = (let none = sum_zeros (λ i. slot_work own (g i) 1 Master) a n (λ i low lt. refl) in omega (arith, none))
sum_most own a n g Shadow = (let all = sum_below (λ i. slot_work own (g i) 1 Shadow) (λ _. 1) a n (λ i. slot_less own (g i) 1 Shadow) in let ones = sum_ones (λ _. 1) a n (λ i low lt. refl) in omega (arith, all, ones))
sum_most own a n g Bitmap = (let none = sum_zeros (λ i. slot_work own (g i) 1 Bitmap) a n (λ i low lt. refl) in omega (arith, none))
sum_most own a n g Over = (let all = sum_below (λ i. slot_work own (g i) 1 Over) (λ _. 1) a n (λ i. slot_less own (g i) 1 Over) in let ones = sum_ones (λ _. 1) a n (λ i low lt. refl) in omega (arith, all, ones))

-- ---- the copy of a chunk, and then the block with its entry

module _ (own state slot len : ℕ) (m m' s s' b b' o o' : Seen) where
  rose : (a a' k most : ℕ) → a' ≡ raised a k → k ≤ most → a' ≤ a + most
  rose a a' k most is less = subst (λ (n : ℕ). n ≤ a + most) (sym is) (omega (arith, raised_most a k, less))

  pub settled_adds : {T E : Type 0} (r : Result T E) → ((d : CompactDisk) → (four m' s' b o' d).written ≡ raised (four m s b o d).written (copy_work own state slot len d)) → OnOk r (b'.written ≡ counted b.written 1) → OnErr r (b'.written ≡ b.written)
      → AddsUpTo (four m s b o) (settle_work own state slot len) (settle_most state len) r (four m' s' b' o')
  settled_adds (Ok x) done one none = record {
    done = each_disk (λ d. (four m' s' b' o' d).written ≡ raised (four m s b o d).written (settle_work own state slot len d)) (done Master) (done Shadow) one (done Over);
    stopped = tt;
  }
  settled_adds (Err e) done one none = record {
    done = tt;
    stopped = each_disk (λ d. (four m' s' b' o' d).written ≤ (four m s b o d).written + settle_most state len d)
        (rose m.written m'.written _ _ (done Master) (copy_less own state slot len Master))
        (rose s.written s'.written _ _ (done Shadow) (copy_less own state slot len Shadow))
        (omega (arith, none))
        (rose o.written o'.written _ _ (done Over) (copy_less own state slot len Over));
  }
