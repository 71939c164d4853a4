-- The table of a set's own slots, and how many slots its entries use.
use Rattle.std.proofs.Common.{◌≡◌, ◌≢◌, ◌⊎◌, inl, inr, ℕ, zero, suc, ◌+◌, ◌<◌, ◌≤◌, Bool, true, false, not, cond, eqb, [], ◌∷◌, length, set, replicate, Option, None, Some, is_some, refl, sym, ◌∙◌, ap, subst, arith}
use Rattle.std.specs.Prelude.{nat_lt, nat_le, ◌&&◌}
use Rattle.std.proofs.lemmas.Bool.{cases_lt, cases_eq, false≢true, eq-eqb, lt-ltb, le-ltb, le-leb, lt-leb}
use Rattle.std.proofs.lemmas.Bool.Decides.{eqb_tells}
use Rattle.std.proofs.lemmas.List.{get_or-set_same, get_or-set_other}
use Rattle.std.proofs.Math.ListN.{length-set}
use Rattle.std.proofs.lemmas.List.Sums.{sum_by-cons}
use Rattle.avs_over.specs.Slots.{Owners, owner_at, used_in, given_to, is_of}
use Rattle.avs_over.proofs.Giving.{used_more, used_none}
use Rattle.avs_entries.specs.Entries.{slot_by, IsEntry}
use Rattle.avs_entries.specs.Counting.{is_touched, is_own, is_over, count_of}
use Rattle.avs_entries.specs.Slots.{AreEntries, HasBadEntry, Marks, MarksOne, IsBadMark}
use Rattle.avs_entries.specs.declared.marks.Counts.{Counts}
use Rattle.avs_entries.proofs.Counted.{count_more, count_none, count_sum, one_most}

-- ---- whose slot an entry tells

pub own_yes : (own e : ℕ) → e ≢ 0 → slot_by e < own → is_own own e ≡ true
own_yes own e some lt = own_if (eqb_tells e 0)
  where
    own_if : ((eqb e 0 ≡ true) × (e ≡ 0)) ⊎ ((eqb e 0 ≡ false) × (e ≢ 0)) → is_own own e ≡ true
    own_if (inl z) = absurd (some z.1)
    own_if (inr n) = ap (λ (b : Bool). not b && nat_lt (slot_by e) own) n.0 ∙ lt-ltb (slot_by e) own lt

pub own_no : (own e : ℕ) → (e ≡ 0) ⊎ (own ≤ slot_by e) → is_own own e ≡ false
own_no own e (inl z) = ap (λ (b : Bool). not b && nat_lt (slot_by e) own) (eq-eqb e 0 z)
own_no own e (inr past) = no_if (eqb_tells e 0)
  where
    no_if : ((eqb e 0 ≡ true) × (e ≡ 0)) ⊎ ((eqb e 0 ≡ false) × (e ≢ 0)) → is_own own e ≡ false
    no_if (inl z) = ap (λ (b : Bool). not b && nat_lt (slot_by e) own) z.0
    no_if (inr n) = ap (λ (b : Bool). not b && nat_lt (slot_by e) own) n.0 ∙ le-ltb (slot_by e) own past

pub over_yes : (own e : ℕ) → e ≢ 0 → own ≤ slot_by e → is_over own e ≡ true
over_yes own e some past = yes_if (eqb_tells e 0)
  where
    yes_if : ((eqb e 0 ≡ true) × (e ≡ 0)) ⊎ ((eqb e 0 ≡ false) × (e ≢ 0)) → is_over own e ≡ true
    yes_if (inl z) = absurd (some z.1)
    yes_if (inr n) = ap (λ (b : Bool). not b && nat_le own (slot_by e)) n.0 ∙ le-leb own (slot_by e) past

pub over_no : (own e : ℕ) → (e ≡ 0) ⊎ (slot_by e < own) → is_over own e ≡ false
over_no own e (inl z) = ap (λ (b : Bool). not b && nat_le own (slot_by e)) (eq-eqb e 0 z)
over_no own e (inr lt) = no_if (eqb_tells e 0)
  where
    no_if : ((eqb e 0 ≡ true) × (e ≡ 0)) ⊎ ((eqb e 0 ≡ false) × (e ≢ 0)) → is_over own e ≡ false
    no_if (inl z) = ap (λ (b : Bool). not b && nat_le own (slot_by e)) z.0
    no_if (inr n) = ap (λ (b : Bool). not b && nat_le own (slot_by e)) n.0 ∙ lt-leb own (slot_by e) lt

-- an entry has no slot, one of the set's own, or one of the overflow volume
data Whose (own e : ℕ) : Type 0 where
  Nobodys : e ≡ 0 → Whose own e
  Own : e ≢ 0 → slot_by e < own → Whose own e
  Over : e ≢ 0 → own ≤ slot_by e → Whose own e

whose : (own e : ℕ) → Whose own e
whose own e = elim (cases_eq e 0) [
  | inl z ↦ Nobodys z
  | inr some ↦ elim (cases_lt (slot_by e) own) [ inl lt ↦ Own some lt | inr past ↦ Over some past ]
]

pub touched_yes : (e : ℕ) → e ≢ 0 → is_touched e ≡ true
touched_yes e some = yes_if (eqb_tells e 0)
  where
    yes_if : ((eqb e 0 ≡ true) × (e ≡ 0)) ⊎ ((eqb e 0 ≡ false) × (e ≢ 0)) → is_touched e ≡ true
    yes_if (inl z) = absurd (some z.1)
    yes_if (inr n) = ap not n.0

one_of : (own e : ℕ) → cond (is_touched e) 1 0 ≡ cond (is_own own e) 1 0 + cond (is_over own e) 1 0
one_of own e = by_whose (whose own e)
  where
    sums : {t p q : Bool} (t' p' q' : Bool) → t ≡ t' → p ≡ p' → q ≡ q' → cond t' 1 0 ≡ cond p' 1 0 + cond q' 1 0 → cond t 1 0 ≡ cond p 1 0 + cond q 1 0
    sums t' p' q' a b c e = rw (a, b, c) e

    by_whose : Whose own e → cond (is_touched e) 1 0 ≡ cond (is_own own e) 1 0 + cond (is_over own e) 1 0
    by_whose (Nobodys z) = sums false false false (ap not (eq-eqb e 0 z)) (own_no own e (inl z)) (over_no own e (inl z)) refl
    by_whose (Own some lt) = sums true true false (touched_yes e some) (own_yes own e some lt) (over_no own e (inr lt)) refl
    by_whose (Over some past) = sums true false true (touched_yes e some) (own_no own e (inr past)) (over_yes own e some past) refl

-- what a set needs is what it uses of both
pub need_is : (own : ℕ) (entries : ℕ → ℕ) (n : ℕ) → count_of is_touched entries n ≡ count_of (is_own own) entries n + count_of (is_over own) entries n
need_is own entries n = count_sum (λ k. is_own own (entries k)) (λ k. is_over own (entries k)) (λ k. is_touched (entries k)) n (λ k. one_of own (entries k))

-- ---- one entry

pub marks_nobodys : (table : Owners) (counts : Counts) (chunk e : ℕ) → e ≡ 0 → MarksOne table counts chunk e table counts
marks_nobodys table counts chunk e z = record {
  form = inl z;
  free = λ yes. absurd (false≢true (sym (own_no (length table) e (inl z)) ∙ yes));
  table = ap (λ (b : Bool). cond b (set table (slot_by e) (Some chunk)) table) (sym (own_no (length table) e (inl z)));
  own = (let k : counts.own ≡ counts.own + 0 = omega arith in k) ∙ ap (λ (b : Bool). counts.own + cond b 1 0) (sym (own_no (length table) e (inl z)));
  over = (let k : counts.over ≡ counts.over + 0 = omega arith in k) ∙ ap (λ (b : Bool). counts.over + cond b 1 0) (sym (over_no (length table) e (inl z)));
}

pub marks_over : (table : Owners) (counts after : Counts) (chunk e : ℕ) → e ≢ 0 → IsEntry e → length table ≤ slot_by e → after.own ≡ counts.own → after.over ≡ counts.over + 1 → MarksOne table counts chunk e table after
marks_over table counts after chunk e some form past same more = record {
  form = form;
  free = λ yes. absurd (false≢true (sym (own_no (length table) e (inr past)) ∙ yes));
  table = ap (λ (b : Bool). cond b (set table (slot_by e) (Some chunk)) table) (sym (own_no (length table) e (inr past)));
  own = same ∙ (let k : counts.own ≡ counts.own + 0 = omega arith in k) ∙ ap (λ (b : Bool). counts.own + cond b 1 0) (sym (own_no (length table) e (inr past)));
  over = more ∙ ap (λ (b : Bool). counts.over + cond b 1 0) (sym (over_yes (length table) e some past));
}

pub marks_own : (table : Owners) (counts after : Counts) (chunk e : ℕ) → e ≢ 0 → IsEntry e → slot_by e < length table → owner_at table (slot_by e) ≡ None → after.own ≡ counts.own + 1 → after.over ≡ counts.over → MarksOne table counts chunk e (set table (slot_by e) (Some chunk)) after
marks_own table counts after chunk e some form lt free more same = record {
  form = form;
  free = λ _. free;
  table = ap (λ (b : Bool). cond b (set table (slot_by e) (Some chunk)) table) (sym (own_yes (length table) e some lt));
  own = more ∙ ap (λ (b : Bool). counts.own + cond b 1 0) (sym (own_yes (length table) e some lt));
  over = same ∙ (let k : counts.over ≡ counts.over + 0 = omega arith in k) ∙ ap (λ (b : Bool). counts.over + cond b 1 0) (sym (over_no (length table) e (inr lt)));
}

-- ---- all entries

free_at : (n slot : ℕ) → owner_at (replicate n None) slot ≡ None
free_at zero slot = refl
free_at (suc n) zero = refl
free_at (suc n) (suc slot) = free_at n slot

pub some_none : (a : Option ℕ) (c : ℕ) → a ≡ None → a ≡ Some c → ⊥
some_none a c x y = not_some (sym y ∙ x)
  where
    not_some : Some c ≡ None → ⊥
    not_some e = cc

pub same_some : (a b : ℕ) → Some a ≡ Some b → a ≡ b
same_some a b e = ap (λ (o : Option ℕ). value o) e
  where
    value : Option ℕ → ℕ
    value None = a
    value (Some x) = x

pub marks_none : (entries : ℕ → ℕ) (table : Owners) (counts : Counts) → table ≡ replicate (length table) None → counts.own ≡ 0 → counts.over ≡ 0 → Marks entries (length table) 0 table counts
marks_none entries table counts is own over = record {
  form = λ c lt. absurd (omega (arith, lt));
  long = refl;
  marked = record {
    given = λ c lt. absurd (omega (arith, lt));
    others = λ k c e. absurd (some_none (owner_at table k) c (ap (λ (l : Owners). owner_at l k) is ∙ free_at (length table) k) e);
  };
  in_table = ap used_in is ∙ used_none (length table) ∙ sym own;
  own_count = own;
  over_count = over;
}

module _ (entries : ℕ → ℕ) (own n : ℕ) (T T' : Owners) (before after : Counts) (p : Marks entries own n T before) (q : MarksOne T before n (entries n) T' after) where
  -- the chunk behind is the last, or one before it
  form : (c : ℕ) → c < n + 1 → IsEntry (entries c)
  form c lt = elim (cases_lt c n) [
    | inl low ↦ p.form c low
    | inr high ↦ (let e : n ≡ c = omega (arith, lt, high) in subst (λ (k : ℕ). IsEntry (entries k)) e q.form)
  ]

  own_is : is_own own (entries n) ≡ is_own (length T) (entries n)
  own_is = ap (λ (k : ℕ). is_own k (entries n)) (sym p.long)

  over_is : is_over own (entries n) ≡ is_over (length T) (entries n)
  over_is = ap (λ (k : ℕ). is_over k (entries n)) (sym p.long)

  own_now : after.own ≡ count_of (is_own own) entries (n + 1)
  own_now =
      let one : ◌≡◌ {A = ℕ} (cond (is_own own (entries n)) 1 0) (cond (is_own (length T) (entries n)) 1 0) = ap (λ (b : Bool). cond b 1 0) own_is in
      omega (arith, q.own, p.own_count, one, count_more (λ k. is_own own (entries k)) n)

  over_now : after.over ≡ count_of (is_over own) entries (n + 1)
  over_now =
      let one : ◌≡◌ {A = ℕ} (cond (is_over own (entries n)) 1 0) (cond (is_over (length T) (entries n)) 1 0) = ap (λ (b : Bool). cond b 1 0) over_is in
      omega (arith, q.over, p.over_count, one, count_more (λ k. is_over own (entries k)) n)

  -- its slot is not one of the set's own
  stays : is_own (length T) (entries n) ≡ false → ((entries n ≡ 0) ⊎ (length T ≤ slot_by (entries n))) → Marks entries own (n + 1) T' after
  stays past why =
      let same : T' ≡ T = q.table ∙ ap (λ (b : Bool). cond b (set T (slot_by (entries n)) (Some n)) T) past in
      let none : after.own ≡ before.own = q.own ∙ ap (λ (b : Bool). before.own + cond b 1 0) past ∙ (let k : before.own + 0 ≡ before.own = omega arith in k) in
      subst (λ (t : Owners). Marks entries own (n + 1) t after) (sym same) (record {
        form = form;
        long = p.long;
        marked = record {
          given = λ c lt some slot. elim (cases_lt c n) [
            | inl low ↦ p.marked.given c low some slot
            | inr high ↦ absurd (neither why c (omega (arith, lt, high)) some slot)
          ];
          others = λ k c e. let o = p.marked.others k c e in (omega (arith, o.0), o.1);
        };
        in_table = p.in_table ∙ sym none;
        own_count = own_now;
        over_count = over_now;
      })
    where
      neither : ((entries n ≡ 0) ⊎ (length T ≤ slot_by (entries n))) → (c : ℕ) → n ≡ c → entries c ≢ 0 → slot_by (entries c) < length T → ⊥
      neither (inl z) c e some slot = some (subst (λ (k : ℕ). entries k ≡ 0) e z)
      neither (inr behind) c e some slot = (let past_c : length T ≤ slot_by (entries c) = subst (λ (k : ℕ). length T ≤ slot_by (entries k)) e behind in omega (arith, past_c, slot))

  -- its slot is one of the set's own, and was free
  takes : (some : entries n ≢ 0) → (slot : slot_by (entries n) < length T) → Marks entries own (n + 1) T' after
  takes some slot =
      let yes = own_yes (length T) (entries n) some slot in
      let free : owner_at T (slot_by (entries n)) ≡ None = q.free yes in
      let is : T' ≡ set T (slot_by (entries n)) (Some n) = q.table ∙ ap (λ (b : Bool). cond b (set T (slot_by (entries n)) (Some n)) T) yes in
      let more : after.own ≡ before.own + 1 = q.own ∙ ap (λ (b : Bool). before.own + cond b 1 0) yes in
      subst (λ (t : Owners). Marks entries own (n + 1) t after) (sym is) (record {
        form = form;
        long = length-set T (slot_by (entries n)) (Some n) ∙ p.long;
        marked = record {
          given = λ c lt c_some c_slot. elim (cases_lt c n) [
            | inl low ↦ (let was = p.marked.given c low c_some (omega (arith, c_slot, length-set {A = Option ℕ})) in
                get_or-set_other T (slot_by (entries n)) (slot_by (entries c)) (Some n) None (λ e. some_none (owner_at T (slot_by (entries c))) c (ap (λ (k : ℕ). owner_at T k) e ∙ free) was) ∙ was)
            | inr high ↦ (let e : n ≡ c = omega (arith, lt, high) in subst (λ (k : ℕ). owner_at (set T (slot_by (entries n)) (Some n)) (slot_by (entries k)) ≡ Some k) e (get_or-set_same T (slot_by (entries n)) (Some n) None slot))
          ];
          others = λ k c e. elim (cases_eq k (slot_by (entries n))) [
            | inl here ↦ (let last : n ≡ c = same_some n c (sym (ap (λ (j : ℕ). owner_at (set T (slot_by (entries n)) (Some n)) j) here ∙ get_or-set_same T (slot_by (entries n)) (Some n) None slot) ∙ e) in
                (omega (arith, last), (λ z. some (ap entries last ∙ z), ap (λ (j : ℕ). slot_by (entries j)) (sym last) ∙ sym here)))
            | inr other ↦ (let o = p.marked.others k c (sym (get_or-set_other T (slot_by (entries n)) k (Some n) None other) ∙ e) in (omega (arith, o.0), o.1))
          ];
        };
        in_table = used_more T (slot_by (entries n)) n slot free ∙ ap (λ (k : ℕ). k + 1) p.in_table ∙ sym more;
        own_count = own_now;
        over_count = over_now;
      })

  pub marks_more : Marks entries own (n + 1) T' after
  marks_more = by_whose (whose (length T) (entries n))
    where
      by_whose : Whose (length T) (entries n) → Marks entries own (n + 1) T' after
      by_whose (Nobodys z) = stays (own_no (length T) (entries n) (inl z)) (inl z)
      by_whose (Own some lt) = takes some lt
      by_whose (Over some past) = stays (own_no (length T) (entries n) (inr past)) (inr past)

-- an entry that can't be gone through
pub bad_mark : (entries : ℕ → ℕ) (own n end : ℕ) (T : Owners) (counts : Counts) → Marks entries own n T counts → n < end → IsBadMark T (entries n) → HasBadEntry entries own end
bad_mark entries own n end T counts p lt (inl form) = record { place = n; is = record { there = lt; bad = inl form } }
bad_mark entries own n end T counts p lt (inr (some, (slot, given))) = by_owner (owner_at T (slot_by (entries n))) refl
  where
    by_owner : (o : Option ℕ) → owner_at T (slot_by (entries n)) ≡ o → HasBadEntry entries own end
    by_owner None e = absurd (given e)
    by_owner (Some c) e =
        let was = p.marked.others (slot_by (entries n)) c e in
        record {
          place = n;
          is = record { there = lt; bad = inr (c, (was.0, (was.1.0, ((let k : slot_by (entries c) ≡ slot_by (entries n) = was.1.1 in omega (arith, k, slot, p.long)), (some, sym was.1.1))))) };
        }

-- no own slot stands in two entries
pub marks_apart : (entries : ℕ → ℕ) (own n : ℕ) (T : Owners) (counts : Counts) → Marks entries own n T counts → AreEntries entries own n
marks_apart entries own n T counts p = record {
  form = p.form;
  apart = λ c d low lt c_some d_some slot same.
      let d_slot : slot_by (entries d) < length T = omega (arith, same, slot, p.long) in
      let c_given = p.marked.given c (omega (arith, low, lt)) c_some (omega (arith, slot, p.long)) in
      let d_given = p.marked.given d lt d_some d_slot in
      let e : c ≡ d = same_some c d (sym c_given ∙ ap (λ (k : ℕ). owner_at T k) (sym same) ∙ d_given) in
      omega (arith, e, low);
}

-- no chunk has a slot
pub marks_zeros : (entries : ℕ → ℕ) (own n : ℕ) (table : Owners) (counts : Counts) → table ≡ replicate own None → length table ≡ own → ((c : ℕ) → entries c ≡ 0) → counts.own ≡ 0 → counts.over ≡ 0 → Marks entries own n table counts
marks_zeros entries own n table counts is long zeros own_none over_none = record {
  form = λ c lt. inl (zeros c);
  long = long;
  marked = record {
    given = λ c lt some. absurd (some (zeros c));
    others = λ k c e. absurd (some_none (owner_at table k) c (ap (λ (l : Owners). owner_at l k) is ∙ free_at own k) e);
  };
  in_table = ap used_in is ∙ used_none own ∙ sym own_none;
  own_count = own_none ∙ sym (count_none (λ k. is_own own (entries k)) n (λ k lt. own_no own (entries k) (inl (zeros k))));
  over_count = over_none ∙ sym (count_none (λ k. is_over own (entries k)) n (λ k lt. over_no own (entries k) (inl (zeros k))));
}

-- the same entries are bad by other words
pub bad_as : (f g : ℕ → ℕ) (own n : ℕ) → ((c : ℕ) → c < n → f c ≡ g c) → HasBadEntry f own n → HasBadEntry g own n
bad_as f g own n same b = record { place = b.place; is = record { there = b.is.there; bad = bad b.is.bad } }
  where
    here : f b.place ≡ g b.place
    here = same b.place b.is.there

    bad : (IsEntry (f b.place) → ⊥) ⊎ ((c : ℕ) × ((c < b.place) × ((f c ≢ 0) × ((slot_by (f c) < own) × ((f b.place ≢ 0) × (slot_by (f b.place) ≡ slot_by (f c)))))))
        → (IsEntry (g b.place) → ⊥) ⊎ ((c : ℕ) × ((c < b.place) × ((g c ≢ 0) × ((slot_by (g c) < own) × ((g b.place ≢ 0) × (slot_by (g b.place) ≡ slot_by (g c)))))))
    bad (inl form) = inl (λ k. form (subst (λ (e : ℕ). IsEntry e) (sym here) k))
    bad (inr (c, (low, (some, (slot, (some', equal)))))) =
        let there : f c ≡ g c = same c (omega (arith, low, b.is.there)) in
        inr (c, (low, ((λ z. some (there ∙ z)), (subst (λ (e : ℕ). slot_by e < own) there slot, ((λ z. some' (here ∙ z)), sym (ap slot_by here) ∙ equal ∙ ap slot_by there)))))

-- no more slots are given to a set than are used
pub given_most : (set : ℕ) (owners : Owners) → given_to set owners ≤ used_in owners
given_most set [] = omega arith
given_most set (o ∷ owners) =
    let rest = given_most set owners in
    let g = sum_by-cons (λ (x : Option ℕ). cond (is_of set x) 1 0) o owners in
    let u = sum_by-cons (λ (x : Option ℕ). cond (is_some x) 1 0) o owners in
    omega (arith, rest, g, u, one_less o)
  where
    one_less : (x : Option ℕ) → cond {A = ℕ} (is_of set x) 1 0 ≤ cond {A = ℕ} (is_some x) 1 0
    one_less None = omega arith
    one_less (Some by) = one_most (is_of set (Some by))
