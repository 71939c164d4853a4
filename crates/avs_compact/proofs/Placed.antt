-- Entries of which one is set: the slots that stand in them, and the table of the own slots.
use Rattle.std.proofs.Common.{◌≡◌, ◌≢◌, inl, inr, ℕ, ◌+◌, ◌-◌, ◌<◌, ◌≤◌, min, Bool, true, false, cond, length, set, take, Option, None, Some, refl, sym, ◌∙◌, ap, subst, arith}
use Rattle.std.specs.Prelude.{nat_lt, not}
use Rattle.std.proofs.lemmas.Bool.{cases_lt, cases_eq, eq-eqb, lt-ltb, le-ltb}
use Rattle.std.proofs.lemmas.List.{get_or-set_same, get_or-set_other}
use Rattle.std.proofs.lemmas.List.Sums.{sum_by-set}
use Rattle.std.proofs.Math.ListN.{length-set}
use Rattle.avs_over.specs.Slots.{Owners, owner_at, used_in, given_to, is_of}
use Rattle.avs_over.specs.Over.{OverSet, Takes, slots, used}
use Rattle.avs_over.proofs.Giving.{used_more, used_some}
use Rattle.avs_entries.specs.Entries.{IsEntry, slot_by, state_by}
use Rattle.avs_entries.specs.Counting.{is_touched, is_own, is_over, count_of}
use Rattle.avs_entries.specs.Slots.{Marks, MarksSlot}
use Rattle.avs_entries.specs.declared.marks.Counts.{Counts}
use Rattle.avs_entries.proofs.Counted.{count_same, count_set}
use Rattle.avs_entries.proofs.Marking.{own_yes, own_no, over_yes, over_no, some_none, same_some, touched_yes}
use Rattle.avs_compact.specs.Kept.{ArePassed}
use Rattle.avs_compact.specs.Places.{ArePlaced, OnlyTakes}
use Rattle.avs_compact.specs.Steps.{AreUsedFrom}
use Rattle.avs_compact.proofs.Kept.{kept_taken, kept_all}

-- ---- one entry is set

pub record SetsOne (f g : ℕ → ℕ) (n chunk slot : ℕ) : Type 0 where
  pub there : chunk < n
  pub some : g chunk ≢ 0
  pub form : IsEntry (g chunk)
  pub slot_is : slot_by (g chunk) ≡ slot
  pub others : (c : ℕ) → c < n → c ≢ chunk → g c ≡ f c

-- no other chunk has the slot
pub record IsApart (f : ℕ → ℕ) (n chunk slot : ℕ) : Type 0 where
  pub each : (c : ℕ) → c < n → c ≢ chunk → f c ≢ 0 → slot_by (f c) ≢ slot

pub stays : (set : ℕ) (old new : Owners) (k : ℕ) → OnlyTakes set old new → owner_at old k ≡ Some set → owner_at new k ≡ Some set
stays set old new k t is = elim (t.each k) [ inl same ↦ same ∙ is | inr taken ↦ taken.1 ]

pub placed_same : (f g : ℕ → ℕ) (own n set : ℕ) (old new : Owners) → ((c : ℕ) → c < n → g c ≡ f c) → OnlyTakes set old new → ArePlaced f own n set old → ArePlaced g own n set new
placed_same f g own n set old new same t p = record {
  form = λ c lt. subst (λ (e : ℕ). IsEntry e) (sym (same c lt)) (p.form c lt);
  apart = λ c d lt lt' ne some some' is. p.apart c d lt lt' ne (λ z. some (same c lt ∙ z)) (λ z. some' (same d lt' ∙ z)) (ap slot_by (sym (same d lt')) ∙ is ∙ ap slot_by (same c lt));
  mine = λ c lt some past.
      let e = ap slot_by (same c lt) in
      ap (λ (k : ℕ). owner_at new (k - own)) e ∙ stays set old new (slot_by (f c) - own) t (p.mine c lt (λ z. some (same c lt ∙ z)) (omega (arith, past, e)));
}

module _ (f g : ℕ → ℕ) (own n set chunk slot : ℕ) (old new : Owners) (one : SetsOne f g n chunk slot) (t : OnlyTakes set old new) (p : ArePlaced f own n set old) (free : IsApart f n chunk slot)
    (mine : own ≤ slot → owner_at new (slot - own) ≡ Some set) where
  was : (c : ℕ) → c < n → c ≢ chunk → g c ≢ 0 → f c ≢ 0
  was c lt ne some z = some (one.others c lt ne ∙ z)

  slot_was : (c : ℕ) → c < n → c ≢ chunk → slot_by (g c) ≡ slot_by (f c)
  slot_was c lt ne = ap slot_by (one.others c lt ne)

  here : (c : ℕ) → c ≡ chunk → slot_by (g c) ≡ slot
  here c is = ap (λ (k : ℕ). slot_by (g k)) is ∙ one.slot_is

  pub placed_one : ArePlaced g own n set new
  placed_one = record {
    form = λ c lt. elim (cases_eq c chunk) [
      | inl is ↦ subst (λ (k : ℕ). IsEntry (g k)) (sym is) one.form
      | inr ne ↦ subst (λ (e : ℕ). IsEntry e) (sym (one.others c lt ne)) (p.form c lt)
    ];
    apart = λ c d lt lt' ne some some' is. elim (cases_eq c chunk) [
      | inl c_is ↦ (let d_ne : d ≢ chunk = λ z. ne (c_is ∙ sym z) in free.each d lt' d_ne (was d lt' d_ne some') (sym (slot_was d lt' d_ne) ∙ is ∙ here c c_is))
      | inr c_ne ↦ elim (cases_eq d chunk) [
        | inl d_is ↦ free.each c lt c_ne (was c lt c_ne some) (sym (slot_was c lt c_ne) ∙ sym is ∙ here d d_is)
        | inr d_ne ↦ p.apart c d lt lt' ne (was c lt c_ne some) (was d lt' d_ne some') (sym (slot_was d lt' d_ne) ∙ is ∙ slot_was c lt c_ne)
      ]
    ];
    mine = λ c lt some past. elim (cases_eq c chunk) [
      | inl is ↦ (let e = here c is in ap (λ (k : ℕ). owner_at new (k - own)) e ∙ mine (omega (arith, past, e)))
      | inr ne ↦ (let e = slot_was c lt ne in ap (λ (k : ℕ). owner_at new (k - own)) e ∙ stays set old new (slot_by (f c) - own) t (p.mine c lt (was c lt ne some) (omega (arith, past, e))))
    ];
  }

-- ---- whose slot it is

pub tests_same : (own e e' : ℕ) → e ≢ 0 → e' ≢ 0 → slot_by e' ≡ slot_by e → (is_own own e' ≡ is_own own e) × (is_over own e' ≡ is_over own e)
tests_same own e e' some some' is = elim (cases_lt (slot_by e) own) [
  | inl lt ↦ (let lt' : slot_by e' < own = omega (arith, lt, is) in (own_yes own e' some' lt' ∙ sym (own_yes own e some lt), over_no own e' (inr lt') ∙ sym (over_no own e (inr lt))))
  | inr past ↦ (let past' : own ≤ slot_by e' = omega (arith, past, is) in (own_no own e' (inr past') ∙ sym (own_no own e (inr past)), over_yes own e' some' past' ∙ sym (over_yes own e some past)))
]

-- the counts, and the table, where the chunk has its slot already
module _ (f g : ℕ → ℕ) (own n chunk slot : ℕ) (one : SetsOne f g n chunk slot) (some : f chunk ≢ 0) (is : slot_by (f chunk) ≡ slot) where
  same_test : (c : ℕ) → c < n → (is_own own (g c) ≡ is_own own (f c)) × (is_over own (g c) ≡ is_over own (f c))
  same_test c lt = elim (cases_eq c chunk) [
    | inl e ↦ subst (λ (k : ℕ). (is_own own (g k) ≡ is_own own (f k)) × (is_over own (g k) ≡ is_over own (f k))) (sym e) (tests_same own (f chunk) (g chunk) some one.some (one.slot_is ∙ sym is))
    | inr ne ↦ (ap (λ (k : ℕ). is_own own k) (one.others c lt ne), ap (λ (k : ℕ). is_over own k) (one.others c lt ne))
  ]

  pub own_stays : count_of (is_own own) g n ≡ count_of (is_own own) f n
  own_stays = count_same (λ c. is_own own (f c)) (λ c. is_own own (g c)) n (λ c lt. (same_test c lt).0)

  pub over_stays : count_of (is_over own) g n ≡ count_of (is_over own) f n
  over_stays = count_same (λ c. is_over own (f c)) (λ c. is_over own (g c)) n (λ c lt. (same_test c lt).1)

  pub marks_old : (T : Owners) (counts : Counts) → Marks f own n T counts → Marks g own n T counts
  marks_old T counts p = record {
    form = λ c lt. elim (cases_eq c chunk) [
      | inl e ↦ subst (λ (k : ℕ). IsEntry (g k)) (sym e) one.form
      | inr ne ↦ subst (λ (k : ℕ). IsEntry k) (sym (one.others c lt ne)) (p.form c lt)
    ];
    long = p.long;
    marked = record {
      given = λ c lt c_some low. elim (cases_eq c chunk) [
        | inl e ↦
            let s : slot_by (g c) ≡ slot_by (f chunk) = ap (λ (k : ℕ). slot_by (g k)) e ∙ one.slot_is ∙ sym is in
            ap (λ (k : ℕ). owner_at T k) s ∙ p.marked.given chunk one.there some (omega (arith, low, s)) ∙ ap (λ (k : ℕ). Some k) (sym e)
        | inr ne ↦
            let s : slot_by (g c) ≡ slot_by (f c) = ap slot_by (one.others c lt ne) in
            ap (λ (k : ℕ). owner_at T k) s ∙ p.marked.given c lt (λ z. c_some (one.others c lt ne ∙ z)) (omega (arith, low, s))
      ];
      others = λ k c e. let o = p.marked.others k c e in elim (cases_eq c chunk) [
        | inl c_is ↦ (o.0, ((λ z. one.some (ap g (sym c_is) ∙ z)), ap (λ (j : ℕ). slot_by (g j)) c_is ∙ one.slot_is ∙ sym is ∙ ap (λ (j : ℕ). slot_by (f j)) (sym c_is) ∙ o.1.1))
        | inr ne ↦ (o.0, ((λ z. o.1.0 (sym (one.others c o.0 ne) ∙ z)), ap slot_by (one.others c o.0 ne) ∙ o.1.1))
      ];
    };
    in_table = p.in_table;
    own_count = p.own_count ∙ sym own_stays;
    over_count = p.over_count ∙ sym over_stays;
  }

-- ---- and where it takes a slot

module _ (f g : ℕ → ℕ) (own n chunk slot : ℕ) (one : SetsOne f g n chunk slot) (none : f chunk ≡ 0) where
  pub need_more : count_of is_touched g n ≡ count_of is_touched f n + 1
  need_more =
      let old : ◌≡◌ {A = ℕ} (cond (is_touched (f chunk)) 1 0) 0 = ap (λ (b : Bool). cond (not b) 1 0) (eq-eqb (f chunk) 0 none) in
      let now : ◌≡◌ {A = ℕ} (cond (is_touched (g chunk)) 1 0) 1 = ap (λ (b : Bool). cond b 1 0) (touched_yes (g chunk) one.some) in
      omega (arith, old, now, count_set (λ c. is_touched (f c)) (λ c. is_touched (g c)) n chunk one.there (λ c lt ne. ap is_touched (one.others c lt ne)))

  own_change : count_of (is_own own) g n ≡ count_of (is_own own) f n + cond (is_own own (g chunk)) 1 0
  own_change =
      let old : ◌≡◌ {A = ℕ} (cond (is_own own (f chunk)) 1 0) 0 = ap (λ (b : Bool). cond b 1 0) (own_no own (f chunk) (inl none)) in
      omega (arith, old, count_set (λ c. is_own own (f c)) (λ c. is_own own (g c)) n chunk one.there (λ c lt ne. ap (λ (k : ℕ). is_own own k) (one.others c lt ne)))

  over_change : count_of (is_over own) g n ≡ count_of (is_over own) f n + cond (is_over own (g chunk)) 1 0
  over_change =
      let old : ◌≡◌ {A = ℕ} (cond (is_over own (f chunk)) 1 0) 0 = ap (λ (b : Bool). cond b 1 0) (over_no own (f chunk) (inl none)) in
      omega (arith, old, count_set (λ c. is_over own (f c)) (λ c. is_over own (g c)) n chunk one.there (λ c lt ne. ap (λ (k : ℕ). is_over own k) (one.others c lt ne)))

  pub own_slot : slot < own → (count_of (is_own own) g n ≡ count_of (is_own own) f n + 1) × (count_of (is_over own) g n ≡ count_of (is_over own) f n)
  own_slot lt =
      let low : slot_by (g chunk) < own = omega (arith, lt, one.slot_is) in
      let a : ◌≡◌ {A = ℕ} (cond (is_own own (g chunk)) 1 0) 1 = ap (λ (b : Bool). cond b 1 0) (own_yes own (g chunk) one.some low) in
      let b : ◌≡◌ {A = ℕ} (cond (is_over own (g chunk)) 1 0) 0 = ap (λ (b : Bool). cond b 1 0) (over_no own (g chunk) (inr low)) in
      (omega (arith, a, own_change), omega (arith, b, over_change))

  pub over_slot : own ≤ slot → (count_of (is_own own) g n ≡ count_of (is_own own) f n) × (count_of (is_over own) g n ≡ count_of (is_over own) f n + 1)
  over_slot past =
      let high : own ≤ slot_by (g chunk) = omega (arith, past, one.slot_is) in
      let a : ◌≡◌ {A = ℕ} (cond (is_own own (g chunk)) 1 0) 0 = ap (λ (b : Bool). cond b 1 0) (own_no own (g chunk) (inr high)) in
      let b : ◌≡◌ {A = ℕ} (cond (is_over own (g chunk)) 1 0) 1 = ap (λ (b : Bool). cond b 1 0) (over_yes own (g chunk) one.some high) in
      (omega (arith, a, own_change), omega (arith, b, over_change))

  module _ (T T' : Owners) (counts after : Counts) (p : Marks f own n T counts) (q : MarksSlot T counts chunk slot T' after) where
    form : (c : ℕ) → c < n → IsEntry (g c)
    form c lt = elim (cases_eq c chunk) [
      | inl e ↦ subst (λ (k : ℕ). IsEntry (g k)) (sym e) one.form
      | inr ne ↦ subst (λ (k : ℕ). IsEntry k) (sym (one.others c lt ne)) (p.form c lt)
    ]

    table_own : slot < own → T' ≡ set T slot (Some chunk)
    table_own lt = q.table ∙ ap (λ (b : Bool). cond b (set T slot (Some chunk)) T) (lt-ltb slot (length T) (omega (arith, lt, p.long)))

    table_over : own ≤ slot → T' ≡ T
    table_over past = q.table ∙ ap (λ (b : Bool). cond b (set T slot (Some chunk)) T) (le-ltb slot (length T) (omega (arith, past, p.long)))

    own_marks : slot < own → owner_at T slot ≡ None → Marks g own n T' after
    own_marks lt free =
        let low : slot < length T = omega (arith, lt, p.long) in
        let yes : nat_lt slot (length T) ≡ true = lt-ltb slot (length T) low in
        let more : after.own ≡ counts.own + 1 = q.own ∙ ap (λ (b : Bool). counts.own + cond b 1 0) yes in
        let same : after.over ≡ counts.over + 0 = q.over ∙ ap (λ (b : Bool). counts.over + cond b 0 1) yes in
        subst (λ (t : Owners). Marks g own n t after) (sym (table_own lt)) (record {
          form = form;
          long = length-set T slot (Some chunk) ∙ p.long;
          marked = record {
            given = λ c c_lt c_some c_low. elim (cases_eq c chunk) [
              | inl e ↦ (let s : slot_by (g c) ≡ slot = ap (λ (k : ℕ). slot_by (g k)) e ∙ one.slot_is in
                  ap (λ (k : ℕ). owner_at (set T slot (Some chunk)) k) s ∙ get_or-set_same T slot (Some chunk) None low ∙ ap (λ (k : ℕ). Some k) (sym e))
              | inr ne ↦ (let s : slot_by (g c) ≡ slot_by (f c) = ap slot_by (one.others c c_lt ne) in
                  let had = p.marked.given c c_lt (λ z. c_some (one.others c c_lt ne ∙ z)) (omega (arith, c_low, s, length-set {A = Option ℕ})) in
                  ap (λ (k : ℕ). owner_at (set T slot (Some chunk)) k) s
                  ∙ get_or-set_other T slot (slot_by (f c)) (Some chunk) None (λ e. some_none (owner_at T (slot_by (f c))) c (ap (λ (k : ℕ). owner_at T k) e ∙ free) had) ∙ had)
            ];
            others = λ k c e. elim (cases_eq k slot) [
              | inl k_is ↦ (let c_is : chunk ≡ c = same_some chunk c (sym (ap (λ (j : ℕ). owner_at (set T slot (Some chunk)) j) k_is ∙ get_or-set_same T slot (Some chunk) None low) ∙ e) in
                  (omega (arith, c_is, one.there), ((λ z. one.some (ap g c_is ∙ z)), ap (λ (j : ℕ). slot_by (g j)) (sym c_is) ∙ one.slot_is ∙ sym k_is)))
              | inr k_ne ↦ (let o = p.marked.others k c (sym (get_or-set_other T slot k (Some chunk) None k_ne) ∙ e) in
                  let ne : c ≢ chunk = λ z. o.1.0 (ap f z ∙ none) in
                  (o.0, ((λ z. o.1.0 (sym (one.others c o.0 ne) ∙ z)), ap slot_by (one.others c o.0 ne) ∙ o.1.1)))
            ];
          };
          in_table = used_more T slot chunk low free ∙ ap (λ (k : ℕ). k + 1) p.in_table ∙ sym more;
          own_count = omega (arith, more, p.own_count, (own_slot lt).0);
          over_count = omega (arith, same, p.over_count, (own_slot lt).1);
        })

    over_marks : own ≤ slot → Marks g own n T' after
    over_marks past =
        let no : nat_lt slot (length T) ≡ false = le-ltb slot (length T) (omega (arith, past, p.long)) in
        let same : after.own ≡ counts.own + 0 = q.own ∙ ap (λ (b : Bool). counts.own + cond b 1 0) no in
        let more : after.over ≡ counts.over + 1 = q.over ∙ ap (λ (b : Bool). counts.over + cond b 0 1) no in
        subst (λ (t : Owners). Marks g own n t after) (sym (table_over past)) (record {
          form = form;
          long = p.long;
          marked = record {
            given = λ c c_lt c_some c_low. elim (cases_eq c chunk) [
              | inl e ↦ (let s : slot_by (g c) ≡ slot = ap (λ (k : ℕ). slot_by (g k)) e ∙ one.slot_is in absurd (omega (arith, s, c_low, past, p.long)))
              | inr ne ↦ (let s : slot_by (g c) ≡ slot_by (f c) = ap slot_by (one.others c c_lt ne) in
                  ap (λ (k : ℕ). owner_at T k) s ∙ p.marked.given c c_lt (λ z. c_some (one.others c c_lt ne ∙ z)) (omega (arith, c_low, s)))
            ];
            others = λ k c e.
                let o = p.marked.others k c e in
                let ne : c ≢ chunk = λ z. o.1.0 (ap f z ∙ none) in
                (o.0, ((λ z. o.1.0 (sym (one.others c o.0 ne) ∙ z)), ap slot_by (one.others c o.0 ne) ∙ o.1.1));
          };
          in_table = p.in_table ∙ (let k : counts.own ≡ counts.own + 0 = omega arith in k) ∙ sym same;
          own_count = omega (arith, same, p.own_count, (over_slot past).0);
          over_count = omega (arith, more, p.over_count, (over_slot past).1);
        })

    pub marks_new : (slot < own → owner_at T slot ≡ None) → Marks g own n T' after
    marks_new free = elim (cases_lt slot own) [ inl lt ↦ own_marks lt (free lt) | inr past ↦ over_marks past ]

    -- each own slot up to the one that was taken has a chunk, or is kept
    pub passed_new : (low ahead due : ℕ) → ArePassed f n T low ahead due → state_by (g chunk) ≢ 3 → (slot < own → owner_at T slot ≡ None)
        → (slot < own → (low ≤ slot) × ((k : ℕ) → low ≤ k → k < slot → owner_at T k ≢ None)) → (own ≤ slot → AreUsedFrom T low) → ArePassed g n T' (min own (slot + 1)) ahead due
    passed_new low ahead due a target free least full = record {
      inside = elim (cases_lt slot own) [
        | inl lt ↦ (let l : length T' ≡ length T = ap length (table_own lt) ∙ length-set T slot (Some chunk) in omega (arith, l, p.long))
        | inr past ↦ (let l : length T' ≡ length T = ap length (table_over past) in omega (arith, l, p.long))
      ];
      kept = elim (cases_lt slot own) [
        | inl lt ↦
            let e : min own (slot + 1) ≡ slot + 1 = omega (arith, lt) in
            ap (λ (k : ℕ). used_in (take k T') + ahead) e
            ∙ ap (λ (t : Owners). used_in (take (slot + 1) t) + ahead) (table_own lt)
            ∙ kept_taken T low ahead a.inside a.kept slot (least lt).0 (omega (arith, lt, p.long)) (free lt) (least lt).1 chunk
            ∙ sym e
        | inr past ↦
            let e : min own (slot + 1) ≡ length T = omega (arith, past, p.long) in
            ap (λ (k : ℕ). used_in (take k T') + ahead) e
            ∙ ap (λ (t : Owners). used_in (take (length T) t) + ahead) (table_over past)
            ∙ kept_all T low ahead a.inside a.kept (full past)
            ∙ sym e
      ];
      settled = λ c c_low lt. elim (cases_eq c chunk) [
        | inl e ↦ (λ z. target (ap (λ (k : ℕ). state_by (g k)) (sym e) ∙ z))
        | inr ne ↦ (λ z. a.settled c c_low lt (ap state_by (sym (one.others c lt ne)) ∙ z))
      ];
    }

pub passed_old : (f g : ℕ → ℕ) (n chunk slot : ℕ) (T : Owners) (low ahead due : ℕ) → SetsOne f g n chunk slot → state_by (g chunk) ≢ 3 → ArePassed f n T low ahead due → ArePassed g n T low ahead due
passed_old f g n chunk slot T low ahead due one target a = record {
  inside = a.inside;
  kept = a.kept;
  settled = λ c c_low lt. elim (cases_eq c chunk) [
    | inl e ↦ (λ z. target (ap (λ (k : ℕ). state_by (g k)) (sym e) ∙ z))
    | inr ne ↦ (λ z. a.settled c c_low lt (ap state_by (sym (one.others c lt ne)) ∙ z))
  ];
}

-- ---- an overflow volume of which a slot is taken

pub only_takes_none : (set : ℕ) (owners : Owners) → OnlyTakes set owners owners
only_takes_none set owners = record { long = refl; each = λ k. inl refl }

pub only_takes_then : (set : ℕ) (a b c : Owners) → OnlyTakes set a b → OnlyTakes set b c → OnlyTakes set a c
only_takes_then set a b c p q = record {
  long = q.long ∙ p.long;
  each = λ k. elim (p.each k) [
    | inl same ↦ elim (q.each k) [ inl same' ↦ inl (same' ∙ same) | inr taken ↦ inr (sym same ∙ taken.0, taken.1) ]
    | inr taken ↦ elim (q.each k) [ inl same' ↦ inr (taken.0, same' ∙ taken.1) | inr again ↦ absurd (some_none (owner_at b k) set again.0 taken.1) ]
  ];
}

module _ (o o' : OverSet) (by slot : ℕ) (t : Takes o by (Some slot) o') where
  owners_are : o'.owners ≡ set o.owners slot (Some by)
  owners_are = ap (λ (z : OverSet). z.owners) t.given

  inside : slot < length o.owners
  inside = t.least.inside.1

  pub taken_now : owner_at o'.owners slot ≡ Some by
  taken_now = ap (λ (l : Owners). owner_at l slot) owners_are ∙ get_or-set_same o.owners slot (Some by) None inside

  pub taken_only : OnlyTakes by o.owners o'.owners
  taken_only = record {
    long = ap length owners_are ∙ length-set o.owners slot (Some by);
    each = λ k. elim (cases_eq k slot) [
      | inl e ↦ inr (ap (λ (j : ℕ). owner_at o.owners j) e ∙ t.least.free, ap (λ (j : ℕ). owner_at o'.owners j) e ∙ taken_now)
      | inr ne ↦ inl (ap (λ (l : Owners). owner_at l k) owners_are ∙ get_or-set_other o.owners slot k (Some by) None ne)
    ];
  }

  pub given_more : given_to by o'.owners ≡ given_to by o.owners + 1
  given_more =
      let one : Option ℕ → ℕ = λ x. cond (is_of by x) 1 0 in
      let counts = sum_by-set one o.owners slot (Some by) None inside in
      let was : one (owner_at o.owners slot) ≡ 0 = ap one t.least.free in
      let now : one (Some by) ≡ 1 = ap (λ (b : Bool). cond b 1 0) (eq-eqb by by refl) in
      let here : given_to by o'.owners ≡ given_to by (set o.owners slot (Some by)) = ap (λ (l : Owners). given_to by l) owners_are in
      omega (arith, counts, was, now, here)

  pub used_below : used o < slots o
  used_below = used_some o.owners slot inside t.least.free
