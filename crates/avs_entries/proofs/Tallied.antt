-- Sums over the entries of a set, of which one comes to be another.
use Rattle.std.proofs.Common.{◌≡◌, ◌≢◌, ◌⊎◌, inl, inr, ℕ, ◌+◌, ◌-◌, ◌<◌, ◌≤◌, ◌^◌, max, Bool, true, cond, sym, refl, ◌∙◌, ap, arith}
use Rattle.std.proofs.lemmas.Bool.{cases_lt, cases_eq, eq-eqb}
use Rattle.avs_entries.specs.Entries.{slot_by, state_by}
use Rattle.avs_entries.specs.Counting.{count_of, is_in}
use Rattle.avs_entries.specs.Tallied.{AreTallied, AreFew, HasOne, Changes, IsReach, reach_of}
use Rattle.avs_entries.specs.declared.tally.Tally.{Tally}
use Rattle.avs_entries.proofs.Counted.{count_most, count_some, count_set}
use Rattle.avs_entries.proofs.Marking.{over_yes, over_no}

-- ---- how far an entry reaches

pub reach_none : (own e : ℕ) → (e ≡ 0) ⊎ (slot_by e < own) → reach_of own e ≡ 0
reach_none own e which = ap (λ (b : Bool). cond b (slot_by e - own + 1) 0) (over_no own e which)

pub reach_some : (own e : ℕ) → e ≢ 0 → own ≤ slot_by e → reach_of own e ≡ slot_by e - own + 1
reach_some own e some past = ap (λ (b : Bool). cond b (slot_by e - own + 1) 0) (over_yes own e some past)

pub reach_over : (own e k : ℕ) → reach_of own e ≡ k → 0 < k → (e ≢ 0) × (own ≤ slot_by e)
reach_over own e k is some = elim (cases_eq e 0) [
  | inl z ↦ absurd (let r = reach_none own e (inl z) in omega (arith, r, is, some))
  | inr has ↦ elim (cases_lt (slot_by e) own) [
    | inl low ↦ absurd (let r = reach_none own e (inr low) in omega (arith, r, is, some))
    | inr past ↦ (has, past)
  ]
]

-- the slot of an entry stays
pub reach_same : (own e e' : ℕ) → e ≢ 0 → e' ≢ 0 → slot_by e' ≡ slot_by e → reach_of own e ≤ reach_of own e'
reach_same own e e' some some' is = elim (cases_lt (slot_by e) own) [
  | inl low ↦ (let r = reach_none own e (inr low) in omega (arith, r))
  | inr past ↦
      let past' : own ≤ slot_by e' = omega (arith, past, is) in
      let r = reach_some own e some past in
      let r' = reach_some own e' some' past' in
      omega (arith, r, r', is)
]

-- one entry more
pub reach_more : (f : ℕ → ℕ) (own n r r' : ℕ) → IsReach f own n r → r' ≡ max (reach_of own (f n)) r → IsReach f own (n + 1) r'
reach_more f own n r r' p is = record {
  within = λ c lt. elim (cases_eq c n) [
    | inl e ↦ (let k : reach_of own (f c) ≡ reach_of own (f n) = ap (λ (j : ℕ). reach_of own (f j)) e in omega (arith, k, is))
    | inr ne ↦ (let k = p.within c (omega (arith, lt, ne)) in omega (arith, k, is))
  ];
  met = λ some. elim (cases_lt r (reach_of own (f n))) [
    | inl more ↦ (n, (omega arith, omega (arith, is, more)))
    | inr less ↦
        let r_is : r ≡ r' = omega (arith, is, less) in
        let m = p.met (omega (arith, some, r_is)) in
        (m.0, (omega (arith, m.1.0), m.1.1 ∙ r_is))
  ];
}

module _ (f g : ℕ → ℕ) (own n chunk from to : ℕ) (there : chunk < n) (others : (c : ℕ) → c ≢ chunk → g c ≡ f c) (was : f chunk ≡ from) (now : g chunk ≡ to) (less : reach_of own from ≤ reach_of own to) where
  reach_set : (r r' : ℕ) → IsReach f own n r → r' ≡ max r (reach_of own to) → IsReach g own n r'
  reach_set r r' p is = record {
    within = λ c lt. elim (cases_eq c chunk) [
      | inl e ↦ (let k : reach_of own (g c) ≡ reach_of own to = ap (λ (j : ℕ). reach_of own (g j)) e ∙ ap (λ (j : ℕ). reach_of own j) now in omega (arith, k, is))
      | inr ne ↦ (let k : reach_of own (g c) ≡ reach_of own (f c) = ap (λ (j : ℕ). reach_of own j) (others c ne) in let w = p.within c lt in omega (arith, k, w, is))
    ];
    met = λ some. elim (cases_lt (reach_of own to) r) [
      | inl below ↦
          let r_is : r ≡ r' = omega (arith, is, below) in
          let m = p.met (omega (arith, below)) in
          elim (cases_eq m.0 chunk) [
            | inl e ↦ absurd (let k : reach_of own from ≡ r = ap (λ (j : ℕ). reach_of own j) (sym was) ∙ ap (λ (j : ℕ). reach_of own (f j)) (sym e) ∙ m.1.1 in omega (arith, k, below, less))
            | inr ne ↦ (m.0, (m.1.0, ap (λ (j : ℕ). reach_of own j) (others m.0 ne) ∙ m.1.1 ∙ r_is))
          ]
      | inr above ↦ (chunk, (there, ap (λ (j : ℕ). reach_of own j) now ∙ (let e : reach_of own to ≡ r' = omega (arith, is, above) in e)))
    ];
  }

  count_changed : (state x y : ℕ) → x ≡ count_of (is_in state) f n → y + cond (is_in state from) 1 0 ≡ x + cond (is_in state to) 1 0 → y ≡ count_of (is_in state) g n
  count_changed state x y x_is change =
      let was_one : ◌≡◌ {A = ℕ} (cond (is_in state (f chunk)) 1 0) (cond (is_in state from) 1 0) = ap (λ (k : ℕ). cond (is_in state k) 1 0) was in
      let is_one : ◌≡◌ {A = ℕ} (cond (is_in state (g chunk)) 1 0) (cond (is_in state to) 1 0) = ap (λ (k : ℕ). cond (is_in state k) 1 0) now in
      let set = count_set (λ (k : ℕ). is_in state (f k)) (λ (k : ℕ). is_in state (g k)) n chunk there (λ k _ ne. ap (λ (j : ℕ). is_in state j) (others k ne)) in
      omega (arith, was_one, is_one, set, x_is, change)

  pub tally_set : (a b : Tally) → AreTallied f own n a → Changes a own from to b → AreTallied g own n b
  tally_set a b p q = record {
    back = count_changed 3 a.back b.back p.back q.back;
    halves = count_changed 2 a.split b.split p.halves q.halves;
    reach = reach_set a.reach b.reach p.reach q.reach;
  }

-- ---- what the counts have

one_of : (f : ℕ → ℕ) (n c state e k : ℕ) → c < n → f c ≡ e → k ≡ count_of (is_in state) f n → is_in state e ≡ true → 0 < k
one_of f n c state e k lt is k_is tells =
    let some = count_some (λ (j : ℕ). is_in state (f j)) n c lt (ap (λ (j : ℕ). is_in state j) is ∙ tells) in
    omega (arith, some, k_is)

pub has_one : (f : ℕ → ℕ) (own n : ℕ) (t : Tally) (c e : ℕ) → c < n → f c ≡ e → AreTallied f own n t → HasOne t e
has_one f own n t c e lt is p = record {
  back = λ tells. one_of f n c 3 e t.back lt is p.back tells;
  halves = λ tells. one_of f n c 2 e t.split lt is p.halves tells;
}

few : (f : ℕ → ℕ) (n state k : ℕ) → k ≡ count_of (is_in state) f n → k ≤ n
few f n state k is = (let most = count_most (λ (j : ℕ). is_in state (f j)) n in omega (arith, most, is))

pub are_few : (f : ℕ → ℕ) (own n : ℕ) (t : Tally) → n < 2 ^ 31 → AreTallied f own n t → AreFew t
are_few f own n t small p = record {
  back = omega (arith, few f n 3 t.back p.back, small);
  halves = omega (arith, few f n 2 t.split p.halves, small);
}

pub back_most : (f : ℕ → ℕ) (own n : ℕ) (t : Tally) → AreTallied f own n t → t.back ≤ n
back_most f own n t p = few f n 3 t.back p.back

pub split_most : (f : ℕ → ℕ) (own n : ℕ) (t : Tally) → AreTallied f own n t → t.split ≤ n
split_most f own n t p = few f n 2 t.split p.halves

-- none stands in its slot alone
pub none_back : (f : ℕ → ℕ) (own n : ℕ) (t : Tally) → AreTallied f own n t → t.back ≡ 0 → (c : ℕ) → c < n → state_by (f c) ≢ 3
none_back f own n t p none c lt three = (let some = one_of f n c 3 (f c) t.back lt refl p.back (eq-eqb (state_by (f c)) 3 three) in omega (arith, none, some))
