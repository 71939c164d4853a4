-- Entries of a compact set, and the states and places that they tell.
use Rattle.std.proofs.Common.{◌≡◌, ◌≢◌, ◌⊎◌, inl, inr, ℕ, ◌+◌, ◌-◌, ◌*◌, ◌/◌, ◌%◌, ◌^◌, ◌<◌, ◌≤◌, Bool, true, false, cond, eqb, nat_lt, ◌&&◌, ◌||◌, ◌∙◌, sym, refl, ap, arith}
use Rattle.std.proofs.lemmas.Bool.{cases_lt, cases_eq, lt-ltb, le-ltb, eq-eqb, ne_eqb}
use Rattle.avs_seg.specs.Image.{Image, block_at}
use Rattle.avs_entries.specs.Entries.{IsEntry, state_by, slot_by, entry_for}
use Rattle.avs_compact.specs.CompactSet.{in_slot}
use Rattle.avs_sets.specs.Sets.{OwnSlot, OverSlot, block_in}
use Rattle.avs_held.specs.Held.{has_form, told_state, slot_place, told_place, slot_map}

-- ---- the form

or_true : (b : Bool) → (b || true) ≡ true
or_true true = refl
or_true false = refl

pub form_true : (e : ℕ) → IsEntry e → has_form e ≡ true
form_true e (inl zero_is) = ap (λ (b : Bool). b || (nat_lt 0 (state_by e) && nat_lt 0 (e % 2 ^ 30))) (eq-eqb e 0 zero_is)
form_true e (inr (state, low)) =
    ap (λ (b : Bool). eqb e 0 || (b && nat_lt 0 (e % 2 ^ 30))) (lt-ltb 0 (state_by e) state)
    ∙ ap (λ (b : Bool). eqb e 0 || b) (lt-ltb 0 (e % 2 ^ 30) low)
    ∙ or_true (eqb e 0)

form_false : (e : ℕ) → e ≢ 0 → (state_by e ≤ 0) ⊎ (e % 2 ^ 30 ≤ 0) → has_form e ≡ false
form_false e ne (inl state) =
    ap (λ (b : Bool). b || (nat_lt 0 (state_by e) && nat_lt 0 (e % 2 ^ 30))) (ne_eqb e 0 ne)
    ∙ ap (λ (b : Bool). b && nat_lt 0 (e % 2 ^ 30)) (le-ltb 0 (state_by e) state)
form_false e ne (inr low) =
    ap (λ (b : Bool). b || (nat_lt 0 (state_by e) && nat_lt 0 (e % 2 ^ 30))) (ne_eqb e 0 ne)
    ∙ ap (λ (b : Bool). nat_lt 0 (state_by e) && b) (le-ltb 0 (e % 2 ^ 30) low)
    ∙ and_false (nat_lt 0 (state_by e))
  where
    and_false : (b : Bool) → (b && false) ≡ false
    and_false true = refl
    and_false false = refl

-- an entry keeps its form or does not
pub form_cases : (e : ℕ) → IsEntry e ⊎ (has_form e ≡ false)
form_cases e = elim (cases_eq e 0) [
  | inl zero_is ↦ inl (inl zero_is)
  | inr ne ↦ elim (cases_lt 0 (state_by e)) [
    | inl state ↦ elim (cases_lt 0 (e % 2 ^ 30)) [
      | inl low ↦ inl (inr (state, low))
      | inr none ↦ inr (form_false e ne (inr none))
    ]
    | inr none ↦ inr (form_false e ne (inl none))
  ]
]

-- ---- what an entry tells

pub state_formed : (e : ℕ) → IsEntry e → told_state e ≡ state_by e
state_formed e form = ap (λ (b : Bool). cond b (state_by e) 4) (form_true e form)

pub place_formed : (own e : ℕ) → IsEntry e → told_place own e ≡ slot_place own (slot_by e)
place_formed own e form = ap (λ (b : Bool). cond b (slot_place own (slot_by e)) (OverSlot (2 ^ 30))) (form_true e form)

state_bad : (e : ℕ) → has_form e ≡ false → told_state e ≡ 4
state_bad e bad = ap (λ (b : Bool). cond b (state_by e) 4) bad

place_bad : (own e : ℕ) → has_form e ≡ false → told_place own e ≡ OverSlot (2 ^ 30)
place_bad own e bad = ap (λ (b : Bool). cond b (slot_place own (slot_by e)) (OverSlot (2 ^ 30))) bad

no_four : ◌≡◌ {A = ℕ} 4 0 → ⊥
no_four e = omega (arith, e)

formed_zero : (e : ℕ) → IsEntry e → state_by e ≡ 0 → e ≡ 0
formed_zero e (inl zero_is) is = zero_is
formed_zero e (inr (state, low)) is = absurd (none (e / 2 ^ 30) state is)
  where
    none : (n : ℕ) → 0 < n → n ≡ 0 → ⊥
    none n some is = omega (arith, some, is)

pub told_zero : (e : ℕ) → told_state e ≡ 0 → e ≡ 0
told_zero e is = elim (form_cases e) [
  | inl form ↦ formed_zero e form (sym (state_formed e form) ∙ is)
  | inr bad ↦ absurd (no_four (sym (state_bad e bad) ∙ is))
]

pub zero_told : (e : ℕ) → e ≡ 0 → told_state e ≡ 0
zero_told e is = ap told_state is

pub same_zero : (e : ℕ) → eqb (told_state e) 0 ≡ eqb e 0
same_zero e = elim (cases_eq e 0) [
  | inl is ↦ eq-eqb (told_state e) 0 (zero_told e is) ∙ sym (eq-eqb e 0 is)
  | inr ne ↦ ne_eqb (told_state e) 0 (λ is. ne (told_zero e is)) ∙ sym (ne_eqb e 0 ne)
]

-- a state below four is one of an entry that keeps its form
pub state_form : (e : ℕ) → told_state e < 4 → IsEntry e
state_form e lt = elim (form_cases e) [
  | inl form ↦ form
  | inr bad ↦ absurd (past (told_state e) (state_bad e bad) lt)
]
  where
    past : (n : ℕ) → n ≡ 4 → n < 4 → ⊥
    past n is lt = omega (arith, is, lt)

-- ---- places

pub own_place : (own slot : ℕ) → slot < own → slot_place own slot ≡ OwnSlot slot
own_place own slot lt = ap (λ (b : Bool). cond b (OwnSlot slot) (OverSlot (slot - own))) (lt-ltb slot own lt)

pub over_place : (own slot : ℕ) → own ≤ slot → slot_place own slot ≡ OverSlot (slot - own)
over_place own slot le = ap (λ (b : Bool). cond b (OwnSlot slot) (OverSlot (slot - own))) (le-ltb slot own le)

pub own_is : (a b : ℕ) → OwnSlot a ≡ OwnSlot b → a ≡ b
own_is a b e = cc

over_is : (a b : ℕ) → OverSlot a ≡ OverSlot b → a ≡ b
over_is a b e = cc

pub own_not_over : (a b : ℕ) → OwnSlot a ≡ OverSlot b → ⊥
own_not_over a b e = cc

-- the slot of a place
pub slot_is : (own a b : ℕ) → slot_place own a ≡ slot_place own b → a ≡ b
slot_is own a b same = elim (cases_lt a own) [
  | inl low ↦ elim (cases_lt b own) [
    | inl low' ↦ own_is a b (sym (own_place own a low) ∙ same ∙ own_place own b low')
    | inr past' ↦ absurd (own_not_over a (b - own) (sym (own_place own a low) ∙ same ∙ over_place own b past'))
  ]
  | inr past ↦ elim (cases_lt b own) [
    | inl low' ↦ absurd (own_not_over b (a - own) (sym (own_place own b low') ∙ sym same ∙ over_place own a past))
    | inr past' ↦ behind own a b past past' (over_is (a - own) (b - own) (sym (over_place own a past) ∙ same ∙ over_place own b past'))
  ]
]
  where
    behind : (own a b : ℕ) → own ≤ a → own ≤ b → a - own ≡ b - own → a ≡ b
    behind own a b past past' e = omega (arith, past, past', e)

-- a slot of the overflow volume is the one of its place
pub over_slot : (own a slot : ℕ) → slot_place own a ≡ OverSlot slot → (own ≤ a) × (a - own ≡ slot)
over_slot own a slot at = elim (cases_lt a own) [
  | inl low ↦ absurd (own_not_over a slot (sym (own_place own a low) ∙ at))
  | inr past ↦ (past, over_is (a - own) slot (sym (over_place own a past) ∙ at))
]

pub slot_small : (e : ℕ) → slot_by e < 2 ^ 30
slot_small e = omega arith

no_place : (own slot : ℕ) → slot < 2 ^ 30 → slot_place own slot ≡ OverSlot (2 ^ 30) → ⊥
no_place own slot small at =
    let is = over_slot own slot (2 ^ 30) at in
    none own slot small is.0 is.1
  where
    none : (own slot : ℕ) → slot < 2 ^ 30 → own ≤ slot → slot - own ≡ 2 ^ 30 → ⊥
    none own slot small le is = omega (arith, small, le, is)

-- ---- two entries that tell the same are the same

joined : (e d : ℕ) → IsEntry e → IsEntry d → d ≢ 0 → state_by e ≡ state_by d → slot_by e ≡ slot_by d → d ≡ e
joined e d (inl zero_is) form ne state slot = absurd (ne (formed_zero d form (sym state ∙ ap state_by zero_is)))
joined e d (inr a) (inl zero_is) ne state slot = absurd (ne zero_is)
joined e d (inr (a, b)) (inr (a', b')) ne state slot = same (e / 2 ^ 30) (e % 2 ^ 30) (d / 2 ^ 30) (d % 2 ^ 30) b b' state slot
    (omega arith) (omega arith)
  where
    same : (p q p' q' : ℕ) → 0 < q → 0 < q' → p ≡ p' → q - 1 ≡ q' - 1 → e ≡ 2 ^ 30 * p + q → d ≡ 2 ^ 30 * p' + q' → d ≡ e
    same p q p' q' some some' st sl e_is d_is = omega (arith, some, some', st, sl, e_is, d_is)

pub same_entry : (own e d : ℕ) → IsEntry e → told_state e ≡ told_state d → (told_state d ≢ 0 → told_place own e ≡ told_place own d) → d ≡ e
same_entry own e d form states places = elim (form_cases d) [
  | inl form_d ↦ elim (cases_eq d 0) [
    | inl zero_is ↦ zero_is ∙ sym (told_zero e (states ∙ zero_told d zero_is))
    | inr ne ↦ joined e d form form_d ne (sym (state_formed e form) ∙ states ∙ state_formed d form_d)
        (slot_is own (slot_by e) (slot_by d) (sym (place_formed own e form) ∙ places (λ z. ne (told_zero d z)) ∙ place_formed own d form_d))
  ]
  | inr bad ↦ absurd (no_place own (slot_by e) (slot_small e)
      (sym (place_formed own e form) ∙ places (λ z. no_four (sym (state_bad d bad) ∙ z)) ∙ place_bad own d bad))
]

-- ---- an entry that is made

pub state_for : (state slot : ℕ) → slot + 1 < 2 ^ 30 → state_by (entry_for state slot) ≡ state
state_for state slot small = omega (arith, small)

pub slot_for : (state slot : ℕ) → slot + 1 < 2 ^ 30 → slot_by (entry_for state slot) ≡ slot
slot_for state slot small = omega (arith, small)

pub form_for : (state slot : ℕ) → 0 < state → slot + 1 < 2 ^ 30 → IsEntry (entry_for state slot)
form_for state slot some small = inr (omega (arith, some, small), omega (arith, small))

-- ---- blocks

pub place_block : (own slot : ℕ) (shadow over : Image) (i : ℕ) → block_in shadow over (slot_place own slot) i ≡ in_slot own shadow over slot (i % 64)
place_block own slot shadow over i = go (nat_lt slot own)
  where
    go : (b : Bool) → block_in shadow over (cond b (OwnSlot slot) (OverSlot (slot - own))) i
        ≡ cond b (block_at shadow (64 * slot + i % 64)) (block_at over (1 + 64 * (slot - own) + i % 64))
    go true = refl
    go false = let e : 1 + (64 * (slot - own) + i % 64) ≡ 1 + 64 * (slot - own) + i % 64 = omega arith in ap (λ (n : ℕ). block_at over n) e

-- ---- a chunk in a map

module _ (own n : ℕ) (entries : ℕ → ℕ) (c : ℕ) where
  pub in_map : c < n → (slot_map own n entries).state c ≡ told_state (entries c)
  in_map lt = ap (λ (b : Bool). cond b (told_state (entries c)) 0) (lt-ltb c n lt)

  pub past_map : n ≤ c → (slot_map own n entries).state c ≡ 0
  past_map le = ap (λ (b : Bool). cond b (told_state (entries c)) 0) (le-ltb c n le)

  -- one that has contents of its own
  pub there : (slot_map own n entries).state c ≢ 0 → c < n
  there some = elim (cases_lt c n) [ inl lt ↦ lt | inr le ↦ absurd (some (past_map le)) ]

  pub some_entry : (slot_map own n entries).state c ≢ 0 → entries c ≢ 0
  some_entry some = λ is. some (in_map (there some) ∙ zero_told (entries c) is)

  pub some_state : c < n → entries c ≢ 0 → (slot_map own n entries).state c ≢ 0
  some_state lt ne = λ is. ne (told_zero (entries c) (sym (in_map lt) ∙ is))
