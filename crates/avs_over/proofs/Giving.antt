-- Slots that are given and freed, and how many are used.
use Rattle.std.proofs.Common.{◌≡◌, ◌≢◌, ◌⊎◌, inl, inr, ℕ, zero, suc, ◌+◌, ◌<◌, ◌≤◌, Bool, true, false, cond, List, [], ◌∷◌, length, get_or, set, map, replicate, Option, None, Some, is_some, ap, sym, subst, refl, ◌∙◌, arith, eqb}
use Rattle.std.specs.List.{count_by, sum_by}
use Rattle.std.proofs.lemmas.List.Sums.{sum_by-set, sum_by-cons, count_by-le-length}
use Rattle.std.proofs.lemmas.List.{get_or-set_same, get_or-set_other}
use Rattle.std.proofs.Math.ListN.{length-set}
use Rattle.std.proofs.lemmas.Bool.{cases_lt, cases_eq}
use Rattle.avs_over.specs.Slots.{Owners, Taken, owner_at, is_of, without, used_in, slot_at, set_at, IsUnnamed, AreApart, IsBadAt, HasBadSlot, AreGiven}

-- one slot more is used, or one less
pub used_more : (owners : Owners) (i by : ℕ) → i < length owners → owner_at owners i ≡ None → used_in (set owners i (Some by)) ≡ used_in owners + 1
used_more owners i by inside free =
    let one : Option ℕ → ℕ = λ o. cond (is_some o) 1 0 in
    let counts = sum_by-set one owners i (Some by) None inside in
    let was : one (owner_at owners i) ≡ 0 = ap one free in
    omega (arith, counts, was)

pub used_less : (owners : Owners) (i by : ℕ) → i < length owners → owner_at owners i ≡ Some by → used_in (set owners i None) + 1 ≡ used_in owners
used_less owners i by inside given =
    let one : Option ℕ → ℕ = λ o. cond (is_some o) 1 0 in
    let counts = sum_by-set one owners i None None inside in
    let was : one (owner_at owners i) ≡ 1 = ap one given in
    omega (arith, counts, was)

pub used_none : (n : ℕ) → used_in (replicate n None) ≡ 0
used_none zero = refl
used_none (suc n) = used_none n

-- where none is free all are used, and where one is free fewer are
pub used_all : (owners : Owners) → ((k : ℕ) → k < length owners → owner_at owners k ≢ None) → used_in owners ≡ length owners
used_all [] full = refl
used_all (None ∷ owners) full = absurd (full 0 (omega arith) refl)
used_all (Some by ∷ owners) full =
    let rest : used_in owners ≡ length owners = used_all owners (λ k below. full (suc k) (omega (arith, below))) in
    let first = sum_by-cons (λ o. cond (is_some o) 1 0) (Some by) owners in
    omega (arith, rest, first)

pub used_some : (owners : Owners) (i : ℕ) → i < length owners → owner_at owners i ≡ None → used_in owners < length owners
used_some owners i inside free =
    let more = used_more owners i 0 inside free in
    let most = count_by-le-length is_some (set owners i (Some 0)) in
    omega (arith, more, most, length-set {A = Option ℕ})

free_at : (n slot : ℕ) → owner_at (replicate n None) slot ≡ None
free_at zero slot = refl
free_at (suc n) zero = refl
free_at (suc n) (suc slot) = free_at n slot

-- nothing is given by an empty list
pub given_none : (taken : Taken) (owners : Owners) → owners ≡ replicate (length owners) None → AreGiven taken 0 owners
given_none taken owners free = record {
  given = λ i below. absurd (omega (arith, below));
  others = λ slot named. ap (λ (l : Owners). owner_at l slot) free ∙ free_at (length owners) slot;
  used = ap used_in free ∙ used_none (length owners);
}

pub apart_none : (taken : Taken) (slots : ℕ) → AreApart taken 0 slots
apart_none taken slots = record {
  below = λ i under. absurd (omega (arith, under));
  apart = λ i j before under. absurd (omega (arith, under));
}

some_none : (by : ℕ) → Some by ≡ None → ⊥
some_none by same = cc

-- a slot is named by one of the first n pairs, or by none
named_before : (taken : Taken) (slot n : ℕ) → ((i : ℕ) × ((i < n) × (slot_at taken i ≡ slot))) ⊎ IsUnnamed taken n slot
named_before taken slot zero = inr (record { others = λ i below. absurd (omega (arith, below)) })
named_before taken slot (suc n) = elim (named_before taken slot n) [
  | inl found ↦ inl (found.0, (omega (arith, found.1.0), found.1.1))
  | inr named ↦ elim (cases_eq (slot_at taken n) slot) [
    | inl same ↦ inl (n, (omega arith, same))
    | inr other ↦ inr (record { others = λ i below. elim (cases_lt i n) [ inl less ↦ named.others i less | inr last ↦ subst (λ k. slot_at taken k ≢ slot) (omega (arith, last, below)) other ] })
  ]
]

-- one pair more
module _ (taken : Taken) (n : ℕ) (owners : Owners) (given : AreGiven taken n owners) (apart : AreApart taken n (length owners)) where
  pub unnamed : (slot : ℕ) → owner_at owners slot ≡ None → (i : ℕ) → i < n → slot_at taken i ≢ slot
  unnamed slot free i below same = some_none (set_at taken i) (sym (given.given i below) ∙ ap (λ k. owner_at owners k) same ∙ free)

  pub apart_more : slot_at taken n < length owners → owner_at owners (slot_at taken n) ≡ None → AreApart taken (n + 1) (length owners)
  apart_more inside free = record {
    below = λ i under. elim (cases_lt i n) [ inl less ↦ apart.below i less | inr last ↦ subst (λ k. slot_at taken k < length owners) (omega (arith, last, under)) inside ];
    apart = λ i j before under. elim (cases_lt j n) [
      | inl less ↦ apart.apart i j before less
      | inr last ↦
          let is : n ≡ j = omega (arith, last, under) in
          subst (λ k. slot_at taken i ≢ slot_at taken k) is (unnamed (slot_at taken n) free i (omega (arith, before, under)))
    ];
  }

  pub given_more : slot_at taken n < length owners → owner_at owners (slot_at taken n) ≡ None → AreGiven taken (n + 1) (set owners (slot_at taken n) (Some (set_at taken n)))
  given_more inside free =
      let slot = slot_at taken n in
      record {
        given = λ i under. elim (cases_lt i n) [
          | inl less ↦ get_or-set_other owners slot (slot_at taken i) (Some (set_at taken n)) None (unnamed slot free i less) ∙ given.given i less
          | inr last ↦
              let is : n ≡ i = omega (arith, last, under) in
              subst (λ k. owner_at (set owners slot (Some (set_at taken n))) (slot_at taken k) ≡ Some (set_at taken k)) is (get_or-set_same owners slot (Some (set_at taken n)) None inside)
        ];
        others = λ other named.
            get_or-set_other owners slot other (Some (set_at taken n)) None (λ same. named.others n (omega arith) (sym same))
            ∙ given.others other (record { others = λ i below. named.others i (omega (arith, below)) });
        used = used_more owners slot (set_at taken n) inside free ∙ ap (λ k. k + 1) given.used;
      }

  pub bad_slot : n < length taken → (length owners ≤ slot_at taken n) ⊎ (owner_at owners (slot_at taken n) ≢ None) → HasBadSlot taken (length owners)
  bad_slot there (inl past) = record { place = n; is = record { there = there; bad = inl past } }
  bad_slot there (inr full) = elim (named_before taken (slot_at taken n) n) [
    | inl found ↦ record { place = n; is = record { there = there; bad = inr found } }
    | inr named ↦ absurd (full (given.others (slot_at taken n) named))
  ]

-- the slots of a set are freed one after another
pub freed_all : (old new : Owners) (set : ℕ) (n : ℕ) → length new ≡ length old → length old ≤ n → ((k : ℕ) → k < n → owner_at new k ≡ without set (owner_at old k)) → new ≡ map (without set) old
freed_all [] [] set n len all each = refl
freed_all [] (x ∷ new) set n len all each = absurd (omega (arith, len))
freed_all (x ∷ old) [] set n len all each = absurd (omega (arith, len))
freed_all (x ∷ old) (y ∷ new) set zero len all each = absurd (omega (arith, all))
freed_all (x ∷ old) (y ∷ new) set (suc n) len all each =
    let rest : new ≡ map (without set) old = freed_all old new set n (omega (arith, len)) (omega (arith, all)) (λ k below. each (suc k) (omega (arith, below))) in
    let first : y ≡ without set x = each 0 (omega arith) in
    cc
