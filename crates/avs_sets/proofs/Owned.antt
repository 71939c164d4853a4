-- Owners of slots of an overflow volume: what a set takes there is free of every other set.
use Rattle.std.proofs.Common.{◌≡◌, ◌≢◌, inl, inr, ℕ, ◌<◌, Bool, true, Option, None, Some, List, length, set, ◌∙◌, sym, refl, ap, subst, arith}
use Rattle.std.proofs.lemmas.Bool.{cases_eq, cases_lt}
use Rattle.std.proofs.lemmas.List.{get_or-set_same, get_or-set_other, length-set}
use Rattle.avs_dev.specs.Seen.{Seen}
use Rattle.avs_sets.specs.Says.{BlockSays}
use Rattle.avs_sets.specs.Sets.{ChunkMap, OverSlot, SetSeen, no_set, chunks_of}
use Rattle.avs_sets.specs.Meaning.{GroupSeen, set_of, is_enabled, chunks_by}
use Rattle.avs_sets.specs.Whole.{IsFree, IsStep, AreSlotsApart, IsWhole, IsInStep, IsKept}
use Rattle.avs_sets.specs.Owners.{Owners, OwnsPlaces, OnlyTakes, IsTakenBy, EndsThere, AreOwned}
use Rattle.avs_sets.proofs.Lifted.{with_step}

-- the owner of a slot that another set has stays
kept : (owners owners' : Owners) (set other slot : ℕ) → set ≢ other → OnlyTakes set owners owners' → owners slot ≡ Some other → IsTakenBy owners' set slot → ⊥
kept owners owners' set other slot ne takes was now = elim (takes.each slot) [
  | inl same ↦ ne (number set other (sym now ∙ same ∙ was))
  | inr (free, mine) ↦ never other (sym free ∙ was)
]
  where
    number : (a b : ℕ) → Some a ≡ Some b → a ≡ b
    number a b e = cc

    never : (n : ℕ) → None ≡ Some n → ⊥
    never n e = cc

-- What a set has taken, before a call or by it, stands in no place of another set of that overflow volume whose memory is in step.
pub taken_free : (says : BlockSays) (s t : SetSeen) (owners owners' : Owners) → s.slot ≢ t.slot → OnlyTakes s.slot owners owners'
    → (is_enabled says t ≡ true → t.over ≡ s.over → OwnsPlaces owners t) → EndsThere t → IsStep says t
    → (slot : ℕ) → IsTakenBy owners' s.slot slot → IsFree says t s.over slot
taken_free says s t owners owners' ne takes owns ends step slot mine = record {
  each = λ live over c some at. elim (cases_lt c (chunks_of t)) [
    | inr past ↦ ends.each _ c slot past some at
    | inl lt ↦ inside live over c lt some at
  ];
}
  where
    inside : is_enabled says t ≡ true → t.over ≡ s.over → (c : ℕ) → c < chunks_of t → (chunks_by says t).state c ≢ 0 → (chunks_by says t).place c ≡ OverSlot slot → ⊥
    inside live over c lt some at =
        let area : t.area t.live_b ≡ chunks_by says t = ap (λ (b : Bool). t.area b) (step.area live) in
        let some' : (t.area t.live_b).state c ≢ 0 = λ zero_is. some (sym (ap (λ (m : ChunkMap). m.state c) area) ∙ zero_is) in
        let state : t.memory.state c ≢ 0 = λ zero_is. some' (sym ((step.chunks live).state c lt) ∙ zero_is) in
        let place : t.memory.place c ≡ OverSlot slot = (step.chunks live).place c lt some' ∙ ap (λ (m : ChunkMap). m.place c) area ∙ at in
        kept owners owners' s.slot t.slot slot ne takes ((owns live over).taken c slot lt state place) mine

-- what a set owns it still owns when another one takes slots
pub still_owns : (t : SetSeen) (owners owners' : Owners) (set : ℕ) → OnlyTakes set owners owners' → OwnsPlaces owners t → OwnsPlaces owners' t
still_owns t owners owners' set takes owns = record {
  apart = owns.apart;
  taken = λ c slot lt some at. elim (takes.each slot) [
    | inl same ↦ same ∙ owns.taken c slot lt some at
    | inr (free, now) ↦ absurd (never t.slot (sym free ∙ owns.taken c slot lt some at))
  ];
}
  where
    never : (n : ℕ) → None ≡ Some n → ⊥
    never n e = cc

-- Two sets that own their places in one overflow volume have slots of their own in it.
pub owned_apart : (says : BlockSays) (s t : SetSeen) (owners : Owners) → s.slot ≢ t.slot
    → (is_enabled says s ≡ true → OwnsPlaces owners s) → (is_enabled says t ≡ true → t.over ≡ s.over → OwnsPlaces owners t)
    → EndsThere s → EndsThere t → IsStep says s → IsStep says t → AreSlotsApart says s t
owned_apart says s t owners ne owns_s owns_t ends_s ends_t step_s step_t = record {
  each = λ ls lt same c d slot some at other there. elim (cases_lt c (chunks_of s)) [
    | inr past ↦ ends_s.each _ c slot past some at
    | inl low ↦ (taken_free says s t owners owners ne (record { each = λ n. inl refl }) owns_t ends_t step_t slot (mine ls c low some slot at)).each lt (sym same) d other there
  ];
}
  where
    mine : is_enabled says s ≡ true → (c : ℕ) → c < chunks_of s → (chunks_by says s).state c ≢ 0 → (slot : ℕ) → (chunks_by says s).place c ≡ OverSlot slot → IsTakenBy owners s.slot slot
    mine live c low some slot at =
        let area : s.area s.live_b ≡ chunks_by says s = ap (λ (b : Bool). s.area b) (step_s.area live) in
        let some' : (s.area s.live_b).state c ≢ 0 = λ zero_is. some (sym (ap (λ (m : ChunkMap). m.state c) area) ∙ zero_is) in
        let state : s.memory.state c ≢ 0 = λ zero_is. some' (sym ((step_s.chunks live).state c low) ∙ zero_is) in
        (owns_s live).taken c slot low state ((step_s.chunks live).place c low some' ∙ ap (λ (m : ChunkMap). m.place c) area ∙ at)

-- ---- in a group

module _ (g : GroupSeen) (inv : IsKept g.volumes g.overs g.sets) (k : ℕ) (lt : k < length g.sets) (owners owners' : Owners) (owned : AreOwned g (set_of g.sets k).over owners)
    (takes : OnlyTakes (set_of g.sets k).slot owners owners') where
  -- what a set has taken, before a call or by it, is free of each other set
  pub free_others : IsWhole g → IsInStep g → (j : ℕ) → j < length g.sets → j ≢ k → (slot : ℕ) → IsTakenBy owners' (set_of g.sets k).slot slot → IsFree g.says (set_of g.sets j) (set_of g.sets k).over slot
  free_others w i j l ne slot mine = taken_free g.says (set_of g.sets k) (set_of g.sets j) owners owners' (λ e. ne (sym (inv.distinct k j lt l e))) takes
      (λ on over. owned.owned j l (ap (λ (b : BlockSays). is_enabled b (set_of g.sets j)) i.block ∙ on) over) (owned.ends j l)
      (subst (λ (b : BlockSays). IsStep b (set_of g.sets j)) i.block (i.each j l)) slot mine

  -- and behind a call by which it owns its places, each set does
  module _ (s' : SetSeen) (V' O' : List (Option Seen)) (ends : EndsThere s') (owns : OwnsPlaces owners' s') where
    here : set_of (set g.sets k s') k ≡ s'
    here = get_or-set_same g.sets k s' no_set lt

    there : (j : ℕ) → j ≢ k → set_of (set g.sets k s') j ≡ set_of g.sets j
    there j ne = get_or-set_other g.sets k j s' no_set ne

    pub owned_now : AreOwned (with_step g V' O' k s') (set_of g.sets k).over owners'
    owned_now = record {
      ends = λ j l. elim (cases_eq j k) [
        | inl is ↦ subst (λ (t : SetSeen). EndsThere t) (sym (ap (λ (n : ℕ). set_of (set g.sets k s') n) is ∙ here)) ends
        | inr ne ↦ subst (λ (t : SetSeen). EndsThere t) (sym (there j ne)) (owned.ends j (omega (arith, l, length-set g.sets k s')))
      ];
      owned = λ j l. elim (cases_eq j k) [
        | inl is ↦ λ on over. subst (λ (t : SetSeen). OwnsPlaces owners' t) (sym (ap (λ (n : ℕ). set_of (set g.sets k s') n) is ∙ here)) owns
        | inr ne ↦ subst (λ (t : SetSeen). is_enabled g.memory t ≡ true → t.over ≡ (set_of g.sets k).over → OwnsPlaces owners' t) (sym (there j ne))
            (λ on over. still_owns (set_of g.sets j) owners owners' (set_of g.sets k).slot takes (owned.owned j (omega (arith, l, length-set g.sets k s')) on over))
      ];
    }
