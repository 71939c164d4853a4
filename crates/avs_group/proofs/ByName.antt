-- The set of a slot, found in the list; a set read at its place.
use Rattle.std.proofs.Common.{◌≡◌, ◌≢◌, ℕ, zero, suc, ◌<◌, ◌≤◌, Bool, true, false, cond, eqb, ◌&&◌, None, Some, List, [], ◌∷◌, length, map, find, get_or, ◌∙◌, sym, refl, ap, arith, filter, Option}
use Rattle.std.proofs.lemmas.Bool.{eqb-true, ne_eqb}
use Rattle.std.proofs.lemmas.List.{get_or-map, length-map}
use Rattle.avs_sets.specs.Says.{BlockSays}
use Rattle.avs_sets.specs.Sets.{SetSeen, no_set}
use Rattle.avs_sets.specs.Meaning.{GroupSeen, set_of, is_enabled, set_by}
use Rattle.avs_held.specs.Held.{Held, seen_of}
use Rattle.std.specs.Option.{option_map}
use Rattle.avs_model.specs.ShadowSets.{ShadowState}
use Rattle.avs_model.specs.GroupStates.{has_slot}
use Rattle.avs_group.specs.Named.{is_named, named, IsNamedAt, NamesState}

no_lt : (k : ℕ) → k < 0 → ⊥
no_lt k lt = omega arith

-- the first element that does
pub find_first : {X : Type 0} (d : X) (p : X → Bool) (l : List X) (k : ℕ) → k < length l → ((j : ℕ) → j < k → p (get_or l j d) ≡ false) → p (get_or l k d) ≡ true → find p l ≡ Some (get_or l k d)
find_first d p [] k lt none is = absurd (no_lt k lt)
find_first {X} d p (x ∷ l) zero lt none is = ap (λ (b : Bool). cond b (Some x) (find p l)) is
find_first {X} d p (x ∷ l) (suc k) lt none is =
    ap (λ (b : Bool). cond b (Some x) (find p l)) (none 0 (omega arith))
    ∙ find_first d p l k (omega (arith, lt)) (λ j low. none (suc j) (omega (arith, low))) is

pub find_nothing : {X : Type 0} (d : X) (p : X → Bool) (l : List X) → ((j : ℕ) → j < length l → p (get_or l j d) ≡ false) → find p l ≡ None
find_nothing d p [] none = refl
find_nothing {X} d p (x ∷ l) none =
    ap (λ (b : Bool). cond b (Some x) (find p l)) (none 0 (omega arith))
    ∙ find_nothing d p l (λ j low. none (suc j) (omega (arith, low)))

pub both : (a b : Bool) → (a && b) ≡ true → (a ≡ true) × (b ≡ true)
both true b is = (refl, is)
both false b is = cc

-- none of the sets below a place is that of a slot
pub record NoneBelow (g : GroupSeen) (slot place : ℕ) : Type 0 where
  pub each : (j : ℕ) → j < place → is_named g.memory slot (set_of g.sets j) ≡ false

pub none_more : (g : GroupSeen) (slot place : ℕ) → NoneBelow g slot place → is_named g.memory slot (set_of g.sets place) ≡ false → NoneBelow g slot (suc place)
none_more g slot place none not = record { each = λ j lt. grind (arith, none.each j, not) }

pub named_at : (g : GroupSeen) (slot place : ℕ) → place < length g.sets → NoneBelow g slot place → is_named g.memory slot (set_of g.sets place) ≡ true → IsNamedAt g slot place
named_at g slot place lt none is = record {
  there = lt;
  is = find_first no_set (λ s. is_named g.memory slot s) g.sets place lt none.each is;
  enabled = (both (is_enabled g.memory (set_of g.sets place)) (eqb (set_of g.sets place).slot slot) is).0;
  slot_is = eqb-true (set_of g.sets place).slot slot (both (is_enabled g.memory (set_of g.sets place)) (eqb (set_of g.sets place).slot slot) is).1;
}

pub named_none : (g : GroupSeen) (slot place : ℕ) → length g.sets ≤ place → NoneBelow g slot place → named g slot ≡ None
named_none g slot place all none = find_nothing no_set (λ s. is_named g.memory slot s) g.sets (λ j lt. none.each j (omega (arith, lt, all)))

-- a set, read at its place
pub set_is : (S : List Held) (k : ℕ) (x : Held) → k < length S → x ≡ get_or S k x → set_of (map seen_of S) k ≡ seen_of x
set_is S k x lt value = get_or-map seen_of S k x no_set lt ∙ ap (λ (h : Held). seen_of h) (sym value)

-- another slot is not that of a set
pub other_named : (memory : BlockSays) (slot : ℕ) (s : SetSeen) → s.slot ≢ slot → is_named memory slot s ≡ false
other_named memory slot s ne = go (is_enabled memory s)
  where
    go : (b : Bool) → (b && eqb s.slot slot) ≡ false
    go true = ne_eqb s.slot slot ne
    go false = refl

-- a place of the list is one of the sets that it stands for
pub place_lt : (S : List Held) (k : ℕ) → k < length (map seen_of S) → k < length S
place_lt S k lt = omega (arith, lt, length-map S seen_of)

-- ---- the set of a slot in the state

find_kept : (p : SetSeen → Bool) (f : SetSeen → ShadowState) → ((t : SetSeen) → (f t).slot ≡ t.slot) → (slot : ℕ) (S : List SetSeen)
    → find (λ t. has_slot slot t) (map f (filter p S)) ≡ option_map f (find (λ t. p t && eqb t.slot slot) S)
find_kept p f same slot [] = refl
find_kept p f same slot (t ∷ S) = go (find_kept p f same slot S) (p t)
  where
    here : find (λ u. has_slot slot u) (map f (filter p S)) ≡ option_map f (find (λ u. p u && eqb u.slot slot) S) → (b : Bool)
        → cond b (Some (f t)) (find (λ u. has_slot slot u) (map f (filter p S))) ≡ option_map f (cond b (Some t) (find (λ u. p u && eqb u.slot slot) S))
    here rest true = refl
    here rest false = rest

    go : find (λ u. has_slot slot u) (map f (filter p S)) ≡ option_map f (find (λ u. p u && eqb u.slot slot) S) → (b : Bool)
        → find (λ u. has_slot slot u) (map f (cond b (t ∷ filter p S) (filter p S))) ≡ option_map f (cond (b && eqb t.slot slot) (Some t) (find (λ u. p u && eqb u.slot slot) S))
    go rest true = ap (λ (n : ℕ). cond (eqb n slot) (Some (f t)) (find (λ u. has_slot slot u) (map f (filter p S)))) (same t) ∙ here rest (eqb t.slot slot)
    go rest false = rest

pub names_state : (g : GroupSeen) (slot : ℕ) → NamesState g slot
names_state g slot = record {
  state = λ i. find_kept (λ t. is_enabled g.says t) (λ t. set_by g.says g.volumes g.overs t) (λ t. refl) slot g.sets
      ∙ ap (λ (b : BlockSays). option_map (λ t. set_by g.says g.volumes g.overs t) (find (λ t. is_named b slot t) g.sets)) (sym i.block);
}
