-- A commit of changes: what a command owes of each set and of each volume.
use Rattle.std.proofs.Common.{◌≡◌, ◌≢◌, ◌⊎◌, inl, inr, ℕ, zero, suc, ◌+◌, ◌<◌, Bool, true, false, cond, ◌&&◌, ◌||◌, Option, None, Some, List, [], ◌∷◌, ◌++◌, length, map, filter, get_or, ◌∙◌, sym, refl, ap, arith}
use Rattle.std.specs.List.{list_any, range_with_len, enumerate_from, filter_map, cons_option}
use Rattle.std.specs.Option.{option_map, unwrap_or}
use Rattle.std.proofs.lemmas.Bool.{cases_eq}
use Rattle.std.proofs.lemmas.List.{append-nil}
use Rattle.avs_dev.specs.Seen.{Seen}
use Rattle.avs_model.specs.ShadowSets.{ShadowState}
use Rattle.avs_model.specs.GroupStates.{GroupState, uses, used_over, is_over, next_sequence}
use Rattle.avs_model.specs.Room.{over_slots}
use Rattle.avs_model.specs.GroupStages.{Change, change_of, offline_first, sets_gone, changed_by, new_set, changed_image, committed}
use Rattle.avs_sets.specs.Says.{BlockSays}
use Rattle.avs_sets.specs.Sets.{SetSeen}
use Rattle.avs_sets.specs.Meaning.{set_of, is_enabled, volume_by, set_by, is_used, over_by, group_by}
use Rattle.avs_sets.proofs.Lift.{same_row}

-- a row with the number of each thing
pub numbered : {X Y : Type 0} (f : ℕ → X) (h : ℕ × X → Y) (n a : ℕ) → map h (enumerate_from a (map f (range_with_len a n))) ≡ map (λ v. h (v, f v)) (range_with_len a n)
numbered f h zero a = refl
numbered f h (suc n) a = λ p. h (a, f a) ∷ numbered f h n (a + 1) p

-- the sets behind a commit: each is changed, and stays or goes
module _ (p p' : SetSeen → Bool) (f f' : SetSeen → ShadowState) (first : ShadowState → ShadowState) (changed : ShadowState → Option ShadowState) where
  -- what a command owes of a set
  pub record Owed (t : SetSeen) : Type 0 where
    pub stays : p t ≡ true → p' t ≡ true → changed (first (f t)) ≡ Some (f' t)
    pub goes : p t ≡ true → p' t ≡ false → changed (first (f t)) ≡ None
    pub comes : p t ≡ false → p' t ≡ false

  pub sets_changed : (S : List SetSeen) → ((j : ℕ) → j < length S → Owed (set_of S j)) → filter_map changed (map first (map f (filter p S))) ≡ map f' (filter p' S)
  sets_changed [] owed = refl
  sets_changed (t ∷ S) owed = go (sets_changed S (λ j l. owed (suc j) (omega (arith, l)))) (p t) (p' t) refl refl
    where
      go : filter_map changed (map first (map f (filter p S))) ≡ map f' (filter p' S) → (b b' : Bool) → p t ≡ b → p' t ≡ b'
          → filter_map changed (map first (map f (cond b (t ∷ filter p S) (filter p S)))) ≡ map f' (cond b' (t ∷ filter p' S) (filter p' S))
      go rest true true is is' = λ i. cons_option ((owed 0 (omega arith)).stays is is' i) (rest i)
      go rest true false is is' = λ i. cons_option ((owed 0 (omega arith)).goes is is' i) (rest i)
      go rest false false is is' = rest
      go rest false true is is' = absurd (never (sym is' ∙ (owed 0 (omega arith)).comes is))
        where
          never : true ≡ false → ⊥
          never e = cc

-- which overflow volumes the states of enabled sets use
pub uses_same : (says : BlockSays) (f : SetSeen → ShadowState) → ((t : SetSeen) → (f t).over ≡ t.over) → (S : List SetSeen) (o : ℕ) → list_any (λ set. uses o set) (map f (filter (λ t. is_enabled says t) S)) ≡ is_used says S o
uses_same says f over_is [] o = refl
uses_same says f over_is (t ∷ S) o = go (uses_same says f over_is S o) (is_enabled says t)
  where
    go : list_any (λ set. uses o set) (map f (filter (λ t. is_enabled says t) S)) ≡ is_used says S o → (b : Bool)
        → list_any (λ set. uses o set) (map f (cond b (t ∷ filter (λ t. is_enabled says t) S) (filter (λ t. is_enabled says t) S))) ≡ ((b && is_over t.over o) || is_used says S o)
    go rest true = λ i. is_over (over_is t i) o || rest i
    go rest false = rest

-- less is used by fewer sets
pub less_used : (says block : BlockSays) (S : List SetSeen) (o : ℕ) → ((j : ℕ) → j < length S → is_enabled says (set_of S j) ≡ false → is_enabled block (set_of S j) ≡ false) → is_used says S o ≡ false → is_used block S o ≡ false
less_used says block [] o fewer is = refl
less_used says block (t ∷ S) o fewer is = go (is_enabled says t) (is_enabled block t) (is_over t.over o) (is_used says S o) (is_used block S o) (fewer 0 (omega arith)) (less_used says block S o (λ j l. fewer (suc j) (omega (arith, l)))) is
  where
    never : true ≡ false → ⊥
    never e = cc

    go : (a b x r r' : Bool) → (a ≡ false → b ≡ false) → (r ≡ false → r' ≡ false) → ((a && x) || r) ≡ false → ((b && x) || r') ≡ false
    go true true true r r' h h' is = absurd (never is)
    go true true false r r' h h' is = h' is
    go true false true r r' h h' is = absurd (never is)
    go true false false r r' h h' is = h' is
    go false b x r r' h h' is = ap (λ (c : Bool). (c && x) || r') (h refl) ∙ h' is

used_again : (a b : Bool) (x : Option ℕ) → (a ≡ false → b ≡ false) → cond b (cond a x None) None ≡ cond b x None
used_again true b x h = refl
used_again false true x h = elim (never (h refl)) [ ]
  where
    never : true ≡ false → ⊥
    never e = cc
used_again false false x h = refl

module _ (says block : BlockSays) (V O : List (Option Seen)) (S : List SetSeen) (changes : List (ℕ × Change)) (note : Option (List ℕ)) where
  abbrev before : GroupState
  before = sets_gone changes (group_by says V O S)

  abbrev first : ShadowState → ShadowState
  first set = offline_first (change_of changes set.slot) set

  abbrev changed : ShadowState → Option ShadowState
  changed set = changed_by changes before (change_of changes set.slot) set

  -- What a command owes that enables no set: the note and the number of the block; of each set that it is changed so, and of each volume
  -- that its image is.
  pub record Owes : Type 0 where
    pub note_is : block.note ≡ unwrap_or note says.note
    pub sequence_is : block.sequence ≡ next_sequence says.sequence
    pub none_new : filter_map (λ one. new_set before one) changes ≡ []
    pub each : (j : ℕ) → j < length S → Owed (λ t. is_enabled says t) (λ t. is_enabled block t) (λ t. set_by says V O t) (λ t. set_by block V O t) first changed (set_of S j)
    pub images : (v : ℕ) → v < length V → volume_by block V O S v ≡ option_map (λ image. changed_image changes before v image) (volume_by says V O S v)

  pub makes : Owes → group_by block V O S ≡ committed (group_by says V O S) changes note
  makes owes = sym (λ p. record {
    volumes = (numbered (λ v. volume_by says V O S v) (λ at. option_map (λ image. changed_image changes before at.0 image) at.1) (length V) 0 ∙ same_row None (length V) _ _ (λ v l. sym (owes.images v l))) p;
    overs = ((λ q. map (λ at. used_over (sets_now q) at) (enumerate_from 0 (map (λ o. over_by says O S o) (range_with_len 0 (length O)))))
        ∙ numbered (λ o. over_by says O S o) (λ at. used_over (map (λ t. set_by block V O t) (filter (λ t. is_enabled block t) S)) at) (length O) 0
        ∙ same_row None (length O) _ _ (λ o l. over_now o)) p;
    sets = sets_now p;
    note = sym owes.note_is p;
    sequence = sym owes.sequence_is p;
  })
    where
      sets_now : filter_map changed before.sets ++ filter_map (λ one. new_set before one) changes ≡ map (λ t. set_by block V O t) (filter (λ t. is_enabled block t) S)
      sets_now = ap (λ (l : List ShadowState). filter_map changed before.sets ++ l) owes.none_new ∙ append-nil (filter_map changed before.sets)
          ∙ sets_changed (λ t. is_enabled says t) (λ t. is_enabled block t) (λ t. set_by says V O t) (λ t. set_by block V O t) first changed S owes.each

      fewer : (j : ℕ) → j < length S → is_enabled says (set_of S j) ≡ false → is_enabled block (set_of S j) ≡ false
      fewer j l = (owes.each j l).comes

      over_now : (o : ℕ) → used_over (map (λ t. set_by block V O t) (filter (λ t. is_enabled block t) S)) (o, over_by says O S o) ≡ over_by block O S o
      over_now o =
          ap (λ (b : Bool). cond b (over_by says O S o) None) (uses_same block (λ t. set_by block V O t) (λ t. refl) S o)
          ∙ used_again (is_used says S o) (is_used block S o) (option_map (λ disk. over_slots disk.size) (get_or O o None)) (less_used says block S o fewer)

-- ---- a set is enabled too

none_in : (q : SetSeen → Bool) (S : List SetSeen) → ((j : ℕ) → j < length S → q (set_of S j) ≡ false) → filter q S ≡ []
none_in q [] none = refl
none_in q (t ∷ S) none = ap (λ (b : Bool). cond b (t ∷ filter q S) (filter q S)) (none 0 (omega arith)) ∙ none_in q S (λ j l. none (suc j) (omega (arith, l)))

module _ (p p' : SetSeen → Bool) (f f' : SetSeen → ShadowState) (first : ShadowState → ShadowState) (changed : ShadowState → Option ShadowState) where
  -- the sets behind a commit that enables one, which comes behind all others that are
  pub sets_grown : (S : List SetSeen) (k : ℕ) → k < length S → p (set_of S k) ≡ false → p' (set_of S k) ≡ true
      → ((j : ℕ) → j < length S → j ≢ k → Owed p p' f f' first changed (set_of S j)) → ((j : ℕ) → k < j → j < length S → p (set_of S j) ≡ false)
      → filter_map changed (map first (map f (filter p S))) ++ f' (set_of S k) ∷ [] ≡ map f' (filter p' S)
  sets_grown [] k lt was now owed last = elim (no k lt) [ ]
    where
      no : (k : ℕ) → k < 0 → ⊥
      no k lt = omega arith
  sets_grown (t ∷ S) zero lt was now owed last =
      ap (λ (b : Bool). filter_map changed (map first (map f (cond b (t ∷ filter p S) (filter p S)))) ++ f' t ∷ []) was
      ∙ ap (λ (l : List SetSeen). filter_map changed (map first (map f l)) ++ f' t ∷ []) (none_in p S (λ j l. last (suc j) (omega arith) (omega (arith, l))))
      ∙ sym (ap (λ (b : Bool). map f' (cond b (t ∷ filter p' S) (filter p' S))) now
      ∙ ap (λ (l : List SetSeen). f' t ∷ map f' l) (none_in p' S (λ j l. (owed (suc j) (omega (arith, l)) (λ e. omega (arith, e))).comes (last (suc j) (omega arith) (omega (arith, l))))))
  sets_grown (t ∷ S) (suc k) lt was now owed last =
      go (sets_grown S k (omega (arith, lt)) was now (λ j l ne. owed (suc j) (omega (arith, l)) (λ e. ne (omega (arith, e)))) (λ j b l. last (suc j) (omega (arith, b)) (omega (arith, l)))) (p t) (p' t) refl refl
    where
      here : Owed p p' f f' first changed t
      here = owed 0 (omega arith) (λ e. omega (arith, e))

      never : true ≡ false → ⊥
      never e = cc

      go : filter_map changed (map first (map f (filter p S))) ++ f' (set_of S k) ∷ [] ≡ map f' (filter p' S) → (b b' : Bool) → p t ≡ b → p' t ≡ b'
          → filter_map changed (map first (map f (cond b (t ∷ filter p S) (filter p S)))) ++ f' (set_of S k) ∷ [] ≡ map f' (cond b' (t ∷ filter p' S) (filter p' S))
      go rest true true is is' = ap (λ (o : Option ShadowState). cons_option o (filter_map changed (map first (map f (filter p S)))) ++ f' (set_of S k) ∷ []) (here.stays is is') ∙ ap (λ (l : List ShadowState). f' t ∷ l) rest
      go rest true false is is' = ap (λ (o : Option ShadowState). cons_option o (filter_map changed (map first (map f (filter p S)))) ++ f' (set_of S k) ∷ []) (here.goes is is') ∙ rest
      go rest false false is is' = rest
      go rest false true is is' = absurd (never (sym is' ∙ here.comes is))

-- no more is used where a set that is enabled too uses none
pub less_used_too : (says block : BlockSays) (S : List SetSeen) (o : ℕ) → ((j : ℕ) → j < length S → (is_enabled says (set_of S j) ≡ false → is_enabled block (set_of S j) ≡ false) ⊎ ((set_of S j).over ≡ None))
    → is_used says S o ≡ false → is_used block S o ≡ false
less_used_too says block [] o fewer is = refl
less_used_too says block (t ∷ S) o fewer is =
    let rest = less_used_too says block S o (λ j l. fewer (suc j) (omega (arith, l))) in
    elim (fewer 0 (omega arith)) [
      | inl same ↦ go (is_enabled says t) (is_enabled block t) (is_over t.over o) (is_used says S o) (is_used block S o) same rest is
      | inr none ↦
          ap (λ (x : Option ℕ). (is_enabled block t && is_over x o) || is_used block S o) none
          ∙ ap (λ (x : Bool). x || is_used block S o) (and_false (is_enabled block t))
          ∙ rest (right (is_enabled says t && is_over t.over o) (is_used says S o) is)
    ]
  where
    never : true ≡ false → ⊥
    never e = cc

    and_false : (b : Bool) → (b && false) ≡ false
    and_false true = refl
    and_false false = refl

    right : (a r : Bool) → (a || r) ≡ false → r ≡ false
    right true r is = absurd (never is)
    right false r is = is

    go : (a b x r r' : Bool) → (a ≡ false → b ≡ false) → (r ≡ false → r' ≡ false) → ((a && x) || r) ≡ false → ((b && x) || r') ≡ false
    go true true true r r' h h' is = absurd (never is)
    go true true false r r' h h' is = h' is
    go true false true r r' h h' is = absurd (never is)
    go true false false r r' h h' is = h' is
    go false b x r r' h h' is = ap (λ (c : Bool). (c && x) || r') (h refl) ∙ h' is

module _ (says block : BlockSays) (V O : List (Option Seen)) (S : List SetSeen) (changes : List (ℕ × Change)) (note : Option (List ℕ)) (k : ℕ) (lt : k < length S) where
  abbrev before_it : GroupState
  before_it = sets_gone changes (group_by says V O S)

  abbrev first_by : ShadowState → ShadowState
  first_by set = offline_first (change_of changes set.slot) set

  abbrev changed_then : ShadowState → Option ShadowState
  changed_then set = changed_by changes before_it (change_of changes set.slot) set

  -- what a command owes that enables one set, which uses no overflow volume
  pub record OwesMore : Type 0 where
    pub note_is : block.note ≡ unwrap_or note says.note
    pub sequence_is : block.sequence ≡ next_sequence says.sequence
    pub new : filter_map (λ one. new_set before_it one) changes ≡ set_by block V O (set_of S k) ∷ []
    pub was : is_enabled says (set_of S k) ≡ false
    pub now : is_enabled block (set_of S k) ≡ true
    pub over : (set_of S k).over ≡ None
    pub last : (j : ℕ) → k < j → j < length S → is_enabled says (set_of S j) ≡ false
    pub each : (j : ℕ) → j < length S → j ≢ k → Owed (λ t. is_enabled says t) (λ t. is_enabled block t) (λ t. set_by says V O t) (λ t. set_by block V O t) first_by changed_then (set_of S j)
    pub images : (v : ℕ) → v < length V → volume_by block V O S v ≡ option_map (λ image. changed_image changes before_it v image) (volume_by says V O S v)

  pub makes_more : OwesMore → group_by block V O S ≡ committed (group_by says V O S) changes note
  makes_more owes = sym (λ p. record {
    volumes = (numbered (λ v. volume_by says V O S v) (λ at. option_map (λ image. changed_image changes before_it at.0 image) at.1) (length V) 0 ∙ same_row None (length V) _ _ (λ v l. sym (owes.images v l))) p;
    overs = ((λ q. map (λ at. used_over (sets_now q) at) (enumerate_from 0 (map (λ o. over_by says O S o) (range_with_len 0 (length O)))))
        ∙ numbered (λ o. over_by says O S o) (λ at. used_over (map (λ t. set_by block V O t) (filter (λ t. is_enabled block t) S)) at) (length O) 0
        ∙ same_row None (length O) _ _ (λ o l. over_now o)) p;
    sets = sets_now p;
    note = sym owes.note_is p;
    sequence = sym owes.sequence_is p;
  })
    where
      sets_now : filter_map changed_then before_it.sets ++ filter_map (λ one. new_set before_it one) changes ≡ map (λ t. set_by block V O t) (filter (λ t. is_enabled block t) S)
      sets_now = ap (λ (l : List ShadowState). filter_map changed_then before_it.sets ++ l) owes.new
          ∙ sets_grown (λ t. is_enabled says t) (λ t. is_enabled block t) (λ t. set_by says V O t) (λ t. set_by block V O t) first_by changed_then S k lt owes.was owes.now owes.each owes.last

      fewer : (j : ℕ) → j < length S → (is_enabled says (set_of S j) ≡ false → is_enabled block (set_of S j) ≡ false) ⊎ ((set_of S j).over ≡ None)
      fewer j l = elim (cases_eq j k) [
        | inl is ↦ inr (ap (λ (x : ℕ). (set_of S x).over) is ∙ owes.over)
        | inr ne ↦ inl ((owes.each j l ne).comes)
      ]

      over_now : (o : ℕ) → used_over (map (λ t. set_by block V O t) (filter (λ t. is_enabled block t) S)) (o, over_by says O S o) ≡ over_by block O S o
      over_now o =
          ap (λ (b : Bool). cond b (over_by says O S o) None) (uses_same block (λ t. set_by block V O t) (λ t. refl) S o)
          ∙ used_again (is_used says S o) (is_used block S o) (option_map (λ disk. over_slots disk.size) (get_or O o None)) (less_used_too says block S o fewer)
