-- The set by which a command makes a master the shadow, and what a command leaves as it is where there is none.
use Rattle.std.proofs.Common.{◌≡◌, ◌≢◌, ℕ, zero, suc, ◌<◌, Bool, true, false, cond, eqb, ◌&&◌, ◌||◌, Option, None, Some, List, [], ◌∷◌, length, map, filter, find, ◌∙◌, refl, ap, arith, ◌++◌}
use Rattle.std.specs.List.{list_any, filter_map, cons_option}
use Rattle.std.specs.Option.{option_map, option_map_or}
use Rattle.std.proofs.Math.Path.{fun_ext}
use Rattle.avs_seg.specs.Image.{Image}
use Rattle.avs_dev.specs.Seen.{Seen}
use Rattle.avs_model.specs.ShadowSets.{no_chunks, together, apart_from, ChunkLists, is_offline, is_independent, lists_overwritten, overwritten, ShadowState}
use Rattle.avs_model.specs.GroupStates.{GroupState, has_master}
use Rattle.avs_model.specs.GroupStages.{Change, Enabled, Disabled, ToShadow, ToMaster, Stops, GoesOffline, Exported, Joined, change_of, offline_first, sets_gone, is_to_master, source_of, as_other, changed_image, new_set, change_by, named_changes, goes_offline}
use Rattle.avs_model.specs.Room.{Gone}
use Rattle.avs_sets.specs.Goes.{gone_at}
use Rattle.avs_model.specs.declared.product.Way.{Way}
use Rattle.avs_model.specs.declared.product.Way.TheVariants.{ToShadow as way_to_shadow, ToMaster as way_to_master}
use Rattle.avs_model.specs.declared.shadow.Kind.{Kind}
use Rattle.avs_sets.specs.Says.{BlockSays}
use Rattle.avs_sets.specs.Sets.{SetSeen}
use Rattle.avs_sets.specs.Meaning.{set_of, is_enabled, set_by, group_by}

never : true ≡ false → ⊥
never e = cc

-- ---- the first of the enabled sets that passes a test

module _ (p : SetSeen → Bool) (f : SetSeen → ShadowState) (first : ShadowState → ShadowState) (test : ShadowState → Bool) where
  pub find_none : (S : List SetSeen) → ((j : ℕ) → j < length S → p (set_of S j) ≡ true → test (first (f (set_of S j))) ≡ false) → find test (map first (map f (filter p S))) ≡ None
  find_none [] fails = refl
  find_none (t ∷ S) fails = go (find_none S (λ j l. fails (suc j) (omega (arith, l)))) (p t) refl
    where
      go : find test (map first (map f (filter p S))) ≡ None → (b : Bool) → p t ≡ b → find test (map first (map f (cond b (t ∷ filter p S) (filter p S)))) ≡ None
      go rest true is = ap (λ (b : Bool). cond b (Some (first (f t))) (find test (map first (map f (filter p S))))) (fails 0 (omega arith) is) ∙ rest
      go rest false is = rest

  pub find_own : (S : List SetSeen) (k : ℕ) → k < length S → p (set_of S k) ≡ true → test (first (f (set_of S k))) ≡ true
      → ((j : ℕ) → j < length S → j ≢ k → p (set_of S j) ≡ true → test (first (f (set_of S j))) ≡ false)
      → find test (map first (map f (filter p S))) ≡ Some (first (f (set_of S k)))
  find_own [] k lt on passes fails = elim (no k lt) [ ]
    where
      no : (k : ℕ) → k < 0 → ⊥
      no k lt = omega arith
  find_own (t ∷ S) zero lt on passes fails =
      ap (λ (b : Bool). find test (map first (map f (cond b (t ∷ filter p S) (filter p S))))) on
      ∙ ap (λ (b : Bool). cond b (Some (first (f t))) (find test (map first (map f (filter p S))))) passes
  find_own (t ∷ S) (suc k) lt on passes fails = go (find_own S k (omega (arith, lt)) on passes (λ j l ne. fails (suc j) (omega (arith, l)) (λ e. ne (omega (arith, e))))) (p t) refl
    where
      go : find test (map first (map f (filter p S))) ≡ Some (first (f (set_of S k))) → (b : Bool) → p t ≡ b
          → find test (map first (map f (cond b (t ∷ filter p S) (filter p S)))) ≡ Some (first (f (set_of S k)))
      go rest true is = ap (λ (b : Bool). cond b (Some (first (f t))) (find test (map first (map f (filter p S))))) (fails 0 (omega arith) (λ e. omega (arith, e)) is) ∙ rest
      go rest false is = rest

-- ---- a set whose master is overwritten in no chunk is as before

same_lists : (kind : Kind) (lists : ChunkLists) → lists_overwritten kind no_chunks lists ≡ lists
same_lists kind lists = λ p. record lists {
  touched = touched (is_independent kind) p;
  moved = fun_ext {f = together no_chunks lists.moved} {g = lists.moved} (λ c. refl) p;
  left = fun_ext {f = apart_from no_chunks lists.left} {g = lists.left} (λ c. refl) p;
  back = fun_ext {f = apart_from no_chunks lists.back} {g = lists.back} (λ c. refl) p;
}
  where
    touched : (b : Bool) → cond b lists.touched (together no_chunks lists.touched) ≡ lists.touched
    touched true = refl
    touched false = fun_ext {f = together no_chunks lists.touched} {g = lists.touched} (λ c. refl)

pub overwritten_none : (set : ShadowState) → overwritten no_chunks set ≡ set
overwritten_none set = go (is_offline set.standing)
  where
    go : (b : Bool) → cond b set (record set { lists = lists_overwritten set.kind no_chunks set.lists }) ≡ set
    go true = refl
    go false = λ p. record set { lists = same_lists set.kind set.lists p }

-- ---- what a change puts first keeps the set's slot and master

pub first_slot : (c : Option Change) (set : ShadowState) → (offline_first c set).slot ≡ set.slot
first_slot None set = refl
first_slot (Some (Enabled _ _ _ _)) set = refl
first_slot (Some Disabled) set = refl
first_slot (Some (ToShadow whole)) set = refl
first_slot (Some ToMaster) set = refl
first_slot (Some Stops) set = refl
first_slot (Some (GoesOffline need slots)) set = refl
first_slot (Some (Exported stamp)) set = refl
first_slot (Some (Joined chunks contents)) set = refl

pub first_master : (c : Option Change) (set : ShadowState) → (offline_first c set).master ≡ set.master
first_master None set = refl
first_master (Some (Enabled _ _ _ _)) set = refl
first_master (Some Disabled) set = refl
first_master (Some (ToShadow whole)) set = refl
first_master (Some ToMaster) set = refl
first_master (Some Stops) set = refl
first_master (Some (GoesOffline need slots)) set = refl
first_master (Some (Exported stamp)) set = refl
first_master (Some (Joined chunks contents)) set = refl

-- ---- a command by which no master becomes a shadow

module _ (says : BlockSays) (V O : List (Option Seen)) (S : List SetSeen) (changes : List (ℕ × Change)) where
  abbrev pub before : GroupState
  before = sets_gone changes (group_by says V O S)

  abbrev pub first : ShadowState → ShadowState
  first set = offline_first (change_of changes set.slot) set

  module _ (no_master : (j : ℕ) → j < length S → is_enabled says (set_of S j) ≡ true → is_to_master (change_of changes (set_of S j).slot) ≡ false) where
    pub no_source : (v : ℕ) → source_of changes before v ≡ None
    no_source v = find_none (λ t. is_enabled says t) (λ t. set_by says V O t) first (λ set. has_master v set && is_to_master (change_of changes set.slot)) S
        (λ j l live. fails (has_master v (first (set_by says V O (set_of S j)))) _ (ap (λ (n : ℕ). is_to_master (change_of changes n)) (first_slot (change_of changes (set_of S j).slot) (set_by says V O (set_of S j))) ∙ no_master j l live))
      where
        fails : (a b : Bool) → b ≡ false → (a && b) ≡ false
        fails true b is = is
        fails false b is = refl

    pub as_it_is : (set : ShadowState) → as_other changes before set ≡ set
    as_it_is set = ap (λ (o : Option ShadowState). overwritten (option_map_or (λ from. from.lists.moved) o no_chunks) set) (no_source set.master) ∙ overwritten_none set

    pub image_as_it_is : (v : ℕ) (o : Option Image) → option_map (λ image. changed_image changes before v image) o ≡ o
    image_as_it_is v None = refl
    image_as_it_is v (Some image) = ap (λ (s : Option ShadowState). Some (option_map_or (λ from. from.contents.image) s image)) (no_source v)

-- ---- the changes of the named sets of an update

pub named_change : (way : Way) (whole : Bool) (slots : List ℕ) (slot : ℕ) → change_of (named_changes way whole slots) slot ≡ cond (list_any (λ one. eqb one slot) slots) (Some (change_by way whole)) None
named_change way whole [] slot = refl
named_change way whole (one ∷ slots) slot = go (named_change way whole slots slot) (eqb one slot)
  where
    go : change_of (named_changes way whole slots) slot ≡ cond (list_any (λ one. eqb one slot) slots) (Some (change_by way whole)) None → (b : Bool)
        → option_map (λ (x : ℕ × Change). x.1) (cond b (Some (one, change_by way whole)) (find (λ x. eqb x.0 slot) (named_changes way whole slots))) ≡ cond (b || list_any (λ one. eqb one slot) slots) (Some (change_by way whole)) None
    go rest true = refl
    go rest false = rest

pub named_none_new : (way : Way) (whole : Bool) (slots : List ℕ) (group : GroupState) → filter_map (λ one. new_set group one) (named_changes way whole slots) ≡ []
named_none_new way whole [] group = refl
named_none_new way whole (one ∷ slots) group = go way (named_none_new way whole slots group)
  where
    go : (x : Way) → filter_map (λ one. new_set group one) (named_changes way whole slots) ≡ [] → cons_option (new_set group (one, change_by x whole)) (filter_map (λ one. new_set group one) (named_changes way whole slots)) ≡ []
    go way_to_shadow rest = rest
    go way_to_master rest = rest

-- ---- and with them those of the sets that go offline

abbrev pub gone_or : Option Gone → Option Change → Option Change
gone_or None change = change
gone_or (Some one) change = Some (GoesOffline one.need one.slots)

pub gone_change : (gone : List Gone) (changes : List (ℕ × Change)) (slot : ℕ) → change_of (map goes_offline gone ++ changes) slot ≡ gone_or (gone_at gone slot) (change_of changes slot)
gone_change [] changes slot = refl
gone_change (one ∷ gone) changes slot = go (gone_change gone changes slot) (eqb one.slot slot)
  where
    go : change_of (map goes_offline gone ++ changes) slot ≡ gone_or (gone_at gone slot) (change_of changes slot) → (b : Bool)
        → option_map (λ (x : ℕ × Change). x.1) (cond b (Some (goes_offline one)) (find (λ x. eqb x.0 slot) (map goes_offline gone ++ changes))) ≡ gone_or (cond b (Some one) (gone_at gone slot)) (change_of changes slot)
    go rest true = refl
    go rest false = rest

pub gone_none_new : (gone : List Gone) (changes : List (ℕ × Change)) (group : GroupState) → filter_map (λ one. new_set group one) changes ≡ [] → filter_map (λ one. new_set group one) (map goes_offline gone ++ changes) ≡ []
gone_none_new [] changes group none = none
gone_none_new (one ∷ gone) changes group none = gone_none_new gone changes group none
