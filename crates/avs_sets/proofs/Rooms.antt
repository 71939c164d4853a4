-- Where each set that is online has room for what it needs, none goes offline by an update that touches no chunk.
use Rattle.std.proofs.Common.{◌≡◌, ℕ, Bool, true, false, not, cond, eqb, ◌&&◌, Option, None, Some, List, [], ◌∷◌, map, filter, find, ◌∙◌, refl, ap}
use Rattle.std.specs.Option.{option_map, option_map_or}
use Rattle.avs_model.specs.ShadowSets.{ChunkList, no_chunks, ShadowState}
use Rattle.avs_model.specs.GroupStates.{GroupState, has_slot, has_master, with_set}
use Rattle.avs_model.specs.Room.{gone_of, gone_with, touched_too, has_room, may_go}
use Rattle.avs_model.specs.GroupStages.{ToShadow, change_of, is_to_master, overwritten_chunks, is_named, named_changes, gone_by_update}
use Rattle.avs_model.specs.declared.product.Way.TheVariants.{ToShadow as way_to_shadow}
use Rattle.avs_sets.specs.Rooms.{HaveRoom}

and_false : (b : Bool) → (b && false) ≡ false
and_false true = refl
and_false false = refl

and_left : (a b : Bool) → (a && b) ≡ true → a ≡ true
and_left true b is = refl
and_left false b is = is

-- ---- no chunk is touched

none_touched : (slot : ℕ) (sets : List ShadowState) → map (λ set. cond (has_slot slot set) (touched_too no_chunks set) set) sets ≡ sets
none_touched slot [] = refl
none_touched slot (s ∷ sets) = λ i. one (has_slot slot s) i ∷ none_touched slot sets i
  where
    one : (b : Bool) → cond b (touched_too no_chunks s) s ≡ s
    one true = refl
    one false = refl

same_group : (group : GroupState) (slot : ℕ) (chunks : ChunkList) → chunks ≡ no_chunks → with_set group slot (touched_too chunks) ≡ group
same_group group slot chunks none =
    ap (λ (c : ChunkList). with_set group slot (touched_too c)) none
    ∙ ap (λ (l : List ShadowState). record group { sets = l }) (none_touched slot group.sets)

module _ (group : GroupState) (chunks : ShadowState → ChunkList) (none : (s : ShadowState) → chunks s ≡ no_chunks) (p : ShadowState → Bool) (goes : (s : ShadowState) → p s ≡ true → may_go s ≡ true) where
  pub none_gone : (sets : List ShadowState) → HaveRoom group sets → gone_of group chunks (filter p sets) ≡ []
  none_gone [] room = refl
  none_gone (s ∷ sets) (here, rest) = go (none_gone sets rest) (p s) refl
    where
      go : gone_of group chunks (filter p sets) ≡ [] → (b : Bool) → p s ≡ b → gone_of group chunks (cond b (s ∷ filter p sets) (filter p sets)) ≡ []
      go others false is = others
      go others true is =
          ap (λ (b : Bool). cond b (gone_of (with_set group s.slot (touched_too (chunks s))) chunks (filter p sets)) (gone_with group (chunks s) s ∷ gone_of group chunks (filter p sets)))
          (ap (λ (c : ChunkList). has_room group c s) (none s) ∙ here (goes s is))
          ∙ ap (λ (g : GroupState). gone_of g chunks (filter p sets)) (same_group group s.slot (chunks s) (none s))
          ∙ others

-- ---- an update to the shadow touches none

no_master : (whole : Bool) (slots : List ℕ) (n : ℕ) → is_to_master (change_of (named_changes way_to_shadow whole slots) n) ≡ false
no_master whole [] n = refl
no_master whole (slot ∷ slots) n = go (no_master whole slots n) (eqb slot n)
  where
    go : is_to_master (change_of (named_changes way_to_shadow whole slots) n) ≡ false → (b : Bool) → is_to_master (option_map (λ one. one.1) (cond b (Some (slot, ToShadow whole)) (find (λ one. eqb one.0 n) (named_changes way_to_shadow whole slots)))) ≡ false
    go others true = refl
    go others false = others

no_source : (whole : Bool) (slots : List ℕ) (volume : ℕ) (sets : List ShadowState)
    → find (λ (set : ShadowState). has_master volume set && is_to_master (change_of (named_changes way_to_shadow whole slots) set.slot)) sets ≡ None
no_source whole slots volume [] = refl
no_source whole slots volume (s ∷ sets) =
    ap (λ (b : Bool). cond b (Some s) (find (λ (set : ShadowState). has_master volume set && is_to_master (change_of (named_changes way_to_shadow whole slots) set.slot)) sets))
    (ap (λ (b : Bool). has_master volume s && b) (no_master whole slots s.slot) ∙ and_false (has_master volume s))
    ∙ no_source whole slots volume sets

-- Where each set that is online has room for what it needs, an update to the shadow puts none offline.
pub to_shadow_none_gone : (group : GroupState) (whole : Bool) (slots : List ℕ) → HaveRoom group group.sets → gone_by_update group way_to_shadow whole slots ≡ []
to_shadow_none_gone group whole slots room = none_gone group (λ set. overwritten_chunks (named_changes way_to_shadow whole slots) group set.master)
    (λ set. ap (λ (o : Option ShadowState). option_map_or (λ from. from.lists.moved) o no_chunks) (no_source whole slots set.master group.sets))
    (λ set. may_go set && not (is_named slots set)) (λ s is. and_left (may_go s) (not (is_named slots s)) is) group.sets room
