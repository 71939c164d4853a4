-- Stages within the only group of host p.
use Rattle.std.proofs.Common.{◌≡◌, List, [], ◌∷◌, map, refl, sym, ◌∙◌, ap, subst, inl, inr}
use Rattle.avs_model.specs.Shadows.{GroupState, GroupStage}
use Rattle.avs_model.specs.Shadows as shadows
use Rattle.avs_model.specs.State.{State, ShadowGroup}
use Rattle.avs_model.specs.Stages.{Stage, Within, after_stages, StoppedIn}
use Rattle.avs_model.specs.declared.event.Host.TheVariants.{P}

-- the state, with that group alone
abbrev pub holding : State → ShadowGroup → State
holding state group = record state { p = record state.p { groups = group ∷ [] } }

-- the group, with that state
abbrev pub group_in : ShadowGroup → GroupState → ShadowGroup
group_in group held = record group { state = held }

abbrev pub within : GroupStage → Stage
within stage = Within P 0 stage

pub holds_group : (state : State) (group : ShadowGroup) → state.p.groups ≡ group ∷ [] → state ≡ holding state group
holds_group state group is = λ i. record state { p = record state.p { groups = is i } }

after_holding : (state : State) (group : ShadowGroup) (stages : List GroupStage) → after_stages (holding state group) (map within stages) ≡ holding state (group_in group (shadows.after_stages group.state stages))
after_holding state group [] = refl
after_holding state group (stage ∷ stages) = after_holding state (group_in group (shadows.after_stage group.state stage)) stages

stopped_holding : (state : State) (group : ShadowGroup) (stages : List GroupStage) (left : GroupState) → shadows.StoppedIn group.state stages left → StoppedIn (holding state group) (map within stages) (holding state (group_in group left))
stopped_holding state group [] left is = ap (λ (s : GroupState). holding state (group_in group s)) is
stopped_holding state group (stage ∷ stages) left (inl is) = inl (ap (λ (s : GroupState). holding state (group_in group s)) is)
stopped_holding state group (stage ∷ stages) left (inr (inl midst)) = inr (inl (left, midst, refl))
stopped_holding state group (stage ∷ stages) left (inr (inr rest)) = inr (inr (stopped_holding state (group_in group (shadows.after_stage group.state stage)) stages left rest))

module _ (state : State) (group : ShadowGroup) (is : state.p.groups ≡ group ∷ []) (stages : List GroupStage) where
  -- all of them are done in the group
  pub after_within : after_stages state (map within stages) ≡ holding state (group_in group (shadows.after_stages group.state stages))
  after_within = ap (λ (s : State). after_stages s (map within stages)) (holds_group state group is) ∙ after_holding state group stages

  -- they are stopped in the group
  pub stopped_within : (left : GroupState) → shadows.StoppedIn group.state stages left → StoppedIn state (map within stages) (holding state (group_in group left))
  stopped_within left stopped =
      subst (λ (s : State). StoppedIn s (map within stages) (holding state (group_in group left))) (sym (holds_group state group is)) (stopped_holding state group stages left stopped)
