-- Stages: what something does to a state, part by part. It may be stopped behind some of them, in the midst of the next.
use Rattle.std.specs.Prelude.{◌≡◌, ◌⊎◌, Bool, true, false, if◌then◌else◌, List, [], ◌∷◌}

-- what stages of T do to states of S: the state behind a stage, and the states in the midst of one
pub record Stages (S T : Type 0) : Type 1 where
  pub after : S → T → S
  pub In : S → T → S → Type 0

-- the state behind all of them
abbrev pub run : {S T : Type 0} → Stages S T → S → List T → S
run does state [] = state
run does state (stage ∷ stages) = run does (does.after state stage) stages

-- the state where these stages were stopped: some are done, and perhaps the next in part
abbrev pub StoppedIn : {S T : Type 0} → Stages S T → S → List T → S → Type 0
StoppedIn does state [] new = new ≡ state
StoppedIn does state (stage ∷ stages) new =
    (new ≡ state) ⊎ does.In state stage new ⊎ StoppedIn does (does.after state stage) stages new

-- stages that are done within a larger state: `inside` is the larger state with this part, `as_outer` the larger stage
pub record IsWithin {S T U V : Type 0} (does : Stages S T) (outer : Stages U V) (inside : S → U) (as_outer : T → V) : Type 0 where
  pub after_same : (state : S) (stage : T) → outer.after (inside state) (as_outer stage) ≡ inside (does.after state stage)
  pub in_same : (state : S) (stage : T) (new : S) → does.In state stage new → outer.In (inside state) (as_outer stage) (inside new)

-- and the larger stages have no other midst than theirs
pub record IsOnlyWithin {S T U V : Type 0} (does : Stages S T) (outer : Stages U V) (inside : S → U) (as_outer : T → V) : Type 0 where
  pub same : IsWithin does outer inside as_outer
  pub only : (state : S) (stage : T) (new : U) → outer.In (inside state) (as_outer stage) new
      → (left : S) × (does.In state stage left × (new ≡ inside left))

-- the parts of a whole, by an index: a part, the whole with another one in its place, and which indices are the same
pub record Parts (I S W : Type 0) : Type 0 where
  pub part : W → I → S
  pub with_part : W → I → S → W
  pub is_same : I → I → Bool

-- each part stands by itself
pub record ArePartsApart {I S W : Type 0} (parts : Parts I S W) : Type 0 where
  pub same : (i j : I) → parts.is_same i j ≡ true → i ≡ j
  pub self : (i : I) → parts.is_same i i ≡ true
  pub set : (whole : W) (i : I) (new : S) → parts.part (parts.with_part whole i new) i ≡ new
  pub others : (whole : W) (i j : I) (new : S) → parts.is_same i j ≡ false
      → parts.part (parts.with_part whole j new) i ≡ parts.part whole i

-- what stages of the parts do to the whole: each is a pair of a part's index and a stage of that part
abbrev pub in_parts : {I S W T : Type 0} → Parts I S W → Stages S T → Stages W (I × T)
in_parts parts does = record {
  after = λ whole at. parts.with_part whole at.0 (does.after (parts.part whole at.0) at.1);
  In = λ whole at new.
      (left : _) × (does.In (parts.part whole at.0) at.1 left) × (new ≡ parts.with_part whole at.0 left);
}

-- the stages of one part, in their order
abbrev pub own : {I S W T : Type 0} → Parts I S W → I → List (I × T) → List T
own parts i [] = []
own parts i (at ∷ stages) = if parts.is_same i at.0 then at.1 ∷ own parts i stages else own parts i stages
