-- What an event of two halves does on the hosts that they are on, and what a fault leaves on the host that it brings down.
use Rattle.std.specs.Prelude.{◌≡◌, ◌⊎◌, ℕ, Bool, true, None, Some, List, [], ◌∷◌, ◌++◌}
use Rattle.avs_seg.specs.Staged.{StoppedIn, run}
use Rattle.avs_model.specs.HostPlaces.{image_of}
use Rattle.avs_model.specs.BothHosts.{other_of}
use Rattle.avs_model.specs.declared.event.Host.{Host}
use Rattle.avs_mirrors.specs.Half.{HalfState}
use Rattle.avs_mirrors.specs.Pair.{PairState}
use Rattle.avs_mirrors.specs.Moves.{Move, after_all}
use Rattle.avs_mirrors.specs.Events.{PairEvent}
use Rattle.avs_mirrors.specs.Stops.{Stops}
use Rattle.avs_mirrors.specs.Steps.{Step, step_moves}
use Rattle.avs_mirrors.specs.MirrorHosts.{PairSet, MirrorStage, MirrorHost, mirror_set_of, is_set_in, half_at}
use Rattle.avs_mirrors.specs.HalfStages.{in_mirrors}
use Rattle.avs_mirrors.specs.MirrorStates.{MirrorState, PairStage, in_pair, mirror_host, with_mirror_host}
use Rattle.avs_mirrors.specs.PairOf.{View, IsPairOf}
use Rattle.avs_mirrors.specs.MoveStages.{AreAllStages, views_after}

-- the stages of an event, done or stopped, are those of its moves
abbrev pub AreStepStages : View → MirrorState → PairState → Step → List PairStage → Type 0
AreStepStages view state p s stages = AreAllStages view state p (step_moves p s) stages

-- and of several, one after another
abbrev pub AreRunStages : View → MirrorState → PairState → List Step → List PairStage → Type 0
AreRunStages view state p [] stages = stages ≡ []
AreRunStages view state p (s ∷ ss) stages =
    (first : List PairStage) × (more : List PairStage) × AreStepStages view state p s first
    × AreRunStages (views_after view (step_moves p s)) (run in_pair state first) (after_all p (step_moves p s)) ss more
    × (stages ≡ first ++ more)

abbrev pub views_behind : View → PairState → List Step → View
views_behind view p [] = view
views_behind view p (s ∷ ss) = views_behind (views_after view (step_moves p s)) (after_all p (step_moves p s)) ss

-- ---- stops

-- the host lies still in the midst of these stages; nothing else has changed since they were to begin
abbrev pub lies_still : MirrorState → Host → List MirrorStage → MirrorState
lies_still state host doing = with_mirror_host state host (record (mirror_host state host) { stopped = doing })

-- a fault: the event that it stops, whether the source then has a disk queue, and the host that it brings down
pub record Fault : Type 0 where
  pub event : PairEvent
  pub queued : Bool
  pub host : Host

-- what a host is left as is what moves leave that a fault may leave of the event, or nothing of it was done
pub record IsLeftBy (view : View) (state : MirrorState) (p : PairState) (fault : Fault) (left : MirrorHost) : Type 0 where
  pub moves : List Move
  pub stops : Stops fault.queued p fault.event moves ⊎ (moves ≡ [])
  pub after : IsPairOf (views_after view moves) (with_mirror_host state fault.host left) (after_all p moves)

-- a fault stops the event on a host that was about to do these stages: wherever it stops them, that is so
pub record StopsOn (view : View) (state : MirrorState) (p : PairState) (fault : Fault) (doing : List MirrorStage) : Type 0 where
  pub each : (left : MirrorHost) → StoppedIn in_mirrors (mirror_host state fault.host) doing left → IsLeftBy view state p fault left

-- no host lies still
pub record BothRun (state : MirrorState) : Type 0 where
  pub p : state.p.stopped ≡ []
  pub s : state.s.stopped ≡ []

-- ---- stages of others

-- a host is left alone as far as a half goes: its sets, their blocks and their bits, where it stands, and what it sent; it may have
-- another queue volume
pub record IsLeftAlone (view : View) (h : HalfState) (old new : MirrorHost) : Type 0 where
  pub here : (key : ℕ) → is_set_in new view.group (view.names key) ≡ is_set_in old view.group (view.names key)
  pub sets : (key : ℕ) → h.on key ≡ true → mirror_set_of new (view.names key) ≡ mirror_set_of old (view.names key)
  pub images : (key : ℕ) (set : PairSet) → h.on key ≡ true → mirror_set_of old (view.names key) ≡ Some set
      → image_of new.own set.volume ≡ image_of old.own set.volume
  pub seat : (half_at new view.group).seat ≡ (half_at old view.group).seat
  pub sent : (half_at new view.group).sent ≡ (half_at old view.group).sent

-- both are, and no worker of the group holds another message: it may have let go of the one that it held
pub record AreLeftAlone (view : View) (p : PairState) (old new : MirrorState) : Type 0 where
  pub source : IsLeftAlone view p.source (mirror_host old view.sender) (mirror_host new view.sender)
  pub target : IsLeftAlone view p.target (mirror_host old (other_of view.sender)) (mirror_host new (other_of view.sender))
  pub workers : (worker : ℕ) → (new.workers view.group worker ≡ old.workers view.group worker) ⊎ (new.workers view.group worker ≡ None)
