-- Events as stages of the hosts; what a fault leaves; and stages of others.
use Rattle.std.proofs.Common.{◌≡◌, ◌⊎◌, inl, inr, ℕ, Bool, List, [], ◌∷◌, None, Some, ◌∙◌, refl, sym, ap, subst}
use Rattle.avs_seg.specs.Staged.{StoppedIn, run}
use Rattle.avs_seg.proofs.StagedLaws.{run-append}
use Rattle.avs_model.specs.Hosts.{Name}
use Rattle.avs_model.specs.declared.event.Host.{Host}
use Rattle.avs_model.specs.declared.event.Host.TheVariants.{P, S}
use Rattle.avs_mirrors.specs.Accepts.{Accepts}
use Rattle.avs_mirrors.specs.Events.{PairEvent, moves}
use Rattle.avs_mirrors.specs.EventStages.{AreLeftAlone, AreRunStages, AreStepStages, BothRun, Fault, IsLeftAlone, IsLeftBy, StopsOn, lies_still, views_behind}
use Rattle.avs_mirrors.specs.Half.{HalfState}
use Rattle.avs_mirrors.specs.HalfStages.{InMirrorStage, after_mirror_stage, in_mirrors}
use Rattle.avs_mirrors.specs.MirrorHosts.{MirrorHost, MirrorStage, NamedMessage, Sent}
use Rattle.avs_mirrors.specs.MirrorStates.{AtHost, BothStandFor, MirrorState, PairStage, StandsFor, Workers, in_pair, mirror_host, with_mirror_host}
use Rattle.avs_mirrors.specs.MoveStages.{AreAllStages, views_after}
use Rattle.avs_mirrors.specs.Moves.{Move, after_all}
use Rattle.avs_mirrors.specs.Pair.{PairState}
use Rattle.avs_mirrors.specs.PairOf.{HasPair, IsHalfOf, IsPairOf, IsReachedOf, IsSentOf, IsOneSet, View}
use Rattle.avs_mirrors.specs.Reached.{IsReached}
use Rattle.avs_mirrors.specs.Steps.{AllHappen, Happens, Step, Stopped, all_moves, step_moves}
use Rattle.avs_mirrors.specs.Stops.{Stops}
use Rattle.avs_pair.proofs.Always.{after_join, reached_more}
use Rattle.avs_pair.proofs.PairKept.{moves_kept}
use Rattle.avs_pair.proofs.Steps.{step_allowed}

-- ---- events, done or stopped

pub step_kept : (view : View) (state : MirrorState) (p : PairState) (s : Step) (stages : List PairStage) → IsReachedOf view state p → Happens p s → AreStepStages view state p s stages
    → IsReachedOf (views_after view (step_moves p s)) (run in_pair state stages) (after_all p (step_moves p s))
step_kept view state p s stages is happens a = moves_kept view state p (step_moves p s) stages is (step_allowed p s is.reached happens) a

pub steps_kept : (view : View) (state : MirrorState) (p : PairState) (ss : List Step) (stages : List PairStage) → IsReachedOf view state p → AllHappen p ss → AreRunStages view state p ss stages
    → IsReachedOf (views_behind view p ss) (run in_pair state stages) (after_all p (all_moves p ss))
steps_kept view state p [] stages is happen a = subst (λ (st : List PairStage). IsReachedOf view (run in_pair state st) p) (sym a) is
steps_kept view state p (s ∷ ss) stages is happen a =
    let first : List PairStage = a.0 in
    let more : List PairStage = a.1 in
    let one : IsReachedOf (views_after view (step_moves p s)) (run in_pair state first) (after_all p (step_moves p s)) = step_kept view state p s first is happen.0 a.2 in
    let all : IsReachedOf (views_behind view p (s ∷ ss)) (run in_pair (run in_pair state first) more) (after_all (after_all p (step_moves p s)) (all_moves (after_all p (step_moves p s)) ss)) =
    steps_kept (views_after view (step_moves p s)) (run in_pair state first) (after_all p (step_moves p s)) ss more one happen.1 a.3 in
    let there : IsReachedOf (views_behind view p (s ∷ ss)) (run in_pair state stages) (after_all (after_all p (step_moves p s)) (all_moves (after_all p (step_moves p s)) ss)) =
    subst (λ (left : MirrorState). IsReachedOf (views_behind view p (s ∷ ss)) left (after_all (after_all p (step_moves p s)) (all_moves (after_all p (step_moves p s)) ss))) (sym (ap (run in_pair state) a.4 ∙ run-append in_pair state first more)) all in
    subst (λ (q : PairState). IsReachedOf (views_behind view p (s ∷ ss)) (run in_pair state stages) q) (sym (after_join p (step_moves p s) (all_moves (after_all p (step_moves p s)) ss))) there

-- ---- stages of others

left_alone : (view : View) (h : HalfState) (old new : MirrorHost) → IsLeftAlone view h old new → IsHalfOf view.names view.group old h → IsHalfOf view.names view.group new h
left_alone view h old new a is = record {
  here = λ key. is.here key ∙ sym (a.here key);
  sets = λ key on. let o : IsOneSet view.names old h key = is.sets key on in record {
    set = o.set;
    found = a.sets key on ∙ o.found;
    named = o.named;
    image = o.image ∙ sym (a.images key o.set on o.found);
    contents = o.contents;
    due = o.due;
  };
  seat = a.seat ∙ is.seat;
  plain = is.plain;
}

pub pair_left_alone : (view : View) (p : PairState) (old new : MirrorState) → AreLeftAlone view p old new → IsPairOf view old p → IsPairOf view new p
pair_left_alone view p old new a is = record {
  apart = is.apart;
  source = left_alone view p.source _ _ a.source is.source;
  target = left_alone view p.target _ _ a.target is.target;
  sent = λ on. subst (λ (sent : Sent). IsSentOf view.names sent p.source p.session) (sym a.source.sent) (is.sent on);
  workers = record { each = λ worker m holds. is.workers.each worker m (by worker m (a.workers worker) holds) };
}
  where
    not_held : (m : NamedMessage) → None ≡ Some m → ⊥
    not_held m is = absurd (cc)

    by : (worker : ℕ) (m : NamedMessage) → (new.workers view.group worker ≡ old.workers view.group worker) ⊎ (new.workers view.group worker ≡ None)
        → new.workers view.group worker ≡ Some m → old.workers view.group worker ≡ Some m
    by worker m (inl same) holds = sym same ∙ holds
    by worker m (inr none) holds = absurd (not_held m (sym none ∙ holds))

-- ---- what a fault leaves

same_group : (view : View) (ms : List Move) → (views_after view ms).group ≡ view.group
same_group view [] = refl
same_group view (m ∷ ms) = same_group _ ms

nothing_stopped : (host : MirrorHost) → host.stopped ≡ [] → record host { stopped = [] } ≡ host
nothing_stopped host none = ap (λ (l : List MirrorStage). record host { stopped = l }) (sym none)

-- a host that runs stands for itself
runs_still : (host left : MirrorHost) → host.stopped ≡ [] → StandsFor host left → left ≡ host
runs_still host left none stands = subst (λ (l : List MirrorStage). StoppedIn in_mirrors (record host { stopped = [] }) l left) none stands ∙ nothing_stopped host none

-- one that lies still, for what is left
lies_where : (host left : MirrorHost) (doing : List MirrorStage) → host.stopped ≡ [] → StandsFor (record host { stopped = doing }) left → StoppedIn in_mirrors host doing left
lies_where host left doing none stands = subst (λ (h : MirrorHost). StoppedIn in_mirrors h doing left) (nothing_stopped host none) stands

left_state : (state left : MirrorState) (host : Host) (doing : List MirrorStage) → BothRun state → BothStandFor (lies_still state host doing) left
    → (one : MirrorHost) × StoppedIn in_mirrors (mirror_host state host) doing one × (left ≡ with_mirror_host state host one)
left_state state left P doing runs stands = (
  left.p,
  lies_where state.p left.p doing runs.p stands.p,
  ap (λ (host : MirrorHost). record left { s = host }) (runs_still state.s left.s runs.s stands.s) ∙ ap (λ (w : Workers). record { p = left.p; s = state.s; workers = w }) stands.workers,
)
left_state state left S doing runs stands = (
  left.s,
  lies_where state.s left.s doing runs.s stands.s,
  ap (λ (host : MirrorHost). record left { p = host }) (runs_still state.p left.p runs.p stands.p) ∙ ap (λ (w : Workers). record { p = state.p; s = left.s; workers = w }) stands.workers,
)

left_reached : (queued : Bool) (p : PairState) (e : PairEvent) (ms : List Move) → IsReached p → Accepts p e → Stops queued p e ms ⊎ (ms ≡ []) → IsReached (after_all p ms)
left_reached queued p e ms reached accepts (inl stops) = reached_more p ms reached (step_allowed p (Stopped queued e ms) reached (accepts, stops))
left_reached queued p e ms reached accepts (inr none) = subst (λ (l : List Move). IsReached (after_all p l)) (sym none) reached

pub stop_has_pair : (view : View) (state : MirrorState) (p : PairState) (queued : Bool) (e : PairEvent) (host : Host) (doing : List MirrorStage) → IsReached p → BothRun state → Accepts p e → StopsOn view state p (record { event = e; queued = queued; host = host }) doing
    → HasPair view.group (lies_still state host doing)
stop_has_pair view state p queued e host doing reached runs accepts stops = record { each = λ left stands. one left (left_state state left host doing runs stands) }
  where
    one : (left : MirrorState) → (one : MirrorHost) × StoppedIn in_mirrors (mirror_host state host) doing one × (left ≡ with_mirror_host state host one)
        → (view' : View) × (q : PairState) × (view'.group ≡ view.group) × IsReachedOf view' left q
    one left found =
        let by : IsLeftBy view state p (record { event = e; queued = queued; host = host }) found.0 = stops.each found.0 found.1 in (
          views_after view by.moves,
          after_all p by.moves,
          same_group view by.moves,
          record {
            is = subst (λ (state' : MirrorState). IsPairOf (views_after view by.moves) state' (after_all p by.moves)) (sym found.2) by.after;
            reached = left_reached queued p e by.moves reached accepts by.stops;
          },
        )

-- the other host may lie still as well
itself : (host : MirrorHost) → host.stopped ≡ [] → StandsFor host host
itself host none = subst (λ (l : List MirrorStage). StoppedIn in_mirrors (record host { stopped = [] }) l host) (sym none) (sym (nothing_stopped host none))

other_stands : (state left : MirrorState) (host : Host) (doing : List MirrorStage) → (mirror_host state host).stopped ≡ [] → BothStandFor (lies_still state host doing) left
    → (mid : MirrorState) × (one : MirrorHost) × BothStandFor state mid × StoppedIn in_mirrors (mirror_host mid host) doing one × (left ≡ with_mirror_host mid host one)
other_stands state left P doing none stands = (record left { p = state.p }, left.p, record { p = itself state.p none; s = stands.s; workers = stands.workers }, lies_where state.p left.p doing none stands.p, refl)
other_stands state left S doing none stands = (record left { s = state.s }, left.s, record { p = stands.p; s = itself state.s none; workers = stands.workers }, lies_where state.s left.s doing none stands.s, refl)

abbrev pub IsStopped : Name → Host → List MirrorStage → MirrorState → Type 0
IsStopped group host doing left =
    (view : View) × (p : PairState) × (fault : Fault) × (view.group ≡ group) × (fault.host ≡ host) × IsReached p × Accepts p fault.event × StopsOn view left p fault doing

pub again_has_pair : (group : Name) (state : MirrorState) (host : Host) (doing : List MirrorStage) → (mirror_host state host).stopped ≡ [] → ((left : MirrorState) → BothStandFor state left → IsStopped group host doing left)
    → HasPair group (lies_still state host doing)
again_has_pair group state host doing none stops = record { each = λ left stands. one left (other_stands state left host doing none stands) }
  where
    one : (left : MirrorState) → (mid : MirrorState) × (one : MirrorHost) × BothStandFor state mid × StoppedIn in_mirrors (mirror_host mid host) doing one × (left ≡ with_mirror_host mid host one)
        → (view : View) × (q : PairState) × (view.group ≡ group) × IsReachedOf view left q
    one left found =
        let c : IsStopped group host doing found.0 = stops found.0 found.2 in
        let by : IsLeftBy c.0 found.0 c.1 c.2 found.1 = c.7.each found.1 (subst (λ (h : Host). StoppedIn in_mirrors (mirror_host found.0 h) doing found.1) (sym c.4) found.3) in
        let there : left ≡ with_mirror_host found.0 c.2.host found.1 = found.4 ∙ ap (λ (h : Host). with_mirror_host found.0 h found.1) (sym c.4) in (
          views_after c.0 by.moves,
          after_all c.1 by.moves,
          same_group c.0 by.moves ∙ c.3,
          record {
            is = subst (λ (state' : MirrorState). IsPairOf (views_after c.0 by.moves) state' (after_all c.1 by.moves)) (sym there) by.after;
            reached = left_reached c.2.queued c.1 c.2.event by.moves c.5 c.6 by.stops;
          },
        )

-- nothing of it was done
with_same : (state : MirrorState) (host : Host) → with_mirror_host state host (mirror_host state host) ≡ state
with_same state P = refl
with_same state S = refl

pub left_none : (view : View) (state : MirrorState) (p : PairState) (fault : Fault) (left : MirrorHost) → IsPairOf view state p → left ≡ mirror_host state fault.host → IsLeftBy view state p fault left
left_none view state p fault left is same = record {
  moves = [];
  stops = inr refl;
  after = subst (λ (state' : MirrorState). IsPairOf view state' p) (sym (ap (with_mirror_host state fault.host) same ∙ with_same state fault.host)) is;
}

-- an event that one stage does at once is done whole or not at all
pub stops_at_once : (view : View) (state : MirrorState) (p : PairState) (queued : Bool) (e : PairEvent) (host : Host) (stage : MirrorStage) → IsReachedOf view state p → Accepts p e
    → ((left : MirrorHost) → InMirrorStage (mirror_host state host) stage left → ⊥)
    → Stops queued p e (moves queued p e) → AreAllStages view state p (moves queued p e) (AtHost host stage ∷ []) → StopsOn view state p (record { event = e; queued = queued; host = host }) (stage ∷ [])
stops_at_once view state p queued e host stage is accepts whole stops are = record { each = λ left. by left }
  where
    done : IsReachedOf (views_after view (moves queued p e)) (with_mirror_host state host (after_mirror_stage (mirror_host state host) stage)) (after_all p (moves queued p e))
    done = moves_kept view state p (moves queued p e) (AtHost host stage ∷ []) is (step_allowed p (Stopped queued e (moves queued p e)) is.reached (accepts, stops)) are

    by : (left : MirrorHost) → StoppedIn in_mirrors (mirror_host state host) (stage ∷ []) left → IsLeftBy view state p (record { event = e; queued = queued; host = host }) left
    by left (inl none) = left_none view state p (record { event = e; queued = queued; host = host }) left is.is none
    by left (inr (inl midst)) = absurd (whole left midst)
    by left (inr (inr all)) = record {
      moves = moves queued p e;
      stops = inl stops;
      after = subst (λ (one : MirrorHost). IsPairOf (views_after view (moves queued p e)) (with_mirror_host state host one) (after_all p (moves queued p e))) (sym all) done.is;
    }
