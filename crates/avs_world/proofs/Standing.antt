-- How a world stands for a state while its host is up, and the answers that change nothing.
use Rattle.std.proofs.Common.{◌≡◌, Bool, true, false, Option, Some, None, refl, sym, ◌∙◌, ap, subst, inl, []}
use Rattle.std.specs.Option.{option_map_or}
use Rattle.std.proofs.lemmas.Bool.{false≢true}
use Rattle.avs_dev.specs.Seen.{Seen}
use Rattle.avs_model.specs.State.{State, HostState}
use Rattle.avs_model.specs.Stages.{StoppedIn, stages, stopped_stages}
use Rattle.avs_model.specs.Recovery.{is_write, is_command}
use Rattle.avs_model.specs.Refusals.{refusal}
use Rattle.avs_model.specs.Good.{Step}
use Rattle.avs_model.specs.Script.{is_p}
use Rattle.avs_model.specs.declared.event.Host.{Host}
use Rattle.avs_model.specs.declared.event.Host.TheVariants.{P, S}
use Rattle.avs_model.specs.declared.event.Event.{Event}
use Rattle.avs_model.specs.declared.event.Event.TheVariants.{Ii}
use Rattle.avs_model.specs.declared.answer.Refusal.{Refusal}
use Rattle.avs_model.specs.declared.answer.Answer.TheVariants.{Refused}
use Rattle.avs_world.specs.declared.stopped.Stopped.{Stopped}
use Rattle.avs_world.specs.declared.stopped.Stopped.TheVariants as stopped
use Rattle.avs_world.specs.declared.world.World.{World}
use Rattle.avs_world.specs.Views.{GroupView, NoGroup, FreeDisk, InMemory, OnDisks, StoreView, view_of, closed, SameApart}
use Rattle.avs_world.specs.Holds.{Holds, IsPhase}
use Rattle.avs_world.specs.Calls.{IsEnabled}
use Rattle.avs_world.specs.World.{event_of, Keeps, IsThere, IsExplained, Stands}
use Rattle.avs_world.proofs.Holding.{phase_apart, holds_apart}

-- nothing is kept of an event where none was stopped
none_kept : (kept : Option Stopped) (held : HostState) → held.stopped ≡ None → Keeps kept held → kept ≡ None
none_kept None held none keeps = refl
none_kept (Some (stopped.Write write)) held none keeps = let e : None ≡ Some (event_of write) = sym none ∙ keeps in absurd (cc)
none_kept (Some stopped.Command) held none keeps = let e : None ≡ Some (Ii P keeps.command) = sym none ∙ keeps.is in absurd (cc)

-- while the host is up no group lies on its disks
pub up_explained : (group : GroupView) (held : HostState) → IsPhase true group → IsExplained group held
up_explained NoGroup held phase = tt
up_explained (FreeDisk disk) held phase = tt
up_explained (InMemory set group) held phase = tt
up_explained (OnDisks set parts) held phase = absurd (false≢true (sym phase))

-- a set that is enabled needs no telling, when its group is taken apart
pub explained_apart : (group : GroupView) (held : HostState) → IsEnabled group → IsExplained (closed group) held
explained_apart NoGroup held enabled = tt
explained_apart (FreeDisk disk) held enabled = tt
explained_apart (InMemory set group) held enabled = λ off. absurd (false≢true (sym off ∙ enabled))
explained_apart (OnDisks set parts) held enabled = λ off. absurd (false≢true (sym off ∙ enabled))

module _ {D : Type 0} (seen : D → Seen) (steady : Bool) (world : World D) (s : State) where
  pub up_none : Stands seen steady world s → world.up ≡ true → s.p.stopped ≡ None
  up_none stands up = stands.none_stopped (sym stands.up ∙ up)

  pub up_kept : Stands seen steady world s → world.up ≡ true → world.stopped ≡ None
  up_kept stands up = none_kept world.stopped s.p (up_none stands up) stands.keeps

  -- while the host is up its disks hold the state
  pub up_holds : Stands seen steady world s → world.up ≡ true → Holds steady (view_of seen world) s
  up_holds stands up =
      let same : stands.left ≡ s = subst (λ (o : Option Event). StoppedIn s (option_map_or (stages s) o []) stands.left) (up_none stands up) stands.stopped in
      subst (λ (t : State). Holds steady (view_of seen world) t) same stands.holds

  pub up_phase : Stands seen steady world s → world.up ≡ true → IsPhase true (view_of seen world).group
  up_phase stands up = subst (λ (b : Bool). IsPhase b (view_of seen world).group) up stands.phase

  -- and where no event was stopped it stands for what they hold
  pub stands_clean : world.up ≡ s.p.up → s.p.stopped ≡ None → world.stopped ≡ None → Holds steady (view_of seen world) s → IsPhase world.up (view_of seen world).group → IsExplained (view_of seen world).group s.p
      → Stands seen steady world s
  stands_clean up none kept holds phase explained = record {
    up = up;
    none_stopped = λ _. none;
    keeps = subst (λ (o : Option Stopped). Keeps o s.p) (sym kept) (ap is_write none, ap is_command none);
    left = s;
    stopped = subst (λ (o : Option Event). StoppedIn s (option_map_or (stages s) o []) s) (sym none) refl;
    there = subst (λ (o : Option Stopped). IsThere o s) (sym kept) tt;
    holds = holds;
    phase = phase;
    explained = explained;
  }

  pub stands_up : world.up ≡ true → s.p.up ≡ true → s.p.stopped ≡ None → world.stopped ≡ None → Holds steady (view_of seen world) s → IsPhase true (view_of seen world).group → Stands seen steady world s
  stands_up up s_up none kept holds phase =
      stands_clean (up ∙ sym s_up) none kept holds (subst (λ (b : Bool). IsPhase b (view_of seen world).group) (sym up) phase)
      (up_explained (view_of seen world).group s.p phase)

  -- and where a fault stopped the host, which took its group apart
  pub stands_down : (store : StoreView) (left : State) → world.up ≡ false → s.p.up ≡ false → view_of seen world ≡ record store { group = closed store.group } → SameApart store.group → Keeps world.stopped s.p
      → StoppedIn s (stopped_stages s P) left → IsThere world.stopped left → Holds steady store left → IsExplained (closed store.group) s.p → Stands seen steady world s
  stands_down store left down s_down view same keeps stopped there holds explained = record {
    up = down ∙ sym s_down;
    none_stopped = λ up. absurd (false≢true (sym s_down ∙ up));
    keeps = keeps;
    left = left;
    stopped = stopped;
    there = there;
    holds = subst (λ (v : StoreView). Holds steady v left) (sym view) (holds_apart steady store left same holds);
    phase = subst (λ (b : Bool). IsPhase b (view_of seen world).group) (sym down) (subst (λ (v : StoreView). IsPhase false v.group) (sym view) (phase_apart store.group));
    explained = subst (λ (v : StoreView). IsExplained v.group s.p) (sym view) explained;
  }

  -- a refusal is right, and changes nothing
  pub refused_step : (event : Event) (why : Refusal) → Stands seen steady world s → refusal s event ≡ Some why
      → (next : State) × (Step steady s event (Refused why) next) × (Stands seen steady world next)
  refused_step event why stands is = (s, record { right = inl is; next = refl }, stands)

-- the only host that events of a built form name
pub is_p-host : (host : Host) → is_p host ≡ true → P ≡ host
is_p-host P is = refl
is_p-host S is = absurd (false≢true is)
