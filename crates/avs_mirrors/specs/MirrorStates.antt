-- Both hosts with their mirrors, and the workers of their groups.
use Rattle.std.specs.Prelude.{◌≡◌, ℕ, ◌==◌, ◌&&◌, if◌then◌else◌, Option, None, []}
use Rattle.std.specs.Str.{bytes_eq}
use Rattle.avs_seg.specs.Staged.{Stages, StoppedIn}
use Rattle.avs_model.specs.Hosts.{Name}
use Rattle.avs_model.specs.declared.event.Host.{Host}
use Rattle.avs_model.specs.declared.event.Host.TheVariants.{P, S}
use Rattle.avs_mirrors.specs.MirrorHosts.{NamedMessage, MirrorStage, MirrorHost}
use Rattle.avs_mirrors.specs.HalfStages.{in_mirrors, after_mirror_stage, InMirrorStage}

-- what each worker of a group holds: nothing, or one message; its messages outlive both hosts' crashes
abbrev pub Workers : Type 0
Workers = Name → ℕ → Option NamedMessage

pub record MirrorState : Type 0 where
  pub p : MirrorHost
  pub s : MirrorHost
  pub workers : Workers

abbrev pub mirror_host : MirrorState → Host → MirrorHost
mirror_host state P = state.p
mirror_host state S = state.s

abbrev pub with_mirror_host : MirrorState → Host → MirrorHost → MirrorState
with_mirror_host state P host = record state { p = host }
with_mirror_host state S host = record state { s = host }

-- what an event does: a stage of one host; a worker holds another message, or none; the workers of a group end
pub data PairStage : Type 0 where
  AtHost : Host → MirrorStage → PairStage
  AtWorker : Name → ℕ → Option NamedMessage → PairStage
  EndsWorkers : Name → PairStage

abbrev pub with_worker : Workers → Name → ℕ → Option NamedMessage → Workers
with_worker workers group worker message g w = if bytes_eq group g && w == worker then message else workers g w

abbrev pub without_workers : Workers → Name → Workers
without_workers workers group g w = if bytes_eq group g then None else workers g w

abbrev pub after_pair_stage : MirrorState → PairStage → MirrorState
after_pair_stage state (AtHost host stage) = with_mirror_host state host (after_mirror_stage (mirror_host state host) stage)
after_pair_stage state (AtWorker group worker message) = record state { workers = with_worker state.workers group worker message }
after_pair_stage state (EndsWorkers group) = record state { workers = without_workers state.workers group }

abbrev pub InPairStage : MirrorState → PairStage → MirrorState → Type 0
InPairStage state (AtHost host stage) new =
    (left : MirrorHost) × (InMirrorStage (mirror_host state host) stage left × (new ≡ with_mirror_host state host left))
InPairStage state (AtWorker group worker message) new = ⊥
InPairStage state (EndsWorkers group) new = ⊥

abbrev pub in_pair : Stages MirrorState PairStage
in_pair = record { after = after_pair_stage; In = InPairStage }

-- ---- what a host stands for

-- a host that runs stands for itself; one that lies still, for any state in which what it was about to do may have been stopped
abbrev pub StandsFor : MirrorHost → MirrorHost → Type 0
StandsFor host left = StoppedIn in_mirrors (record host { stopped = [] }) host.stopped left

pub record BothStandFor (state left : MirrorState) : Type 0 where
  pub p : StandsFor state.p left.p
  pub s : StandsFor state.s left.s
  pub workers : left.workers ≡ state.workers
