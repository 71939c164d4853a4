-- A call that hands on what another call answered, by another type.
use Rattle.std.proofs.Common.{List, Ok, Err}
use Rattle.avs_model.specs.GroupStages.{GroupStage}
use Rattle.avs_sets.specs.Meaning.{GroupSeen}
use Rattle.avs_sets.specs.Goes.{Goes}
use Rattle.avs_group.specs.Group.{Group}
use Rattle.avs_group.specs.Calls.{Does, DoesCommit}

goes_ok : {T U E G : Type 0} (a b : GroupSeen) (stages : List GroupStage) (x : T) (y : U) → Goes {E = E} a stages (Ok x) b → Goes {E = G} a stages (Ok y) b
goes_ok a b stages x y goes = record {
  stays = goes.stays;
  disks = record { lasts = goes.disks.lasts; done = goes.disks.done; failed = tt };
  whole = goes.whole;
  step = goes.step;
  done = goes.done;
  stopped = λ w i. tt;
}

goes_err : {T U E G : Type 0} (a b : GroupSeen) (stages : List GroupStage) (x : E) (y : G) → Goes {T = T} a stages (Err x) b → Goes {T = U} a stages (Err y) b
goes_err a b stages x y goes = record {
  stays = goes.stays;
  disks = record { lasts = goes.disks.lasts; done = tt; failed = goes.disks.failed };
  whole = goes.whole;
  step = λ w i. tt;
  done = λ w i. tt;
  stopped = goes.stopped;
}

pub does_ok : {T U E G : Type 0} (a b : Group) (stages : List GroupStage) (x : T) (y : U) → Does {E = E} a stages (Ok x) b → Does {E = G} a stages (Ok y) b
does_ok a b stages x y does = record { goes = goes_ok _ _ stages x y does.goes; labels = does.labels; state = does.state }

pub does_err : {T U E G : Type 0} (a b : Group) (stages : List GroupStage) (x : E) (y : G) → Does {T = T} a stages (Err x) b → Does {T = U} a stages (Err y) b
does_err a b stages x y does = record { goes = goes_err _ _ stages x y does.goes; labels = does.labels; state = does.state }

pub commit_ok : {T U E G : Type 0} (a b : Group) (stage : GroupStage) (x : T) (y : U) → DoesCommit {E = E} a stage (Ok x) b → DoesCommit {E = G} a stage (Ok y) b
commit_ok a b stage x y does = record { does = does_ok a b _ x y does.does; rest = does.rest; counts = record { done = does.counts.done; most = does.counts.most } }

pub commit_err : {T U E G : Type 0} (a b : Group) (stage : GroupStage) (x : E) (y : G) → DoesCommit {T = T} a stage (Err x) b → DoesCommit {T = U} a stage (Err y) b
commit_err a b stage x y does = record { does = does_err a b _ x y does.does; rest = does.rest; counts = record { done = tt; most = does.counts.most } }
