-- Calls on a group, one after another.
use Rattle.std.proofs.Common.{List, [], ◌++◌, Result, Ok, Err, ◌∙◌, sym, refl, ap, subst, arith}
use Rattle.avs_seg.specs.Staged.{run, StoppedIn}
use Rattle.avs_seg.proofs.StagedLaws.{run-append, stopped-left, stopped-right}
use Rattle.avs_dev.specs.Seen.{IsTold}
use Rattle.avs_dev.proofs.Going.{all_same, all_then, all_err}
use Rattle.avs_model.specs.GroupStates.{GroupState}
use Rattle.avs_model.specs.GroupWork.{GroupSpot}
use Rattle.avs_model.specs.GroupStages.{GroupStage, in_group}
use Rattle.avs_sets.specs.Sets.{SetSeen}
use Rattle.avs_sets.specs.Meaning.{GroupSeen, set_of, disk_at, meaning}
use Rattle.avs_sets.specs.Goes.{IsSameSet, Stays, KeepsLabels, Goes}

pub same_set : (s : SetSeen) → IsSameSet s s
same_set s = record { slot = refl; kind = refl; master = refl; size = refl; over = refl }

pub same_then : (a b c : SetSeen) → IsSameSet a b → IsSameSet b c → IsSameSet a c
same_then a b c f g = record { slot = g.slot ∙ f.slot; kind = g.kind ∙ f.kind; master = g.master ∙ f.master; size = g.size ∙ f.size; over = g.over ∙ f.over }

pub stays_same : (a : GroupSeen) → Stays a a
stays_same a = record { volumes = refl; overs = refl; sets = refl; each = λ k lt. same_set (set_of a.sets k) }

pub stays_then : (a b c : GroupSeen) → Stays a b → Stays b c → Stays a c
stays_then a b c f g = record {
  volumes = g.volumes ∙ f.volumes;
  overs = g.overs ∙ f.overs;
  sets = g.sets ∙ f.sets;
  each = λ k lt. same_then (set_of a.sets k) (set_of b.sets k) (set_of c.sets k) (f.each k lt) (g.each k (omega (arith, lt, f.sets)));
}

-- labels are kept by one call after another
pub labels_none : (a : GroupSeen) → KeepsLabels a a
labels_none a = record { each = λ spot is told. refl }

pub labels_then : (a b c : GroupSeen) → ((spot : GroupSpot) → IsTold (disk_at a spot) → IsTold (disk_at b spot)) → KeepsLabels a b → KeepsLabels b c → KeepsLabels a c
labels_then a b c told f g = record { each = λ spot is was. g.each spot is (told spot was) ∙ f.each spot is was }

-- nothing is done
pub goes_nothing : {T E : Type 0} (a : GroupSeen) (x : T) → Goes {E = E} a [] (Ok x) a
goes_nothing a x = record { stays = stays_same a; disks = all_same (disk_at a) x; whole = λ w s. w; step = λ w s. s; done = λ w s. refl; stopped = λ w s. tt }

-- what is done goes on, and the next call does the stages behind
pub goes_then : {T E U G : Type 0} (a b c : GroupSeen) (xs ys : List GroupStage) (x : T) (r : Result U G) → Goes {E = E} a xs (Ok x) b → Goes b ys r c → Goes a (xs ++ ys) r c
goes_then {E = E} a b c xs ys x (Ok y) f g = record {
  stays = stays_then a b c f.stays g.stays;
  disks = all_then (disk_at a) (disk_at b) (disk_at c) x (Ok y) f.disks g.disks;
  whole = λ w s. g.whole (f.whole w s) (f.step w s);
  step = λ w s. g.step (f.whole w s) (f.step w s);
  done = λ w s. g.done (f.whole w s) (f.step w s) ∙ ap (λ (m : GroupState). run in_group m ys) (f.done w s) ∙ sym (run-append in_group (meaning a) xs ys);
  stopped = λ w s. tt;
}
goes_then {E = E} a b c xs ys x (Err y) f g = record {
  stays = stays_then a b c f.stays g.stays;
  disks = all_then (disk_at a) (disk_at b) (disk_at c) x (Err y) f.disks g.disks;
  whole = λ w s. g.whole (f.whole w s) (f.step w s);
  step = λ w s. tt;
  done = λ w s. tt;
  stopped = λ w s. stopped-right in_group (meaning a) xs ys (meaning c) (subst (λ (m : GroupState). StoppedIn in_group m ys (meaning c)) (f.done w s) (g.stopped (f.whole w s) (f.step w s)));
}

-- where a call fails, no stage behind it is begun
pub goes_stops : {T E U G : Type 0} (a b : GroupSeen) (xs ys : List GroupStage) (e : E) (e' : G) → Goes {T = T} a xs (Err e) b → Goes {T = U} a (xs ++ ys) (Err e') b
goes_stops {T = T} a b xs ys e e' f = record {
  stays = f.stays;
  disks = all_err (disk_at a) (disk_at b) e e' f.disks;
  whole = f.whole;
  step = λ w s. tt;
  done = λ w s. tt;
  stopped = λ w s. stopped-left in_group (meaning a) xs ys (meaning b) (f.stopped w s);
}

-- the same whatever is answered beside
pub goes_ok : {T E U G : Type 0} (a b : GroupSeen) (xs : List GroupStage) (x : T) (y : U) → Goes {E = E} a xs (Ok x) b → Goes {E = G} a xs (Ok y) b
goes_ok {E = E} a b xs x y f = record { stays = f.stays; disks = record { lasts = f.disks.lasts; done = f.disks.done; failed = tt }; whole = f.whole; step = f.step; done = f.done; stopped = λ w s. tt }
