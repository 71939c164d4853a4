-- A worked example on two hosts: a set is enabled on both, a session is begun, its mark is placed, carried and known. Its stages are run by
-- the definitions, and each is that of its event.
use Rattle.std.proofs.Common.{◌≡◌, ◌⊎◌, inl, inr, ℕ, Bool, true, false, nat_eq, cond, List, [], ◌∷◌, Option, None, Some, is_some, ◌∙◌, refl, sym, ap}
use Rattle.std.specs.Prelude.{find}
use Rattle.std.specs.Option.{option_map_or}
use Rattle.std.specs.Str.{bytes_eq}
use Rattle.std.proofs.lemmas.Option.{same_Some}
use Rattle.avs_seg.specs.Image.{put, tabulate}
use Rattle.avs_seg.specs.Staged as staged
use Rattle.avs_model.specs.Hosts.{HostState, Name, Put, Running, no_marks}
use Rattle.avs_model.specs.HostPlaces.{image_of}
use Rattle.avs_model.specs.declared.event.Host.TheVariants.{P, S}
use Rattle.avs_mirrors.specs.Due.{frees}
use Rattle.avs_mirrors.specs.Entries.{a_mark, touches, written}
use Rattle.avs_mirrors.specs.Events.{Back, Begin, Carry, EnableSource, EnableTarget, PairEvent, SyncMark, TakeNext, WriteSource, bits_for, moves}
use Rattle.avs_mirrors.specs.EventStages.{AreLeftAlone, AreStepStages, IsLeftAlone}
use Rattle.avs_mirrors.specs.Half.{HalfState, Receiver, Replicating, Sender}
use Rattle.avs_mirrors.specs.MirrorHosts.{Applies, Asks, AtOnce, Begins, Draws, Frees, Holds, Joins, Knows, Leaves, MirrorHost, PairSet, NamedEntry, NamedKeys, NamedMessage, Notes, OfHalf, Places, Takes, Turns, half_at, mirror_set_of}
use Rattle.avs_mirrors.specs.MirrorStates.{AtHost, AtWorker, MirrorState, PairStage, in_pair}
use Rattle.avs_mirrors.specs.MoveStages.{IsAtRest, entry_image}
use Rattle.avs_mirrors.specs.Moves.{after_all, answered}
use Rattle.avs_mirrors.specs.Pair.{PairState}
use Rattle.avs_mirrors.specs.PairOf.{IsReachedOf, View, named_entry, named_message}
use Rattle.avs_mirrors.specs.Steps.{Done}
use Rattle.avs_pair.proofs.AllNames.{all_names, have_own_names, number_of, numbered}
use Rattle.avs_pair.proofs.Always.{reached_start}
use Rattle.avs_pair.proofs.AtRest.{rest_put}
use Rattle.avs_pair.proofs.Rows.{a_run_happens, halves, mark_message, one, one_block}
use Rattle.avs_pair.proofs.Stopping.{pair_left_alone, step_kept}
use Rattle.avs_pair.proofs.Targets.{false_true}

-- ---- two hosts with a volume and a bitmap each, and a group without sets

abbrev host_with : ℕ → HostState
host_with stamp = record {
  run = Running;
  volumes = record { name = 1 ∷ []; blocks = 1; image = one_block; armed = false; marks = no_marks } ∷ record { name = 2 ∷ []; blocks = 64; image = []; armed = false; marks = no_marks } ∷ [];
  groups = [];
  numbers = [];
  order = [];
  imports = [];
  stamp = stamp;
}

abbrev bare : ℕ → MirrorHost
bare stamp = record { own = host_with stamp; sets = []; halves = []; stopped = [] }

abbrev hosts : MirrorState
hosts = record { p = bare 1; s = bare 2; workers = λ group worker. None }

abbrev group : Name
group = 3 ∷ []

abbrev view : View
view = record { group = group; names = all_names; sender = P }

-- the set of number 0
abbrev the_set : PairSet
the_set = record { name = 0 ∷ []; group = group; volume = 1 ∷ []; bitmap = 2 ∷ []; contents = true; due = λ seg. None }

-- ---- before all events they are two halves without sets

no_message : {A : Type 0} {X : Type 0} (x : X) → None ≡ Some x → A
no_message x is = absurd (cc)

before_all : IsReachedOf view hosts halves
before_all = record {
  is = record {
    apart = have_own_names;
    source = record { here = λ key. refl; sets = λ key on. false_true on; seat = refl; plain = λ away key seg. refl };
    target = record { here = λ key. refl; sets = λ key on. false_true on; seat = refl; plain = λ away key seg. refl };
    sent = λ on. false_true on;
    workers = record { each = λ worker m holds. no_message m holds };
  };
  reached = reached_start (λ set. []) (λ set. []);
}

-- ---- the events, their stages, and what these make

abbrev behind : PairState → PairEvent → PairState
behind p e = after_all p (moves false p e)

abbrev does : MirrorState → List PairStage → MirrorState
does state stages = staged.run in_pair state stages

abbrev p1 : PairState
p1 = behind halves (EnableSource 0 one_block false)

abbrev p2 : PairState
p2 = behind p1 (EnableTarget 0 one_block false)

abbrev stages1 : List PairStage
stages1 = AtHost P (OfHalf group (Joins the_set)) ∷ []

abbrev stages2 : List PairStage
stages2 = AtHost S (OfHalf group (Joins the_set)) ∷ []

abbrev hosts2 : MirrorState
hosts2 = does (does hosts stages1) stages2

enabled_first : AreStepStages view hosts halves (Done false (EnableSource 0 one_block false)) stages1
enabled_first = (
  [],
  stages1,
  inr (inr (record { off = refl; is = refl })),
  (stages1, [], inl (record { set = the_set; new = record { new = refl; name = refl; group = refl; image = refl; contents = refl; due = λ seg. refl }; is = refl }), refl, refl),
  refl,
)

enabled_second : AreStepStages view (does hosts stages1) p1 (Done false (EnableTarget 0 one_block false)) stages2
enabled_second = (
  [],
  stages2,
  inr (inr (record { off = refl; is = refl })),
  (stages2, [], inl (record { set = the_set; new = record { new = refl; name = refl; group = refl; image = refl; contents = refl; due = λ seg. refl }; is = refl }), refl, refl),
  refl,
)

-- a session is begun, with the bits of the other half
abbrev p3 : PairState
p3 = behind p2 (Begin false 256)

abbrev their_bits : NamedKeys
their_bits name seg = bits_for false p2.source p2.target (number_of name) seg

abbrev more_bits : NamedKeys
more_bits name seg = is_some (p2.target.due (number_of name) seg)

abbrev stages3 : List PairStage
stages3 =
    AtHost P (OfHalf group (Notes their_bits)) ∷ AtHost P (OfHalf group Leaves) ∷ AtHost P (OfHalf group (Draws 1))
    ∷ AtHost P (OfHalf group (Begins 256 more_bits)) ∷ AtHost S (OfHalf group (Asks 1)) ∷ []

abbrev hosts3 : MirrorState
hosts3 = does hosts2 stages3

begun : AreStepStages view hosts2 p2 (Done false (Begin false 256)) stages3
begun = (
  _,
  _,
  record { named = their_bits; same = record { each = λ key seg on. ap (λ (n : ℕ). bits_for false p2.source p2.target n seg) (numbered key) }; is = refl },
  (_, _, refl, (_, _, refl, (_, _, record { bits = more_bits; same = record { each = λ key seg on. ap (λ (n : ℕ). is_some (p2.target.due n seg)) (numbered key) }; is = refl }, refl, refl), refl), refl),
  refl,
)

-- the mark is placed, taken, carried and known
abbrev p4 : PairState
p4 = behind p3 SyncMark

abbrev stages4 : List PairStage
stages4 = AtHost P (OfHalf group (Places (named_entry view.names a_mark))) ∷ []

abbrev hosts4 : MirrorState
hosts4 = does hosts3 stages4

marked : AreStepStages view hosts3 p3 (Done false SyncMark) stages4
marked = (_, _, refl, refl, refl)

abbrev p5 : PairState
p5 = behind p4 TakeNext

abbrev stages5 : List PairStage
stages5 = AtHost P (OfHalf group (Takes 1)) ∷ AtWorker group 0 (Some (named_message view.names mark_message)) ∷ []

abbrev hosts5 : MirrorState
hosts5 = does hosts4 stages5

taken : AreStepStages view hosts4 p4 (Done false TakeNext) stages5
taken = (_, _, record { worker = 0; is = refl }, refl, refl)

what_they_are : ((half_at hosts5.p group).seat.role ≡ Sender) × ((half_at hosts5.p group).seat.last ≡ 1) × ((half_at hosts5.p group).sent.mark ≡ 1) × ((half_at hosts5.s group).seat.role ≡ Receiver) × ((half_at hosts5.s group).seat.number ≡ 1)
what_they_are = (refl, refl, refl, refl, refl)

-- ---- the message is applied on the other host, at once: of the mark no image changes

-- a host with one set has no other
only_set : (host : MirrorHost) (one set : PairSet) → host.sets ≡ one ∷ [] → mirror_set_of host set.name ≡ Some set → one ≡ set
only_set host one set sets found = by (bytes_eq set.name one.name) (sym (ap (λ (l : List PairSet). find (λ (s : PairSet). bytes_eq set.name s.name) l) sets) ∙ found)
  where
    by : (b : Bool) → cond b (Some one) None ≡ Some set → one ≡ set
    by true is = same_Some one set is
    by false is = no_message set is

abbrev p6 : PairState
p6 = behind p5 (Carry mark_message)

abbrev carried_by : MirrorHost
carried_by = (does hosts5 (AtHost S (OfHalf group (Holds (named_message view.names mark_message))) ∷ [])).s

abbrev stages6 : List PairStage
stages6 =
    AtHost S (OfHalf group (Holds (named_message view.names mark_message))) ∷ AtHost S (AtOnce [] group (Applies (named_entry view.names a_mark)))
    ∷ AtWorker group 0 (Some (named_message view.names (answered mark_message 1))) ∷ []

abbrev hosts6 : MirrorState
hosts6 = does hosts5 stages6

same_blocks : (set : PairSet) → set.volume ≡ 1 ∷ [] → image_of carried_by.own set.volume ≡ entry_image carried_by (named_entry view.names a_mark) set
unfolding put tabulate
same_blocks set volume =
    ap (image_of carried_by.own) volume
    ∙ nothing_put (bytes_eq [] set.name)
    ∙ sym (ap (λ (v : Name). cond (bytes_eq [] set.name) (put (image_of carried_by.own v) 0 []) (image_of carried_by.own v)) volume)
  where
    nothing_put : (b : Bool) → image_of carried_by.own (1 ∷ []) ≡ cond b (put (image_of carried_by.own (1 ∷ [])) 0 []) (image_of carried_by.own (1 ∷ []))
    nothing_put true = refl
    nothing_put false = refl

carried : AreStepStages view hosts5 p5 (Done false (Carry mark_message)) stages6
unfolding touches
carried = (
  _,
  _,
  refl,
  (
    _,
    _,
    record { own = []; makes = record { each = λ set found. same_blocks set (sym (ap (λ (s : PairSet). s.volume) (only_set carried_by _ set refl found))) }; is = refl },
    (_, _, record { worker = 0; is = refl }, refl, refl),
    refl,
  ),
  refl,
)

-- the place is known, and with it the mark
abbrev p7 : PairState
p7 = behind p6 (Back 1)

abbrev freed_bits : NamedKeys
freed_bits name seg = frees p6.source.due 1 (number_of name) seg

abbrev stages7 : List PairStage
stages7 = AtHost P (OfHalf group (Frees freed_bits)) ∷ AtHost P (OfHalf group (Knows 1)) ∷ AtHost P (OfHalf group Turns) ∷ []

abbrev hosts_known : MirrorState
hosts_known = does hosts6 stages7

-- and the worker is idle again
abbrev hosts7 : MirrorState
hosts7 = does hosts_known (AtWorker group 0 None ∷ [])

known : AreStepStages view hosts6 p6 (Done false (Back 1)) stages7
known = (
  _,
  _,
  record { named = freed_bits; same = record { each = λ key seg on. ap (λ (n : ℕ). frees p6.source.due 1 n seg) (numbered key) }; is = refl },
  (_, _, refl, (_, _, refl, refl, refl), refl),
  refl,
)

-- ---- a write: its bits, its blocks and its place on the sender's host at once

abbrev p8 : PairState
p8 = behind p7 (WriteSource 0 0 (one 17))

abbrev a_write : NamedEntry
a_write = named_entry view.names (written 0 0 (one 17))

abbrev stages8 : List PairStage
stages8 = AtHost P (AtOnce (Put (1 ∷ []) 0 (one 17) ∷ []) group (Places a_write)) ∷ []

abbrev hosts8 : MirrorState
hosts8 = does hosts7 stages8

sender_rests : IsAtRest hosts7.p (0 ∷ []) (1 ∷ [])
sender_rests = record {
  there = refl;
  at_rest = refl;
  alone = λ set found. let same = only_set hosts7.p _ set refl found in
      ap (λ (v : Name). bytes_eq (1 ∷ []) v) (sym (ap (λ (s : PairSet). s.volume) same)) ∙ sym (ap (λ (n : Name). bytes_eq (0 ∷ []) n) (sym (ap (λ (s : PairSet). s.name) same)));
}

placed : AreStepStages view hosts7 p7 (Done false (WriteSource 0 0 (one 17))) stages8
placed = (_, _, record { own = Put (1 ∷ []) 0 (one 17) ∷ []; makes = rest_put hosts7.p a_write (1 ∷ []) sender_rests; is = refl }, refl, refl)

-- ---- all of it: the two hosts are the two halves behind each event

run_1 : IsReachedOf view (does hosts stages1) p1
run_1 = step_kept view hosts halves (Done false (EnableSource 0 one_block false)) stages1 before_all a_run_happens.0 enabled_first

run_2 : IsReachedOf view hosts2 p2
run_2 = step_kept view (does hosts stages1) p1 (Done false (EnableTarget 0 one_block false)) stages2 run_1 a_run_happens.1.0 enabled_second

run_3 : IsReachedOf view hosts3 p3
run_3 = step_kept view hosts2 p2 (Done false (Begin false 256)) stages3 run_2 a_run_happens.1.1.0 begun

run_4 : IsReachedOf view hosts4 p4
run_4 = step_kept view hosts3 p3 (Done false SyncMark) stages4 run_3 a_run_happens.1.1.1.0 marked

run_5 : IsReachedOf view hosts5 p5
run_5 = step_kept view hosts4 p4 (Done false TakeNext) stages5 run_4 a_run_happens.1.1.1.1.0 taken

run_6 : IsReachedOf view hosts6 p6
run_6 = step_kept view hosts5 p5 (Done false (Carry mark_message)) stages6 run_5 a_run_happens.1.1.1.1.1.0 carried

run_known : IsReachedOf view hosts_known p7
run_known = step_kept view hosts6 p6 (Done false (Back 1)) stages7 run_6 a_run_happens.1.1.1.1.1.1.0 known

idle : AreLeftAlone view p7 hosts_known hosts7
idle = record { source = alone hosts_known.p; target = alone hosts_known.s; workers = λ worker. by (nat_eq worker 0) (hosts_known.workers group worker) }
  where
    alone : {h : HalfState} (host : MirrorHost) → IsLeftAlone view h host host
    alone host = record { here = λ key. refl; sets = λ key on. refl; images = λ key set on found. refl; seat = refl; sent = refl }

    by : (b : Bool) (held : Option NamedMessage) → (cond b None held ≡ held) ⊎ (cond b None held ≡ None)
    by true held = inr refl
    by false held = inl refl

run_7 : IsReachedOf view hosts7 p7
run_7 = record { is = pair_left_alone view p7 hosts_known hosts7 idle run_known.is; reached = run_known.reached }

run_8 : IsReachedOf view hosts8 p8
run_8 = step_kept view hosts7 p7 (Done false (WriteSource 0 0 (one 17))) stages8 run_7 a_run_happens.1.1.1.1.1.1.1.0 placed

-- what stands on the hosts then
at_the_end : ((half_at hosts8.p group).seat.state ≡ Replicating) × ((half_at hosts8.p group).seat.last ≡ 2) × ((half_at hosts8.p group).seat.known ≡ 1) × (image_of hosts8.p.own (1 ∷ []) ≡ one 17) × ((half_at hosts8.s group).seat.state ≡ Replicating) × ((half_at hosts8.s group).seat.applied ≡ 1) × (image_of hosts8.s.own (1 ∷ []) ≡ one_block)
unfolding put tabulate
at_the_end = (refl, refl, refl, refl, refl, refl, refl)

bits_at_the_end : option_map_or (λ (set : PairSet). set.due 0) (mirror_set_of hosts8.p (0 ∷ [])) None ≡ Some 2
bits_at_the_end = refl
