-- Worked examples: events on two halves with small volumes, run by the definitions. A block is one number here, where a volume has
-- 512 bytes that are all that number. A volume of one or two blocks has one segment, one of 65 blocks has two.
use Rattle.std.proofs.Common.{◌≡◌, inl, ℕ, Bool, true, false, ◌&&◌, nat_eq, cond, List, [], ◌∷◌, ◌++◌, Option, None, Some, is_some, refl, arith}
use Rattle.std.specs.Prelude.{◌||◌, replicate, map, ◌==◌}
use Rattle.avs_seg.specs.Image.{Image, put, tabulate}
use Rattle.avs_model.specs.declared.entry.Entry.{Entry}
use Rattle.avs_mirrors.specs.Due.{is_zero, zero_of}
use Rattle.avs_mirrors.specs.Entries.{a_mark, after_entry, block_in, greatest, touches, written}
use Rattle.avs_mirrors.specs.Events.{Back, Begin, BeginReversed, Carry, Crash, DisableSource, Drop, EnableSource, EnableTarget, LogSource, LogTarget, MoveAwaySource, MoveAwayTarget, PairEvent, RecoverSource, RecoverTarget, RestoreTarget, Resume, SyncCopy, SyncMark, TakeNext, WriteFull, WriteSource, WriteTarget, brought, moves}
use Rattle.avs_mirrors.specs.Half.{Logging, Message, Queuing, Replicating, is_receiving, queued}
use Rattle.avs_mirrors.specs.Moves.{PlaceWrite, after_all, answered}
use Rattle.avs_mirrors.specs.Pair.{PairState, entry_at, on_both, start}
use Rattle.avs_mirrors.specs.Steps.{AllHappen, Done, Step}
use Rattle.avs_pair.proofs.Targets.{false_true}

abbrev pub one_block : Image
one_block = (0 ∷ []) ∷ []

abbrev two_blocks : Image
two_blocks = (0 ∷ []) ∷ (0 ∷ []) ∷ []

abbrev two_segments : Image
two_segments = replicate 65 (0 ∷ [])

-- the bytes of a write of one block
abbrev pub one : ℕ → Image
one byte = (byte ∷ []) ∷ []

abbrev pub halves : PairState
halves = start (λ set. []) (λ set. [])

abbrev run : Bool → PairState → List PairEvent → PairState
run queued p [] = p
run queued p (e ∷ es) = run queued (after_all p (moves queued p e)) es

-- a set enabled as equal in both halves
abbrev pub enables : ℕ → Image → List PairEvent
enables set image = EnableSource set image false ∷ EnableTarget set image false ∷ []

-- a worker's message of a place is carried
abbrev message : PairState → ℕ → Message
message p place = record { number = p.session.number; place = place; entry = entry_at p.session place; got = None }

abbrev carries : PairState → ℕ → PairState
carries p place = run false p (Carry (message p place) ∷ [])

-- the next place is taken, carried, and known; and so the copy of a segment, and the mark
abbrev brings : PairState → ℕ → PairState
brings p place = run false (carries (run false p (TakeNext ∷ [])) place) (Back place ∷ [])

abbrev copies : PairState → ℕ → ℕ → ℕ → PairState
copies p set seg place = brings (run false p (SyncCopy set seg ∷ [])) place

abbrev marks : PairState → ℕ → PairState
marks p place = brings (run false p (SyncMark ∷ [])) place

-- one set in both halves, and a session whose mark is known
abbrev begun_with : Image → PairState
begun_with image = marks (run false halves (enables 0 image ++ Begin false 256 ∷ [])) 1

-- ---- three writes behind the mark are carried in another order than they were placed

abbrev two_sets : PairState
two_sets = marks (run false halves (enables 0 one_block ++ enables 1 one_block ++ Begin false 256 ∷ [])) 1

abbrev three_placed : PairState
three_placed = run false two_sets (WriteSource 0 0 (one 17) ∷ WriteSource 1 0 (one 34) ∷ WriteSource 0 0 (one 51) ∷ TakeNext ∷ TakeNext ∷ TakeNext ∷ [])

abbrev last_carried : PairState
last_carried = carries three_placed 4

abbrev first_carried : PairState
first_carried = carries last_carried 2

abbrev all_carried : PairState
all_carried = carries (carries first_carried 3) 3

held_until_its_place : (last_carried.target.applied ≡ 1) × (last_carried.target.images 0 ≡ one_block) × (first_carried.target.applied ≡ 2) × (first_carried.target.images 0 ≡ one 17)
unfolding after_entry touches put tabulate
held_until_its_place = (refl, refl, refl, refl)

applied_in_order : (all_carried.target.applied ≡ 4) × (all_carried.target.images 0 ≡ one 51) × (all_carried.target.images 1 ≡ one 34) × (all_carried.target.held ≡ [])
unfolding after_entry touches put tabulate
applied_in_order = (refl, refl, refl, refl)

bit_stays_under_a_later_place : ((run false all_carried (Back 2 ∷ [])).source.due 0 0 ≡ Some 4) × ((run false all_carried (Back 2 ∷ Back 4 ∷ [])).source.due 0 0 ≡ None)
unfolding after_entry touches put tabulate
bit_stays_under_a_later_place = (refl, refl)

-- ---- a message of an older session is of no use to the next one

abbrev begun_again : PairState
begun_again = run false (begun_with one_block) (WriteSource 0 0 (one 17) ∷ TakeNext ∷ LogSource ∷ Begin false 256 ∷ [])

a_late_message_is_stale : (map (λ m. m.number) begun_again.messages ≡ 1 ∷ 1 ∷ 1 ∷ []) × (begun_again.target.number ≡ 2) × (begun_again.source.due 0 0 ≡ Some 0)
unfolding after_entry touches put tabulate
a_late_message_is_stale = (refl, refl, refl)

the_mark_comes_behind_the_copy : ((run false begun_again (SyncCopy 0 0 ∷ SyncMark ∷ [])).session.mark ≡ 2) × ((run false begun_again (SyncCopy 0 0 ∷ SyncMark ∷ [])).target.contents 0 ≡ false)
unfolding after_entry touches put tabulate
the_mark_comes_behind_the_copy = (refl, refl)

-- ---- the sender crashes behind an applied place that it does not know

abbrev sender_back : PairState
sender_back = run false (carries (run false (begun_with one_block) (WriteSource 0 0 (one 17) ∷ TakeNext ∷ [])) 2) (Crash ∷ RecoverSource ∷ [])

sender_forgets : (sender_back.source.state ≡ Logging) × (sender_back.source.number ≡ 1) × (sender_back.source.last ≡ 0) × (sender_back.target.images 0 ≡ one 17) × (sender_back.source.due 0 0 ≡ Some 0)
unfolding after_entry touches put tabulate
sender_forgets = (refl, refl, refl, refl, refl)

-- ---- a fault behind the landed entry: the place is applied, and the sender drops

abbrev landed : PairState
landed = let p : PairState = run false (begun_with one_block) (WriteSource 0 0 (one 17) ∷ TakeNext ∷ []) in run false (after_all p (brought p (message p 2))) (RecoverTarget ∷ [])

landed_place_is_applied : (landed.target.state ≡ Logging) × (landed.target.number ≡ 1) × (landed.target.applied ≡ 2) × (landed.target.images 0 ≡ one 17)
unfolding after_entry touches put tabulate
landed_place_is_applied = (refl, refl, refl, refl)

abbrev begun_behind_it : PairState
begun_behind_it = marks (copies (run false landed (Drop ∷ Begin false 256 ∷ [])) 0 0 1) 2

next_session_is_done : (begun_behind_it.target.number ≡ 2) × (begun_behind_it.target.state ≡ Replicating) × (begun_behind_it.source.known ≡ 2)
unfolding after_entry touches put tabulate
next_session_is_done = (refl, refl, refl)

-- ---- a session is dropped between the copies of two segments

abbrev one_copied : PairState
one_copied = run false (copies (run false halves (enables 0 two_segments ++ WriteSource 0 0 (one 17) ∷ WriteSource 0 64 (one 34) ∷ Begin false 256 ∷ [])) 0 0 1) (SyncCopy 0 1 ∷ TakeNext ∷ Drop ∷ [])

dropped_on_the_way : (one_copied.source.state ≡ Logging) × (one_copied.source.due 0 0 ≡ None) × (one_copied.source.due 0 1 ≡ Some 0) × (one_copied.target.contents 0 ≡ false)
unfolding after_entry touches put tabulate
dropped_on_the_way = (refl, refl, refl, refl)

abbrev both_copied : PairState
both_copied = marks (copies (run false one_copied (Begin false 256 ∷ [])) 0 1 1) 2

copied_by_two_sessions : (block_in both_copied.target.images 0 0 ≡ 17 ∷ []) × (block_in both_copied.target.images 0 64 ≡ 34 ∷ []) × (both_copied.source.due 0 1 ≡ None) × (both_copied.target.due 0 1 ≡ None) × (both_copied.target.contents 0 ≡ true)
unfolding after_entry touches put tabulate
copied_by_two_sessions = (refl, refl, refl, refl, refl)

-- ---- queues: a place that is known makes room; a full one that does not block ends the session

abbrev room_again : PairState
room_again = run false (brings (run false (begun_with one_block) (WriteSource 0 0 (one 17) ∷ WriteSource 0 0 (one 17) ∷ [])) 2) (WriteSource 0 0 (one 17) ∷ [])

abbrev logged_at_full : PairState
logged_at_full = run true (begun_with two_blocks) (WriteSource 0 0 (one 17) ∷ WriteFull 0 1 (one 34) ∷ [])

full_queues : (room_again.source.last ≡ 4) × (logged_at_full.source.state ≡ Logging) × (logged_at_full.source.due 0 0 ≡ Some 0) × (logged_at_full.source.images 0 ≡ (17 ∷ []) ∷ (34 ∷ []) ∷ [])
unfolding after_entry touches put tabulate
full_queues = (refl, refl, refl, refl)

-- ---- a write is stopped behind its entry in the queue on disk: the recovery does it, and the session is resumed

abbrev queued_write : PairState
queued_write = run true (after_all (begun_with one_block) (PlaceWrite 0 0 (one 17) ∷ [])) (RecoverSource ∷ [])

abbrev resumed_behind_it : PairState
resumed_behind_it = run true queued_write (Resume ∷ [])

queue_is_resumed : (queued_write.source.state ≡ Queuing) × (queued_write.source.last ≡ 2) × (queued_write.source.due 0 0 ≡ Some 2) × (resumed_behind_it.source.taken ≡ 1) × ((brings resumed_behind_it 2).target.images 0 ≡ one 17) × ((brings resumed_behind_it 2).source.due 0 0 ≡ None)
unfolding after_entry touches put tabulate greatest
queue_is_resumed = (refl, refl, refl, refl, refl, refl)

-- ---- where the receiver has bits of its own, the queue is given up and a new session is begun

abbrev receiver_wrote : PairState
receiver_wrote = run true (begun_with two_blocks) (LogTarget ∷ WriteTarget 0 1 (one 85) ∷ WriteSource 0 0 (one 17) ∷ TakeNext ∷ Drop ∷ [])

abbrev begun_from_queuing : PairState
begun_from_queuing = marks (copies (run true receiver_wrote (Begin false 256 ∷ [])) 0 0 1) 2

queue_is_given_up : (receiver_wrote.source.state ≡ Queuing) × (begun_from_queuing.source.number ≡ 2) × (begun_from_queuing.source.known ≡ 2) × (begun_from_queuing.target.images 0 ≡ (17 ∷ []) ∷ (0 ∷ []) ∷ [])
unfolding after_entry touches put tabulate
queue_is_given_up = (refl, refl, refl, refl)

-- ---- the other way round: both halves wrote, and the second one's images win

abbrev reversed : PairState
reversed = run false halves (enables 0 two_segments ++ WriteSource 0 0 (one 17) ∷ WriteTarget 0 64 (one 34) ∷ BeginReversed false 256 ∷ [])

abbrev reversed_done : PairState
reversed_done = marks (copies (copies reversed 0 0 1) 0 1 2) 3

second_half_sends : (reversed.target.contents 0 ≡ false) × (reversed_done.source.known ≡ 3) × (block_in reversed_done.target.images 0 0 ≡ 0 ∷ []) × (block_in reversed_done.target.images 0 64 ≡ 34 ∷ []) × (reversed_done.target.state ≡ Replicating)
unfolding after_entry touches put tabulate
second_half_sends = (refl, refl, refl, refl, refl)

-- ---- a set is enabled in one half alone, and then in both

abbrev in_one : PairState
in_one = run false halves (EnableSource 0 one_block false ∷ [])

needs_both : (in_one.source.here 0 ≡ true) × (in_one.target.here 0 ≡ false) × ((marks (run false in_one (EnableTarget 0 one_block false ∷ Begin false 256 ∷ [])) 1).source.known ≡ 1)
unfolding after_entry touches put tabulate
needs_both = (refl, refl, refl)

-- ---- a set is disabled and enabled again while the other half is still in the session

abbrev parted_from : PairState
parted_from = run false two_sets (WriteSource 1 0 (one 17) ∷ TakeNext ∷ LogSource ∷ DisableSource 1 ∷ [])

abbrev enabled_again : PairState
enabled_again = run false parted_from (LogTarget ∷ EnableSource 1 one_block false ∷ [])

enabled_behind_a_late_message : (parted_from.target.state ≡ Replicating) × (is_receiving enabled_again.target ≡ false) × (enabled_again.target.images 1 ≡ one_block) × (enabled_again.source.due 1 0 ≡ None)
unfolding after_entry touches put tabulate
enabled_behind_a_late_message = (refl, refl, refl, refl)

-- ---- a receiver without contents is restored

abbrev two_applied : PairState
two_applied = brings (run false (brings (run false (begun_with one_block) (WriteSource 0 0 (one 17) ∷ [])) 2) (WriteSource 0 0 (one 34) ∷ [])) 3

abbrev without_contents : PairState
without_contents = run false two_applied (LogSource ∷ WriteSource 0 0 (one 51) ∷ Begin false 256 ∷ LogSource ∷ LogTarget ∷ [])

abbrev restored_to : PairState
restored_to = run false without_contents (RestoreTarget (λ set seg. set == 0 && seg == 0) ((0, one 17) ∷ []) ∷ [])

restored_with_contents : (two_applied.target.images 0 ≡ one 34) × (without_contents.target.contents 0 ≡ false) × (restored_to.target.contents 0 ≡ true) × (restored_to.target.images 0 ≡ one 17) × (restored_to.target.due 0 0 ≡ Some 0)
unfolding after_entry touches put tabulate
restored_with_contents = (refl, refl, refl, refl, refl)

-- ---- a receiver crashes behind a place that it applied

abbrev receiver_back : PairState
receiver_back = run false (carries (run false (begun_with one_block) (WriteSource 0 0 (one 17) ∷ TakeNext ∷ [])) 2) (Crash ∷ RecoverTarget ∷ [])

receiver_keeps_its_place : (receiver_back.target.state ≡ Logging) × (receiver_back.target.number ≡ 1) × (receiver_back.target.applied ≡ 2) × (receiver_back.target.images 0 ≡ one 17)
unfolding after_entry touches put tabulate
receiver_keeps_its_place = (refl, refl, refl, refl)

-- ---- a set goes to another group: it stays one of both halves until the other half follows

abbrev went_away : PairState
went_away = run false halves (enables 0 one_block ++ enables 1 one_block ++ MoveAwaySource 1 ∷ [])

abbrev both_away : PairState
both_away = run false went_away (MoveAwayTarget 1 ∷ [])

other_half_follows : (went_away.source.here 1 ≡ false) × (on_both went_away.source went_away.target 1 ≡ true) × (on_both both_away.source both_away.target 1 ≡ false) × ((marks (run false both_away (Begin false 256 ∷ [])) 1).source.known ≡ 1)
unfolding after_entry touches put tabulate
other_half_follows = (refl, refl, refl, refl)

-- ---- what nothing refuses: a set is enabled, a session begins, its mark is known, and a write is applied and known

abbrev pub steps_of : List PairEvent → List Step
steps_of [] = []
steps_of (e ∷ es) = Done false e ∷ steps_of es

abbrev pub first_write : Entry
first_write = written 0 0 (one 17)

abbrev pub mark_message : Message
mark_message = record { number = 1; place = 1; entry = a_mark; got = None }

abbrev pub write_message : Message
write_message = record { number = 1; place = 2; entry = first_write; got = None }

twice_there : (b : Bool) → cond b true false ≡ true → cond b true (cond b true false) ≡ true
twice_there true on = refl
twice_there false on = on

-- a half of which nothing is due: in its set, and beside it
abbrev nothing_in : Bool → Option ℕ
nothing_in b = cond b None None

none_due : (b : Bool) → is_zero (cond (is_some (zero_of (cond (is_some (nothing_in b)) (nothing_in b) (cond (is_some (nothing_in b) || false) (Some 0) None)))) (Some 0) (zero_of (nothing_in b))) ≡ false
none_due true = refl
none_due false = refl

pub a_run_happens : AllHappen halves (steps_of (enables 0 one_block ++ Begin false 256 ∷ SyncMark ∷ TakeNext ∷ Carry mark_message ∷ Back 1 ∷ WriteSource 0 0 (one 17) ∷ TakeNext ∷ Carry write_message ∷ Back 2 ∷ []))
unfolding after_entry touches put tabulate
a_run_happens = (
  record { away = refl; new = refl; size = λ on. false_true on; equal = λ on _. false_true on },
  (
    record { away = refl; new = refl; size = λ _. refl; equal = λ _ _. (refl, refl, refl) },
    (
      record { away = inl refl; idle = refl; same_sets = λ set. refl; contents = λ set on. twice_there (nat_eq set 0) on },
      (
        (refl, record { sends = refl; copying = refl; none = λ set seg on. none_due (nat_eq set 0) }),
        (
          record { acts = refl; left = omega arith },
          (
            record { here = refl; number = refl; among = record { at = 0; there = refl } },
            (
              record { acts = refl; message = answered mark_message 1; among = record { at = 0; there = refl }; number = refl; got = refl },
              (
                record { write = record { on = refl; contents = refl; some = omega arith; inside = omega arith }; short = λ _. omega arith },
                (
                  record { acts = refl; left = omega arith },
                  (
                    record { here = refl; number = refl; among = record { at = 0; there = refl } },
                    (record { acts = refl; message = answered write_message 2; among = record { at = 0; there = refl }; number = refl; got = refl }, tt),
                  ),
                ),
              ),
            ),
          ),
        ),
      ),
    ),
  ),
)
