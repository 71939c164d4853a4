-- Every event that nothing refuses, and every stop of one, is made of moves that may be made; and so is each list of them.
use Rattle.std.proofs.Common.{◌≡◌, inl, inr, Bool, true, List, [], ◌∷◌, arith}
use Rattle.avs_mirrors.specs.Accepts.{Accepts}
use Rattle.avs_mirrors.specs.Allowed.{AllAllowed}
use Rattle.avs_mirrors.specs.Entries.{written}
use Rattle.avs_mirrors.specs.Events.{ApplyOne, Back, Begin, BeginReversed, Carry, Crash, DisableSource, DisableTarget, Drop, EnableSource, EnableTarget, ForgetKnown, LogSource, LogTarget, MoveAwaySource, MoveAwayTarget, MoveBackSource, MoveBackTarget, MoveInSource, MoveInTarget, PairEvent, PlaceTake, RecoverSource, RecoverTarget, RemoveSource, RemoveTarget, RestoreSource, RestoreTarget, Resume, SyncCopy, SyncFull, SyncMark, TakeNext, WriteFull, WriteSource, WriteTarget, brought, learn, logged_target, moves, recovered_source, restored}
use Rattle.avs_mirrors.specs.Half.{is_sender, is_sending, queued}
use Rattle.avs_mirrors.specs.Moves.{Apply, ChangeSource, ChangeTarget, Hold, Move, NoteSource, NoteTarget, after_all}
use Rattle.avs_mirrors.specs.Pair.{PairState}
use Rattle.avs_mirrors.specs.Reached.{IsReached}
use Rattle.avs_mirrors.specs.Steps.{AllHappen, Done, Happens, Step, Stopped, all_moves, step_moves}
use Rattle.avs_mirrors.specs.Stops.{IsNoneOrAll, Stops}
use Rattle.avs_pair.proofs.Sound.{Sound}
use Rattle.avs_pair.proofs.Knowing.{logging_away}
use Rattle.avs_pair.proofs.Always.{allowed_join, reached_more, reached_sound}
use Rattle.avs_pair.proofs.Events.{acting_sends, apply_one_allowed, away_target, back_allowed, begin_allowed, begin_reversed_allowed, brought_allowed, carry_allowed, disable_source_allowed, disable_target_allowed, dropped_allowed, enable_source_allowed, enable_target_allowed, front_allowed, logged_source_allowed, logged_target_allowed, move_away_source_allowed, move_away_target_allowed, move_in_source_allowed, move_in_target_allowed, none_or_all, only, place_take_allowed, recovered_allowed, restore_source_allowed, restore_target_allowed, resume_allowed, stops_away_target, stops_back, stops_begin, stops_full, stops_resume, stops_reversed, stops_write, write_full_allowed, write_source_allowed}

done_allowed : (queued : Bool) (p : PairState) (e : PairEvent) → Sound p → Accepts p e → AllAllowed p (moves queued p e)
done_allowed queued p (WriteSource set at bytes) h a = write_source_allowed p set at bytes h a
done_allowed queued p (WriteTarget set at bytes) h a = away_target p set at bytes a.0
done_allowed queued p (WriteFull set at bytes) h a = write_full_allowed p set at bytes
done_allowed queued p (SyncCopy set seg) h a = (a.1, tt)
done_allowed queued p SyncMark h a = (a.1, tt)
done_allowed queued p SyncFull h a = (tt, tt)
done_allowed queued p TakeNext h a =
    let sends : is_sending p.source ≡ true = acting_sends p.source.role p.source.state a.acts in
    (record { sends = sends; some = omega arith; there = omega (arith, a.left, (h.stands sends).counted) }, tt)
done_allowed queued p (Carry m) h a = carry_allowed p m a
done_allowed queued p (Back upto) h a = back_allowed p upto a
done_allowed queued p (PlaceTake set at bytes) h a = place_take_allowed p set at bytes h a.0 a.1
done_allowed queued p (ApplyOne m) h a = apply_one_allowed p m a
done_allowed queued p Drop h a = dropped_allowed queued p
done_allowed queued p LogSource h a = logged_source_allowed p
done_allowed queued p LogTarget h a = logged_target_allowed p
done_allowed queued p (Begin full most) h a = begin_allowed p full most h a
done_allowed queued p (BeginReversed full most) h a = begin_reversed_allowed p full most h a
done_allowed queued p Resume h a = resume_allowed p h a
done_allowed queued p (RestoreSource keys rs) h a = restore_source_allowed p keys rs a
done_allowed queued p (RestoreTarget keys rs) h a = restore_target_allowed p keys rs a
done_allowed queued p (EnableSource set image full) h a = enable_source_allowed p set image full a
done_allowed queued p (EnableTarget set image full) h a = enable_target_allowed p set image full a
done_allowed queued p (DisableSource set) h a = disable_source_allowed p set h a.away
done_allowed queued p (DisableTarget set) h a = disable_target_allowed p set h a.away
done_allowed queued p RemoveSource h a = (a.away, tt)
done_allowed queued p RemoveTarget h a = (a.away, tt)
done_allowed queued p (MoveInSource set image keys filled) h a = move_in_source_allowed p set image keys filled a
done_allowed queued p (MoveInTarget set image keys filled) h a = move_in_target_allowed p set image keys filled a
done_allowed queued p (MoveAwaySource set) h a = move_away_source_allowed p set h a.away
done_allowed queued p (MoveAwayTarget set) h a = move_away_target_allowed p set h a.away
done_allowed queued p (MoveBackSource set) h a = (record { away = a.away; on = λ _. a.on }, tt)
done_allowed queued p (MoveBackTarget set) h a = (record { away = a.away; on = λ _. a.on }, tt)
done_allowed queued p ForgetKnown h a = (logging_away (is_sender p.source.role) p.source.state a, tt)
done_allowed queued p Crash h a = tt
done_allowed queued p RecoverSource h a = recovered_allowed queued p h
done_allowed queued p RecoverTarget h a = logged_target_allowed p

-- a stop that leaves nothing or all
stops_whole : (queued : Bool) (p : PairState) (e : PairEvent) (ms : List Move) → Sound p → Accepts p e → IsNoneOrAll ms (moves queued p e) → AllAllowed p ms
stops_whole queued p e ms h a s = none_or_all p ms (moves queued p e) s (done_allowed queued p e h a)

stopped_allowed : (queued : Bool) (p : PairState) (e : PairEvent) (ms : List Move) → Sound p → Accepts p e → Stops queued p e ms → AllAllowed p ms
stopped_allowed queued p (WriteSource set at bytes) ms h a s = stops_write queued p set at bytes ms h a s
stopped_allowed queued p (WriteTarget set at bytes) ms h a s = stops_away_target p (written set at bytes) ms a.0 s
stopped_allowed queued p (WriteFull set at bytes) ms h a s = stops_full p (written set at bytes) ms s
stopped_allowed queued p (SyncCopy set seg) ms h a s = only p ms [] s tt
stopped_allowed queued p SyncMark ms h a s = only p ms [] s.1 tt
stopped_allowed queued p SyncFull ms h a s = stops_whole queued p SyncFull ms h a s
stopped_allowed queued p TakeNext ms h a s = only p ms [] s.1 tt
stopped_allowed queued p (Carry m) ms h a s = front_allowed p ms (brought p m) s (brought_allowed p m a)
stopped_allowed queued p (Back upto) ms h a s = stops_back p upto (learn p upto) ms (inl a) (back_allowed p upto a) s
stopped_allowed queued p (PlaceTake set at bytes) ms h a s = stops_write queued p set at bytes ms h a.1 s
stopped_allowed queued p (ApplyOne m) ms h a s = let whole = apply_one_allowed p m a in front_allowed p ms (Hold m ∷ Apply m ∷ []) s (whole.0, (whole.1.0, tt))
stopped_allowed queued p Drop ms h a s = stops_whole queued p Drop ms h a s
stopped_allowed queued p LogSource ms h a s = stops_whole queued p LogSource ms h a s
stopped_allowed queued p LogTarget ms h a s = stops_whole queued p LogTarget ms h a s
stopped_allowed queued p (Begin full most) ms h a s = stops_begin p full most ms h a s
stopped_allowed queued p (BeginReversed full most) ms h a s = stops_reversed p full most ms h a s
stopped_allowed queued p Resume ms h a s = stops_resume p ms h a s
stopped_allowed queued p (RestoreSource keys rs) ms h a (inl part) = only p ms (NoteSource part.part ∷ []) part.is (tt, tt)
stopped_allowed queued p (RestoreSource keys rs) ms h a (inr all) = only p ms (NoteSource keys ∷ restored ChangeSource rs) all (restore_source_allowed p keys rs a)
stopped_allowed queued p (RestoreTarget keys rs) ms h a (inl part) = only p ms (NoteTarget part.part ∷ []) part.is (tt, tt)
stopped_allowed queued p (RestoreTarget keys rs) ms h a (inr all) = only p ms (NoteTarget keys ∷ restored ChangeTarget rs) all (restore_target_allowed p keys rs a)
stopped_allowed queued p (EnableSource set image full) ms h a s = stops_whole queued p (EnableSource set image full) ms h a s
stopped_allowed queued p (EnableTarget set image full) ms h a s = stops_whole queued p (EnableTarget set image full) ms h a s
stopped_allowed queued p (DisableSource set) ms h a s = stops_whole queued p (DisableSource set) ms h a s
stopped_allowed queued p (DisableTarget set) ms h a s = stops_whole queued p (DisableTarget set) ms h a s
stopped_allowed queued p RemoveSource ms h a s = stops_whole queued p RemoveSource ms h a s
stopped_allowed queued p RemoveTarget ms h a s = stops_whole queued p RemoveTarget ms h a s
stopped_allowed queued p (MoveInSource set image keys filled) ms h a s = stops_whole queued p (MoveInSource set image keys filled) ms h a s
stopped_allowed queued p (MoveInTarget set image keys filled) ms h a s = stops_whole queued p (MoveInTarget set image keys filled) ms h a s
stopped_allowed queued p (MoveAwaySource set) ms h a s = stops_whole queued p (MoveAwaySource set) ms h a s
stopped_allowed queued p (MoveAwayTarget set) ms h a s = stops_whole queued p (MoveAwayTarget set) ms h a s
stopped_allowed queued p (MoveBackSource set) ms h a s = stops_whole queued p (MoveBackSource set) ms h a s
stopped_allowed queued p (MoveBackTarget set) ms h a s = stops_whole queued p (MoveBackTarget set) ms h a s
stopped_allowed queued p ForgetKnown ms h a s = stops_whole queued p ForgetKnown ms h a s
stopped_allowed queued p Crash ms h a s = absurd s
stopped_allowed queued p RecoverSource ms h a s = front_allowed p ms (recovered_source queued p) s (recovered_allowed queued p h)
stopped_allowed queued p RecoverTarget ms h a s = front_allowed p ms (logged_target p) s (logged_target_allowed p)

pub step_allowed : (p : PairState) (s : Step) → IsReached p → Happens p s → AllAllowed p (step_moves p s)
step_allowed p (Done queued e) r a = done_allowed queued p e (reached_sound p r) a
step_allowed p (Stopped queued e ms) r a = stopped_allowed queued p e ms (reached_sound p r) a.0 a.1

pub steps_allowed : (p : PairState) (ss : List Step) → IsReached p → AllHappen p ss → AllAllowed p (all_moves p ss)
steps_allowed p [] r a = tt
steps_allowed p (s ∷ ss) r a = let one = step_allowed p s r a.0 in
    allowed_join p (step_moves p s) (all_moves (after_all p (step_moves p s)) ss) one (steps_allowed (after_all p (step_moves p s)) ss (reached_more p (step_moves p s) r one) a.1)
