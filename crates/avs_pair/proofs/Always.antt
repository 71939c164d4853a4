-- Every move that may be made keeps what holds of the two halves, and so does every run of them.
use Rattle.std.proofs.Common.{◌≡◌, inl, List, [], ◌∷◌, ◌++◌, ◌∙◌, sym, refl, ap, subst, arith}
use Rattle.avs_mirrors.specs.Allowed.{AllAllowed, Allowed}
use Rattle.avs_mirrors.specs.Entries.{Images}
use Rattle.avs_mirrors.specs.Moves.{Apply, ChangeSource, ChangeTarget, DrawSource, DrawTarget, EndSource, EndTarget, Enter, EnterReversed, Forget, Free, GoOn, Hold, JoinSource, JoinTarget, Know, LeaveSource, LeaveTarget, Move, MoveSource, MoveTarget, NoteSource, NoteTarget, PartSource, PartTarget, PlaceCopy, PlaceMark, PlaceWrite, Queue, Rejoin, Reply, Take, Turn, Weigh, after, after_all}
use Rattle.avs_mirrors.specs.Pair.{PairState, start}
use Rattle.avs_mirrors.specs.Reached.{IsReached}
use Rattle.avs_pair.proofs.Sound.{Sound}
use Rattle.avs_pair.proofs.Dues.{none_in_nothing}
use Rattle.avs_pair.proofs.Messages.{answered_none, faithful_none}
use Rattle.avs_pair.proofs.Sources.{keeps_change_source, keeps_note_source, keeps_place_copy, keeps_place_mark, keeps_place_write, keeps_take}
use Rattle.avs_pair.proofs.Knowing.{keeps_draw_source, keeps_forget, keeps_free, keeps_go_on, keeps_know, keeps_leave_source, keeps_queuing, keeps_turn, keeps_weigh}
use Rattle.avs_pair.proofs.Targets.{false_true, keeps_apply, keeps_change_target, keeps_draw_target, keeps_hold, keeps_leave_target, keeps_note_target, keeps_reply}
use Rattle.avs_pair.proofs.Entering.{keeps_enter, keeps_enter_reversed, keeps_rejoin}
use Rattle.avs_pair.proofs.Sets.{empty_mark, keeps_end_source, keeps_end_target, keeps_join_source, keeps_join_target, keeps_move_source, keeps_move_target, keeps_part_source, keeps_part_target}

keeps : (p : PairState) (m : Move) → Sound p → Allowed p m → Sound (after p m)
keeps p (NoteSource keys) h can = keeps_note_source p keys h
keeps p (NoteTarget keys) h can = keeps_note_target p keys h
keeps p (ChangeSource set image) h can = keeps_change_source p set image h can.0 can.1
keeps p (ChangeTarget set image) h can = keeps_change_target p set image h can.0 can.1
keeps p (PlaceWrite set at bytes) h can = keeps_place_write p set at bytes h can
keeps p (PlaceCopy set seg) h can = keeps_place_copy p set seg h can
keeps p PlaceMark h can = keeps_place_mark p h can
keeps p (Take place) h can = keeps_take p place h can
keeps p (Hold m) h can = keeps_hold p m h can
keeps p (Apply m) h can = keeps_apply p m h can
keeps p (Reply m) h can = keeps_reply p m h can
keeps p (Free upto keys) h can = keeps_free p upto keys h can
keeps p (Know upto) h can = keeps_know p upto h can
keeps p Turn h can = keeps_turn p h can
keeps p GoOn h can = keeps_go_on p h can
keeps p Weigh h can = keeps_weigh p h can
keeps p LeaveSource h can = keeps_leave_source p h
keeps p LeaveTarget h can = keeps_leave_target p h
keeps p Queue h can = keeps_queuing p h can
keeps p Forget h can = keeps_forget p h can
keeps p (DrawSource number) h can = keeps_draw_source p number h can
keeps p (DrawTarget number) h can = keeps_draw_target p number h can.0 can.1
keeps p (Enter most) h can = keeps_enter p most h can
keeps p (EnterReversed most) h can = keeps_enter_reversed p most h can
keeps p Rejoin h can = keeps_rejoin p h can
keeps p (JoinSource set keys filled) h can = keeps_join_source p set keys filled h can
keeps p (JoinTarget set keys filled) h can = keeps_join_target p set keys filled h can
keeps p (MoveSource set there) h can = keeps_move_source p set there h can
keeps p (MoveTarget set there) h can = keeps_move_target p set there h can
keeps p (PartSource set) h can = keeps_part_source p set h can
keeps p (PartTarget set) h can = keeps_part_target p set h can
keeps p EndSource h can = keeps_end_source p h can
keeps p EndTarget h can = keeps_end_target p h can

keeps_all : (p : PairState) (ms : List Move) → Sound p → AllAllowed p ms → Sound (after_all p ms)
keeps_all p [] h can = h
keeps_all p (m ∷ ms) h can = keeps_all (after p m) ms (keeps p m h can.0) can.1

starts_sound : (a b : Images) → Sound (start a b)
starts_sound a b = record {
  sizes = λ t here. false_true here;
  no_source = refl;
  no_target = refl;
  source_here = record { within = λ t here. here; away = λ t on gone. refl };
  target_here = record { within = λ t here. here; away = λ t on gone. refl };
  newest = inl (omega arith);
  mark = empty_mark;
  applied = λ _. omega arith;
  none_applied = λ _. refl;
  none_known = λ _. refl;
  known = λ _ _. omega arith;
  covered = record { each = λ t i here none gone. false_true here };
  source_away = λ _. none_in_nothing;
  target_away = none_in_nothing;
  stands = λ s. false_true s;
  receives = λ r. false_true r;
  sends = λ s same. false_true s;
  kept_on = λ t k. false_true k;
  kept_some = λ t k. false_true k;
  keeps = λ t k n. false_true k;
  messages = faithful_none _ _ _;
  answered = answered_none _ _ _;
  held = faithful_none _ _ _;
  none_held = λ _. refl;
}

pub reached_sound : (p : PairState) → IsReached p → Sound p
reached_sound p r = subst Sound (sym r.is) (keeps_all (start r.first r.second) r.run (starts_sound r.first r.second) r.allowed)

-- ---- runs

pub after_join : (p : PairState) (first then : List Move) → after_all p (first ++ then) ≡ after_all (after_all p first) then
after_join p [] then = refl
after_join p (m ∷ first) then = after_join (after p m) first then

pub allowed_join : (p : PairState) (first then : List Move) → AllAllowed p first → AllAllowed (after_all p first) then → AllAllowed p (first ++ then)
allowed_join p [] then can more = more
allowed_join p (m ∷ first) then can more = (can.0, allowed_join (after p m) first then can.1 more)

pub reached_start : (a b : Images) → IsReached (start a b)
reached_start a b = record { first = a; second = b; run = []; allowed = tt; is = refl }

pub reached_more : (p : PairState) (ms : List Move) → IsReached p → AllAllowed p ms → IsReached (after_all p ms)
reached_more p ms r can = record {
  first = r.first;
  second = r.second;
  run = r.run ++ ms;
  allowed = allowed_join (start r.first r.second) r.run ms r.allowed (subst (λ (q : PairState). AllAllowed q ms) r.is can);
  is = ap (λ (q : PairState). after_all q ms) r.is ∙ sym (after_join (start r.first r.second) r.run ms);
}
