-- As moves go on, a receiver's images change by the next entry alone, and what was applied and known stays so.
use Rattle.std.proofs.Common.{◌≡◌, inl, inr, ℕ, ◌-◌, ◌<◌, ◌≤◌, true, List, [], ◌∷◌, ◌++◌, Some, slice_get, ◌∙◌, sym, refl, ap, subst, arith}
use Rattle.avs_model.specs.declared.entry.Entry.{Entry}
use Rattle.avs_mirrors.specs.Allowed.{AllAllowed, Allowed}
use Rattle.avs_mirrors.specs.Entries.{a_mark, copy_of, written}
use Rattle.avs_mirrors.specs.Half.{is_receiver, is_receiving}
use Rattle.avs_mirrors.specs.Moves.{Apply, ChangeSource, ChangeTarget, DrawSource, DrawTarget, EndSource, EndTarget, Enter, EnterReversed, Forget, Free, GoOn, Hold, JoinSource, JoinTarget, Know, LeaveSource, LeaveTarget, Move, MoveSource, MoveTarget, NoteSource, NoteTarget, PartSource, PartTarget, PlaceCopy, PlaceMark, PlaceWrite, Queue, Rejoin, Reply, Take, Turn, Weigh, after, after_all}
use Rattle.avs_mirrors.specs.Pair.{PairState, Session, with_entry}
use Rattle.avs_pair.specs.Messages.{IsFaithful}
use Rattle.avs_pair.specs.Onward.{AllStay, ChangesByNext, GoesOn, Remembers, Stays}
use Rattle.avs_pair.proofs.Sound.{Sound}
use Rattle.avs_pair.proofs.Orders.{slice_get_before}
use Rattle.avs_pair.proofs.Messages.{faithful_at}
use Rattle.avs_pair.proofs.Sources.{absent}
use Rattle.avs_pair.proofs.Knowing.{logging_away}
use Rattle.avs_pair.proofs.Targets.{false_true}
use Rattle.avs_pair.proofs.Sets.{session_cases}
use Rattle.avs_pair.proofs.Laws.{known_applied}

same_applied : (p new : PairState) → new.target.images ≡ p.target.images → new.target.applied ≡ p.target.applied → ChangesByNext p new
same_applied p new images applied = record { each = λ a b c. inl (record { images = images; applied = applied }) }

never_both : (p new : PairState) → (is_receiving p.target ≡ true → is_receiving new.target ≡ true → new.session.number ≡ p.session.number → ⊥) → ChangesByNext p new
never_both p new none = record { each = λ a b c. absurd (none a b c) }

pub changes_by_next : (p : PairState) (m : Move) → Sound p → Allowed p m → ChangesByNext p (after p m)
changes_by_next p (NoteSource keys) h can = same_applied p _ refl refl
changes_by_next p (NoteTarget keys) h can = same_applied p _ refl refl
changes_by_next p (ChangeSource set image) h can = same_applied p _ refl refl
changes_by_next p (ChangeTarget set image) h can = never_both p _ (λ a b c. absent (is_receiving p.target) a can.0)
changes_by_next p (PlaceWrite set at bytes) h can = same_applied p _ refl refl
changes_by_next p (PlaceCopy set seg) h can = same_applied p _ refl refl
changes_by_next p PlaceMark h can = same_applied p _ refl refl
changes_by_next p (Take place) h can = same_applied p _ refl refl
changes_by_next p (Hold m) h can = same_applied p _ refl refl
changes_by_next p (Apply m) h next = record { each = λ a b c. inr (record { next = m.entry; there = there (h.receives a).number; images = refl; applied = refl }) }
  where
    there : p.target.number ≡ p.session.number → slice_get p.session.order p.target.applied ≡ Some m.entry
    there number =
        let f : IsFaithful p.session p.target.number p.target.applied m = faithful_at p.session p.target.number p.target.applied p.target.held m next.held h.held in
        let place : m.place - 1 ≡ p.target.applied = omega (arith, next.place) in
        subst (λ (n : ℕ). slice_get p.session.order n ≡ Some m.entry) place (f.entry (next.number ∙ number))
changes_by_next p (Reply m) h can = same_applied p _ refl refl
changes_by_next p (Free upto keys) h can = same_applied p _ refl refl
changes_by_next p (Know upto) h can = same_applied p _ refl refl
changes_by_next p Turn h can = same_applied p _ refl refl
changes_by_next p GoOn h can = same_applied p _ refl refl
changes_by_next p Weigh h can = same_applied p _ refl refl
changes_by_next p LeaveSource h can = same_applied p _ refl refl
changes_by_next p LeaveTarget h can = same_applied p _ refl refl
changes_by_next p Queue h can = same_applied p _ refl refl
changes_by_next p Forget h can = same_applied p _ refl refl
changes_by_next p (DrawSource number) h can = same_applied p _ refl refl
changes_by_next p (DrawTarget number) h can = never_both p _ (λ a b c. absent (is_receiving p.target) a (logging_away (is_receiver p.target.role) p.target.state can.1.away))
changes_by_next p (Enter most) h can = never_both p _ (λ a b c. absurd (omega (arith, c, can.fresh)))
changes_by_next p (EnterReversed most) h can = never_both p _ (λ a b c. absurd (omega (arith, c, can.fresh)))
changes_by_next p Rejoin h can = same_applied p _ refl refl
changes_by_next p (JoinSource set keys filled) h can = same_applied p _ refl refl
changes_by_next p (JoinTarget set keys filled) h can = same_applied p _ refl refl
changes_by_next p (MoveSource set there) h can = same_applied p _ refl refl
changes_by_next p (MoveTarget set there) h can = same_applied p _ refl refl
changes_by_next p (PartSource set) h can = same_applied p _ refl refl
changes_by_next p (PartTarget set) h can = same_applied p _ refl refl
changes_by_next p EndSource h can = same_applied p _ refl refl
changes_by_next p EndTarget h can = never_both p _ (λ a b c. false_true b)

-- ---- runs in which no session begins

append_none : (es : List Entry) → es ≡ es ++ []
append_none [] = refl
append_none (e ∷ es) = ap (λ (l : List Entry). e ∷ l) (append_none es)

append_more : (a b c : List Entry) → (a ++ b) ++ c ≡ a ++ (b ++ c)
append_more [] b c = refl
append_more (e ∷ a) b c = ap (λ (l : List Entry). e ∷ l) (append_more a b c)

same_session : (p new : PairState) → new.session ≡ p.session → p.target.applied ≤ new.target.applied → GoesOn p new
same_session p new session applied = record {
  applied = applied;
  more = [];
  order = ap (λ (s : Session). s.order) session ∙ append_none p.session.order;
  mark = λ some. (ap (λ (s : Session). s.mark) session, ap (λ (s : Session). s.candidate) session);
}

one_more : (p new : PairState) (e : Entry) → new.session ≡ with_entry p.session e → new.target.applied ≡ p.target.applied → GoesOn p new
one_more p new e session applied = record {
  applied = omega (arith, applied);
  more = e ∷ [];
  order = ap (λ (s : Session). s.order) session;
  mark = λ some. (ap (λ (s : Session). s.mark) session, ap (λ (s : Session). s.candidate) session);
}

stays_on : (p new : PairState) → new.session ≡ p.session → new.target.applied ≡ p.target.applied → GoesOn p new
stays_on p new session applied = same_session p new session (omega (arith, applied))

step_on : (p : PairState) (m : Move) → 0 < p.session.number → p.target.number ≡ p.session.number → Allowed p m → Stays p (after p m) → GoesOn p (after p m)
step_on p (NoteSource keys) some same can stays = stays_on p _ refl refl
step_on p (NoteTarget keys) some same can stays = stays_on p _ refl refl
step_on p (ChangeSource set image) some same can stays = stays_on p _ refl refl
step_on p (ChangeTarget set image) some same can stays = stays_on p _ refl refl
step_on p (PlaceWrite set at bytes) some same can stays = one_more p _ (written set at bytes) refl refl
step_on p (PlaceCopy set seg) some same can stays = one_more p _ (copy_of p.source.images set seg) refl refl
step_on p PlaceMark some same can stays = record { applied = omega arith; more = a_mark ∷ []; order = refl; mark = λ marked. absurd (omega (arith, marked, can.copying)) }
step_on p (Take place) some same can stays = stays_on p _ refl refl
step_on p (Hold m) some same can stays = stays_on p _ refl refl
step_on p (Apply m) some same can stays = same_session p _ refl (omega arith)
step_on p (Reply m) some same can stays = stays_on p _ refl refl
step_on p (Free upto keys) some same can stays = stays_on p _ refl refl
step_on p (Know upto) some same can stays = stays_on p _ refl refl
step_on p Turn some same can stays = stays_on p _ refl refl
step_on p GoOn some same can stays = stays_on p _ refl refl
step_on p Weigh some same can stays = stays_on p _ refl refl
step_on p LeaveSource some same can stays = stays_on p _ refl refl
step_on p LeaveTarget some same can stays = stays_on p _ refl refl
step_on p Queue some same can stays = stays_on p _ refl refl
step_on p Forget some same can stays = stays_on p _ refl refl
step_on p (DrawSource number) some same can stays = stays_on p _ refl refl
step_on p (DrawTarget number) some same can stays = absurd (omega (arith, stays.target, can.1.above_target))
step_on p (Enter most) some same can stays = absurd (omega (arith, stays.session, can.fresh))
step_on p (EnterReversed most) some same can stays = absurd (omega (arith, stays.session, can.fresh))
step_on p Rejoin some same can stays = stays_on p _ refl refl
step_on p (JoinSource set keys filled) some same can stays = stays_on p _ refl refl
step_on p (JoinTarget set keys filled) some same can stays = stays_on p _ refl refl
step_on p (MoveSource set there) some same can stays = stays_on p _ refl refl
step_on p (MoveTarget set there) some same can stays = stays_on p _ refl refl
step_on p (PartSource set) some same can stays = stays_on p _ refl refl
step_on p (PartTarget set) some same can stays = stays_on p _ refl refl
step_on p EndSource some same can stays = elim (session_cases p.session p.target.number) [ inl kept ↦ stays_on p _ kept.0 refl | inr none ↦ absurd (none.1 same) ]
step_on p EndTarget some same can stays = absurd (omega (arith, stays.target, some, same))

goes_then : (p mid new : PairState) → GoesOn p mid → GoesOn mid new → GoesOn p new
goes_then p mid new a b = record {
  applied = omega (arith, a.applied, b.applied);
  more = a.more ++ b.more;
  order = b.order ∙ ap (λ (l : List Entry). l ++ b.more) a.order ∙ append_more p.session.order a.more b.more;
  mark = λ some. let m = a.mark some in let n = b.mark (omega (arith, m.0, some)) in (n.0 ∙ m.0, n.1 ∙ m.1);
}

pub goes_on : (p : PairState) (ms : List Move) → 0 < p.session.number → p.target.number ≡ p.session.number → AllAllowed p ms → AllStay p ms → GoesOn p (after_all p ms)
goes_on p [] some same can stays = stays_on p p refl refl
goes_on p (m ∷ ms) some same can stays = goes_then p (after p m) (after_all (after p m) ms) (step_on p m some same can.0 stays.0)
    (goes_on (after p m) ms (omega (arith, some, stays.0.session)) (stays.0.target ∙ same ∙ sym stays.0.session) can.1 stays.1)

pub remembers : (p : PairState) (ms : List Move) → Sound p → 0 < p.session.number → p.target.number ≡ p.session.number → AllAllowed p ms → AllStay p ms → Remembers p (after_all p ms)
remembers p ms h some same can stays =
    let g : GoesOn p (after_all p ms) = goes_on p ms some same can stays in record {
      each = λ both j e lt there. (sym (ap (λ (l : List Entry). slice_get l j) (sym g.order)) ∙ slice_get_before p.session.order g.more j e there, omega (arith, known_applied p h both, g.applied, lt));
    }
