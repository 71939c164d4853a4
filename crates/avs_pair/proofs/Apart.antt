-- Events of one half read nothing of the other one.
use Rattle.std.proofs.Common.{◌≡◌, ◌⊎◌, inl, inr, ℕ, zero, suc, ◌+◌, max, Bool, true, false, ◌&&◌, cond, List, [], ◌∷◌, ◌++◌, length, Option, None, Some, ◌∙◌, sym, refl, ap, subst, arith}
use Rattle.std.specs.Prelude.{find, not}
use Rattle.avs_mirrors.specs.Accepts.{Accepts}
use Rattle.avs_mirrors.specs.Events.{ApplyOne, Back, Carry, DisableSource, DisableTarget, Drop, ForgetKnown, LogSource, LogTarget, MoveBackSource, MoveBackTarget, PairEvent, PlaceTake, RecoverSource, RecoverTarget, RemoveSource, RemoveTarget, RestoreSource, RestoreTarget, Restored, SyncCopy, SyncFull, SyncMark, TakeNext, WriteFull, WriteSource, WriteTarget, applies, apply_found, has_place, is_next, keeps_queue, moves, moves_away, parts_with, restored, write_away}
use Rattle.avs_mirrors.specs.Half.{HalfState, Message, is_acting, is_marked, is_receiving, is_sending, knows_mark, moved, parted, queued, without_place}
use Rattle.avs_mirrors.specs.Moves.{Apply, ChangeSource, ChangeTarget, Forget, Free, Hold, Know, LeaveSource, LeaveTarget, Move, MoveSource, MoveTarget, NoteSource, NoteTarget, PartSource, PartTarget, PlaceCopy, PlaceMark, PlaceWrite, Queue, Reply, Take, Turn, Weigh, after, after_all, with_target}
use Rattle.avs_mirrors.specs.Pair.{PairState, Session}
use Rattle.avs_pair.specs.Alone.{IsSameBut, IsSourceAlone, IsSourceAway, IsSourceLeft, IsSourceOwn, IsTargetAlone, IsTargetLeft, IsTargetOwn, is_source_alone, is_source_own, is_target_alone, is_target_own, with_receiver, with_sender}
use Rattle.avs_pair.proofs.Sources.{absent}
use Rattle.avs_pair.proofs.Targets.{false_true}
use Rattle.avs_pair.proofs.Events.{acting_sends}

-- moves that change, and look at, the source, the session and messages alone; and those that look at the target and messages alone
is_of_source : Move → Bool
is_of_source (NoteSource keys) = true
is_of_source (ChangeSource set image) = true
is_of_source (PlaceWrite set at bytes) = true
is_of_source (PlaceCopy set seg) = true
is_of_source PlaceMark = true
is_of_source (Take place) = true
is_of_source (Free upto keys) = true
is_of_source (Know upto) = true
is_of_source Turn = true
is_of_source Weigh = true
is_of_source LeaveSource = true
is_of_source Queue = true
is_of_source Forget = true
is_of_source (MoveSource set there) = true
is_of_source m = false

is_of_target : Move → Bool
is_of_target (NoteTarget keys) = true
is_of_target (ChangeTarget set image) = true
is_of_target (Hold m) = true
is_of_target (Apply m) = true
is_of_target (Reply m) = true
is_of_target LeaveTarget = true
is_of_target (MoveTarget set there) = true
is_of_target m = false

AllOf : (Move → Bool) → List Move → Type 0
AllOf test [] = Unit {0}
AllOf test (m ∷ ms) = (test m ≡ true) × AllOf test ms

source_apart : (p : PairState) (y : HalfState) (m : Move) → is_of_source m ≡ true → after (with_target p y) m ≡ with_target (after p m) y
unfolding is_of_source
source_apart p y (NoteSource keys) is = refl
source_apart p y (ChangeSource set image) is = refl
source_apart p y (PlaceWrite set at bytes) is = refl
source_apart p y (PlaceCopy set seg) is = refl
source_apart p y PlaceMark is = refl
source_apart p y (Take place) is = refl
source_apart p y (Free upto keys) is = refl
source_apart p y (Know upto) is = refl
source_apart p y Turn is = refl
source_apart p y Weigh is = refl
source_apart p y LeaveSource is = refl
source_apart p y Queue is = refl
source_apart p y Forget is = refl
source_apart p y (MoveSource set there) is = refl
source_apart p y m is = false_true is

sources_apart : (p : PairState) (y : HalfState) (ms : List Move) → AllOf is_of_source ms → after_all (with_target p y) ms ≡ with_target (after_all p ms) y
unfolding AllOf
sources_apart p y [] all = refl
sources_apart p y (m ∷ ms) all = ap (λ (q : PairState). after_all q ms) (source_apart p y m all.0) ∙ sources_apart (after p m) y ms all.1

target_apart : (p : PairState) (x : HalfState) (s : Session) (m : Move) → is_of_target m ≡ true → after (with_sender p x s) m ≡ with_sender (after p m) x s
unfolding is_of_target
target_apart p x s (NoteTarget keys) is = refl
target_apart p x s (ChangeTarget set image) is = refl
target_apart p x s (Hold m) is = refl
target_apart p x s (Apply m) is = refl
target_apart p x s (Reply m) is = refl
target_apart p x s LeaveTarget is = refl
target_apart p x s (MoveTarget set there) is = refl
target_apart p x s m is = false_true is

targets_apart : (p : PairState) (x : HalfState) (s : Session) (ms : List Move) → AllOf is_of_target ms → after_all (with_sender p x s) ms ≡ with_sender (after_all p ms) x s
unfolding AllOf
targets_apart p x s [] all = refl
targets_apart p x s (m ∷ ms) all = ap (λ (q : PairState). after_all q ms) (target_apart p x s m all.0) ∙ targets_apart (after p m) x s ms all.1

-- one of two lists
either_of : (test : Move → Bool) (b : Bool) (ms ns : List Move) → AllOf test ms → AllOf test ns → AllOf test (cond b ms ns)
either_of test true ms ns one other = one
either_of test false ms ns one other = other

restored_source : (rs : List Restored) → AllOf is_of_source (restored ChangeSource rs)
unfolding AllOf is_of_source
restored_source [] = tt
restored_source (r ∷ rs) = (refl, restored_source rs)

restored_target : (rs : List Restored) → AllOf is_of_target (restored ChangeTarget rs)
unfolding AllOf is_of_target
restored_target [] = tt
restored_target (r ∷ rs) = (refl, restored_target rs)

applied_target : (fuel : ℕ) (held : List Message) (number applied : ℕ) (m : Message) → AllOf is_of_target (applies fuel held number applied ++ Reply m ∷ [])
unfolding AllOf is_of_target
applied_target zero held number applied m = (refl, tt)
applied_target (suc fuel) held number applied m = by_found (find (is_next number (applied + 1)) held) (applied_target fuel (without_place (applied + 1) held) number (applied + 1) m)
  where
    by_found : (o : Option Message) → AllOf is_of_target (applies fuel (without_place (applied + 1) held) number (applied + 1) ++ Reply m ∷ [])
        → AllOf is_of_target (apply_found o (applies fuel (without_place (applied + 1) held) number (applied + 1)) ++ Reply m ∷ [])
    by_found None rest = (refl, tt)
    by_found (Some x) rest = (refl, rest)

source_moves : (queued : Bool) (p : PairState) (e : PairEvent) → is_source_alone e ≡ true → AllOf is_of_source (moves queued p e)
unfolding AllOf is_of_source
source_moves queued p (WriteSource set at bytes) is = either_of is_of_source (is_sending p.source) (PlaceWrite set at bytes ∷ []) (write_away NoteSource ChangeSource p.source.images set at bytes) (refl, tt) (refl, (refl, tt))
source_moves queued p (WriteFull set at bytes) is = (refl, (refl, (refl, tt)))
source_moves queued p (SyncCopy set seg) is = (refl, tt)
source_moves queued p SyncMark is = (refl, tt)
source_moves queued p SyncFull is = (refl, tt)
source_moves queued p TakeNext is = (refl, tt)
source_moves queued p (Back upto) is = (refl, (refl, either_of is_of_source (knows_mark p.session.mark (max p.source.known upto)) (Turn ∷ []) [] (refl, tt) tt))
source_moves queued p (PlaceTake set at bytes) is = (refl, (refl, tt))
source_moves queued p Drop is = either_of is_of_source (keeps_queue queued p.source) (Queue ∷ []) (LeaveSource ∷ []) (refl, tt) (refl, tt)
source_moves queued p LogSource is = either_of is_of_source (is_sending p.source) (LeaveSource ∷ []) [] (refl, tt) tt
source_moves queued p (RestoreSource keys rs) is = (refl, restored_source rs)
source_moves queued p (MoveBackSource set) is = (refl, tt)
source_moves queued p ForgetKnown is = (refl, tt)
source_moves queued p RecoverSource is = either_of is_of_source (keeps_queue queued p.source) (Queue ∷ Weigh ∷ []) (LeaveSource ∷ Forget ∷ []) (refl, (refl, tt)) (refl, (refl, tt))
source_moves queued p e is = false_true is

target_moves : (queued : Bool) (p : PairState) (e : PairEvent) → is_target_alone e ≡ true → AllOf is_of_target (moves queued p e)
unfolding AllOf is_of_target
target_moves queued p (WriteTarget set at bytes) is = (refl, (refl, tt))
target_moves queued p (Carry m) is = by_place (has_place p.target m.place)
  where
    by_place : (b : Bool) → AllOf is_of_target (cond b [] (Hold m ∷ applies (length p.target.held + 1) (m ∷ p.target.held) p.target.number p.target.applied) ++ Reply m ∷ [])
    by_place true = (refl, tt)
    by_place false = (refl, applied_target (length p.target.held + 1) (m ∷ p.target.held) p.target.number p.target.applied m)
target_moves queued p (ApplyOne m) is = (refl, (refl, (refl, tt)))
target_moves queued p LogTarget is = either_of is_of_target (is_receiving p.target) (LeaveTarget ∷ []) [] (refl, tt) tt
target_moves queued p (RestoreTarget keys rs) is = (refl, restored_target rs)
target_moves queued p (MoveBackTarget set) is = (refl, tt)
target_moves queued p RecoverTarget is = either_of is_of_target (is_receiving p.target) (LeaveTarget ∷ []) [] (refl, tt) tt
target_moves queued p e is = false_true is

source_accepts : (p : PairState) (y : HalfState) (e : PairEvent) → is_source_alone e ≡ true → Accepts p e → Accepts (with_target p y) e
source_accepts p y (WriteSource set at bytes) is a = record { write = a.write; short = a.short }
source_accepts p y (WriteFull set at bytes) is a = (a.0, record { write = a.1.write; short = a.1.short })
source_accepts p y (SyncCopy set seg) is a = (a.0, record { sends = a.1.sends; set_there = a.1.set_there; copying = a.1.copying; waits = a.1.waits; inside = a.1.inside })
source_accepts p y SyncMark is a = (a.0, record { sends = a.1.sends; copying = a.1.copying; none = a.1.none })
source_accepts p y SyncFull is a = a
source_accepts p y TakeNext is a = record { acts = a.acts; left = a.left }
source_accepts p y (Back upto) is a = record { acts = a.acts; message = a.message; among = a.among; number = a.number; got = a.got }
source_accepts p y (PlaceTake set at bytes) is a = (a.0, record { write = a.1.write; short = a.1.short })
source_accepts p y Drop is a = a
source_accepts p y LogSource is a = tt
source_accepts p y (RestoreSource keys rs) is a = a
source_accepts p y (MoveBackSource set) is a = a
source_accepts p y ForgetKnown is a = a
source_accepts p y RecoverSource is a = tt
source_accepts p y e is a = false_true is

target_accepts : (p : PairState) (x : HalfState) (s : Session) (e : PairEvent) → is_target_alone e ≡ true → Accepts p e → Accepts (with_sender p x s) e
target_accepts p x s (WriteTarget set at bytes) is a = a
target_accepts p x s (Carry m) is a = record { here = a.here; number = a.number; among = a.among }
target_accepts p x s (ApplyOne m) is a = record { comes = record { here = a.comes.here; number = a.comes.number; among = a.comes.among }; next = a.next }
target_accepts p x s LogTarget is a = tt
target_accepts p x s (RestoreTarget keys rs) is a = a
target_accepts p x s (MoveBackTarget set) is a = a
target_accepts p x s RecoverTarget is a = tt
target_accepts p x s e is a = false_true is

source_same : (queued : Bool) (p : PairState) (y : HalfState) (e : PairEvent) → is_source_alone e ≡ true → moves queued (with_target p y) e ≡ moves queued p e
source_same queued p y (WriteSource set at bytes) is = refl
source_same queued p y (WriteFull set at bytes) is = refl
source_same queued p y (SyncCopy set seg) is = refl
source_same queued p y SyncMark is = refl
source_same queued p y SyncFull is = refl
source_same queued p y TakeNext is = refl
source_same queued p y (Back upto) is = refl
source_same queued p y (PlaceTake set at bytes) is = refl
source_same queued p y Drop is = refl
source_same queued p y LogSource is = refl
source_same queued p y (RestoreSource keys rs) is = refl
source_same queued p y (MoveBackSource set) is = refl
source_same queued p y ForgetKnown is = refl
source_same queued p y RecoverSource is = refl
source_same queued p y e is = false_true is

target_same : (queued : Bool) (p : PairState) (x : HalfState) (s : Session) (e : PairEvent) → is_target_alone e ≡ true → moves queued (with_sender p x s) e ≡ moves queued p e
target_same queued p x s (WriteTarget set at bytes) is = refl
target_same queued p x s (Carry m) is = refl
target_same queued p x s (ApplyOne m) is = refl
target_same queued p x s LogTarget is = refl
target_same queued p x s (RestoreTarget keys rs) is = refl
target_same queued p x s (MoveBackTarget set) is = refl
target_same queued p x s RecoverTarget is = refl
target_same queued p x s e is = false_true is

pub source_alone : (queued : Bool) (p : PairState) (y : HalfState) (e : PairEvent) → is_source_alone e ≡ true → IsSourceAlone queued p y e
source_alone queued p y e is = record {
  accepts = source_accepts p y e is;
  same = source_same queued p y e is;
  after = sources_apart p y (moves queued p e) (source_moves queued p e is);
}

pub target_alone : (queued : Bool) (p : PairState) (x : HalfState) (s : Session) (e : PairEvent) → is_target_alone e ≡ true → IsTargetAlone queued p x s e
target_alone queued p x s e is = record {
  accepts = target_accepts p x s e is;
  same = target_same queued p x s e is;
  after = targets_apart p x s (moves queued p e) (target_moves queued p e is);
}

-- ---- a source that is in no session

-- moves that change, and look at, the source alone
is_of_half : Move → Bool
is_of_half (NoteSource keys) = true
is_of_half (ChangeSource set image) = true
is_of_half LeaveSource = true
is_of_half Forget = true
is_of_half (MoveSource set there) = true
is_of_half m = false

half_apart : (p : PairState) (y : HalfState) (s : Session) (m : Move) → is_of_half m ≡ true → after (with_receiver p y s) m ≡ with_receiver (after p m) y s
unfolding is_of_half
half_apart p y s (NoteSource keys) is = refl
half_apart p y s (ChangeSource set image) is = refl
half_apart p y s LeaveSource is = refl
half_apart p y s Forget is = refl
half_apart p y s (MoveSource set there) is = refl
half_apart p y s m is = false_true is

halves_apart : (p : PairState) (y : HalfState) (s : Session) (ms : List Move) → AllOf is_of_half ms → after_all (with_receiver p y s) ms ≡ with_receiver (after_all p ms) y s
unfolding AllOf
halves_apart p y s [] all = refl
halves_apart p y s (m ∷ ms) all = ap (λ (q : PairState). after_all q ms) (half_apart p y s m all.0) ∙ halves_apart (after p m) y s ms all.1

restored_half : (rs : List Restored) → AllOf is_of_half (restored ChangeSource rs)
unfolding AllOf is_of_half
restored_half [] = tt
restored_half (r ∷ rs) = (refl, restored_half rs)

-- a source that does not send does not act
never_acts : {A : Type 0} (p : PairState) → is_sending p.source ≡ false → is_acting p.source ≡ true → A
never_acts p away acts = absent (is_sending p.source) (acting_sends p.source.role p.source.state acts) away

keeps_none : (a b c : Bool) → b ≡ false → (a && b && c) ≡ false
keeps_none a b c off = grind arith

away_moves : (queued : Bool) (p : PairState) (e : PairEvent) → is_source_alone e ≡ true → is_sending p.source ≡ false → Accepts p e → AllOf is_of_half (moves queued p e)
unfolding AllOf is_of_half
away_moves queued p (WriteSource set at bytes) is away a =
    subst (λ (b : Bool). AllOf is_of_half (cond b (PlaceWrite set at bytes ∷ []) (write_away NoteSource ChangeSource p.source.images set at bytes))) (sym away) (refl, (refl, tt))
away_moves queued p (WriteFull set at bytes) is away a = absent (is_sending p.source) a.0 away
away_moves queued p (SyncCopy set seg) is away a = never_acts p away a.0
away_moves queued p SyncMark is away a = never_acts p away a.0
away_moves queued p SyncFull is away a = never_acts p away a.0
away_moves queued p TakeNext is away a = never_acts p away a.acts
away_moves queued p (Back upto) is away a = never_acts p away a.acts
away_moves queued p (PlaceTake set at bytes) is away a = never_acts p away a.0
away_moves queued p Drop is away a = never_acts p away a
away_moves queued p LogSource is away a = either_of is_of_half (is_sending p.source) (LeaveSource ∷ []) [] (refl, tt) tt
away_moves queued p (RestoreSource keys rs) is away a = (refl, restored_half rs)
away_moves queued p (MoveBackSource set) is away a = (refl, tt)
away_moves queued p ForgetKnown is away a = (refl, tt)
away_moves queued p RecoverSource is away a =
    subst (λ (b : Bool). AllOf is_of_half (cond b (Queue ∷ Weigh ∷ []) (LeaveSource ∷ Forget ∷ []))) (sym (keeps_none queued (is_sending p.source) (is_marked p.source.state) away)) (refl, (refl, tt))
away_moves queued p e is away a = false_true is

away_accepts : (p : PairState) (y : HalfState) (s : Session) (e : PairEvent) → is_source_alone e ≡ true → is_sending p.source ≡ false → Accepts p e → Accepts (with_receiver p y s) e
away_accepts p y s (WriteSource set at bytes) is away a = record { write = a.write; short = λ on. absent (is_sending p.source) on away }
away_accepts p y s (WriteFull set at bytes) is away a = absent (is_sending p.source) a.0 away
away_accepts p y s (SyncCopy set seg) is away a = never_acts p away a.0
away_accepts p y s SyncMark is away a = never_acts p away a.0
away_accepts p y s SyncFull is away a = never_acts p away a.0
away_accepts p y s TakeNext is away a = never_acts p away a.acts
away_accepts p y s (Back upto) is away a = never_acts p away a.acts
away_accepts p y s (PlaceTake set at bytes) is away a = never_acts p away a.0
away_accepts p y s Drop is away a = never_acts p away a
away_accepts p y s LogSource is away a = tt
away_accepts p y s (RestoreSource keys rs) is away a = a
away_accepts p y s (MoveBackSource set) is away a = a
away_accepts p y s ForgetKnown is away a = a
away_accepts p y s RecoverSource is away a = tt
away_accepts p y s e is away a = false_true is

away_same : (queued : Bool) (p : PairState) (y : HalfState) (s : Session) (e : PairEvent) → is_source_alone e ≡ true → is_sending p.source ≡ false → Accepts p e → moves queued (with_receiver p y s) e ≡ moves queued p e
away_same queued p y s (WriteSource set at bytes) is away a = refl
away_same queued p y s (WriteFull set at bytes) is away a = refl
away_same queued p y s (SyncCopy set seg) is away a = refl
away_same queued p y s SyncMark is away a = refl
away_same queued p y s SyncFull is away a = refl
away_same queued p y s TakeNext is away a = refl
away_same queued p y s (Back upto) is away a = never_acts p away a.acts
away_same queued p y s (PlaceTake set at bytes) is away a = never_acts p away a.0
away_same queued p y s Drop is away a = refl
away_same queued p y s LogSource is away a = refl
away_same queued p y s (RestoreSource keys rs) is away a = refl
away_same queued p y s (MoveBackSource set) is away a = refl
away_same queued p y s ForgetKnown is away a = refl
away_same queued p y s RecoverSource is away a = refl
away_same queued p y s e is away a = false_true is

pub source_away : (queued : Bool) (p : PairState) (y : HalfState) (s : Session) (e : PairEvent) → is_source_alone e ≡ true → is_sending p.source ≡ false → Accepts p e → IsSourceAway queued p y s e
source_away queued p y s e is away a = record {
  accepts = away_accepts p y s e is away a;
  same = away_same queued p y s e is away a;
  after = halves_apart p y s (moves queued p e) (away_moves queued p e is away a);
}

-- ---- the own side of what looks at the other half

part_beside : (p : PairState) (b : Bool) (set : ℕ) → (after_all p (cond b (PartTarget set ∷ []) [])).source ≡ p.source
part_beside p true set = refl
part_beside p false set = refl

part_behind : (p : PairState) (b : Bool) (set : ℕ) → (after_all p (cond b (PartSource set ∷ []) [])).target ≡ p.target
part_behind p true set = refl
part_behind p false set = refl

-- a set is disabled: it parts from its own half
source_parts : (p : PairState) (set : ℕ) → (after_all p (PartSource set ∷ parts_with PartTarget p.target set)).source ≡ parted p.source set
source_parts p set = part_beside (after p (PartSource set)) (p.target.on set && not (p.target.here set)) set

target_parts : (p : PairState) (set : ℕ) → (after_all p (PartTarget set ∷ parts_with PartSource p.source set)).target ≡ parted p.target set
target_parts p set = part_behind (after p (PartTarget set)) (p.source.on set && not (p.source.here set)) set

pub source_own : (queued : Bool) (p : PairState) (y : HalfState) (s : Session) (e : PairEvent) → is_source_own e ≡ true → IsSourceOwn queued p y s e
source_own queued p y s (DisableSource set) is = record { accepts = λ a. a; own = source_parts (with_receiver p y s) set ∙ sym (source_parts p set) }
source_own queued p y s RemoveSource is = record { accepts = λ a. a; own = refl }
source_own queued p y s e is = false_true is

pub target_own : (queued : Bool) (p : PairState) (x : HalfState) (s : Session) (e : PairEvent) → is_target_own e ≡ true → IsTargetOwn queued p x s e
target_own queued p x s (DisableTarget set) is = record { accepts = λ a. a; own = target_parts (with_sender p x s) set ∙ sym (target_parts p set) }
target_own queued p x s RemoveTarget is = record { accepts = λ a. a; own = refl }
target_own queued p x s e is = false_true is

-- a set goes to another group: its half has it still, or not
IsLeftOf : HalfState → ℕ → HalfState → Type 0
IsLeftOf h set a = (a ≡ moved h set false) ⊎ (a ≡ parted h set)

source_leaves : (p : PairState) (set : ℕ) → IsLeftOf p.source set (after_all p (moves_away MoveSource PartSource PartTarget p.target set)).source
unfolding IsLeftOf
source_leaves p set = by_here (p.target.here set)
  where
    by_here : (b : Bool) → ((after_all p (cond b (MoveSource set false ∷ []) (PartSource set ∷ parts_with PartTarget p.target set))).source ≡ moved p.source set false)
        ⊎ ((after_all p (cond b (MoveSource set false ∷ []) (PartSource set ∷ parts_with PartTarget p.target set))).source ≡ parted p.source set)
    by_here true = inl refl
    by_here false = inr (source_parts p set)

target_leaves : (p : PairState) (set : ℕ) → IsLeftOf p.target set (after_all p (moves_away MoveTarget PartTarget PartSource p.source set)).target
unfolding IsLeftOf
target_leaves p set = by_here (p.source.here set)
  where
    by_here : (b : Bool) → ((after_all p (cond b (MoveTarget set false ∷ []) (PartTarget set ∷ parts_with PartSource p.source set))).target ≡ moved p.target set false)
        ⊎ ((after_all p (cond b (MoveTarget set false ∷ []) (PartTarget set ∷ parts_with PartSource p.source set))).target ≡ parted p.target set)
    by_here true = inl refl
    by_here false = inr (target_parts p set)

same_half : (h : HalfState) (set : ℕ) → IsSameBut set h h
same_half h set = record { rest = refl; on = λ t off. refl; due = λ t g off. refl; kept = λ t off. refl }

parted_same : (h : HalfState) (set : ℕ) → IsSameBut set (moved h set false) (parted h set)
parted_same h set = record {
  rest = refl;
  on = λ t off. ap (λ (b : Bool). cond b false (h.on t)) off;
  due = λ t g off. ap (λ (b : Bool). cond b None (h.due t g)) off;
  kept = λ t off. ap (λ (b : Bool). cond b false (h.kept t)) off;
}

moved_same : (h : HalfState) (set : ℕ) → IsSameBut set (parted h set) (moved h set false)
moved_same h set = record {
  rest = refl;
  on = λ t off. sym (ap (λ (b : Bool). cond b false (h.on t)) off);
  due = λ t g off. sym (ap (λ (b : Bool). cond b None (h.due t g)) off);
  kept = λ t off. sym (ap (λ (b : Bool). cond b false (h.kept t)) off);
}

left_same : (h : HalfState) (set : ℕ) (a b : HalfState) → IsLeftOf h set a → IsLeftOf h set b → IsSameBut set a b
unfolding IsLeftOf
left_same h set a b (inl x) (inl y) = rw (x, y) (same_half (moved h set false) set)
left_same h set a b (inl x) (inr y) = rw (x, y) (parted_same h set)
left_same h set a b (inr x) (inl y) = rw (x, y) (moved_same h set)
left_same h set a b (inr x) (inr y) = rw (x, y) (same_half (parted h set) set)

pub source_left : (queued : Bool) (p : PairState) (y : HalfState) (s : Session) (set : ℕ) → IsSourceLeft queued p y s set
source_left queued p y s set = record { accepts = λ a. a; own = left_same p.source set _ _ (source_leaves p set) (source_leaves (with_receiver p y s) set) }

pub target_left : (queued : Bool) (p : PairState) (x : HalfState) (s : Session) (set : ℕ) → IsTargetLeft queued p x s set
target_left queued p x s set = record { accepts = λ a. a; own = left_same p.target set _ _ (target_leaves p set) (target_leaves (with_sender p x s) set) }
