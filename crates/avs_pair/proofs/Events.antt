-- What nothing refuses is made of moves that may be made.
use Rattle.std.proofs.Common.{◌≡◌, ◌⊎◌, inl, inr, ℕ, zero, suc, ◌+◌, ◌/◌, ◌<◌, ◌≤◌, max, Bool, true, false, ◌&&◌, nat_eq, cond, List, [], ◌∷◌, ◌++◌, length, take, Option, None, Some, ◌∙◌, sym, refl, ap, subst, arith}
use Rattle.std.specs.Prelude.{nat_le, nat_lt, find, not}
use Rattle.std.proofs.lemmas.Bool.Decides.{nat_tests}
use Rattle.std.proofs.lemmas.Bool.{cases_Bool}
use Rattle.std.proofs.lemmas.List.{length_push}
use Rattle.std.proofs.lemmas.Option.{same_Some}
use Rattle.avs_seg.specs.Image.{Image, block_at, put, IsMix}
use Rattle.avs_seg.proofs.Mixes.{IsMix-put}
use Rattle.avs_seg.specs.Segment.{seg_count}
use Rattle.std.specs.Option.{option_map_or}
use Rattle.avs_model.specs.declared.entry.Entry.{Entry}
use Rattle.avs_mirrors.specs.Accepts.{AcceptsBegin, AcceptsEnable, AcceptsMoveIn, AcceptsNext, AcceptsRestore, AcceptsReversed, AcceptsWrite, AreRestored, IsRestored}
use Rattle.avs_mirrors.specs.Allowed.{AllAllowed, AreAll, BringsBack, CanEnter, CanFree, CanJoin, CanPlace, CanRejoin, ChangesInside, IsAmong, IsHeldFrom, IsTold, SameBeside, TellsApplied}
use Rattle.avs_mirrors.specs.Due.{Due, Keys, Segments, frees, has, noted}
use Rattle.avs_mirrors.specs.Entries.{Images, SameSize, block_in, is_mark, touches, with_image, written}
use Rattle.avs_mirrors.specs.Events.{Restored, applies, apply_found, asks, asks_reversed, bits_of, brought, carried, dropped, has_place, is_next, keeps_queue, learn, logged_source, logged_target, moves_away, next_number, parts_with, recovered_source, restored, resumes, turn_where, write_away, write_full, write_source}
use Rattle.avs_mirrors.specs.Half.{HalfState, Logging, Message, Queuing, Replicating, Sender, HalfRole, State, Sets, is_acting, is_acting_state, is_marked, is_receiver, is_receiving, is_sender, is_sending, is_session, knows_mark, queued, with_bits, with_change, without_place}
use Rattle.avs_mirrors.specs.Moves.{Apply, ChangeSource, ChangeTarget, Enter, EnterReversed, Forget, Free, Hold, JoinSource, JoinTarget, Know, LeaveSource, LeaveTarget, Move, MoveSource, MoveTarget, NoteSource, NoteTarget, PartSource, PartTarget, PlaceWrite, Queue, Rejoin, Reply, Take, Weigh, after, after_all}
use Rattle.avs_mirrors.specs.Pair.{PairState, next_place}
use Rattle.avs_mirrors.specs.Stops.{IsFront, IsNoneOrAll, StopsAway, StopsBack, StopsBegin, StopsDropped, StopsFull, StopsResume, StopsReversed, StopsWrite}
use Rattle.avs_pair.proofs.Sound.{Sound}
use Rattle.avs_pair.proofs.Images.{not_touched, size_same, touches_at}
use Rattle.avs_pair.proofs.Shared.{eq_cases}
use Rattle.avs_pair.proofs.Sources.{absent}
use Rattle.avs_pair.proofs.Knowing.{logging_away}
use Rattle.avs_pair.proofs.Targets.{false_true}
use Rattle.avs_pair.proofs.Always.{allowed_join}

-- ---- fronts

-- a front of moves that may be made may be made
front : (p : PairState) (ms : List Move) (k : ℕ) → AllAllowed p ms → AllAllowed p (take k ms)
front p ms zero can = tt
front p [] (suc k) can = tt
front p (m ∷ ms) (suc k) can = (can.0, front (after p m) ms k can.1)

pub front_allowed : (p : PairState) (ms whole : List Move) → IsFront ms whole → AllAllowed p whole → AllAllowed p ms
front_allowed p ms whole f can = subst (λ (l : List Move). AllAllowed p l) (sym f.is) (front p whole f.count can)

pub none_or_all : (p : PairState) (ms whole : List Move) → IsNoneOrAll ms whole → AllAllowed p whole → AllAllowed p ms
none_or_all p ms whole (inl none) can = subst (λ (l : List Move). AllAllowed p l) (sym none) tt
none_or_all p ms whole (inr all) can = subst (λ (l : List Move). AllAllowed p l) (sym all) can

pub only : (p : PairState) (ms whole : List Move) → ms ≡ whole → AllAllowed p whole → AllAllowed p ms
only p ms whole is can = subst (λ (l : List Move). AllAllowed p l) (sym is) can

-- ---- writes

-- a write, and each part of one, changes blocks inside segments that have their bits
noted_touches : (due : Due) (e : Entry) (t g : ℕ) → has (noted due (touches e)) t g ≡ false → touches e t g ≡ false
noted_touches due e t g none = grind arith

same_number : (n : ℕ) → nat_eq n n ≡ true
same_number n = grind (arith, nat_tests)

torn_inside : (h : HalfState) (e : Entry) (image : Image) → IsMix (h.images e.set) e.at e.bytes image → ChangesInside (with_bits h (touches e)) e.set image
torn_inside h e image mix = record {
  size = λ _. mix.same_length;
  outside = λ _ i none. mix.outside i (not_touched e.at (length e.bytes) i (touches_at e e.set (i / 64) (same_number e.set) (noted_touches h.due e e.set (i / 64) none)));
}

torn_source : (p : PairState) (e : Entry) (image : Image) → is_sending p.source ≡ false → IsMix (p.source.images e.set) e.at e.bytes image → AllAllowed p (NoteSource (touches e) ∷ ChangeSource e.set image ∷ [])
torn_source p e image away mix = (tt, ((away, torn_inside p.source e image mix), tt))

torn_target : (p : PairState) (e : Entry) (image : Image) → is_receiving p.target ≡ false → IsMix (p.target.images e.set) e.at e.bytes image → AllAllowed p (NoteTarget (touches e) ∷ ChangeTarget e.set image ∷ [])
torn_target p e image away mix = (tt, ((away, torn_inside p.target e image mix), tt))

away_source : (p : PairState) (set at : ℕ) (bytes : Image) → is_sending p.source ≡ false → AllAllowed p (write_away NoteSource ChangeSource p.source.images set at bytes)
away_source p set at bytes away = torn_source p (written set at bytes) (put (p.source.images set) at bytes) away (IsMix-put (p.source.images set) at bytes)

pub away_target : (p : PairState) (set at : ℕ) (bytes : Image) → is_receiving p.target ≡ false → AllAllowed p (write_away NoteTarget ChangeTarget p.target.images set at bytes)
away_target p set at bytes away = torn_target p (written set at bytes) (put (p.target.images set) at bytes) away (IsMix-put (p.target.images set) at bytes)

-- a set of a half that sends is one of the session
place_allowed : (p : PairState) (set at : ℕ) (bytes : Image) → Sound p → is_sending p.source ≡ true → AcceptsWrite p set at bytes → CanPlace p set at bytes
place_allowed p set at bytes h sends w = record {
  sends = sends;
  set_there = sym ((h.stands sends).on set) ∙ w.write.on;
  some = w.write.some;
  inside = w.write.inside;
  short = w.short sends;
}

pub write_source_allowed : (p : PairState) (set at : ℕ) (bytes : Image) → Sound p → AcceptsWrite p set at bytes → AllAllowed p (write_source p set at bytes)
write_source_allowed p set at bytes h w = by_state (is_sending p.source) refl
  where
    by_state : (b : Bool) → is_sending p.source ≡ b → AllAllowed p (cond b (PlaceWrite set at bytes ∷ []) (write_away NoteSource ChangeSource p.source.images set at bytes))
    by_state true is = (place_allowed p set at bytes h is w, tt)
    by_state false is = away_source p set at bytes is

left_away : (b : Bool) → (b && false) ≡ false
left_away b = grind arith

pub write_full_allowed : (p : PairState) (set at : ℕ) (bytes : Image) → AllAllowed p (write_full p set at bytes)
write_full_allowed p set at bytes = (tt, away_source (after p LeaveSource) set at bytes (left_away (is_sender p.source.role)))

pub acting_sends : (role : HalfRole) (state : State) → (is_sender role && is_acting_state state) ≡ true → (is_sender role && is_session state) ≡ true
acting_sends role state is = grind arith

pub place_take_allowed : (p : PairState) (set at : ℕ) (bytes : Image) → Sound p → is_acting p.source ≡ true → AcceptsWrite p set at bytes → AllAllowed p (PlaceWrite set at bytes ∷ Take (next_place p.session) ∷ [])
place_take_allowed p set at bytes h acts w =
    let sends : is_sending p.source ≡ true = acting_sends p.source.role p.source.state acts in
    (place_allowed p set at bytes h sends w, (record { sends = sends; some = omega arith; there = omega (arith, length_push p.session.order (written set at bytes)) }, tt))

stops_away_source : (p : PairState) (images : Images) (e : Entry) (ms : List Move) → images ≡ p.source.images → is_sending p.source ≡ false → StopsAway NoteSource ChangeSource images e ms → AllAllowed p ms
stops_away_source p images e ms same away (inl part) = only p ms (NoteSource part.part ∷ []) part.is (tt, tt)
stops_away_source p images e ms same away (inr torn) =
    only p ms (NoteSource (touches e) ∷ ChangeSource e.set torn.image ∷ []) torn.is (torn_source p e torn.image away (subst (λ (l : Images). IsMix (l e.set) e.at e.bytes torn.image) same torn.mix))

pub stops_away_target : (p : PairState) (e : Entry) (ms : List Move) → is_receiving p.target ≡ false → StopsAway NoteTarget ChangeTarget p.target.images e ms → AllAllowed p ms
stops_away_target p e ms away (inl part) = only p ms (NoteTarget part.part ∷ []) part.is (tt, tt)
stops_away_target p e ms away (inr torn) = only p ms (NoteTarget (touches e) ∷ ChangeTarget e.set torn.image ∷ []) torn.is (torn_target p e torn.image away torn.mix)

pub stops_write : (queued : Bool) (p : PairState) (set at : ℕ) (bytes : Image) (ms : List Move) → Sound p → AcceptsWrite p set at bytes → StopsWrite queued p (written set at bytes) ms → AllAllowed p ms
stops_write queued p set at bytes ms h w s = elim (cases_Bool (is_sending p.source)) [
  | inr off ↦ stops_away_source p p.source.images (written set at bytes) ms refl off (s.away off)
  | inl on ↦ elim (cases_Bool (keeps_queue queued p.source)) [
    | inl keeps ↦ elim (s.kept keeps).either [
      | inl part ↦ only p ms (NoteSource part.part ∷ []) part.is (tt, tt)
      | inr whole ↦ only p ms (PlaceWrite set at bytes ∷ []) whole (place_allowed p set at bytes h on w, tt)
    ]
    | inr drops ↦
        let d : StopsDropped p (written set at bytes) ms = s.dropped on drops in
        let left : PairState = after (after p LeaveSource) Forget in
        let away : is_sending left.source ≡ false = left_away (is_sender p.source.role) in
        only p ms (LeaveSource ∷ Forget ∷ d.more) d.is (tt, (away, stops_away_source left p.source.images (written set at bytes) d.more refl away d.stops))
  ]
]

pub stops_full : (p : PairState) (e : Entry) (ms : List Move) → StopsFull p e ms → AllAllowed p ms
stops_full p e ms (inl none) = only p ms [] none tt
stops_full p e ms (inr l) = only p ms (LeaveSource ∷ l.more) l.is (tt, stops_away_source (after p LeaveSource) p.source.images e l.more refl (left_away (is_sender p.source.role)) l.stops)

-- ---- the sender learns a place

freed_is : (o : Option ℕ) (upto : ℕ) → option_map_or (λ k. nat_lt 0 k && nat_le k upto) o false ≡ true → (place : ℕ) × (o ≡ Some place) × (0 < place) × (place ≤ upto)
freed_is None upto on = absurd (cc)
freed_is (Some k) upto on = (k, refl, grind (arith, nat_tests), grind (arith, nat_tests))

left_is : (o : Option ℕ) (upto place : ℕ) → cond (option_map_or (λ k. nat_lt 0 k && nat_le k upto) o false) None o ≡ Some place → 0 < place → upto < place
left_is None upto place is some = absurd (cc)
left_is (Some k) upto place is some = grind (arith, nat_tests)

mark_known : (mark known : ℕ) → knows_mark mark known ≡ true → (0 < mark) × (mark ≤ known)
mark_known mark known on = (grind (arith, nat_tests), grind (arith, nat_tests))

part_told : (p : PairState) (upto : ℕ) (keys : Keys) → IsTold p upto → ((t g : ℕ) → keys t g ≡ true → frees p.source.due upto t g ≡ true) → CanFree p upto keys
part_told p upto keys told within = record { told = told; each = λ t g on. freed_is (p.source.due t g) upto (within t g on) }

-- once all is freed and known, the source is replicating where the mark is known
turn_allowed : (p : PairState) (is_known : Bool) → is_sending p.source ≡ true → (is_known ≡ true → (0 < p.session.mark) × (p.session.mark ≤ p.source.known)) → is_acting p.source ≡ true → AllAllowed p (turn_where is_known)
turn_allowed p true sends known acts = (record { sends = sends; marked = (known refl).0; known = (known refl).1; same = inl acts }, tt)
turn_allowed p false sends known acts = tt

pub back_allowed : (p : PairState) (upto : ℕ) → BringsBack p upto → AllAllowed p (learn p upto)
back_allowed p upto b =
    let freed : PairState = after p (Free upto (frees p.source.due upto)) in
    let known : PairState = after freed (Know upto) in
    let again : BringsBack freed upto = record { acts = b.acts; message = b.message; among = b.among; number = b.number; got = b.got } in (
      part_told p upto (frees p.source.due upto) (inl b) (λ t g on. on),
      (
        record { told = inl again; freed = λ t g place is some. left_is (p.source.due t g) upto place is some },
        turn_allowed known (knows_mark p.session.mark (max p.source.known upto)) (acting_sends p.source.role p.source.state b.acts) (λ on. mark_known p.session.mark (max p.source.known upto) on) b.acts,
      ),
    )

pub stops_back : (p : PairState) (upto : ℕ) (whole ms : List Move) → IsTold p upto → AllAllowed p whole → StopsBack p upto whole ms → AllAllowed p ms
stops_back p upto whole ms told can (inl part) = only p ms (Free upto part.part ∷ []) part.is (part_told p upto part.part told part.within, tt)
stops_back p upto whole ms told can (inr f) = front_allowed p ms whole f can

-- at a resumption
queues : (role : HalfRole) (state : State) → role ≡ Sender → state ≡ Queuing → ((is_sender role && is_session state) ≡ true) × (is_marked state ≡ true)
queues role state r q = (grind arith, grind arith)

tells_back : (p : PairState) → CanRejoin p → TellsApplied (after p Rejoin) p.target.applied
tells_back p can = record { sends = (queues p.source.role p.source.state can.sender can.queues).0; same = can.same; reached = refl }

resumes_allowed : (p : PairState) → Sound p → CanRejoin p → AllAllowed (after p Rejoin) (resumes p p.target.applied)
resumes_allowed p h can =
    let back : PairState = after p Rejoin in
    let n : ℕ = p.target.applied in
    let freed : PairState = after back (Free n (frees p.source.due n)) in
    let is = queues p.source.role p.source.state can.sender can.queues in
    let m = (h.stands is.0).synced is.1 in
    let again : TellsApplied freed n = record { sends = is.0; same = can.same; reached = refl } in (
      part_told back n (frees p.source.due n) (inr (tells_back p can)) (λ t g on. on),
      (
        record { told = inr again; freed = λ t g place is some. left_is (p.source.due t g) n place is some },
        (record { sends = is.0; marked = m.0; known = omega (arith, m.1); same = inr can.same }, tt),
      ),
    )

pub resume_allowed : (p : PairState) → Sound p → CanRejoin p → AllAllowed p (Rejoin ∷ resumes p p.target.applied)
resume_allowed p h can = (can, resumes_allowed p h can)

pub stops_resume : (p : PairState) (ms : List Move) → Sound p → CanRejoin p → StopsResume p ms → AllAllowed p ms
stops_resume p ms h can (inl none) = only p ms [] none tt
stops_resume p ms h can (inr s) = only p ms (Rejoin ∷ s.more) s.is (can, stops_back (after p Rejoin) p.target.applied (resumes p p.target.applied) s.more (inr (tells_back p can)) (resumes_allowed p h can) (again s.stops))
  where
    again : {more : List Move} → StopsBack p p.target.applied (resumes p p.target.applied) more → StopsBack (after p Rejoin) p.target.applied (resumes p p.target.applied) more
    again (inl part) = inl (record { part = part.part; within = part.within; is = part.is })
    again (inr f) = inr f

-- ---- leaving

pub dropped_allowed : (queued : Bool) (p : PairState) → AllAllowed p (dropped queued p)
dropped_allowed queued p = by_queue (keeps_queue queued p.source) (λ on. keeps queued (is_sending p.source) (is_marked p.source.state) on)
  where
    keeps : (a b c : Bool) → (a && b && c) ≡ true → (b ≡ true) × (c ≡ true)
    keeps a b c on = (grind arith, grind arith)

    by_queue : (b : Bool) → (b ≡ true → (is_sending p.source ≡ true) × (is_marked p.source.state ≡ true)) → AllAllowed p (cond b (Queue ∷ []) (LeaveSource ∷ []))
    by_queue true is = (record { sends = (is refl).0; marked = (is refl).1 }, tt)
    by_queue false is = (tt, tt)

pub logged_source_allowed : (p : PairState) → AllAllowed p (logged_source p)
logged_source_allowed p = by_state (is_sending p.source)
  where
    by_state : (b : Bool) → AllAllowed p (cond b (LeaveSource ∷ []) [])
    by_state true = (tt, tt)
    by_state false = tt

pub logged_target_allowed : (p : PairState) → AllAllowed p (logged_target p)
logged_target_allowed p = by_state (is_receiving p.target)
  where
    by_state : (b : Bool) → AllAllowed p (cond b (LeaveTarget ∷ []) [])
    by_state true = (tt, tt)
    by_state false = tt

pub recovered_allowed : (queued : Bool) (p : PairState) → Sound p → AllAllowed p (recovered_source queued p)
recovered_allowed queued p h = by_queue (keeps_queue queued p.source) (λ on. keeps queued (is_sender p.source.role) (is_session p.source.state) (is_marked p.source.state) on)
  where
    keeps : (a r s c : Bool) → (a && (r && s) && c) ≡ true → ((r && s) ≡ true) × (c ≡ true) × (r ≡ true)
    keeps a r s c on = (grind arith, grind arith, grind arith)

    by_queue : (b : Bool) → (b ≡ true → (is_sending p.source ≡ true) × (is_marked p.source.state ≡ true) × (is_sender p.source.role ≡ true)) → AllAllowed p (cond b (Queue ∷ Weigh ∷ []) (LeaveSource ∷ Forget ∷ []))
    by_queue true is = let m = (h.stands (is refl).0).synced (is refl).1 in (record { sends = (is refl).0; marked = (is refl).1 }, (record { sends = sends_still (is_sender p.source.role) (is refl).2; marked = m.0 }, tt))
      where
        sends_still : (b : Bool) → b ≡ true → (b && true) ≡ true
        sends_still b on = grind arith
    by_queue false is = (tt, (left_away (is_sender p.source.role), tt))

-- ---- a session begins

fresh_number : (p : PairState) → Sound p → p.session.number < next_number p
fresh_number p h = elim h.newest [ inl le ↦ omega (arith, le) | inr le ↦ omega (arith, le) ]

asks_allowed : (p : PairState) (full : Bool) → AllAllowed p (asks p full)
asks_allowed p full = (tt, (tt, (record { away = refl; above_source = omega arith; above_target = omega arith }, tt)))

enter_allowed : (p : PairState) (full : Bool) → Sound p → AcceptsBegin p.source p.target → CanEnter p.session.number (after_all p (asks p full)).source p.target
enter_allowed p full h a = record { fresh = fresh_number p h; sender = refl; away = refl; above = omega arith; same_sets = a.same_sets; contents = a.contents }

pub begin_allowed : (p : PairState) (full : Bool) (most : ℕ) → Sound p → AcceptsBegin p.source p.target → AllAllowed p (asks p full ++ Enter most ∷ [])
begin_allowed p full most h a = allowed_join p (asks p full) (Enter most ∷ []) (asks_allowed p full) (enter_allowed p full h a, tt)

pub stops_begin : (p : PairState) (full : Bool) (most : ℕ) (ms : List Move) → Sound p → AcceptsBegin p.source p.target → StopsBegin p full most ms → AllAllowed p ms
stops_begin p full most ms h a (inl part) = only p ms (NoteSource part.part ∷ []) part.is (tt, tt)
stops_begin p full most ms h a (inr (inl is)) = only p ms (asks p full) is (asks_allowed p full)
stops_begin p full most ms h a (inr (inr is)) = only p ms (asks p full ++ Enter most ∷ LeaveSource ∷ []) is (allowed_join p (asks p full) (Enter most ∷ LeaveSource ∷ []) (asks_allowed p full) (enter_allowed p full h a, (tt, tt)))

asks_reversed_allowed : (p : PairState) (full : Bool) → AcceptsReversed p.target p.source → AllAllowed p (asks_reversed p full)
asks_reversed_allowed p full a = (tt, ((a.idle, record { away = a.away; above_source = omega arith; above_target = omega arith }), tt))

enter_reversed_allowed : (p : PairState) (full : Bool) → Sound p → AcceptsReversed p.target p.source → CanEnter p.session.number (after_all p (asks_reversed p full)).target p.source
enter_reversed_allowed p full h a = record { fresh = fresh_number p h; sender = refl; away = a.away; above = omega arith; same_sets = a.same_sets; contents = a.contents }

pub begin_reversed_allowed : (p : PairState) (full : Bool) (most : ℕ) → Sound p → AcceptsReversed p.target p.source → AllAllowed p (asks_reversed p full ++ EnterReversed most ∷ [])
begin_reversed_allowed p full most h a = allowed_join p (asks_reversed p full) (EnterReversed most ∷ []) (asks_reversed_allowed p full a) (enter_reversed_allowed p full h a, tt)

pub stops_reversed : (p : PairState) (full : Bool) (most : ℕ) (ms : List Move) → Sound p → AcceptsReversed p.target p.source → StopsReversed p full most ms → AllAllowed p ms
stops_reversed p full most ms h a (inl part) = only p ms (NoteTarget part.part ∷ []) part.is (tt, tt)
stops_reversed p full most ms h a (inr (inl is)) = only p ms (asks_reversed p full) is (asks_reversed_allowed p full a)
stops_reversed p full most ms h a (inr (inr is)) = only p ms (asks_reversed p full ++ EnterReversed most ∷ LeaveSource ∷ []) is
    (allowed_join p (asks_reversed p full) (EnterReversed most ∷ LeaveSource ∷ []) (asks_reversed_allowed p full a) (enter_reversed_allowed p full h a, (tt, tt)))

-- ---- a message comes

-- what is found among messages is one of them, and passes
found_among : (test : Message → Bool) (ms : List Message) (m : Message) → find test ms ≡ Some m → IsAmong m ms × (test m ≡ true)
found_among test [] m is = absurd (cc)
found_among test (x ∷ ms) m is = by_test (test x) refl (λ same. found_among test ms m same) is
  where
    by_test : (b : Bool) → test x ≡ b → (find test ms ≡ Some m → IsAmong m ms × (test m ≡ true)) → cond b (Some x) (find test ms) ≡ Some m → IsAmong m (x ∷ ms) × (test m ≡ true)
    by_test true on rest same = let e : x ≡ m = same_Some x m same in (record { at = 0; there = ap Some e }, subst (λ (y : Message). test y ≡ true) e on)
    by_test false off rest same = let f = rest same in (record { at = suc f.0.at; there = f.0.there }, f.1)

next_is : (number place : ℕ) (m : Message) → is_next number place m ≡ true → (m.number ≡ number) × (m.place ≡ place)
next_is number place m on = (grind (arith, nat_tests), grind (arith, nat_tests))

still_receives : (role : HalfRole) (state : State) (c : Bool) → (is_receiver role && is_session state) ≡ true → (is_receiver role && is_session (cond c Replicating state)) ≡ true
still_receives role state c r = grind arith

-- the answer may be given behind any of the places that were applied
applies_allowed : (p : PairState) (fuel : ℕ) (m : Message) → is_receiving p.target ≡ true → m.number ≡ p.target.number → IsAmong m p.messages → AllAllowed p (applies fuel p.target.held p.target.number p.target.applied ++ Reply m ∷ [])
applies_allowed p zero m here same among = (record { here = here; number = same; among = among }, tt)
applies_allowed p (suc fuel) m here same among = by_found (find (is_next p.target.number (p.target.applied + 1)) p.target.held) refl
    (λ x. applies_allowed (after p (Apply x)) fuel m (still_receives p.target.role p.target.state (is_mark x.entry.kind) here) same among)
  where
    by_found : (o : Option Message) → find (is_next p.target.number (p.target.applied + 1)) p.target.held ≡ o
        → ((x : Message) → AllAllowed (after p (Apply x)) (applies fuel (without_place (p.target.applied + 1) p.target.held) p.target.number (p.target.applied + 1) ++ Reply m ∷ []))
        → AllAllowed p (apply_found o (applies fuel (without_place (p.target.applied + 1) p.target.held) p.target.number (p.target.applied + 1)) ++ Reply m ∷ [])
    by_found None is rest = (record { here = here; number = same; among = among }, tt)
    by_found (Some x) is rest =
        let f = found_among (is_next p.target.number (p.target.applied + 1)) p.target.held x is in
        let n = next_is p.target.number (p.target.applied + 1) x f.1 in
        (record { here = here; number = n.0; held = f.0; place = n.1 }, rest x)

pub carry_allowed : (p : PairState) (m : Message) → IsHeldFrom p m → AllAllowed p (carried p m)
carry_allowed p m from = by_place (has_place p.target m.place)
  where
    by_place : (b : Bool) → AllAllowed p (cond b [] (Hold m ∷ applies (length p.target.held + 1) (m ∷ p.target.held) p.target.number p.target.applied) ++ Reply m ∷ [])
    by_place true = (from, tt)
    by_place false = (from, applies_allowed (after p (Hold m)) (length p.target.held + 1) m from.here from.number from.among)

allowed_first : (p : PairState) (ms more : List Move) → AllAllowed p (ms ++ more) → AllAllowed p ms
allowed_first p [] more can = tt
allowed_first p (m ∷ ms) more can = (can.0, allowed_first (after p m) ms more can.1)

pub brought_allowed : (p : PairState) (m : Message) → IsHeldFrom p m → AllAllowed p (brought p m)
brought_allowed p m from = allowed_first p (brought p m) (Reply m ∷ []) (carry_allowed p m from)

pub apply_one_allowed : (p : PairState) (m : Message) → AcceptsNext p m → AllAllowed p (Hold m ∷ Apply m ∷ Reply m ∷ [])
apply_one_allowed p m a = (a.comes, (record { here = a.comes.here; number = a.comes.number; held = record { at = 0; there = refl }; place = a.next }, (again, tt)))
  where
    again : IsHeldFrom (after (after p (Hold m)) (Apply m)) m
    again = record { here = still_receives p.target.role p.target.state (is_mark m.entry.kind) a.comes.here; number = a.comes.number; among = a.comes.among }

-- ---- sets

restored_inside : (h now : HalfState) (keys : Keys) (r : Restored) → now.on ≡ h.on → ((t : ℕ) → h.on t ≡ true → SameSize now.images h.images t) → ((t i : ℕ) → h.on t ≡ true → keys t (i / 64) ≡ false → block_in now.images t i ≡ block_in h.images t i)
    → ((t g : ℕ) → has now.due t g ≡ false → keys t g ≡ false) → IsRestored h keys r → ChangesInside now r.0 r.1
restored_inside h now keys r on sizes same due o = record {
  size = λ there. let was : h.on r.0 ≡ true = subst (λ (f : Sets). f r.0 ≡ true) on there in o.size was ∙ sym (sizes r.0 was).len;
  outside = λ there i none. let was : h.on r.0 ≡ true = subst (λ (f : Sets). f r.0 ≡ true) on there in
      let gone : keys r.0 (i / 64) ≡ false = due r.0 (i / 64) none in
      o.outside was i gone ∙ sym (same r.0 i was gone);
}

noted_keys : (due : Due) (keys : Keys) (t g : ℕ) → has (noted due keys) t g ≡ false → keys t g ≡ false
noted_keys due keys t g none = grind arith

-- a set with another image: of the sets that a half has, in size and outside the segments as before
restored_size : (h now : HalfState) (keys : Keys) (r : Restored) → IsRestored h keys r → ((t : ℕ) → h.on t ≡ true → SameSize now.images h.images t) → (t : ℕ) → h.on t ≡ true → SameSize (with_image now.images r.0 r.1) h.images t
restored_size h now keys r o old t on = elim (eq_cases t r.0) [
  | inl same ↦ record { len = ap (λ (b : Bool). length (cond b r.1 (now.images t))) same.0 ∙ o.size (subst (λ (n : ℕ). h.on n ≡ true) same.1 on) ∙ ap (λ (n : ℕ). length (h.images n)) (sym same.1) }
  | inr off ↦ record { len = ap (λ (b : Bool). length (cond b r.1 (now.images t))) off.0 ∙ (old t on).len }
]

restored_same : (h now : HalfState) (keys : Keys) (r : Restored) → IsRestored h keys r → ((t i : ℕ) → h.on t ≡ true → keys t (i / 64) ≡ false → block_in now.images t i ≡ block_in h.images t i) → (t i : ℕ) → h.on t ≡ true → keys t (i / 64) ≡ false → block_in (with_image now.images r.0 r.1) t i ≡ block_in h.images t i
restored_same h now keys r o old t i on gone = elim (eq_cases t r.0) [
  | inl same ↦
      ap (λ (b : Bool). block_at (cond b r.1 (now.images t)) i) same.0
      ∙ o.outside (subst (λ (n : ℕ). h.on n ≡ true) same.1 on) i (subst (λ (n : ℕ). keys n (i / 64) ≡ false) same.1 gone)
      ∙ ap (λ (n : ℕ). block_in h.images n i) (sym same.1)
  | inr off ↦ ap (λ (b : Bool). block_at (cond b r.1 (now.images t)) i) off.0 ∙ old t i on gone
]

restores_source : (h : HalfState) (p : PairState) (keys : Keys) (rs : List Restored) → is_sending p.source ≡ false → p.source.on ≡ h.on → ((t : ℕ) → h.on t ≡ true → SameSize p.source.images h.images t)
    → ((t i : ℕ) → h.on t ≡ true → keys t (i / 64) ≡ false → block_in p.source.images t i ≡ block_in h.images t i) → ((t g : ℕ) → has p.source.due t g ≡ false → keys t g ≡ false) → AreRestored h keys rs → AllAllowed p (restored ChangeSource rs)
restores_source h p keys [] away on sizes same due o = tt
restores_source h p keys (r ∷ rs) away on sizes same due o =
    ((away, restored_inside h p.source keys r on sizes same due o.0), restores_source h (after p (ChangeSource r.0 r.1)) keys rs away on (restored_size h p.source keys r o.0 sizes) (restored_same h p.source keys r o.0 same) due o.1)

restores_target : (h : HalfState) (p : PairState) (keys : Keys) (rs : List Restored) → is_receiving p.target ≡ false → p.target.on ≡ h.on → ((t : ℕ) → h.on t ≡ true → SameSize p.target.images h.images t)
    → ((t i : ℕ) → h.on t ≡ true → keys t (i / 64) ≡ false → block_in p.target.images t i ≡ block_in h.images t i) → ((t g : ℕ) → has p.target.due t g ≡ false → keys t g ≡ false) → AreRestored h keys rs → AllAllowed p (restored ChangeTarget rs)
restores_target h p keys [] away on sizes same due o = tt
restores_target h p keys (r ∷ rs) away on sizes same due o =
    ((away, restored_inside h p.target keys r on sizes same due o.0), restores_target h (after p (ChangeTarget r.0 r.1)) keys rs away on (restored_size h p.target keys r o.0 sizes) (restored_same h p.target keys r o.0 same) due o.1)

pub restore_source_allowed : (p : PairState) (keys : Keys) (rs : List Restored) → AcceptsRestore p.source keys rs → AllAllowed p (NoteSource keys ∷ restored ChangeSource rs)
restore_source_allowed p keys rs a = (tt, restores_source p.source (after p (NoteSource keys)) keys rs (logging_away (is_sender p.source.role) p.source.state a.away) refl (λ t _. size_same p.source.images t) (λ t i _ _. refl) (noted_keys p.source.due keys) a.sets)

pub restore_target_allowed : (p : PairState) (keys : Keys) (rs : List Restored) → AcceptsRestore p.target keys rs → AllAllowed p (NoteTarget keys ∷ restored ChangeTarget rs)
restore_target_allowed p keys rs a = (tt, restores_target p.target (after p (NoteTarget keys)) keys rs (logging_away (is_receiver p.target.role) p.target.state a.away) refl (λ t _. size_same p.target.images t) (λ t i _ _. refl) (noted_keys p.target.due keys) a.sets)

-- a volume that is no set may have any blocks
free_image : (h : HalfState) (set : ℕ) (image : Image) → h.on set ≡ false → ChangesInside h set image
free_image h set image off = record { size = λ on. absent (h.on set) on off; outside = λ on i none. absent (h.on set) on off }

-- the image that was put there is the set's
image_there : (images : Images) (set : ℕ) (image : Image) → with_image images set image set ≡ image
image_there images set image = ap (λ (b : Bool). cond b image (images set)) (same_number set)

can_enable : (a b : HalfState) (in_session : Bool) (set : ℕ) (image : Image) (full : Bool) → AcceptsEnable a b set image full → (b.state ≡ Logging → in_session ≡ false) → CanJoin (with_change a set image) b in_session set (bits_of full image)
can_enable a b in_session set image full e idle = record {
  away = e.away;
  size = λ on. record { len = ap (λ (img : Image). length img) (image_there a.images set image) ∙ e.size on };
  covered = λ on. by_full full (λ same. e.equal on same);
}
  where
    by_full : (f : Bool) → (f ≡ false → (b.state ≡ Logging) × (b.contents set ≡ true) × (image ≡ b.images set)) → AreAll (bits_of f image) (length (with_image a.images set image set)) ⊎ ((in_session ≡ false) × SameBeside (with_change a set image) b set (bits_of f image))
    by_full true equal = inl (record { each = λ seg lt. all_there seg (subst (λ (img : Image). seg < seg_count (length img)) (image_there a.images set image) lt) })
      where
        all_there : (seg : ℕ) → seg < seg_count (length image) → nat_lt seg (seg_count (length image)) ≡ true
        all_there seg lt = grind (arith, nat_tests)
    by_full false equal = let q = equal refl in inr (idle q.0, record { each = λ i _ _. ap (λ (img : Image). block_at img i) (image_there a.images set image ∙ q.2) })

pub enable_source_allowed : (p : PairState) (set : ℕ) (image : Image) (full : Bool) → AcceptsEnable p.source p.target set image full → AllAllowed p (ChangeSource set image ∷ JoinSource set (bits_of full image) true ∷ [])
enable_source_allowed p set image full e = (
  (logging_away (is_sender p.source.role) p.source.state e.away, free_image p.source set image e.new),
  (can_enable p.source p.target (is_receiving p.target) set image full e (λ away. logging_away (is_receiver p.target.role) p.target.state away), tt),
)

pub enable_target_allowed : (p : PairState) (set : ℕ) (image : Image) (full : Bool) → AcceptsEnable p.target p.source set image full → AllAllowed p (ChangeTarget set image ∷ JoinTarget set (bits_of full image) true ∷ [])
enable_target_allowed p set image full e = (
  (logging_away (is_receiver p.target.role) p.target.state e.away, free_image p.target set image e.new),
  (can_enable p.target p.source (is_sending p.source) set image full e (λ away. logging_away (is_sender p.source.role) p.source.state away), tt),
)

can_move_in : (a b : HalfState) (in_session : Bool) (set : ℕ) (image : Image) (keys : Segments) → AcceptsMoveIn a b set image keys → (b.state ≡ Logging → in_session ≡ false) → CanJoin (with_change a set image) b in_session set keys
can_move_in a b in_session set image keys e idle = record {
  away = e.away;
  size = λ on. record { len = ap (λ (img : Image). length img) (image_there a.images set image) ∙ e.size on };
  covered = λ on. inr (idle (e.idle on), record { each = λ i off none. ap (λ (img : Image). block_at img i) (image_there a.images set image) ∙ e.covered on i off none });
}

pub move_in_source_allowed : (p : PairState) (set : ℕ) (image : Image) (keys : Segments) (filled : Bool) → AcceptsMoveIn p.source p.target set image keys → AllAllowed p (ChangeSource set image ∷ JoinSource set keys filled ∷ [])
move_in_source_allowed p set image keys filled e = (
  (logging_away (is_sender p.source.role) p.source.state e.away, free_image p.source set image e.new),
  (can_move_in p.source p.target (is_receiving p.target) set image keys e (λ away. logging_away (is_receiver p.target.role) p.target.state away), tt),
)

pub move_in_target_allowed : (p : PairState) (set : ℕ) (image : Image) (keys : Segments) (filled : Bool) → AcceptsMoveIn p.target p.source set image keys → AllAllowed p (ChangeTarget set image ∷ JoinTarget set keys filled ∷ [])
move_in_target_allowed p set image keys filled e = (
  (logging_away (is_receiver p.target.role) p.target.state e.away, free_image p.target set image e.new),
  (can_move_in p.target p.source (is_sending p.source) set image keys e (λ away. logging_away (is_sender p.source.role) p.source.state away), tt),
)

-- a set that the other half has moved away leaves it too: that half is in no session
parts_target : (p : PairState) (set : ℕ) → Sound p → AllAllowed (after p (PartSource set)) (parts_with PartTarget p.target set)
parts_target p set h = by_test (p.target.on set) (p.target.here set) (λ on off. h.target_here.away set on off)
  where
    by_test : (a b : Bool) → (a ≡ true → b ≡ false → p.target.state ≡ Logging) → AllAllowed (after p (PartSource set)) (cond (a && not b) (PartTarget set ∷ []) [])
    by_test true false away = (away refl refl, tt)
    by_test true true away = tt
    by_test false b away = tt

parts_source : (p : PairState) (set : ℕ) → Sound p → AllAllowed (after p (PartTarget set)) (parts_with PartSource p.source set)
parts_source p set h = by_test (p.source.on set) (p.source.here set) (λ on off. h.source_here.away set on off)
  where
    by_test : (a b : Bool) → (a ≡ true → b ≡ false → p.source.state ≡ Logging) → AllAllowed (after p (PartTarget set)) (cond (a && not b) (PartSource set ∷ []) [])
    by_test true false away = (away refl refl, tt)
    by_test true true away = tt
    by_test false b away = tt

pub disable_source_allowed : (p : PairState) (set : ℕ) → Sound p → p.source.state ≡ Logging → AllAllowed p (PartSource set ∷ parts_with PartTarget p.target set)
disable_source_allowed p set h away = (away, parts_target p set h)

pub disable_target_allowed : (p : PairState) (set : ℕ) → Sound p → p.target.state ≡ Logging → AllAllowed p (PartTarget set ∷ parts_with PartSource p.source set)
disable_target_allowed p set h away = (away, parts_source p set h)

pub move_away_source_allowed : (p : PairState) (set : ℕ) → Sound p → p.source.state ≡ Logging → AllAllowed p (moves_away MoveSource PartSource PartTarget p.target set)
move_away_source_allowed p set h away = by_here (p.target.here set)
  where
    by_here : (b : Bool) → AllAllowed p (cond b (MoveSource set false ∷ []) (PartSource set ∷ parts_with PartTarget p.target set))
    by_here true = (record { away = away; on = λ there. false_true there }, tt)
    by_here false = disable_source_allowed p set h away

pub move_away_target_allowed : (p : PairState) (set : ℕ) → Sound p → p.target.state ≡ Logging → AllAllowed p (moves_away MoveTarget PartTarget PartSource p.source set)
move_away_target_allowed p set h away = by_here (p.source.here set)
  where
    by_here : (b : Bool) → AllAllowed p (cond b (MoveTarget set false ∷ []) (PartTarget set ∷ parts_with PartSource p.source set))
    by_here true = (record { away = away; on = λ there. false_true there }, tt)
    by_here false = disable_target_allowed p set h away
