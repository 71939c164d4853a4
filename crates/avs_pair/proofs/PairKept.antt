-- Each move that may be made is kept by its stages on the hosts, and so is each run of them.
use Rattle.std.proofs.Common.{◌≡◌, inl, inr, ℕ, ◌+◌, ◌-◌, ◌≤◌, max, Bool, true, false, ◌&&◌, nat_eq, cond, List, [], ◌∷◌, ◌++◌, map, length, drop, Some, ◌∙◌, refl, sym, ap, subst, arith}
use Rattle.std.specs.Prelude.{◌==◌}
use Rattle.std.proofs.lemmas.List.{drop-map, map-append, drop-append-le, drop-drop}
use Rattle.avs_seg.specs.Staged.{run}
use Rattle.avs_seg.proofs.StagedLaws.{run-append}
use Rattle.avs_model.specs.Hosts.{HostStage, Name}
use Rattle.avs_model.specs.BothHosts.{other_of}
use Rattle.avs_model.specs.declared.event.Host.{Host}
use Rattle.avs_model.specs.declared.event.Host.TheVariants.{P, S}
use Rattle.avs_model.specs.declared.entry.Entry.{Entry}
use Rattle.avs_mirrors.specs.Allowed.{AllAllowed, Allowed, CanEnter, IsTold}
use Rattle.avs_mirrors.specs.Due.{has}
use Rattle.avs_mirrors.specs.Entries.{Images, a_mark, copy_of, written}
use Rattle.avs_mirrors.specs.Half.{Sets, HalfState, HalfRole, asked, begun, drawn, is_sender, is_sending, left_sender}
use Rattle.avs_mirrors.specs.Moves.{Apply, ChangeSource, ChangeTarget, DrawSource, DrawTarget, EndSource, EndTarget, Enter, EnterReversed, Forget, Free, GoOn, Hold, JoinSource, JoinTarget, Know, LeaveSource, LeaveTarget, Move, MoveSource, MoveTarget, NoteSource, NoteTarget, PartSource, PartTarget, PlaceCopy, PlaceMark, PlaceWrite, Queue, Rejoin, Reply, Take, Turn, Weigh, after, after_all, answered, taken_message}
use Rattle.avs_mirrors.specs.Pair.{PairState, Session, new_session, next_place, no_session, session_for}
use Rattle.avs_mirrors.specs.HalfStages.{after_half_stage, after_mirror_stage, seat_after, with_own}
use Rattle.avs_mirrors.specs.MirrorHosts.{Applies, Asks, AtOnce, Begins, Ends, Knows, Leaves, MirrorHost, MirrorStage, NamedEntry, OfHalf, Places, Seat, Sent, Takes, half_at}
use Rattle.avs_mirrors.specs.MirrorStates.{AtHost, MirrorState, PairStage, Workers, in_pair, mirror_host, with_worker, without_workers}
use Rattle.avs_mirrors.specs.MoveStages.{AreAllStages, AreStages, EntersAt, view_after, views_after}
use Rattle.avs_mirrors.specs.PairOf.{HaveOwnNames, HasSent, IsHalfOf, IsPairOf, IsReachedOf, IsSentOf, View, named_entry, named_message, other_host, sender_host}
use Rattle.avs_pair.proofs.Always.{reached_more, reached_sound}
use Rattle.avs_pair.proofs.Events.{acting_sends}
use Rattle.avs_pair.proofs.HalfMoves.{IsPlain, half_applied, half_asked, half_begun, half_copied, half_drew, half_forgot, half_freed, half_goes_on, half_held, half_known, half_left, half_left_receiver, half_marked, half_noted, half_placed, half_queued, half_rejoined, half_taken, half_turned, half_weighed, sends_not}
use Rattle.avs_pair.proofs.HalfSets.{half_ended}
use Rattle.avs_pair.specs.Session.{IsFitting}
use Rattle.avs_pair.proofs.Orders.{drop_get}
use Rattle.avs_pair.proofs.PairMoves.{made_change, made_join, made_move, made_part, source_does, source_made, target_does, target_made}
use Rattle.avs_pair.proofs.PairSteps.{away_sends, has_new, has_none, moved_none, moved_one, moved_workers, other_twice, sent_same, sent_there, source_moved, target_moved}
use Rattle.avs_pair.proofs.Sound.{Receives, Sound, Stands}

-- ---- entries of a sender

-- with one more
entries_push : (names : ℕ → Name) (known : ℕ) (order : List Entry) (e : Entry) (entries : List NamedEntry) → known ≤ length order → entries ≡ map (named_entry names) (drop known order)
    → entries ++ named_entry names e ∷ [] ≡ map (named_entry names) (drop known (order ++ e ∷ []))
entries_push names known order e entries low is =
    ap (λ (es : List NamedEntry). es ++ named_entry names e ∷ []) is
    ∙ sym (map-append (named_entry names) (drop known order) (e ∷ []))
    ∙ sym (ap (map (named_entry names)) (drop-append-le known order (e ∷ []) low))

-- without those that are known
entries_known : (names : ℕ → Name) (known upto : ℕ) (order : List Entry) (entries : List NamedEntry) → known ≤ upto → entries ≡ map (named_entry names) (drop known order)
    → drop (upto - known) entries ≡ map (named_entry names) (drop upto order)
entries_known names known upto order entries low is =
    let all : known + (upto - known) ≡ upto = omega arith in
    ap (drop (upto - known)) is
    ∙ drop-map (named_entry names) (upto - known) (drop known order)
    ∙ ap (map (named_entry names)) (drop-drop (upto - known) known order ∙ ap (λ (n : ℕ). drop n order) all)

told_sends : (p : PairState) (upto : ℕ) → IsTold p upto → is_sending p.source ≡ true
told_sends p upto (inl b) = acting_sends p.source.role p.source.state b.acts
told_sends p upto (inr t) = t.sends

low_max : (a b : ℕ) → a ≤ max a b
low_max a b = omega arith

-- ---- a place

-- an entry has the next place
placed_pair : (view : View) (state : MirrorState) (p : PairState) (x : HalfState) (s : Session) (e : Entry) (own : List HostStage) (stages : List PairStage) (mark : ℕ) → Sound p → is_sending p.source ≡ true → IsPairOf view state p
    → stages ≡ AtHost view.sender (AtOnce own view.group (Places (named_entry view.names e))) ∷ []
    → IsHalfOf view.names view.group (after_half_stage (with_own (sender_host view state) own) view.group (Places (named_entry view.names e))) x
    → x.known ≡ p.source.known → s.order ≡ p.session.order ++ e ∷ [] → s.most ≡ p.session.most → s.mark ≡ mark
    → (half_at (after_half_stage (with_own (sender_host view state) own) view.group (Places (named_entry view.names e))) view.group).sent
    ≡ record (half_at (sender_host view state) view.group).sent { mark = mark; entries = (half_at (sender_host view state) view.group).sent.entries ++ named_entry view.names e ∷ [] }
    → IsPairOf view (run in_pair state stages) (record { source = x; target = p.target; session = s; messages = p.messages })
placed_pair view state p x s e own stages mark h sends is same half known order most at sent =
    subst (λ (st : List PairStage). IsPairOf view (run in_pair state st) (record { source = x; target = p.target; session = s; messages = p.messages })) (sym same)
    (source_moved view state _ _ state.workers p x s p.messages is (moved_one state view.sender (AtOnce own view.group (Places (named_entry view.names e)))) half (λ on. sent_now) is.workers)
  where
    stands : Stands p.source p.session
    stands = h.stands sends

    sent_now : IsSentOf view.names (half_at (after_half_stage (with_own (sender_host view state) own) view.group (Places (named_entry view.names e))) view.group).sent x s
    sent_now = record {
      mark = ap (λ (t : Sent). t.mark) sent ∙ sym at;
      most = ap (λ (t : Sent). t.most) sent ∙ (is.sent sends).most ∙ sym most;
      entries =
          ap (λ (t : Sent). t.entries) sent
          ∙ entries_push view.names p.source.known p.session.order e _ stands.reached (is.sent sends).entries
          ∙ sym (ap (λ (es : List Entry). map (named_entry view.names) (drop p.source.known es)) order)
          ∙ sym (ap (λ (n : ℕ). map (named_entry view.names) (drop n s.order)) known);
    }

-- ---- a beginning

both_begin : (state : MirrorState) (at other : Host) (one two : MirrorStage) → other ≡ other_of at
    → (mirror_host (run in_pair state (AtHost at one ∷ AtHost other two ∷ [])) at ≡ after_mirror_stage (mirror_host state at) one)
    × (mirror_host (run in_pair state (AtHost at one ∷ AtHost other two ∷ [])) (other_of at) ≡ after_mirror_stage (mirror_host state other) two)
    × ((run in_pair state (AtHost at one ∷ AtHost other two ∷ [])).workers ≡ state.workers)
both_begin state P S one two is = (refl, refl, refl)
both_begin state S P one two is = (refl, refl, refl)
both_begin state P P one two is = absurd (cc)
both_begin state S S one two is = absurd (cc)

entered : (group : Name) (names : ℕ → Name) (at other : Host) (state : MirrorState) (p : PairState) (a b : HalfState) (most : ℕ) (stages : List PairStage) (newest : ℕ) → other ≡ other_of at
    → IsHalfOf names group (mirror_host state at) a → IsHalfOf names group (mirror_host state other) b
    → ((key : ℕ) → a.here key ≡ true → a.on key ≡ true) → ((key : ℕ) → b.here key ≡ true → b.on key ≡ true) → CanEnter newest a b
    → HaveOwnNames names → HasSent names (state.workers group) p.messages
    → EntersAt (record { names = names; group = group; at = at; host = mirror_host state at }) (record { names = names; group = group; at = other; host = mirror_host state other }) a b most stages
    → IsPairOf (record { group = group; names = names; sender = at }) (run in_pair state stages) (record { source = begun a b; target = asked b a.number; session = new_session a.number a.here most; messages = p.messages })
entered group names at other state p a b most stages newest is-other source target here_a here_b can apart has e =
    subst (λ (st : List PairStage). IsPairOf (record { group = group; names = names; sender = at }) (run in_pair state st) (record { source = begun a b; target = asked b a.number; session = new_session a.number a.here most; messages = p.messages })) (sym e.is) whole
  where
    role_sends : (role : HalfRole) → role ≡ a.role → (is_sender role && true) ≡ true → is_sending (begun a b) ≡ true
    role_sends role is on = sym (ap (λ (r : HalfRole). is_sender r && true) is) ∙ on

    whole : IsPairOf (record { group = group; names = names; sender = at }) (run in_pair state (AtHost at (OfHalf group (Begins most e.bits)) ∷ AtHost other (OfHalf group (Asks a.number)) ∷ [])) (record { source = begun a b; target = asked b a.number; session = new_session a.number a.here most; messages = p.messages })
    whole = let both = both_begin state at other (OfHalf group (Begins most e.bits)) (OfHalf group (Asks a.number)) is-other in record {
      apart = apart;
      source = subst (λ (host : MirrorHost). IsHalfOf names group host (begun a b)) (sym both.0) (half_begun names group (mirror_host state at) a apart source b most e.bits e.same (λ key on. sym (can.same_sets key) ∙ on) (role_sends _ (sym can.sender) refl) here_a);
      target = subst (λ (host : MirrorHost). IsHalfOf names group host (asked b a.number)) (sym both.1) (half_asked names group (mirror_host state other) b apart target a.number here_b);
      sent = λ on. subst (λ (host : MirrorHost). IsSentOf names (half_at host group).sent (begun a b) (new_session a.number a.here most)) (sym both.0) (begins (sent_there (mirror_host state at) group (seat_after (half_at (mirror_host state at) group).seat (Begins most e.bits)) (record { mark = 0; most = most; entries = [] })));
      workers = subst (λ (w : Workers). HasSent names (w group) p.messages) (sym both.2) has;
    }
      where
        begins : (half_at (after_half_stage (mirror_host state at) group (Begins most e.bits)) group).sent ≡ record { mark = 0; most = most; entries = [] } → IsSentOf names (half_at (after_half_stage (mirror_host state at) group (Begins most e.bits)) group).sent (begun a b) (new_session a.number a.here most)
        begins is = record { mark = ap (λ (t : Sent). t.mark) is; most = ap (λ (t : Sent). t.most) is; entries = ap (λ (t : Sent). t.entries) is }

-- ---- all moves

-- stages that are said
as_said : (view : View) (state : MirrorState) (q : PairState) (stages whole : List PairStage) → stages ≡ whole → IsPairOf view (run in_pair state whole) q → IsPairOf view (run in_pair state stages) q
as_said view state q stages whole same is = subst (λ (st : List PairStage). IsPairOf view (run in_pair state st) q) (sym same) is

same_session : (s : Session) (n : ℕ) → n ≡ s.number → session_for s n ≡ s
same_session s n is = ap (λ (b : Bool). cond b s no_session) (equal n s.number is)
  where
    equal : (a b : ℕ) → a ≡ b → nat_eq a b ≡ true
    equal a b e = grind arith

fits_plain : (sets : Sets) (images : Images) (e : Entry) → IsFitting sets images e → IsPlain e
fits_plain sets images e (inl mark) = inl mark
fits_plain sets images e (inr of) = inr of.kind

move_kept : (view : View) (state : MirrorState) (p : PairState) (m : Move) (stages : List PairStage) → Sound p → Allowed p m → IsPairOf view state p → AreStages view state p m stages → IsPairOf (view_after view m) (run in_pair state stages) (after p m)
move_kept view state p (NoteSource keys) stages h can is a = source_does view state p _ _ stages is a.is (λ on. on) (inl refl) (half_noted view.names view.group (sender_host view state) p.source is.apart is.source keys a.named a.same) (sent_there (sender_host view state) view.group _ _)
move_kept view state p (NoteTarget keys) stages h can is a = target_does view state p _ _ stages is a.is (half_noted view.names view.group (other_host view state) p.target is.apart is.target keys a.named a.same) (sent_there (other_host view state) view.group _ _)
move_kept view state p (ChangeSource set image) stages h can is a = source_made view state p _ stages is (λ on. on) (inl refl) (made_change view state view.sender p.source set image stages is.apart is.source a)
move_kept view state p (ChangeTarget set image) stages h can is a = target_made view state p _ stages is (made_change view state (other_of view.sender) p.target set image stages is.apart is.target a)
move_kept view state p (PlaceWrite set at bytes) stages h can is a =
    let stands : Stands p.source p.session = h.stands can.sends in
    let next : p.source.last + 1 ≡ next_place p.session = ap (λ (n : ℕ). n + 1) stands.counted in
    let sent : IsSentOf view.names (half_at (sender_host view state) view.group).sent p.source p.session = is.sent can.sends in
    placed_pair view state p _ _ (written set at bytes) a.own stages p.session.mark h can.sends is a.is
    (half_placed view.names view.group (sender_host view state) p.source is.apart is.source set at bytes a.own (next_place p.session) (p.session.mark == 0) can.sends next (ap (λ (n : ℕ). n == 0) sent.mark) a.makes)
    refl refl refl refl
    (sent_there (with_own (sender_host view state) a.own) view.group _ _ ∙ ap (λ (n : ℕ). record (half_at (sender_host view state) view.group).sent { mark = n; entries = (half_at (sender_host view state) view.group).sent.entries ++ named_entry view.names (written set at bytes) ∷ [] }) sent.mark)
move_kept view state p (PlaceCopy set seg) stages h can is a =
    let stands : Stands p.source p.session = h.stands can.sends in
    let next : p.source.last + 1 ≡ next_place p.session = ap (λ (n : ℕ). n + 1) stands.counted in
    let sent : IsSentOf view.names (half_at (sender_host view state) view.group).sent p.source p.session = is.sent can.sends in
    let e : Entry = copy_of p.source.images set seg in
    as_said view state _ stages _ a (placed_pair view state p _ _ e [] _ p.session.mark h can.sends is refl
    (half_copied view.names view.group (sender_host view state) p.source is.apart is.source set seg (next_place p.session) can.sends next)
    refl refl refl refl
    (sent_there (sender_host view state) view.group _ _ ∙ ap (λ (n : ℕ). record (half_at (sender_host view state) view.group).sent { mark = n; entries = (half_at (sender_host view state) view.group).sent.entries ++ named_entry view.names e ∷ [] }) sent.mark))
move_kept view state p PlaceMark stages h can is a =
    let stands : Stands p.source p.session = h.stands can.sends in
    let next : p.source.last + 1 ≡ next_place p.session = ap (λ (n : ℕ). n + 1) stands.counted in
    let seat : (half_at (sender_host view state) view.group).seat.last + 1 ≡ next_place p.session = ap (λ (seat : Seat). seat.last + 1) is.source.seat ∙ next in
    as_said view state _ stages _ a (placed_pair view state p _ _ a_mark [] _ (next_place p.session) h can.sends is refl
    (half_marked view.names view.group (sender_host view state) p.source is.apart is.source (next_place p.session) can.sends next)
    refl refl refl refl
    (sent_there (sender_host view state) view.group _ _ ∙ ap (λ (n : ℕ). record (half_at (sender_host view state) view.group).sent { mark = n; entries = (half_at (sender_host view state) view.group).sent.entries ++ named_entry view.names a_mark ∷ [] }) seat))
move_kept view state p (Take place) stages h can is a =
    as_said view state _ stages _ a.is (source_moved view state _ _ _ p _ p.session _ is
    (moved_workers state view.sender _ state.workers _ (λ (w : Workers). with_worker w view.group a.worker (Some (named_message view.names (taken_message p place)))) (moved_one state view.sender (OfHalf view.group (Takes place))))
    (half_taken view.names view.group (sender_host view state) p.source is.apart is.source place)
    (λ on. sent_same view.names _ _ p.source _ p.session (sent_there (sender_host view state) view.group _ _) refl (is.sent on))
    (has_new view.names state.workers view.group a.worker (taken_message p place) p.messages is.workers))
move_kept view state p (Hold m) stages h can is a = target_does view state p _ _ stages is a (half_held view.names view.group (other_host view state) p.target is.apart is.target m) (sent_there (other_host view state) view.group _ _)
move_kept view state p (Apply m) stages h can is a =
    let r : Receives p.source p.target p.session = h.receives can.here in
    as_said view state _ stages _ a.is (target_moved view state _ _ state.workers p _ p.session p.messages is
    (moved_one state (other_of view.sender) (AtOnce a.own view.group (Applies (named_entry view.names m.entry))))
    (half_applied view.names view.group (other_host view state) p.target is.apart is.target m.entry a.own (fits_plain p.session.sets p.target.images m.entry (r.fits.each (m.place - 1) m.entry ((h.held.each can.held.at m can.held.there).entry (can.number ∙ r.number)))) can.here h.no_target (λ key on. r.here key ∙ sym (r.on key) ∙ on) a.makes)
    is.sent is.workers)
move_kept view state p (Reply m) stages h can is a =
    as_said view state _ stages _ a.is (source_moved view state _ _ _ p p.source p.session _ is
    (moved_workers state view.sender _ state.workers _ (λ (w : Workers). with_worker w view.group a.worker (Some (named_message view.names (answered m p.target.applied)))) (moved_none state view.sender))
    is.source is.sent
    (has_new view.names state.workers view.group a.worker (answered m p.target.applied) p.messages is.workers))
move_kept view state p (Free upto keys) stages h can is a = source_does view state p _ _ stages is a.is (λ on. on) (inl refl) (half_freed view.names view.group (sender_host view state) p.source is.apart is.source keys a.named a.same) (sent_there (sender_host view state) view.group _ _)
move_kept view state p (Know upto) stages h can is a =
    let sends : is_sending p.source ≡ true = told_sends p upto can.told in
    let sent : IsSentOf view.names (half_at (sender_host view state) view.group).sent p.source p.session = is.sent sends in
    as_said view state _ stages _ a (source_moved view state _ _ state.workers p _ p.session p.messages is
    (moved_one state view.sender (OfHalf view.group (Knows upto)))
    (half_known view.names view.group (sender_host view state) p.source is.apart is.source upto)
    (λ on. let there = sent_there (sender_host view state) view.group (seat_after (half_at (sender_host view state) view.group).seat (Knows upto)) (record (half_at (sender_host view state) view.group).sent { entries = drop (max (half_at (sender_host view state) view.group).seat.known upto - (half_at (sender_host view state) view.group).seat.known) (half_at (sender_host view state) view.group).sent.entries }) in record {
      mark = ap (λ (t : Sent). t.mark) there ∙ sent.mark;
      most = ap (λ (t : Sent). t.most) there ∙ sent.most;
      entries =
          ap (λ (t : Sent). t.entries) there
          ∙ ap (λ (seat : Seat). drop (max seat.known upto - seat.known) (half_at (sender_host view state) view.group).sent.entries) is.source.seat
          ∙ entries_known view.names p.source.known (max p.source.known upto) p.session.order _ (low_max p.source.known upto) sent.entries;
    })
    is.workers)
move_kept view state p Turn stages h can is a = source_does view state p _ _ stages is a (λ on. can.sends) (inl refl) (half_turned view.names view.group (sender_host view state) p.source is.apart is.source can.sends) (sent_there (sender_host view state) view.group _ _)
move_kept view state p GoOn stages h can is a = source_does view state p _ _ stages is a (λ on. can.sends) (inl refl) (half_goes_on view.names view.group (sender_host view state) p.source is.apart is.source can.sends) (sent_there (sender_host view state) view.group _ _)
move_kept view state p Weigh stages h can is a =
    let stands : Stands p.source p.session = h.stands can.sends in
    source_does view state p _ _ stages is a (λ on. can.sends) (inl refl)
    (half_weighed view.names view.group (sender_host view state) p.source is.apart is.source p.session.order (λ j e there. fits_plain p.session.sets p.source.images e (stands.fits.each (p.source.known + j) e (drop_get p.source.known p.session.order j e there))) can.sends (λ key on. stands.here key ∙ sym (stands.on key) ∙ on) (is.sent can.sends).entries)
    (sent_there (sender_host view state) view.group _ _)
move_kept view state p LeaveSource stages h can is a =
    as_said view state _ stages _ a (source_moved view state _ _ state.workers p _ p.session p.messages is
    (moved_one state view.sender (OfHalf view.group Leaves))
    (half_left view.names view.group (sender_host view state) p.source is.apart is.source (λ key on gone. away_sends p.source (h.source_here.away key on gone)))
    (λ on. absurd (sends_not (is_sending (left_sender p.source)) on (away_sends (left_sender p.source) refl)))
    is.workers)
move_kept view state p LeaveTarget stages h can is a = target_does view state p _ _ stages is a (half_left_receiver view.names view.group (other_host view state) p.target is.apart is.target h.no_target) (sent_there (other_host view state) view.group _ _)
move_kept view state p Queue stages h can is a = source_does view state p _ _ stages is a (λ on. can.sends) (inl refl) (half_queued view.names view.group (sender_host view state) p.source is.apart is.source can.sends) (sent_there (sender_host view state) view.group _ _)
move_kept view state p Forget stages h can is a = source_does view state p _ _ stages is a (λ on. on) (inr can) (half_forgot view.names view.group (sender_host view state) p.source is.apart is.source) (sent_there (sender_host view state) view.group _ _)
move_kept view state p (DrawSource number) stages h can is a =
    let away : is_sending p.source ≡ false = away_sends p.source can.away in
    source_does view state p _ _ stages is a (λ on. absurd (sends_not (is_sending (drawn p.source number)) on (away_sends (drawn p.source number) can.away))) (inr (away_sends (drawn p.source number) can.away))
    (half_drew view.names view.group (sender_host view state) p.source is.apart is.source number away) (sent_there (sender_host view state) view.group _ _)
move_kept view state p (DrawTarget number) stages h can is a = target_does view state p _ _ stages is a (half_drew view.names view.group (other_host view state) p.target is.apart is.target number h.no_target) (sent_there (other_host view state) view.group _ _)
move_kept view state p (Enter most) stages h can is a =
    entered view.group view.names view.sender (other_of view.sender) state p p.source p.target most stages p.session.number refl is.source is.target h.source_here.within h.target_here.within can is.apart is.workers a
move_kept view state p (EnterReversed most) stages h can is a =
    entered view.group view.names (other_of view.sender) view.sender state p p.target p.source most stages p.session.number (sym (other_twice view.sender)) is.target is.source h.target_here.within h.source_here.within can is.apart is.workers a
move_kept view state p Rejoin stages h can is a = target_does view state p _ _ stages is a (half_rejoined view.names view.group (other_host view state) p.target is.apart is.target h.no_target h.target_here.within) (sent_there (other_host view state) view.group _ _)
move_kept view state p (JoinSource set keys filled) stages h can is a =
    let away : is_sending p.source ≡ false = away_sends p.source can.away in
    source_made view state p _ stages is (λ on. on) (inr away) (made_join view state view.sender p.source set keys filled stages is.apart away is.source a)
move_kept view state p (JoinTarget set keys filled) stages h can is a = target_made view state p _ stages is (made_join view state (other_of view.sender) p.target set keys filled stages is.apart h.no_target is.target a)
move_kept view state p (MoveSource set there) stages h can is a =
    let away : is_sending p.source ≡ false = away_sends p.source can.away in
    source_made view state p _ stages is (λ on. on) (inr away) (made_move view state view.sender p.source set there stages is.apart away can.on is.source a)
move_kept view state p (MoveTarget set there) stages h can is a = target_made view state p _ stages is (made_move view state (other_of view.sender) p.target set there stages is.apart h.no_target can.on is.target a)
move_kept view state p (PartSource set) stages h can is a =
    let away : is_sending p.source ≡ false = away_sends p.source can in
    source_made view state p _ stages is (λ on. on) (inr away) (made_part view state view.sender p.source set stages is.apart away is.source a)
move_kept view state p (PartTarget set) stages h can is a = target_made view state p _ stages is (made_part view state (other_of view.sender) p.target set stages is.apart h.no_target is.target a)
move_kept view state p EndSource stages h can is a =
    as_said view state _ stages _ a (source_moved view state _ _ _ p _ _ [] is
    (moved_workers state view.sender _ state.workers _ (λ (w : Workers). without_workers w view.group) (moved_one state view.sender (OfHalf view.group Ends)))
    (half_ended view.names view.group (sender_host view state) p.source is.source can (away_sends p.source can))
    (λ on. absurd (sends_not true refl (sym on)))
    (has_none view.names state.workers view.group []))
move_kept view state p EndTarget stages h can is a =
    as_said view state _ stages _ a (target_moved view state _ _ _ p _ _ [] is
    (moved_workers state (other_of view.sender) _ state.workers _ (λ (w : Workers). without_workers w view.group) (moved_one state (other_of view.sender) (OfHalf view.group Ends)))
    (half_ended view.names view.group (other_host view state) p.target is.target can h.no_target)
    (λ on. subst (λ (s : Session). IsSentOf view.names (half_at (sender_host view state) view.group).sent p.source s) (sym (same_session p.session p.source.number (h.stands on).number)) (is.sent on))
    (has_none view.names state.workers view.group []))

-- ---- runs of them

pub moves_kept : (view : View) (state : MirrorState) (p : PairState) (ms : List Move) (stages : List PairStage) → IsReachedOf view state p → AllAllowed p ms → AreAllStages view state p ms stages → IsReachedOf (views_after view ms) (run in_pair state stages) (after_all p ms)
moves_kept view state p [] stages is can a = subst (λ (st : List PairStage). IsReachedOf view (run in_pair state st) p) (sym a) is
moves_kept view state p (m ∷ ms) stages is can a =
    let first : List PairStage = a.0 in
    let more : List PairStage = a.1 in
    let one : IsReachedOf (view_after view m) (run in_pair state first) (after p m) = record { is = move_kept view state p m first (reached_sound p is.reached) can.0 is.is a.2; reached = reached_more p (m ∷ []) is.reached (can.0, tt) } in
    let all : IsReachedOf (views_after view (m ∷ ms)) (run in_pair (run in_pair state first) more) (after_all p (m ∷ ms)) = moves_kept (view_after view m) (run in_pair state first) (after p m) ms more one can.1 a.3 in
    subst (λ (left : MirrorState). IsReachedOf (views_after view (m ∷ ms)) left (after_all p (m ∷ ms))) (sym (ap (run in_pair state) a.4 ∙ run-append in_pair state first more)) all
