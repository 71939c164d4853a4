-- A session that begins, or is resumed, keeps what holds of the two.
use Rattle.std.proofs.Common.{◌≡◌, ◌⊎◌, inl, inr, ℕ, ◌+◌, ◌/◌, ◌<◌, ◌≤◌, Bool, true, false, ◌&&◌, nat_eq, List, [], length, Some, slice_get, ◌∙◌, sym, refl, ap, subst, arith}
use Rattle.std.specs.Prelude.{nat_le, nat_lt, not}
use Rattle.std.proofs.lemmas.Bool.Decides.{nat_tests}
use Rattle.avs_model.specs.declared.entry.Entry.{Entry}
use Rattle.avs_mirrors.specs.Allowed.{CanEnter, CanRejoin}
use Rattle.avs_mirrors.specs.Due.{Due, both_due, has, is_zero}
use Rattle.avs_mirrors.specs.Entries.{Images, SameSize, after_entries, after_entry, between, block_in, is_mark, touches}
use Rattle.avs_mirrors.specs.Half.{HalfState, Queuing, Receiver, Sender, HalfRole, State, Sets, asked, begun, is_acting, is_marked, is_receiver, is_receiving, is_sender, is_sending, is_session, rejoined}
use Rattle.avs_mirrors.specs.Moves.{Enter, EnterReversed, Rejoin, after}
use Rattle.avs_mirrors.specs.Pair.{PairState, Session, new_session, on_both}
use Rattle.avs_pair.specs.Cover.{HasNoPlaces}
use Rattle.avs_pair.specs.Session.{AreFitting, HasMark, IsFitting}
use Rattle.avs_pair.proofs.Sound.{AreAnswered, IsBlockBehind, IsHere, IsOnce, IsPending, Keeps, Receives, SameOutside, SameOutsideBoth, Sends, Sound, Stands}
use Rattle.avs_pair.proofs.Images.{after_entries-push, once_more, same_after, size_after, size_after_all, size_sym, size_then, untouched}
use Rattle.avs_pair.proofs.Orders.{between_last, between_none}
use Rattle.avs_pair.proofs.Dues.{IsWithin, both_within_left, both_within_right, none_in_both, none_in_zeros}
use Rattle.avs_pair.proofs.Shared.{both_from, both_swapped, eq_cases, outside_begun}
use Rattle.avs_pair.proofs.Messages.{answered_when, faithful_begun, faithful_none}
use Rattle.avs_pair.proofs.Sources.{absent, both_on, left_on, mark_once, right_on}
use Rattle.avs_pair.proofs.Targets.{false_true, fitting_all}

-- at the mark the target has the images that the source had there
before_at : (y : HalfState) (s : Session) → s.mark ≤ y.applied → y.applied ≤ s.mark → (t i : ℕ) → IsBlockBehind y s t i
    → block_in (after_entries y.images (between y.applied s.mark s.order)) t i ≡ block_in s.candidate t i
unfolding after_entries
before_at y s reached low t i b =
    let at : s.mark ≡ y.applied = omega arith in
    ap (λ (es : List Entry). block_in (after_entries y.images es) t i) (ap (λ (k : ℕ). between y.applied k s.order) at ∙ between_none y.applied s.order)
    ∙ b
    ∙ ap (λ (es : List Entry). block_in (after_entries s.candidate es) t i) (ap (λ (k : ℕ). between k y.applied s.order) at ∙ between_none y.applied s.order)

other_set : (e : Entry) (t g : ℕ) → nat_eq t e.set ≡ false → touches e t g ≡ false
unfolding touches
other_set e t g off = grind (arith, nat_tests)

-- images that are those at the mark with what stands behind it up to a place: that place's entry changes nothing more
once_behind : (y : HalfState) (s : Session) → HasMark s → AreFitting s y.images → 0 < s.mark → s.mark ≤ y.applied
    → ((t : ℕ) → s.sets t ≡ true → SameSize s.candidate y.images t) → ((t i : ℕ) → s.sets t ≡ true → IsBlockBehind y s t i) → IsOnce y.images s.order y.applied
once_behind y s mark fits some reached sizes behind = record { each = λ j e is there set i. one j e is there set i (fits.each j e there) }
  where
    below_it : (j mark : ℕ) → nat_eq (j + 1) mark ≡ false → mark ≤ j + 1 → mark ≤ j
    below_it j mark off le = grind (arith, nat_tests)

    -- the entry's own set, or another one
    own : (n : ℕ) (e : Entry) → n + 1 ≡ y.applied → s.mark ≤ n → slice_get s.order n ≡ Some e → s.sets e.set ≡ true → (i : ℕ) → block_in (after_entry y.images e) e.set i ≡ block_in y.images e.set i
    own n e is low there on i =
        let folded : Images = after_entries s.candidate (between s.mark n s.order) in
        let ends : after_entries s.candidate (between s.mark y.applied s.order) ≡ after_entry folded e =
        ap (λ (k : ℕ). after_entries s.candidate (between s.mark k s.order)) (sym is)
        ∙ ap (λ (es : List Entry). after_entries s.candidate es) (between_last s.mark n s.order e low there)
        ∙ after_entries-push s.candidate (between s.mark n s.order) e in
        let same : block_in y.images e.set i ≡ block_in (after_entry folded e) e.set i = behind e.set i on ∙ ap (λ (l : Images). block_in l e.set i) ends in
        let size : SameSize y.images (after_entry folded e) e.set = size_then _ _ _ e.set (size_sym _ _ e.set (sizes e.set on)) (size_sym _ _ e.set (size_then _ _ _ e.set (size_after folded e e.set) (size_after_all s.candidate (between s.mark n s.order) e.set))) in
        same_after y.images (after_entry folded e) e e.set i size same ∙ once_more folded e e.set i ∙ sym same

    one : (j : ℕ) (e : Entry) → j + 1 ≡ y.applied → slice_get s.order j ≡ Some e → (set i : ℕ) → IsFitting s.sets y.images e → block_in (after_entry y.images e) set i ≡ block_in y.images set i
    one j e is there set i (inl a) = subst (λ (n : Entry). block_in (after_entry y.images n) set i ≡ block_in y.images set i) (sym a) (mark_once y.images set i)
    one j e is there set i (inr o) = elim (eq_cases set e.set) [
      | inl at ↦ subst (λ (n : ℕ). block_in (after_entry y.images e) n i ≡ block_in y.images n i) (sym at.1) (own j e is (low j (mark.alone j e there) is) there o.set_there i)
      | inr apart ↦ untouched y.images e set i (other_set e set (i / 64) apart.0)
    ]
      where
        low : (j : ℕ) → is_mark e.kind ≡ nat_eq (j + 1) s.mark → j + 1 ≡ y.applied → s.mark ≤ j
        low j at is = below_it j s.mark (sym at ∙ o.kind) (omega (arith, is, reached))

queuing_sends : (role : HalfRole) (state : State) → role ≡ Sender → state ≡ Queuing → ((is_sender role && is_session state) ≡ true) × (is_marked state ≡ true)
queuing_sends role state r q = (grind arith, grind arith)

pub keeps_rejoin : (p : PairState) → Sound p → CanRejoin p → Sound (after p Rejoin)
keeps_rejoin p h can =
    let x : HalfState = p.source in
    let y : HalfState = p.target in
    let s : Session = p.session in
    let z : HalfState = rejoined y in
    let on : ℕ → Bool = on_both x z in
    let is = queuing_sends x.role x.state can.sender can.queues in
    let b : Stands x s = h.stands is.0 in
    let q : Sends x y s = h.sends is.0 can.same in
    let number : y.number ≡ s.number = sym can.same ∙ b.number in
    let m = b.synced is.1 in
    let reached : s.mark ≤ y.applied = omega (arith, m.1, h.known b.some can.same) in
    let here : (t : ℕ) → y.here t ≡ s.sets t = λ t. sym (can.same_sets t) ∙ b.here t in
    let old : (t : ℕ) → on t ≡ true → on_both x y t ≡ true = λ t both. both_on (x.on t) (y.on t) (left_on (x.on t) (y.here t) both) (h.target_here.within t (right_on (x.on t) (y.here t) both)) in
    let both : (t : ℕ) → y.here t ≡ true → on_both x y t ≡ true = λ t there. both_on (x.on t) (y.on t) (b.on t ∙ sym (here t) ∙ there) (h.target_here.within t there) in
    let behind : (t i : ℕ) → y.here t ≡ true → IsBlockBehind y s t i = λ t i there. q.behind m.0 reached t i (both t there) (inr (can.none t (i / 64) there)) in
    let sizes : (t : ℕ) → on t ≡ true → SameSize y.images x.images t = λ t there. h.sizes t (old t there) in
    let covered : SameOutsideBoth on x.due y.due y.images x.images = record { each = λ t i there none gone. h.covered.each t i (old t there) none gone } in
    let fits : AreFitting s y.images = fitting_all s x.images y.images (λ t there. h.sizes t (both t (here t ∙ there))) b.fits in
    let size : (t : ℕ) → y.here t ≡ true → SameSize s.candidate y.images t = λ t there. size_then _ _ _ t (b.sizes m.0 t (left_on (x.on t) (y.on t) (both t there))) (size_sym _ _ t (h.sizes t (both t there))) in
    let no_target : is_sending z ≡ false = receiver_sends y.role can.role in
    let target_here : IsHere z.on z.here z.state = record { within = λ t there. there; away = λ t there gone. absent (y.here t) there gone } in
    let receives : is_receiving z ≡ true → Receives x z s = λ r. record {
      number = number;
      some = omega (arith, b.some, can.same);
      on = here;
      here = here;
      contents = λ t there. can.contents t (here t ∙ there);
      kept = λ t there. here t ∙ there;
      pending = record { each = λ j e t g there le is none. q.pending.each j e t g (left_on (x.on t) (y.here t) there) le is none };
      covered = record { each = λ t i there none. h.covered.each t i (old t there) none (can.none t (i / 64) (right_on (x.on t) (y.here t) there)) };
      before = record { each = λ some low t i there. before_at y s reached low t i (behind t i there) };
      reached = sym (both_reached s.mark y.applied m.0 reached);
      fits = fits;
      once = once_behind y s h.mark fits m.0 reached (λ t there. size t (here t ∙ there)) (λ t i there. behind t i (here t ∙ there));
    } in
    let sends : is_sending x ≡ true → x.number ≡ y.number → Sends x z s = λ a c. let o = h.sends a c in record {
      pending = o.pending;
      ahead = record { each = λ t i there none clean. o.ahead.each t i (old t there) none (inr (can.none t (i / 64) (right_on (x.on t) (y.here t) there))) };
      behind = λ some le t i there clean. behind t i (right_on (x.on t) (y.here t) there);
    } in
    let keeps : (t : ℕ) → y.here t ≡ true → y.number ≡ s.number → Keeps x z s t = λ t there n. record {
      size = λ some. size t there;
      behind = λ some le i. behind t i there;
      there = λ a. b.on t ∙ sym (here t) ∙ there;
      contents = can.contents t there ∙ sym (both_reached s.mark y.applied m.0 reached);
    } in
    let kept_on : (t : ℕ) → y.here t ≡ true → y.here t ≡ true = λ t there. there in
    let kept_some : (t : ℕ) → y.here t ≡ true → 0 < y.number = λ t there. omega (arith, b.some, can.same) in
    let held = faithful_none s y.number y.applied in
    let none_held : is_receiving z ≡ false → z.held ≡ [] = λ away. refl in
    assumption (no_target, target_here, sizes, covered, receives, sends, kept_on, kept_some, keeps, held, none_held, h)
  where
    receiver_sends : (role : HalfRole) → role ≡ Receiver → (is_sender role && true) ≡ false
    receiver_sends role is = grind arith

    both_reached : (mark n : ℕ) → 0 < mark → mark ≤ n → (nat_lt 0 mark && nat_le mark n) ≡ true
    both_reached mark n some le = grind (arith, nat_tests)

waits : (a b : Due) (t g : ℕ) → (true && is_zero (both_due a b t g)) ≡ false → has (both_due a b) t g ≡ false
waits a b t g none = grind arith

new_ahead : (on : Sets) (a b : Due) (images below : Images) → SameOutside on (both_due a b) below images → (t i : ℕ) → on t ≡ true → (true && is_zero (both_due a b t (i / 64))) ≡ false → block_in (after_entries below (between 0 0 [])) t i ≡ block_in images t i
unfolding after_entries
new_ahead on a b images below now t i here none = ap (λ (es : List Entry). block_in (after_entries below es) t i) (between_none 0 []) ∙ now.each t i here (waits a b t (i / 64) none)

-- a session begins: from the first half to the second
keeps_begun : (p : PairState) (a b : HalfState) (most : ℕ) → Sound p → IsHere a.on a.here a.state → IsHere b.on b.here b.state → ((t : ℕ) → on_both a b t ≡ true → SameSize b.images a.images t) → SameOutsideBoth (on_both a b) a.due b.due b.images a.images
    → CanEnter p.session.number a b → Sound (record p { source = begun a b; target = asked b a.number; session = new_session a.number a.here most })
keeps_begun p a b most h first second old_sizes old_both can =
    let x : HalfState = begun a b in
    let y : HalfState = asked b a.number in
    let s : Session = new_session a.number a.here most in
    let on : ℕ → Bool = on_both x y in
    let old : (t : ℕ) → on t ≡ true → on_both a b t ≡ true = λ t there. both_on (a.on t) (b.on t) (first.within t (left_on (a.here t) (b.here t) there)) (second.within t (right_on (a.here t) (b.here t) there)) in
    let sizes : (t : ℕ) → on t ≡ true → SameSize b.images a.images t = λ t there. old_sizes t (old t there) in
    let both : SameOutsideBoth on a.due b.due b.images a.images = record { each = λ t i there none gone. old_both.each t i (old t there) none gone } in
    let left : IsWithin a.due (both_due a.due b.due) = both_within_left a.due b.due in
    let right : IsWithin b.due (both_due a.due b.due) = both_within_right a.due b.due in
    let no_source : is_receiving x ≡ false = sender_receives a.role can.sender in
    let no_target : is_sending y ≡ false = refl in
    let source_here : IsHere x.on x.here x.state = record { within = λ t there. there; away = λ t there gone. absent (a.here t) there gone } in
    let target_here : IsHere y.on y.here y.state = record { within = λ t there. there; away = λ t there gone. absent (b.here t) there gone } in
    let newest : (s.number ≤ x.number) ⊎ (s.number ≤ y.number) = inl (omega arith) in
    let mark : HasMark s = record { low = omega arith; behind = λ some j e le is. absurd (omega (arith, some)); alone = λ j e is. absurd (cc) } in
    let applied : y.number ≡ s.number → y.applied ≤ length s.order = λ _. omega arith in
    let none_known : x.number ≡ 0 → x.known ≡ 0 = λ _. refl in
    let known : 0 < x.number → x.number ≡ y.number → x.known ≤ y.applied = λ _ _. omega arith in
    let now : SameOutside on x.due y.images x.images = outside_begun on a.due b.due b.images a.images left right both in
    let covered : SameOutsideBoth on x.due y.due y.images x.images = both_from on x.due y.due y.images x.images now in
    let source_away : is_sending x ≡ false → HasNoPlaces x.due = λ _. none_in_both a.due b.due in
    let target_away : HasNoPlaces y.due = none_in_zeros b.due in
    let pending : IsPending on x.due s.order y.applied = record { each = λ j e t g here le is none. absurd (cc) } in
    let none_applied : y.number ≡ 0 → y.applied ≡ 0 = λ _. refl in
    let fits : (images : Images) → AreFitting s images = λ images. record { each = λ j e is. absurd (cc) } in
    let once : (images : Images) → IsOnce images s.order 0 = λ images. record { each = λ j e is there set i. absurd (cc) } in
    let stands : is_sending x ≡ true → Stands x s = λ _. record {
      number = refl;
      some = omega (arith, can.above);
      counted = refl;
      reached = omega arith;
      taken = omega arith;
      on = λ t. refl;
      here = λ t. refl;
      contents = can.contents;
      freed = record { each = λ t g place is some. absurd (both_zero a.due b.due t g place is some) };
      synced = λ m. false_true m;
      sizes = λ some t here. absurd (omega (arith, some));
      fits = fits x.images;
      once = once x.images;
    } in
    let receives : is_receiving y ≡ true → Receives x y s = λ r. record {
      number = refl;
      some = omega (arith, can.above);
      on = λ t. sym (can.same_sets t);
      here = λ t. sym (can.same_sets t);
      contents = λ t there. emptied (b.here t) (b.contents t) (sym (can.same_sets t) ∙ there);
      kept = λ t there. sym (can.same_sets t) ∙ there;
      pending = pending;
      covered = now;
      before = record { each = λ some reached t i here. absurd (omega (arith, some)) };
      reached = refl;
      fits = fits y.images;
      once = once y.images;
    } in
    let sends : is_sending x ≡ true → x.number ≡ y.number → Sends x y s = λ p' q. record {
      pending = record { each = λ j e t g here le is none. absurd (cc) };
      ahead = record { each = λ t i here none clean. new_ahead on a.due b.due a.images b.images now t i here none };
      behind = λ some reached t i here clean. absurd (omega (arith, some));
    } in
    let keeps : (t : ℕ) → b.here t ≡ true → y.number ≡ s.number → Keeps x y s t = λ t there n. record {
      size = λ some. absurd (omega (arith, some));
      behind = λ some reached i. absurd (omega (arith, some));
      there = λ _. can.same_sets t ∙ there;
      contents = emptied (b.here t) (b.contents t) there;
    } in
    let messages = faithful_begun p.session s p.target.number p.target.applied 0 p.messages can.fresh h.messages in
    let kept_on : (t : ℕ) → b.here t ≡ true → b.here t ≡ true = λ t there. there in
    let kept_some : (t : ℕ) → b.here t ≡ true → 0 < y.number = λ t there. omega (arith, can.above) in
    let held = faithful_none s a.number 0 in
    let none_held : is_receiving y ≡ false → y.held ≡ [] = λ _. refl in
    let told : AreAnswered x.number y.number (is_acting x) p.messages = answered_when x.number y.number (is_acting x) p.messages (λ _. refl) in
    assumption (sizes, no_source, no_target, source_here, target_here, newest, mark, applied, none_applied, none_known, known, covered, source_away, target_away, stands, receives, sends, kept_on, kept_some, keeps, messages, held, none_held, told)
  where
    sender_receives : (role : HalfRole) → role ≡ Sender → (is_receiver role && true) ≡ false
    sender_receives role is = grind arith

    emptied : (here filled : Bool) → here ≡ true → (not here && filled) ≡ false
    emptied here filled is = grind arith

    both_zero : (a b : Due) (t g place : ℕ) → both_due a b t g ≡ Some place → 0 < place → ⊥
    both_zero a b t g place is some = grind arith

pub keeps_enter : (p : PairState) (most : ℕ) → Sound p → CanEnter p.session.number p.source p.target → Sound (after p (Enter most))
keeps_enter p most h can = keeps_begun p p.source p.target most h h.source_here h.target_here h.sizes h.covered can

swapped : (b c : Bool) → (b && c) ≡ true → (c && b) ≡ true
swapped b c on = grind arith

pub keeps_enter_reversed : (p : PairState) (most : ℕ) → Sound p → CanEnter p.session.number p.target p.source → Sound (after p (EnterReversed most))
keeps_enter_reversed p most h can = keeps_begun p p.target p.source most h h.target_here h.source_here
    (λ t here. size_sym _ _ t (h.sizes t (swapped (p.target.on t) (p.source.on t) here)))
    (both_swapped (on_both p.source p.target) (on_both p.target p.source) _ _ _ _ (λ t here. swapped (p.target.on t) (p.source.on t) here) h.covered) can
