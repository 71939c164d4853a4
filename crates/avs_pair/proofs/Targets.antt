-- Moves of the half that receives keep what holds of the two.
use Rattle.std.proofs.Common.{◌≡◌, ◌⊎◌, inl, inr, ℕ, ◌+◌, ◌-◌, ◌/◌, ◌<◌, ◌≤◌, Bool, true, false, ◌&&◌, nat_eq, cond, List, [], ◌∷◌, length, Some, slice_get, ◌∙◌, sym, refl, ap, subst, arith}
use Rattle.std.specs.Prelude.{nat_le, nat_lt, not, ◌||◌}
use Rattle.std.proofs.lemmas.Bool.Decides.{nat_tests}
use Rattle.std.proofs.lemmas.Bool.{cases_lt}
use Rattle.std.proofs.lemmas.Option.{slice_get_within, same_Some}
use Rattle.avs_seg.specs.Image.{Image, block_at}
use Rattle.avs_model.specs.declared.entry.Entry.{Entry}
use Rattle.avs_mirrors.specs.Allowed.{CanDraw, ChangesInside, IsHeldFrom, IsNext}
use Rattle.avs_mirrors.specs.Due.{Due, Keys, has, noted}
use Rattle.avs_mirrors.specs.Entries.{Images, SameSize, after_entries, after_entry, between, block_in, is_mark, touches}
use Rattle.avs_mirrors.specs.Half.{HalfState, Logging, Message, Replicating, HalfRole, State, Sets, applied_to, drawn, is_acting, is_marked, is_receiver, is_receiving, is_sender, is_sending, is_session, knows_mark, left_receiver, with_change, with_held, with_set}
use Rattle.avs_mirrors.specs.Moves.{Apply, ChangeTarget, DrawTarget, Hold, LeaveTarget, NoteTarget, Reply, after, answered}
use Rattle.avs_mirrors.specs.Pair.{PairState, Session, on_both}
use Rattle.avs_pair.specs.Cover.{HasNoPlaces}
use Rattle.avs_pair.specs.Messages.{AreFaithful, IsFaithful}
use Rattle.avs_pair.specs.Session.{AreFitting}
use Rattle.avs_pair.proofs.Sound.{AreAnswered, IsBefore, IsClean, IsHere, IsOnce, IsPending, Keeps, Receives, SameOutside, Sends, Sound}
use Rattle.avs_pair.proofs.Images.{after_entries-push, once_more, same_after, same_after_all, size_after, size_after_all, size_sym, size_then, untouched}
use Rattle.avs_pair.proofs.Orders.{between_first, between_last, between_none}
use Rattle.avs_pair.proofs.Dues.{IsWithin, none_in_left, none_in_noted, noted_within, pending_next, same_within}
use Rattle.avs_pair.proofs.Shared.{IsInsideDue, both_changed_target, both_from, both_more, changes_inside}
use Rattle.avs_pair.proofs.Messages.{answered_cons, answered_when, faithful_at, faithful_cons, faithful_drawn, faithful_filter, faithful_next, faithful_none}
use Rattle.avs_pair.proofs.Sources.{absent, fitting_same, right_on}
use Rattle.avs_pair.proofs.Knowing.{logging_away}

clean_less : (y : HalfState) (more : Due) (t g : ℕ) → IsWithin y.due more → IsClean (record y { due = more }) t g → IsClean y t g
clean_less y more t g within (inl r) = inl r
clean_less y more t g within (inr none) = inr (within.each t g none)

pub keeps_note_target : (p : PairState) (keys : Keys) → Sound p → Sound (after p (NoteTarget keys))
keeps_note_target p keys h =
    let x : HalfState = p.source in
    let y : HalfState = p.target in
    let s : Session = p.session in
    let more : Due = noted y.due keys in
    let z : HalfState = record y { due = more } in
    let within : IsWithin y.due more = noted_within y.due keys in
    let covered = both_more (on_both x y) x.due y.due x.due more y.images x.images (same_within x.due) within h.covered in
    let target_away : HasNoPlaces more = none_in_noted y.due keys h.target_away in
    let receives : is_receiving y ≡ true → Receives x z s = λ r. let o = h.receives r in let before : IsBefore z s = record { each = o.before.each } in assumption (before, o) in
    let sends : is_sending x ≡ true → x.number ≡ y.number → Sends x z s = λ a b. let o = h.sends a b in record {
      pending = o.pending;
      ahead = record { each = λ t i here none clean. o.ahead.each t i here none (clean_less y more t (i / 64) within clean) };
      behind = λ some reached t i here clean. o.behind some reached t i here (clean_less y more t (i / 64) within clean);
    } in
    let keeps : (t : ℕ) → y.kept t ≡ true → y.number ≡ s.number → Keeps x z s t = λ t k n. assumption (h.keeps t k n) in
    assumption (covered, target_away, receives, sends, keeps, h)

-- a target that does not receive is clean where it has no bits
pub clean_away : (y : HalfState) (t g : ℕ) → is_receiving y ≡ false → IsClean y t g → has y.due t g ≡ false
clean_away y t g away (inl r) = absent (is_receiving y) r away
clean_away y t g away (inr none) = none

pub false_true : {A : Type 0} → false ≡ true → A
false_true is = absurd (cc)

-- of sets without one, those that are left
pub without_set : (sets : Sets) (set t : ℕ) → with_set sets set false t ≡ true → (nat_eq t set ≡ false) × (sets t ≡ true)
without_set sets set t is = by_test (nat_eq t set) is
  where
    by_test : (b : Bool) → cond b false (sets t) ≡ true → (b ≡ false) × (sets t ≡ true)
    by_test true on = false_true on
    by_test false on = (refl, on)

pub keeps_change_target : (p : PairState) (set : ℕ) (image : Image) → Sound p → is_receiving p.target ≡ false → ChangesInside p.target set image → Sound (after p (ChangeTarget set image))
keeps_change_target p set image h away can =
    let x : HalfState = p.source in
    let y : HalfState = p.target in
    let s : Session = p.session in
    let z : HalfState = with_change y set image in
    let c : IsInsideDue y.on y.due y.images z.images = changes_inside y set image can in
    let on : ℕ → Bool = on_both x y in
    let sub : (t : ℕ) → on t ≡ true → y.on t ≡ true = λ t both. right_on (x.on t) (y.on t) both in
    let sizes : (t : ℕ) → on t ≡ true → SameSize z.images x.images t = λ t both. size_then _ _ _ t (c.sizes t (sub t both)) (h.sizes t both) in
    let covered = both_changed_target y.on on x.due y.due y.images x.images z.images sub c h.covered in
    let receives : is_receiving y ≡ true → Receives x z s = λ r. absent (is_receiving y) r away in
    let sends : is_sending x ≡ true → x.number ≡ y.number → Sends x z s = λ a b. let o = h.sends a b in record {
      pending = o.pending;
      ahead = record {
        each = λ t i here none clean.
            same_after_all z.images y.images _ t i (c.sizes t (sub t here)) (c.outside t i (sub t here) (clean_away y t (i / 64) away clean)) ∙ o.ahead.each t i here none clean;
      };
      behind = λ some reached t i here clean. c.outside t i (sub t here) (clean_away y t (i / 64) away clean) ∙ o.behind some reached t i here clean;
    } in
    let keeps : (t : ℕ) → z.kept t ≡ true → y.number ≡ s.number → Keeps x z s t = λ t k n. let w = without_set y.kept set t k in let o = h.keeps t w.1 n in
    let same : z.images t ≡ y.images t = ap (λ (b : Bool). cond b image (y.images t)) w.0 in record {
      size = λ some. record { len = (o.size some).len ∙ ap (λ (img : Image). length img) (sym same) };
      behind = λ some reached i. ap (λ (img : Image). block_at img i) same ∙ o.behind some reached i;
      there = o.there;
      contents = ap (λ (b : Bool). cond b true (y.contents t)) w.0 ∙ o.contents;
    } in
    let kept_on : (t : ℕ) → z.kept t ≡ true → y.on t ≡ true = λ t k. h.kept_on t (without_set y.kept set t k).1 in
    let kept_some : (t : ℕ) → z.kept t ≡ true → 0 < y.number = λ t k. h.kept_some t (without_set y.kept set t k).1 in
    assumption (sizes, covered, receives, sends, kept_on, kept_some, keeps, h)

pub keeps_hold : (p : PairState) (m : Message) → Sound p → IsHeldFrom p m → Sound (after p (Hold m))
keeps_hold p m h from =
    let x : HalfState = p.source in
    let y : HalfState = p.target in
    let s : Session = p.session in
    let z : HalfState = with_held y m in
    let held = faithful_cons s y.number y.applied m y.held (faithful_at s y.number y.applied p.messages m from.among h.messages) h.held in
    let none_held : is_receiving y ≡ false → m ∷ y.held ≡ [] = λ away. absent (is_receiving y) from.here away in
    let receives : is_receiving y ≡ true → Receives x z s = λ r. let o = h.receives r in let before : IsBefore z s = record { each = o.before.each } in assumption (before, o) in
    let sends : is_sending x ≡ true → x.number ≡ y.number → Sends x z s = λ a b. let o = h.sends a b in record {
      pending = o.pending;
      ahead = record { each = o.ahead.each };
      behind = o.behind;
    } in
    let keeps : (t : ℕ) → y.kept t ≡ true → y.number ≡ s.number → Keeps x z s t = λ t k n. assumption (h.keeps t k n) in
    assumption (held, none_held, receives, sends, keeps, h)

pub keeps_reply : (p : PairState) (m : Message) → Sound p → IsHeldFrom p m → Sound (after p (Reply m))
keeps_reply p m h from =
    let f : IsFaithful p.session p.target.number p.target.applied m = faithful_at p.session p.target.number p.target.applied p.messages m from.among h.messages in
    let g : IsFaithful p.session p.target.number p.target.applied (answered m p.target.applied) = record {
      old = f.old;
      some = f.some;
      entry = f.entry;
      told = λ n is same. reached n (same_Some p.target.applied n is);
    } in
    let messages = faithful_cons p.session p.target.number p.target.applied (answered m p.target.applied) p.messages g h.messages in
    let told = answered_cons p.source.number p.target.number (is_acting p.source) (answered m p.target.applied) p.messages (λ n is same on. sym same ∙ from.number) h.answered in
    assumption (messages, told, h)
  where
    reached : (n : ℕ) → p.target.applied ≡ n → n ≤ p.target.applied
    reached n is = omega arith

no_sender : (role : HalfRole) (state other : State) → (is_receiver role && is_session state) ≡ true → (is_sender role && is_session other) ≡ false
no_sender role state other r = grind arith

-- what is to come begins with this entry
ahead_next : (y : HalfState) (s : Session) (e : Entry) → slice_get s.order y.applied ≡ Some e → y.applied < length s.order → (t i : ℕ)
    → block_in (after_entries (after_entry y.images e) (between (y.applied + 1) (length s.order) s.order)) t i ≡ block_in (after_entries y.images (between y.applied (length s.order) s.order)) t i
unfolding after_entries
ahead_next y s e there within t i = sym (ap (λ (es : List Entry). block_in (after_entries y.images es) t i) (between_first y.applied (length s.order) s.order e within there))

before_next : (y : HalfState) (s : Session) (e : Entry) → slice_get s.order y.applied ≡ Some e → IsBefore y s → 0 < s.mark → y.applied + 1 ≤ s.mark → (t i : ℕ) → y.on t ≡ true
    → block_in (after_entries (after_entry y.images e) (between (y.applied + 1) s.mark s.order)) t i ≡ block_in s.candidate t i
unfolding after_entries
before_next y s e there b some reached t i here =
    sym (ap (λ (es : List Entry). block_in (after_entries y.images es) t i) (between_first y.applied s.mark s.order e (omega arith) there)) ∙ b.each some (omega arith) t i here

behind_next : (x y : HalfState) (s : Session) (e : Entry) (t : ℕ) → y.on t ≡ true → slice_get s.order y.applied ≡ Some e → IsBefore y s → Keeps x y s t → 0 < s.mark → s.mark ≤ y.applied + 1 → (i : ℕ)
    → block_in (after_entry y.images e) t i ≡ block_in (after_entries s.candidate (between s.mark (y.applied + 1) s.order)) t i
unfolding after_entries
behind_next x y s e t here there b k some reached i = elim (cases_lt y.applied s.mark) [
  | inl low ↦
      let at : s.mark ≡ y.applied + 1 = omega arith in
      ap (λ (es : List Entry). block_in (after_entries (after_entry y.images e) es) t i) (sym (ap (λ (n : ℕ). between (y.applied + 1) n s.order) at ∙ between_none (y.applied + 1) s.order))
      ∙ before_next y s e there b some (omega arith) t i here
      ∙ sym (ap (λ (es : List Entry). block_in (after_entries s.candidate es) t i) (ap (λ (n : ℕ). between n (y.applied + 1) s.order) at ∙ between_none (y.applied + 1) s.order))
  | inr high ↦
      same_after y.images (after_entries s.candidate (between s.mark y.applied s.order)) e t i
      (size_then _ _ _ t (size_sym _ _ t (k.size some)) (size_sym _ _ t (size_after_all s.candidate (between s.mark y.applied s.order) t))) (k.behind some high i)
      ∙ sym (ap (λ (l : Images). block_in l t i) (after_entries-push s.candidate (between s.mark y.applied s.order) e))
      ∙ sym (ap (λ (es : List Entry). block_in (after_entries s.candidate es) t i) (between_last s.mark y.applied s.order e high there))
]

-- it is replicating from the mark on, and has contents
reached_next : (c : Bool) (state : State) (mark n : ℕ) → c ≡ nat_eq (n + 1) mark → is_marked state ≡ (nat_lt 0 mark && nat_le mark n) → is_marked (cond c Replicating state) ≡ (nat_lt 0 mark && nat_le mark (n + 1))
reached_next true state mark n is was = grind (arith, nat_tests)
reached_next false state mark n is was = was ∙ other mark n (sym is)
  where
    other : (mark n : ℕ) → nat_eq (n + 1) mark ≡ false → (nat_lt 0 mark && nat_le mark n) ≡ (nat_lt 0 mark && nat_le mark (n + 1))
    other mark n off = grind (arith, nat_tests)

contents_next : (c on filled : Bool) (state : State) → on ≡ true → filled ≡ is_marked state → ((c && on) || filled) ≡ is_marked (cond c Replicating state)
contents_next true on filled state is was = grind arith
contents_next false on filled state is was = was

-- entries stay inside volumes of the same size
pub fitting_all : (s : Session) (a b : Images) → ((t : ℕ) → s.sets t ≡ true → SameSize b a t) → AreFitting s a → AreFitting s b
fitting_all s a b sizes f = record { each = λ j e there. fitting_same s.sets a b e (sizes e.set) (f.each j e there) }

-- the entry that was applied last is applied
once_applied : (images : Images) (order : List Entry) (n : ℕ) (e : Entry) → slice_get order n ≡ Some e → IsOnce (after_entry images e) order (n + 1)
once_applied images order n e there = record { each = λ j f is at set i. subst (λ (g : Entry). block_in (after_entry (after_entry images e) g) set i ≡ block_in (after_entry images e) set i) (same_Some e f (sym there ∙ subst (λ (k : ℕ). slice_get order k ≡ Some f) (place j is) at)) (once_more images e set i) }
  where
    place : (j : ℕ) → j + 1 ≡ n + 1 → j ≡ n
    place j is = omega arith

outside_applied : (on : Sets) (due : Due) (a b : Images) (e : Entry) → ((t g : ℕ) → on t ≡ true → has due t g ≡ false → touches e t g ≡ false) → SameOutside on due a b → SameOutside on due (after_entry a e) b
outside_applied on due a b e apart s = record { each = λ t i here none. untouched a e t i (apart t (i / 64) here none) ∙ s.each t i here none }

still : (role : HalfRole) (state : State) (c : Bool) → (is_receiver role && is_session state) ≡ true → (is_receiver role && is_session (cond c Replicating state)) ≡ true
still role state c r = grind arith

-- the next place is applied: the entry at that place in the session
pub keeps_apply : (p : PairState) (m : Message) → Sound p → IsNext m p.target → Sound (after p (Apply m))
keeps_apply p m h next =
    let x : HalfState = p.source in
    let y : HalfState = p.target in
    let s : Session = p.session in
    let e : Entry = m.entry in
    let z : HalfState = applied_to y e in
    let on : ℕ → Bool = on_both x y in
    let o : Receives x y s = h.receives next.here in
    let kept : (t : ℕ) → y.on t ≡ true → Keeps x y s t = λ t here. h.keeps t (o.kept t (sym (o.on t) ∙ here)) o.number in
    let f : IsFaithful s y.number y.applied m = faithful_at s y.number y.applied y.held m next.held h.held in
    let place : m.place - 1 ≡ y.applied = omega (arith, next.place) in
    let there : slice_get s.order y.applied ≡ Some e = subst (λ (n : ℕ). slice_get s.order n ≡ Some e) place (f.entry (next.number ∙ o.number)) in
    let within : y.applied < length s.order = slice_get_within s.order y.applied e there in
    let grown : (t : ℕ) → SameSize z.images y.images t = λ t. size_after y.images e t in
    let sizes : (t : ℕ) → on t ≡ true → SameSize z.images x.images t = λ t both. size_then _ _ _ t (grown t) (h.sizes t both) in
    let no_target : is_sending z ≡ false = no_sender y.role y.state z.state next.here in
    let target_here : IsHere y.on y.here z.state = record { within = h.target_here.within; away = λ t on gone. absent (y.on t) on (o.on t ∙ sym (o.here t) ∙ gone) } in
    let applied : y.number ≡ s.number → y.applied + 1 ≤ length s.order = λ same. omega (arith, within) in
    let known : 0 < x.number → x.number ≡ y.number → x.known ≤ y.applied + 1 = λ some same. omega (arith, h.known some same) in
    let none_applied : y.number ≡ 0 → y.applied + 1 ≡ 0 = λ is. absurd (omega (arith, is, o.some)) in
    let apart : (t g : ℕ) → on t ≡ true → has x.due t g ≡ false → touches e t g ≡ false = λ t g here none. o.pending.each y.applied e t g here (omega arith) there none in
    let now : SameOutside on x.due z.images x.images = outside_applied on x.due y.images x.images e apart o.covered in
    let covered = both_from on x.due z.due z.images x.images now in
    let target_away : HasNoPlaces z.due = none_in_left (is_mark e.kind) y.due h.target_away in
    let reached : is_marked z.state ≡ knows_mark s.mark z.applied = reached_next (is_mark e.kind) y.state s.mark y.applied (h.mark.alone y.applied e there) o.reached in
    let contents : (t : ℕ) → s.sets t ≡ true → z.contents t ≡ is_marked z.state = λ t is. contents_next (is_mark e.kind) (y.on t) (y.contents t) y.state (o.on t ∙ is) (o.contents t is) in
    let receives : is_receiving z ≡ true → Receives x z s = λ r.
    let pending : IsPending on x.due s.order z.applied = pending_next on x.due s.order y.applied (y.applied + 1) (omega arith) o.pending in
    let before : IsBefore z s = record { each = λ some reached t i here. before_next y s e there o.before some reached t i here } in
    let fits : AreFitting s z.images = fitting_all s y.images z.images (λ t _. grown t) o.fits in
    let once : IsOnce z.images s.order z.applied = once_applied y.images s.order y.applied e there in
    assumption (now, pending, before, reached, contents, fits, once, o) in
    let sends : is_sending x ≡ true → x.number ≡ y.number → Sends x z s = λ a b. let q = h.sends a b in record {
      pending = pending_next x.on x.due s.order y.applied (y.applied + 1) (omega arith) q.pending;
      ahead = record { each = λ t i here none clean. ahead_next y s e there within t i ∙ q.ahead.each t i here none (inl next.here) };
      behind = λ some reached t i here clean. behind_next x y s e t (right_on (x.on t) (y.on t) here) there o.before (kept t (right_on (x.on t) (y.on t) here)) some reached i;
    } in
    let keeps : (t : ℕ) → y.kept t ≡ true → y.number ≡ s.number → Keeps x z s t = λ t c n. let k = h.keeps t c n in record {
      size = λ some. size_then _ _ _ t (k.size some) (size_sym _ _ t (grown t));
      behind = λ some reached i. behind_next x y s e t (h.kept_on t c) there o.before k some reached i;
      there = k.there;
      contents = contents t (sym (o.on t) ∙ h.kept_on t c) ∙ reached;
    } in
    let messages = faithful_next s y.number y.applied (y.applied + 1) p.messages (omega arith) h.messages in
    let held : AreFaithful s y.number z.applied z.held = faithful_filter s y.number (y.applied + 1) (λ (k : Message). not (nat_eq k.place (y.applied + 1))) y.held (faithful_next s y.number y.applied (y.applied + 1) y.held (omega arith) h.held) in
    let none_held : is_receiving z ≡ false → z.held ≡ [] = λ away. absent (is_receiving z) (still y.role y.state (is_mark e.kind) next.here) away in
    assumption (sizes, no_target, target_here, applied, none_applied, known, covered, target_away, receives, sends, keeps, messages, held, none_held, h)

off : (b : Bool) → (b && false) ≡ false
off b = grind arith

pub keeps_leave_target : (p : PairState) → Sound p → Sound (after p LeaveTarget)
keeps_leave_target p h =
    let x : HalfState = p.source in
    let s : Session = p.session in
    let y : HalfState = p.target in
    let z : HalfState = left_receiver y in
    let no_target : is_sending z ≡ false = off (is_sender y.role) in
    let away : is_receiving z ≡ false = off (is_receiver y.role) in
    let target_here : IsHere y.on y.here Logging = record { within = h.target_here.within; away = λ t on gone. refl } in
    let receives : is_receiving z ≡ true → Receives x z s = λ r. absent (is_receiving z) r away in
    let sends : is_sending x ≡ true → x.number ≡ y.number → Sends x z s = λ a b. let o = h.sends a b in record {
      pending = o.pending;
      ahead = record { each = λ t i here none clean. o.ahead.each t i here none (inr (clean_away z t (i / 64) away clean)) };
      behind = λ some reached t i here clean. o.behind some reached t i here (inr (clean_away z t (i / 64) away clean));
    } in
    let keeps : (t : ℕ) → y.kept t ≡ true → y.number ≡ s.number → Keeps x z s t = λ t k n. assumption (h.keeps t k n) in
    let held = faithful_none s y.number y.applied in
    let none_held : is_receiving z ≡ false → z.held ≡ [] = λ away. refl in
    assumption (no_target, target_here, receives, sends, keeps, held, none_held, h)

-- a number above both is no session's yet
above_newest : (p : PairState) (h : HalfState) (number : ℕ) → Sound p → CanDraw p h number → p.session.number < number
above_newest p x number h can = elim h.newest [ inl le ↦ omega (arith, can.above_source) | inr le ↦ omega (arith, can.above_target) ]

pub keeps_draw_target : (p : PairState) (number : ℕ) → Sound p → is_acting p.source ≡ false → CanDraw p p.target number → Sound (after p (DrawTarget number))
keeps_draw_target p number h idle can =
    let x : HalfState = p.source in
    let y : HalfState = p.target in
    let s : Session = p.session in
    let z : HalfState = drawn y number in
    let above : s.number < number = above_newest p y number h can in
    let no_target : is_sending z ≡ false = logging_away true y.state can.away in
    let newest : (s.number ≤ x.number) ⊎ (s.number ≤ number) = inr (omega arith) in
    let applied : number ≡ s.number → 0 ≤ length s.order = λ same. omega arith in
    let none_applied : number ≡ 0 → z.applied ≡ 0 = λ is. refl in
    let known : 0 < x.number → x.number ≡ number → x.known ≤ 0 = λ some same. absurd (omega (arith, same, can.above_source)) in
    let receives : is_receiving z ≡ true → Receives x z s = λ r. absent (is_receiving z) r refl in
    let sends : is_sending x ≡ true → x.number ≡ number → Sends x z s = λ a same. absurd (omega (arith, same, can.above_source)) in
    let kept_on : (t : ℕ) → false ≡ true → y.on t ≡ true = λ t k. false_true k in
    let kept_some : (t : ℕ) → false ≡ true → 0 < number = λ t k. false_true k in
    let keeps : (t : ℕ) → false ≡ true → number ≡ s.number → Keeps x z s t = λ t k same. false_true k in
    let messages = faithful_drawn s y.number number y.applied 0 p.messages above h.messages in
    let held = faithful_none s number 0 in
    let none_held : is_receiving z ≡ false → z.held ≡ [] = λ _. refl in
    let told : AreAnswered x.number number (is_acting x) p.messages = answered_when x.number number (is_acting x) p.messages (λ on. absent (is_acting x) on idle) in
    assumption (no_target, newest, applied, none_applied, known, receives, sends, kept_on, kept_some, keeps, messages, held, none_held, told, h)
