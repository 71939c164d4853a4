-- A sender leaves by one note.
use Rattle.std.proofs.Common.{◌≡◌, ◌⊎◌, inl, inr, ℕ, ◌≤◌, ◌^◌, Bool, true, false, List, cond, Result, Ok, Err, None, Some, ◌∙◌, sym, refl, ap, subst, arith}
use Rattle.std.proofs.Math.Path.{fun_ext}
use Rattle.std.specs.Prelude.{nat_le}
use Rattle.avs_dev.specs.Below.{BelowSeen}
use Rattle.avs_dev.proofs.Going.{lasts_same, spared_same}
use Rattle.avs_refs.specs.Places.{greatest_at}
use Rattle.avs_mqueue.specs.Queue.{Queue}
use Rattle.avs_model.specs.declared.half.State.{State}
use Rattle.avs_model.specs.declared.half.State.TheVariants.{Logging, Syncing, Receiving, Replicating, Queuing}
use Rattle.avs_mirrors.specs.Half.{is_session, left_sender}
use Rattle.avs_sync.specs.Note.{IsNote, NoteKeeps, note_at}
use Rattle.avs_sync.specs.declared.note.Note.{Note}
use Rattle.avs_halves.specs.SetBits.{has_bit, set_at}
use Rattle.avs_halves.specs.Writing.{PutsNote}
use Rattle.avs_halves.specs.Over.{IsOver}
use Rattle.avs_halves.specs.Found.{stored_bytes}
use Rattle.avs_halves.proofs.Staying.{below_noted, below_same, may_leave, over_sizes, told_note}
use Rattle.avs_sender.specs.Held.{SenderHalf, SenderHeld, SenderOf, SenderParts, held, parts_of, seen_of}
use Rattle.avs_sender.specs.Kept.{IsKept}
use Rattle.avs_sender.specs.Meaning.{IsSenderInStep, due_of, places_at, waits, sender_of, found_again, found_by, found_of}
use Rattle.avs_sender.specs.Going.{SenderStays, NoneFailed}
use Rattle.avs_sender.specs.Leaving.{Leaves, half_left, left_note, known_mark}
use Rattle.avs_sender.proofs.Meanings.{again_is, bits_due, found_is, same_images, zeros_are}

-- ---- a call that does nothing

pub stays_same : (sound : Type 0) (h : SenderHeld) → SenderStays sound h h
stays_same sound h = record {
  host = refl;
  land = refl;
  limits = refl;
  count = refl;
  sets = λ set. record { vol = refl; slot = refl; segs = refl; disk = lasts_same (set_at h.half.sets set).bits.disk };
  below = below_same sound h.below;
}

pub none_failed : (h : SenderHeld) → NoneFailed h h
none_failed h = record { faults = refl; armed = refl; sets = λ set. spared_same (set_at h.half.sets set).bits.disk }

pub logging_is : (s : State) → is_session s ≡ false → s ≡ Logging
logging_is Logging off = refl
logging_is Syncing off = cc
logging_is Receiving off = cc
logging_is Replicating off = cc
logging_is Queuing off = cc

no_session : (s : State) → is_session s ≡ true → s ≡ Logging → ⊥
no_session Logging on is = absurd (cc)
no_session Syncing on is = absurd (cc)
no_session Receiving on is = absurd (cc)
no_session Replicating on is = absurd (cc)
no_session Queuing on is = absurd (cc)

never : (b : Bool) → b ≡ false → b ≡ true → ⊥
never b off on = cc

-- a half in logging has left
left_already : (below : BelowSeen) (h : SenderHalf) → h.session.state ≡ Logging → sender_of (held below h) ≡ left_sender (sender_of (held below h))
left_already below h logging = λ i. record (sender_of (held below h)) { state = logging i; due = (due ∙ sym (zeros_are h)) i }
  where
    due : due_of h ≡ bits_due h.sets
    due = fun_ext (λ set. fun_ext (λ seg. ap (λ (s : State). cond (has_bit (set_at h.sets set) seg) (Some (cond (is_session s) (cond (waits h.session (places_at h set) seg) 0 (greatest_at (places_at h set).touched seg)) 0)) None) logging))

pub leaves_nothing : {T E : Type 0} (sound : Type 0) (below : BelowSeen) (h : SenderHalf) (u : T) → is_session h.session.state ≡ false → Leaves {E = E} sound sound (held below h) (Ok u) (held below h)
leaves_nothing sound below h u off = record {
  stays = stays_same sound (held below h);
  spared = none_failed (held below h);
  failed = tt;
  done = λ s. left_already below h (logging_is h.session.state off);
  half = record { session = λ i. record h.session { state = logging_is h.session.state off i }; note = λ on. absurd (never (is_session h.session.state) off on) };
  step = λ st. st;
  stopped = λ st. tt;
  idle = λ is. record { answer = refl; kept = refl };
}

-- ---- by a note

left_done : (below new : BelowSeen) (h : SenderHalf) (mark : ℕ) (q : Queue) → new.images ≡ below.images → sender_of (held new (half_left h mark q)) ≡ left_sender (sender_of (held below h))
left_done below new h mark q images = λ i. record (left_sender (sender_of (held below h))) { images = same_images h.sets new.images below.images images i; due = sym (zeros_are h) i }

pub leaves_ok : {T E : Type 0} (sound sound_new : Type 0) (below new : BelowSeen) (h : SenderHalf) (q : Queue) (u : T) → is_session h.session.state ≡ true → q.limits ≡ h.queue.limits
    → PutsNote {E = E} sound below (record h.note { state = Logging; mark = known_mark h.session }) (Ok u) new → (sound → sound_new)
    → Leaves {E = E} sound sound_new (held below h) (Ok u) (held new (half_left h (known_mark h.session) q))
leaves_ok sound sound_new below new h q u on limits p sounds = record {
  stays = record {
    host = refl;
    land = refl;
    limits = limits;
    count = refl;
    sets = λ set. record { vol = refl; slot = refl; segs = refl; disk = lasts_same (set_at h.sets set).bits.disk };
    below = below_noted sound below new p.bytes (Ok u) p.sets;
  };
  spared = record { faults = p.sets.cause.same; armed = p.sets.still_armed; sets = λ set. spared_same (set_at h.sets set).bits.disk };
  failed = tt;
  done = λ s. left_done below new h (known_mark h.session) q (p.sets.images s);
  half = record { session = refl; note = λ is. refl };
  step = λ st. record {
    sound = sounds st.sound;
    stored = p.sets.stored (told_note below below.note st.stored) ∙ ap Some (sym p.sets.done);
    note = subst (λ (bytes : List ℕ). IsNote bytes (record h.note { state = Logging; mark = known_mark h.session })) (sym p.sets.done) p.is;
    volumes = λ set there. (below_noted sound below new p.bytes (Ok u) p.sets).told st.sound (set_at h.sets set).vol (st.volumes set there);
    bits = st.bits;
  };
  stopped = λ st. tt;
  idle = λ is. absurd (no_session h.session.state on is);
}

-- where that fails, the note is the old or the new one
pub leaves_err : {T E : Type 0} (sound sound_new : Type 0) (below new : BelowSeen) (h : SenderHalf) (mark : ℕ) (e : E) → is_session h.session.state ≡ true → h.session.number ≡ h.note.session → IsOver below h.sets
    → PutsNote {T = T} sound below (record h.note { state = Logging; mark = mark }) (Err e) new
    → Leaves {T = T} sound sound_new (held below h) (Err e) (held new h)
leaves_err sound sound_new below new h mark e on number over p = record {
  stays = record {
    host = refl;
    land = refl;
    limits = refl;
    count = refl;
    sets = λ set. record { vol = refl; slot = refl; segs = refl; disk = lasts_same (set_at h.sets set).bits.disk };
    below = below_noted sound below new p.bytes (Err e) p.sets;
  };
  spared = tt;
  failed = record { failed = record { rose = p.sets.cause.failed; spent = p.sets.spent }; sets = λ set. spared_same (set_at h.sets set).bits.disk };
  done = λ s. tt;
  half = tt;
  step = λ st. tt;
  stopped = λ st. stopped st (p.sets.left (told_note below below.note st.stored));
  idle = λ is. absurd (no_session h.session.state on is);
}
  where
    by : IsSenderInStep sound (held below h) → (n : Note) → n.session ≡ h.note.session → n.role ≡ h.note.role → n.empty ≡ h.note.empty → note_at (stored_bytes new) ≡ n → found_again (parts_of (held new h)) ≡ found_of (sender_of (held below h))
    by st n session role empty is = ap (λ (m : Note). found_by m (parts_of (held new h))) is ∙ found_is below new h n (session ∙ sym number) role empty (p.sets.images st.sound) st.bits (over_sizes below new h.sets p.sets.sizes over)

    stopped : IsSenderInStep sound (held below h) → (new.stored ≡ below.stored) ⊎ (new.stored ≡ Some p.bytes) → found_again (parts_of (held new h)) ≡ found_of (sender_of (held below h))
    stopped st (inl same) = by st h.note refl refl refl (again_is new below.note h.note (same ∙ st.stored) st.note)
    stopped st (inr put) = by st (record h.note { state = Logging; mark = mark }) refl refl refl (again_is new p.bytes (record h.note { state = Logging; mark = mark }) put p.is)

-- a half in step is found as having left
pub found_left : (sound : Type 0) (below : BelowSeen) (h : SenderHalf) → h.session.number ≡ h.note.session → IsOver below h.sets → IsSenderInStep sound (held below h) → found_again (parts_of (held below h)) ≡ found_of (sender_of (held below h))
found_left sound below h number over st =
    ap (λ (m : Note). found_by m (parts_of (held below h))) (again_is below below.note h.note st.stored st.note)
    ∙ found_is below below h h.note (sym number) refl refl refl st.bits over

-- the parts of a sender in step are those of a half that has left
pub found_parts : {B : Type 0} (seen : B → BelowSeen) (sound : B → Type 0) (below : B) (inside h : SenderHalf) (s : SenderOf B) (p : SenderParts) → inside ≡ h → record { below = below; half = h } ≡ s → IsKept inside → IsOver (seen below) h.sets
    → p ≡ parts_of (held (seen below) inside) → IsSenderInStep (sound s.below) (seen_of seen s) → found_again p ≡ found_of (sender_of (seen_of seen s))
found_parts {B = B} seen sound below inside h s p half is kept over same =
    subst (λ (t : SenderOf B). IsSenderInStep (sound t.below) (seen_of seen t) → found_again p ≡ found_of (sender_of (seen_of seen t))) is
    (λ step. ap (λ (q : SenderParts). found_again q) (same ∙ ap (λ (x : SenderHalf). parts_of (held (seen below) x)) half)
    ∙ found_left (sound below) (seen below) h (subst (λ (x : SenderHalf). x.session.number ≡ x.note.session) half kept.session.number) over step)

-- the note with which a half leaves keeps the rules of notes
mark_small : (b : Bool) (mark : ℕ) → mark ≤ 2 ^ 62 → cond b mark 0 ≤ 2 ^ 62
mark_small true mark le = le
mark_small false mark le = omega arith

pub left_keeps : (h : SenderHalf) → IsKept h → NoteKeeps (left_note h.note (known_mark h.session))
left_keeps h kept = record {
  session = kept.note.session;
  state = may_leave h.note.role;
  mark = mark_small (nat_le h.session.mark h.session.known) h.session.mark kept.session.mark;
}

-- a leaving that failed
pub leaves_stopped : {B T E : Type 0} (seen : B → BelowSeen) (sound : B → Type 0) (below new : B) (h : SenderHalf) (s : SenderOf B) (n : Note) (r : Result T E) (e : E)
    → record { below = below; half = h } ≡ s → r ≡ Err e → n ≡ left_note h.note (known_mark h.session) → is_session h.session.state ≡ true → IsKept h → IsOver (seen below) h.sets
    → PutsNote {T = T} (sound below) (seen below) n (Err e) (seen new)
    → Leaves (sound s.below) (sound new) (seen_of seen s) r (held (seen new) h)
leaves_stopped {B = B} {T = T} {E = E} seen sound below new h s n r e is failed note on kept over p =
    subst (λ (t : SenderOf B). Leaves (sound t.below) (sound new) (seen_of seen t) r (held (seen new) h)) is
    (subst (λ (x : Result T E). Leaves (sound below) (sound new) (held (seen below) h) x (held (seen new) h)) (sym failed)
    (leaves_err (sound below) (sound new) (seen below) (seen new) h (known_mark h.session) e on kept.session.number over
    (subst (λ (m : Note). PutsNote {T = T} (sound below) (seen below) m (Err e) (seen new)) note p)))
