-- A receiver leaves by one note.
use Rattle.std.proofs.Common.{◌≡◌, ◌⊎◌, inl, inr, ℕ, ◌≤◌, Bool, true, false, ◌&&◌, not, cond, eqb, List, Result, Ok, Err, Some, ◌∙◌, sym, refl, ap, subst}
use Rattle.avs_dev.specs.Below.{BelowSeen, SetsNote}
use Rattle.avs_dev.proofs.Going.{lasts_same, spared_same}
use Rattle.avs_code.specs.declared.land_headers.LandHeader.{LandHeader}
use Rattle.avs_mirrors.specs.Due.{nothing_due}
use Rattle.avs_mirrors.specs.Half.{HalfRole, Lone, Sender, Receiver, Sets, State, Logging, Replicating, is_marked, is_receiver, is_session, left_receiver}
use Rattle.avs_sync.specs.Note.{IsNote, NoteKeeps, may_be}
use Rattle.avs_sync.specs.declared.note.Note.{Note}
use Rattle.avs_halves.specs.SetBits.{SetBits, due_of, set_at}
use Rattle.avs_halves.specs.Writing.{PutsNote}
use Rattle.avs_halves.specs.Over.{IsOver}
use Rattle.avs_halves.proofs.Staying.{below_noted, below_same, may_leave, told_note}
use Rattle.avs_receiver.specs.Held.{ReceiverHalf, ReceiverHeld, half_noted, held, parts_of}
use Rattle.avs_receiver.specs.Meaning.{Finds, IsReceiverInStep, found_by, half_by, is_of, lies_on, receiver_of, slots_of, state_in, vols_of, IsLandedFor, vols_in}
use Rattle.avs_receiver.specs.Going.{NoneFailed, ReceiverStays, BelowAloneFailed, SessionStays}
use Rattle.avs_receiver.specs.Leaving.{Leaves, note_left}
use Rattle.avs_receiver.proofs.Meanings.{found_old, lies_is, stored_is, fits_parts}

-- ---- a call that does nothing

pub stays_same : (sound : Type 0) (h : ReceiverHeld) → ReceiverStays sound h h
stays_same sound h = record {
  host = refl;
  queue = refl;
  land = lasts_same h.half.land.disk;
  count = refl;
  sets = λ set. record { vol = refl; slot = refl; segs = refl; disk = lasts_same (set_at h.half.sets set).bits.disk };
  labels = λ set told. refl;
  below = below_same sound h.below;
}

pub none_failed : (h : ReceiverHeld) → NoneFailed h h
none_failed h = record { faults = refl; armed = refl; sets = λ set. spared_same (set_at h.half.sets set).bits.disk; land = spared_same h.half.land.disk }

-- its session in memory is as it was
pub session_same : (h : ReceiverHalf) → SessionStays h h h.applied h.note.mark
session_same h = record { number = refl; role = refl; reverse = refl; applied = refl; mark = refl; slots = λ slot low free. refl }

-- also where its sets have changed
pub session_sets : (h : ReceiverHalf) (sets : List SetBits) → SessionStays h (record h { sets = sets }) h.applied h.note.mark
session_sets h sets = record { number = refl; role = refl; reverse = refl; applied = refl; mark = refl; slots = λ slot low free. refl }

pub leaves_nothing : {T E : Type 0} (sound : Type 0) (below : BelowSeen) (h : ReceiverHalf) (u : T) → state_in h.note ≡ Logging → Leaves {E = E} sound sound (held below h) (Ok u) (held below h)
leaves_nothing sound below h u logging = record {
  stays = stays_same sound (held below h);
  session = session_same h;
  spared = none_failed (held below h);
  failed = tt;
  done = λ s kept. λ i. record (receiver_of kept (held below h)) { state = logging i };
  step = λ st. st;
  stopped = λ st. tt;
  idle = λ is. record { answer = refl; kept = refl };
}

-- a half in a session is not in logging
session_off : (s : State) → is_session s ≡ true → s ≡ Logging → ⊥
session_off s on is = no (is_session s) on (ap is_session is)
  where
    no : (b : Bool) → b ≡ true → b ≡ false → ⊥
    no b yes_ off = cc

pub session_not : (n : Note) → is_session (state_in n) ≡ true → state_in n ≡ Logging → ⊥
session_not n on is = session_off (state_in n) on is

-- ---- by a note

pub noted_stays : {T E : Type 0} (sound : Type 0) (old new : BelowSeen) (h : ReceiverHalf) (n : Note) (applied : ℕ) (bytes : List ℕ) (result : Result T E) → SetsNote sound old bytes result new → ReceiverStays sound (held old h) (held new (half_noted h n applied))
noted_stays sound old new h n applied bytes result w = record {
  host = refl;
  queue = refl;
  land = lasts_same h.land.disk;
  count = refl;
  sets = λ set. record { vol = refl; slot = refl; segs = refl; disk = lasts_same (set_at h.sets set).bits.disk };
  labels = λ set told. refl;
  below = below_noted sound old new bytes result w;
}

pub noted_spared : {T E : Type 0} (sound : Type 0) (old new : BelowSeen) (h : ReceiverHalf) (n : Note) (applied : ℕ) (bytes : List ℕ) (u : T) → SetsNote {E = E} sound old bytes (Ok u) new → NoneFailed (held old h) (held new (half_noted h n applied))
noted_spared sound old new h n applied bytes u w = record { faults = w.cause.same; armed = w.still_armed; sets = λ set. spared_same (set_at h.sets set).bits.disk; land = spared_same h.land.disk }

pub note_failed : {T E : Type 0} (sound : Type 0) (old new : BelowSeen) (h : ReceiverHalf) (bytes : List ℕ) (e : E) → SetsNote {T = T} sound old bytes (Err e) new → BelowAloneFailed (held old h) (held new h)
note_failed sound old new h bytes e w = record {
  failed = record { rose = w.cause.failed; spent = w.spent };
  sets = λ set. spared_same (set_at h.sets set).bits.disk;
  land = spared_same h.land.disk;
}

either_logging : (b : Bool) → cond b Logging Logging ≡ Logging
either_logging true = refl
either_logging false = refl

not_session : (a : Bool) → (a && false) ≡ true → ⊥
not_session true is = absurd (cc)
not_session false is = absurd (cc)

not_marked : (b : Bool) → is_marked (cond b Logging Logging) ≡ true → ⊥
not_marked true is = absurd (cc)
not_marked false is = absurd (cc)

no_due : (b : Bool) → {X : Type 0} (x y : X) → cond (is_marked (cond b Logging Logging)) x y ≡ y
no_due true x y = refl
no_due false x y = refl

no_redo : (a : Bool) {X : Type 0} (x y : X) → cond (a && false) x y ≡ y
no_redo true x y = refl
no_redo false x y = refl

-- nothing is done once more of a half that has left
left_fits : (n : Note) (l : LandHeader) (vols : List ℕ) (below : BelowSeen) → (not (eqb l.kind 0) ≡ true → l.session ≤ n.session) → IsLandedFor (note_left n) l vols below
left_fits n l vols below earlier = record { earlier = earlier; room = λ is. absurd (not_session (is_of n l) is) }

-- it can be written
pub left_keeps : (n : Note) → NoteKeeps n → NoteKeeps (note_left n)
left_keeps n keeps = record { session = keeps.session; state = may_leave n.role; mark = keeps.mark }

-- a half of that note has left
pub left_is : (kept : Sets) (below new : BelowSeen) (h : ReceiverHalf) → new.images ≡ below.images → receiver_of kept (held new (half_noted h (note_left h.note) h.applied)) ≡ left_receiver (receiver_of kept (held below h))
left_is kept below new h images = λ i. record (left_receiver (receiver_of kept (held (record below { images = images i }) h))) { state = either_logging (is_receiver h.note.role) i }

pub found_noted : (sound : Type 0) (kept : Sets) (below new : BelowSeen) (h : ReceiverHalf) → IsReceiverInStep sound (held below h) → new.images ≡ below.images → IsOver new h.sets → found_by kept (note_left h.note) h.land.header (parts_of (held new h)) ≡ left_receiver (receiver_of kept (held below h))
found_noted sound kept below new h st images over =
    ap left_receiver (no_redo (is_of h.note h.land.header) _ (lies_on kept (note_left h.note) h.land.header (parts_of (held new h)))
    ∙ lies_is kept (note_left h.note) h.land.header new h st.memory.bits over)
    ∙ (λ i. left_receiver (half_by (note_left h.note) (sym st.memory.landing.place i) (images i) (vols_of h.sets) (slots_of h.sets) (no_due (is_receiver h.note.role) nothing_due (due_of h.sets) i) kept))

pub leaves_ok : {T E : Type 0} (sound sound_new : Type 0) (below new : BelowSeen) (h : ReceiverHalf) (u : T) → (state_in h.note ≡ Logging → ⊥)
    → PutsNote {E = E} sound below (note_left h.note) (Ok u) new → (sound → sound_new)
    → Leaves {E = E} sound sound_new (held below h) (Ok u) (held new (half_noted h (note_left h.note) h.applied))
leaves_ok sound sound_new below new h u session p sounds = record {
  stays = noted_stays sound below new h (note_left h.note) h.applied p.bytes (Ok u) p.sets;
  session = record { number = refl; role = refl; reverse = refl; applied = refl; mark = refl; slots = λ slot low free. refl };
  spared = noted_spared sound below new h (note_left h.note) h.applied p.bytes u p.sets;
  failed = tt;
  done = λ s kept. left_is kept below new h (p.sets.images s);
  step = λ st. record {
    memory = record {
      sound = sounds st.memory.sound;
      stored = p.sets.stored (told_note below below.note st.memory.stored) ∙ ap Some (sym p.sets.done);
      note = subst (λ (bytes : List ℕ). IsNote bytes (note_left h.note)) (sym p.sets.done) p.is;
      volumes = λ set there. (below_noted sound below new p.bytes (Ok u) p.sets).told st.memory.sound (set_at h.sets set).vol (st.memory.volumes set there);
      bits = st.memory.bits;
      landing = record {
        told = st.memory.landing.told;
        step = st.memory.landing.step;
        fits = left_fits h.note h.land.header (vols_of h.sets) new st.memory.landing.fits.earlier;
        place = st.memory.landing.place;
      };
    };
    again = λ kept is. absurd (not_session (is_of h.note h.land.header) is);
    wiped = λ is. absurd (not_marked (is_receiver h.note.role) is);
  };
  stopped = λ st. tt;
  idle = λ is. absurd (session is);
}

pub leaves_err : {T E : Type 0} (sound sound_new : Type 0) (below new : BelowSeen) (h : ReceiverHalf) (e : E) → (state_in h.note ≡ Logging → ⊥) → IsOver new h.sets
    → PutsNote {T = T} sound below (note_left h.note) (Err e) new
    → Leaves {T = T} sound sound_new (held below h) (Err e) (held new h)
leaves_err sound sound_new below new h e session over p = record {
  stays = noted_stays sound below new h h.note h.applied p.bytes (Err e) p.sets;
  session = session_same h;
  spared = tt;
  failed = note_failed sound below new h p.bytes e p.sets;
  done = λ s. tt;
  step = λ st. tt;
  stopped = λ st kept. stopped st kept (p.sets.left (told_note below below.note st.memory.stored));
  idle = λ is. absurd (session is);
}
  where
    stopped : IsReceiverInStep sound (held below h) → (kept : Sets) → (new.stored ≡ below.stored) ⊎ (new.stored ≡ Some p.bytes) → Finds (parts_of (held new h)) (left_receiver (receiver_of kept (held below h)))
    stopped st kept (inl same) = record {
      note = h.note;
      header = h.land.header;
      noted = stored_is new below.note h.note (same ∙ st.memory.stored) st.memory.note;
      landed = st.memory.landing.step;
      fits = fits_parts h.note h.land.header h.sets h.sets below new refl p.sets.sizes st.memory.landing.fits;
      found = found_old sound kept below new h st (p.sets.images st.memory.sound) over;
    }
    stopped st kept (inr put) = record {
      note = note_left h.note;
      header = h.land.header;
      noted = stored_is new p.bytes (note_left h.note) put p.is;
      landed = st.memory.landing.step;
      fits = left_fits h.note h.land.header (vols_in (parts_of (held new h))) new st.memory.landing.fits.earlier;
      found = found_noted sound kept below new h st (p.sets.images st.memory.sound) over;
    }

-- the notes of the two other steps can be written
pub may_mark : (r : HalfRole) → is_receiver r ≡ true → may_be r Replicating ≡ true
may_mark Lone on = absurd (cc)
may_mark Sender on = absurd (cc)
may_mark Receiver on = refl
