-- A sender learns that places were applied: what it stands for, and what is found where a disk failed.
use Rattle.std.proofs.Common.{◌≡◌, ◌⊎◌, inl, inr, ℕ, ◌≤◌, max, Bool, true, false, ◌&&◌, not, cond, List, [], length, map, get_or, Result, Ok, Err, None, Some, OnOk, OnErr, ◌∙◌, sym, refl, ap, subst, arith}
use Rattle.std.specs.Prelude.{nat_lt}
use Rattle.std.proofs.Math.Path.{fun_ext}
use Rattle.avs_dev.specs.Below.{BelowSeen, IsToldAt}
use Rattle.avs_bits.specs.BitSet.{set_of}
use Rattle.avs_mqueue.specs.Queue.{Queue, Advances}
use Rattle.avs_model.specs.declared.answer.Refusal.TheVariants as refusal
use Rattle.avs_mirrors.specs.Due.{Keys, frees, freed_due, zeros}
use Rattle.avs_mirrors.specs.Half.{HalfRole, Logging, Replicating, Sender, no_sets, is_session, with_freed, with_known}
use Rattle.avs_sync.specs.Note.{IsNote, NoteKeeps, may_be, note_at}
use Rattle.avs_sync.specs.Session.{ticked, left}
use Rattle.avs_sync.specs.declared.note.Note.{Note}
use Rattle.avs_halves.specs.SetBits.{SetBits, AreInStep, set_at, has_bit, part_of}
use Rattle.avs_halves.specs.Changing.{ChangesSets}
use Rattle.avs_halves.specs.Writing.{PutsNote}
use Rattle.avs_sender.specs.Held.{SenderHalf, SetPlaces, held, parts_of}
use Rattle.avs_sender.specs.Kept.{IsKept}
use Rattle.avs_halves.specs.Going.{BelowStays}
use Rattle.avs_halves.specs.Over.{IsOver}
use Rattle.avs_halves.specs.Found.{due_found, is_filled, stored_bytes}
use Rattle.avs_halves.proofs.Staying.{below_noted, below_same, over_changed, sets_stay, told_note}
use Rattle.avs_halves.proofs.Lying.{found_bit}
use Rattle.avs_sender.specs.Meaning.{IsSenderInStep, due_of, sender_of, found_again, found_by, found_of, freeing_place, places_at}
use Rattle.avs_sender.specs.Going.{SenderStays}
use Rattle.avs_sender.specs.Learning.{IsStopped, half_with, half_stopped, known_then, learned_keys}
use Rattle.avs_sender.specs.Ticking.{FindsFreed, IsTicked, IsTickStopped, Knows, MayLearn, half_noted, note_marked}
use Rattle.avs_sender.proofs.Meanings.{again_is, zeros_are}
use Rattle.avs_sender.proofs.Founds.{bits, bit_is, either, found_then, gone_key, gone_one, images_same, others}

-- ---- sets of which the bits alone have changed

module _ {T E : Type 0} (keys : Keys) (on : Bool) (old new : List SetBits) (r : Result T E) (c : ChangesSets keys on old r new) where
  -- a half over them stands for the same but in its session and what is due
  pub sender_then : (below then : BelowSeen) (h g : SenderHalf) → h.sets ≡ old → g.sets ≡ new → g.note.empty ≡ h.note.empty → g.note.role ≡ h.note.role → g.session.number ≡ h.session.number → then.images ≡ below.images
      → sender_of (held then g) ≡ record (sender_of (held below h)) { state = g.session.state; last = g.session.last; known = g.session.known; due = due_of g }
  sender_then below then h g was now empty role number images = λ i. record {
    on = λ set. nat_lt set (count i);
    here = λ set. nat_lt set (count i);
    contents = λ set. nat_lt set (count i) && is_filled (empty i) (slot set i);
    images = λ set. cond (nat_lt set (count i)) (get_or (images i) (vol set i) []) [];
    number = number i;
    role = role i;
    state = g.session.state;
    last = g.session.last;
    known = g.session.known;
    taken = 0;
    applied = 0;
    due = due_of g;
    held = [];
    kept = no_sets;
  }
    where
      count : length g.sets ≡ length h.sets
      count = ap (λ (l : List SetBits). length l) now ∙ c.count ∙ sym (ap (λ (l : List SetBits). length l) was)

      slot : (set : ℕ) → (set_at g.sets set).slot ≡ (set_at h.sets set).slot
      slot set = ap (λ (l : List SetBits). (set_at l set).slot) now ∙ (sets_stay keys on old new r c set).slot ∙ sym (ap (λ (l : List SetBits). (set_at l set).slot) was)

      vol : (set : ℕ) → (set_at g.sets set).vol ≡ (set_at h.sets set).vol
      vol set = ap (λ (l : List SetBits). (set_at l set).vol) now ∙ (sets_stay keys on old new r c set).vol ∙ sym (ap (λ (l : List SetBits). (set_at l set).vol) was)

-- ---- it knows the place

marked_may : (r : HalfRole) → r ≡ Sender → may_be r Replicating ≡ true
marked_may r is = ap (λ (x : HalfRole). may_be x Replicating) is

-- the note of the mark keeps the rules of notes
pub marked_keeps : (h : SenderHalf) → IsKept h → is_session h.session.state ≡ true → NoteKeeps (note_marked h.note h.session.mark)
marked_keeps h kept on = record { session = kept.note.session; state = marked_may h.note.role (kept.session.role on); mark = kept.session.mark }

module _ (sound : Type 0) (below : BelowSeen) (h : SenderHalf) (applied : ℕ) (session : is_session h.session.state ≡ true) (given : applied ≤ h.session.last)
    (sets : List SetBits) (places : List SetPlaces) (queue : Queue) (changed : ChangesSets {T = Unit {0}} {E = Unit {0}} (learned_keys h applied) false h.sets (Ok tt) sets)
    (adv : Advances h.queue (known_then h.session applied) queue) (due_is : due_of (half_with h sets places (ticked h.session applied) queue) ≡ freed_due (due_of h) (frees (due_of h) applied)) where
  abbrev known_half : Note → SenderHalf
  known_half n = half_noted (half_with h sets places (ticked h.session applied) queue) n

  may : MayLearn (held below h) applied
  may = record { session = session; given = given }

  -- whatever its note says
  done : (then : BelowSeen) (n : Note) → n.empty ≡ h.note.empty → n.role ≡ h.note.role → then.images ≡ below.images
      → sender_of (held then (half_noted (half_with h sets places (ticked h.session applied) queue) n)) ≡ with_known (sender_of (held below h)) applied h.session.mark
  done then n empty role images =
      sender_then (learned_keys h applied) false h.sets sets (Ok tt) changed below then h (half_noted (half_with h sets places (ticked h.session applied) queue) n) refl refl empty role refl images
      ∙ (λ i. record (sender_of (held below h)) {
        state = (ticked h.session applied).state;
        last = h.session.last;
        known = max h.session.known applied;
        due = due_is i;
      })

  stays : (then : BelowSeen) (n : Note) → BelowStays sound below then → SenderStays sound (held below h) (held then (half_noted (half_with h sets places (ticked h.session applied) queue) n))
  stays then n stay = record {
    host = refl;
    land = refl;
    limits = adv.limits;
    count = changed.count;
    sets = sets_stay (learned_keys h applied) false h.sets sets (Ok tt) changed;
    below = stay;
  }

  in_step : AreInStep h.sets → AreInStep sets
  in_step st = record { told = λ t. (changed.part t).lasts.told (st.told t); step = λ t. (changed.done t).step (st.told t) (st.step t) }

  -- nothing is noted
  pub ticks : (ticked h.session applied).state ≡ h.session.state → IsTicked sound sound (held below h) applied (max h.session.known applied) (held below (half_with h sets places (ticked h.session applied) queue))
  ticks same = record {
    may = may;
    answer = refl;
    stays = stays below h.note (below_same sound below);
    spared = record { faults = refl; armed = refl; sets = λ t. (changed.done t).spared };
    done = λ s. done below h.note refl refl refl;
    session = refl;
    queue = adv;
    note = inl (same, refl);
    step = λ st. record {
      sound = st.sound;
      stored = st.stored;
      note = st.note;
      volumes = λ t low. subst (λ (v : ℕ). IsToldAt below v) (sym (sets_stay (learned_keys h applied) false h.sets sets (Ok tt) changed t).vol) (st.volumes t (omega (arith, low, changed.count)));
      bits = in_step st.bits;
    };
  }

  -- the mark is noted
  pub ticks_noted : {E : Type 0} (sound_new : Type 0) (then : BelowSeen) (u : Unit {0}) → (ticked h.session applied).state ≡ Replicating → PutsNote {E = E} sound below (note_marked h.note h.session.mark) (Ok u) then → (sound → sound_new)
      → IsTicked sound sound_new (held below h) applied (max h.session.known applied) (held then (half_noted (half_with h sets places (ticked h.session applied) queue) (note_marked h.note h.session.mark)))
  ticks_noted sound_new then u replicates p sounds = record {
    may = may;
    answer = refl;
    stays = stays then (note_marked h.note h.session.mark) (below_noted sound below then p.bytes (Ok u) p.sets);
    spared = record { faults = p.sets.cause.same; armed = p.sets.still_armed; sets = λ t. (changed.done t).spared };
    done = λ s. done then (note_marked h.note h.session.mark) refl refl (p.sets.images s);
    session = refl;
    queue = adv;
    note = inr (replicates, refl);
    step = λ st. record {
      sound = sounds st.sound;
      stored = p.sets.stored (told_note below below.note st.stored) ∙ ap Some (sym p.sets.done);
      note = subst (λ (bytes : List ℕ). IsNote bytes (note_marked h.note h.session.mark)) (sym p.sets.done) p.is;
      volumes = λ t low. (below_noted sound below then p.bytes (Ok u) p.sets).told st.sound (set_at sets t).vol
          (subst (λ (v : ℕ). IsToldAt below v) (sym (sets_stay (learned_keys h applied) false h.sets sets (Ok tt) changed t).vol) (st.volumes t (omega (arith, low, changed.count))));
      bits = in_step st.bits;
    };
  }

  -- the note failed behind all bits: it is the old or the new one
  pub note_stopped : {T E : Type 0} (then : BelowSeen) (q : Queue) (e : E) → h.session.number ≡ h.note.session → q.limits ≡ queue.limits → IsOver below h.sets → PutsNote {T = T} sound below (note_marked h.note h.session.mark) (Err e) then
      → IsTickStopped sound (held below h) applied refusal.Fault (held then (half_stopped (half_with h sets places (ticked h.session applied) queue) q))
  note_stopped {T = T} then q e number limits over p = record {
    answer = refl;
    may = may;
    stays = record {
      host = refl;
      land = refl;
      limits = limits ∙ adv.limits;
      count = changed.count;
      sets = sets_stay (learned_keys h applied) false h.sets sets (Ok tt) changed;
      below = below_noted sound below then p.bytes (Err e) p.sets;
    };
    failed = inl (record { failed = record { rose = p.sets.cause.failed; spent = p.sets.spent }; sets = λ t. (changed.done t).spared });
    left = refl;
    stopped = λ st. record { gone = frees (due_of h) applied; within = λ set seg on. on; finds = found st (p.sets.left (told_note below below.note st.stored)) };
  }
    where
      over_then : IsOver then sets
      over_then = over_changed below then h.sets sets p.sets.sizes changed.count (sets_stay (learned_keys h applied) false h.sets sets (Ok tt) changed) over

      due_then : IsSenderInStep sound (held below h) → due_found then (map part_of sets) ≡ zeros (freed_due (due_of h) (frees (due_of h) applied))
      due_then st = fun_ext (λ set. fun_ext (λ seg. ap (λ (b : Bool). cond b (Some 0) None) (found_bit then sets (in_step st.bits) over_then set seg)))
          ∙ sym (zeros_are (half_with h sets places (ticked h.session applied) queue))
          ∙ ap zeros due_is

      by : IsSenderInStep sound (held below h) → (n : Note) → n.session ≡ h.note.session → n.role ≡ h.note.role → n.empty ≡ h.note.empty → note_at (stored_bytes then) ≡ n
          → found_again (parts_of (held then (half_stopped (half_with h sets places (ticked h.session applied) queue) q))) ≡ found_of (with_freed (sender_of (held below h)) (frees (due_of h) applied))
      by st n session_is role empty is = ap (λ (m : Note). found_by m (parts_of (held then (half_stopped (half_with h sets places (ticked h.session applied) queue) q)))) is
          ∙ found_then below then h (half_stopped (half_with h sets places (ticked h.session applied) queue) q) (learned_keys h applied) false (Ok tt) changed n (session_is ∙ sym number) role empty
          (sender_of (held below h)).images (zeros (freed_due (due_of h) (frees (due_of h) applied)))
          (images_same below then h (half_stopped (half_with h sets places (ticked h.session applied) queue) q) (learned_keys h applied) false (Ok tt) changed (p.sets.images st.sound)) (due_then st)

      found : IsSenderInStep sound (held below h) → (then.stored ≡ below.stored) ⊎ (then.stored ≡ Some p.bytes)
          → found_again (parts_of (held then (half_stopped (half_with h sets places (ticked h.session applied) queue) q))) ≡ found_of (with_freed (sender_of (held below h)) (frees (due_of h) applied))
      found st (inl same) = by st h.note refl refl refl (again_is then below.note h.note (same ∙ st.stored) st.note)
      found st (inr put) = by st (note_marked h.note h.session.mark) refl refl refl (again_is then p.bytes (note_marked h.note h.session.mark) put p.is)

  -- whichever it answers
  pub knows_noted : {E : Type 0} (sound_new : Type 0) (then : BelowSeen) (r : Result (Unit {0}) E) (g : SenderHalf) → (ticked h.session applied).state ≡ Replicating → h.session.number ≡ h.note.session → IsOver below h.sets
      → PutsNote sound below (note_marked h.note h.session.mark) r then → OnOk r (g ≡ half_noted (half_with h sets places (ticked h.session applied) queue) (note_marked h.note h.session.mark)) → OnErr r (IsStopped (half_with h sets places (ticked h.session applied) queue) g)
      → (sound → OnOk r sound_new) → Knows sound sound_new (held below h) applied r (held then g)
  knows_noted sound_new then (Ok u) g replicates number over p ok err sounds =
      subst (λ (x : SenderHalf). IsTicked sound sound_new (held below h) applied x.session.known (held then x)) (sym ok) (ticks_noted sound_new then u replicates p sounds)
  knows_noted sound_new then (Err e) g replicates number over p ok err sounds =
      subst (λ (x : SenderHalf). IsTickStopped sound (held below h) applied refusal.Fault (held then x)) (sym err.rest) (note_stopped then g.queue e number err.limits over p)

-- ---- a bitmap failed at one of the bits

module _ {T E : Type 0} (sound : Type 0) (below : BelowSeen) (h : SenderHalf) (applied : ℕ) (number : h.session.number ≡ h.note.session) (session : is_session h.session.state ≡ true) (given : applied ≤ h.session.last) (over : IsOver below h.sets)
    (sets : List SetBits) (places : List SetPlaces) (queue : Queue) (e : E) (changed : ChangesSets {T = T} (learned_keys h applied) false h.sets (Err e) sets) (limits : queue.limits ≡ h.queue.limits)
    (freed_here : (set seg : ℕ) → has_bit (set_at h.sets set) seg ≡ true → learned_keys h applied set seg ≡ true → frees (due_of h) applied set seg ≡ true) where
  stopped_over : IsOver below sets
  stopped_over = over_changed below below h.sets sets refl changed.count (sets_stay (learned_keys h applied) false h.sets sets (Err e) changed) over

  module _ (st : IsSenderInStep sound (held below h)) where
    -- what the disks hold
    abbrev now : ℕ → ℕ → Bool
    now = bits below below h (half_with h sets places (left h.session Logging) queue) (learned_keys h applied) false (Err e) changed st.bits stopped_over

    abbrev gone_bits : Keys
    gone_bits set seg = has_bit (set_at h.sets set) seg && not (bits below below h (half_with h sets places (left h.session Logging) queue) (learned_keys h applied) false (Err e) changed st.bits stopped_over set seg)

    found : FindsFreed (parts_of (held below (half_with h sets places (left h.session Logging) queue))) (sender_of (held below h)) applied
    found = record {
      gone = gone_bits;
      within = λ set seg on. let both = gone_key (nat_lt seg (set_at h.sets set).bits.segs) (set_of (set_at h.sets set).bits seg) (now set seg) (learned_keys h applied set seg) on
          (others below below h (half_with h sets places (left h.session Logging) queue) (learned_keys h applied) false (Err e) changed st.bits stopped_over set seg) in
          freed_here set seg both.0 both.1;
      finds = ap (λ (m : Note). found_by m (parts_of (held below (half_with h sets places (left h.session Logging) queue)))) (again_is below below.note h.note st.stored st.note)
          ∙ found_then below below h (half_with h sets places (left h.session Logging) queue) (learned_keys h applied) false (Err e) changed h.note (sym number) refl refl
          (sender_of (held below h)).images (zeros (freed_due (due_of h) gone_bits))
          (images_same below below h (half_with h sets places (left h.session Logging) queue) (learned_keys h applied) false (Err e) changed refl)
          (fun_ext (λ set. fun_ext (λ seg. due_at set seg)));
    }
      where
        due_at : (set seg : ℕ) → due_found below (map part_of sets) set seg ≡ zeros (freed_due (due_of h) gone_bits) set seg
        due_at set seg = ap (λ (b : Bool). cond b (Some 0) None) (bit_is below below h (half_with h sets places (left h.session Logging) queue) (learned_keys h applied) false (Err e) changed st.bits stopped_over set seg)
            ∙ gone_one (nat_lt seg (set_at h.sets set).bits.segs) (set_of (set_at h.sets set).bits seg) (now set seg) (freeing_place h.session (places_at h set) seg)
            (either below below h (half_with h sets places (left h.session Logging) queue) (learned_keys h applied) false (Err e) changed st.bits stopped_over set seg)

  pub bits_stopped : IsTickStopped sound (held below h) applied refusal.Fault (held below (half_with h sets places (left h.session Logging) queue))
  bits_stopped = record {
    answer = refl;
    may = record { session = session; given = given };
    stays = record {
      host = refl;
      land = refl;
      limits = limits;
      count = changed.count;
      sets = sets_stay (learned_keys h applied) false h.sets sets (Err e) changed;
      below = below_same sound below;
    };
    failed = inr (record { failed = changed.failed; faults = refl; armed = refl });
    left = refl;
    stopped = λ st. found st;
  }
