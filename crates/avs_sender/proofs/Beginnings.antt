-- A sender begins a session.
use Rattle.std.proofs.Common.{◌≡◌, inl, inr, ℕ, ◌<◌, ◌≤◌, Bool, true, false, ◌&&◌, not, cond, List, [], length, map, get_or, replicate, All, Result, Ok, Err, None, Some, ◌∙◌, sym, refl, ap, subst, arith}
use Rattle.std.specs.Prelude.{nat_lt}
use Rattle.std.proofs.Math.Path.{fun_ext}
use Rattle.std.proofs.lemmas.Bool.{cases_lt}
use Rattle.std.proofs.lemmas.Bool.Decides.{nat_tests}
use Rattle.std.proofs.lemmas.List.{length-map, length-replicate, get_or_past, get_or-replicate}
use Rattle.std.proofs.lemmas.List.{get_or-map as within}
use Rattle.std.proofs.lemmas.List.Elements.{All-from_get_or, All-replicate}
use Rattle.avs_refs.specs.Places.{IsAbove, IsDrained, Places, greatest_at, is_among, untouched}
use Rattle.avs_bits.specs.BitSet.{set_of}
use Rattle.avs_mirrors.specs.Due.{noted, zeros}
use Rattle.avs_mirrors.specs.Half.{Sender, begun_with, is_session}
use Rattle.avs_dev.specs.Below.{BelowSeen}
use Rattle.avs_sync.specs.Note.{IsNote, NoteKeeps}
use Rattle.avs_sync.specs.Session.{begin}
use Rattle.avs_sync.specs.declared.note.Note.{Note}
use Rattle.avs_sync.specs.declared.session.Session.{Session}
use Rattle.avs_halves.specs.SetBits.{SetBits, has_bit, no_set, part_of, set_at}
use Rattle.avs_halves.specs.Changing.{ChangesSets}
use Rattle.avs_halves.specs.Writing.{PutsNote}
use Rattle.avs_sender.specs.Held.{SenderHalf, SetPlaces, held, parts_of}
use Rattle.avs_sender.specs.Kept.{ArePlacesIn, ArePlacesOf, HoldsAbove, IsDueIn, IsKept}
use Rattle.avs_halves.specs.Found.{due_found, is_filled}
use Rattle.avs_halves.specs.Going.{BelowStays}
use Rattle.avs_halves.specs.Over.{IsOver}
use Rattle.avs_halves.proofs.Staying.{below_noted, below_same, sets_stay, told_note}
use Rattle.avs_sender.specs.Meaning.{IsSenderInStep, due_of, found_by, no_places, sender_of, waits}
use Rattle.avs_sender.specs.Going.{SenderStays}
use Rattle.avs_sender.specs.Places.{WaitsForBits, no_places_for, places_for, places_in}
use Rattle.avs_sender.specs.Beginning.{Beginning, IsBeginStopped, IsBegun, MayBegin, begun_note, half_begun, is_reverse}
use Rattle.avs_sender.proofs.Meanings.{again_is, bits_due}
use Rattle.avs_sender.proofs.Arming.{with_sets}
use Rattle.avs_sender.proofs.Noted.{AreInside, all_due, found_all, found_changed, found_some, kept_changed, some_keys, some_within, step_changed, zeros_twice, zero_due}

-- ---- segments that were not touched

none_at : (segs seg : ℕ) → ◌≡◌ {A = ℕ} (get_or (replicate segs 0) seg 0) 0
none_at segs seg = elim (cases_lt seg segs) [
  | inl low ↦ get_or-replicate segs seg 0 0 low
  | inr past ↦ get_or_past (replicate segs 0) seg 0 (omega (arith, past, length-replicate {A = ℕ} segs 0))
]

untouched_above : (segs room next : ℕ) → 0 < next → IsAbove next (untouched segs room)
untouched_above segs room next some = record {
  outstanding = All-from_get_or (λ (p : ℕ). p < next) [] 0 (λ i low. absurd (omega (arith, low)));
  greatest = All-replicate (λ (p : ℕ). p < next) segs 0 some;
}

untouched_drained : (segs room : ℕ) → IsDrained (untouched segs room)
untouched_drained segs room = record { none = λ seg. subst (λ (k : ℕ). (nat_lt 0 k && not (is_among [] k)) ≡ false) (sym (none_at segs seg)) refl }

-- ---- the memory of a session in which no place was given

module _ (h : SenderHalf) (number : ℕ) (places : List SetPlaces) (kept : IsKept h) (off : is_session h.session.state ≡ false) (w : WaitsForBits h.sets (places_for h.queue.limits.writes h.sets) places) where
  fresh : (set : ℕ) → set < length h.sets → places_in (places_for h.queue.limits.writes h.sets) set ≡ no_places_for h.queue.limits.writes (set_at h.sets set).bits.segs
  fresh set there = within (λ (s : SetBits). no_places_for h.queue.limits.writes s.bits.segs) h.sets set no_set no_places there

  touched_is : (set : ℕ) → set < length h.sets → (places_in places set).touched ≡ untouched (set_at h.sets set).bits.segs h.queue.limits.writes
  touched_is set there = w.touched set ∙ ap (λ (q : SetPlaces). q.touched) (fresh set there)

  place_of : (set : ℕ) → set < length h.sets → ArePlacesOf (set_at h.sets set) h.queue.limits.writes (places_in places set)
  place_of set there = record {
    segs = ap (λ (t : Places). length t.greatest) (touched_is set there) ∙ length-replicate (set_at h.sets set).bits.segs 0;
    waiting = w.segs set ∙ ap (λ (q : SetPlaces). length q.waiting) (fresh set there) ∙ length-replicate (set_at h.sets set).bits.segs false;
    room = ap (λ (t : Places). t.room) (touched_is set there);
  }

  place_in : (set : ℕ) → set < length h.sets → ArePlacesIn (begin true number (is_reverse h.host)) (places_in places set)
  place_in set there = record {
    above = subst (λ (t : Places). IsAbove 1 t) (sym (touched_is set there)) (untouched_above (set_at h.sets set).bits.segs h.queue.limits.writes 1 (omega arith));
    few = subst (λ (t : Places). length t.outstanding ≤ 0) (sym (touched_is set there)) (omega arith);
    later = subst (λ (t : Places). All (λ place. 0 < place) t.outstanding) (sym (touched_is set there)) (All-from_get_or (λ (p : ℕ). 0 < p) [] 0 (λ i low. absurd (omega (arith, low))));
    drained = subst (λ (t : Places). IsDrained t) (sym (touched_is set there)) (untouched_drained (set_at h.sets set).bits.segs h.queue.limits.writes);
  }

  due_in : (set seg : ℕ) → set < length h.sets → IsDueIn (begin true number (is_reverse h.host)) (set_at h.sets set) (places_in places set) seg
  due_in set seg there = record {
    waiting = λ on. sym (w.waits set seg there) ∙ on;
    placed = λ bit no. absurd (both (get_or (places_in places set).waiting seg false) (w.waits set seg there ∙ bit) no);
  }
    where
      both : (b : Bool) → b ≡ true → b ≡ false → ⊥
      both b on off = cc

  held_above : HoldsAbove (begin true number (is_reverse h.host)) h.queue
  held_above = record {
    count = ap (λ l. length l) (kept.away off);
    next = λ some. absurd (none (length h.queue.entries) some (ap (λ l. length l) (kept.away off)));
  }
    where
      none : (n : ℕ) → 0 < n → n ≡ 0 → ⊥
      none n some is = omega arith

  pub begun_kept : NoteKeeps (begun_note h number) → IsKept (half_begun h number places)
  begun_kept keeps = record {
    count = w.count ∙ length-map h.sets (λ s. no_places_for h.queue.limits.writes s.bits.segs);
    few = kept.few;
    slots = kept.slots;
    places = λ set there. place_of set there;
    note = keeps;
    fits = record { empty = kept.fits.empty };
    session = record {
      number = refl;
      reverse = refl;
      sender = refl;
      last = omega arith;
      known = omega arith;
      mark = omega arith;
      role = λ on. refl;
      acting = λ on. refl;
      idle = λ received. refl;
    };
    sends = λ on. record { queue = held_above; places = λ set there. place_in set there; due = λ set seg there. due_in set seg there };
    away = λ none. absurd (cc);
  }

  -- each bit waits
  bit_one : (has waits : Bool) (k : ℕ) → (has ≡ true → waits ≡ true) → cond has (Some (cond waits 0 k)) None ≡ zero_due has
  bit_one true waits k on = ap (λ (b : Bool). Some (cond b 0 k)) (on refl)
  bit_one false waits k on = refl

  none_past : (set seg : ℕ) → length h.sets ≤ set → has_bit (set_at h.sets set) seg ≡ true → ⊥
  none_past set seg past on = none (set_of no_set.bits seg) (ap (λ (s : SetBits). has_bit s seg) (sym (get_or_past h.sets set no_set past)) ∙ on)
    where
      none_low : (b : Bool) → false ≡ (nat_lt seg 0 && b)
      none_low b = grind (arith, nat_tests)

      no : false ≡ true → ⊥
      no is = cc

      none : (b : Bool) → (nat_lt seg 0 && b) ≡ true → ⊥
      none b on = no (none_low b ∙ on)

  pub begun_due : due_of (half_begun h number places) ≡ bits_due h.sets
  begun_due = fun_ext (λ set. fun_ext (λ seg. bit_one (has_bit (set_at h.sets set) seg) (get_or (places_in places set).waiting seg false) (greatest_at (places_in places set).touched seg)
      (λ on. elim (cases_lt set (length h.sets)) [
        | inl there ↦ w.waits set seg there ∙ on
        | inr past ↦ absurd (none_past set seg past on)
      ])))

-- the half that has entered
pub entered_kept : (h : SenderHalf) (n : Note) (s : Session) (places : List SetPlaces) → IsKept h → is_session h.session.state ≡ false → WaitsForBits h.sets (places_for h.queue.limits.writes h.sets) places
    → NoteKeeps n → n ≡ begun_note h n.session → s ≡ begin true n.session n.reverse → IsKept (record h { places = places; note = n; session = s })
entered_kept h n s places kept off w keeps is begins =
    subst (λ (m : Note). IsKept (record h { places = places; note = m; session = s })) (sym is)
    (subst (λ (t : Session). IsKept (record h { places = places; note = begun_note h n.session; session = t })) (sym (begins ∙ ap (λ (m : Note). begin true m.session m.reverse) is))
    (begun_kept h n.session places kept off w (subst NoteKeeps is keeps)))

-- ---- the call

module _ (sound sound_new : Type 0) (below : BelowSeen) (h : SenderHalf) (b : Beginning) (sets : List SetBits) (may : MayBegin (held below h)) (kept : IsKept h) (over : IsOver below h.sets) (inside : AreInside h.sets b.keys) where
  off : is_session h.session.state ≡ false
  off = may.away

  abbrev changed : SenderHalf
  changed = with_sets h sets

  sender_changes : {T E : Type 0} (new : BelowSeen) (r : Result T E) (c : ChangesSets b.keys true h.sets r sets) → BelowStays sound below new → SenderStays sound (held below h) (held new changed)
  sender_changes new r c stays = record {
    host = refl;
    land = refl;
    limits = refl;
    count = c.count;
    sets = sets_stay b.keys true h.sets sets r c;
    below = stays;
  }

  -- stopped in the bits
  pub in_bits : {T E : Type 0} (e : E) → ChangesSets {T = T} b.keys true h.sets (Err e) sets → IsBeginStopped sound (held below h) b (held below changed)
  in_bits e c = record {
    may = may;
    stays = sender_changes below (Err e) c (below_same sound below);
    failed = inr (record { failed = c.failed; faults = refl; armed = refl });
    stopped = λ st. inl (record {
      part = some_keys b.keys below below h sets (Err e) c st.bits;
      within = some_within b.keys below below h sets (Err e) c st.bits;
      finds = ap (λ (n : Note). found_by n (parts_of (held below changed))) (again_is below below.note h.note st.stored st.note)
          ∙ found_changed b.keys true h sets (Err e) c below below h.note h.session.number h.note.role (noted (due_of h) (some_keys b.keys below below h sets (Err e) c st.bits))
          (sym kept.session.number) refl refl refl (found_some b.keys below below h sets (Err e) c st.bits refl over);
    });
  }

  module _ {T E : Type 0} (x : T) (c : ChangesSets {E = E} b.keys true h.sets (Ok x) sets) (new : BelowSeen) where
    finds_all : IsSenderInStep sound (held below h) → new.sizes ≡ below.sizes → due_found new (map part_of sets) ≡ zeros (noted (due_of h) b.keys)
    finds_all st sizes = found_all b.keys below new h sets x c inside st.bits sizes over

    -- stopped at the note
    pub at_note : {T' E' : Type 0} (e : E') → PutsNote {T = T'} sound below (begun_note changed b.number) (Err e) new → IsBeginStopped sound (held below h) b (held new changed)
    at_note e p = record {
      may = may;
      stays = sender_changes new (Ok x) c (below_noted sound below new p.bytes (Err e) p.sets);
      failed = inl (record { failed = record { rose = p.sets.cause.failed; spent = p.sets.spent }; sets = λ set. (c.done set).spared });
      stopped = λ st. elim (p.sets.left (told_note below below.note st.stored)) [
        | inl same ↦ inl (record {
          part = b.keys;
          within = λ set seg on. on;
          finds = ap (λ (n : Note). found_by n (parts_of (held new changed))) (again_is new below.note h.note (same ∙ st.stored) st.note)
              ∙ found_changed b.keys true h sets (Ok x) c below new h.note h.session.number h.note.role (noted (due_of h) b.keys) (sym kept.session.number) refl refl (p.sets.images st.sound) (finds_all st p.sets.sizes);
        })
        | inr put ↦ inr (ap (λ (n : Note). found_by n (parts_of (held new changed))) (again_is new p.bytes (begun_note changed b.number) put p.is)
            ∙ found_changed b.keys true h sets (Ok x) c below new (begun_note changed b.number) b.number Sender (zeros (noted (due_of h) b.keys)) refl refl refl (p.sets.images st.sound)
            (finds_all st p.sets.sizes ∙ sym (zeros_twice (noted (due_of h) b.keys))))
      ];
    }

    -- done
    module _ {E' : Type 0} (places : List SetPlaces) (w : WaitsForBits sets (places_for h.queue.limits.writes sets) places) (u : Unit {0}) (p : PutsNote {E = E'} sound below (begun_note changed b.number) (Ok u) new) (sounds : sound → sound_new) where
      begun_done : new.images ≡ below.images → sender_of (held new (half_begun changed b.number places)) ≡ begun_with (sender_of (held below h)) b.keys b.number
      begun_done images = λ i. record (begun_with (sender_of (held below h)) b.keys b.number) {
        on = λ set. nat_lt set (c.count i);
        here = λ set. nat_lt set (c.count i);
        contents = λ set. nat_lt set (c.count i) && is_filled h.note.empty (slot set i);
        images = λ set. cond (nat_lt set (c.count i)) (get_or (images i) (vol set i) []) [];
        due = due i;
      }
        where
          slot : (set : ℕ) → (set_at sets set).slot ≡ (set_at h.sets set).slot
          slot set = (sets_stay b.keys true h.sets sets (Ok x) c set).slot

          vol : (set : ℕ) → (set_at sets set).vol ≡ (set_at h.sets set).vol
          vol set = (sets_stay b.keys true h.sets sets (Ok x) c set).vol

          due : due_of (half_begun changed b.number places) ≡ zeros (noted (due_of h) b.keys)
          due = begun_due changed b.number places (kept_changed b.keys true h sets (Ok x) c kept off) off w ∙ all_due b.keys h sets x c inside

      pub begun : IsBegun sound sound_new (held below h) b (held new (half_begun changed b.number places))
      begun = record {
        may = may;
        stays = record {
          host = refl;
          land = refl;
          limits = refl;
          count = c.count;
          sets = sets_stay b.keys true h.sets sets (Ok x) c;
          below = below_noted sound below new p.bytes (Ok u) p.sets;
        };
        spared = record { faults = p.sets.cause.same; armed = p.sets.still_armed; sets = λ set. (c.done set).spared };
        done = λ s. begun_done (p.sets.images s);
        session = refl;
        note = refl;
        step = λ st. record {
          sound = sounds st.sound;
          stored = p.sets.stored (told_note below below.note st.stored) ∙ ap Some (sym p.sets.done);
          note = subst (λ (bytes : List ℕ). IsNote bytes (begun_note changed b.number)) (sym p.sets.done) p.is;
          volumes = λ set there.
              let v = sets_stay b.keys true h.sets sets (Ok x) c set in
              subst (λ (vol : ℕ). length (get_or new.images vol []) ≡ get_or new.sizes vol 0) (sym v.vol)
              ((below_noted sound below new p.bytes (Ok u) p.sets).told st.sound (set_at h.sets set).vol (st.volumes set (omega (arith, there, c.count))));
          bits = step_changed b.keys true h.sets sets x c st.bits;
        };
      }
