-- A receiver that a load has found: it catches up, its bits are wiped, and it leaves.
use Rattle.std.proofs.Common.{◌≡◌, inl, inr, ℕ, Bool, true, false, cond, List, Ok, Err, ◌∙◌, sym, refl, ap, subst, arith, length}
use Rattle.std.proofs.lemmas.Bool.{cases_Bool}
use Rattle.avs_dev.specs.Devices.{OneRose, UsesOneTear}
use Rattle.avs_dev.specs.Below.{BelowSeen, IsToldAt}
use Rattle.avs_dev.specs.declared.back.Why.{Why}
use Rattle.avs_dev.specs.declared.back.Why.TheVariants.{Fault}
use Rattle.avs_dev.proofs.Going.{fails_then, lasts_then, spared_same, spared_then}
use Rattle.avs_code.specs.declared.land_headers.LandHeader.{LandHeader}
use Rattle.avs_mirrors.specs.Due.{nothing_due}
use Rattle.avs_mirrors.specs.Half.{HalfState, Sets, is_marked, left_receiver}
use Rattle.avs_halves.specs.SetBits.{SetBits, due_of, set_at}
use Rattle.avs_halves.specs.Changing.{ChangesSets, every}
use Rattle.avs_halves.specs.Found.{due_found}
use Rattle.avs_halves.specs.Going.{BelowStays, SetStays}
use Rattle.avs_halves.specs.Over.{IsOver}
use Rattle.avs_halves.proofs.Staying.{below_same, sets_stay}
use Rattle.avs_receiver.specs.Held.{ReceiverHalf, ReceiverHeld, held, parts_of}
use Rattle.avs_receiver.specs.Meaning.{Finds, IsLandedFor, IsReceiverInStep, half_by, is_of, is_redone, lies_on, receiver_of, redone, slots_of, state_in, vols_of}
use Rattle.avs_receiver.specs.Going.{NoneFailed, OneFailed, ReceiverStays, SessionStays}
use Rattle.avs_receiver.specs.Leaving.{Leaves}
use Rattle.avs_receiver.specs.CatchingUp.{HasCaughtUp, HasSettled, IsCaughtUp, IsStoppedSo, WipesLeft, lies_of}
use Rattle.avs_receiver.proofs.Meanings.{fits_parts, lies_is, part_slots, part_vols, stored_is}
use Rattle.avs_receiver.proofs.Leavings.{none_failed, session_same, session_sets, stays_same}
use Rattle.avs_receiver.proofs.Landings.{on_true}
use Rattle.avs_halves.proofs.Writings.{same_slots, same_vols}
use Rattle.avs_receiver.proofs.Stopped.{not_err}
use Rattle.avs_receiver.proofs.Happened.{wiped_are}
use Rattle.avs_receiver.proofs.Redone.{cond_off, found_is, off_on}

-- ---- one call after another

below_then : (sound mid : Type 0) → (sound → mid) → (a b c : BelowSeen) → BelowStays sound a b → BelowStays mid b c → BelowStays sound a c
below_then sound mid sounds a b c x y = record {
  sizes = y.sizes ∙ x.sizes;
  steady = y.steady ∙ x.steady;
  told = λ s vol told. y.told (sounds s) vol (x.told s vol told);
  noted = λ told. y.noted (x.noted told);
  faults = record { same_length = y.faults.same_length ∙ x.faults.same_length; each = λ i. let low = x.faults.each i in let high = y.faults.each i in omega (arith, low, high) };
}

pub stays_then : (sound mid : Type 0) → (sound → mid) → (a b c : ReceiverHeld) → ReceiverStays sound a b → ReceiverStays mid b c → ReceiverStays sound a c
stays_then sound mid sounds a b c x y = record {
  host = y.host ∙ x.host;
  queue = y.queue ∙ x.queue;
  land = lasts_then a.half.land.disk b.half.land.disk c.half.land.disk x.land y.land;
  count = y.count ∙ x.count;
  sets = λ set. record {
    vol = (y.sets set).vol ∙ (x.sets set).vol;
    slot = (y.sets set).slot ∙ (x.sets set).slot;
    segs = (y.sets set).segs ∙ (x.sets set).segs;
    disk = lasts_then (set_at a.half.sets set).bits.disk (set_at b.half.sets set).bits.disk (set_at c.half.sets set).bits.disk (x.sets set).disk (y.sets set).disk;
  };
  labels = λ set told. y.labels set ((x.sets set).disk.told told) ∙ x.labels set told;
  below = below_then sound mid sounds a.below b.below c.below x.below y.below;
}

pub none_then : (a b c : ReceiverHeld) → NoneFailed a b → NoneFailed b c → NoneFailed a c
none_then a b c x y = record {
  faults = y.faults ∙ x.faults;
  armed = y.armed ∙ x.armed;
  sets = λ set. spared_then (set_at a.half.sets set).bits.disk (set_at b.half.sets set).bits.disk (set_at c.half.sets set).bits.disk (x.sets set) (y.sets set);
  land = spared_then a.half.land.disk b.half.land.disk c.half.land.disk x.land y.land;
}

pub session_then : (a b c : ReceiverHalf) (applied mark : ℕ) → length b.sets ≡ length a.sets → ((set : ℕ) → SetStays (set_at a.sets set) (set_at b.sets set))
    → SessionStays a b applied mark → SessionStays b c b.applied b.note.mark → SessionStays a c applied mark
session_then a b c applied mark count sets x y = record {
  number = y.number ∙ x.number;
  role = y.role ∙ x.role;
  reverse = y.reverse ∙ x.reverse;
  applied = y.applied ∙ x.applied;
  mark = y.mark ∙ x.mark;
  slots = λ slot low free. y.slots slot low (λ set there is. free set (omega (arith, there, count)) (sym (sets set).slot ∙ is)) ∙ x.slots slot low free;
}

-- none has failed, and then one does
pub one_then : (sound : Type 0) (a b c : ReceiverHeld) → ReceiverStays sound a b → NoneFailed a b → OneFailed b c → OneFailed a c
one_then sound a b c s x (inl y) = inl (record {
  failed = record {
    rose = subst (λ (l : List ℕ). OneRose l c.below.faults) x.faults y.failed.rose;
    spent = λ sure. subst (λ (l : List Bool). UsesOneTear l c.below.armed) x.armed (y.failed.spent (s.below.steady ∙ sure));
  };
  sets = λ set. spared_then (set_at a.half.sets set).bits.disk (set_at b.half.sets set).bits.disk (set_at c.half.sets set).bits.disk (x.sets set) (y.sets set);
  land = spared_then a.half.land.disk b.half.land.disk c.half.land.disk x.land y.land;
})
one_then sound a b c s x (inr (inl y)) = inr (inl (record {
  failed = record {
    name = y.failed.name;
    failed = fails_then (set_at a.half.sets y.failed.name).bits.disk (set_at b.half.sets y.failed.name).bits.disk (set_at c.half.sets y.failed.name).bits.disk (s.sets y.failed.name).disk.steady (x.sets y.failed.name) y.failed.failed;
    others = λ other ne. spared_then (set_at a.half.sets other).bits.disk (set_at b.half.sets other).bits.disk (set_at c.half.sets other).bits.disk (x.sets other) (y.failed.others other ne);
  };
  below = record { faults = y.below.faults ∙ x.faults; armed = y.below.armed ∙ x.armed };
  land = spared_then a.half.land.disk b.half.land.disk c.half.land.disk x.land y.land;
}))
one_then sound a b c s x (inr (inr y)) = inr (inr (record {
  failed = fails_then a.half.land.disk b.half.land.disk c.half.land.disk s.land.steady x.land y.failed;
  below = record { faults = y.below.faults ∙ x.faults; armed = y.below.armed ∙ x.armed };
  sets = λ set. spared_then (set_at a.half.sets set).bits.disk (set_at b.half.sets set).bits.disk (set_at c.half.sets set).bits.disk (x.sets set) (y.sets set);
}))

-- ---- its bits are wiped

-- what is left of a half that has caught up
pub record Wiped (sound : Type 0) (old new : ReceiverHeld) : Type 0 where
  pub stays : ReceiverStays sound old new
  pub spared : NoneFailed old new
  pub session : SessionStays old.half new.half old.half.applied old.half.note.mark
  pub lies : IsCaughtUp sound old → (kept : Sets) → receiver_of kept new ≡ lies_of kept old
  pub step : IsCaughtUp sound old → IsReceiverInStep sound new

module _ (sound : Type 0) (below : BelowSeen) (h : ReceiverHalf) (over : IsOver below h.sets) where
  abbrev at_place : ℕ
  at_place = cond (is_of h.note h.land.header) h.land.header.place 0

  -- it has none
  module _ (off : is_marked (state_in h.note) ≡ false) where
    lies_off : IsCaughtUp sound (held below h) → (kept : Sets) → receiver_of kept (held below h) ≡ lies_of kept (held below h)
    lies_off st kept = (λ i. half_by h.note (st.memory.landing.place i) below.images (vols_of h.sets) (slots_of h.sets) (due_of h.sets) kept)
        ∙ sym (lies_is kept h.note h.land.header below h st.memory.bits over
        ∙ (λ i. half_by h.note (cond (is_of h.note h.land.header) h.land.header.place 0) below.images (vols_of h.sets) (slots_of h.sets) (cond_off (is_marked (state_in h.note)) nothing_due (due_of h.sets) off i) kept))

    not_wiped : Wiped sound (held below h) (held below h)
    not_wiped = record {
      stays = stays_same sound (held below h);
      spared = none_failed (held below h);
      session = session_same h;
      lies = lies_off;
      step = λ st. record {
        memory = st.memory;
        again = λ kept is. ap (λ (x : HalfState). redone x h.land.header h.land.disk.image) (lies_off st kept) ∙ st.again kept is ∙ sym (lies_off st kept);
        wiped = λ is. absurd (off_on (is_marked (state_in h.note)) off is);
      };
    }

  module _ (on : is_marked (state_in h.note) ≡ true) where
    -- they are gone
    module _ {E : Type 0} (sets : List SetBits) (u : Unit {0}) (c : ChangesSets {E = E} (every h.sets) false h.sets (Ok u) sets) where
      lies_wiped : IsCaughtUp sound (held below h) → (kept : Sets) → receiver_of kept (held below (record h { sets = sets })) ≡ lies_of kept (held below h)
      lies_wiped st kept = (λ i. half_by h.note (st.memory.landing.place i) below.images (same_vols (every h.sets) false h.sets sets (Ok u) c i) (same_slots (every h.sets) false h.sets sets (Ok u) c i) (wiped_are h.sets sets u c i) kept)
          ∙ sym (lies_is kept h.note h.land.header below h st.memory.bits over
          ∙ (λ i. half_by h.note (cond (is_of h.note h.land.header) h.land.header.place 0) below.images (vols_of h.sets) (slots_of h.sets) (on_true (is_marked (state_in h.note)) nothing_due (due_of h.sets) on i) kept))

      all_wiped : Wiped sound (held below h) (held below (record h { sets = sets }))
      all_wiped = record {
        stays = record {
          host = refl;
          queue = refl;
          land = (stays_same sound (held below h)).land;
          count = c.count;
          sets = sets_stay (every h.sets) false h.sets sets (Ok u) c;
          labels = λ set. (c.part set).label;
          below = below_same sound below;
        };
        spared = record { faults = refl; armed = refl; sets = λ set. (c.done set).spared; land = spared_same h.land.disk };
        session = session_sets h sets;
        lies = lies_wiped;
        step = λ st. record {
          memory = record {
            sound = st.memory.sound;
            stored = st.memory.stored;
            note = st.memory.note;
            volumes = λ set low. subst (λ (v : ℕ). IsToldAt below v) (sym (ap (λ (s : SetBits). s.vol) (c.part set).rest)) (st.memory.volumes set (omega (arith, low, c.count)));
            bits = record { told = λ set. (c.part set).lasts.told (st.memory.bits.told set); step = λ set. (c.done set).step (st.memory.bits.told set) (st.memory.bits.step set) };
            landing = record {
              told = st.memory.landing.told;
              step = st.memory.landing.step;
              fits = subst (λ (v : List ℕ). IsLandedFor h.note h.land.header v below) (sym (same_vols (every h.sets) false h.sets sets (Ok u) c)) st.memory.landing.fits;
              place = st.memory.landing.place;
            };
          };
          again = λ kept is. ap (λ (x : HalfState). redone x h.land.header h.land.disk.image) (lies_wiped st kept) ∙ st.again kept is ∙ sym (lies_wiped st kept);
          wiped = λ is. wiped_are h.sets sets u c;
        };
      }

    -- or some are left
    module _ {T E : Type 0} (sets : List SetBits) (x : E) (c : ChangesSets {T = T} (every h.sets) false h.sets (Err x) sets) where
      lies_left : (kept : Sets) → lies_on kept h.note h.land.header (parts_of (held below (record h { sets = sets }))) ≡ lies_of kept (held below h)
      lies_left kept = λ i. half_by h.note (cond (is_of h.note h.land.header) h.land.header.place 0) below.images
          ((part_vols sets ∙ same_vols (every h.sets) false h.sets sets (Err x) c ∙ sym (part_vols h.sets)) i)
          ((part_slots sets ∙ same_slots (every h.sets) false h.sets sets (Err x) c ∙ sym (part_slots h.sets)) i)
          ((on_true (is_marked (state_in h.note)) nothing_due (due_found below (parts_of (held below (record h { sets = sets }))).sets) on ∙ sym (on_true (is_marked (state_in h.note)) nothing_due (due_found below (parts_of (held below h)).sets) on)) i) kept

      again_or : (b : Bool) (y z : HalfState) (l : LandHeader) → y ≡ z → (b ≡ true → redone z l h.land.disk.image ≡ z) → cond b (redone y l h.land.disk.image) y ≡ z
      again_or true y z l same again = ap (λ (k : HalfState). redone k l h.land.disk.image) same ∙ again refl
      again_or false y z l same again = same

      pub wipe_fails : (old : ReceiverHeld) (first : Type 0) (why : Why) → why ≡ Fault → HasCaughtUp first sound old (held below h) → (first → sound) → IsStoppedSo first old why (held below (record h { sets = sets }))
      wipe_fails old first why answer a sounds = record {
        answer = answer;
        stays = stays_then first sound sounds old (held below h) (held below (record h { sets = sets })) a.stays (record {
          host = refl;
          queue = refl;
          land = (stays_same sound (held below h)).land;
          count = c.count;
          sets = sets_stay (every h.sets) false h.sets sets (Err x) c;
          labels = λ set. (c.part set).label;
          below = below_same sound below;
        });
        failed = one_then first old (held below h) (held below (record h { sets = sets })) a.stays a.spared (inr (inl (record { failed = c.failed; below = record { faults = refl; armed = refl }; land = spared_same h.land.disk })));
        room = a.room;
        stopped = λ st y f. let m = a.step st in record {
          note = h.note;
          header = h.land.header;
          noted = stored_is below below.note h.note m.memory.stored m.memory.note;
          landed = m.memory.landing.step;
          fits = fits_parts h.note h.land.header h.sets sets below below (same_vols (every h.sets) false h.sets sets (Err x) c) refl m.memory.landing.fits;
          found = ap left_receiver (again_or (is_redone h.note h.land.header) (lies_on y.kept h.note h.land.header (parts_of (held below (record h { sets = sets })))) (lies_of y.kept (held below h)) h.land.header (lies_left y.kept) (m.again y.kept) ∙ a.done st y.kept)
              ∙ found_is first old st y f;
        };
      }

  pub wiped : {E : Type 0} (u : Unit {0}) (new : ReceiverHalf) → WipesLeft {E = E} h (Ok u) new → Wiped sound (held below h) (held below new)
  wiped u new w = elim (cases_Bool (is_marked (state_in h.note))) [
    | inl on ↦ subst (λ (x : ReceiverHalf). Wiped sound (held below h) (held below x)) (sym w.half) (all_wiped on new.sets u (w.marked on))
    | inr off ↦ subst (λ (x : ReceiverHalf). Wiped sound (held below h) (held below x)) (sym (w.unmarked off).1) (not_wiped off)
  ]

  pub wipe_stops : {T E : Type 0} (x : E) (new : ReceiverHalf) → WipesLeft {T = T} h (Err x) new → (old : ReceiverHeld) (first : Type 0) (why : Why) → why ≡ Fault → HasCaughtUp first sound old (held below h) → (first → sound) → IsStoppedSo first old why (held below new)
  wipe_stops x new w old first why answer a sounds = elim (cases_Bool (is_marked (state_in h.note))) [
    | inl on ↦ subst (λ (y : ReceiverHalf). IsStoppedSo first old why (held below y)) (sym w.half) (wipe_fails on new.sets x (w.marked on) old first why answer a sounds)
    | inr off ↦ absurd (not_err (w.unmarked off).0)
  ]

-- ---- and it leaves

pub settled : {E : Type 0} (first mid last : Type 0) (old caught wiped new : ReceiverHeld) (u : Unit {0}) → HasCaughtUp first mid old caught → (first → mid) → Wiped mid caught wiped → Leaves {E = E} mid last wiped (Ok u) new → HasSettled first last old new
settled first mid last old caught wiped new u a sounds w l = record {
  stays = stays_then first mid sounds old caught new a.stays (stays_then mid mid (λ s. s) caught wiped new w.stays l.stays);
  session = session_then old.half caught.half new.half _ _ a.stays.count a.stays.sets a.session
      (session_then caught.half wiped.half new.half caught.half.applied caught.half.note.mark w.stays.count w.stays.sets w.session l.session);
  spared = none_then old caught new a.spared (none_then caught wiped new w.spared l.spared);
  room = a.room;
  done = λ st kept. l.done (w.step (a.step st)).memory.sound kept ∙ ap left_receiver (w.lies (a.step st) kept ∙ a.done st kept);
  step = λ st. l.step (w.step (a.step st));
}

pub leave_stops : {T E : Type 0} (first mid last : Type 0) (old caught wiped new : ReceiverHeld) (e : E) (why : Why) → why ≡ Fault → HasCaughtUp first mid old caught → (first → mid) → Wiped mid caught wiped → Leaves {T = T} mid last wiped (Err e) new
    → IsStoppedSo first old why new
leave_stops first mid last old caught wiped new e why answer a sounds w l = record {
  answer = answer;
  stays = stays_then first mid sounds old caught new a.stays (stays_then mid mid (λ s. s) caught wiped new w.stays l.stays);
  failed = one_then first old wiped new (stays_then first mid sounds old caught wiped a.stays w.stays) (none_then old caught wiped a.spared w.spared) (inl l.failed);
  room = a.room;
  stopped = λ st x f. subst (λ (y : HalfState). Finds (parts_of new) y) (ap left_receiver (w.lies (a.step st) x.kept ∙ a.done st x.kept) ∙ found_is first old st x f) (l.stopped (w.step (a.step st)) x.kept);
}
