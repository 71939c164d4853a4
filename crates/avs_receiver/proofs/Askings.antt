-- A receiver is asked into a session by one note.
use Rattle.std.proofs.Common.{◌≡◌, ◌⊎◌, inl, inr, ℕ, ◌<◌, Bool, true, false, ◌&&◌, not, cond, eqb, List, length, get_or, Ok, Err, Some, ◌∙◌, sym, refl, ap, subst, arith}
use Rattle.std.specs.Prelude.{nat_lt}
use Rattle.std.proofs.Math.Path.{fun_ext}
use Rattle.std.proofs.Math.ListN.{get_or-map}
use Rattle.std.proofs.lemmas.List.{length-map}
use Rattle.std.proofs.lemmas.Bool.{cases_Bool}
use Rattle.std.proofs.lemmas.Bool.Decides.{nat_tests}
use Rattle.avs_dev.specs.Below.{BelowSeen}
use Rattle.avs_model.specs.declared.answer.Refusal.{Refusal}
use Rattle.avs_model.specs.declared.answer.Refusal.TheVariants as refusal
use Rattle.avs_mirrors.specs.Half.{Sets, asked, left_receiver}
use Rattle.avs_sync.specs.Note.{IsNote}
use Rattle.avs_sync.specs.declared.note.Note.{Note}
use Rattle.avs_halves.specs.SetBits.{SetBits, due_of, no_set, set_at}
use Rattle.avs_halves.specs.Writing.{PutsNote}
use Rattle.avs_halves.specs.Over.{IsOver}
use Rattle.avs_halves.specs.Found.{is_filled}
use Rattle.avs_halves.proofs.Staying.{told_note, below_noted}
use Rattle.avs_halves.proofs.Lying.{below_is}
use Rattle.avs_receiver.specs.Held.{ReceiverHalf, half_noted, held, parts_of}
use Rattle.avs_receiver.specs.Meaning.{FindsEither, IsReceiverInStep, contents_in, found_by, half_by, has_set, images_in, is_of, lies_on, receiver_of, slots_of, vols_of, IsLandedFor, vols_in}
use Rattle.avs_receiver.specs.Slots.{AreEmpty}
use Rattle.avs_receiver.specs.Asking.{IsAsked, IsNotAsked, asked_note, is_reverse}
use Rattle.avs_receiver.proofs.Meanings.{found_old, lies_is, stored_is, zeros_are, fits_parts}
use Rattle.avs_receiver.proofs.Leavings.{noted_spared, noted_stays, note_failed}

-- nothing has landed of a later session
apart : (kind of number : ℕ) → (not (eqb kind 0) ≡ true → of < number) → (not (eqb kind 0) && eqb of number) ≡ false
apart kind of number earlier = elim (cases_Bool (not (eqb kind 0))) [
  | inl some ↦ let low : of < number = earlier some in grind (arith, nat_tests)
  | inr none ↦ rw none refl
]

-- of a set that is there, and of one that is not
gone : (there was now : Bool) → (there ≡ true → now ≡ false) → (there && now) ≡ (not there && (there && was))
gone true was now none = none refl
gone false was now none = refl

pub emptied_is : (sets : List SetBits) (old new : ℕ) → AreEmpty sets old new → contents_in new (slots_of sets) ≡ (λ (set : ℕ). not (nat_lt set (length (vols_of sets))) && contents_in old (slots_of sets) set)
emptied_is sets old new empty = fun_ext (λ set. at set)
  where
    at : (set : ℕ) → (nat_lt set (length (slots_of sets)) && is_filled new (get_or (slots_of sets) set 0)) ≡ (not (nat_lt set (length (vols_of sets))) && (nat_lt set (length (slots_of sets)) && is_filled old (get_or (slots_of sets) set 0)))
    at set =
        let count : length (slots_of sets) ≡ length (vols_of sets) = length-map sets (λ s. s.slot) ∙ sym (length-map sets (λ s. s.vol)) in
        rw (← count) (gone (nat_lt set (length (slots_of sets))) (is_filled old (get_or (slots_of sets) set 0)) (is_filled new (get_or (slots_of sets) set 0))
        (λ there. ap (λ (slot : ℕ). is_filled new slot) (get_or-map (λ s. s.slot) sets set no_set)
        ∙ empty.sets_are set (subst (λ (n : ℕ). set < n) (length-map sets (λ s. s.slot)) (below_is set (length (slots_of sets)) there))))

module _ (sound : Type 0) (below new : BelowSeen) (h : ReceiverHalf) (session empty : ℕ) (later : h.note.session < session) (slots : AreEmpty h.sets h.note.empty empty) where
  abbrev n : Note
  n = asked_note session empty (is_reverse h.host)

  half_asked : (kept : Sets) → new.images ≡ below.images → half_by (asked_note session empty (is_reverse h.host)) 0 new.images (vols_of h.sets) (slots_of h.sets) (due_of h.sets) (has_set (vols_of h.sets)) ≡ asked (receiver_of kept (held below h)) session
  half_asked kept images = λ i. record (asked (receiver_of kept (held below h)) session) {
    contents = emptied_is h.sets h.note.empty empty slots i;
    images = images_in (images i) (vols_of h.sets);
    due = sym (zeros_are h.sets) i;
  }

  unlanded : IsReceiverInStep sound (held below h) → is_of (asked_note session empty (is_reverse h.host)) h.land.header ≡ false
  unlanded st = apart h.land.header.kind h.land.header.session session (λ some. let low = st.memory.landing.fits.earlier some in omega (arith, low, later))

  off_of : (a b : Bool) → a ≡ false → (a && b) ≡ true → ⊥
  off_of true b isnt is = absurd (cc)
  off_of false b isnt is = absurd (cc)

  -- so nothing that has landed is done once more
  fits_then : (vols : List ℕ) → IsReceiverInStep sound (held below h) → IsLandedFor (asked_note session empty (is_reverse h.host)) h.land.header vols new
  fits_then vols st = record {
    earlier = λ some. let low = st.memory.landing.fits.earlier some in omega (arith, low, later);
    room = λ is. absurd (off_of (is_of (asked_note session empty (is_reverse h.host)) h.land.header) true (unlanded st) is);
  }

  pub is_asked : {T E : Type 0} (sound_new : Type 0) (u : T) → PutsNote {E = E} sound below (asked_note session empty (is_reverse h.host)) (Ok u) new → (sound → sound_new)
      → IsAsked sound sound_new (held below h) session (held new (half_noted h (asked_note session empty (is_reverse h.host)) 0))
  is_asked sound_new u p sounds = record {
    later = later;
    note = record { is = refl; slots = slots };
    none = refl;
    stays = noted_stays sound below new h n 0 p.bytes (Ok u) p.sets;
    spared = noted_spared sound below new h n 0 p.bytes u p.sets;
    done = λ s kept. half_asked kept (p.sets.images s);
    step = λ st. record {
      memory = record {
        sound = sounds st.memory.sound;
        stored = p.sets.stored (told_note below below.note st.memory.stored) ∙ ap Some (sym p.sets.done);
        note = subst (λ (bytes : List ℕ). IsNote bytes n) (sym p.sets.done) p.is;
        volumes = λ set there. (below_noted sound below new p.bytes (Ok u) p.sets).told st.memory.sound (set_at h.sets set).vol (st.memory.volumes set there);
        bits = st.memory.bits;
        landing = record {
          told = st.memory.landing.told;
          step = st.memory.landing.step;
          fits = fits_then (vols_of h.sets) st;
          place = sym (ap (λ (b : Bool). cond b h.land.header.place 0) (unlanded st));
        };
      };
      again = λ kept is. absurd (off_of (is_of (asked_note session empty (is_reverse h.host)) h.land.header) true (unlanded st) is);
      wiped = λ is. absurd (cc);
    };
  }

  pub is_not_asked : {T E : Type 0} (why : Refusal) (e : E) → why ≡ refusal.Fault → IsOver new h.sets → PutsNote {T = T} sound below (asked_note session empty (is_reverse h.host)) (Err e) new
      → IsNotAsked sound (held below h) session why (held new h)
  is_not_asked why e answer over p = record {
    answer = answer;
    later = later;
    stays = noted_stays sound below new h h.note h.applied p.bytes (Err e) p.sets;
    failed = note_failed sound below new h p.bytes e p.sets;
    stopped = λ st kept. stopped st kept (p.sets.left (told_note below below.note st.memory.stored));
  }
    where
      found : IsReceiverInStep sound (held below h) → (kept : Sets) → found_by (has_set (vols_of h.sets)) n h.land.header (parts_of (held new h)) ≡ left_receiver (asked (receiver_of kept (held below h)) session)
      found st kept = ap left_receiver (off (is_of n h.land.header) true (unlanded st) _ (lies_on (has_set (vols_of h.sets)) n h.land.header (parts_of (held new h)))
          ∙ lies_is (has_set (vols_of h.sets)) n h.land.header new h st.memory.bits over
          ∙ (λ i. half_by n (cond (unlanded st i) h.land.header.place 0) new.images (vols_of h.sets) (slots_of h.sets) (due_of h.sets) (has_set (vols_of h.sets)))
          ∙ half_asked kept (p.sets.images st.memory.sound))
        where
          off : (a b : Bool) → a ≡ false → {X : Type 0} (x y : X) → cond (a && b) x y ≡ y
          off true b isnt x y = absurd (cc)
          off false b isnt x y = refl

      stopped : IsReceiverInStep sound (held below h) → (kept : Sets) → (new.stored ≡ below.stored) ⊎ (new.stored ≡ Some p.bytes)
          → FindsEither (parts_of (held new h)) (left_receiver (receiver_of kept (held below h))) (left_receiver (asked (receiver_of kept (held below h)) session))
      stopped st kept (inl same) = inl (record {
        note = h.note;
        header = h.land.header;
        noted = stored_is new below.note h.note (same ∙ st.memory.stored) st.memory.note;
        landed = st.memory.landing.step;
        fits = fits_parts h.note h.land.header h.sets h.sets below new refl p.sets.sizes st.memory.landing.fits;
        found = found_old sound kept below new h st (p.sets.images st.memory.sound) over;
      })
      stopped st kept (inr put) = inr (record {
        note = n;
        header = h.land.header;
        noted = stored_is new p.bytes n put p.is;
        landed = st.memory.landing.step;
        fits = fits_then (vols_in (parts_of (held new h))) st;
        found = found st kept;
      })
