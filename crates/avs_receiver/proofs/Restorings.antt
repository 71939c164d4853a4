-- What a restoration leaves of a receiver.
use Rattle.std.proofs.Common.{◌≡◌, ◌≢◌, ◌⊎◌, inl, inr, ℕ, ◌<◌, ◌≤◌, Bool, true, false, ◌&&◌, ◌||◌, not, cond, eqb, List, [], length, map, get_or, Result, Ok, Err, ◌∙◌, sym, refl, ap, subst, arith}
use Rattle.std.specs.Prelude.{nat_lt}
use Rattle.std.specs.Int.{bit_at}
use Rattle.std.proofs.Math.Path.{fun_ext}
use Rattle.std.proofs.Math.ListN.{get_or-map}
use Rattle.std.proofs.lemmas.List.{length-map}
use Rattle.std.proofs.lemmas.Bool.{cases_Bool, cases_lt}
use Rattle.std.proofs.lemmas.Bool.Decides.{nat_tests}
use Rattle.avs_seg.specs.Image.{Image, block_at}
use Rattle.avs_dev.specs.Below.{BelowSeen, IsToldAt}
use Rattle.avs_dev.specs.Devices.{OneRose}
use Rattle.avs_dev.proofs.Going.{spared_same}
use Rattle.avs_code.specs.declared.land_headers.LandHeader.{LandHeader}
use Rattle.avs_model.specs.declared.answer.Refusal.TheVariants as refusal
use Rattle.avs_mirrors.specs.Accepts.{AcceptsRestore}
use Rattle.avs_mirrors.specs.Due.{noted}
use Rattle.avs_mirrors.specs.Entries.{Images}
use Rattle.avs_mirrors.specs.Half.{HalfState, Sets, is_marked, is_session, with_bits}
use Rattle.avs_sync.specs.Note.{IsNote}
use Rattle.avs_sync.specs.declared.note.Note.{Note}
use Rattle.avs_halves.specs.Changing.{ChangesSets}
use Rattle.avs_halves.specs.Found.{is_filled}
use Rattle.avs_halves.specs.Marks.{AreMarks, AreNamedFilled, Mark, changed_all, marked, named, restored_in}
use Rattle.avs_halves.specs.Over.{IsOver}
use Rattle.avs_halves.specs.Restoring.{IsGiven, IsRestoredTo, KeepsVolume, LeavesAll, RestoresAll, RestoresOrLeaves}
use Rattle.avs_halves.specs.SetBits.{AreInStep, SetBits, due_of, no_set, set_at}
use Rattle.avs_halves.proofs.Errands.{filled_noted, one_given, over_run, run_before}
use Rattle.avs_halves.proofs.Filling.{marks_inside, named_there}
use Rattle.avs_halves.proofs.Lying.{due_is}
use Rattle.avs_halves.proofs.Ran.{EndsWith, contents_named as named_slots, last_left, last_others, last_restored, note_then, stored_then, told_then}
use Rattle.avs_halves.proofs.Restored.{are_restored, restored_is}
use Rattle.avs_halves.proofs.Staying.{over_changed, sets_stay, told_note}
use Rattle.avs_halves.proofs.Writings.{all_noted, same_slots, same_vols}
use Rattle.avs_receiver.specs.Held.{ReceiverHalf, ReceiverHeld, half_noted, held, parts_of}
use Rattle.avs_receiver.specs.Meaning.{Finds, IsLandedFor, IsReceiverInStep, StandsFor, contents_in, found_by, half_by, images_in, is_redone, receiver_of, slots_of, state_in, vols_of}
use Rattle.avs_receiver.specs.Restoring.{FindsSomeBits, IsRestoreDone, IsRestoreStopped, RestoresNoted, RunsErrand}
use Rattle.avs_receiver.specs.Slots.{IsFree}
use Rattle.avs_receiver.proofs.Leavings.{session_sets}
use Rattle.avs_receiver.proofs.Meanings.{part_slots, part_vols, stored_is}
use Rattle.avs_receiver.proofs.Stopped.{due_some, found_away, some_keys, some_within}
use Rattle.avs_receiver.proofs.Written.{away_again, away_is, away_unmarked, never}

low_on : (a b : ℕ) → a < b → nat_lt a b ≡ true
low_on a b low = grind (arith, nat_tests)

high_off : (a b : ℕ) → b ≤ a → nat_lt a b ≡ false
high_off a b high = grind (arith, nat_tests)

-- nothing is done once more of a half in no session
away_fits : (n : Note) (l : LandHeader) (vols : List ℕ) (below : BelowSeen) → is_session (state_in n) ≡ false → (not (eqb l.kind 0) ≡ true → l.session ≤ n.session) → IsLandedFor n l vols below
away_fits n l vols below away earlier = record { earlier = earlier; room = λ is. absurd (never (is_redone n l) (away_again n l away) is) }

-- ---- images and contents of the sets

module _ (h : ReceiverHalf) where
  image_there : (images : List Image) (set : ℕ) → set < length h.sets → images_in images (vols_of h.sets) set ≡ get_or images (set_at h.sets set).vol []
  image_there images set low =
      ap (λ (b : Bool). cond b (get_or images (get_or (vols_of h.sets) set 0) []) []) (low_on set (length (vols_of h.sets)) (omega (arith, low, length-map h.sets (λ s. s.vol))))
      ∙ ap (λ (v : ℕ). get_or images v []) (get_or-map (λ s. s.vol) h.sets set no_set)

  image_past : (images : List Image) (set : ℕ) → length h.sets ≤ set → images_in images (vols_of h.sets) set ≡ []
  image_past images set high =
      ap (λ (b : Bool). cond b (get_or images (get_or (vols_of h.sets) set 0) []) []) (high_off set (length (vols_of h.sets)) (omega (arith, high, length-map h.sets (λ s. s.vol))))

  image_kept : (below new : BelowSeen) (set : ℕ) → (set < length h.sets → KeepsVolume below new (set_at h.sets set).vol) → images_in new.images (vols_of h.sets) set ≡ images_in below.images (vols_of h.sets) set
  image_kept below new set keeps = elim (cases_lt set (length h.sets)) [
    | inl low ↦ image_there new.images set low ∙ (keeps low).image ∙ sym (image_there below.images set low)
    | inr high ↦ image_past new.images set high ∙ sym (image_past below.images set high)
  ]

  pub images_left : (below new : BelowSeen) → ((set : ℕ) → set < length h.sets → KeepsVolume below new (set_at h.sets set).vol) → images_in new.images (vols_of h.sets) ≡ images_in below.images (vols_of h.sets)
  images_left below new each = fun_ext (λ set. image_kept below new set (each set))

  contents_at : (empty set : ℕ) → contents_in empty (slots_of h.sets) set ≡ (nat_lt set (length h.sets) && is_filled empty (set_at h.sets set).slot)
  contents_at empty set = λ i. nat_lt set (length-map h.sets (λ s. s.slot) i) && is_filled empty (get_or-map (λ s. s.slot) h.sets set no_set i)

  module _ (marks : List Mark) (below new : BelowSeen) (over : IsOver below h.sets) (are : AreMarks h.sets marks) where
    pub images_named : (bytes : List ℕ) (ok : Bool) → RestoresAll h.sets marks bytes ok below new
        → images_in new.images (vols_of h.sets) ≡ (λ t. cond (named marks t) (images_in new.images (vols_of h.sets) t) (images_in below.images (vols_of h.sets) t))
    images_named bytes ok r = fun_ext (λ t. elim (cases_Bool (named marks t)) [
      | inl on ↦ sym (ap (λ (b : Bool). cond b (images_in new.images (vols_of h.sets) t) (images_in below.images (vols_of h.sets) t)) on)
      | inr off ↦ image_kept below new t (λ low. r.others t low off)
          ∙ sym (ap (λ (b : Bool). cond b (images_in new.images (vols_of h.sets) t) (images_in below.images (vols_of h.sets) t)) off)
    ])

    pub contents_named : (empty : ℕ) → AreNamedFilled h.sets marks h.note.empty empty
        → contents_in empty (slots_of h.sets) ≡ (λ t. named marks t || contents_in h.note.empty (slots_of h.sets) t)
    contents_named empty f = fun_ext (λ t. contents_at empty t ∙ named_slots h.sets marks below over are h.note.empty empty f t
        ∙ ap (λ (b : Bool). named marks t || b) (sym (contents_at h.note.empty t)))

    -- what the machine asks of it
    pub accepts : (sound : Type 0) (kept : Sets) (bytes : List ℕ) (ok : Bool) → is_session (state_in h.note) ≡ false → IsReceiverInStep sound (held below h) → RestoresAll h.sets marks bytes ok below new
        → AcceptsRestore (receiver_of kept (held below h)) (marked marks) (restored_in marks (images_in new.images (vols_of h.sets)))
    accepts sound kept bytes ok away st r = record {
      away = away_is h.note away;
      sets = are_restored marks (receiver_of kept (held below h)) (marked marks) (images_in new.images (vols_of h.sets)) (λ set on.
          let v = r.changed set on in
          let low = named_there h.sets marks set are on in
          let told = st.memory.volumes set low in
          record {
            size = λ is. ap (λ (img : Image). length img) (image_there new.images set low) ∙ v.told told ∙ v.size ∙ sym told ∙ sym (ap (λ (img : Image). length img) (image_there below.images set low));
            outside = λ is i off. ap (λ (img : Image). block_at img i) (image_there new.images set low) ∙ v.outside told i off ∙ sym (ap (λ (img : Image). block_at img i) (image_there below.images set low));
          });
    }

-- ---- what it stands for, and what is found of it

-- the half with these sets, whose note has these slots without contents
abbrev pub half_with : ReceiverHalf → List SetBits → ℕ → ReceiverHalf
half_with h sets empty = record h { sets = sets; note = record h.note { empty = empty } }

module _ (sound : Type 0) (below new : BelowSeen) (h : ReceiverHalf) (marks : List Mark) (over : IsOver below h.sets) (are : AreMarks h.sets marks) (away : is_session (state_in h.note) ≡ false)
    {E : Type 0} (u : Unit {0}) (sets : List SetBits) (c : ChangesSets {E = E} (marked marks) true h.sets (Ok u) sets) where
  abbrev pub noted_half : Sets → HalfState
  noted_half kept = with_bits (receiver_of kept (held below h)) (marked marks)

  abbrev pub images_then : Images
  images_then = images_in new.images (vols_of h.sets)

  abbrev pub restored_half : Sets → HalfState
  restored_half kept = changed_all (noted_half kept) (restored_in marks images_then)

  -- field by field
  abbrev named_half : Sets → HalfState
  named_half kept = record (with_bits (receiver_of kept (held below h)) (marked marks)) {
    images = λ t. cond (named marks t) (images_then t) (images_in below.images (vols_of h.sets) t);
    contents = λ t. named marks t || contents_in h.note.empty (slots_of h.sets) t;
    kept = λ t. cond (named marks t) false (kept t);
  }

  restored_same : (kept : Sets) → restored_half kept ≡ named_half kept
  restored_same kept = restored_is marks (noted_half kept) images_then

  due_then : due_of sets ≡ noted (due_of h.sets) (marked marks)
  due_then = all_noted (marked marks) h.sets sets u c (λ set seg on. marks_inside h.sets marks set seg are on)

  vols_then : vols_of sets ≡ vols_of h.sets
  vols_then = same_vols (marked marks) true h.sets sets (Ok u) c

  slots_then : slots_of sets ≡ slots_of h.sets
  slots_then = same_slots (marked marks) true h.sets sets (Ok u) c

  -- by its sets before, whatever its images, contents and place are
  by_before : (empty applied : ℕ) (images : List Image) (kept : Sets) → half_by (record h.note { empty = empty }) applied images (vols_of sets) (slots_of sets) (due_of sets) kept
      ≡ half_by (record h.note { empty = empty }) applied images (vols_of h.sets) (slots_of h.sets) (noted (due_of h.sets) (marked marks)) kept
  by_before empty applied images kept = λ i. half_by (record h.note { empty = empty }) applied images (vols_then i) (slots_then i) (due_then i) kept

  left_by : (kept : Sets) → ((set : ℕ) → set < length h.sets → KeepsVolume below new (set_at h.sets set).vol)
      → half_by h.note h.applied new.images (vols_of h.sets) (slots_of h.sets) (noted (due_of h.sets) (marked marks)) kept ≡ noted_half kept
  left_by kept each = λ i. record (noted_half kept) { images = images_left h below new each i }

  restored_by : (kept : Sets) (empty : ℕ) (bytes : List ℕ) (ok : Bool) → AreNamedFilled h.sets marks h.note.empty empty → RestoresAll h.sets marks bytes ok below new
      → half_by (record h.note { empty = empty }) h.applied new.images (vols_of h.sets) (slots_of h.sets) (noted (due_of h.sets) (marked marks)) (λ t. cond (named marks t) false (kept t)) ≡ named_half kept
  restored_by kept empty bytes ok f r = λ i. record (named_half kept) {
    images = images_named h marks below new over are bytes ok r i;
    contents = contents_named h marks below new over are empty f i;
  }

  -- ---- in memory

  pub stands_left : (kept : Sets) → ((set : ℕ) → set < length h.sets → KeepsVolume below new (set_at h.sets set).vol) → StandsFor (held new (half_with h sets h.note.empty)) (noted_half kept)
  stands_left kept each = by_before h.note.empty h.applied new.images kept ∙ left_by kept each

  pub stands_restored : (kept : Sets) (empty : ℕ) (bytes : List ℕ) (ok : Bool) → AreNamedFilled h.sets marks h.note.empty empty → RestoresAll h.sets marks bytes ok below new
      → StandsFor (held new (half_with h sets empty)) (restored_half kept)
  stands_restored kept empty bytes ok f r = subst (λ (x : HalfState). StandsFor (held new (half_with h sets empty)) x) (sym (restored_same kept))
      (by_before empty h.applied new.images (λ t. cond (named marks t) false (kept t)) ∙ restored_by kept empty bytes ok f r)

  -- ---- on disks

  step_then : AreInStep h.sets → AreInStep sets
  step_then st = record { told = λ t. (c.part t).lasts.told (st.told t); step = λ t. (c.done t).step (st.told t) (st.step t) }

  over_then : IsOver new h.sets → IsOver new sets
  over_then over_new = over_changed new new h.sets sets refl c.count (sets_stay (marked marks) true h.sets sets (Ok u) c) over_new

  found_then : (kept : Sets) (empty : ℕ) → IsReceiverInStep sound (held below h) → IsOver new h.sets
      → found_by kept (record h.note { empty = empty }) h.land.header (parts_of (held new (record h { sets = sets })))
      ≡ half_by (record h.note { empty = empty }) h.applied new.images (vols_of h.sets) (slots_of h.sets) (noted (due_of h.sets) (marked marks)) kept
  found_then kept empty st over_new = found_away kept (record h.note { empty = empty }) h.land.header (parts_of (held new (record h { sets = sets }))) away
      ∙ (λ i. half_by (record h.note { empty = empty }) (sym st.memory.landing.place i) new.images ((part_vols sets ∙ vols_then) i) ((part_slots sets ∙ slots_then) i)
      ((due_is new sets (step_then st.memory.bits) (over_then over_new) ∙ due_then) i) kept)

  pub finds_left : (kept : Sets) (ok : Bool) → IsReceiverInStep sound (held below h) → IsOver new h.sets → LeavesAll h.sets ok below new
      → Finds (parts_of (held new (record h { sets = sets }))) (noted_half kept)
  finds_left kept ok st over_new l = record {
    note = h.note;
    header = h.land.header;
    noted = stored_is new below.note h.note (l.stored ∙ st.memory.stored) st.memory.note;
    landed = st.memory.landing.step;
    fits = away_fits h.note h.land.header (map (λ m. m.vol) (parts_of (held new (record h { sets = sets }))).sets) new away st.memory.landing.fits.earlier;
    found = found_then kept h.note.empty st over_new ∙ left_by kept l.each;
  }

  pub finds_restored : (kept : Sets) (empty : ℕ) (bytes : List ℕ) (ok : Bool) → IsReceiverInStep sound (held below h) → IsOver new h.sets → IsNote bytes (record h.note { empty = empty })
      → AreNamedFilled h.sets marks h.note.empty empty → RestoresAll h.sets marks bytes ok below new
      → Finds (parts_of (held new (record h { sets = sets }))) (restored_half kept)
  finds_restored kept empty bytes ok st over_new is f r = subst (λ (x : HalfState). Finds (parts_of (held new (record h { sets = sets }))) x) (sym (restored_same kept)) (record {
    note = record h.note { empty = empty };
    header = h.land.header;
    noted = stored_is new bytes (record h.note { empty = empty }) (r.stored (told_note below below.note st.memory.stored)) is;
    landed = st.memory.landing.step;
    fits = away_fits (record h.note { empty = empty }) h.land.header (map (λ m. m.vol) (parts_of (held new (record h { sets = sets }))).sets) new away st.memory.landing.fits.earlier;
    found = found_then (λ t. cond (named marks t) false (kept t)) empty st over_new ∙ restored_by kept empty bytes ok f r;
  })

  -- ---- at Ok

  module _ (bytes : List ℕ) (empty last : ℕ) (is : IsNote bytes (record h.note { empty = empty })) (f : AreNamedFilled h.sets marks h.note.empty empty)
      (run : RestoresOrLeaves h.sets marks bytes true below new) (ends : EndsWith new bytes h.note.empty empty last) where
    given : IsGiven h.sets h.note marks bytes
    given = record { note = record h.note { empty = empty }; stands = is; restoring = record { is = refl; filled = f } }

    unnamed_slots : (slot : ℕ) → slot < 16 → IsFree h.sets slot → bit_at last slot ≡ bit_at h.note.empty slot
    unnamed_slots slot low free = last_others h.sets marks new bytes h.note.empty empty last f ends slot low (λ set on same. free set (named_there h.sets marks set are on) same)

    restored_then : IsReceiverInStep sound (held below h) → (other : List ℕ) → IsGiven h.sets h.note marks other → RestoresAll h.sets marks other true below new → (kept : Sets)
        → IsRestoredTo (StandsFor (held new (half_with h sets last))) (receiver_of kept (held below h)) marks
    restored_then st other g r kept = record {
      images = images_then;
      accepts = accepts h marks below new over are sound kept other true away st r;
      so = subst (λ (k : ℕ). StandsFor (held new (half_with h sets k)) (restored_half kept)) (sym (last_restored new bytes h.note.empty empty last (r.note refl ∙ one_given h.sets h.note marks other bytes g given) ends)) (stands_restored kept empty other true f r);
    }

    pub restore_done : (sound_new : Type 0) → IsRestoreDone sound sound_new (held below h) marks (held new (half_with h sets last))
    restore_done sound_new = record {
      away = away;
      stays = record { host = refl; queue = refl; land = refl; count = c.count; sets = sets_stay (marked marks) true h.sets sets (Ok u) c; labels = λ t. (c.part t).label };
      session = record { number = refl; role = refl; reverse = refl; applied = refl; mark = refl; slots = unnamed_slots };
      spared = λ t. (c.done t).spared;
      left = λ st l kept. subst (λ (k : ℕ). StandsFor (held new (half_with h sets k)) (noted_half kept)) (sym (last_left h.sets marks below new h.note bytes empty last st.memory.note is l ends)) (stands_left kept l.each);
      restored = restored_then;
      step = λ s st. record {
        memory = record {
          sound = s;
          stored = stored_then h.sets marks below new bytes st.memory.stored run;
          note = note_then h.sets marks below new h.note bytes empty last st.memory.note is run ends;
          volumes = λ t low. subst (λ (v : ℕ). IsToldAt new v) (sym (ap (λ (s : SetBits). s.vol) (c.part t).rest)) (told_then h.sets marks below new bytes true st.memory.volumes run t (omega (arith, low, c.count)));
          bits = step_then st.memory.bits;
          landing = record {
            told = st.memory.landing.told;
            step = st.memory.landing.step;
            fits = away_fits (record h.note { empty = last }) h.land.header (vols_of sets) new away st.memory.landing.fits.earlier;
            place = st.memory.landing.place;
          };
        };
        again = λ kept is. absurd (never (is_redone h.note h.land.header) (away_again h.note h.land.header away) is);
        wiped = λ is. absurd (never (is_marked (state_in h.note)) (away_unmarked h.note away) is);
      };
    }

  -- ---- where the errand failed

  pub restore_failed : (bytes : List ℕ) → RestoresOrLeaves h.sets marks bytes false below new → OneRose below.faults new.faults
      → IsRestoreStopped sound (held below h) marks refusal.Fault (held new (record h { sets = sets }))
  restore_failed bytes run rose = record {
    answer = refl;
    away = away;
    stays = record { host = refl; queue = refl; land = refl; count = c.count; sets = sets_stay (marked marks) true h.sets sets (Ok u) c; labels = λ t. (c.part t).label };
    session = session_sets h sets;
    stopped = inr (record {
      rose = rose;
      spared = λ t. (c.done t).spared;
      left = λ st l kept. finds_left kept false st over_new l;
      restored = λ st other given r kept. record {
        images = images_then;
        accepts = accepts h marks below new over are sound kept other false away st r;
        so = finds_restored kept given.note.empty other false st over_new (subst (λ (n : Note). IsNote other n) given.restoring.is given.stands) given.restoring.filled r;
      };
    });
  }
    where
      over_new : IsOver new h.sets
      over_new = over_run h.sets marks bytes false below new run over

-- ---- behind the bits the errand has run

module _ (sound sound_new : Type 0) (below : BelowSeen) (h : ReceiverHalf) (marks : List Mark) (over : IsOver below h.sets) (are : AreMarks h.sets marks) (away : is_session (state_in h.note) ≡ false)
    {E : Type 0} (u : Unit {0}) (sets : List SetBits) (c : ChangesSets {E = E} (marked marks) true h.sets (Ok u) sets) (last : ReceiverHeld) where
  -- the note that was given
  module _ (bytes : List ℕ) (noted : IsGiven sets h.note marks bytes) where
    abbrev slots : ℕ
    slots = noted.note.empty

    filled_then : AreNamedFilled h.sets marks h.note.empty slots
    filled_then = filled_noted (marked marks) true h.sets sets (Ok u) c marks h.note.empty slots noted.restoring.filled

    is_then : IsNote bytes (record h.note { empty = slots })
    is_then = subst (λ (n : Note). IsNote bytes n) noted.restoring.is noted.stands

    ends_then : (run : RestoresOrLeaves h.sets marks bytes true below last.below)
        → (((last.below.note ≢ bytes) × (last.half ≡ record h { sets = sets })) ⊎ ((last.below.note ≡ bytes) × (last.half ≡ half_noted (record h { sets = sets }) noted.note h.applied)))
        → IsRestoreDone sound sound_new (held below h) marks last
    ends_then run (inl other) = subst (λ (half : ReceiverHalf). IsRestoreDone sound sound_new (held below h) marks (held last.below half)) (sym other.1)
        (restore_done sound below last.below h marks over are away u sets c bytes slots h.note.empty is_then filled_then run (inl (other.0, refl)) sound_new)
    ends_then run (inr same) = subst (λ (half : ReceiverHalf). IsRestoreDone sound sound_new (held below h) marks (held last.below half)) (sym (same.1 ∙ ap (λ (n : Note). half_noted (record h { sets = sets }) n h.applied) noted.restoring.is))
        (restore_done sound below last.below h marks over are away u sets c bytes slots slots is_then filled_then run (inr (same.0, refl)) sound_new)

    fails_then : RestoresOrLeaves h.sets marks bytes false below last.below → last.half ≡ record h { sets = sets } → OneRose below.faults last.below.faults → IsRestoreStopped sound (held below h) marks refusal.Fault last
    fails_then run half rose = subst (λ (half : ReceiverHalf). IsRestoreStopped sound (held below h) marks refusal.Fault (held last.below half)) (sym half)
        (restore_failed sound below last.below h marks over are away u sets c bytes run rose)

  pub noted_then : {F : Type 0} (r : Result (Unit {0}) F) → RunsErrand (held below (record h { sets = sets })) marks r last → RestoresNoted sound sound_new (held below h) marks r last
  noted_then (Ok x) e = ends_then e.bytes e.given (run_before (marked marks) true h.sets sets (Ok u) c marks e.bytes true below last.below e.below) e.done
  noted_then (Err x) e = fails_then e.bytes e.given (run_before (marked marks) true h.sets sets (Ok u) c marks e.bytes false below last.below e.below) e.failed e.rose

-- ---- where it stopped in the bits

module _ {E : Type 0} (sound : Type 0) (below : BelowSeen) (h : ReceiverHalf) (marks : List Mark) (over : IsOver below h.sets) (away : is_session (state_in h.note) ≡ false)
    (e : E) (sets : List SetBits) (c : ChangesSets {T = Unit {0}} (marked marks) true h.sets (Err e) sets) where
  some_found : IsReceiverInStep sound (held below h) → (kept : Sets) → FindsSomeBits (parts_of (held below (record h { sets = sets }))) (receiver_of kept (held below h)) (marked marks)
  some_found st kept = record {
    part = some_keys (marked marks) below h sets (Err e) c over st.memory.bits;
    within = some_within (marked marks) below h sets (Err e) c over st.memory.bits;
    finds = record {
      note = h.note;
      header = h.land.header;
      noted = stored_is below below.note h.note st.memory.stored st.memory.note;
      landed = st.memory.landing.step;
      fits = away_fits h.note h.land.header (map (λ m. m.vol) (parts_of (held below (record h { sets = sets }))).sets) below away st.memory.landing.fits.earlier;
      found = found_away kept h.note h.land.header (parts_of (held below (record h { sets = sets }))) away
          ∙ (λ i. half_by h.note (sym st.memory.landing.place i) below.images
          ((part_vols sets ∙ same_vols (marked marks) true h.sets sets (Err e) c) i)
          ((part_slots sets ∙ same_slots (marked marks) true h.sets sets (Err e) c) i)
          (due_some (marked marks) below h sets (Err e) c over st.memory.bits i) kept);
    };
  }

  pub bits_failed : IsRestoreStopped sound (held below h) marks refusal.Fault (held below (record h { sets = sets }))
  bits_failed = record {
    answer = refl;
    away = away;
    stays = record { host = refl; queue = refl; land = refl; count = c.count; sets = sets_stay (marked marks) true h.sets sets (Err e) c; labels = λ t. (c.part t).label };
    session = session_sets h sets;
    stopped = inl (record {
      failed = record { failed = c.failed; below = record { faults = refl; armed = refl }; land = spared_same h.land.disk };
      below = refl;
      found = some_found;
    });
  }
