-- What a restoration leaves of a sender.
use Rattle.std.proofs.Common.{◌≡◌, ◌≢◌, ◌⊎◌, inl, inr, ℕ, ◌<◌, Bool, true, false, ◌&&◌, ◌||◌, not, cond, List, [], length, get_or, Result, Ok, Err, ◌∙◌, sym, refl, ap, subst, arith}
use Rattle.std.specs.Prelude.{nat_lt}
use Rattle.std.proofs.Math.Path.{fun_ext}
use Rattle.std.proofs.lemmas.Bool.{cases_Bool}
use Rattle.std.proofs.lemmas.Bool.Decides.{nat_tests}
use Rattle.avs_seg.specs.Image.{Image, block_at}
use Rattle.avs_dev.specs.Below.{BelowSeen, IsToldAt}
use Rattle.avs_dev.specs.Devices.{OneRose}
use Rattle.avs_model.specs.declared.answer.Refusal.TheVariants as refusal
use Rattle.avs_mirrors.specs.Accepts.{AcceptsRestore}
use Rattle.avs_mirrors.specs.Due.{Keys, noted, zeros}
use Rattle.avs_mirrors.specs.Entries.{Images}
use Rattle.avs_mirrors.specs.Half.{HalfState, Sets, is_receiver, is_session, no_sets, with_bits}
use Rattle.avs_sync.specs.Note.{IsNote, NoteFits, NoteKeeps}
use Rattle.avs_sync.specs.declared.note.Note.{Note}
use Rattle.avs_halves.specs.Changing.{ChangesSets}
use Rattle.avs_halves.specs.Found.{is_filled}
use Rattle.avs_halves.specs.Marks.{AreMarks, AreNamedFilled, Mark, changed_all, marked, named, restored_in}
use Rattle.avs_halves.specs.Over.{IsOver}
use Rattle.avs_halves.specs.Restoring.{IsGiven, KeepsVolume, LeavesAll, RestoresAll, RestoresOrLeaves}
use Rattle.avs_halves.specs.SetBits.{SetBits, set_at}
use Rattle.avs_halves.proofs.Errands.{filled_noted, given_noted, one_given, over_run, run_before, run_noted}
use Rattle.avs_halves.proofs.Filling.{marks_inside, named_there}
use Rattle.avs_halves.proofs.Lying.{below_is}
use Rattle.avs_halves.proofs.Ran.{EndsWith, contents_named, last_left, last_others, last_restored, note_then, stored_then, told_then}
use Rattle.avs_halves.proofs.Restored.{are_restored, restored_is}
use Rattle.avs_halves.proofs.Staying.{sets_stay, told_note}
use Rattle.avs_sender.specs.Held.{SenderHalf, SenderHeld, held, parts_of}
use Rattle.avs_sender.specs.Kept.{IsKept}
use Rattle.avs_sender.specs.Meaning.{IsSenderInStep, due_of, found_again, found_by, found_of, sender_of}
use Rattle.avs_sender.specs.Beginning.{FindsPartNoted}
use Rattle.avs_sender.specs.Restoring.{IsRestoreDone, IsRestoreStopped, MayRestore, RestoresNoted, RunsErrand, half_noted}
use Rattle.avs_sender.proofs.Admittings.{due_noted, images_parts, sender_with}
use Rattle.avs_sender.proofs.Arming.{with_sets}
use Rattle.avs_sender.proofs.Founds.{found_then}
use Rattle.avs_sender.proofs.Leavings.{logging_is}
use Rattle.avs_sender.proofs.Lendings.{there_same}
use Rattle.avs_sender.proofs.Meanings.{again_is, images_in}
use Rattle.avs_sender.proofs.Noted.{AreInside, found_all, found_changed, found_some, some_keys, some_within, step_changed}

low_on : (a b : ℕ) → a < b → nat_lt a b ≡ true
low_on a b low = grind (arith, nat_tests)

never : (b : Bool) → b ≡ false → b ≡ true → ⊥
never b off on = cc

-- its note alone is another, of which the slots are others
pub kept_noted : (h : SenderHalf) (n : Note) → IsKept h → is_session h.session.state ≡ false → n ≡ record h.note { empty = n.empty } → NoteKeeps n → NoteFits n → IsKept (half_noted h n)
kept_noted h n kept off rest keeps fits = record {
  count = kept.count;
  few = kept.few;
  slots = kept.slots;
  places = kept.places;
  note = keeps;
  fits = fits;
  session = record {
    number = kept.session.number ∙ ap (λ (x : Note). x.session) (sym rest);
    reverse = kept.session.reverse ∙ ap (λ (x : Note). x.reverse) (sym rest);
    sender = subst (λ (x : Note). h.session.sender ≡ not (is_receiver x.role)) (sym rest) kept.session.sender;
    last = kept.session.last;
    known = kept.session.known;
    mark = kept.session.mark;
    role = λ on. absurd (never (is_session h.session.state) off on);
    acting = kept.session.acting;
    idle = subst (λ (x : Note). is_receiver x.role ≡ true → h.session.last ≡ 0) (sym rest) kept.session.idle;
  };
  sends = λ on. absurd (never (is_session h.session.state) off on);
  away = kept.away;
}

-- sets of which bits alone have changed may be restored as before
pub may_noted : {E B T F : Type 0} (seen : B → BelowSeen) (ran : List ℕ → Bool → E → B → Type 0) (below : B) (h g : SenderHalf) (marks : List Mark) (keys : Keys) (on : Bool) (r : Result T F)
    → ChangesSets keys on h.sets r g.sets → g.note ≡ h.note → MayRestore seen ran (record { below = below; half = h }) marks → MayRestore seen ran (record { below = below; half = g }) marks
may_noted seen ran below h g marks keys on r c note may bytes ok e b given run = run_noted keys on h.sets g.sets r c marks bytes ok (seen below) (seen b)
    (may bytes ok e b (given_noted keys on h.sets g.sets r c h.note marks bytes (subst (λ (n : Note). IsGiven g.sets n marks bytes) note given)) run)

-- nothing was kept of any set
none_kept : (on : Sets) → no_sets ≡ (λ t. cond (on t) false (no_sets t))
none_kept on = fun_ext (λ t. both (on t))
  where
    both : (b : Bool) → false ≡ cond b false false
    both true = refl
    both false = refl

-- ---- images of the sets

module _ (sets : List SetBits) (below new : BelowSeen) where
  image_there : (images : List Image) (set : ℕ) → set < length sets → images_in sets images set ≡ get_or images (set_at sets set).vol []
  image_there images set low = ap (λ (b : Bool). cond b (get_or images (set_at sets set).vol []) []) (low_on set (length sets) low)

  image_kept : (set : ℕ) → (set < length sets → KeepsVolume below new (set_at sets set).vol) → images_in sets new.images set ≡ images_in sets below.images set
  image_kept set keeps = there_same (nat_lt set (length sets)) (get_or new.images (set_at sets set).vol []) (get_or below.images (set_at sets set).vol []) [] (λ on. (keeps (below_is set (length sets) on)).image)

  pub images_left : ((set : ℕ) → set < length sets → KeepsVolume below new (set_at sets set).vol) → images_in sets new.images ≡ images_in sets below.images
  images_left each = fun_ext (λ set. image_kept set (each set))

  pub images_named : (marks : List Mark) (bytes : List ℕ) (ok : Bool) → RestoresAll sets marks bytes ok below new
      → images_in sets new.images ≡ (λ t. cond (named marks t) (images_in sets new.images t) (images_in sets below.images t))
  images_named marks bytes ok r = fun_ext (λ t. elim (cases_Bool (named marks t)) [
    | inl on ↦ sym (ap (λ (b : Bool). cond b (images_in sets new.images t) (images_in sets below.images t)) on)
    | inr off ↦ image_kept t (λ low. r.others t low off)
        ∙ sym (ap (λ (b : Bool). cond b (images_in sets new.images t) (images_in sets below.images t)) off)
  ])

-- ---- what it stands for, and what is found of it

-- the half with these sets, whose note has these slots without contents
abbrev pub half_filled : SenderHalf → List SetBits → ℕ → SenderHalf
half_filled h sets empty = record h { sets = sets; note = record h.note { empty = empty } }

abbrev half_slots : SenderHalf → ℕ → SenderHalf
half_slots h empty = record h { note = record h.note { empty = empty } }

module _ (sound : Type 0) (below new : BelowSeen) (h : SenderHalf) (marks : List Mark) (over : IsOver below h.sets) (are : AreMarks h.sets marks) (away : is_session h.session.state ≡ false)
    (number : h.session.number ≡ h.note.session) {E : Type 0} (u : Unit {0}) (sets : List SetBits) (c : ChangesSets {E = E} (marked marks) true h.sets (Ok u) sets) where
  abbrev old_half : HalfState
  old_half = sender_of (held below h)

  abbrev pub noted_half : HalfState
  noted_half = with_bits (sender_of (held below h)) (marked marks)

  abbrev pub images_then : Images
  images_then = images_in h.sets new.images

  abbrev pub restored_half : HalfState
  restored_half = changed_all (with_bits (sender_of (held below h)) (marked marks)) (restored_in marks (images_in h.sets new.images))

  -- field by field
  abbrev named_half : HalfState
  named_half = record (with_bits (sender_of (held below h)) (marked marks)) {
    images = λ t. cond (named marks t) (images_in h.sets new.images t) (images_in h.sets below.images t);
    contents = λ t. named marks t || (nat_lt t (length h.sets) && is_filled h.note.empty (set_at h.sets t).slot);
    kept = λ t. cond (named marks t) false (no_sets t);
  }

  restored_same : restored_half ≡ named_half
  restored_same = restored_is marks noted_half images_then

  inside : AreInside h.sets (marked marks)
  inside = record { each = λ set seg on. marks_inside h.sets marks set seg are on }

  images_new : images_in sets new.images ≡ images_in h.sets new.images
  images_new = λ i. λ t. cond (nat_lt t (c.count i)) (get_or new.images ((sets_stay (marked marks) true h.sets sets (Ok u) c t).vol i) []) []

  contents_then : (empty : ℕ) → AreNamedFilled h.sets marks h.note.empty empty
      → ◌≡◌ {A = Sets} (λ t. nat_lt t (length h.sets) && is_filled empty (set_at h.sets t).slot) (λ t. named marks t || (nat_lt t (length h.sets) && is_filled h.note.empty (set_at h.sets t).slot))
  contents_then empty f = fun_ext (λ t. contents_named h.sets marks below over are h.note.empty empty f t)

  -- ---- in memory

  pub means_left : ((set : ℕ) → set < length h.sets → KeepsVolume below new (set_at h.sets set).vol) → sender_of (held new (half_filled h sets h.note.empty)) ≡ noted_half
  means_left each = sender_with (marked marks) true (Ok u) below new h (half_filled h sets h.note.empty) c refl refl (images_in h.sets below.images) (images_new ∙ images_left h.sets below new each)
      (noted (due_of h) (marked marks)) (due_noted (marked marks) h sets u c inside away)

  pub means_restored : (empty : ℕ) (bytes : List ℕ) (ok : Bool) → AreNamedFilled h.sets marks h.note.empty empty → RestoresAll h.sets marks bytes ok below new
      → sender_of (held new (half_filled h sets empty)) ≡ restored_half
  means_restored empty bytes ok f r =
      sender_with (marked marks) true (Ok u) below new (half_slots h empty) (half_filled h sets empty) c refl refl images_then images_new
      (noted (due_of h) (marked marks)) (due_noted (marked marks) (half_slots h empty) sets u c inside away)
      ∙ (λ i. record noted_half {
        images = images_named h.sets below new marks bytes ok r i;
        contents = contents_then empty f i;
        kept = none_kept (named marks) i;
      })
      ∙ sym restored_same

  -- ---- on disks

  pub finds_left : (ok : Bool) → IsSenderInStep sound (held below h) → IsOver new h.sets → LeavesAll h.sets ok below new
      → found_again (parts_of (held new (with_sets h sets))) ≡ found_of noted_half
  finds_left ok st over_new l = ap (λ (n : Note). found_by n (parts_of (held new (with_sets h sets)))) (again_is new below.note h.note (l.stored ∙ st.stored) st.note)
      ∙ found_then below new h (with_sets h sets) (marked marks) true (Ok u) c h.note (sym number) refl refl (images_in h.sets below.images) (zeros (noted (due_of h) (marked marks)))
      (images_parts new (with_sets h sets) ∙ images_new ∙ images_left h.sets below new l.each)
      (found_all (marked marks) new new h sets u c inside st.bits refl over_new)

  pub finds_restored : (empty : ℕ) (bytes : List ℕ) (ok : Bool) → IsSenderInStep sound (held below h) → IsOver new h.sets → IsNote bytes (record h.note { empty = empty })
      → AreNamedFilled h.sets marks h.note.empty empty → RestoresAll h.sets marks bytes ok below new
      → found_again (parts_of (held new (with_sets h sets))) ≡ found_of restored_half
  finds_restored empty bytes ok st over_new is f r =
      ap (λ (n : Note). found_by n (parts_of (held new (with_sets h sets)))) (again_is new bytes (record h.note { empty = empty }) (r.stored (told_note below below.note st.stored)) is)
      ∙ found_then below new (half_slots h empty) (with_sets h sets) (marked marks) true (Ok u) c (record h.note { empty = empty }) (sym number) refl refl images_then (zeros (noted (due_of h) (marked marks)))
      (images_parts new (with_sets h sets) ∙ images_new)
      (found_all (marked marks) new new h sets u c inside st.bits refl over_new)
      ∙ (λ i. record (found_of noted_half) {
        images = images_named h.sets below new marks bytes ok r i;
        contents = contents_then empty f i;
        kept = none_kept (named marks) i;
      })
      ∙ sym (ap found_of restored_same)

  -- what the machine asks of it
  pub accepts : (bytes : List ℕ) (ok : Bool) → IsSenderInStep sound (held below h) → RestoresAll h.sets marks bytes ok below new
      → AcceptsRestore (sender_of (held below h)) (marked marks) (restored_in marks (images_in h.sets new.images))
  accepts bytes ok st r = record {
    away = logging_is h.session.state away;
    sets = are_restored marks (sender_of (held below h)) (marked marks) (images_in h.sets new.images) (λ set on.
        let v = r.changed set on in
        let low = named_there h.sets marks set are on in
        let told = st.volumes set low in
        record {
          size = λ is. ap (λ (img : Image). length img) (image_there h.sets below new new.images set low) ∙ v.told told ∙ v.size ∙ sym told ∙ sym (ap (λ (img : Image). length img) (image_there h.sets below new below.images set low));
          outside = λ is i off. ap (λ (img : Image). block_at img i) (image_there h.sets below new new.images set low) ∙ v.outside told i off ∙ sym (ap (λ (img : Image). block_at img i) (image_there h.sets below new below.images set low));
        });
  }

  -- ---- at Ok

  module _ (bytes : List ℕ) (empty last : ℕ) (is : IsNote bytes (record h.note { empty = empty })) (f : AreNamedFilled h.sets marks h.note.empty empty)
      (run : RestoresOrLeaves h.sets marks bytes true below new) (ends : EndsWith new bytes h.note.empty empty last) where
    given : IsGiven h.sets h.note marks bytes
    given = record { note = record h.note { empty = empty }; stands = is; restoring = record { is = refl; filled = f } }

    pub restore_done : (sound_new : Type 0) → IsRestoreDone sound sound_new (held below h) marks (held new (half_filled h sets last))
    restore_done sound_new = record {
      away = away;
      stays = record { rest = refl; count = c.count; sets = sets_stay (marked marks) true h.sets sets (Ok u) c; slots = last_others h.sets marks new bytes h.note.empty empty last f ends };
      spared = λ t. (c.done t).spared;
      left = λ st l. subst (λ (k : ℕ). sender_of (held new (half_filled h sets k)) ≡ noted_half) (sym (last_left h.sets marks below new h.note bytes empty last st.note is l ends)) (means_left l.each);
      restored = λ st other g r. record {
        images = images_then;
        accepts = accepts other true st r;
        so = subst (λ (k : ℕ). sender_of (held new (half_filled h sets k)) ≡ restored_half)
            (sym (last_restored new bytes h.note.empty empty last (r.note refl ∙ one_given h.sets h.note marks other bytes g given) ends)) (means_restored empty other true f r);
      };
      step = λ s st. record {
        sound = s;
        stored = stored_then h.sets marks below new bytes st.stored run;
        note = note_then h.sets marks below new h.note bytes empty last st.note is run ends;
        volumes = λ t low. subst (λ (v : ℕ). IsToldAt new v) (sym (ap (λ (s : SetBits). s.vol) (c.part t).rest)) (told_then h.sets marks below new bytes true st.volumes run t (omega (arith, low, c.count)));
        bits = step_changed (marked marks) true h.sets sets u c st.bits;
      };
    }

  -- ---- where the errand failed

  pub restore_failed : (bytes : List ℕ) → RestoresOrLeaves h.sets marks bytes false below new → OneRose below.faults new.faults
      → IsRestoreStopped sound (held below h) marks refusal.Fault (held new (with_sets h sets))
  restore_failed bytes run rose = record {
    answer = refl;
    away = away;
    stays = record { rest = refl; count = c.count; sets = sets_stay (marked marks) true h.sets sets (Ok u) c; slots = λ slot low un. refl };
    stopped = inr (record {
      rose = rose;
      spared = λ t. (c.done t).spared;
      left = λ st l. finds_left false st over_new l;
      restored = λ st other given r. record {
        images = images_then;
        accepts = accepts other false st r;
        so = finds_restored given.note.empty other false st over_new (subst (λ (n : Note). IsNote other n) given.restoring.is given.stands) given.restoring.filled r;
      };
    });
  }
    where
      over_new : IsOver new h.sets
      over_new = over_run h.sets marks bytes false below new run over

-- ---- behind the bits the errand has run

module _ (sound sound_new : Type 0) (below : BelowSeen) (h : SenderHalf) (marks : List Mark) (over : IsOver below h.sets) (are : AreMarks h.sets marks) (away : is_session h.session.state ≡ false)
    (number : h.session.number ≡ h.note.session) {E : Type 0} (u : Unit {0}) (sets : List SetBits) (c : ChangesSets {E = E} (marked marks) true h.sets (Ok u) sets) (last : SenderHeld) where
  -- the note that was given
  module _ (bytes : List ℕ) (noted : IsGiven sets h.note marks bytes) where
    abbrev slots : ℕ
    slots = noted.note.empty

    filled_then : AreNamedFilled h.sets marks h.note.empty slots
    filled_then = filled_noted (marked marks) true h.sets sets (Ok u) c marks h.note.empty slots noted.restoring.filled

    is_then : IsNote bytes (record h.note { empty = slots })
    is_then = subst (λ (n : Note). IsNote bytes n) noted.restoring.is noted.stands

    ends_then : (run : RestoresOrLeaves h.sets marks bytes true below last.below)
        → (((last.below.note ≢ bytes) × (last.half ≡ with_sets h sets)) ⊎ ((last.below.note ≡ bytes) × (last.half ≡ half_noted (with_sets h sets) noted.note)))
        → IsRestoreDone sound sound_new (held below h) marks last
    ends_then run (inl other) = subst (λ (half : SenderHalf). IsRestoreDone sound sound_new (held below h) marks (held last.below half)) (sym other.1)
        (restore_done sound below last.below h marks over are away number u sets c bytes slots h.note.empty is_then filled_then run (inl (other.0, refl)) sound_new)
    ends_then run (inr same) = subst (λ (half : SenderHalf). IsRestoreDone sound sound_new (held below h) marks (held last.below half)) (sym (same.1 ∙ ap (λ (n : Note). half_noted (with_sets h sets) n) noted.restoring.is))
        (restore_done sound below last.below h marks over are away number u sets c bytes slots slots is_then filled_then run (inr (same.0, refl)) sound_new)

    fails_then : RestoresOrLeaves h.sets marks bytes false below last.below → last.half ≡ with_sets h sets → OneRose below.faults last.below.faults → IsRestoreStopped sound (held below h) marks refusal.Fault last
    fails_then run half rose = subst (λ (half : SenderHalf). IsRestoreStopped sound (held below h) marks refusal.Fault (held last.below half)) (sym half)
        (restore_failed sound below last.below h marks over are away number u sets c bytes run rose)

  pub noted_then : {F : Type 0} (r : Result (Unit {0}) F) → RunsErrand (held below (with_sets h sets)) marks r last → RestoresNoted sound sound_new (held below h) marks r last
  noted_then (Ok x) e = ends_then e.bytes e.given (run_before (marked marks) true h.sets sets (Ok u) c marks e.bytes true below last.below e.below) e.done
  noted_then (Err x) e = fails_then e.bytes e.given (run_before (marked marks) true h.sets sets (Ok u) c marks e.bytes false below last.below e.below) e.failed e.rose

-- ---- where it stopped in the bits

module _ {E : Type 0} (sound : Type 0) (below : BelowSeen) (h : SenderHalf) (marks : List Mark) (over : IsOver below h.sets) (away : is_session h.session.state ≡ false)
    (number : h.session.number ≡ h.note.session) (e : E) (sets : List SetBits) (c : ChangesSets {T = Unit {0}} (marked marks) true h.sets (Err e) sets) where
  pub finds_some : IsSenderInStep sound (held below h) → FindsPartNoted (parts_of (held below (with_sets h sets))) (sender_of (held below h)) (marked marks)
  finds_some st = record {
    part = some_keys (marked marks) below below h sets (Err e) c st.bits;
    within = some_within (marked marks) below below h sets (Err e) c st.bits;
    finds = ap (λ (n : Note). found_by n (parts_of (held below (with_sets h sets)))) (again_is below below.note h.note st.stored st.note)
        ∙ found_changed (marked marks) true h sets (Err e) c below below h.note h.session.number h.note.role (noted (due_of h) (some_keys (marked marks) below below h sets (Err e) c st.bits))
        (sym number) refl refl refl (found_some (marked marks) below below h sets (Err e) c st.bits refl over);
  }

  pub bits_failed : IsRestoreStopped sound (held below h) marks refusal.Fault (held below (with_sets h sets))
  bits_failed = record {
    answer = refl;
    away = away;
    stays = record { rest = refl; count = c.count; sets = sets_stay (marked marks) true h.sets sets (Err e) c; slots = λ slot low un. refl };
    stopped = inl (record {
      failed = record { failed = c.failed; faults = refl; armed = refl };
      below = refl;
      found = finds_some;
    });
  }
