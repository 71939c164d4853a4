-- A stopped write of the receiver's own host.
use Rattle.std.proofs.Common.{◌≡◌, ◌⊎◌, inl, inr, ℕ, ◌<◌, Bool, true, false, ◌&&◌, cond, List, [], length, map, get_or, Result, Ok, Err, is_some, ◌∙◌, sym, refl, ap, subst, arith}
use Rattle.std.specs.Prelude.{nat_lt}
use Rattle.std.proofs.Math.Path.{fun_ext}
use Rattle.std.proofs.lemmas.List.{get_or_past}
use Rattle.avs_seg.specs.Image.{Image, IsMix, blocks_of}
use Rattle.avs_seg.specs.Segment.{seg_count}
use Rattle.avs_dev.specs.Below.{BelowSeen, IsRangeOf, WritesBelow}
use Rattle.avs_dev.proofs.Going.{lasts_same, spared_same}
use Rattle.avs_bits.specs.Bit.{disk_bit}
use Rattle.avs_bits.specs.BitSet.{HoldsPart, place, set_of}
use Rattle.avs_code.specs.declared.land_headers.LandHeader.{LandHeader}
use Rattle.avs_model.specs.declared.answer.Refusal.{Refusal}
use Rattle.avs_model.specs.declared.answer.Refusal.TheVariants as refusal
use Rattle.avs_mirrors.specs.Due.{Keys, noted, nothing_due}
use Rattle.avs_mirrors.specs.Entries.{touches}
use Rattle.avs_mirrors.specs.Half.{Sets, is_marked, is_session, left_receiver, with_bits, with_change, with_set}
use Rattle.avs_sync.specs.declared.note.Note.{Note}
use Rattle.avs_halves.specs.SetBits.{AreInStep, SetBits, due_of, no_set, part_of, set_at}
use Rattle.avs_halves.specs.Changing.{ChangesSets}
use Rattle.avs_halves.specs.Writing.{touched}
use Rattle.avs_halves.specs.Over.{IsOver}
use Rattle.avs_halves.specs.Found.{due_found, bit_found, is_filled}
use Rattle.avs_halves.proofs.Staying.{below_same, below_written, over_changed, sets_stay}
use Rattle.avs_halves.proofs.Lying.{below_is, behind_is, bit_is, due_is, part_is, there_is}
use Rattle.avs_receiver.specs.Held.{ReceiverHalf, ReceiverParts, held, parts_of}
use Rattle.avs_receiver.specs.Meaning.{IsReceiverInStep, contents_in, found_by, half_by, is_of, is_redone, lies_on, receiver_of, redone, slots_of, state_in}
use Rattle.avs_receiver.specs.Writing.{FindsPartNoted, FindsTorn, IsWriteStopped, write_of}
use Rattle.avs_receiver.proofs.Meanings.{part_slots, part_vols, stored_is, fits_parts}
use Rattle.avs_receiver.proofs.Leavings.{session_sets}
use Rattle.avs_halves.proofs.Writings.{due_one, same_slots, same_vols, with_same}
use Rattle.avs_receiver.proofs.Written.{away_again, away_is, away_unmarked, contents_at, due_noted, image_is, images_are, keys_are, may, told_at}

-- ---- what is found of a half that was in no session

once : {X : Type 0} (b : Bool) (x y : X) → b ≡ false → cond b x y ≡ y
once true x y off = absurd (no off)
  where
    no : true ≡ false → ⊥
    no is = cc
once false x y off = refl

pub found_away : (kept : Sets) (n : Note) (l : LandHeader) (p : ReceiverParts) → is_session (state_in n) ≡ false
    → found_by kept n l p ≡ half_by n (cond (is_of n l) l.place 0) p.below.images (map (λ s. s.vol) p.sets) (map (λ s. s.slot) p.sets) (due_found p.below p.sets) kept
found_away kept n l p away =
    ap left_receiver (once (is_redone n l) (redone (lies_on kept n l p) l p.land.image) (lies_on kept n l p) (away_again n l away))
    ∙ (λ i. left_receiver (half_by n (cond (is_of n l) l.place 0) p.below.images (map (λ s. s.vol) p.sets) (map (λ s. s.slot) p.sets) (once (is_marked (state_in n)) nothing_due (due_found p.below p.sets) (away_unmarked n away) i) kept))
    ∙ (λ i. record (half_by n (cond (is_of n l) l.place 0) p.below.images (map (λ s. s.vol) p.sets) (map (λ s. s.slot) p.sets) (due_found p.below p.sets) kept) { state = sym (away_is n away) i })

-- ---- some of the bits

noted_some : (low was key now : Bool) → (key ≡ true → (now ≡ was) ⊎ (now ≡ true)) → (key ≡ false → now ≡ was)
    → due_one (low && now) ≡ cond (is_some (due_one (low && was))) (due_one (low && was)) (due_one (low && (key && now)))
noted_some false was key now inside outside = refl
noted_some true true true true inside outside = refl
noted_some true true true false inside outside = elim (inside refl) [ inl is ↦ absurd (cc) | inr is ↦ absurd (cc) ]
noted_some true true false now inside outside = rw (outside refl) refl
noted_some true false true true inside outside = refl
noted_some true false true false inside outside = refl
noted_some true false false now inside outside = rw (outside refl) refl

module _ {T E : Type 0} (keys : Keys) (below : BelowSeen) (h : ReceiverHalf) (sets : List SetBits) (r : Result T E) (c : ChangesSets keys true h.sets r sets) (over : IsOver below h.sets) (step : AreInStep h.sets) where
  abbrev holds : (t : ℕ) → HoldsPart (keys t) true (set_of (set_at h.sets t).bits) (set_at sets t).bits.disk.image (set_at h.sets t).bits.segs
  holds t = (c.part t).disk (step.told t) (step.step t)

  -- those that are on the disk, of the keys
  abbrev pub some_keys : Keys
  some_keys t seg = nat_lt seg (set_at h.sets t).bits.segs && (keys t seg && (holds t).set seg)

  bit_there : (t seg : ℕ) → bit_found below (map part_of sets) t seg ≡ (nat_lt seg (set_at h.sets t).bits.segs && (holds t).set seg)
  bit_there t seg =
      (λ i. (there_is sets t i && nat_lt seg (seg_count (get_or below.sizes (part_is sets t i).vol 0))) && disk_bit (part_is sets t i).bits.image (place seg))
      ∙ bit_is (nat_lt t (length sets)) (disk_bit (set_at sets t).bits.disk.image (place seg)) ((holds t).set seg) seg (seg_count (get_or below.sizes (set_at sets t).vol 0)) (set_at h.sets t).bits.segs
      (λ there. (over.each t (omega (arith, below_is t (length sets) there, c.count))).segs ∙ ap (λ (v : ℕ). seg_count (get_or below.sizes v 0)) (sym (ap (λ (s : SetBits). s.vol) (c.part t).rest)))
      (λ none. ap (λ (s : SetBits). s.bits.segs) (get_or_past h.sets t no_set (omega (arith, behind_is t (length sets) none, c.count))))
      (λ there low. (holds t).held.each seg low)

  pub due_some : due_found below (map part_of sets) ≡ noted (due_of h.sets) some_keys
  due_some = fun_ext (λ t. fun_ext (λ seg.
      ap (λ (b : Bool). due_one b) (bit_there t seg)
      ∙ noted_some (nat_lt seg (set_at h.sets t).bits.segs) (set_of (set_at h.sets t).bits seg) (keys t seg) ((holds t).set seg) ((holds t).part.inside seg) ((holds t).part.outside seg)))

  within_keys : (a b c : Bool) → (a && (b && c)) ≡ true → b ≡ true
  within_keys true true c is = refl
  within_keys true false c is = is
  within_keys false b c is = absurd (no is)
    where
      no : false ≡ true → ⊥
      no is = cc

  pub some_within : (t seg : ℕ) → some_keys t seg ≡ true → keys t seg ≡ true
  some_within t seg on = within_keys (nat_lt seg (set_at h.sets t).bits.segs) (keys t seg) ((holds t).set seg) on

-- ---- the write

module _ (sound : Type 0) (below : BelowSeen) (h : ReceiverHalf) (set at : ℕ) (bytes : List ℕ) (over : IsOver below h.sets) (there : set < length h.sets)
    (range : IsRangeOf below (set_at h.sets set).vol at (length bytes)) (away : is_session (state_in h.note) ≡ false) (full : is_filled h.note.empty (set_at h.sets set).slot ≡ true)
    (why : Refusal) (answer : why ≡ refusal.Fault) (sets : List SetBits) where
  abbrev keys : Keys
  keys = touched set at (length bytes)

  -- in its bits
  module _ {E : Type 0} (e : E) (c : ChangesSets {T = Unit {0}} (touched set at (length bytes)) true h.sets (Err e) sets) where
    part_found : (kept : Sets) → IsReceiverInStep sound (held below h) → FindsPartNoted (parts_of (held below (record h { sets = sets }))) (receiver_of kept (held below h)) (write_of set at bytes)
    part_found kept st = record {
      part = some_keys keys below h sets (Err e) c over st.memory.bits;
      within = λ t seg on. subst (λ (k : Keys). k t seg ≡ true) (keys_are sound below h set at bytes over there range away full) (some_within keys below h sets (Err e) c over st.memory.bits t seg on);
      finds = record {
        note = h.note;
        header = h.land.header;
        noted = stored_is below below.note h.note st.memory.stored st.memory.note;
        landed = st.memory.landing.step;
        fits = fits_parts h.note h.land.header h.sets sets below below (same_vols keys true h.sets sets (Err e) c) refl st.memory.landing.fits;
        found = found_away kept h.note h.land.header (parts_of (held below (record h { sets = sets }))) away
            ∙ (λ i. half_by h.note (sym st.memory.landing.place i) below.images
            ((part_vols sets ∙ same_vols keys true h.sets sets (Err e) c) i)
            ((part_slots sets ∙ same_slots keys true h.sets sets (Err e) c) i)
            (due_some keys below h sets (Err e) c over st.memory.bits i) kept);
      };
    }

    pub stopped_in_bits : IsWriteStopped sound (held below h) (write_of set at bytes) why (held below (record h { sets = sets }))
    stopped_in_bits = record {
      answer = answer;
      may = may sound below h set at bytes over there range away full;
      session = session_sets h sets;
      stays = record {
        host = refl;
        queue = refl;
        land = lasts_same h.land.disk;
        count = c.count;
        sets = sets_stay keys true h.sets sets (Err e) c;
        labels = λ t. (c.part t).label;
        below = below_same sound below;
      };
      failed = inr (inl (record { failed = c.failed; below = record { faults = refl; armed = refl }; land = spared_same h.land.disk }));
      stopped = λ st kept. inl (part_found kept st);
    }

  -- behind them
  module _ {E E' : Type 0} (new : BelowSeen) (u : Unit {0}) (e : E) (c : ChangesSets {E = E'} (touched set at (length bytes)) true h.sets (Ok u) sets) (w : WritesBelow {T = Unit {0}} sound below (set_at h.sets set).vol at bytes (Err e) new) where
    abbrev image : Image
    image = get_or new.images (set_at h.sets set).vol []

    step_then : IsReceiverInStep sound (held below h) → AreInStep sets
    step_then st = record { told = λ t. (c.part t).lasts.told (st.memory.bits.told t); step = λ t. (c.done t).step (st.memory.bits.told t) (st.memory.bits.step t) }

    over_then : IsOver new sets
    over_then = over_changed below new h.sets sets w.sizes c.count (sets_stay keys true h.sets sets (Ok u) c) over

    torn_found : (kept : Sets) → IsReceiverInStep sound (held below h) → FindsTorn (parts_of (held new (record h { sets = sets }))) (receiver_of kept (held below h)) (write_of set at bytes)
    torn_found kept st = record {
      image = image;
      mix = subst (λ (img : Image). IsMix img at (blocks_of bytes) image) (sym (image_is sound below h set at bytes over there range away full)) (w.failed st.memory.sound (told_at sound below h set at bytes over there range away full st));
      finds = record {
        note = h.note;
        header = h.land.header;
        noted = stored_is new below.note h.note (w.stored ∙ st.memory.stored) st.memory.note;
        landed = st.memory.landing.step;
        fits = fits_parts h.note h.land.header h.sets sets below new (same_vols keys true h.sets sets (Ok u) c) w.sizes st.memory.landing.fits;
        found = found_away (with_set kept set false) h.note h.land.header (parts_of (held new (record h { sets = sets }))) away
            ∙ (λ i. half_by h.note (sym st.memory.landing.place i) new.images
            ((part_vols sets ∙ same_vols keys true h.sets sets (Ok u) c) i)
            ((part_slots sets ∙ same_slots keys true h.sets sets (Ok u) c) i)
            ((due_is new sets (step_then st) over_then ∙ all_noted_then) i) (with_set kept set false))
            ∙ (λ i. record (with_change (with_bits (receiver_of kept (held below h)) (touches (write_of set at bytes))) set image) {
              images = images_are sound below h set at bytes over there range away full new (Err e) w image refl i;
              contents = with_same (contents_in h.note.empty (slots_of h.sets)) set (contents_at sound below h set at bytes over there range away full) i;
            });
      };
    }
      where
        all_noted_then : due_of sets ≡ noted (due_of h.sets) (touches (write_of set at bytes))
        all_noted_then = due_noted sound below h set at bytes over there range away full sets u c

    pub stopped_below : IsWriteStopped sound (held below h) (write_of set at bytes) why (held new (record h { sets = sets }))
    stopped_below = record {
      answer = answer;
      may = may sound below h set at bytes over there range away full;
      session = session_sets h sets;
      stays = record {
        host = refl;
        queue = refl;
        land = lasts_same h.land.disk;
        count = c.count;
        sets = sets_stay keys true h.sets sets (Ok u) c;
        labels = λ t. (c.part t).label;
        below = below_written sound below new (set_at h.sets set).vol at bytes (Err e) w;
      };
      failed = inl (record { failed = record { rose = w.cause.failed; spent = w.spent }; sets = λ t. (c.done t).spared; land = spared_same h.land.disk });
      stopped = λ st kept. inr (torn_found kept st);
    }

-- no error is Ok
pub not_err : false ≡ true → ⊥
not_err is = cc
