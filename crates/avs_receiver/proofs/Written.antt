-- What a write of the receiver's own host leaves.
use Rattle.std.proofs.Common.{◌≡◌, ℕ, ◌+◌, ◌/◌, ◌<◌, Bool, true, false, ◌&&◌, not, cond, eqb, List, [], length, get_or, Result, Ok, Some, ◌∙◌, sym, refl, ap, subst, arith}
use Rattle.std.specs.Prelude.{nat_lt}
use Rattle.std.proofs.Math.ListN.{get_or-map}
use Rattle.std.proofs.lemmas.List.{length-map}
use Rattle.std.proofs.lemmas.Bool.Decides.{nat_tests}
use Rattle.avs_seg.specs.Image.{Image, put, blocks_of}
use Rattle.avs_seg.specs.Segment.{first_segment, touch_count}
use Rattle.avs_seg.proofs.Bytes.{length-blocks_of}
use Rattle.avs_seg.proofs.Touch.{touch_inside}
use Rattle.avs_dev.specs.Below.{BelowSeen, IsRangeOf, IsToldAt, WritesBelow, size_of}
use Rattle.avs_dev.proofs.Going.{lasts_same, spared_same}
use Rattle.avs_mirrors.specs.Due.{Keys, noted}
use Rattle.avs_mirrors.specs.Entries.{touches, with_image}
use Rattle.avs_mirrors.specs.Half.{Sets, State, Logging, Syncing, Receiving, Replicating, Queuing, is_marked, is_receiver, is_session, with_set, with_write}
use Rattle.avs_sync.specs.Note.{IsNote}
use Rattle.avs_sync.specs.declared.note.Note.{Note}
use Rattle.avs_code.specs.declared.land_headers.LandHeader.{LandHeader}
use Rattle.avs_halves.specs.SetBits.{SetBits, due_of, no_set, set_at}
use Rattle.avs_halves.specs.Changing.{ChangesSets}
use Rattle.avs_halves.specs.Writing.{IsRangeOfSet, touched}
use Rattle.avs_halves.specs.Over.{IsOver}
use Rattle.avs_halves.specs.Found.{is_filled}
use Rattle.avs_halves.proofs.Staying.{below_written, sets_stay}
use Rattle.avs_receiver.specs.Held.{ReceiverHalf, held}
use Rattle.avs_receiver.specs.Meaning.{IsReceiverInStep, contents_in, half_by, images_in, is_redone, receiver_of, slots_of, state_in, vols_of, IsLandedFor}
use Rattle.avs_receiver.specs.Writing.{IsWritten, MayWrite, write_of}
use Rattle.avs_receiver.proofs.Meanings.{fits_stays}
use Rattle.avs_receiver.proofs.Leavings.{session_sets}
use Rattle.avs_halves.proofs.Writings.{all_noted, images_one, same_slots, same_vols, touched_are, with_same}

-- ---- a half in no session

logging_is : (b : Bool) (s : State) → is_session (cond b s Logging) ≡ false → cond b s Logging ≡ Logging
logging_is true Logging off = refl
logging_is true Syncing off = cc
logging_is true Receiving off = cc
logging_is true Replicating off = cc
logging_is true Queuing off = cc
logging_is false s off = refl

pub away_is : (n : Note) → is_session (state_in n) ≡ false → state_in n ≡ Logging
away_is n off = logging_is (is_receiver n.role) n.state off

session_of : (b : Bool) (s : State) → is_session (cond b s Logging) ≡ (b && is_session s)
session_of true s = refl
session_of false s = refl

not_redone : (a b c : Bool) → (a && c) ≡ false → ((a && b) && c) ≡ false
not_redone true true c off = off
not_redone true false c off = refl
not_redone false b c off = refl

-- nothing is done once more, and no bits are wiped
pub away_again : (n : Note) (l : LandHeader) → is_session (state_in n) ≡ false → is_redone n l ≡ false
away_again n l off = not_redone (is_receiver n.role) (not (eqb l.kind 0) && eqb l.session n.session) (is_session n.state) (sym (session_of (is_receiver n.role) n.state) ∙ off)

pub away_unmarked : (n : Note) → is_session (state_in n) ≡ false → is_marked (state_in n) ≡ false
away_unmarked n off = ap is_marked (away_is n off)

pub never : (b : Bool) → b ≡ false → b ≡ true → ⊥
never b off on = cc

-- ---- the write

module _ (sound : Type 0) (below : BelowSeen) (h : ReceiverHalf) (set at : ℕ) (bytes : List ℕ) (over : IsOver below h.sets) (there : set < length h.sets)
    (range : IsRangeOf below (set_at h.sets set).vol at (length bytes)) (away : is_session (state_in h.note) ≡ false) (full : is_filled h.note.empty (set_at h.sets set).slot ≡ true) where
  abbrev vols : List ℕ
  vols = vols_of h.sets

  abbrev slots : List ℕ
  slots = slots_of h.sets

  -- its contents
  low_on : (a b : ℕ) → a < b → nat_lt a b ≡ true
  low_on a b low = grind (arith, nat_tests)

  both_on : (a b : Bool) → a ≡ true → b ≡ true → (a && b) ≡ true
  both_on a b x y = rw (x, y) refl

  pub contents_at : contents_in h.note.empty (slots_of h.sets) set ≡ true
  contents_at = both_on (nat_lt set (length slots)) (is_filled h.note.empty (get_or slots set 0))
      (low_on set (length slots) (omega (arith, there, length-map h.sets (λ s. s.slot))))
      (ap (λ (slot : ℕ). is_filled h.note.empty slot) (get_or-map (λ s. s.slot) h.sets set no_set) ∙ full)

  pub may : MayWrite (held below h) set
  may = record { away = away; contents = λ kept. contents_at }

  -- its keys are segments of the set
  pub keys_are : touched set at (length bytes) ≡ touches (write_of set at bytes)
  keys_are = touched_are set at (blocks_of bytes) (length bytes / 512) (length-blocks_of bytes)

  keys_inside : (t seg : ℕ) → touched set at (length bytes) t seg ≡ true → nat_lt seg (set_at h.sets t).bits.segs ≡ true
  keys_inside t seg on =
      let v = over.each set there in
      let same : t ≡ set = grind (arith, nat_tests) in
      let high : seg < first_segment at + touch_count at (length bytes / 512) = grind (arith, nat_tests) in
      let some : 0 < length bytes / 512 = omega (arith, range.some, range.whole) in
      let fits = touch_inside at (length bytes / 512) (size_of below (set_at h.sets set).vol) some range.inside in
      subst (λ (k : ℕ). nat_lt seg (set_at h.sets k).bits.segs ≡ true) (sym same) (low_on seg (set_at h.sets set).bits.segs (omega (arith, high, fits, v.segs)))

  -- its volume
  vol_is : get_or (vols_of h.sets) set 0 ≡ (set_at h.sets set).vol
  vol_is = get_or-map (λ s. s.vol) h.sets set no_set

  there_vols : set < length (vols_of h.sets)
  there_vols = omega (arith, there, length-map h.sets (λ s. s.vol))

  apart : (other : ℕ) → other < length (vols_of h.sets) → get_or (vols_of h.sets) other 0 ≡ get_or (vols_of h.sets) set 0 → other ≡ set
  apart other low same = over.apart set other there (omega (arith, low, length-map h.sets (λ s. s.vol))) (sym (get_or-map (λ s. s.vol) h.sets other no_set) ∙ same ∙ vol_is)

  pub image_is : images_in below.images (vols_of h.sets) set ≡ get_or below.images (set_at h.sets set).vol []
  image_is = ap (λ (b : Bool). cond b (get_or below.images (get_or vols set 0) []) []) (low_on set (length vols) there_vols) ∙ ap (λ (v : ℕ). get_or below.images v []) vol_is

  pub told_at : IsReceiverInStep sound (held below h) → IsToldAt below (set_at h.sets set).vol
  told_at st = st.memory.volumes set there

  module _ {T E : Type 0} (new : BelowSeen) (r : Result T E) (w : WritesBelow sound below (set_at h.sets set).vol at bytes r new) where
    -- whatever the volume has then, the others are as they were
    pub images_are : (image : Image) → get_or new.images (set_at h.sets set).vol [] ≡ image → images_in new.images (vols_of h.sets) ≡ with_image (images_in below.images (vols_of h.sets)) set image
    images_are image is = images_one below.images new.images (vols_of h.sets) set image there_vols
        (ap (λ (v : ℕ). get_or new.images v []) vol_is ∙ is)
        (λ other ne. w.kept other (λ same. ne (same ∙ sym vol_is)))
        apart

  pub due_noted : {E : Type 0} (sets : List SetBits) (u : Unit {0}) → ChangesSets {E = E} (touched set at (length bytes)) true h.sets (Ok u) sets → due_of sets ≡ noted (due_of h.sets) (touches (write_of set at bytes))
  due_noted sets u c = all_noted (touched set at (length bytes)) h.sets sets u c keys_inside ∙ ap (λ (k : Keys). noted (due_of h.sets) k) keys_are

  module _ {E : Type 0} (new : BelowSeen) (u : Unit {0}) (sets : List SetBits) (c : ChangesSets {E = E} (touched set at (length bytes)) true h.sets (Ok u) sets) (w : WritesBelow {E = E} sound below (set_at h.sets set).vol at bytes (Ok u) new) where
    due_then : due_of sets ≡ noted (due_of h.sets) (touches (write_of set at bytes))
    due_then = due_noted sets u c

    half_then : (kept : Sets) → IsReceiverInStep sound (held below h) → receiver_of (with_set kept set false) (held new (record h { sets = sets })) ≡ with_write (receiver_of kept (held below h)) (write_of set at bytes)
    half_then kept st =
        (λ i. half_by h.note h.applied new.images (same_vols (touched set at (length bytes)) true h.sets sets (Ok u) c i) (same_slots (touched set at (length bytes)) true h.sets sets (Ok u) c i) (due_then i) (with_set kept set false))
        ∙ (λ i. record (with_write (receiver_of kept (held below h)) (write_of set at bytes)) {
          images = images_are new (Ok u) w (put (images_in below.images (vols_of h.sets) set) at (blocks_of bytes)) (w.done st.memory.sound (told_at st) ∙ ap (λ (img : Image). put img at (blocks_of bytes)) (sym image_is)) i;
          contents = with_same (contents_in h.note.empty (slots_of h.sets)) set contents_at i;
        })

    pub is_written : (sound_new : Type 0) → (sound → sound_new) → IsWritten sound sound_new (held below h) (write_of set at bytes) (held new (record h { sets = sets }))
    is_written sound_new sounds = record {
      may = may;
      session = session_sets h sets;
      stays = record {
        host = refl;
        queue = refl;
        land = lasts_same h.land.disk;
        count = c.count;
        sets = sets_stay (touched set at (length bytes)) true h.sets sets (Ok u) c;
        labels = λ t. (c.part t).label;
        below = below_written sound below new (set_at h.sets set).vol at bytes (Ok u) w;
      };
      spared = record { faults = w.cause.same; armed = w.still_armed; sets = λ t. (c.done t).spared; land = spared_same h.land.disk };
      done = λ st kept. half_then kept st;
      step = λ st. record {
        memory = record {
          sound = sounds st.memory.sound;
          stored = w.stored ∙ st.memory.stored ∙ ap Some (sym w.note);
          note = subst (λ (b : List ℕ). IsNote b h.note) (sym w.note) st.memory.note;
          volumes = λ t low. subst (λ (v : ℕ). IsToldAt new v) (sym (ap (λ (s : SetBits). s.vol) (c.part t).rest)) (w.told (set_at h.sets t).vol (st.memory.volumes t (omega (arith, low, c.count))));
          bits = record { told = λ t. (c.part t).lasts.told (st.memory.bits.told t); step = λ t. (c.done t).step (st.memory.bits.told t) (st.memory.bits.step t) };
          landing = record {
            told = st.memory.landing.told;
            step = st.memory.landing.step;
            fits = subst (λ (v : List ℕ). IsLandedFor h.note h.land.header v new) (sym (same_vols (touched set at (length bytes)) true h.sets sets (Ok u) c))
                (fits_stays h.note h.land.header (vols_of h.sets) below new w.sizes st.memory.landing.fits);
            place = st.memory.landing.place;
          };
        };
        again = λ kept is. absurd (never (is_redone h.note h.land.header) (away_again h.note h.land.header away) is);
        wiped = λ is. absurd (never (is_marked (state_in h.note)) (away_unmarked h.note away) is);
      };
    }

-- ---- its range

pub range_of_set : (below : BelowSeen) (sets : List SetBits) (set at len : ℕ) → IsOver below sets → set < length sets → IsRangeOf below (set_at sets set).vol at len → IsRangeOfSet below (set_at sets set) at len
range_of_set below sets set at len over there range = let v = over.each set there in record {
  range = range;
  small = omega (arith, range.inside, v.small);
  segs = v.segs;
}
