-- What a receiver stands for, and what is found of it.
use Rattle.std.proofs.Common.{◌≡◌, ℕ, ◌+◌, ◌<◌, ◌≤◌, Bool, true, false, cond, List, length, map, get_or, Option, None, Some, ◌∙◌, sym, refl, ap, subst}
use Rattle.std.specs.Option.{option_map_or}
use Rattle.std.proofs.Math.Path.{fun_ext}
use Rattle.std.proofs.lemmas.Simd.{map-map}
use Rattle.avs_dev.specs.Below.{BelowSeen}
use Rattle.avs_code.specs.declared.land_headers.LandHeader.{LandHeader}
use Rattle.avs_mirrors.specs.Due.{Due, nothing_due, zeros, zero_of}
use Rattle.avs_mirrors.specs.Half.{HalfState, Sets, is_marked, left_receiver}
use Rattle.avs_sync.specs.Note.{IsNote}
use Rattle.avs_sync.specs.Parts.{MirrorSet}
use Rattle.avs_sync.specs.declared.note.Note.{Note}
use Rattle.avs_halves.specs.SetBits.{SetBits, AreInStep, due_of, set_at, has_bit, part_of}
use Rattle.avs_halves.specs.Over.{IsOver}
use Rattle.avs_halves.specs.Found.{stored_bytes}
use Rattle.avs_halves.proofs.Lying.{due_is}
use Rattle.avs_land.specs.Redo.{IsRoom}
use Rattle.avs_receiver.specs.Held.{ReceiverHalf, held, parts_of}
use Rattle.avs_receiver.specs.Meaning.{Finds, IsReceiverInStep, found_by, half_by, is_of, is_redone, lies_on, receiver_of, redone, slots_of, state_in, vols_of, IsLandedFor}

-- ---- parts of sets

pub part_vols : (sets : List SetBits) → map (λ (m : MirrorSet). m.vol) (map part_of sets) ≡ vols_of sets
part_vols sets = map-map (λ (m : MirrorSet). m.vol) part_of sets

pub part_slots : (sets : List SetBits) → map (λ (m : MirrorSet). m.slot) (map part_of sets) ≡ slots_of sets
part_slots sets = map-map (λ (m : MirrorSet). m.slot) part_of sets

-- what is due of a half has place 0
zero_one : (b : Bool) → zero_of (cond b (Some 0) None) ≡ cond b (Some 0) None
zero_one true = refl
zero_one false = refl

pub zeros_are : (sets : List SetBits) → zeros (due_of sets) ≡ due_of sets
zeros_are sets = fun_ext (λ set. fun_ext (λ seg. zero_one (has_bit (set_at sets set) seg)))

-- ---- what lies on the parts of a half in step

pub lies_is : (kept : Sets) (n : Note) (l : LandHeader) (new : BelowSeen) (h : ReceiverHalf) → AreInStep h.sets → IsOver new h.sets
    → lies_on kept n l (parts_of (held new h)) ≡ half_by n (cond (is_of n l) l.place 0) new.images (vols_of h.sets) (slots_of h.sets) (cond (is_marked (state_in n)) nothing_due (due_of h.sets)) kept
lies_is kept n l new h step over = λ i. half_by n (cond (is_of n l) l.place 0) new.images (part_vols h.sets i) (part_slots h.sets i) (cond (is_marked (state_in n)) nothing_due (due_is new h.sets step over i)) kept

unmarked : (b : Bool) (due : Due) → (b ≡ true → due ≡ nothing_due) → cond b nothing_due due ≡ due
unmarked true due none = sym (none refl)
unmarked false due none = refl

module _ (sound : Type 0) (kept : Sets) (below new : BelowSeen) (h : ReceiverHalf) (st : IsReceiverInStep sound (held below h)) (images : new.images ≡ below.images) (over : IsOver new h.sets) where
  -- by its own note it is the half
  pub lies_old : lies_on kept h.note h.land.header (parts_of (held new h)) ≡ receiver_of kept (held below h)
  lies_old = lies_is kept h.note h.land.header new h st.memory.bits over
      ∙ (λ i. half_by h.note (sym st.memory.landing.place i) (images i) (vols_of h.sets) (slots_of h.sets) (unmarked (is_marked (state_in h.note)) (due_of h.sets) st.wiped i) kept)

  once_more : (b : Bool) (x : HalfState) → x ≡ receiver_of kept (held below h) → (b ≡ true → redone (receiver_of kept (held below h)) h.land.header h.land.disk.image ≡ receiver_of kept (held below h)) → cond b (redone x h.land.header h.land.disk.image) x ≡ receiver_of kept (held below h)
  once_more true x is again = ap (λ (y : HalfState). redone y h.land.header h.land.disk.image) is ∙ again refl
  once_more false x is again = is

  pub found_old : found_by kept h.note h.land.header (parts_of (held new h)) ≡ left_receiver (receiver_of kept (held below h))
  found_old = ap left_receiver (once_more (is_redone h.note h.land.header) (lies_on kept h.note h.land.header (parts_of (held new h))) lies_old (st.again kept))

-- ---- where what has landed has its place

pub room_stays : (l : LandHeader) (vols : List ℕ) (old new : BelowSeen) → new.sizes ≡ old.sizes → IsRoom l vols old → IsRoom l vols new
room_stays l vols old new sizes r = record {
  set = r.set;
  there = λ some. subst (λ (s : List ℕ). get_or vols l.set 0 < length s) (sym sizes) (r.there some);
  inside = λ some. subst (λ (s : List ℕ). l.at + l.len ≤ get_or s (get_or vols l.set 0) 0) (sym sizes) (r.inside some);
}

pub fits_stays : (n : Note) (l : LandHeader) (vols : List ℕ) (old new : BelowSeen) → new.sizes ≡ old.sizes → IsLandedFor n l vols old → IsLandedFor n l vols new
fits_stays n l vols old new sizes f = record { earlier = f.earlier; room = λ is. room_stays l vols old new sizes (f.room is) }

-- by parts
pub fits_parts : (n : Note) (l : LandHeader) (sets now : List SetBits) (old new : BelowSeen) → vols_of now ≡ vols_of sets → new.sizes ≡ old.sizes → IsLandedFor n l (vols_of sets) old
    → IsLandedFor n l (map (λ (m : MirrorSet). m.vol) (map part_of now)) new
fits_parts n l sets now old new vols sizes f = subst (λ (v : List ℕ). IsLandedFor n l v new) (sym (part_vols now ∙ vols)) (fits_stays n l (vols_of sets) old new sizes f)

-- ---- the note on the disk

pub stored_is : (below : BelowSeen) (bytes : List ℕ) (n : Note) → below.stored ≡ Some bytes → IsNote bytes n → IsNote (stored_bytes below) n
stored_is below bytes n stored is = subst (λ (o : Option (List ℕ)). IsNote (option_map_or (λ (b : List ℕ). b) o below.note) n) (sym stored) is

-- a half in step is found as having left
pub finds_left : (sound : Type 0) (below : BelowSeen) (h : ReceiverHalf) → IsOver below h.sets → IsReceiverInStep sound (held below h) → (kept : Sets) → Finds (parts_of (held below h)) (left_receiver (receiver_of kept (held below h)))
finds_left sound below h over st kept = record {
  note = h.note;
  header = h.land.header;
  noted = stored_is below below.note h.note st.memory.stored st.memory.note;
  landed = st.memory.landing.step;
  fits = fits_parts h.note h.land.header h.sets h.sets below below refl refl st.memory.landing.fits;
  found = found_old sound kept below below h st refl over;
}
