-- A receiver whose volumes an errand has kept.
use Rattle.std.proofs.Common.{◌≡◌, ℕ, ◌+◌, ◌^◌, ◌<◌, ◌≤◌, Bool, true, false, ◌&&◌, cond, List, [], length, map, get_or, None, Some, ◌∙◌, sym, refl, ap, subst}
use Rattle.std.specs.Prelude.{nat_lt}
use Rattle.std.specs.Option.{option_map_or}
use Rattle.std.proofs.Math.Path.{fun_ext}
use Rattle.std.proofs.Math.ListN.{get_or-map}
use Rattle.std.proofs.lemmas.List.{length-map}
use Rattle.avs_seg.specs.Image.{Image}
use Rattle.avs_seg.specs.Segment.{seg_count}
use Rattle.avs_dev.specs.Below.{BelowSeen}
use Rattle.avs_bits.specs.Bit.{disk_bit}
use Rattle.avs_bits.specs.BitSet.{place}
use Rattle.avs_code.specs.declared.land_headers.LandHeader.{LandHeader}
use Rattle.avs_mirrors.specs.Due.{Due, nothing_due}
use Rattle.avs_mirrors.specs.Entries.{Images}
use Rattle.avs_mirrors.specs.Half.{HalfState, Sets, is_marked, left_receiver}
use Rattle.avs_sync.specs.Note.{IsNote}
use Rattle.avs_sync.specs.Parts.{MirrorSet}
use Rattle.avs_sync.specs.declared.note.Note.{Note}
use Rattle.avs_halves.specs.SetBits.{SetBits, no_set, part_of, set_at}
use Rattle.avs_halves.specs.Found.{due_found, stored_bytes}
use Rattle.avs_halves.specs.Over.{IsOver}
use Rattle.avs_halves.proofs.Lying.{below_is, part_is, there_is}
use Rattle.avs_land.specs.Redo.{IsRoom}
use Rattle.avs_receiver.specs.Held.{ReceiverHalf, held, parts_of}
use Rattle.avs_receiver.specs.Meaning.{IsLandedFor, found_by, half_by, images_in, is_of, is_redone, receiver_of, redone, state_in, vols_of}
use Rattle.avs_receiver.specs.CatchingUp.{FindsAgain}
use Rattle.avs_receiver.specs.Lending.{IsLent, KeepsVolumes}
use Rattle.avs_receiver.proofs.Meanings.{part_vols}

module _ (old new : BelowSeen) (h : ReceiverHalf) (k : KeepsVolumes h.sets old new) where
  vol_is : (set : ℕ) → get_or (vols_of h.sets) set 0 ≡ (set_at h.sets set).vol
  vol_is set = get_or-map (λ s. s.vol) h.sets set no_set

  there_in : (set : ℕ) → nat_lt set (length (vols_of h.sets)) ≡ true → set < length h.sets
  there_in set on = subst (λ (n : ℕ). set < n) (length-map h.sets (λ s. s.vol)) (below_is set (length (vols_of h.sets)) on)

  image_kept : (set : ℕ) (b : Bool) → (b ≡ true → set < length h.sets) → cond b (get_or new.images (get_or (vols_of h.sets) set 0) []) [] ≡ cond b (get_or old.images (get_or (vols_of h.sets) set 0) []) []
  image_kept set true there = subst (λ (v : ℕ). get_or new.images v [] ≡ get_or old.images v []) (sym (vol_is set)) (k.each set (there refl)).image
  image_kept set false there = refl

  pub images_kept : images_in new.images (vols_of h.sets) ≡ images_in old.images (vols_of h.sets)
  images_kept = fun_ext (λ set. image_kept set (nat_lt set (length (vols_of h.sets))) (there_in set))

  pub means_kept : (kept : Sets) → receiver_of kept (held new h) ≡ receiver_of kept (held old h)
  means_kept kept = λ i. record (receiver_of kept (held old h)) { images = images_kept i }

  bit_kept : (set seg : ℕ) (b : Bool) → (b ≡ true → set < length h.sets) → ((b && nat_lt seg (seg_count (get_or new.sizes (set_at h.sets set).vol 0))) && disk_bit (set_at h.sets set).bits.disk.image (place seg))
      ≡ ((b && nat_lt seg (seg_count (get_or old.sizes (set_at h.sets set).vol 0))) && disk_bit (set_at h.sets set).bits.disk.image (place seg))
  bit_kept set seg true there = ap (λ (n : ℕ). (nat_lt seg (seg_count n)) && disk_bit (set_at h.sets set).bits.disk.image (place seg)) (k.each set (there refl)).size
  bit_kept set seg false there = refl

  due_kept : due_found new (map part_of h.sets) ≡ due_found old (map part_of h.sets)
  due_kept = fun_ext (λ set. fun_ext (λ seg. ap (λ (b : Bool). cond b (Some 0) None) (
      (λ i. (there_is h.sets set i && nat_lt seg (seg_count (get_or new.sizes (part_is h.sets set i).vol 0))) && disk_bit (part_is h.sets set i).bits.image (place seg))
      ∙ bit_kept set seg (nat_lt set (length h.sets)) (λ on. below_is set (length h.sets) on)
      ∙ (λ i. (sym (there_is h.sets set) i && nat_lt seg (seg_count (get_or old.sizes (sym (part_is h.sets set) i).vol 0))) && disk_bit (sym (part_is h.sets set) i).bits.image (place seg)))))

  room_kept : (l : LandHeader) → IsRoom l (vols_of h.sets) old → IsRoom l (vols_of h.sets) new
  room_kept l r = record {
    set = r.set;
    there = λ some. subst (λ (v : ℕ). v < length new.sizes) (sym (vol_is l.set)) (k.each l.set (in_sets some)).there;
    inside = λ some. subst (λ (v : ℕ). l.at + l.len ≤ get_or new.sizes v 0) (sym (vol_is l.set))
        (subst (λ (n : ℕ). l.at + l.len ≤ n) (sym (k.each l.set (in_sets some)).size) (subst (λ (v : ℕ). l.at + l.len ≤ get_or old.sizes v 0) (vol_is l.set) (r.inside some)));
  }
    where
      in_sets : 0 < l.len → l.set < length h.sets
      in_sets some = subst (λ (n : ℕ). l.set < n) (length-map h.sets (λ s. s.vol)) (r.set some)

  fits_kept : (n : Note) (l : LandHeader) → IsLandedFor n l (vols_of h.sets) old → IsLandedFor n l (vols_of h.sets) new
  fits_kept n l f = record { earlier = f.earlier; room = λ is. room_kept l (f.room is) }

  -- a load finds the same half
  module _ (kept : Sets) (n : Note) (l : LandHeader) where
    abbrev lies_from : Images → Due → HalfState
    lies_from images due = record (half_by n (cond (is_of n l) l.place 0) old.images (map (λ (m : MirrorSet). m.vol) (map part_of h.sets)) (map (λ (m : MirrorSet). m.slot) (map part_of h.sets)) (cond (is_marked (state_in n)) nothing_due due) kept) { images = images }

    abbrev found_from : Images → Due → HalfState
    found_from images due = left_receiver (cond (is_redone n l) (redone (lies_from images due) l h.land.disk.image) (lies_from images due))

    images_found : images_in new.images (map (λ (m : MirrorSet). m.vol) (map part_of h.sets)) ≡ images_in old.images (map (λ (m : MirrorSet). m.vol) (map part_of h.sets))
    images_found = ap (λ (v : List ℕ). images_in new.images v) (part_vols h.sets) ∙ images_kept ∙ sym (ap (λ (v : List ℕ). images_in old.images v) (part_vols h.sets))

    found_kept : found_by kept n l (parts_of (held new h)) ≡ found_by kept n l (parts_of (held old h))
    found_kept = λ i. found_from (images_found i) (due_kept i)

  stored_kept : stored_bytes new ≡ stored_bytes old
  stored_kept = λ i. option_map_or (λ (b : List ℕ). b) (k.stored i) (k.note i)

  again_kept : FindsAgain (parts_of (held old h)) (parts_of (held new h))
  again_kept x f = record {
    note = f.note;
    header = f.header;
    noted = subst (λ (b : List ℕ). IsNote b f.note) (sym stored_kept) f.noted;
    landed = f.landed;
    fits = subst (λ (v : List ℕ). IsLandedFor f.note f.header v new) (sym (part_vols h.sets)) (fits_kept f.note f.header (subst (λ (v : List ℕ). IsLandedFor f.note f.header v old) (part_vols h.sets) f.fits));
    found = found_kept x.kept f.note f.header ∙ f.found;
  }

  pub is_lent : (sound sound_new : Type 0) → IsLent sound sound_new (held old h) (held new h)
  is_lent sound sound_new = record {
    half = refl;
    below = k;
    means = means_kept;
    again = again_kept;
    step = λ s st. record {
      memory = record {
        sound = s;
        stored = k.stored ∙ st.memory.stored ∙ ap Some (sym k.note);
        note = subst (λ (b : List ℕ). IsNote b h.note) (sym k.note) st.memory.note;
        volumes = λ set there. let v = k.each set there in (ap (λ (img : Image). length img) v.image ∙ st.memory.volumes set there ∙ sym v.size);
        bits = st.memory.bits;
        landing = record { told = st.memory.landing.told; step = st.memory.landing.step; fits = fits_kept h.note h.land.header st.memory.landing.fits; place = st.memory.landing.place };
      };
      again = λ kept is. ap (λ (x : HalfState). redone x h.land.header h.land.disk.image) (means_kept kept) ∙ st.again kept is ∙ sym (means_kept kept);
      wiped = st.wiped;
    };
  }

-- its volumes are there still
pub over_kept : (old new : BelowSeen) (sets : List SetBits) → KeepsVolumes sets old new → IsOver old sets → IsOver new sets
over_kept old new sets k over = record {
  few = over.few;
  each = λ set there. let v = over.each set there in let w = k.each set there in record {
    there = w.there;
    small = subst (λ (n : ℕ). n ≤ 2 ^ 31) (sym w.size) v.small;
    segs = v.segs ∙ ap seg_count (sym w.size);
    slot = v.slot;
  };
  apart = over.apart;
  slots = over.slots;
}
