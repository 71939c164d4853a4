-- A tear is armed on a disk of a sender.
use Rattle.std.proofs.Common.{◌≡◌, ℕ, ◌<◌, ◌≤◌, ◌^◌, Bool, true, false, ◌&&◌, cond, eqb, List, [], length, set, get_or, None, Some, length-set, ◌∙◌, sym, refl, ap, subst, arith}
use Rattle.std.specs.Prelude.{nat_lt}
use Rattle.std.proofs.Math.ListN.{get_or-map}
use Rattle.std.proofs.Math.Seq.{map-set_same}
use Rattle.avs_seg.specs.Segment.{seg_count}
use Rattle.avs_dev.specs.Seen.{Seen, with_tear}
use Rattle.avs_dev.specs.declared.disk.Tear.{Tear}
use Rattle.avs_dev.specs.Below.{BelowSeen}
use Rattle.avs_halves.specs.SetBits.{SetBits, disk_at, has_bit, no_set, set_at}
use Rattle.avs_halves.specs.Changing.{ArmsSet, with_disk}
use Rattle.avs_halves.specs.Found.{is_filled}
use Rattle.avs_halves.specs.Over.{IsOver}
use Rattle.avs_sender.specs.Held.{SenderHalf, held}
use Rattle.avs_sender.specs.Kept.{IsKept}
use Rattle.avs_sender.specs.Disks.{ArmsHalf, disk_of}
use Rattle.avs_sender.specs.Meaning.{freeing_place, places_at, sender_of}

-- the half with these sets
abbrev pub with_sets : SenderHalf → List SetBits → SenderHalf
with_sets h sets = record h { sets = sets }

module _ (sets : List SetBits) (i : ℕ) (disk : Seen) where
  abbrev pub armed_sets : List SetBits
  armed_sets = set sets i (with_disk (set_at sets i) disk)

  -- but for the disk each set is as it was
  pub armed_same : {X : Type 0} (f : SetBits → X) → ((s : SetBits) → f (with_disk s disk) ≡ f s) → (t : ℕ) → f (set_at armed_sets t) ≡ f (set_at sets t)
  armed_same f same t =
      sym (get_or-map f armed_sets t no_set)
      ∙ ap (λ l. get_or l t (f no_set)) (map-set_same f sets i (with_disk (set_at sets i) disk) no_set (same (set_at sets i)))
      ∙ get_or-map f sets t no_set

  pub armed_count : length armed_sets ≡ length sets
  armed_count = length-set sets i (with_disk (set_at sets i) disk)

  vol_is : (t : ℕ) → (set_at armed_sets t).vol ≡ (set_at sets t).vol
  vol_is t = armed_same (λ s. s.vol) (λ s. refl) t

  slot_is : (t : ℕ) → (set_at armed_sets t).slot ≡ (set_at sets t).slot
  slot_is t = armed_same (λ s. s.slot) (λ s. refl) t

  segs_is : (t : ℕ) → (set_at armed_sets t).bits.segs ≡ (set_at sets t).bits.segs
  segs_is t = armed_same (λ s. s.bits.segs) (λ s. refl) t

  bits_are : (t : ℕ) → has_bit (set_at armed_sets t) ≡ has_bit (set_at sets t)
  bits_are t = armed_same (λ s. has_bit s) (λ s. refl) t

  pub armed_over : (below : BelowSeen) → IsOver below sets → IsOver below armed_sets
  armed_over below over = record {
    few = omega (arith, over.few, armed_count);
    each = λ t there. let v = over.each t (omega (arith, there, armed_count)) in record {
      there = subst (λ (vol : ℕ). vol < length below.sizes) (sym (vol_is t)) v.there;
      small = subst (λ (vol : ℕ). get_or below.sizes vol 0 ≤ 2 ^ 31) (sym (vol_is t)) v.small;
      segs = segs_is t ∙ v.segs ∙ ap (λ (vol : ℕ). seg_count (get_or below.sizes vol 0)) (sym (vol_is t));
      slot = subst (λ (slot : ℕ). slot < 16) (sym (slot_is t)) v.slot;
    };
    apart = λ t other there also same. over.apart t other (omega (arith, there, armed_count)) (omega (arith, also, armed_count)) (sym (vol_is other) ∙ same ∙ vol_is t);
    slots = λ t other there also same. over.slots t other (omega (arith, there, armed_count)) (omega (arith, also, armed_count)) (sym (slot_is other) ∙ same ∙ slot_is t);
  }

-- ---- the half

module _ (h : SenderHalf) (i : ℕ) (disk : Seen) where
  abbrev pub armed_half : SenderHalf
  armed_half = with_sets h (armed_sets h.sets i disk)

  count : length (armed_sets h.sets i disk) ≡ length h.sets
  count = armed_count h.sets i disk

  pub armed_kept : IsKept h → IsKept (with_sets h (armed_sets h.sets i disk))
  armed_kept kept = record {
    count = kept.count ∙ sym count;
    few = omega (arith, kept.few, count);
    slots = record {
      low = λ t there. subst (λ (slot : ℕ). slot < 16) (sym (slot_is h.sets i disk t)) (kept.slots.low t (omega (arith, there, count)));
      apart = λ t other there also same. kept.slots.apart t other (omega (arith, there, count)) (omega (arith, also, count)) (sym (slot_is h.sets i disk other) ∙ same ∙ slot_is h.sets i disk t);
    };
    places = λ t there. let p = kept.places t (omega (arith, there, count)) in record {
      segs = p.segs ∙ sym (segs_is h.sets i disk t);
      waiting = p.waiting ∙ sym (segs_is h.sets i disk t);
      room = p.room;
    };
    note = kept.note;
    fits = kept.fits;
    session = kept.session;
    sends = λ on. let s = kept.sends on in record {
      queue = s.queue;
      places = λ t there. s.places t (omega (arith, there, count));
      due = λ t seg there. let d = s.due t seg (omega (arith, there, count)) in record {
        waiting = λ waits. (λ j. bits_are h.sets i disk t j seg) ∙ d.waiting waits;
        placed = λ bit no. d.placed (sym (λ j. bits_are h.sets i disk t j seg) ∙ bit) no;
      };
    };
    away = kept.away;
  }

  pub armed_means : (below : BelowSeen) → sender_of (held below (with_sets h (armed_sets h.sets i disk))) ≡ sender_of (held below h)
  armed_means below = λ j. record (sender_of (held below h)) {
    on = λ t. nat_lt t (count j);
    here = λ t. nat_lt t (count j);
    contents = λ t. nat_lt t (count j) && is_filled h.note.empty (slot_is h.sets i disk t j);
    images = λ t. cond (nat_lt t (count j)) (get_or below.images (vol_is h.sets i disk t j) []) [];
    due = λ t seg. cond (bits_are h.sets i disk t j seg) (Some (freeing_place h.session (places_at h t) seg)) None;
  }

pub arms_kept : (h : SenderHalf) (i : ℕ) (tear : Tear) (answer : Bool) (new : List SetBits) → ArmsSet h.sets i tear answer new → IsKept h → IsKept (with_sets h new)
arms_kept h i tear true new a kept = subst (λ (l : List SetBits). IsKept (with_sets h l)) (sym (a.armed refl)) (armed_kept h i (with_tear tear (disk_at h.sets i)) kept)
arms_kept h i tear false new a kept = subst (λ (l : List SetBits). IsKept (with_sets h l)) (sym (a.unarmed refl)) kept

half_means : (b : Bool) (below : BelowSeen) (h : SenderHalf) (i : ℕ) (disk : Seen) → sender_of (held below (cond b (record h { land = disk }) (with_sets h (armed_sets h.sets i disk)))) ≡ sender_of (held below h)
half_means true below h i disk = refl
half_means false below h i disk = armed_means h i disk below

pub arms_means : (below : BelowSeen) (h new : SenderHalf) (i : ℕ) (tear : Tear) (answer : Bool) → ArmsHalf h i tear answer new → sender_of (held below new) ≡ sender_of (held below h)
arms_means below h new i tear true a = ap (λ (x : SenderHalf). sender_of (held below x)) (a.armed refl) ∙ half_means (eqb i (length h.sets)) below h i (with_tear tear (disk_of h i))
arms_means below h new i tear false a = ap (λ (x : SenderHalf). sender_of (held below x)) (a.unarmed refl)
