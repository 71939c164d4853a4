-- What an errand leaves of a sender that lends what lies below it.
use Rattle.std.proofs.Common.{◌≡◌, ℕ, ◌^◌, ◌<◌, ◌≤◌, Bool, true, false, ◌&&◌, cond, List, [], length, map, get_or, Result, Ok, Err, is_ok, None, Some, ◌∙◌, sym, refl, ap, subst}
use Rattle.std.specs.Prelude.{nat_lt}
use Rattle.std.specs.Option.{option_map_or}
use Rattle.std.proofs.Math.Path.{fun_ext}
use Rattle.avs_seg.specs.Image.{Image}
use Rattle.avs_seg.specs.Segment.{seg_count}
use Rattle.avs_dev.specs.Below.{BelowSeen}
use Rattle.avs_bits.specs.Bit.{disk_bit}
use Rattle.avs_bits.specs.BitSet.{place}
use Rattle.avs_mirrors.specs.Entries.{Images}
use Rattle.avs_sync.specs.Note.{IsNote, note_at}
use Rattle.avs_sync.specs.Parts.{MirrorSet}
use Rattle.avs_sync.specs.declared.note.Note.{Note}
use Rattle.avs_halves.specs.SetBits.{no_part, part_of, set_at}
use Rattle.avs_halves.specs.Found.{due_found, stored_bytes}
use Rattle.avs_halves.specs.Over.{IsOver}
use Rattle.avs_halves.proofs.Lying.{below_is, part_is, there_is}
use Rattle.avs_sender.specs.Held.{SenderHalf, held, parts_of}
use Rattle.avs_sender.specs.Meaning.{IsSenderInStep, found_again, found_by, images_found, sender_of}
use Rattle.avs_sender.specs.Lending.{KeepsSets, Lends}

-- what is asked of a set that is there is the same
pub there_same : {X : Type 0} (b : Bool) (x y z : X) → (b ≡ true → x ≡ y) → cond b x z ≡ cond b y z
there_same true x y z same = same refl
there_same false x y z same = refl

module _ (sound sound_new : Type 0) (ok : Bool) (h : SenderHalf) (below new : BelowSeen) (k : KeepsSets sound sound_new ok h.sets below new) where
  image_same : sound → (set : ℕ) → nat_lt set (length h.sets) ≡ true → get_or new.images (set_at h.sets set).vol [] ≡ get_or below.images (set_at h.sets set).vol []
  image_same s set on = k.images s set (below_is set (length h.sets) on)

  pub lent_means : sound → sender_of (held new h) ≡ sender_of (held below h)
  lent_means s = λ i. record (sender_of (held below h)) { images = images i }
    where
      images : ◌≡◌ {A = Images} (λ set. cond (nat_lt set (length h.sets)) (get_or new.images (set_at h.sets set).vol []) []) (λ set. cond (nat_lt set (length h.sets)) (get_or below.images (set_at h.sets set).vol []) [])
      images = fun_ext (λ set. there_same (nat_lt set (length h.sets)) (get_or new.images (set_at h.sets set).vol []) (get_or below.images (set_at h.sets set).vol []) [] (image_same s set))

  pub lent_over : IsOver below h.sets → IsOver new h.sets
  lent_over over = record {
    few = over.few;
    each = λ set there. let v = over.each set there in record {
      there = k.there set there;
      small = subst (λ (n : ℕ). n ≤ 2 ^ 31) (sym (k.sizes set there)) v.small;
      segs = v.segs ∙ ap (λ (n : ℕ). seg_count n) (sym (k.sizes set there));
      slot = v.slot;
    };
    apart = over.apart;
    slots = over.slots;
  }

  pub lent_step : ok ≡ true → IsSenderInStep sound (held below h) → IsSenderInStep sound_new (held new h)
  lent_step is st = record {
    sound = k.stays is st.sound;
    stored = k.stored ∙ st.stored ∙ ap Some (sym k.note);
    note = subst (λ (bytes : List ℕ). IsNote bytes h.note) (sym k.note) st.note;
    volumes = λ set there. ap (λ (img : Image). length img) (k.images st.sound set there) ∙ st.volumes set there ∙ sym (k.sizes set there);
    bits = st.bits;
  }

  -- it is found as before
  part : ℕ → MirrorSet
  part set = get_or (map part_of h.sets) set no_part

  vol_is : (set : ℕ) → (get_or (map part_of h.sets) set no_part).vol ≡ (set_at h.sets set).vol
  vol_is set = ap (λ (m : MirrorSet). m.vol) (part_is h.sets set)

  low : (set : ℕ) → nat_lt set (length (map part_of h.sets)) ≡ true → set < length h.sets
  low set on = below_is set (length h.sets) (sym (there_is h.sets set) ∙ on)

  found_image : sound → (set : ℕ) → nat_lt set (length (map part_of h.sets)) ≡ true → get_or new.images (get_or (map part_of h.sets) set no_part).vol [] ≡ get_or below.images (get_or (map part_of h.sets) set no_part).vol []
  found_image s set on = ap (λ (v : ℕ). get_or new.images v []) (vol_is set) ∙ k.images s set (low set on) ∙ ap (λ (v : ℕ). get_or below.images v []) (sym (vol_is set))

  found_size : (set : ℕ) → nat_lt set (length (map part_of h.sets)) ≡ true → get_or new.sizes (get_or (map part_of h.sets) set no_part).vol 0 ≡ get_or below.sizes (get_or (map part_of h.sets) set no_part).vol 0
  found_size set on = ap (λ (v : ℕ). get_or new.sizes v 0) (vol_is set) ∙ k.sizes set (low set on) ∙ ap (λ (v : ℕ). get_or below.sizes v 0) (sym (vol_is set))

  images_same : sound → images_found (parts_of (held new h)) ≡ images_found (parts_of (held below h))
  images_same s = fun_ext (λ set. there_same (nat_lt set (length (map part_of h.sets))) (get_or new.images (get_or (map part_of h.sets) set no_part).vol []) (get_or below.images (get_or (map part_of h.sets) set no_part).vol []) [] (found_image s set))

  and_same : (a : Bool) (n m seg : ℕ) (b : Bool) → (a ≡ true → n ≡ m) → ((a && nat_lt seg n) && b) ≡ ((a && nat_lt seg m) && b)
  and_same true n m seg b same = ap (λ (k : ℕ). nat_lt seg k && b) (same refl)
  and_same false n m seg b same = refl

  due_same : due_found new (map part_of h.sets) ≡ due_found below (map part_of h.sets)
  due_same = fun_ext (λ set. fun_ext (λ seg. ap (λ (b : Bool). cond b (Some 0) None)
      (and_same (nat_lt set (length (map part_of h.sets))) (seg_count (get_or new.sizes (get_or (map part_of h.sets) set no_part).vol 0)) (seg_count (get_or below.sizes (get_or (map part_of h.sets) set no_part).vol 0)) seg
      (disk_bit (get_or (map part_of h.sets) set no_part).bits.image (place seg)) (λ on. ap (λ (n : ℕ). seg_count n) (found_size set on)))))

  pub lent_found : sound → found_again (parts_of (held new h)) ≡ found_again (parts_of (held below h))
  lent_found s =
      ap (λ (n : Note). found_by n (parts_of (held new h))) noted
      ∙ (λ i. record (found_by (note_at (stored_bytes below)) (parts_of (held below h))) { images = images_same s i; due = due_same i })
    where
      noted : note_at (stored_bytes new) ≡ note_at (stored_bytes below)
      noted = λ i. note_at (option_map_or (λ (b : List ℕ). b) (k.stored i) (k.note i))

pub lends : {T E : Type 0} (sound sound_new : Type 0) (r : Result T E) (h : SenderHalf) (below new : BelowSeen) → KeepsSets sound sound_new (is_ok r) h.sets below new → Lends sound sound_new (held below h) r (held new h)
lends sound sound_new (Ok x) h below new k = record {
  half = refl;
  same = λ s. lent_means sound sound_new true h below new k s;
  step = λ st. lent_step sound sound_new true h below new k refl st;
  found = λ s. lent_found sound sound_new true h below new k s;
}
lends sound sound_new (Err e) h below new k = record {
  half = refl;
  same = λ s. lent_means sound sound_new false h below new k s;
  step = λ st. tt;
  found = λ s. lent_found sound sound_new false h below new k s;
}
