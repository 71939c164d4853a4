-- The sets of a receiver lie over volumes of the same sizes as those that it was loaded from.
use Rattle.std.proofs.Common.{◌≡◌, ◌≢◌, ℕ, ◌<◌, List, length, get_or, ◌∙◌, sym, ap, subst, arith}
use Rattle.avs_seg.specs.Segment.{seg_count}
use Rattle.avs_dev.specs.Below.{BelowSeen, size_of}
use Rattle.avs_sync.specs.Parts.{MirrorSet}
use Rattle.avs_halves.specs.Over.{AreLoadable, IsOver}
use Rattle.avs_halves.specs.SetBits.{set_at}
use Rattle.avs_halves.specs.Found.{part_at}
use Rattle.avs_halves.proofs.Lying.{loaded_count, loaded_over, loaded_part}
use Rattle.avs_receiver.specs.Held.{ReceiverHeld, ReceiverParts}
use Rattle.avs_receiver.specs.Going.{ReceiverStays}
use Rattle.avs_receiver.specs.Loading.{Loads}
use Rattle.avs_receiver_plain.specs.Sized.{ArePartsSized, IsSized}

module _ (sizes vols : List ℕ) where
  pub kept_sized : (old new : ReceiverHeld) → IsSized sizes vols old → new.below.sizes ≡ old.below.sizes → length new.half.sets ≡ length old.half.sets → ((set : ℕ) → (set_at new.half.sets set).vol ≡ (set_at old.half.sets set).vol) → ((set : ℕ) → (set_at new.half.sets set).bits.segs ≡ (set_at old.half.sets set).bits.segs) → IsSized sizes vols new
  kept_sized old new s same count vol segs = record {
    count = count ∙ s.count;
    over = record {
      there = λ t is. subst (λ (l : List ℕ). (set_at new.half.sets t).vol < length l) (sym same) (subst (λ (v : ℕ). v < length old.below.sizes) (sym (vol t)) (s.over.there t is));
      size = λ t is. (λ i. get_or (same i) (vol t i) 0) ∙ s.over.size t is;
      is = λ t is. vol t ∙ s.over.is t is;
      own = λ t other is also eq. s.over.own t other is also (sym (vol other) ∙ eq ∙ vol t);
      apart = λ t is. subst (λ (v : ℕ). v ≢ 1) (sym (vol t)) (s.over.apart t is);
    };
    segs = λ t is. segs t ∙ s.segs t is;
  }

  pub stays_sized : (sound : Type 0) (old new : ReceiverHeld) → IsSized sizes vols old → ReceiverStays sound old new → IsSized sizes vols new
  stays_sized sound old new s r = kept_sized old new s r.below.sizes r.count (λ t. (r.sets t).vol) (λ t. (r.sets t).segs)

  pub loads_sized : (sound sound_new : Type 0) (p : ReceiverParts) (new : ReceiverHeld) → AreLoadable p.below p.sets → ArePartsSized sizes vols p.below p.sets → Loads sound sound_new p new → IsSized sizes vols new
  loads_sized sound sound_new p new loadable a l = stays_sized sound l.first new opened l.stays
    where
      below_is : l.first.below ≡ p.below
      below_is = ap (λ (q : ReceiverParts). q.below) l.opens.parts_are

      vol_is : (t : ℕ) → (set_at l.first.half.sets t).vol ≡ (part_at p.sets t).vol
      vol_is t = ap (λ (m : MirrorSet). m.vol) (sym (loaded_part p.below p.sets l.first.half.sets l.opens.sets t))

      count : length l.first.half.sets ≡ length sizes
      count = loaded_count p.below p.sets l.first.half.sets l.opens.sets ∙ a.count

      over : IsOver p.below l.first.half.sets
      over = loaded_over p.below p.sets l.first.half.sets l.opens.sets loadable

      opened : IsSized sizes vols l.first
      opened = record {
        count = count;
        over = record {
          there = λ t is. subst (λ (b : BelowSeen). (set_at l.first.half.sets t).vol < length b.sizes) (sym below_is) (subst (λ (v : ℕ). v < length p.below.sizes) (sym (vol_is t)) (a.over.there t is));
          size = λ t is. (λ i. size_of (below_is i) (vol_is t i)) ∙ a.over.size t is;
          is = λ t is. vol_is t ∙ a.over.is t is;
          own = λ t other is also eq. over.apart t other (omega (arith, is, count)) (omega (arith, also, count)) eq;
          apart = λ t is. subst (λ (v : ℕ). v ≢ 1) (sym (vol_is t)) (a.over.apart t is);
        };
        segs = λ t is. (over.each t (omega (arith, is, count))).segs ∙ ap (λ (n : ℕ). seg_count n) ((λ i. size_of p.below (vol_is t i)) ∙ a.over.size t is);
      }
