-- Two sets, and one, over volumes of known sizes.
use Rattle.std.proofs.Common.{◌≡◌, ◌≢◌, inl, inr, ℕ, ◌<◌, ◌∷◌, [], List, length, get_or, ◌∙◌, sym, refl, ap, subst, arith}
use Rattle.std.proofs.lemmas.Bool.{cases_eq}
use Rattle.avs_dev.specs.Below.{BelowSeen, size_of}
use Rattle.avs_sync.specs.Parts.{MirrorSet}
use Rattle.avs_halves.specs.Found.{part_at}
use Rattle.avs_halves.specs.Over.{AreLoadable, HasOwn}
use Rattle.avs_receiver_plain.specs.Sized.{AreOne, ArePartsSized, AreThree, AreTwo, IsOne}

pub pick : (P : ℕ → Type 0) → P 0 → P 1 → (n : ℕ) → n < 2 → P n
pick P zeroth first n is = elim (cases_eq n 0) [
  | inl none ↦ subst P (sym none) zeroth
  | inr some ↦ let one : n ≡ 1 = omega (arith, is, some) in subst P (sym one) first
]

module _ (below : BelowSeen) (parts : List MirrorSet) where
  module _ (three : AreThree 72 6 below) (two : AreTwo parts) where
    is_two : (set : ℕ) → set < length parts → set < 2
    is_two set is = subst (λ (n : ℕ). set < n) two.count is

    first_own : HasOwn below parts 0
    first_own = record {
      there = omega (arith, two.first_vol, three.count);
      small = let size : size_of below (part_at parts 0).vol ≡ 72 = ap (λ (v : ℕ). size_of below v) two.first_vol ∙ three.first_size in omega (arith, size);
      slot = omega (arith, two.first_slot);
      volume = λ other is. pick (λ (o : ℕ). (part_at parts o).vol ≡ (part_at parts 0).vol → o ≡ 0) (λ same. refl) (λ same. absurd (omega (arith, same, two.first_vol, two.second_vol))) other (is_two other is);
      slots = λ other is. pick (λ (o : ℕ). (part_at parts o).slot ≡ (part_at parts 0).slot → o ≡ 0) (λ same. refl) (λ same. absurd (omega (arith, same, two.first_slot, two.second_slot))) other (is_two other is);
    }

    second_own : HasOwn below parts 1
    second_own = record {
      there = omega (arith, two.second_vol, three.count);
      small = let size : size_of below (part_at parts 1).vol ≡ 6 = ap (λ (v : ℕ). size_of below v) two.second_vol ∙ three.second_size in omega (arith, size);
      slot = omega (arith, two.second_slot);
      volume = λ other is. pick (λ (o : ℕ). (part_at parts o).vol ≡ (part_at parts 1).vol → o ≡ 1) (λ same. absurd (omega (arith, same, two.first_vol, two.second_vol))) (λ same. refl) other (is_two other is);
      slots = λ other is. pick (λ (o : ℕ). (part_at parts o).slot ≡ (part_at parts 1).slot → o ≡ 1) (λ same. absurd (omega (arith, same, two.first_slot, two.second_slot))) (λ same. refl) other (is_two other is);
    }

    pub two_loadable : AreLoadable below parts
    two_loadable = record { some = omega (arith, two.count); few = omega (arith, two.count); own = λ set is. pick (λ (t : ℕ). HasOwn below parts t) first_own second_own set (is_two set is) }

    pub two_sized : ArePartsSized (72 ∷ 6 ∷ []) (2 ∷ 0 ∷ []) below parts
    two_sized = record {
      count = two.count;
      over = record {
        there = pick (λ (t : ℕ). (part_at parts t).vol < length below.sizes) (omega (arith, two.first_vol, three.count)) (omega (arith, two.second_vol, three.count));
        size = pick (λ (t : ℕ). size_of below (part_at parts t).vol ≡ get_or (72 ∷ 6 ∷ []) t 0) (ap (λ (v : ℕ). size_of below v) two.first_vol ∙ three.first_size) (ap (λ (v : ℕ). size_of below v) two.second_vol ∙ three.second_size);
        own = λ t other is also eq. (two_loadable.own t (subst (λ (n : ℕ). t < n) (sym two.count) is)).volume other (subst (λ (n : ℕ). other < n) (sym two.count) also) eq;
        is = pick (λ (t : ℕ). (part_at parts t).vol ≡ get_or (2 ∷ 0 ∷ []) t 0) two.first_vol two.second_vol;
        apart = pick (λ (t : ℕ). (part_at parts t).vol ≢ 1) (λ same. omega (arith, same, two.first_vol)) (λ same. omega (arith, same, two.second_vol));
      };
    }

  module _ (volume : IsOne 64 below) (one : AreOne parts) where
    is_first : (set : ℕ) → set < length parts → set ≡ 0
    is_first set is = omega (arith, is, one.count)

    alone : (P : ℕ → Type 0) → P 0 → (set : ℕ) → set < 1 → P set
    alone P zeroth set is = let none : set ≡ 0 = omega (arith, is) in subst P (sym none) zeroth

    own_alone : HasOwn below parts 0
    own_alone = record {
      there = omega (arith, one.vol, volume.count);
      small = let size : size_of below (part_at parts 0).vol ≡ 64 = ap (λ (v : ℕ). size_of below v) one.vol ∙ volume.size_is in omega (arith, size);
      slot = omega (arith, one.slot);
      volume = λ other is same. is_first other is;
      slots = λ other is same. is_first other is;
    }

    pub one_loadable : AreLoadable below parts
    one_loadable = record { some = omega (arith, one.count); few = omega (arith, one.count); own = λ set is. subst (λ (t : ℕ). HasOwn below parts t) (sym (is_first set is)) own_alone }

    pub one_sized : ArePartsSized (64 ∷ []) (0 ∷ []) below parts
    one_sized = record {
      count = one.count;
      over = record {
        there = alone (λ (t : ℕ). (part_at parts t).vol < length below.sizes) (omega (arith, one.vol, volume.count));
        size = alone (λ (t : ℕ). size_of below (part_at parts t).vol ≡ get_or (64 ∷ []) t 0) (ap (λ (v : ℕ). size_of below v) one.vol ∙ volume.size_is);
        own = λ t other is also eq. (one_loadable.own t (subst (λ (n : ℕ). t < n) (sym one.count) is)).volume other (subst (λ (n : ℕ). other < n) (sym one.count) also) eq;
        is = alone (λ (t : ℕ). (part_at parts t).vol ≡ get_or (0 ∷ []) t 0) one.vol;
        apart = alone (λ (t : ℕ). (part_at parts t).vol ≢ 1) (λ same. omega (arith, same, one.vol));
      };
    }
