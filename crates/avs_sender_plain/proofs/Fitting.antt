-- What a sender of two sets asks of its parts, and of lists of segments.
use Rattle.std.proofs.Common.{◌≡◌, inl, inr, ℕ, ◌<◌, ◌≤◌, ◌∷◌, [], false, List, length, map, get_or, ◌∙◌, sym, refl, ap, subst, arith}
use Rattle.std.proofs.Math.ListN.{get_or-map}
use Rattle.std.proofs.lemmas.List.{length-map}
use Rattle.std.proofs.lemmas.Bool.{cases_eq}
use Rattle.std.specs.List.{All}
use Rattle.avs_seg.specs.Segment.{seg_count}
use Rattle.avs_dev.specs.Below.{BelowSeen, size_of}
use Rattle.avs_model.specs.declared.entry.Limits.{Limits}
use Rattle.avs_sync.specs.Parts.{MirrorSet}
use Rattle.avs_halves.specs.SetBits.{SetBits, no_part, no_set, part_of, set_at}
use Rattle.avs_halves.specs.Found.{part_at}
use Rattle.avs_halves.specs.Over.{AreLoadable, HasOwn}
use Rattle.avs_sender.specs.Held.{SenderHeld, SenderParts, parts_of}
use Rattle.avs_sender.specs.Loading.{Loads}
use Rattle.avs_halves.specs.Marks.{AreSegments}
use Rattle.avs_sender.specs.Noting.{AreLists}
use Rattle.avs_sender_plain.specs.Rigs.{AreBelow, AreStacked, AreTwo, AreTwoParts, IsSizedAs}

pick : (P : ℕ → Type 0) → P 0 → P 1 → (n : ℕ) → n < 2 → P n
pick P zeroth first n is = elim (cases_eq n 0) [
  | inl none ↦ subst P (sym none) zeroth
  | inr some ↦ let one : n ≡ 1 = omega (arith, is, some) in subst P (sym one) first
]

module _ (below : BelowSeen) (parts : List MirrorSet) (stacked : AreStacked below) (two : AreTwoParts parts) where
  is_two : (set : ℕ) → set < length parts → set < 2
  is_two set is = subst (λ (n : ℕ). set < n) two.count is

  first_size : size_of below (part_at parts 0).vol ≡ 150
  first_size = ap (λ (v : ℕ). size_of below v) two.first_vol ∙ stacked.first_size

  second_size : size_of below (part_at parts 1).vol ≡ 70
  second_size = ap (λ (v : ℕ). size_of below v) two.second_vol ∙ stacked.second_size

  first_there : (part_at parts 0).vol < length below.sizes
  first_there = omega (arith, two.first_vol, stacked.count)

  second_there : (part_at parts 1).vol < length below.sizes
  second_there = omega (arith, two.second_vol, stacked.count)

  first_own : HasOwn below parts 0
  first_own = record {
    there = first_there;
    small = omega (arith, first_size);
    slot = omega (arith, two.first_slot);
    volume = λ other is. pick (λ (o : ℕ). (part_at parts o).vol ≡ (part_at parts 0).vol → o ≡ 0) (λ same. refl) (λ same. absurd (omega (arith, same, two.first_vol, two.second_vol))) other (is_two other is);
    slots = λ other is. pick (λ (o : ℕ). (part_at parts o).slot ≡ (part_at parts 0).slot → o ≡ 0) (λ same. refl) (λ same. absurd (omega (arith, same, two.first_slot, two.second_slot))) other (is_two other is);
  }

  second_own : HasOwn below parts 1
  second_own = record {
    there = second_there;
    small = omega (arith, second_size);
    slot = omega (arith, two.second_slot);
    volume = λ other is. pick (λ (o : ℕ). (part_at parts o).vol ≡ (part_at parts 1).vol → o ≡ 1) (λ same. absurd (omega (arith, same, two.first_vol, two.second_vol))) (λ same. refl) other (is_two other is);
    slots = λ other is. pick (λ (o : ℕ). (part_at parts o).slot ≡ (part_at parts 1).slot → o ≡ 1) (λ same. absurd (omega (arith, same, two.first_slot, two.second_slot))) (λ same. refl) other (is_two other is);
  }

  pub two_loadable : AreLoadable below parts
  two_loadable = record { some = omega (arith, two.count); few = omega (arith, two.count); own = λ set is. pick (λ (t : ℕ). HasOwn below parts t) first_own second_own set (is_two set is) }

  module _ (h : SenderHeld) (at : h.below ≡ below) (are : map part_of h.half.sets ≡ parts) where
    count_is : length h.half.sets ≡ 2
    count_is = sym (length-map h.half.sets part_of) ∙ ap (λ (l : List MirrorSet). length l) are ∙ two.count

    part_is : (set : ℕ) → part_of (set_at h.half.sets set) ≡ part_at parts set
    part_is set = sym (get_or-map part_of h.half.sets set no_set) ∙ ap (λ (l : List MirrorSet). get_or l set no_part) are

    vol_is : (set : ℕ) → (set_at h.half.sets set).vol ≡ (part_at parts set).vol
    vol_is set = ap (λ (m : MirrorSet). m.vol) (part_is set)

    there_is : (set : ℕ) → (part_at parts set).vol < length below.sizes → (set_at h.half.sets set).vol < length h.below.sizes
    there_is set is = subst (λ (b : BelowSeen). (set_at h.half.sets set).vol < length b.sizes) (sym at) (subst (λ (v : ℕ). v < length below.sizes) (sym (vol_is set)) is)

    size_is : (set : ℕ) → size_of h.below (set_at h.half.sets set).vol ≡ size_of below (part_at parts set).vol
    size_is set = ap (λ (b : BelowSeen). size_of b (set_at h.half.sets set).vol) at ∙ ap (λ (v : ℕ). size_of below v) (vol_is set)

pub two_found : (sound : Type 0) (p : SenderParts) (limits : Limits) (h : SenderHeld) → AreStacked p.below → AreTwoParts p.sets → Loads sound p limits h → AreTwo h
two_found sound p limits h stacked two l =
    let at : h.below ≡ p.below = ap (λ (q : SenderParts). q.below) l.parts_are in
    let are : map part_of h.half.sets ≡ p.sets = ap (λ (q : SenderParts). q.sets) l.parts_are in
    let count : length h.half.sets ≡ 2 = count_is p.below p.sets stacked two h at are in
    let first : size_of h.below (set_at h.half.sets 0).vol ≡ 150 = size_is p.below p.sets stacked two h at are 0 ∙ first_size p.below p.sets stacked two in
    let second : size_of h.below (set_at h.half.sets 1).vol ≡ 70 = size_is p.below p.sets stacked two h at are 1 ∙ second_size p.below p.sets stacked two in
    let segs : (set : ℕ) → set < 2 → (set_at h.half.sets set).bits.segs ≡ seg_count (size_of h.below (set_at h.half.sets set).vol) = λ set is. (l.lie.each set (subst (λ (n : ℕ). set < n) (sym count) is)).segs ∙ ap (λ (b : BelowSeen). seg_count (size_of b (set_at h.half.sets set).vol)) (sym at) in
    record {
      count = count;
      first = record { there = there_is p.below p.sets stacked two h at are 0 (first_there p.below p.sets stacked two); blocks_are = first; segs_are = segs 0 (omega arith) ∙ ap (λ (n : ℕ). seg_count n) first };
      second = record { there = there_is p.below p.sets stacked two h at are 1 (second_there p.below p.sets stacked two); blocks_are = second; segs_are = segs 1 (omega arith) ∙ ap (λ (n : ℕ). seg_count n) second };
    }

-- a list for each set, of segments that it has
pub two_lists : (h : SenderHeld) (first second : List ℕ) → AreTwo h → AreBelow 3 first → AreBelow 2 second → AreLists h.half.sets (first ∷ second ∷ [])
two_lists h first second two low high = record {
  count = sym two.count;
  each = λ set is. pick (λ (t : ℕ). AreSegments h.half.sets t (get_or (first ∷ second ∷ []) t [])) (subst (λ (n : ℕ). AreBelow n first) (sym two.first.segs_are) low) (subst (λ (n : ℕ). AreBelow n second) (sym two.second.segs_are) high) set (subst (λ (n : ℕ). set < n) two.count is);
}
