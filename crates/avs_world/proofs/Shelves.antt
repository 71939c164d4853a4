-- The places of a shelf, and what is seen of their disks.
use Rattle.std.proofs.Common.{◌≡◌, ℕ, ◌<◌, Bool, false, Option, Some, None, List, length, map, get_or, refl, sym, ◌∙◌, ap, subst, inl, inr, arith}
use Rattle.std.specs.Prelude.{slice_set}
use Rattle.std.specs.List.{slice_get}
use Rattle.std.specs.Option.{option_map}
use Rattle.std.proofs.lemmas.Bool.{cases_lt}
use Rattle.std.proofs.lemmas.Option.{slice_get-map, slice_get_read, slice_get_past, get_or_from_slice_get}
use Rattle.std.proofs.lemmas.List.{map-set, length-map}
use Rattle.avs_dev.specs.Seen.{Seen, Arms}
use Rattle.avs_dev.specs.declared.disk.Tear.{Tear}
use Rattle.avs_world.proofs.Holding.{set_back}
use Rattle.avs_world.specs.declared.place.Place.{Place}
use Rattle.avs_world.specs.declared.place.Place.TheVariants.{Lent}
use Rattle.avs_world.specs.Views.{place_view}
use Rattle.avs_world.specs.Ranges.{disk_here}
use Rattle.avs_world.specs.Places.{with_disk, places_with, HasRange, ArmsPlace}

module _ {D : Type 0} (seen : D → Seen) (items : List (Place D)) (k : ℕ) where
  pub within_items : (n : ℕ) → n ≡ length items → k < length (map (place_view seen) items) → k < n
  within_items n count lt = omega (arith, length-map items (place_view seen))

  -- a place that was read
  pub place_read : (n : ℕ) (p : Place D) → n ≡ length items → k < length (map (place_view seen) items) → p ≡ get_or items k p → slice_get items k ≡ Some p
  place_read n p count lt is = slice_get_read items n k p count (within_items n count lt) is

  pub seen_there : (p : Place D) → slice_get items k ≡ Some p → slice_get (map (place_view seen) items) k ≡ Some (place_view seen p)
  seen_there p there = slice_get-map (place_view seen) items k ∙ ap (option_map (place_view seen)) there

  pub disk_there : (p : Place D) (o : Option Seen) → slice_get items k ≡ Some p → disk_here (Some (place_view seen p)) ≡ o → disk_here (slice_get (map (place_view seen) items) k) ≡ o
  disk_there p o there is = ap disk_here (seen_there p there) ∙ is

  -- another place there
  pub placed : (p : Place D) (q : Place Seen) → place_view seen p ≡ q → map (place_view seen) (slice_set items k p) ≡ slice_set (map (place_view seen) items) k q
  placed p q is = map-set (place_view seen) items k p ∙ ap (slice_set (map (place_view seen) items) k) is

  -- another disk there
  pub disk_placed : (old new : Place D) (disk : Seen) → slice_get items k ≡ Some old → place_view seen new ≡ with_disk (place_view seen old) disk
      → map (place_view seen) (slice_set items k new) ≡ places_with (map (place_view seen) items) k disk
  disk_placed old new disk there is =
      placed new (with_disk (place_view seen old) disk) is
      ∙ ap (λ (p : Place Seen). slice_set (map (place_view seen) items) k (with_disk p disk)) (sym (get_or_from_slice_get (map (place_view seen) items) k (place_view seen old) Lent (seen_there old there)))

  -- a tear is armed there
  pub arms_there : (old new : Place D) (disk disk_new : Seen) (tear : Tear) (result : Bool) → slice_get items k ≡ Some old → disk_here (Some (place_view seen old)) ≡ Some disk
      → place_view seen new ≡ with_disk (place_view seen old) disk_new → Arms disk tear result disk_new
      → ArmsPlace (disk_here (slice_get (map (place_view seen) items) k)) (map (place_view seen) items) k tear result (map (place_view seen) (slice_set items k new))
  arms_there old new disk disk_new tear result there here is arms =
      subst (λ (o : Option Seen). ArmsPlace o (map (place_view seen) items) k tear result (map (place_view seen) (slice_set items k new))) (sym (disk_there old (Some disk) there here))
      (disk_new, arms, disk_placed old new disk_new there is)

  pub arms_none : (tear : Tear) (p : Place D) → slice_get items k ≡ Some p → disk_here (Some (place_view seen p)) ≡ None
      → ArmsPlace (disk_here (slice_get (map (place_view seen) items) k)) (map (place_view seen) items) k tear false (map (place_view seen) (slice_set items k p))
  arms_none tear p there none =
      subst (λ (o : Option Seen). ArmsPlace o (map (place_view seen) items) k tear false (map (place_view seen) (slice_set items k p))) (sym (disk_there p None there none))
      (refl, ap (map (place_view seen)) (set_back items k p there))

-- a range is asked of a place that is there
pub range_within : (places : List (Place Seen)) (k at len : ℕ) → HasRange places k at len → k < length places
range_within places k at len has = elim (cases_lt k (length places)) [
  | inl within ↦ within
  | inr past ↦ let e : None ≡ Some has.disk = ap disk_here (sym (slice_get_past places k past)) ∙ has.here in absurd (cc)
]
