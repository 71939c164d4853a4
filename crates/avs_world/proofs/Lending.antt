-- The disks of three places, lent to a group and given back.
use Rattle.std.proofs.Common.{◌≡◌, ℕ, Bool, true, false, Some, None, List, [], ◌∷◌, ◌++◌, refl, sym, ◌∙◌, ap, subst}
use Rattle.std.specs.Prelude.{slice_set, slice_index_or, Result, IfOk, Ok, Err}
use Rattle.std.specs.List.{slice_get}
use Rattle.avs_dev.specs.Seen.{Seen}
use Rattle.avs_ii.specs.Held.{IiDisks}
use Rattle.avs_ii.specs.Calls.{Adds, blocks_at}
use Rattle.avs_world.specs.declared.place.Place.{Place}
use Rattle.avs_world.specs.declared.place.Place.TheVariants.{Lent}
use Rattle.avs_world.specs.declared.enabling.Chosen.{Chosen}
use Rattle.avs_world.specs.Views.{GroupView}
use Rattle.avs_world.specs.Ranges.{disk_here}
use Rattle.avs_world.specs.Places.{place_of, Lends, LendsNone}
use Rattle.avs_world.specs.Enabling.{HasThree, places_lent, set_of, Fills, LendsTo}
use Rattle.avs_world.proofs.Holding.{slice_get-set_other}

-- the same place by two disks
same_place_of : (spent spent' : Bool) (d d' : Seen) → place_of spent d ≡ place_of spent' d' → (d ≡ d') × (spent ≡ spent')
same_place_of true true d d' is = (cc, refl)
same_place_of true false d d' is = absurd (cc)
same_place_of false true d d' is = absurd (cc)
same_place_of false false d d' is = (cc, refl)

pub disk_of_place : (spent : Bool) (d : Seen) → disk_here (Some (place_of spent d)) ≡ Some d
disk_of_place true d = refl
disk_of_place false d = refl

-- the disk that is lent is that which is here
module _ (places : List (Place Seen)) (k : ℕ) (spent : Bool) (d : Seen) (here : slice_get places k ≡ Some (place_of spent d)) where
  lent_is : (d' : Seen) (spent' : Bool) (new : List (Place Seen)) → Lends places k d' spent' new → (d' ≡ d) × (spent' ≡ spent)
  lent_is d' spent' new lends =
      let twice : Some (place_of spent' d') ≡ Some (place_of spent d) = sym lends.was ∙ here in
      same_place_of spent' spent d' d (cc)

  pub is_lent : (new : List (Place Seen)) → LendsNone places k new → ⊥
  is_lent new lends = let e : None ≡ Some d = sym lends.none ∙ ap disk_here here ∙ disk_of_place spent d in absurd (cc)

-- the disks of three places that were lent
pub record AreLent (places : List (Place Seen)) (chosen : Chosen) (three : HasThree places chosen) (master shadow bitmap : Seen) (spent : Bool) (new : List (Place Seen)) : Type 0 where
  pub master_is : master ≡ three.master_disk
  pub shadow_is : shadow ≡ three.shadow_disk
  pub bitmap_is : bitmap ≡ three.bitmap_disk
  pub spent_is : spent ≡ three.shadow_spent
  pub is : new ≡ places_lent places chosen

module _ (places : List (Place Seen)) (chosen : Chosen) (three : HasThree places chosen) where
  pub shadow_still : slice_get (slice_set places chosen.master Lent) chosen.shadow ≡ Some (place_of three.shadow_spent three.shadow_disk)
  shadow_still = slice_get-set_other places chosen.master chosen.shadow Lent three.shadow_differs ∙ three.shadow_here

  pub bitmap_still : slice_get (slice_set (slice_set places chosen.master Lent) chosen.shadow Lent) chosen.bitmap ≡ Some (place_of three.bitmap_spent three.bitmap_disk)
  bitmap_still =
      slice_get-set_other (slice_set places chosen.master Lent) chosen.shadow chosen.bitmap Lent three.bitmap_differs_too ∙ slice_get-set_other places chosen.master chosen.bitmap Lent three.bitmap_differs
      ∙ three.bitmap_here

  module _ (master shadow : Seen) (m s : Bool) (first second third : List (Place Seen)) (lends : Lends places chosen.master master m first) (lends_shadow : Lends first chosen.shadow shadow s second) where
    pub are_lent : (bitmap : Seen) (b : Bool) → Lends second chosen.bitmap bitmap b third → AreLent places chosen three master shadow bitmap s third
    are_lent bitmap b lends_bitmap =
        let second_is : second ≡ slice_set (slice_set places chosen.master Lent) chosen.shadow Lent = lends_shadow.is ∙ ap (λ (l : List (Place Seen)). slice_set l chosen.shadow Lent) lends.is in
        let of_master = lent_is places chosen.master false three.master_disk three.master_here master m first lends in
        let of_shadow = lent_is first chosen.shadow three.shadow_spent three.shadow_disk (ap (λ (l : List (Place Seen)). slice_get l chosen.shadow) lends.is ∙ shadow_still) shadow s second lends_shadow in
        let of_bitmap = lent_is second chosen.bitmap three.bitmap_spent three.bitmap_disk (ap (λ (l : List (Place Seen)). slice_get l chosen.bitmap) second_is ∙ bitmap_still) bitmap b third lends_bitmap in
        record {
          master_is = of_master.0;
          shadow_is = of_shadow.0;
          bitmap_is = of_bitmap.0;
          spent_is = of_shadow.1;
          is = lends_bitmap.is ∙ ap (λ (l : List (Place Seen)). slice_set l chosen.bitmap Lent) second_is;
        }

    pub not_lent_third : LendsNone second chosen.bitmap third → ⊥
    not_lent_third none =
        let second_is : second ≡ slice_set (slice_set places chosen.master Lent) chosen.shadow Lent = lends_shadow.is ∙ ap (λ (l : List (Place Seen)). slice_set l chosen.shadow Lent) lends.is in
        is_lent second chosen.bitmap three.bitmap_spent three.bitmap_disk (ap (λ (l : List (Place Seen)). slice_get l chosen.bitmap) second_is ∙ bitmap_still) third none

  -- what became of a group that they were lent to
  pub lends_to : {E : Type 0} (name : List ℕ) (held mid : IiDisks) (master shadow bitmap : Seen) (spent : Bool) (lent places_new : List (Place Seen)) (new : GroupView) (result : Result Bool E)
      → AreLent places chosen three master shadow bitmap spent lent → Adds held master mid → IfOk result (λ done. Fills lent (set_of name chosen spent) mid shadow bitmap done places_new new)
      → IfOk result (λ done. LendsTo places chosen name held done places_new new)
  lends_to name held mid master shadow bitmap spent lent places_new new (Ok done) are adds fills = record {
    three = three;
    held_mid = mid;
    adds = subst (λ (d : Seen). Adds held d mid) are.master_is adds;
    fills = subst (λ (l : List (Place Seen)). Fills l (set_of name chosen three.shadow_spent) mid three.shadow_disk three.bitmap_disk done places_new new) are.is
        (subst (λ (b : Bool). Fills lent (set_of name chosen b) mid three.shadow_disk three.bitmap_disk done places_new new) are.spent_is
        (subst (λ (d : Seen). Fills lent (set_of name chosen spent) mid d three.bitmap_disk done places_new new) are.shadow_is
        (subst (λ (d : Seen). Fills lent (set_of name chosen spent) mid shadow d done places_new new) are.bitmap_is fills)));
  }
  lends_to name held mid master shadow bitmap spent lent places_new new (Err e) are adds fills = tt

-- the blocks of the one volume of a group
pub one_added : (held mid : IiDisks) (disk : Seen) → held.volumes ≡ [] → Adds held disk mid → mid.volumes ≡ disk ∷ []
one_added held mid disk none adds = ap (λ (g : IiDisks). g.volumes) adds.is ∙ ap (λ (l : List Seen). l ++ disk ∷ []) none

pub added_blocks : (held mid : IiDisks) (disk : Seen) → held.volumes ≡ [] → Adds held disk mid → blocks_at mid 0 ≡ disk.size
added_blocks held mid disk none adds = ap (λ (l : List Seen). (slice_index_or l 0 mid.state).size) (one_added held mid disk none adds)
