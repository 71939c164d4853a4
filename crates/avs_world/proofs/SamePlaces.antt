-- Ranges of a volume that are refused in one state for what they are in the other.
use Rattle.std.proofs.Common.{◌≡◌, ℕ, ◌+◌, Bool, true, false, not, cond, Option, None, Some, List, [], ◌∷◌, map, refl, sym, ◌∙◌, ap, inl, inr}
use Rattle.std.specs.Prelude.{◌||◌, nat_lt, find}
use Rattle.std.specs.Option.{is_some, option_map, option_map_or}
use Rattle.std.specs.Str.{bytes_eq}
use Rattle.std.proofs.lemmas.Bool.{cases_Bool, cond-true, cond-false}
use Rattle.avs_model.specs.State.{State, VolumeState, volume_of, size_of, is_spent, use_of, reach_of, with_volume_of}
use Rattle.avs_model.specs.Refusals.{is_bitmap, first_cause}
use Rattle.avs_model.specs.declared.answer.Role.TheVariants.{Bitmap}
use Rattle.avs_model.specs.declared.answer.Refusal.TheVariants.{NoVolume, BusyVolume, Length, Range, NoContents}
use Rattle.avs_world.specs.Calls.{SamePlace}

-- what a range is refused for looks at all of a volume but its image and its tear
abbrev pub look : VolumeState → VolumeState
look v = record v { image = []; armed = false }

pub looks_same : (volumes : List VolumeState) (name : List ℕ) (change : VolumeState → VolumeState) → ((v : VolumeState) → look (change v) ≡ look v) → map look (with_volume_of volumes name change) ≡ map look volumes
looks_same [] name change same = refl
looks_same (v ∷ volumes) name change same = elim (cases_Bool (bytes_eq name v.name)) [
  | inl is ↦
      ap (map look) (cond-true (bytes_eq name v.name) (change v ∷ volumes) (v ∷ with_volume_of volumes name change) is)
      ∙ ap (λ (w : VolumeState). w ∷ map look volumes) (same v)
  | inr other ↦
      ap (map look) (cond-false (bytes_eq name v.name) (change v ∷ volumes) (v ∷ with_volume_of volumes name change) other)
      ∙ ap (λ (l : List VolumeState). look v ∷ l) (looks_same volumes name change same)
]

-- a volume is found as it looks
look_at : (volumes : List VolumeState) (name : List ℕ) → option_map look (find (λ (v : VolumeState). bytes_eq name v.name) volumes) ≡ find (λ (v : VolumeState). bytes_eq name v.name) (map look volumes)
look_at [] name = refl
look_at (v ∷ volumes) name = by (bytes_eq name v.name) (find (λ (w : VolumeState). bytes_eq name w.name) volumes) ∙ ap (cond (bytes_eq name v.name) (Some (look v))) (look_at volumes name)
  where
    by : (b : Bool) (o : Option VolumeState) → option_map look (cond b (Some v) o) ≡ cond b (Some (look v)) (option_map look o)
    by true o = refl
    by false o = refl

module _ (old new : State) (name : List ℕ) (same : map look new.p.volumes ≡ map look old.p.volumes) where
  found_same : option_map look (volume_of new.p name) ≡ option_map look (volume_of old.p name)
  found_same = look_at new.p.volumes name ∙ ap (find (λ (v : VolumeState). bytes_eq name v.name)) same ∙ sym (look_at old.p.volumes name)

  -- so is whatever is told of how it looks
  told_same : {X : Type 0} (f : VolumeState → X) (x : X) → ((v : VolumeState) → f (look v) ≡ f v) → option_map_or f (volume_of new.p name) x ≡ option_map_or f (volume_of old.p name) x
  told_same {X} f x looks = sym (by (volume_of new.p name)) ∙ ap (λ (o : Option VolumeState). option_map_or f o x) found_same ∙ by (volume_of old.p name)
    where
      by : (o : Option VolumeState) → option_map_or f (option_map look o) x ≡ option_map_or f o x
      by None = refl
      by (Some v) = looks v

  pub size_same : size_of new.p name ≡ size_of old.p name
  size_same = told_same (λ v. v.blocks) 0 (λ v. refl)

  spent_same : is_spent new.p name ≡ is_spent old.p name
  spent_same = told_same (λ v. v.spent) false (λ v. refl)

  there_same : is_some (volume_of new.p name) ≡ is_some (volume_of old.p name)
  there_same = sym (by (volume_of new.p name)) ∙ ap is_some found_same ∙ by (volume_of old.p name)
    where
      by : (o : Option VolumeState) → is_some (option_map look o) ≡ is_some o
      by None = refl
      by (Some v) = refl

  -- where as many of its blocks can be reached, by the same use
  pub same_place : use_of new.p name ≡ use_of old.p name → reach_of new.p name ≡ reach_of old.p name → SamePlace name old new
  same_place used reach at len longest = λ i.
      first_cause
      ((not (there_same i), NoVolume) ∷ (is_bitmap (used i), BusyVolume Bitmap) ∷ (nat_lt len 1 || nat_lt longest len, Length len) ∷ (nat_lt (reach i) (at + len), Range (reach i)) ∷ (spent_same i, NoContents) ∷ [])
