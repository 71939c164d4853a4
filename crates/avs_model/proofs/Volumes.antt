-- Volumes by name and by place.
use Rattle.std.proofs.Common.{◌≡◌, ℕ, suc, ◌+◌, ◌<◌, ◌≤◌, Bool, not, cond, ltb, zero, None, Some, List, [], ◌∷◌, length, map, set, refl, sym, ◌∙◌, ap, inl, inr, arith}
use Rattle.std.specs.List.{position_or_len, position, find, slice_get}
use Rattle.std.specs.Str.{bytes_eq}
use Rattle.std.specs.Option.{option_map}
use Rattle.std.proofs.lemmas.Bool.{cases_Bool, cond-true, cond-false, ltb-true, ltb-false, not_from_true, not_from_false}
use Rattle.std.proofs.lemmas.Option.{same_Some}
use Rattle.std.proofs.lemmas.List.Folds.{find_at}
use Rattle.avs_model.specs.State.{VolumeState, HostState, volume_of, with_volume_of}

-- the place of a name among the volumes, or their number
abbrev pub place_or_count : List ℕ → List VolumeState → ℕ
place_or_count name volumes = position_or_len (λ (v : VolumeState). bytes_eq name v.name) volumes

-- a test of what f makes of each element
pub position_or_len-map : {X Y : Type 0} (f : X → Y) (p : Y → Bool) (xs : List X) → position_or_len p (map f xs) ≡ position_or_len (λ x. p (f x)) xs
position_or_len-map f p [] = refl
position_or_len-map {X} {Y} f p (x ∷ xs) = ap (λ n. cond (not (p (f x))) (1 + n) 0) (position_or_len-map f p xs)

-- a position is the least place, and lies in the list
module _ {X : Type 0} (p : X → Bool) (xs : List X) where
  pub position_some : (k : ℕ) → position p xs ≡ Some k → (position_or_len p xs ≡ k) × (k < length xs)
  position_some k is = elim (cases_Bool (ltb (position_or_len p xs) (length xs))) [
    | inl within ↦
        let e : Some (position_or_len p xs) ≡ Some k = sym (cond-true (ltb (position_or_len p xs) (length xs)) (Some (position_or_len p xs)) None within) ∙ is in
        let same : position_or_len p xs ≡ k = cc in
        (same, omega (arith, same, ltb-true (position_or_len p xs) (length xs) within))
    | inr past ↦
        let e : None ≡ Some k = sym (cond-false (ltb (position_or_len p xs) (length xs)) (Some (position_or_len p xs)) None past) ∙ is in
        absurd (cc)
  ]

  pub position_none : position p xs ≡ None → length xs ≤ position_or_len p xs
  position_none is = elim (cases_Bool (ltb (position_or_len p xs) (length xs))) [
    | inl within ↦
        let e : Some (position_or_len p xs) ≡ None = sym (cond-true (ltb (position_or_len p xs) (length xs)) (Some (position_or_len p xs)) None within) ∙ is in
        absurd (cc)
    | inr past ↦ ltb-false (position_or_len p xs) (length xs) past
  ]

-- the volume of a name, by its place
pub volume_of-place : (host : HostState) (name : List ℕ) (k : ℕ) → place_or_count name host.volumes ≡ k → volume_of host name ≡ slice_get host.volumes k
volume_of-place host name k is = find_at (λ (v : VolumeState). bytes_eq name v.name) host.volumes ∙ ap (slice_get host.volumes) is

-- the volumes, of which that at the place of the name is changed
pub with_volume_of-place : (volumes : List VolumeState) (name : List ℕ) (change : VolumeState → VolumeState) (k : ℕ) (v : VolumeState) → place_or_count name volumes ≡ k → slice_get volumes k ≡ Some v
    → with_volume_of volumes name change ≡ set volumes k (change v)
with_volume_of-place [] name change k v is there = refl
with_volume_of-place (first ∷ volumes) name change zero v is there = elim (cases_Bool (bytes_eq name first.name)) [
  | inl same ↦
      let this : first ≡ v = same_Some first v there in
      cond-true (bytes_eq name first.name) (change first ∷ volumes) (first ∷ with_volume_of volumes name change) same
      ∙ ap (λ (w : VolumeState). change w ∷ volumes) this
  | inr other ↦ absurd (omega (arith, is, cond-true (not (bytes_eq name first.name)) (1 + place_or_count name volumes) 0 (not_from_false (bytes_eq name first.name) other)))
]
with_volume_of-place (first ∷ volumes) name change (suc k) v is there = elim (cases_Bool (bytes_eq name first.name)) [
  | inl same ↦ absurd (omega (arith, is, cond-false (not (bytes_eq name first.name)) (1 + place_or_count name volumes) 0 (not_from_true (bytes_eq name first.name) same)))
  | inr other ↦
      let rest : place_or_count name volumes ≡ k = omega (arith, is, cond-true (not (bytes_eq name first.name)) (1 + place_or_count name volumes) 0 (not_from_false (bytes_eq name first.name) other)) in
      cond-false (bytes_eq name first.name) (change first ∷ volumes) (first ∷ with_volume_of volumes name change) other
      ∙ ap (λ (vs : List VolumeState). first ∷ vs) (with_volume_of-place volumes name change k v rest there)
]

module _ (name : List ℕ) (change : VolumeState → VolumeState) (keeps : (v : VolumeState) → (change v).name ≡ v.name) where
  -- the volume of that name then is the changed one
  pub volume_of-changed : (volumes : List VolumeState) → find (λ (v : VolumeState). bytes_eq name v.name) (with_volume_of volumes name change) ≡ option_map change (find (λ (v : VolumeState). bytes_eq name v.name) volumes)
  volume_of-changed [] = refl
  volume_of-changed (first ∷ volumes) = elim (cases_Bool (bytes_eq name first.name)) [
    | inl same ↦
        ap (find (λ (v : VolumeState). bytes_eq name v.name)) (cond-true (bytes_eq name first.name) (change first ∷ volumes) (first ∷ with_volume_of volumes name change) same)
        ∙ cond-true (bytes_eq name (change first).name) (Some (change first)) (find (λ (v : VolumeState). bytes_eq name v.name) volumes) (ap (bytes_eq name) (keeps first) ∙ same)
        ∙ ap (option_map change) (sym (cond-true (bytes_eq name first.name) (Some first) (find (λ (v : VolumeState). bytes_eq name v.name) volumes) same))
    | inr other ↦
        ap (find (λ (v : VolumeState). bytes_eq name v.name)) (cond-false (bytes_eq name first.name) (change first ∷ volumes) (first ∷ with_volume_of volumes name change) other)
        ∙ cond-false (bytes_eq name first.name) (Some first) (find (λ (v : VolumeState). bytes_eq name v.name) (with_volume_of volumes name change)) other
        ∙ volume_of-changed volumes
        ∙ ap (option_map change) (sym (cond-false (bytes_eq name first.name) (Some first) (find (λ (v : VolumeState). bytes_eq name v.name) volumes) other))
  ]

  -- one change after another
  pub changed_twice : (volumes : List VolumeState) (then : VolumeState → VolumeState) → with_volume_of (with_volume_of volumes name change) name then ≡ with_volume_of volumes name (λ v. then (change v))
  changed_twice [] then = refl
  changed_twice (first ∷ volumes) then = elim (cases_Bool (bytes_eq name first.name)) [
    | inl same ↦
        ap (λ (vs : List VolumeState). with_volume_of vs name then) (cond-true (bytes_eq name first.name) (change first ∷ volumes) (first ∷ with_volume_of volumes name change) same)
        ∙ cond-true (bytes_eq name (change first).name) (then (change first) ∷ volumes) (change first ∷ with_volume_of volumes name then) (ap (bytes_eq name) (keeps first) ∙ same)
        ∙ sym (cond-true (bytes_eq name first.name) (then (change first) ∷ volumes) (first ∷ with_volume_of volumes name (λ v. then (change v))) same)
    | inr other ↦
        ap (λ (vs : List VolumeState). with_volume_of vs name then) (cond-false (bytes_eq name first.name) (change first ∷ volumes) (first ∷ with_volume_of volumes name change) other)
        ∙ cond-false (bytes_eq name first.name) (then first ∷ with_volume_of volumes name change) (first ∷ with_volume_of (with_volume_of volumes name change) name then) other
        ∙ ap (λ (vs : List VolumeState). first ∷ vs) (changed_twice volumes then)
        ∙ sym (cond-false (bytes_eq name first.name) (then (change first) ∷ volumes) (first ∷ with_volume_of volumes name (λ v. then (change v))) other)
  ]
