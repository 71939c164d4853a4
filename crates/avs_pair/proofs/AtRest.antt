-- A volume at rest is written by one stage of its host, and a fault may stop the write of a half in logging behind its bits and in its midst.
use Rattle.std.proofs.Common.{◌≡◌, inl, inr, ℕ, Bool, true, false, cond, [], ◌∷◌, Option, None, Some, is_some, ◌∙◌, refl, sym, ap}
use Rattle.std.specs.Option.{option_map, option_map_or}
use Rattle.std.specs.Str.{bytes_eq}
use Rattle.std.proofs.lemmas.Bool.{cases_Bool}
use Rattle.avs_seg.specs.Image.{Image, put}
use Rattle.avs_model.specs.Hosts.{HostState, Name, Put, VolumeState, has_volume, is_volume, own_image, volume_of, with_image}
use Rattle.avs_model.specs.HostPlaces.{InGroup, Own, Where, image_at, image_of, where_is}
use Rattle.avs_mirrors.specs.MirrorHosts.{MirrorHost, PairSet, NamedEntry, mirror_set_of}
use Rattle.avs_mirrors.specs.MoveStages.{IsAtRest, MakesImages, image_changed_to, entry_image}
use Rattle.avs_pair.proofs.Named.{find_fits, find_map, same_name}
use Rattle.avs_pair.proofs.HalfMoves.{sends_not}

-- ---- images of a host in which a volume has another one

module _ (host : HostState) (name : Name) (image : Image) where
  abbrev change : VolumeState → VolumeState
  change volume = cond (is_volume name volume) (record volume { image = image }) volume

  same_volume : (n : Name) (volume : VolumeState) → is_volume n (change volume) ≡ is_volume n volume
  same_volume n volume = by (is_volume name volume)
    where
      by : (b : Bool) → is_volume n (cond b (record volume { image = image }) volume) ≡ is_volume n volume
      by true = refl
      by false = refl

  found : (n : Name) → volume_of (with_image host name image) n ≡ option_map change (volume_of host n)
  found n = find_map (is_volume n) change (same_volume n) host.volumes

  -- another volume has its own
  own_beside : (n : Name) → bytes_eq name n ≡ false → own_image (with_image host name image) n ≡ own_image host n
  own_beside n apart = ap (λ (o : Option VolumeState). option_map_or (λ (v : VolumeState). v.image) o []) (found n) ∙ by (volume_of host n) refl
    where
      by : (o : Option VolumeState) → volume_of host n ≡ o → option_map_or (λ (v : VolumeState). v.image) (option_map change o) [] ≡ option_map_or (λ (v : VolumeState). v.image) o []
      by None is = refl
      by (Some v) is =
          let named : n ≡ v.name = same_name n v.name (find_fits (is_volume n) host.volumes v is) in
          ap (λ (b : Bool). (cond b (record v { image = image }) v).image) (sym (ap (bytes_eq name) named) ∙ apart)

  -- this one has that image
  own_itself : has_volume host name ≡ true → own_image (with_image host name image) name ≡ image
  own_itself there = ap (λ (o : Option VolumeState). option_map_or (λ (v : VolumeState). v.image) o []) (found name) ∙ by (volume_of host name) refl there
    where
      by : (o : Option VolumeState) → volume_of host name ≡ o → is_some o ≡ true → option_map_or (λ (v : VolumeState). v.image) (option_map change o) [] ≡ image
      by None is some = absurd (sends_not false some refl)
      by (Some v) is some = ap (λ (b : Bool). (cond b (record v { image = image }) v).image) (find_fits (is_volume name) host.volumes v is)

  pub image_beside : (n : Name) → bytes_eq name n ≡ false → image_of (with_image host name image) n ≡ image_of host n
  image_beside n apart = by (where_is host n)
    where
      by : (w : Where) → image_at (with_image host name image) n w ≡ image_at host n w
      by Own = own_beside n apart
      by (InGroup place spot) = refl

  pub image_itself : has_volume host name ≡ true → where_is host name ≡ Own → image_of (with_image host name image) name ≡ image
  image_itself there at = ap (λ (w : Where). image_at (with_image host name image) name w) at ∙ own_itself there

-- ---- a volume at rest that is one set's alone

-- with another image of it
pub rests_with : (host : MirrorHost) (name volume : Name) (image : Image) → IsAtRest host name volume → (set : PairSet) → mirror_set_of host set.name ≡ Some set
    → image_of (with_image host.own volume image) set.volume ≡ image_changed_to host name image set
rests_with host name volume image rest set found' = elim (cases_Bool (bytes_eq volume set.volume)) [
  | inl same ↦
      let one : volume ≡ set.volume = same_name volume set.volume same in
      ap (image_of (with_image host.own volume image)) (sym one)
      ∙ image_itself host.own volume image rest.there rest.at_rest
      ∙ sym (ap (λ (b : Bool). cond b image (image_of host.own set.volume)) (sym (rest.alone set found') ∙ same))
  | inr other ↦
      image_beside host.own volume image set.volume other
      ∙ sym (ap (λ (b : Bool). cond b image (image_of host.own set.volume)) (sym (rest.alone set found') ∙ other))
]

pub rest_image : (host : MirrorHost) (name volume : Name) → IsAtRest host name volume → image_of host.own volume ≡ own_image host.own volume
rest_image host name volume rest = ap (λ (w : Where). image_at host.own volume w) rest.at_rest

-- a write to it
pub rest_changed : (host : MirrorHost) (name volume : Name) (at : ℕ) (bytes : Image) → IsAtRest host name volume → MakesImages host (Put volume at bytes ∷ []) (image_changed_to host name (put (own_image host.own volume) at bytes))
rest_changed host name volume at bytes rest = record { each = λ set found'. rests_with host name volume (put (own_image host.own volume) at bytes) rest set found' }

pub rest_put : (host : MirrorHost) (e : NamedEntry) (volume : Name) → IsAtRest host e.set volume → MakesImages host (Put volume e.at e.bytes ∷ []) (entry_image host e)
rest_put host e volume rest = record { each = λ set found'. rests_with host e.set volume (put (own_image host.own volume) e.at e.bytes) rest set found' ∙ by set found' (bytes_eq e.set set.name) refl }
  where
    by : (set : PairSet) → mirror_set_of host set.name ≡ Some set → (b : Bool) → bytes_eq e.set set.name ≡ b
        → cond b (put (own_image host.own volume) e.at e.bytes) (image_of host.own set.volume) ≡ cond b (put (image_of host.own set.volume) e.at e.bytes) (image_of host.own set.volume)
    by set found' false is = refl
    by set found' true is =
        let one : volume ≡ set.volume = same_name volume set.volume (rest.alone set found' ∙ is) in
        ap (λ (i : Image). put i e.at e.bytes) (sym (rest_image host e.set volume rest) ∙ ap (image_of host.own) one)
