-- Two independent shadows of one volume, worked over the definitions: the volume is taken back from the first.
use Rattle.std.proofs.Common.{◌≡◌, false, None, Some, [], ◌∷◌, refl}
use Rattle.std.specs.Option.{option_and_then}
use Rattle.avs_seg.specs.Image.{blank, put}
use Rattle.avs_model.specs.ShadowSets.{next_to_copy}
use Rattle.avs_model.specs.Hosts.{HostState, empty_host, set_state}
use Rattle.avs_model.specs.HostPlaces.{image_of}
use Rattle.avs_model.specs.declared.event.Host.TheVariants.{P}
use Rattle.avs_model.specs.declared.answer.Refusal.TheVariants.{Copying}
use Rattle.avs_model.specs.declared.product.Way.TheVariants.{ToShadow, ToMaster}
use Rattle.avs_model.specs.declared.product.Event.TheVariants.{Volume, Copy}
use Rattle.avs_worked.proofs.WorkedRuns.{done, refused, one_of, v, s, t, c, d, g, write, enable, update}

abbrev pub two_shadows : HostState
two_shadows = done (empty_host 1) (
    Volume P v 128 ∷ Volume P s 128 ∷ Volume P c 64 ∷ Volume P t 128 ∷ Volume P d 64
    ∷ enable (Some g) false v s c ∷ write v 0 17 ∷ enable (Some g) false v t d ∷ write v 0 34 ∷ [])

-- each shadow is the volume as it was when the shadow was enabled
pub first_shadow : image_of two_shadows s ≡ blank 128
first_shadow = refl

pub second_shadow : image_of two_shadows t ≡ put (blank 128) 0 (one_of 17)
second_shadow = refl

pub written_twice : image_of two_shadows v ≡ put (put (blank 128) 0 (one_of 17)) 0 (one_of 34)
written_twice = refl

abbrev pub taken_back : HostState
taken_back = done two_shadows (update ToMaster s ∷ [])

pub may_be_taken : refused two_shadows (update ToMaster s) ≡ None
may_be_taken = refl

-- the volume is the first shadow, and the second is as it was
pub taken_volume : image_of taken_back v ≡ blank 128
taken_volume = refl

pub kept_shadow : image_of taken_back t ≡ put (blank 128) 0 (one_of 17)
kept_shadow = refl

-- one chunk lies on the first shadow alone; the second cannot be updated until it is copied
pub still_copying : refused taken_back (update ToShadow t) ≡ Some (Copying 1)
still_copying = refl

pub copied_next : option_and_then next_to_copy (set_state taken_back s) ≡ Some 0
copied_next = refl

abbrev pub copied_once : HostState
copied_once = done taken_back (Copy P s ∷ [])

pub copied_then : option_and_then next_to_copy (set_state copied_once s) ≡ Some 1
copied_then = refl

abbrev pub copied_all : HostState
copied_all = done copied_once (Copy P s ∷ [])

pub copied_last : option_and_then next_to_copy (set_state copied_all s) ≡ None
copied_last = refl

pub may_be_updated : refused copied_all (update ToShadow t) ≡ None
may_be_updated = refl

pub updated_shadow : image_of (done copied_all (update ToShadow t ∷ [])) t ≡ blank 128
updated_shadow = refl
