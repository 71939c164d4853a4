-- One update of two sets, worked over the definitions: a fault stops it, and it stands for both or for none.
use Rattle.std.proofs.Common.{arith, ◌≡◌, true, false, None, Some, [], ◌∷◌, map, refl, inl}
use Rattle.std.specs.Option.{option_map_or}
use Rattle.avs_seg.specs.Image.{blank, put}
use Rattle.avs_seg.specs.Staged.{run}
use Rattle.avs_model.specs.ShadowSets.{to_copy}
use Rattle.avs_model.specs.Hosts.{HostState, empty_host, set_state, OfNumber}
use Rattle.avs_model.specs.HostPlaces.{image_of}
use Rattle.avs_model.specs.HostStages.{in_host}
use Rattle.avs_model.specs.HostSteps.{brought_up, Stops, StoppedAt, stopped_stages, stopped_by, second_line, writes_on}
use Rattle.avs_model.specs.declared.recovered.Second.TheVariants as second
use Rattle.avs_model.specs.declared.event.Host.TheVariants.{P}
use Rattle.avs_model.specs.declared.event.ArmTarget.TheVariants as target
use Rattle.avs_model.specs.declared.product.Way.TheVariants.{ToShadow}
use Rattle.avs_model.specs.declared.product.IiTarget.TheVariants.{Group}
use Rattle.avs_model.specs.declared.product.IiCommand.TheVariants.{Update}
use Rattle.avs_model.specs.declared.product.Event.{Event}
use Rattle.avs_model.specs.declared.product.Event.TheVariants.{Volume, Ii, Arm}
use Rattle.avs_worked.proofs.WorkedRuns.{terms, chosen, done, refused, one_of, v, s, t, c, d, w, g, write, enable}

-- two dependent sets of one group, on two volumes, and one write to each volume
abbrev pub two_sets : HostState
two_sets = done (empty_host 1) (
    Volume P v 128 ∷ Volume P s 128 ∷ Volume P c 64 ∷ Volume P w 128 ∷ Volume P t 128 ∷ Volume P d 64
    ∷ enable (Some g) true v s c ∷ enable (Some g) true w t d ∷ write v 0 17 ∷ write w 0 17 ∷ [])

abbrev pub update_both : Event
update_both = Ii P (Update ToShadow false (Group g) 0)

pub may_update : refused two_sets update_both ≡ None
may_update = refl

-- its block is the only one that it writes on the disk of the group's state, where a tear is armed
abbrev pub armed_sets : HostState
armed_sets = done two_sets (Arm P (target.StateOf g) 0 0 0 ∷ [])

pub one_block : writes_on terms chosen armed_sets update_both (OfNumber 0) ≡ 1
one_block = refl

-- a fault stops it
abbrev pub stopped_sets : HostState
stopped_sets = record two_sets { run = stopped_by terms chosen armed_sets update_both true }

pub stops : Stops terms chosen armed_sets update_both stopped_sets
stops = record { left = two_sets; tear = inl (record { disk = OfNumber 0; writes = omega arith; armed = refl }, refl); begun = true; begins = inl (refl, refl); down = refl }

-- nothing of it stands, and both shadows are as they were
abbrev pub kept_sets : HostState
kept_sets = brought_up stopped_sets

pub nothing_done : StoppedAt in_host stopped_sets (stopped_stages stopped_sets) 0 stopped_sets
nothing_done = inl refl

pub told_kept : second_line stopped_sets 0 kept_sets ≡ second.Kept
told_kept = refl

pub kept_first : image_of kept_sets s ≡ blank 128
kept_first = refl

pub kept_second : image_of kept_sets t ≡ blank 128
kept_second = refl

-- or all of it stands, and both shadows are their volumes
abbrev pub renewed_sets : HostState
renewed_sets = run in_host stopped_sets (stopped_stages stopped_sets)

pub all_done : StoppedAt in_host stopped_sets (stopped_stages stopped_sets) 1 renewed_sets
all_done = refl

pub told_done : second_line stopped_sets 1 (brought_up renewed_sets) ≡ second.Done
told_done = refl

pub renewed_first : image_of (brought_up renewed_sets) s ≡ put (blank 128) 0 (one_of 17)
renewed_first = refl

pub renewed_second : image_of (brought_up renewed_sets) t ≡ put (blank 128) 0 (one_of 17)
renewed_second = refl

-- nothing is left to copy in either
pub left_to_copy : map (λ name. option_map_or to_copy (set_state kept_sets name) 0) kept_sets.order ≡ 0 ∷ 0 ∷ []
left_to_copy = refl
