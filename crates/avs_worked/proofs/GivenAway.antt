-- A shadow volume that is given away, written on the other host, and joined again, worked over the definitions.
use Rattle.std.proofs.Common.{◌≡◌, false, None, Some, List, [], ◌∷◌, refl}
use Rattle.std.specs.Option.{option_map_or}
use Rattle.avs_seg.specs.Image.{Image, blank, put}
use Rattle.avs_seg.specs.Image as image
use Rattle.avs_seg.specs.Staged.{run}
use Rattle.avs_model.specs.ShadowSets.{chunks_in}
use Rattle.avs_model.specs.Hosts.{Name, set_state}
use Rattle.avs_model.specs.HostPlaces.{image_of}
use Rattle.avs_model.specs.BothHosts.{State, start, host_of, with_host, in_both, pair_stages, pair_refusal, chunks_left}
use Rattle.avs_model.specs.declared.event.Host.{Host}
use Rattle.avs_model.specs.declared.event.Host.TheVariants.{P, S}
use Rattle.avs_model.specs.declared.answer.Refusal.TheVariants.{Copying, WrongState}
use Rattle.avs_model.specs.declared.answer.Word.TheVariants.{Away}
use Rattle.avs_model.specs.declared.product.Way.TheVariants.{ToMaster}
use Rattle.avs_model.specs.declared.product.IiCommand.TheVariants.{Disable, Export, Import, Join}
use Rattle.avs_model.specs.declared.product.Event.{Event}
use Rattle.avs_model.specs.declared.product.Event.TheVariants.{Volume, Write, Read, Ii, Copy, Move}
use Rattle.avs_worked.proofs.WorkedRuns.{done, refused, one_of, v, s, c, x, write, enable, update}

-- the state behind an event on one host, and behind a volume that moves
abbrev pub on_host : State → Host → List Event → State
on_host state host events = with_host state host (done (host_of state host) events)

abbrev pub moved : State → Name → Host → Host → State
moved state volume from to = run in_both state (pair_stages state (Move volume from to))

abbrev pub one_set : State
one_set = on_host (on_host start P (Volume P v 128 ∷ Volume P s 128 ∷ Volume P c 64 ∷ enable None false v s c ∷ [])) S (Volume S x 64 ∷ [])

-- all of it is to be copied before its volume can be given away
pub not_yet : refused one_set.p (Ii P (Export s)) ≡ Some (Copying 2)
not_yet = refl

-- the steps of copying all: two, and then none
pub two_left : chunks_left one_set P s ≡ 2
two_left = refl

abbrev pub copied : State
copied = on_host one_set P (Copy P s ∷ Copy P s ∷ [])

pub none_left : chunks_left copied P s ≡ 0
none_left = refl

-- the volume is given away with the first stamp, and cannot be read
pub first_stamp : copied.p.stamp ≡ 1
first_stamp = refl

abbrev pub given : State
given = on_host copied P (Ii P (Export s) ∷ [])

pub is_away : refused given.p (Read P s 0 1) ≡ Some (WrongState Away)
is_away = refl

-- it goes to the other host, is written there, and comes back with its bitmap
pub may_move : pair_refusal given (Move s P S) ≡ None
may_move = refl

abbrev pub written_there : State
written_there = on_host (moved given s P S) S (Ii S (Import s x) ∷ Write S s 0 1 (119 ∷ []) ∷ [])

abbrev pub back_again : State
back_again = moved (moved (on_host (on_host written_there P (write v 64 102 ∷ [])) S (Ii S (Disable s) ∷ [])) s S P) x S P

pub may_join : refused back_again.p (Ii P (Join s x)) ≡ None
may_join = refl

abbrev pub joined : State
joined = on_host back_again P (Ii P (Join s x) ∷ [])

pub joined_image : image_of joined.p s ≡ put (blank 128) 0 (one_of 119)
unfolding put image.tabulate
joined_image = refl

-- both the chunk that was written there and the one that was written here are taken back
pub may_take : refused joined.p (update ToMaster s) ≡ None
may_take = refl

pub two_moved : option_map_or (λ set. chunks_in 128 set.lists.moved) (set_state joined.p s) 0 ≡ 2
two_moved = refl

pub taken_image : image_of (on_host joined P (update ToMaster s ∷ [])).p v ≡ put (blank 128) 0 (one_of 119)
unfolding put image.tabulate
taken_image = refl
