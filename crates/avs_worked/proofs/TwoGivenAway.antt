-- Two shadow volumes that are given away and imported on the other host, worked over the definitions: the bitmap of the one does not join the
-- other.
use Rattle.std.proofs.Common.{◌≡◌, false, None, Some, [], ◌∷◌, refl}
use Rattle.std.specs.Option.{option_map_or}
use Rattle.avs_model.specs.ShadowSets.{chunks_in}
use Rattle.avs_model.specs.Hosts.{set_state}
use Rattle.avs_model.specs.HostFacts.{kept_stamp, set_stamp}
use Rattle.avs_model.specs.BothHosts.{State, start}
use Rattle.avs_model.specs.declared.event.Host.TheVariants.{P, S}
use Rattle.avs_model.specs.declared.answer.Refusal.TheVariants.{BusyVolume, WrongStamp, WrongState}
use Rattle.avs_model.specs.declared.answer.Role.TheVariants as role
use Rattle.avs_model.specs.declared.answer.Word.TheVariants as word
use Rattle.avs_model.specs.declared.product.IiCommand.TheVariants.{Disable, Export, Import, Join}
use Rattle.avs_model.specs.declared.product.Event.TheVariants.{Volume, Read, Ii, Copy}
use Rattle.avs_worked.proofs.WorkedRuns.{refused, v, s, t, c, d, g, x, y, enable}
use Rattle.avs_worked.proofs.GivenAway.{on_host, moved}

-- two independent sets of one volume, copied whole, and two volumes on the other host
abbrev pub two_sets : State
two_sets =
    on_host (on_host start P (
    Volume P v 128 ∷ Volume P s 128 ∷ Volume P c 64 ∷ Volume P t 128 ∷ Volume P d 64
    ∷ enable (Some g) false v s c ∷ enable (Some g) false v t d
    ∷ Copy P s ∷ Copy P s ∷ Copy P t ∷ Copy P t ∷ [])) S (Volume S x 64 ∷ Volume S y 64 ∷ [])

-- each gets a stamp of its own, and the next one of the host is two more
abbrev pub both_given : State
both_given = on_host two_sets P (Ii P (Export s) ∷ Ii P (Export t) ∷ [])

pub first_stamp : set_stamp both_given.p s ≡ 1
first_stamp = refl

pub second_stamp : set_stamp both_given.p t ≡ 3
second_stamp = refl

-- both are imported on the other host, each with its own bitmap
abbrev pub both_imported : State
both_imported = on_host (moved (moved both_given s P S) t P S) S (Ii S (Import s x) ∷ Ii S (Import t y) ∷ [])

pub not_twice : refused both_imported.s (Ii S (Import s y)) ≡ Some (BusyVolume role.Away)
not_twice = refl

pub not_read : refused both_imported.s (Read S x 0 1) ≡ Some (BusyVolume role.Import)
not_read = refl

-- their imports end, and all four volumes come back
abbrev pub all_back : State
all_back =
    let ended = on_host both_imported S (Ii S (Disable s) ∷ Ii S (Disable t) ∷ []) in
    moved (moved (moved (moved ended s S P) t S P) x S P) y S P

pub stamp_of_first : kept_stamp all_back.p x ≡ Some 1
stamp_of_first = refl

pub stamp_of_second : kept_stamp all_back.p y ≡ Some 3
stamp_of_second = refl

-- the bitmap of the one is told by its stamp, and a volume that never was one by that
pub not_the_other : refused all_back.p (Ii P (Join t x)) ≡ Some (WrongStamp 3 1)
not_the_other = refl

pub not_any : refused all_back.p (Ii P (Join t c)) ≡ Some (WrongState word.Plain)
not_any = refl

pub may_join : refused all_back.p (Ii P (Join t y)) ≡ None
may_join = refl

-- behind the join that set is online, and the other one is still given away
abbrev pub one_joined : State
one_joined = on_host all_back P (Ii P (Join t y) ∷ [])

pub not_again : refused one_joined.p (Ii P (Join t y)) ≡ Some (WrongState word.Online)
not_again = refl

pub none_moved : option_map_or (λ set. chunks_in 128 set.lists.moved) (set_state one_joined.p t) 9 ≡ 0
none_moved = refl

pub other_away : refused one_joined.p (Read P s 0 1) ≡ Some (WrongState word.Away)
other_away = refl
