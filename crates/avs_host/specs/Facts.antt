-- What refusals ask of a volume, so far as its store tells it.
use Rattle.std.specs.Prelude.{◌≡◌, ℕ, true, false, if◌then◌else◌, List, is_some, Option, None, Some}
use Rattle.std.specs.Option.{option_map_or}
use Rattle.avs_model.specs.Hosts.{HostState, has_set}
use Rattle.avs_model.specs.HostPlaces.{is_marked_away, is_master, is_bitmap, is_marked_overflow, serves_import}
use Rattle.avs_model.specs.declared.answer.Role.{Role}
use Rattle.avs_model.specs.declared.answer.Role.TheVariants as role
use Rattle.avs_model.specs.declared.facts.VolumeFacts.{VolumeFacts}
use Rattle.avs_stack.specs.Names.{roles_of}
use Rattle.avs_stack.specs.declared.roles.Roles.{Roles}
use Rattle.avs_host.specs.Store.{StoreSeen, names_of, disk_of}

-- the first role that a volume has
abbrev pub told_role : Roles → Role
told_role roles =
    if is_some roles.away then role.Away
    else if roles.mirror then role.Mirror
    else if roles.master then role.Master
    else if roles.shadow then role.Shadow
    else if roles.bitmap then role.Bitmap
    else if roles.overflow then role.Overflow
    else if roles.queue then role.Queue
    else if roles.import then role.Import
    else role.Plain

-- the facts of a volume that no import uses, by its roles and its blocks, all of which can be read
abbrev pub facts_with : Option Roles → ℕ → VolumeFacts
facts_with (Some roles) blocks =
    record { there = true; role = told_role roles; imported = false; keeps_import = false; blocks = blocks; reach = blocks; empty = roles.spent }
facts_with None blocks =
    record { there = false; role = role.Plain; imported = false; keeps_import = false; blocks = blocks; reach = blocks; empty = false }

-- how many blocks the disk of a name has, where it is at rest
abbrev pub blocks_at_rest : StoreSeen → List ℕ → ℕ
blocks_at_rest store name = option_map_or (λ disk. disk.size) (disk_of store name) 0

-- of the volume of a name, while no import uses it and its disk is at rest; of a name that is not there, nothing
abbrev pub resting_facts : StoreSeen → List ℕ → VolumeFacts
resting_facts store name = facts_with (roles_of (names_of store) name) (blocks_at_rest store name)

-- These are the roles of a volume in a state of the host, in which there are no mirror sets yet.
pub record HasRolesOf (roles : Roles) (host : HostState) (name : List ℕ) : Type 0 where
  pub away : is_some roles.away ≡ is_marked_away host name
  pub mirror : roles.mirror ≡ false
  pub master : roles.master ≡ is_master host name
  pub shadow : roles.shadow ≡ has_set host name
  pub bitmap : roles.bitmap ≡ is_bitmap host name
  pub overflow : roles.overflow ≡ is_marked_overflow host name
  pub queue : roles.queue ≡ false
  pub import : roles.import ≡ serves_import host name
