use Rattle.std.proofs.Common.{Bool, if◌then◌else◌}
use Rattle.avs_model.specs.declared.answer.Role.{Role}
use Rattle.avs_model.specs.declared.answer.Role.TheVariants as role
use Rattle.avs_host.proofs.facts.roles_tell_the_role.Goals as goal

-- the first of these that holds
first_of : (away mirror master shadow bitmap overflow queue import : Bool) → Role
first_of away mirror master shadow bitmap overflow queue import =
    if away then role.Away
    else if mirror then role.Mirror
    else if master then role.Master
    else if shadow then role.Shadow
    else if bitmap then role.Bitmap
    else if overflow then role.Overflow
    else if queue then role.Queue
    else if import then role.Import
    else role.Plain

pub returns : goal.returns
unfolding first_of
returns c = λ roles host name has i.
    first_of (has.away i) (has.mirror i) (has.master i) (has.shadow i) (has.bitmap i) (has.overflow i) (has.queue i) (has.import i)
