-- Which end of a run a fault becomes.
use Rattle.avs_world.specs.declared.world.WorldFault.{WorldFault}
use Rattle.avs_world.specs.declared.world.WorldFault.TheVariants as world
use Rattle.avs_run.specs.declared.end.End.{End}
use Rattle.avs_run.specs.declared.end.End.TheVariants as end

abbrev pub end_of : WorldFault → End
end_of world.Rack = end.RackFault
end_of world.NoMemory = end.NoMemory
