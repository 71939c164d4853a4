-- A set as it is held, and the sets of a group that holds one at most.
use Rattle.std.specs.Prelude.{List, Option}
use Rattle.std.specs.Option.{option_map, option_to_list}
use Rattle.avs_ii.specs.declared.held.Held.{Held}
use Rattle.avs_ii.specs.Held.{HeldSet}

abbrev pub held_of : {D : Type 0} → Held D → HeldSet
held_of h = record { slot = h.slot; master = h.master; chunks = h.chunks }

abbrev pub sets_of : {D : Type 0} → Option (Held D) → List HeldSet
sets_of held = option_to_list (option_map held_of held)
