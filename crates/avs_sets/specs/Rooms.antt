-- Room: a set that is online has as many slots as it needs.
use Rattle.std.specs.Prelude.{◌≡◌, true, List, [], ◌∷◌}
use Rattle.avs_model.specs.ShadowSets.{no_chunks, ShadowState}
use Rattle.avs_model.specs.GroupStates.{GroupState}
use Rattle.avs_model.specs.Room.{has_room, may_go}

-- each of these sets that can go offline has room in the group for what it needs
abbrev pub HaveRoom : GroupState → List ShadowState → Type 0
HaveRoom group [] = Unit {0}
HaveRoom group (set ∷ sets) = (may_go set ≡ true → has_room group no_chunks set ≡ true)
    × HaveRoom group sets
