-- What the block of a group says: of each slot, and of the group. The block itself is bytes of a
-- state disk, and is read above.
use Rattle.std.specs.Prelude.{ℕ, Bool, List}
use Rattle.avs_model.specs.ShadowSets.{Standing}
use Rattle.avs_model.specs.declared.shadow.Kind.{Kind}

-- of a slot: whether a set is enabled there, whether its second area is live, whether its copying
-- is stopped, its standing, its kind
pub record SlotSays : Type 0 where
  pub enabled : Bool
  pub area_b : Bool
  pub stopped : Bool
  pub standing : Standing
  pub kind : Kind

-- of a group: the slots by number, the note, and the number of the block
pub record BlockSays : Type 0 where
  pub slots : ℕ → SlotSays
  pub note : List ℕ
  pub sequence : ℕ
