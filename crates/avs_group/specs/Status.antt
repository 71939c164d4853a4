-- What is told of a set, by the memory.
use Rattle.std.specs.Prelude.{ℕ, Bool, if◌then◌else◌, Option, None, Some, List, slice_index_or}
use Rattle.std.specs.Option.{option_map}
use Rattle.avs_model.specs.ShadowSets.{Standing, Online, Offline, Exported, chunks_in}
use Rattle.avs_model.specs.declared.product.SetState.{SetState}
use Rattle.avs_model.specs.declared.product.SetState.TheVariants as told
use Rattle.avs_over.specs.Over.{OverSet, slots, used}
use Rattle.avs_sets.specs.Says.{SlotSays, BlockSays}
use Rattle.avs_sets.specs.Sets.{SetSeen}
use Rattle.avs_sets.specs.Meaning.{slot_of}
use Rattle.avs_held.specs.Held.{lists_of}
use Rattle.avs_group.specs.declared.status.OverStatus.{OverStatus}
use Rattle.avs_group.specs.declared.status.SetStatus.{SetStatus}

-- given away or offline where it is that, else stopped where its copying is, else online
abbrev pub online_state : Bool → SetState
online_state stopped = if stopped then told.Stopped else told.Online

abbrev pub standing_state : Standing → Bool → SetState
standing_state Online stopped = online_state stopped
standing_state (Offline need slots) stopped = told.Offline
standing_state (Exported stamp) stopped = told.Exported

abbrev pub state_said : SlotSays → SetState
state_said said = standing_state said.standing said.stopped

-- the overflow volume that is attached
abbrev pub over_status : List (Option OverSet) → Option ℕ → Option OverStatus
over_status overs None = None
over_status overs (Some number) = option_map (λ (o : OverSet). record { slots = slots o; used = used o }) (slice_index_or overs number None)

-- the kind; the sizes of three lists of chunks; the state; and the overflow volume
abbrev pub status_of : BlockSays → List (Option OverSet) → SetSeen → SetStatus
status_of memory overs s = record {
  kind = s.kind;
  left = chunks_in s.size.blocks (lists_of s).left;
  back = chunks_in s.size.blocks (lists_of s).back;
  moved = chunks_in s.size.blocks (lists_of s).moved;
  state = state_said (slot_of memory s);
  over = over_status overs s.over;
}
