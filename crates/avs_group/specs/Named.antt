-- The set that a call names by its slot, and why it is refused. Of the memory alone, which repeats what the disks say while the group is in
-- step.
use Rattle.std.specs.Prelude.{◌≡◌, ℕ, ◌+◌, ◌*◌, ◌/◌, ◌<◌, ◌≤◌, ◌==◌, ◌&&◌, Bool, true, Option, None, Some, [], ◌∷◌, length, find}
use Rattle.std.specs.Bool.{then_some}
use Rattle.std.specs.Option.{option_map}
use Rattle.avs_model.specs.ShadowSets.{Standing, Online, Offline, Exported, is_exported, together, least_chunk}
use Rattle.avs_model.specs.GroupStates.{set_at}
use Rattle.avs_model.specs.Rows.{first_row}
use Rattle.avs_model.specs.declared.answer.Refusal.{Refusal}
use Rattle.avs_model.specs.declared.answer.Refusal.TheVariants as refusal
use Rattle.avs_model.specs.declared.answer.Word.TheVariants as word
use Rattle.avs_sets.specs.Says.{SlotSays, BlockSays}
use Rattle.avs_sets.specs.Sets.{SetSeen}
use Rattle.avs_sets.specs.Meaning.{GroupSeen, set_of, is_enabled, slot_of, set_by, meaning}
use Rattle.avs_sets.specs.Whole.{IsInStep}
use Rattle.avs_held.specs.Held.{lists_of}

-- whether a set is enabled in that slot; the set that is
abbrev pub is_named : BlockSays → ℕ → SetSeen → Bool
is_named memory slot s = is_enabled memory s && s.slot == slot

abbrev pub named : GroupSeen → ℕ → Option SetSeen
named g slot = find (λ s. is_named g.memory slot s) g.sets

-- it stands at that place of the list
pub record IsNamedAt (g : GroupSeen) (slot place : ℕ) : Type 0 where
  pub there : place < length g.sets
  pub is : named g slot ≡ Some (set_of g.sets place)
  pub enabled : is_enabled g.memory (set_of g.sets place) ≡ true
  pub slot_is : (set_of g.sets place).slot ≡ slot

-- the refusal of a call on the set of a slot: none is there, or what its slot says excludes the call
abbrev pub refused_by : (SlotSays → Option Refusal) → BlockSays → Option SetSeen → Option Refusal
refused_by cause memory None = Some refusal.NoSet
refused_by cause memory (Some s) = cause (slot_of memory s)

abbrev pub refusal_of : (SlotSays → Option Refusal) → GroupSeen → ℕ → Option Refusal
refusal_of cause g slot = refused_by cause g.memory (named g slot)

-- copying a chunk: not of a set that was given away, nor where copying was stopped
abbrev pub copy_cause : SlotSays → Option Refusal
copy_cause said = first_row (
    then_some (is_exported said.standing) (refusal.WrongState word.Exported)
    ∷ then_some said.stopped (refusal.WrongState word.Stopped)
    ∷ [])

-- the refusal of a set that is offline
abbrev pub lacks_slots : Standing → Option Refusal
lacks_slots Online = None
lacks_slots (Offline need slots) = Some (refusal.Offline need slots)
lacks_slots (Exported stamp) = None

-- stopping the copying: not of a set that is offline
abbrev pub offline_cause : SlotSays → Option Refusal
offline_cause said = lacks_slots said.standing

-- the least chunk of a set that is to be copied
abbrev pub next_chunk : SetSeen → Option ℕ
next_chunk s = least_chunk s.size.blocks (together (lists_of s).left (lists_of s).back)

-- reading or writing the shadow: not of a set that was given away, nor of one that is offline
abbrev pub io_cause : SlotSays → Option Refusal
io_cause said = first_row (
    then_some (is_exported said.standing) (refusal.WrongState word.Away)
    ∷ lacks_slots said.standing
    ∷ [])

-- Blocks of the shadow of a slot, where a set is enabled there: so many bytes are whole blocks, one or more, and lie inside the set.
pub record IsShadowRange (g : GroupSeen) (slot at len : ℕ) : Type 0 where
  pub some : 0 < len
  pub whole : 512 * (len / 512) ≡ len
  pub inside : (s : SetSeen) → named g slot ≡ Some s → at + len / 512 ≤ s.size.blocks

-- While the group is in step, the set that is named is that of the state.
pub record NamesState (g : GroupSeen) (slot : ℕ) : Type 0 where
  pub state : IsInStep g → set_at (meaning g) slot ≡ option_map (λ s. set_by g.says g.volumes g.overs s) (named g slot)
