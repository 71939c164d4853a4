-- A set of either kind, as its group sees it.
use Rattle.std.specs.Prelude.{◌≡◌, ℕ, ◌+◌, ◌*◌, ◌<◌, ◌≤◌, true, false, Result, IfErr}
use Rattle.avs_dev.specs.Seen.{Seen}
use Rattle.avs_model.specs.ShadowSets.{is_compact}
use Rattle.avs_over.specs.Over.{OverSet}
use Rattle.avs_compact.specs.declared.fault.CompactFault.{CompactFault}
use Rattle.avs_compact.specs.declared.fault.CompactFault.TheVariants as fault
use Rattle.avs_compact.specs.CompactSet.{HasTaken, need_of, room_of}
use Rattle.avs_sets.specs.Sets.{SetSeen}
use Rattle.avs_held.specs.declared.any.AnySet.{AnySet}
use Rattle.avs_held.specs.declared.any.AnySet.TheVariants.{Chunks, Compact}
use Rattle.avs_held.specs.Held.{seen_of, slots_seen}
use Rattle.avs_held.specs.Rooms.{OnDisks, lacking}
use Rattle.avs_held.specs.Calls.{SavesChunks, GoesOffline}

-- the set, whatever its kind
abbrev pub set_seen : {D : Type 0} → AnySet D → SetSeen
set_seen (Chunks h) = seen_of h
set_seen (Compact h) = slots_seen h

-- A disk can be the shadow's: it has all blocks of a set in chunks; of a compact set it has those of its slots, and none behind the set.
pub record FitsShadow (s : SetSeen) (d : Seen) : Type 0 where
  pub whole : is_compact s.kind ≡ false → s.size.blocks ≤ d.size
  pub slots : is_compact s.kind ≡ true → 64 * s.size.own ≤ d.size
  pub inside : is_compact s.kind ≡ true → d.size ≤ s.size.blocks

-- ---- slots

-- how many slots a compact set needs, with so many more, and how many it has room for; a set in chunks has one for each chunk, and counts none
abbrev pub needed_with : {D : Type 0} → AnySet D → ℕ → ℕ
needed_with (Chunks h) more = 0
needed_with (Compact h) more = need_of h.slots + more

abbrev pub room_in : {D : Type 0} → AnySet D → OverSet → ℕ
room_in (Chunks h) o = 0
room_in (Compact h) o = room_of h.slots o

-- there is room for so many more, or there is not
abbrev pub HasSlots : {D : Type 0} → AnySet D → OverSet → ℕ → Type 0
HasSlots set o more = needed_with set more ≤ room_in set o

abbrev pub LacksSlots : {D : Type 0} → AnySet D → OverSet → ℕ → Type 0
LacksSlots set o more = room_in set o < needed_with set more

-- of its overflow volume a compact set has taken what it uses
abbrev pub HasTakenSlots : {D : Type 0} → AnySet D → OverSet → Type 0
HasTakenSlots (Chunks h) o = Unit {0}
HasTakenSlots (Compact h) o = HasTaken h.slots o

-- so many slots more are needed, and the room stays; where the set had taken what it uses, it has
pub record CountsMore {D : Type 0} (old : AnySet D) (o : OverSet) (more : ℕ) (new : AnySet D) (o_new : OverSet) : Type 0 where
  pub need : needed_with new 0 ≡ needed_with old more
  pub room : room_in new o_new ≡ room_in old o
  pub taken : HasTakenSlots old o → HasTakenSlots new o_new

-- ---- chunks that are saved

-- So many chunks from one on are saved. That is refused exactly where a compact set would need more slots than it has room for.
pub record SavesAny {D T : Type 0} (set : AnySet D) (old : OnDisks) (first count : ℕ) (result : Result T CompactFault) (new : OnDisks) : Type 0 where
  pub refuses : LacksSlots set old.over (lacking old.set first count)
      → GoesOffline old (needed_with set (lacking old.set first count)) (room_in set old.over) result new
  pub saves : HasSlots set old.over (lacking old.set first count) → SavesChunks old first (first + count) result new
  pub cause : HasSlots set old.over (lacking old.set first count) → IfErr result (λ e. e ≡ fault.Failed)
