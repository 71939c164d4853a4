-- An update of a set part by part: all copies ahead, then all staged blocks, then the turn.
use Rattle.std.specs.Prelude.{◌≡◌, ◌≢◌, ℕ, ◌+◌, ◌*◌, ◌/◌, ◌<◌, Bool, true, List, length, filter, Ok}
use Rattle.std.specs.List.{range_with_len}
use Rattle.avs_seg.specs.declared.fault.Failed.{Failed}
use Rattle.avs_dev.specs.Seen.{Seen}
use Rattle.avs_over.specs.Over.{OverSet}
use Rattle.avs_entries.specs.Entries.{on_shadow, state_by}
use Rattle.avs_entries.specs.Parts.{told_by, is_ahead, part_blocks}
use Rattle.avs_compact.specs.CompactSet.{CompactSet, chunks_of, entry_of, need_of, HasTaken}
use Rattle.avs_compact.specs.Calls.{IsKnown}
use Rattle.avs_compact.specs.Keeping.{IsPlaced, UsesOwnFirst}
use Rattle.avs_compact.specs.Staging.{StagesBlocks, StagesAll, TurnsSet}
use Rattle.avs_compact.specs.Ahead.{CopiesTold, CopiesPart, split_of}

-- whether the bits of its part tell a chunk
abbrev pub told_in : (ℕ → List ℕ) → ℕ → Bool
told_in bits c = told_by (bits (c / 2048)) (c / 2048) c

-- a chunk that they tell and that has no slot
abbrev pub is_ahead_in : (ℕ → List ℕ) → (ℕ → ℕ) → ℕ → Bool
is_ahead_in bits entries c = is_ahead (bits (c / 2048)) (c / 2048) entries c

-- how many they are, of so many chunks
abbrev pub lacking_in : (ℕ → List ℕ) → (ℕ → ℕ) → ℕ → ℕ
lacking_in bits entries chunks = length (filter (is_ahead_in bits entries) (range_with_len 0 chunks))

-- those below one were copied ahead
abbrev pub CopiesBelow : CompactSet → OverSet → Seen → (ℕ → List ℕ) → ℕ → CompactSet → OverSet → Seen → Type 0
CopiesBelow old o m bits end new o_new m_new =
    CopiesTold {T = Unit {0}} {E = Failed} old o m (is_ahead_in bits (entry_of old)) 0 end (Ok tt) new o_new m_new

-- a part was copied ahead
abbrev pub CopiesNext : CompactSet → OverSet → Seen → ℕ → List ℕ → CompactSet → OverSet → Seen → Type 0
CopiesNext old o m part bits new o_new m_new = CopiesPart {T = Unit {0}} {E = Failed} old o m part bits (Ok tt) new o_new m_new

-- the entries of a set where the chunks that the bits of their parts tell are split
abbrev pub split_in : CompactSet → (ℕ → List ℕ) → ℕ → ℕ
split_in s bits c = split_of s (c / 2048) (bits (c / 2048)) c

-- the first n blocks of these entries were staged
abbrev pub StagesBelow : CompactSet → (ℕ → List ℕ) → ℕ → CompactSet → Type 0
StagesBelow old bits n new = StagesBlocks {T = Unit {0}} {E = Failed} old (split_in old bits) 0 n (Ok tt) new

-- a part was staged
abbrev pub StagesNextPart : CompactSet → ℕ → List ℕ → CompactSet → Type 0
StagesNextPart old part bits new =
    StagesBlocks {T = Unit {0}} {E = Failed} old (split_of old part bits) (16 * part) (part_blocks (chunks_of old) part) (Ok tt) new

-- all parts of a set were copied ahead, then all were staged, and then the set turned
pub record UpdatesParts (old : CompactSet) (o : OverSet) (bits : ℕ → List ℕ) (new : CompactSet) (o_new : OverSet) : Type 0 where
  pub master : Seen
  pub master_mid : Seen
  pub mid : CompactSet
  pub staged : CompactSet
  pub copies : CopiesBelow old o master bits (chunks_of old) mid o_new master_mid
  pub stages : StagesAll mid (split_in mid bits) staged
  pub turns : TurnsSet staged new

-- none of the chunks that are told stands in its slot alone
pub record AreBack (s : CompactSet) (bits : ℕ → List ℕ) : Type 0 where
  pub each : (c : ℕ) → c < chunks_of s → told_in bits c ≡ true → state_by (entry_of s c) ≢ on_shadow

-- what an update leaves of the rules of slots
pub record LeavesSlots (old : CompactSet) (o : OverSet) (more : ℕ) (new : CompactSet) (o_new : OverSet) : Type 0 where
  pub need : need_of new ≡ need_of old + more
  pub placed : IsPlaced new o_new
  pub taken : HasTaken old o → HasTaken new o_new
  pub own_first : old.ahead ≡ 0 → UsesOwnFirst old → UsesOwnFirst new
  pub known : IsKnown old o → IsKnown new o_new

-- no chunk has a slot, and the set has taken none
pub record HasNone (s : CompactSet) (o : OverSet) : Type 0 where
  pub need : need_of s ≡ 0
  pub placed : IsPlaced s o
  pub taken : HasTaken s o
