-- A call on a set of a group goes by its stage, whatever the set's kind: what its contract says is what the group's lemmas ask.
use Rattle.std.proofs.Common.{◌≡◌, ◌≢◌, ℕ, ◌-◌, ◌<◌, ◌≤◌, true, false, Option, Some, List, [], ◌∷◌, length, Result, refl, subst}
use Rattle.avs_seg.specs.Image.{blocks_of}
use Rattle.avs_dev.specs.Seen.{Seen}
use Rattle.avs_model.specs.ShadowSets.{is_online, is_offline, is_independent}
use Rattle.avs_model.specs.GroupStages.{Mark, Copied, PutShadow}
use Rattle.avs_over.specs.Over.{OverSet}
use Rattle.avs_sets.specs.Says.{BlockSays}
use Rattle.avs_sets.specs.Sets.{chunks_of}
use Rattle.avs_sets.specs.Meaning.{GroupSeen, set_of, disk_in, over_disk, is_enabled, standing_of}
use Rattle.avs_sets.specs.Whole.{IsFree, IsWhole, IsInStep, IsKept}
use Rattle.avs_sets.specs.Owners.{EndsThere, AreOwned}
use Rattle.avs_sets.specs.Goes.{Goes}
use Rattle.avs_sets.specs.Steps.{OnlyDisk, ShowsSame, Settles, SavesRange, PutsShadow}
use Rattle.avs_sets.proofs.Lifted.{with_step}
use Rattle.avs_sets.proofs.Owned.{free_others, owned_now}
use Rattle.avs_sets.proofs.Settling.{still_goes, settle_marks, settle_copies}
use Rattle.avs_sets.proofs.Saving.{marks, saves_marks}
use Rattle.avs_sets.proofs.Putting.{shadow_goes}
use Rattle.avs_held.specs.declared.held.Seat.{Seat}
use Rattle.avs_held.specs.Held.{chunk_set, compact_set, area_of}
use Rattle.avs_chunks.specs.ChunkSet.{ChunkSet}
use Rattle.avs_entries.specs.Entries.{entry_on}
use Rattle.avs_compact.specs.CompactSet.{CompactSet}
use Rattle.avs_seg.specs.Segment.{seg_count}
use Rattle.avs_held.specs.Rooms.{owners_of, Mine, OnDisks, on_disks, IsOwned, KeepsOwned}
use Rattle.avs_held.specs.Calls.{SettlesSet, SavesChunks, WritesShadow}
use Rattle.avs_held.proofs.Told.{own_not_over, past_map}

-- no place behind the last chunk of a set is in the overflow volume
pub chunks_end : (seat : Seat) (s : ChunkSet) → EndsThere (chunk_set seat s)
chunks_end seat s = record { each = λ b c slot past some at. own_not_over c slot at }

pub slots_end : (seat : Seat) (s : CompactSet) → EndsThere (compact_set seat s)
slots_end seat s = record { each = λ b c slot past some at. absurd (some (past_map s.own (seg_count s.blocks) (λ c. entry_on (area_of s.areas b) c) c past)) }

module _ (g : GroupSeen) (inv : IsKept g.volumes g.overs g.sets) (k : ℕ) (lt : k < length g.sets) (o : OverSet) (o_was : o.disk ≡ over_disk g.overs (set_of g.sets k).over)
    (new : OnDisks) (V' O' : List (Option Seen)) (only_v : OnlyDisk g.volumes V' (Some (set_of g.sets k).master)) (only_o : OnlyDisk g.overs O' (set_of g.sets k).over)
    (m_is : new.master ≡ disk_in V' (set_of g.sets k).master) (o_is : new.over.disk ≡ over_disk O' (set_of g.sets k).over)
    (live : is_enabled g.memory (set_of g.sets k) ≡ true) (owned : AreOwned g (set_of g.sets k).over (owners_of o)) (keeps : KeepsOwned (on_disks (set_of g.sets k) (disk_in g.volumes (set_of g.sets k).master) o) new)
    {T E : Type 0} (r : Result T E) where
  abbrev pub old : OnDisks
  old = on_disks (set_of g.sets k) (disk_in g.volumes (set_of g.sets k).master) o

  own : IsOwned old
  own = owned.owned k lt live refl

  free : IsWhole g → IsInStep g → (j : ℕ) → j < length g.sets → j ≢ k → (slot : ℕ) → Mine (set_of g.sets k) new.over slot → IsFree g.says (set_of g.sets j) (set_of g.sets k).over slot
  free = free_others g inv k lt (owners_of o) (owners_of new.over) owned keeps.takes

  -- the disks that the set was handed are the group's
  on_group : (P : Seen → Seen → Seen → Type 0) → P o.disk new.master new.over.disk
      → P (over_disk g.overs (set_of g.sets k).over) (disk_in V' (set_of g.sets k).master) (over_disk O' (set_of g.sets k).over)
  on_group P is = subst (λ (x : Seen). P x (disk_in V' (set_of g.sets k).master) (over_disk O' (set_of g.sets k).over)) o_was
      (subst (λ (x : Seen). P o.disk x (over_disk O' (set_of g.sets k).over)) m_is (subst (λ (x : Seen). P o.disk new.master x) o_is is))

  -- nothing that is seen changes
  pub set_stays : (IsOwned old → (says : BlockSays) → ShowsSame says (Mine (set_of g.sets k) new.over) (set_of g.sets k) old.master o.disk r new.set new.master new.over.disk)
      → Goes g [] r (with_step g V' O' k new.set)
  set_stays step = still_goes g inv k lt new.set V' O' only_v only_o (Mine (set_of g.sets k) new.over) r live free
      (on_group (λ x y z. ShowsSame g.says (Mine (set_of g.sets k) new.over) (set_of g.sets k) old.master x r new.set y z) (step own g.says))

  -- blocks of the shadow are written
  pub set_puts : is_online (standing_of g.memory (set_of g.sets k)) ≡ true → (at : ℕ) (bytes : List ℕ) → WritesShadow old at bytes r new
      → Goes g (PutShadow (set_of g.sets k).slot at (blocks_of bytes) ∷ []) r (with_step g V' O' k new.set)
  set_puts on at bytes a = shadow_goes g inv k lt new.set V' O' only_v only_o (Mine (set_of g.sets k) new.over) r live on free at (blocks_of bytes)
      (on_group (λ x y z. PutsShadow g.says (Mine (set_of g.sets k) new.over) (set_of g.sets k) old.master x at (blocks_of bytes) r new.set y z) (a.step own g.says))

  -- a chunk is settled
  module _ (chunk target : ℕ) (there : chunk < chunks_of (set_of g.sets k)) (a : SettlesSet old chunk target r new) where
    settles : Settles g.says (Mine (set_of g.sets k) new.over) (set_of g.sets k) old.master (over_disk g.overs (set_of g.sets k).over) chunk target r new.set (disk_in V' (set_of g.sets k).master) (over_disk O' (set_of g.sets k).over)
    settles = on_group (λ x y z. Settles g.says (Mine (set_of g.sets k) new.over) (set_of g.sets k) old.master x chunk target r new.set y z) (a.step own g.says)

    pub set_marks : target ≡ 2 → is_offline (standing_of g.memory (set_of g.sets k)) ≡ false → Goes g (Mark (set_of g.sets k).slot chunk ∷ []) r (with_step g V' O' k new.set)
    set_marks two on = settle_marks g inv k lt new.set V' O' only_v only_o (Mine (set_of g.sets k) new.over) r live free chunk target there settles two on

    pub set_copies : target ≡ 1 → (is_independent (set_of g.sets k).kind ≡ false → (set_of g.sets k).memory.state chunk ≡ 3) → (set_of g.sets k).memory.state chunk ≢ 2
        → Goes g (Copied (set_of g.sets k).slot chunk ∷ []) r (with_step g V' O' k new.set)
    set_copies one three two = settle_copies g inv k lt new.set V' O' only_v only_o (Mine (set_of g.sets k) new.over) r live free chunk target there settles one three two

  -- chunks are saved
  pub set_saves : (first end : ℕ) → first ≤ end → end ≤ chunks_of (set_of g.sets k) → is_offline (standing_of g.memory (set_of g.sets k)) ≡ false → SavesChunks old first end r new
      → Goes g (marks (set_of g.sets k).slot first (end - first)) r (with_step g V' O' k new.set)
  set_saves first end ordered inside on a = saves_marks g inv k lt new.set V' O' only_v only_o (Mine (set_of g.sets k) new.over) r live free first end ordered inside on
      (on_group (λ x y z. SavesRange g.says (Mine (set_of g.sets k) new.over) (set_of g.sets k) old.master x first end r new.set y z) (a.step own g.says))

  -- and each set of the group owns its places then
  pub set_owned : EndsThere new.set → AreOwned (with_step g V' O' k new.set) (set_of g.sets k).over (owners_of new.over)
  set_owned ends = owned_now g inv k lt (owners_of o) (owners_of new.over) owned keeps.takes new.set V' O' ends (keeps.owned own)
