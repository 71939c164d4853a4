-- A set of either kind: what the call of its kind gives it.
use Rattle.std.proofs.Common.{◌≡◌, ℕ, ◌+◌, false, true, inl, inr, IsTrue, is_some, Result, IfErr, refl, arith}
use Rattle.avs_dev.specs.Seen.{Seen}
use Rattle.avs_over.specs.Over.{OverSet}
use Rattle.avs_compact.specs.declared.fault.CompactFault.{CompactFault}
use Rattle.avs_compact.specs.declared.fault.CompactFault.TheVariants as fault
use Rattle.avs_compact.specs.Keeping.{CountsSlots}
use Rattle.avs_held.specs.declared.any.AnySet.TheVariants.{Chunks, Compact}
use Rattle.avs_held.specs.Held.{Held, HeldSlots, seen_of, slots_seen}
use Rattle.avs_held.specs.Rooms.{OnDisks, on_disks}
use Rattle.avs_held.specs.Calls.{CanSave, SavesChunks, SavesSet}
use Rattle.avs_held.specs.Any.{SavesAny, CountsMore}

-- a compact set whose chunks can be saved has its shadow's disk
pub compact_there : (h : HeldSlots) → CanSave (slots_seen h) → IsTrue (is_some (slots_seen h).shadow)
compact_there h (inl there) = there
compact_there h (inr settled) = absurd (never settled.kind)
  where
    never : false ≡ true → ⊥
    never is = cc

module _ {D T : Type 0} (m : Seen) (o : OverSet) (first count : ℕ) (r : Result T CompactFault) (new : OnDisks) where
  pub chunks_saved : (h : Held) → SavesChunks (on_disks (seen_of h) m o) first (first + count) r new → IfErr r (λ e. e ≡ fault.Failed)
      → SavesAny {D = D} (Chunks h) (on_disks (seen_of h) m o) first count r new
  chunks_saved h saves cause = record {
    refuses = λ lacks. absurd (omega (arith, lacks));
    saves = λ fits. saves;
    cause = λ fits. cause;
  }

  pub slots_saved : (h : HeldSlots) → SavesSet h.seat h.slots (on_disks (slots_seen h) m o) first count r new
      → SavesAny {D = D} (Compact h) (on_disks (slots_seen h) m o) first count r new
  slots_saved h a = record { refuses = a.refuses; saves = a.saves; cause = a.cause }

pub chunks_counted : {D : Type 0} (h h' : Held) (o o' : OverSet) (more : ℕ) → CountsMore {D = D} (Chunks h) o more (Chunks h') o'
chunks_counted h h' o o' more = record { need = refl; room = refl; taken = λ was. was }

pub slots_counted : {D : Type 0} (h h' : HeldSlots) (o o' : OverSet) (more : ℕ) → CountsSlots h.slots o more h'.slots o' → CountsMore {D = D} (Compact h) o more (Compact h') o'
slots_counted h h' o o' more k = record { need = omega (arith, k.need); room = k.room; taken = k.taken }
