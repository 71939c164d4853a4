-- A step of a synchronization: the copy of the least segment that waits, and behind the last one the mark.
use Rattle.std.specs.Prelude.{◌≡◌, ◌≢◌, ◌⊎◌, ℕ, ◌+◌, ◌*◌, ◌<◌, false, true, IsTrue, length, Result, Ok, Err, Some}
use Rattle.avs_seg.specs.Image.{Image}
use Rattle.avs_seg.specs.Segment.{seg_len, segment}
use Rattle.avs_dev.specs.Below.{size_of}
use Rattle.avs_model.specs.declared.entry.Entry.{Entry}
use Rattle.avs_model.specs.declared.entry.EntryKind.TheVariants as kind
use Rattle.avs_model.specs.declared.answer.Refusal.{Refusal}
use Rattle.avs_model.specs.declared.answer.Refusal.TheVariants as refusal
use Rattle.avs_mqueue.specs.Queue.{Pushes, is_full}
use Rattle.avs_mirrors.specs.Entries.{a_mark}
use Rattle.avs_mirrors.specs.Half.{HalfState, Logging, is_session, with_copy, with_mark}
use Rattle.avs_sync.specs.Session.{marked, placed}
use Rattle.avs_halves.specs.SetBits.{set_at}
use Rattle.avs_sender.specs.declared.copying.SyncStep.{SyncStep}
use Rattle.avs_sender.specs.declared.copying.SyncStep.TheVariants.{Copied, Mark, Idle, Logged}
use Rattle.avs_sender.specs.Held.{SenderHeld, parts_of}
use Rattle.avs_sender.specs.Meaning.{IsSenderInStep, found_again, found_of, sender_of}
use Rattle.avs_sender.specs.Going.{BelowAloneFailed, SenderStays}
use Rattle.avs_sender.specs.Beginning.{HasNoMemory}
use Rattle.avs_sender.specs.Refusing.{IsQueueFull}
use Rattle.avs_sender.specs.Learning.{half_with}
use Rattle.avs_sender.specs.Ticking.{HasNoSession}

-- ---- what comes next

-- it is in a session whose mark is not placed
pub record IsCopying (old : SenderHeld) : Type 0 where
  pub session : is_session (sender_of old).state ≡ true
  pub unmarked : old.half.session.mark ≡ 0

-- the segment is the least that no place frees yet, of the sets in order
pub record IsLeastDue (x : HalfState) (set seg : ℕ) : Type 0 where
  pub waits : x.due set seg ≡ Some 0
  pub below : (s : ℕ) → s < seg → x.due set s ≢ Some 0
  pub before : (t s : ℕ) → t < set → x.due t s ≢ Some 0

-- each segment that is due has a place
abbrev pub AllArePlaced : HalfState → Type 0
AllArePlaced x = (set seg : ℕ) → x.due set seg ≢ Some 0

-- the copy of a segment, with these blocks
abbrev pub copied : ℕ → ℕ → Image → Entry
copied set seg blocks = record { kind = kind.Copied; set = set; at = 64 * seg; bytes = blocks }

-- so many blocks the segment of a set has
abbrev pub blocks_of_seg : SenderHeld → ℕ → ℕ → ℕ
blocks_of_seg h set seg = seg_len seg (size_of h.below (set_at h.half.sets set).vol)

-- the range of the segment
pub record IsSpanOf (old : SenderHeld) (set seg at len : ℕ) : Type 0 where
  pub at_is : at ≡ 64 * seg
  pub len_is : len ≡ blocks_of_seg old set seg

-- the entry that comes next: a copy, of which its blocks alone are not said, or the mark
pub record IsNextCopy (old : SenderHeld) (set seg : ℕ) (e : Entry) : Type 0 where
  pub least : IsLeastDue (sender_of old) set seg
  pub blocks : Image
  pub count : length blocks ≡ blocks_of_seg old set seg
  pub is : e ≡ copied set seg blocks

pub record IsNextMark (old : SenderHeld) (e : Entry) : Type 0 where
  pub none : AllArePlaced (sender_of old)
  pub is : e ≡ a_mark

-- ---- done: nothing on a disk has changed

-- the copy has the next place: the blocks are those of the segment
pub record IsCopied (sound sound_new : Type 0) (old : SenderHeld) (place set seg : ℕ) (e : Entry) (new : SenderHeld) : Type 0 where
  pub next : IsNextCopy old set seg e
  pub shows : IsSenderInStep sound old → e.bytes ≡ segment ((sender_of old).images set) seg
  pub half : new.half ≡ half_with old.half old.half.sets new.half.places (placed old.half.session) new.half.queue
  pub done : sender_of new ≡ with_copy (sender_of old) set seg place

-- the mark has the next place
pub record IsMarked (old : SenderHeld) (place : ℕ) (e : Entry) (new : SenderHeld) : Type 0 where
  pub next : IsNextMark old e
  pub half : new.half ≡ half_with old.half old.half.sets old.half.places (marked old.half.session) new.half.queue
  pub done : sender_of new ≡ with_mark (sender_of old) place

-- an entry that has room has the next place, and what lies below is as it was
pub record HasNext (sound sound_new : Type 0) (old : SenderHeld) (place : ℕ) (e : Entry) (new : SenderHeld) : Type 0 where
  pub may : IsCopying old
  pub room : is_full old.half.queue e ≡ false
  pub answer : place ≡ (sender_of old).last + 1
  pub queue : Pushes old.half.queue place e new.half.queue
  pub below : new.below ≡ old.below
  pub step : IsSenderInStep sound old → IsSenderInStep sound_new new

pub record Copies (sound sound_new : Type 0) (old : SenderHeld) (place set seg : ℕ) (new : SenderHeld) : Type 0 where
  pub entry : Entry
  pub has : HasNext sound sound_new old place entry new
  pub copy : IsCopied sound sound_new old place set seg entry new

pub record Marks (sound sound_new : Type 0) (old : SenderHeld) (place : ℕ) (new : SenderHeld) : Type 0 where
  pub entry : Entry
  pub has : HasNext sound sound_new old place entry new
  pub mark : IsMarked old place entry new

-- the mark is placed, and nothing is left to do
pub record IsIdle (old new : SenderHeld) : Type 0 where
  pub session : is_session (sender_of old).state ≡ true
  pub marked : 0 < old.half.session.mark
  pub kept : new ≡ old

-- ---- stopped: the blocks of the segment were not read, which steady devices do not do. It is in no session any more

pub record IsSyncStopped (sound : Type 0) (old : SenderHeld) (why : Refusal) (new : SenderHeld) : Type 0 where
  pub answer : why ≡ refusal.Fault
  pub may : IsCopying old
  pub stays : SenderStays sound old new
  pub failed : BelowAloneFailed old new
  pub unsteady : IsTrue old.below.steady → ⊥
  pub left : new.half.session.state ≡ Logging
  pub stopped : IsSenderInStep sound old → found_again (parts_of new) ≡ found_of (sender_of old)

-- a copy alone
abbrev pub CopiesSegment : {E : Type 0} → Type 0 → Type 0 → SenderHeld → ℕ → ℕ → Result ℕ E → SenderHeld → Type 0
CopiesSegment sound sound_new old set seg (Ok place) new = Copies sound sound_new old place set seg new
CopiesSegment sound sound_new old set seg (Err f) new = IsSyncStopped sound old refusal.Fault new

-- ---- refused: nothing has changed

pub record HasNoRoomForNext (old : SenderHeld) (why : Refusal) (new : SenderHeld) : Type 0 where
  pub may : IsCopying old
  pub entry : Entry
  pub next : ((set seg : ℕ) × IsNextCopy old set seg entry) ⊎ IsNextMark old entry
  pub full : IsQueueFull old entry why new

-- there was no memory for the blocks of the segment
pub record HasNoBlocks (old : SenderHeld) (why : Refusal) (new : SenderHeld) : Type 0 where
  pub may : IsCopying old
  pub lacks : HasNoMemory old why new

abbrev pub SyncRefused : SenderHeld → Refusal → SenderHeld → Type 0
SyncRefused old why new = HasNoSession old why new ⊎ (HasNoRoomForNext old why new ⊎ HasNoBlocks old why new)

-- ---- the call. Without a queue on disk none is met that is full, and logs

abbrev pub Syncs : Type 0 → Type 0 → SenderHeld → Result SyncStep Refusal → SenderHeld → Type 0
Syncs sound sound_new old (Ok (Copied place set seg)) new = Copies sound sound_new old place set seg new
Syncs sound sound_new old (Ok (Mark place)) new = Marks sound sound_new old place new
Syncs sound sound_new old (Ok Idle) new = IsIdle old new
Syncs sound sound_new old (Ok Logged) new = ⊥
Syncs sound sound_new old (Err why) new = SyncRefused old why new ⊎ IsSyncStopped sound old why new
