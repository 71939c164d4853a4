-- How a sender is found on its parts.
use Rattle.std.specs.Prelude.{◌≡◌, ◌⊎◌, ℕ, ◌<◌, not, List, [], length, Some, Result, Ok, Err}
use Rattle.avs_dev.specs.Seen.{Seen, IsTold}
use Rattle.avs_dev.specs.Below.{IsToldAt}
use Rattle.avs_dev.specs.declared.back.Why.{Why}
use Rattle.avs_dev.specs.declared.back.Why.TheVariants.{BadRecord, NoMemory}
use Rattle.avs_code.specs.Rules.{first_broken}
use Rattle.avs_mqueue.specs.Queue.{Queue}
use Rattle.avs_model.specs.declared.event.Host.{Host}
use Rattle.avs_model.specs.declared.entry.Limits.{Limits}
use Rattle.avs_mirrors.specs.Half.{Logging, is_receiver}
use Rattle.avs_sync.specs.Note.{IsNote, note_rules}
use Rattle.avs_sync.specs.Parts.{MirrorSet}
use Rattle.avs_sync.specs.declared.note.Note.{Note}
use Rattle.avs_sync.specs.declared.session.Session.{Session}
use Rattle.avs_halves.specs.SetBits.{SetBits}
use Rattle.avs_halves.specs.Loading.{LoadsSets, SetsRefused}
use Rattle.avs_halves.specs.Found.{part_at}
use Rattle.avs_halves.specs.Over.{AreLoadable, IsOver}
use Rattle.avs_sender.specs.Held.{SenderHalf, SenderHeld, SenderParts, SetPlaces, parts_of}
use Rattle.avs_sender.specs.Meaning.{IsSenderInStep, sender_of, found_on}
use Rattle.avs_sender.specs.Places.{places_for}

-- its sets may be loaded
abbrev pub IsLoadable : SenderParts → Type 0
IsLoadable p = AreLoadable p.below p.sets

-- the disks tell what is on them, and the note is the one on its disk
pub record AreToldParts (p : SenderParts) : Type 0 where
  pub bits : (set : ℕ) → IsTold (part_at p.sets set).bits
  pub volumes : (set : ℕ) → set < length p.sets → IsToldAt p.below (part_at p.sets set).vol
  pub stored : p.below.stored ≡ Some p.below.note

-- what the note below is
pub record IsNoNote (bytes : List ℕ) (why : Why) : Type 0 where
  pub field : ℕ
  pub answer : why ≡ BadRecord field
  pub broken : first_broken (note_rules bytes) ≡ Some field
  pub none : (n : Note) → IsNote bytes n → ⊥

abbrev pub FindsNote : List ℕ → Result Note Why → Type 0
FindsNote bytes (Ok n) = IsNote bytes n
FindsNote bytes (Err why) = IsNoNote bytes why

-- the session of a half that is found with a note: it has left, and forgot its places
abbrev pub found_session : Note → Session
found_session n = record {
  sender = not (is_receiver n.role);
  number = n.session;
  reverse = n.reverse;
  last = 0;
  known = 0;
  mark = n.mark;
  state = Logging;
}

-- a queue of these limits, which is empty
pub record IsEmptyQueue (limits : Limits) (queue : Queue) : Type 0 where
  pub none : queue.entries ≡ []
  pub limits_are : queue.limits ≡ limits

-- what a half has in memory for its sets
pub record MakesMemory (sets : List SetBits) (limits : Limits) (places : List SetPlaces) (queue : Queue) : Type 0 where
  pub places_are : places ≡ places_for limits.writes sets
  pub queue_is : IsEmptyQueue limits queue

-- sets as they are found, with places for their segments and an empty queue
pub record OpensHalf (sizes : List ℕ) (parts : List MirrorSet) (limits : Limits) (sets : List SetBits) (places : List SetPlaces) (queue : Queue) : Type 0 where
  pub sets_are : LoadsSets sizes parts sets
  pub memory : MakesMemory sets limits places queue

-- the half that is made of them
abbrev pub half_found : Host → Seen → Note → List SetBits → List SetPlaces → Queue → SenderHalf
half_found host land n sets places queue = record { host = host; sets = sets; places = places; land = land; note = n; session = found_session n; queue = queue }

-- the bits of a set were not found; or there was no memory
abbrev pub HalfRefused : List ℕ → List MirrorSet → Why → List MirrorSet → Type 0
HalfRefused sizes parts why back = SetsRefused sizes parts why back ⊎ ((why ≡ NoMemory) × (back ≡ parts))

-- a sender as it is found: nothing on its disks has changed
pub record Loads (sound : Type 0) (p : SenderParts) (limits : Limits) (new : SenderHeld) : Type 0 where
  pub parts_are : parts_of new ≡ p
  pub limits_are : new.half.queue.limits ≡ limits
  pub lie : IsOver p.below new.half.sets
  pub note : IsNote p.below.note new.half.note
  pub session : new.half.session ≡ found_session new.half.note
  pub means : AreToldParts p → sender_of new ≡ found_on p
  pub step : sound → AreToldParts p → IsSenderInStep sound new

-- the note breaks a rule, the first of that field
pub record IsBadNote (p : SenderParts) (why : Why) (back : SenderParts) : Type 0 where
  pub bad : IsNoNote p.below.note why
  pub kept : back ≡ p

-- the note is one, and the bits of a set were not found
pub record AreBadSets (p : SenderParts) (why : Why) (back : SenderParts) : Type 0 where
  pub note : Note
  pub is : IsNote p.below.note note
  pub refused : SetsRefused p.below.sizes p.sets why back.sets
  pub kept : back ≡ record p { sets = back.sets }

-- there was no memory for the places and the queue
pub record HasNoPlaces (p : SenderParts) (why : Why) (back : SenderParts) : Type 0 where
  pub answer : why ≡ NoMemory
  pub kept : back ≡ p

abbrev pub SenderRefused : SenderParts → Why → SenderParts → Type 0
SenderRefused p why back = IsBadNote p why back ⊎ (AreBadSets p why back ⊎ HasNoPlaces p why back)
