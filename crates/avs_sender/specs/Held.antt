-- What a sender holds: what lies below it, its sets, and its session in memory.
use Rattle.std.specs.Prelude.{Bool, List, map}
use Rattle.avs_dev.specs.Seen.{Seen}
use Rattle.avs_dev.specs.Below.{BelowSeen}
use Rattle.avs_refs.specs.Places.{Places}
use Rattle.avs_mqueue.specs.Queue.{Queue}
use Rattle.avs_model.specs.declared.event.Host.{Host}
use Rattle.avs_sync.specs.declared.note.Note.{Note}
use Rattle.avs_sync.specs.declared.session.Session.{Session}
use Rattle.avs_sync.specs.Parts.{MirrorSet}
use Rattle.avs_halves.specs.SetBits.{SetBits, part_of}

-- of the segments of a set: which place touched each last, and which of them wait to be copied
pub record SetPlaces : Type 0 where
  pub touched : Places
  pub waiting : List Bool

-- its host; its sets in order with their bits, and the places of each one's segments; the disk of its landing volume; the note that
-- it found or wrote last; its session; and the entries above the known place
pub record SenderHalf : Type 0 where
  pub host : Host
  pub sets : List SetBits
  pub places : List SetPlaces
  pub land : Seen
  pub note : Note
  pub session : Session
  pub queue : Queue

-- with what lies below
pub record SenderHeld : Type 0 where
  pub below : BelowSeen
  pub half : SenderHalf

abbrev pub held : BelowSeen → SenderHalf → SenderHeld
held below half = record { below = below; half = half }

-- a sender as its contracts see it: what lies below it, itself, and its half
pub record SenderOf (B : Type 0) : Type 0 where
  pub below : B
  pub half : SenderHalf

abbrev pub seen_of : {B : Type 0} → (B → BelowSeen) → SenderOf B → SenderHeld
seen_of seen s = held (seen s.below) s.half

-- what a sender is made of, and is taken apart into
pub record SenderParts : Type 0 where
  pub host : Host
  pub below : BelowSeen
  pub sets : List MirrorSet
  pub land : Seen

abbrev pub parts_of : SenderHeld → SenderParts
parts_of h = record { host = h.half.host; below = h.below; sets = map part_of h.half.sets; land = h.half.land }
