-- What a receiver holds: what lies below it, its sets, its landing volume, and its note.
use Rattle.std.specs.Prelude.{ℕ, List, map, Option}
use Rattle.avs_dev.specs.Seen.{Seen}
use Rattle.avs_dev.specs.Below.{BelowSeen}
use Rattle.avs_model.specs.declared.event.Host.{Host}
use Rattle.avs_sync.specs.declared.note.Note.{Note}
use Rattle.avs_sync.specs.Parts.{MirrorSet}
use Rattle.avs_halves.specs.SetBits.{SetBits, part_of}
use Rattle.avs_land.specs.Landing.{Landing}

-- its host; its sets in order with their bits; the disk of a queue, which it only keeps; its landing volume; the note that it found or
-- wrote last; and the last applied place
pub record ReceiverHalf : Type 0 where
  pub host : Host
  pub sets : List SetBits
  pub queue : Option Seen
  pub land : Landing
  pub note : Note
  pub applied : ℕ

-- with what lies below
pub record ReceiverHeld : Type 0 where
  pub below : BelowSeen
  pub half : ReceiverHalf

abbrev pub held : BelowSeen → ReceiverHalf → ReceiverHeld
held below half = record { below = below; half = half }

-- the half with another note and another applied place
abbrev pub half_noted : ReceiverHalf → Note → ℕ → ReceiverHalf
half_noted h n applied = record h { note = n; applied = applied }

-- a receiver as its contracts see it: what lies below it, itself, and its half
pub record ReceiverOf (B : Type 0) : Type 0 where
  pub below : B
  pub half : ReceiverHalf

abbrev pub receiver_with : {B : Type 0} → B → ReceiverHalf → ReceiverOf B
receiver_with below half = record { below = below; half = half }

abbrev pub seen_of : {B : Type 0} → (B → BelowSeen) → ReceiverOf B → ReceiverHeld
seen_of seen r = held (seen r.below) r.half

-- what a receiver is made of, and is taken apart into
pub record ReceiverParts : Type 0 where
  pub host : Host
  pub below : BelowSeen
  pub sets : List MirrorSet
  pub queue : Option Seen
  pub land : Seen

abbrev pub parts_of : ReceiverHeld → ReceiverParts
parts_of h = record { host = h.half.host; below = h.below; sets = map part_of h.half.sets; queue = h.half.queue; land = h.half.land.disk }
