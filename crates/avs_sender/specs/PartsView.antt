-- What a half is loaded from, as contracts see it.
use Rattle.avs_dev.specs.Seen.{Seen}
use Rattle.avs_dev.specs.Below.{BelowSeen}
use Rattle.avs_sync.specs.declared.parts.HalfParts.{HalfParts}
use Rattle.avs_sender.specs.Held.{SenderParts}

abbrev pub seen_parts : {D B : Type 0} → (D → Seen) → (B → BelowSeen) → HalfParts D B → SenderParts
seen_parts disk below p = record { host = p.host; below = below p.below; sets = p.sets; land = disk p.land }
