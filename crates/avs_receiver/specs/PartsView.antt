-- What a receiver is loaded from, as contracts see it.
use Rattle.std.specs.Prelude.{map}
use Rattle.std.specs.Option.{option_map}
use Rattle.avs_dev.specs.Seen.{Seen}
use Rattle.avs_dev.specs.Below.{BelowSeen}
use Rattle.avs_sync.specs.declared.parts.HalfParts.{HalfParts}
use Rattle.avs_halves.specs.SetBits.{part_of}
use Rattle.avs_receiver.specs.declared.loading.Opened.{Opened}
use Rattle.avs_receiver.specs.Held.{ReceiverParts}

abbrev pub seen_parts : {D B : Type 0} → (D → Seen) → (B → BelowSeen) → HalfParts D B → ReceiverParts
seen_parts disk below p = record { host = p.host; below = below p.below; sets = p.sets; queue = option_map disk p.queue; land = disk p.land }

-- and once its bits are found
abbrev pub opened_as : {D B : Type 0} → (D → Seen) → (B → BelowSeen) → Opened D B → ReceiverParts
opened_as disk below o = record { host = o.host; below = below o.below; sets = map part_of o.sets; queue = option_map disk o.queue; land = disk o.land }
