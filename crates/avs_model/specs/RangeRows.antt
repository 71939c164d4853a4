-- What a read and a write of a range are refused for.
use Rattle.std.specs.Prelude.{ℕ, ◌≡◌, ◌<◌, ◌≤◌, ◌+◌, true, false, not, nat_lt, ◌||◌, Option, None, List, [], ◌∷◌, ◌++◌}
use Rattle.std.specs.Bool.{then_some}
use Rattle.std.specs.Option.{option_map}
use Rattle.avs_model.specs.Limits.{largest_number}
use Rattle.avs_model.specs.Rows.{takes_io, half_row, offline_row}
use Rattle.avs_model.specs.declared.entry.Full.{Full}
use Rattle.avs_model.specs.declared.event_facts.RangeFacts.{RangeFacts}
use Rattle.avs_model.specs.declared.event_facts.AccessFacts.{AccessFacts}
use Rattle.avs_model.specs.declared.event_facts.RoomFacts.{RoomFacts}
use Rattle.avs_model.specs.declared.answer.Word.TheVariants.{Away}
use Rattle.avs_model.specs.declared.answer.Refusal.{Refusal}
use Rattle.avs_model.specs.declared.answer.Refusal.TheVariants.{Down, NoVolume, BusyVolume, Length, Range, Limit, Tap, WrongState, NoContents, QueueFull}

-- before the taps look at it
abbrev pub place_rows : RangeFacts → List (Option Refusal)
place_rows f =
    then_some (not f.host.up) (Down f.host.name)
    ∷ then_some (not f.volume.there) NoVolume
    ∷ then_some (not (takes_io f.volume.role) || f.volume.keeps_import) (BusyVolume f.volume.role)
    ∷ then_some (nat_lt f.len 1 || nat_lt f.longest f.len) (Length f.len)
    ∷ then_some (nat_lt f.volume.reach (f.at + f.len)) (Range f.volume.reach)
    ∷ then_some (nat_lt largest_number f.place) (Limit largest_number)
    ∷ []

-- a tap that refuses, with its code
abbrev pub tap_row : Option (ℕ × ℕ) → Option Refusal
tap_row veto = option_map (λ veto. Tap veto.0 veto.1) veto

-- behind the taps
abbrev pub access_rows : AccessFacts → List (Option Refusal)
access_rows f =
    then_some f.is_away (WrongState Away)
    ∷ half_row f.half
    ∷ then_some f.empty NoContents
    ∷ offline_row f.offline
    ∷ []

abbrev pub range_rows : RangeFacts → Option (ℕ × ℕ) → AccessFacts → List (Option Refusal)
range_rows f veto access = place_rows f ++ tap_row veto ∷ access_rows access

-- a queue that is full
abbrev pub full_row : Option Full → Option Refusal
full_row full = option_map (λ full. QueueFull full.writes full.blocks) full

-- what only the work of a write finds
abbrev pub room_rows : RoomFacts → List (Option Refusal)
room_rows f = offline_row f.offline ∷ full_row f.full ∷ []

abbrev pub write_rows : RangeFacts → Option (ℕ × ℕ) → AccessFacts → RoomFacts → List (Option Refusal)
write_rows f veto access room = range_rows f veto access ++ room_rows room

-- what is known of a range that no row refuses before the taps look
pub record PlacePasses (f : RangeFacts) : Type 0 where
  pub up : f.host.up ≡ true
  pub there : f.volume.there ≡ true
  pub takes : takes_io f.volume.role ≡ true
  pub keeps : f.volume.keeps_import ≡ false
  pub some : 0 < f.len
  pub most : f.len ≤ f.longest
  pub inside : f.at + f.len ≤ f.volume.reach
  pub place : f.place ≤ largest_number

-- and behind them
pub record AccessPasses (f : AccessFacts) : Type 0 where
  pub here : f.is_away ≡ false
  pub half : f.half ≡ None
  pub filled : f.empty ≡ false
  pub online : f.offline ≡ None
