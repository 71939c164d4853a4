-- The events of a script.
use Rattle.std.specs.Prelude.{ℕ, ◌+◌, Bool, true, false, ◌&&◌, ◌==◌, nat_lt, Option, None, Some, List, [], ◌∷◌, length, if◌then◌else◌}
use Rattle.std.specs.Option.{option_map, option_and_then}
use Rattle.std.specs.Str.{bytes_eq}
use lib.Chars.{codes}
use Rattle.avs_seg.specs.Lines.{line_limit}
use Rattle.avs_model.specs.Names.{host_named, volume_named, disk_named}
use Rattle.avs_model.specs.Words.{words_of, number, pattern}
use Rattle.avs_model.specs.declared.event.Host.{Host}
use Rattle.avs_model.specs.declared.event.Host.TheVariants.{P, S}
use Rattle.avs_model.specs.declared.event.IiCommand.{IiCommand}
use Rattle.avs_model.specs.declared.event.IiCommand.TheVariants.{Enable}
use Rattle.avs_model.specs.declared.event.Event.{Event}
use Rattle.avs_model.specs.declared.event.Event.TheVariants.{Volume, Write, Read, Ii, Arm, Crash, Recover}
use Rattle.avs_model.specs.declared.event.Statement.{Statement}
use Rattle.avs_model.specs.declared.event.Statement.TheVariants.{Nothing, Run}

-- H V, and what the words behind them make of the two
abbrev pub at_volume : List ℕ → List ℕ → (Host → List ℕ → Option Event) → Option Event
at_volume host volume event = option_and_then (λ h. option_and_then (λ v. event h v) (volume_named volume)) (host_named host)

-- `volume H V N`
abbrev pub volume_event : List (List ℕ) → Option Event
volume_event (host ∷ volume ∷ blocks ∷ []) = at_volume host volume (λ h v. option_map (λ n. Volume h v n) (number blocks))
volume_event words = None

-- `write H V AT LEN HEX`
abbrev pub write_event : List (List ℕ) → Option Event
write_event (host ∷ volume ∷ at ∷ len ∷ hex ∷ []) =
    at_volume host volume (λ h v. option_and_then (λ a. option_and_then (λ n. option_map (λ p. Write h v a n p) (pattern hex)) (number len)) (number at))
write_event words = None

-- `read H V AT LEN`
abbrev pub read_event : List (List ℕ) → Option Event
read_event (host ∷ volume ∷ at ∷ len ∷ []) =
    at_volume host volume (λ h v. option_and_then (λ a. option_map (λ n. Read h v a n) (number len)) (number at))
read_event words = None

-- `arm H X SKIP FROM COUNT`
abbrev pub arm_event : List (List ℕ) → Option Event
arm_event (host ∷ disk ∷ skip ∷ first ∷ count ∷ []) =
    option_and_then (λ h. option_and_then (λ s. option_and_then (λ f. option_and_then (λ c. option_map (λ d. Arm h d s f c) (disk_named disk)) (number count)) (number first)) (number skip)) (host_named host)
arm_event words = None

-- whether a kind is the dependent one
abbrev pub dependent_named : List ℕ → Option Bool
dependent_named word = if bytes_eq word (codes "dep") then Some true else (if bytes_eq word (codes "ind") then Some false else None)

-- `KIND MASTER SHADOW BITMAP` behind `-e`
abbrev pub enable_command : List (List ℕ) → Option IiCommand
enable_command (kind ∷ master ∷ shadow ∷ bitmap ∷ []) =
    option_and_then (λ d. option_and_then (λ m. option_and_then (λ s. option_map (λ b. Enable d m s b) (volume_named bitmap)) (volume_named shadow)) (volume_named master)) (dependent_named kind)
enable_command words = None

-- a command of shadow sets
abbrev pub ii_command : List (List ℕ) → Option IiCommand
ii_command [] = None
ii_command (letter ∷ words) = if bytes_eq letter (codes "-e") then enable_command words else None

-- `iiadm H REST`
abbrev pub ii_event : List (List ℕ) → Option Event
ii_event [] = None
ii_event (host ∷ words) = option_and_then (λ h. option_map (λ c. Ii h c) (ii_command words)) (host_named host)

-- H, and no more words
abbrev pub host_alone : List (List ℕ) → Option Host
host_alone (host ∷ []) = host_named host
host_alone words = None

-- `crash H`, `recover H` and `arm ..`: the event that a first word and the words behind it are
abbrev pub fault_event : List ℕ → List (List ℕ) → Option Event
fault_event word words =
    if bytes_eq word (codes "arm") then arm_event words
    else (if bytes_eq word (codes "crash") then option_map Crash (host_alone words) else (if bytes_eq word (codes "recover") then option_map Recover (host_alone words) else None))

-- the event that a first word and the words behind it are
abbrev pub words_event : List ℕ → List (List ℕ) → Option Event
words_event word words =
    if bytes_eq word (codes "volume") then volume_event words
    else (if bytes_eq word (codes "write") then write_event words
    else (if bytes_eq word (codes "read") then read_event words else (if bytes_eq word (codes "iiadm") then ii_event words else fault_event word words)))

-- the event that the words of a line are, in any form
abbrev pub event_of : List (List ℕ) → Option Event
event_of [] = None
event_of (word ∷ words) = words_event word words

abbrev pub is_p : Host → Bool
is_p P = true
is_p S = false

-- the commands that there are so far
abbrev pub built_command : IiCommand → Bool
built_command (Enable dependent master shadow bitmap) = dependent

-- the forms that there are so far
abbrev pub built : Event → Bool
built (Volume host volume blocks) = is_p host
built (Write host volume at len bytes) = is_p host && length bytes == 1
built (Read host volume at len) = is_p host
built (Ii host command) = is_p host && built_command command
built (Arm host disk skip first count) = is_p host
built (Crash host) = is_p host
built (Recover host) = is_p host

-- the event, if its form is there
abbrev pub if_built : Event → Option Event
if_built event = if built event then Some event else None

-- a line without words, or whose first word begins with `#`, is no event
abbrev pub words_statement : List (List ℕ) → Option Statement
words_statement [] = Some Nothing
words_statement ([] ∷ words) = None
words_statement ((b ∷ word) ∷ words) = if b == 35 then Some Nothing else option_map Run (option_and_then if_built (words_event (b ∷ word) words))

-- what a line says, if it is a statement
abbrev pub statement : List ℕ → Option Statement
statement line = if nat_lt line_limit (length line) then None else words_statement (words_of line)

-- the events of lines up to the first that is no statement, and that line's number
pub record Script : Type 0 where
  pub events : List Event
  pub bad : Option ℕ

-- a line of that number, in front of a script
abbrev pub with_line : ℕ → Option Statement → Script → Script
with_line at None rest = record { events = []; bad = Some at }
with_line at (Some Nothing) rest = rest
with_line at (Some (Run event)) rest = record { events = event ∷ rest.events; bad = rest.bad }

-- the script of lines, of which the first has that number
abbrev pub script_from : ℕ → List (List ℕ) → Script
script_from at [] = record { events = []; bad = None }
script_from at (line ∷ lines) = with_line at (statement line) (script_from (at + 1) lines)

-- the script of lines, counted from 1
abbrev pub script : List (List ℕ) → Script
script lines = script_from 1 lines
