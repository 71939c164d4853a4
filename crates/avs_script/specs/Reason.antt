-- Why a line is no statement.
use Rattle.std.specs.Prelude.{ℕ, Bool, true, false, ◌||◌, ◌&&◌, ◌==◌, nat_lt, nat_eq, is_some, Option, None, Some, List, [], ◌∷◌, length, drop, if◌then◌else◌}
use Rattle.std.specs.List.{starts_with}
use Rattle.std.specs.Str.{bytes_eq}
use lib.Chars.{codes}
use Rattle.avs_seg.specs.Lines.{line_limit}
use Rattle.avs_model.specs.Names.{host_named, is_group_name}
use Rattle.avs_model.specs.Words.{words_of, number}
use Rattle.avs_model.specs.Script.{words_event, built}
use Rattle.avs_model.specs.declared.event.Event.{Event}
use Rattle.avs_script.specs.declared.reasons.BadLine.{BadLine}
use Rattle.avs_script.specs.declared.reasons.BadLine.TheVariants.{TooLong, NoSuchStatement, NoHost, WrongWords, NotANumber, NotBuilt}

abbrev pub is_number : List ℕ → Bool
is_number word = is_some (number word)

-- whether N of `volume H V N` is a number, where so many words stand behind the host
abbrev pub volume_number : List (List ℕ) → Bool
volume_number (volume ∷ blocks ∷ []) = is_number blocks
volume_number words = true

-- whether AT and LEN of `write H V AT LEN HEX` are numbers
abbrev pub write_numbers : List (List ℕ) → Bool
write_numbers (volume ∷ at ∷ len ∷ hex ∷ []) = if is_number at then is_number len else false
write_numbers words = true

-- whether AT and LEN of `read H V AT LEN` are numbers
abbrev pub read_numbers : List (List ℕ) → Bool
read_numbers (volume ∷ at ∷ len ∷ []) = if is_number at then is_number len else false
read_numbers words = true

-- a disk for `arm` that is not there yet: `config:`, or `land:` and a group's
abbrev pub is_disk_to_come : List ℕ → Bool
is_disk_to_come word = bytes_eq word (codes "config:") || (starts_with nat_eq word (codes "land:") && is_group_name (drop 5 word))

-- why the words of `arm H X SKIP FROM COUNT` behind the host are no event
abbrev pub why_arm : List (List ℕ) → BadLine
why_arm (disk ∷ skip ∷ first ∷ count ∷ []) =
    if (if is_number skip then (if is_number first then is_number count else false) else false) then (if is_disk_to_come disk then NotBuilt else WrongWords) else NotANumber
why_arm words = WrongWords

-- an option of `iiadm` before a command, or for a command on sets, that is not there yet
abbrev pub is_set_option : List ℕ → Bool
is_set_option word =
    bytes_eq word (codes "-n") || (bytes_eq word (codes "-g") || (bytes_eq word (codes "-C") || (bytes_eq word (codes "-d") || (bytes_eq word (codes "-u")
    || (bytes_eq word (codes "-c") || (bytes_eq word (codes "-a") || (bytes_eq word (codes "-w") || (bytes_eq word (codes "-l") || bytes_eq word (codes "-i")))))))))

-- an option of `iiadm` for a command on overflow volumes, exports or imports
abbrev pub is_volume_option : List ℕ → Bool
is_volume_option word =
    bytes_eq word (codes "-O") || (bytes_eq word (codes "-A") || (bytes_eq word (codes "-D") || (bytes_eq word (codes "-Q")
    || (bytes_eq word (codes "-E") || (bytes_eq word (codes "-I") || bytes_eq word (codes "-J"))))))

-- an option of `iiadm` that is not there yet
abbrev pub is_option_to_come : List ℕ → Bool
is_option_to_come word = is_set_option word || is_volume_option word

-- why the words of `iiadm H REST` behind the host are no event
abbrev pub why_ii : List (List ℕ) → BadLine
why_ii [] = WrongWords
why_ii (option ∷ words) = if is_option_to_come option then NotBuilt else WrongWords

-- a first word of statements of mirrors that are not there yet
abbrev pub is_mirror_to_come : List ℕ → Bool
is_mirror_to_come word =
    bytes_eq word (codes "sndradm") || (bytes_eq word (codes "sync") || (bytes_eq word (codes "take") || (bytes_eq word (codes "carry") || (bytes_eq word (codes "back")
    || (bytes_eq word (codes "lose") || (bytes_eq word (codes "settle") || (bytes_eq word (codes "bits") || bytes_eq word (codes "fetch"))))))))

-- a first word of other statements that are not there yet
abbrev pub is_other_to_come : List ℕ → Bool
is_other_to_come word =
    bytes_eq word (codes "copy") || (bytes_eq word (codes "dsstat") || (bytes_eq word (codes "file") || (bytes_eq word (codes "link") || (bytes_eq word (codes "move")
    || (bytes_eq word (codes "tap") || (bytes_eq word (codes "upgrade") || bytes_eq word (codes "version")))))))

-- a first word of statements that are not there yet
abbrev pub is_to_come : List ℕ → Bool
is_to_come word = is_mirror_to_come word || is_other_to_come word

-- a first word of statements that are there; a host stands behind each
abbrev pub is_there : List ℕ → Bool
is_there word =
    bytes_eq word (codes "volume") || (bytes_eq word (codes "write") || (bytes_eq word (codes "read") || (bytes_eq word (codes "iiadm")
    || (bytes_eq word (codes "arm") || (bytes_eq word (codes "crash") || bytes_eq word (codes "recover"))))))

abbrev pub by_numbers : Bool → BadLine
by_numbers numbers = if numbers then WrongWords else NotANumber

-- why a first word that is there, and the words behind the host, are no event
abbrev pub why_at_host : List ℕ → List (List ℕ) → BadLine
why_at_host word words =
    if bytes_eq word (codes "volume") then by_numbers (volume_number words)
    else (if bytes_eq word (codes "write") then by_numbers (write_numbers words)
    else (if bytes_eq word (codes "read") then by_numbers (read_numbers words)
    else (if bytes_eq word (codes "arm") then why_arm words else (if bytes_eq word (codes "iiadm") then why_ii words else WrongWords))))

-- why a first word that is there, and the words behind it, are no event: the first of these names a host or not
abbrev pub why_there : List ℕ → List (List ℕ) → BadLine
why_there word [] = NoHost
why_there word (host ∷ words) = if is_some (host_named host) then why_at_host word words else NoHost

-- why a first word and the words behind it are no event
abbrev pub why : List ℕ → List (List ℕ) → BadLine
why word words = if is_there word then why_there word words else (if is_to_come word then NotBuilt else NoSuchStatement)

-- why the words of a line are no event
abbrev pub why_words : List (List ℕ) → BadLine
why_words [] = NoSuchStatement
why_words (word ∷ words) = why word words

-- of an event whether its form is there, and else why there is none
abbrev pub event_reason : Option Event → List ℕ → List (List ℕ) → Option BadLine
event_reason (Some event) word words = if built event then None else Some NotBuilt
event_reason None word words = Some (why word words)

-- a line without words, or whose first word begins with `#`, needs no reason
abbrev pub words_reason : List (List ℕ) → Option BadLine
words_reason [] = None
words_reason ([] ∷ words) = Some NoSuchStatement
words_reason ((b ∷ word) ∷ words) = if b == 35 then None else event_reason (words_event (b ∷ word) words) (b ∷ word) words

-- why a line is no statement, where it is none
abbrev pub reason_of : List ℕ → Option BadLine
reason_of line = if nat_lt line_limit (length line) then Some TooLong else words_reason (words_of line)
