-- The printed form of answers.
use Rattle.std.specs.Prelude.{ℕ, ◌+◌, ◌/◌, ◌%◌, nat_lt, List, [], ◌∷◌, ◌++◌, map, if◌then◌else◌}
use Rattle.std.specs.List.{flat_map, join_with_byte}
use Rattle.std.specs.Fmt.{decimal}
use lib.Chars.{codes}
use Rattle.avs_seg.specs.Image.{Image}
use Rattle.avs_model.specs.Filling.{shortest_pattern}
use Rattle.avs_model.specs.EqualBlocks.{EqualRun, runs_of}
use Rattle.avs_model.specs.declared.event.Host.{Host}
use Rattle.avs_model.specs.declared.event.Host.TheVariants.{P, S}
use Rattle.avs_model.specs.declared.answer.Refusal.{Refusal}
use Rattle.avs_model.specs.declared.answer.Word.{Word}
use Rattle.avs_model.specs.declared.answer.Word.TheVariants as word
use Rattle.avs_model.specs.declared.answer.Role.{Role}
use Rattle.avs_model.specs.declared.answer.Role.TheVariants as role
use Rattle.avs_model.specs.declared.answer.Refusal.TheVariants.{Down, BadWord, NoFile, NoVolume, NoSet, NoGroup, NoTap, Exists, NotPrimary, LinkDown, BusyVolume, Length, Range, Size, Limit, Unlike, Tap, Stale, WrongState, NoPlace, Copying, NoContents, Offline, WrongStamp, Differ, QueueFull, BadRecord, NoMemory, Fault, Early}
use Rattle.avs_model.specs.declared.recovered.Second.{Second}
use Rattle.avs_model.specs.declared.recovered.Second.TheVariants as second
use Rattle.avs_model.specs.declared.recovered.GroupLine.{GroupLine}
use Rattle.avs_model.specs.declared.recovered.SetLine.{SetLine}
use Rattle.avs_model.specs.declared.recovered.Recovered.{Recovered}
use Rattle.avs_model.specs.declared.answer.Answer.{Answer}
use Rattle.avs_model.specs.declared.answer.Answer.TheVariants as answer

-- a lower-case hexadecimal digit
abbrev pub hex_digit : ℕ → ℕ
hex_digit n = if nat_lt n 10 then 48 + n else 87 + n

-- the two digits of each byte
abbrev pub hex_text : List ℕ → List ℕ
hex_text bytes = flat_map (λ b. hex_digit (b / 16) ∷ hex_digit (b % 16) ∷ []) bytes

-- `N*HEX`
abbrev pub run_text : EqualRun → List ℕ
run_text run = decimal run.count ++ codes "*" ++ hex_text (shortest_pattern run.block)

-- the runs of blocks, separated by one space
abbrev pub runs_text : Image → List ℕ
runs_text blocks = join_with_byte 32 (map run_text (runs_of blocks))

abbrev pub host_text : Host → List ℕ
host_text P = codes "p"
host_text S = codes "s"

abbrev pub word_text : Word → List ℕ
word_text word.Up = codes "up"
word_text word.Unarmed = codes "unarmed"
word_text word.Ind = codes "ind"
word_text word.Dep = codes "dep"
word_text word.Compact = codes "compact"
word_text word.Away = codes "away"
word_text word.Exported = codes "exported"
word_text word.Stopped = codes "stopped"
word_text word.Present = codes "present"
word_text word.Online = codes "online"
word_text word.Plain = codes "plain"
word_text word.Attached = codes "attached"
word_text word.Detached = codes "detached"
word_text word.Used = codes "used"
word_text word.Logging = codes "logging"
word_text word.Syncing = codes "syncing"
word_text word.Receiving = codes "receiving"
word_text word.Replicating = codes "replicating"
word_text word.Queuing = codes "queuing"

abbrev pub role_text : Role → List ℕ
role_text role.Away = codes "away"
role_text role.Mirror = codes "mirror"
role_text role.Master = codes "master"
role_text role.Shadow = codes "shadow"
role_text role.Bitmap = codes "bitmap"
role_text role.Overflow = codes "overflow"
role_text role.Queue = codes "queue"
role_text role.Import = codes "import"
role_text role.Plain = codes "plain"

abbrev pub refusal_text : Refusal → List ℕ
refusal_text (Down host) = codes "Down " ++ host_text host
refusal_text (BadWord word) = codes "BadWord " ++ decimal word
refusal_text NoFile = codes "NoFile"
refusal_text NoVolume = codes "NoVolume"
refusal_text NoSet = codes "NoSet"
refusal_text NoGroup = codes "NoGroup"
refusal_text (NoTap tap) = codes "NoTap " ++ decimal tap
refusal_text Exists = codes "Exists"
refusal_text NotPrimary = codes "NotPrimary"
refusal_text LinkDown = codes "LinkDown"
refusal_text (BusyVolume role) = codes "BusyVolume " ++ role_text role
refusal_text (Length len) = codes "Length " ++ decimal len
refusal_text (Range blocks) = codes "Range " ++ decimal blocks
refusal_text (Size need have) = codes "Size " ++ decimal need ++ 32 ∷ decimal have
refusal_text (Limit limit) = codes "Limit " ++ decimal limit
refusal_text (Unlike word) = codes "Unlike " ++ decimal word
refusal_text (Tap tap code) = codes "Tap " ++ decimal tap ++ 32 ∷ decimal code
refusal_text (Stale ours theirs) = codes "Stale " ++ decimal ours ++ 32 ∷ decimal theirs
refusal_text (WrongState word) = codes "WrongState " ++ word_text word
refusal_text (NoPlace last) = codes "NoPlace " ++ decimal last
refusal_text (Copying chunks) = codes "Copying " ++ decimal chunks
refusal_text NoContents = codes "NoContents"
refusal_text (Offline need slots) = codes "Offline " ++ decimal need ++ 32 ∷ decimal slots
refusal_text (WrongStamp ours theirs) = codes "WrongStamp " ++ decimal ours ++ 32 ∷ decimal theirs
refusal_text (Differ seg) = codes "Differ " ++ decimal seg
refusal_text (QueueFull writes blocks) = codes "QueueFull " ++ decimal writes ++ 32 ∷ decimal blocks
refusal_text (BadRecord field) = codes "BadRecord " ++ decimal field
refusal_text NoMemory = codes "NoMemory"
refusal_text Fault = codes "Fault"
refusal_text (Early next) = codes "Early " ++ decimal next

-- the blocks of a write that read as written
abbrev pub blocks_text : List ℕ → List ℕ
blocks_text blocks = flat_map (λ i. 32 ∷ decimal i) blocks

-- what became of the event that a fault stopped
abbrev pub second_text : Second → List ℕ
second_text (second.Torn volume at blocks) = codes "torn " ++ volume ++ 32 ∷ decimal at ++ blocks_text blocks
second_text second.Kept = codes "kept"
second_text second.Done = codes "done"
second_text second.Clean = codes "clean"

-- a group without mirror sets
abbrev pub group_text : GroupLine → List ℕ
group_text line = codes "group " ++ line.group ++ codes " plain session " ++ decimal line.session ++ codes " at " ++ decimal line.place

abbrev pub set_text : SetLine → List ℕ
set_text line = codes "set " ++ line.set ++ codes " left " ++ decimal line.left

-- the lines on a host that is up again, with a line feed between two
abbrev pub recovered_text : Recovered → List ℕ
recovered_text told =
    codes "up " ++ host_text told.host ++ 10 ∷ second_text told.second
    ++ flat_map (λ line. 10 ∷ group_text line) told.groups
    ++ flat_map (λ line. 10 ∷ set_text line) told.sets

abbrev pub answer_text : Answer → List ℕ
answer_text answer.Done = codes "ok"
answer_text (answer.Shown blocks) = codes "data " ++ runs_text blocks
answer_text (answer.Down host) = codes "down " ++ host_text host
answer_text (answer.Up told) = recovered_text told
answer_text (answer.Refused why) = codes "refused " ++ refusal_text why
answer_text (answer.Faulted host) = codes "refused Fault " ++ host_text host

-- an answer and its line feed
abbrev pub answer_line : Answer → List ℕ
answer_line answer = answer_text answer ++ 10 ∷ []

-- the printed bytes of answers
abbrev pub text : List Answer → List ℕ
text answers = flat_map answer_line answers

-- what is printed of a line that is no statement
abbrev pub bad_line : ℕ → List ℕ
bad_line number = codes "bad line " ++ decimal number ++ 10 ∷ []
