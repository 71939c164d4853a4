-- The note of a half: what its bytes stand for, and which of its fields breaks its rule.
use Rattle.std.specs.Prelude.{◌≡◌, ℕ, ◌<◌, ◌≤◌, ◌^◌, ◌==◌, nat_le, Bool, true, false, ◌&&◌, if◌then◌else◌, List, [], ◌∷◌, ◌++◌, take, drop, slice_index}
use Rattle.avs_code.specs.Bytes.{zeros, all_zero, u16_bytes, u64_bytes, u16_at, u64_at}
use Rattle.avs_model.specs.declared.half.HalfRole.{HalfRole}
use Rattle.avs_model.specs.declared.half.HalfRole.TheVariants.{Lone, Sender, Receiver}
use Rattle.avs_model.specs.declared.half.State.{State}
use Rattle.avs_model.specs.declared.half.State.TheVariants.{Logging, Syncing, Receiving, Replicating, Queuing}
use Rattle.avs_sync.specs.declared.note.Note.{Note}

-- the bytes of a role and of a state
abbrev pub role_byte : HalfRole → ℕ
role_byte Lone = 0
role_byte Sender = 1
role_byte Receiver = 2

abbrev pub state_byte : State → ℕ
state_byte Logging = 0
state_byte Syncing = 1
state_byte Receiving = 1
state_byte Replicating = 2
state_byte Queuing = 3

abbrev pub reverse_byte : Bool → ℕ
reverse_byte reverse = if reverse then 1 else 0

-- which states a half may have: a sender does not receive, a receiver neither syncs nor queues, and a half that was in
-- no session is in logging
abbrev pub may_be : HalfRole → State → Bool
may_be Lone Logging = true
may_be Sender Logging = true
may_be Sender Syncing = true
may_be Sender Replicating = true
may_be Sender Queuing = true
may_be Receiver Logging = true
may_be Receiver Receiving = true
may_be Receiver Replicating = true
may_be role state = false

-- the bytes that stand for a note
unfoldable pub note_bytes : Note → List ℕ
note_bytes x = u64_bytes x.session ++ role_byte x.role ∷ state_byte x.state ∷ [] ++ u16_bytes x.empty ++ reverse_byte x.reverse ∷ 0 ∷ 0 ∷ 0 ∷ [] ++ u64_bytes x.mark ++ zeros 40

-- each field keeps its rule
pub record NoteKeeps (x : Note) : Type 0 where
  pub session : x.session ≤ 2 ^ 62
  pub state : may_be x.role x.state ≡ true
  pub mark : x.mark ≤ 2 ^ 62

-- the slots fit their bytes
pub record NoteFits (x : Note) : Type 0 where
  pub empty : x.empty < 2 ^ 16

-- the bytes stand for the note
pub record IsNote (bytes : List ℕ) (x : Note) : Type 0 where
  pub keeps : NoteKeeps x
  pub fits : NoteFits x
  pub spelled : bytes ≡ note_bytes x

-- the role and the state of a byte
abbrev pub role_of : ℕ → HalfRole
role_of byte = if byte == 1 then Sender else (if byte == 2 then Receiver else Lone)

abbrev pub begun_as : HalfRole → State
begun_as Lone = Syncing
begun_as Sender = Syncing
begun_as Receiver = Receiving

abbrev pub state_of : HalfRole → ℕ → State
state_of role byte = if byte == 1 then begun_as role else (if byte == 2 then Replicating else (if byte == 3 then Queuing else Logging))

-- the greatest byte of a state that a half of that role may have
abbrev pub most_state : HalfRole → ℕ
most_state Lone = 0
most_state Sender = 3
most_state Receiver = 2

-- the fields as they lie in bytes
abbrev pub note_at : List ℕ → Note
note_at bytes = record {
  session = u64_at 0 bytes;
  role = role_of (slice_index bytes 8);
  state = state_of (role_of (slice_index bytes 8)) (slice_index bytes 9);
  empty = u16_at 10 bytes;
  reverse = slice_index bytes 12 == 1;
  mark = u64_at 16 bytes;
}

-- the bytes that belong to no field are zeros
abbrev pub is_rest : List ℕ → Bool
is_rest bytes = all_zero (take 3 (drop 13 bytes)) && all_zero (drop 24 bytes)

-- whether each field keeps its rule, and the bytes of none are zeros
abbrev pub note_rules : List ℕ → List Bool
note_rules bytes =
    nat_le (u64_at 0 bytes) (2 ^ 62)
    ∷ nat_le (slice_index bytes 8) 2
    ∷ nat_le (slice_index bytes 9) (most_state (role_of (slice_index bytes 8)))
    ∷ true
    ∷ nat_le (slice_index bytes 12) 1
    ∷ nat_le (u64_at 16 bytes) (2 ^ 62)
    ∷ is_rest bytes
    ∷ []
