-- Sources and sinks in memory, which fail at the calls that they are told.
use Rattle.std.specs.Prelude.{ℕ, ◌-◌, ◌<◌, ◌≤◌, ◌≡◌, ◌⊎◌, ◌↔◌, List, [], length, min, drop, Contains, Result, IsErr, IfOk, is_err, if◌then◌else◌}
use Rattle.avs_seg.specs.declared.fault.Failed.{Failed}
use Rattle.avs_io.specs.Counts.{one_more}
use Rattle.avs_io.specs.declared.memory.MemSource.TheInside as source
use Rattle.avs_io.specs.declared.memory.MemSink.TheInside as sink

-- the calls of a source or a sink in memory: those that are to fail, by their numbers, and how many were made and have failed
pub record Calls : Type 0 where
  pub fails : List ℕ
  pub made : ℕ
  pub faults : ℕ

-- what a source in memory has left, and how much it gives at most in one call
pub record Supply : Type 0 where
  pub left : List ℕ
  pub piece : ℕ
  pub calls : Calls

-- what a sink in memory has taken, and how much it has room for in all
pub record Store : Type 0 where
  pub taken : List ℕ
  pub room : ℕ
  pub calls : Calls

abbrev pub supply_of : source.Inside → Supply
supply_of s = record { left = drop s.at s.bytes.items; piece = s.piece; calls = record { fails = s.fails.items; made = s.calls; faults = s.faults } }

abbrev pub store_of : sink.Inside → Store
store_of s = record { taken = s.bytes.items; room = s.room; calls = record { fails = s.fails.items; made = s.calls; faults = s.faults } }

-- no call was made yet
abbrev pub no_calls : List ℕ → Calls
no_calls fails = record { fails = fails; made = 0; faults = 0 }

-- the call that comes next is to fail: calls are counted from 1
abbrev pub IsListed : Calls → Type 0
IsListed calls = Contains calls.fails (one_more calls.made)

-- one call more was made, and one fault more counted if it failed
pub record Counts {T E : Type 0} (old new : Calls) (result : Result T E) : Type 0 where
  pub fails : new.fails ≡ old.fails
  pub made : new.made ≡ one_more old.made
  pub faults : new.faults ≡ (if is_err result then one_more old.faults else old.faults)

-- a call of a source in memory that has so much room for the bytes
pub record Supplies (old new : Supply) (room : ℕ) (result : Result ℕ Failed) : Type 0 where
  pub fails : IsErr result ↔ IsListed old.calls
  pub counts : Counts old.calls new.calls result
  pub steady : old.calls.fails ≡ [] → new.calls.faults ≡ old.calls.faults
  pub piece : new.piece ≡ old.piece
  pub count : IfOk result (λ n. n ≡ min (min (length old.left) room) old.piece)

-- there are bytes, and none of them fits
abbrev pub IsFull : Store → List ℕ → Type 0
IsFull store bytes = (0 < length bytes) × (store.room ≤ length store.taken)

-- a call of a sink in memory
pub record Stores (old new : Store) (bytes : List ℕ) (result : Result ℕ Failed) : Type 0 where
  pub fails : IsErr result ↔ (IsListed old.calls ⊎ IsFull old bytes)
  pub counts : Counts old.calls new.calls result
  pub room : new.room ≡ old.room
  pub count : IfOk result (λ n. n ≡ min (length bytes) (old.room - length old.taken))
