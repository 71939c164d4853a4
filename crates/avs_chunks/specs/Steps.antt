-- The steps of a chunk that is settled: the copy of its contents, and the write of its state.
use Rattle.std.specs.Prelude.{◌≡◌, ◌≢◌, ◌⊎◌, ℕ, ◌+◌, ◌/◌, Bool, not, IsTrue, List, length, Result, OnOk, OnErr, IsOk}
use Rattle.avs_seg.specs.Image.{Image, range, ChangesWithin}
use Rattle.avs_dev.specs.Seen.{Seen, IsTold, Lasts, IsSpared, Fails, GoesOn, Reads}
use Rattle.avs_dev.specs.Memory.{counted}
use Rattle.avs_flip.specs.Areas.{Areas, live, staged, live_from}
use Rattle.avs_chunks.specs.States.{on_master, on_shadow, state_in, state_on}

-- of two disks one has failed, and the other has not
abbrev pub OneOfTwo : Seen → Seen → Seen → Seen → Type 0
OneOfTwo a b a_new b_new = (Fails a a_new × IsSpared b b_new) ⊎ (IsSpared a a_new × Fails b b_new)

-- two disks last through a call, which fails exactly by one of them
pub record BothGoOn {T E : Type 0} (a b : Seen) (result : Result T E) (a_new b_new : Seen) : Type 0 where
  pub first : Lasts a a_new
  pub second : Lasts b b_new
  pub done : OnOk result (IsSpared a a_new × IsSpared b b_new)
  pub failed : OnErr result (OneOfTwo a b a_new b_new)

-- blocks are copied from one disk to another
pub record CopiesSpan {T E : Type 0} (from to : Seen) (at len : ℕ) (result : Result T E) (from_new to_new : Seen) : Type 0 where
  pub go : BothGoOn from to result from_new to_new
  pub rest : from_new ≡ record from { faults = from_new.faults }
  pub within : IsTold to → ChangesWithin at len to.image to_new.image
  pub copied : IsTold from → IsTold to → OnOk result (range to_new.image at len ≡ range from.image at len)
  pub counted : OnOk result (to_new.written ≡ counted to.written len)
  pub uncounted : OnErr result (to_new.written ≡ to.written)

-- what is done where there is nothing to copy
pub record CopiesNothing {T E : Type 0} (master shadow : Seen) (result : Result T E) (master_new shadow_new : Seen) : Type 0 where
  pub ok : IsOk result
  pub master_same : master_new ≡ master
  pub shadow_same : shadow_new ≡ shadow

-- a chunk whose contents stand on one disk alone is copied to the other
pub record CopiesChunk {T E : Type 0} (state : ℕ) (master shadow : Seen) (at len : ℕ) (result : Result T E) (master_new shadow_new : Seen) : Type 0 where
  pub to_shadow : state ≡ on_master → CopiesSpan master shadow at len result master_new shadow_new
  pub to_master : state ≡ on_shadow → CopiesSpan shadow master at len result shadow_new master_new
  pub nothing : state ≢ on_master → state ≢ on_shadow → CopiesNothing master shadow result master_new shadow_new

-- an area after the block with the state of a chunk was written from memory, with this state
pub record HasStates (memory : List ℕ) (old new : Image) (chunk state : ℕ) : Type 0 where
  pub now : state_on new chunk ≡ state
  pub near : (c : ℕ) → c ≢ chunk → c / 2048 ≡ chunk / 2048 → state_on new c ≡ state_in memory c
  pub far : (c : ℕ) → c / 2048 ≢ chunk / 2048 → state_on new c ≡ state_on old c

-- the state of a chunk in memory is set, and no other
pub record SetsState (old new : List ℕ) (chunk state : ℕ) : Type 0 where
  pub now : state_in new chunk ≡ state
  pub others : (c : ℕ) → c ≢ chunk → state_in new c ≡ state_in old c

-- the state of a chunk is written, and then kept in memory
pub record PutsState {T E : Type 0} (old : Areas) (memory : List ℕ) (chunk state : ℕ) (result : Result T E) (new : Areas) (memory_new : List ℕ) : Type 0 where
  pub place : new ≡ record old { disk = new.disk }
  pub len : length memory_new ≡ length memory
  pub goes : GoesOn old.disk result new.disk
  pub counted : OnOk result (new.disk.written ≡ counted old.disk.written 1)
  pub uncounted : OnErr result (new.disk.written ≡ old.disk.written)
  pub staged : IsTold old.disk → staged new ≡ staged old
  pub within : IsTold old.disk → ChangesWithin (live_from old + chunk / 2048) 1 old.disk.image new.disk.image
  pub done : IsTold old.disk → OnOk result (HasStates memory (live old) (live new) chunk state)
  pub failed : IsTold old.disk → OnErr result ((live new ≡ live old) ⊎ HasStates memory (live old) (live new) chunk state)
  pub set : OnOk result (SetsState memory memory_new chunk state)
  pub unset : OnErr result (memory_new ≡ memory)

-- blocks are read from the master's disk where they stand there alone, else from the shadow's
pub record ReadsOne {T E : Type 0} (alone : Bool) (master shadow : Seen) (at : ℕ) (out : List ℕ) (result : Result T E) (master_new shadow_new : Seen) : Type 0 where
  pub from_master : IsTrue alone → Reads master at out result master_new
  pub shadow_rest : IsTrue alone → shadow_new ≡ shadow
  pub from_shadow : IsTrue (not alone) → Reads shadow at out result shadow_new
  pub master_rest : IsTrue (not alone) → master_new ≡ master
