-- How many chunks of a compact set are in a list, and lack a slot.
use Rattle.std.proofs.Common.{◌≡◌, ℕ, zero, suc, ◌+◌, ◌-◌, ◌*◌, ◌<◌, ◌≤◌, Bool, false, nat_lt, ◌&&◌, not, eqb, List, length, filter, Result, Ok, Err, IfOk, inl, inr, ◌∙◌, sym, refl, ap, arith}
use Rattle.std.specs.List.{range_with_len}
use Rattle.std.proofs.lemmas.Bool.{lt-ltb, cases_lt}
use Rattle.avs_bits.specs.Bit.{bit_of}
use Rattle.avs_model.specs.ShadowSets.{chunks_in}
use Rattle.avs_entries.specs.Entries.{state_by}
use Rattle.avs_entries.specs.Counting.{is_touched, count_of, is_in}
use Rattle.avs_compact.specs.CompactSet as compact
use Rattle.avs_compact.specs.CompactSet.{CompactSet, entry_of}
use Rattle.avs_compact.specs.Staging as staging
use Rattle.avs_chunks.specs.Staging.{told_by, part_end}
use Rattle.avs_held.specs.declared.held.Seat.{Seat}
use Rattle.avs_held.specs.Held.{compact_set}
use Rattle.avs_held.specs.Counting.{told_lacking}
use Rattle.avs_held.proofs.Told.{same_zero, in_map, past_map}
use Rattle.avs_held.proofs.Slotted.{AreFormed, memory_map}
use Rattle.avs_held.proofs.SlotCalls.{memory_state, filter_same}
use Rattle.avs_held.proofs.SlotAhead.{ahead_is}

-- in a state
pub state_count : (s : CompactSet) (state : ℕ) → AreFormed (entry_of s) (compact.chunks_of s)
    → chunks_in s.blocks (λ c. nat_lt c (compact.chunks_of s) && eqb ((memory_map s).state c) state) ≡ count_of (is_in state) (entry_of s) (compact.chunks_of s)
state_count s state form = filter_same (λ c. nat_lt c (compact.chunks_of s) && eqb ((memory_map s).state c) state) (λ c. eqb (state_by (entry_of s c)) state) 0 (compact.chunks_of s)
    (λ c low lt. let below : c < compact.chunks_of s = omega (arith, lt) in ap (λ (b : Bool). b && eqb ((memory_map s).state c) state) (lt-ltb c (compact.chunks_of s) below) ∙ ap (λ (k : ℕ). eqb k state) (memory_state s form c below))

-- with contents of their own
pub touched_count : (s : CompactSet) → chunks_in s.blocks (λ c. nat_lt c (compact.chunks_of s) && not (eqb ((memory_map s).state c) 0)) ≡ compact.need_of s
touched_count s = filter_same (λ c. nat_lt c (compact.chunks_of s) && not (eqb ((memory_map s).state c) 0)) (λ c. is_touched (entry_of s c)) 0 (compact.chunks_of s)
    (λ c low lt. let below : c < compact.chunks_of s = omega (arith, lt) in ap (λ (b : Bool). b && not (eqb ((memory_map s).state c) 0)) (lt-ltb c (compact.chunks_of s) below)
    ∙ ap (λ (b : Bool). not b) (ap (λ (k : ℕ). eqb k 0) (in_map s.own (compact.chunks_of s) (entry_of s) c below) ∙ same_zero (entry_of s c)))

-- none of a compact set is still to be copied to the shadow
pub none_left : (k : ℕ) → length (filter (λ (c : ℕ). false) (range_with_len 0 k)) ≡ 0
none_left k = filter_none 0 k
  where
    filter_none : (first n : ℕ) → length (filter (λ (c : ℕ). false) (range_with_len first n)) ≡ 0
    filter_none first zero = refl
    filter_none first (suc n) = filter_none (first + 1) n

-- told in a part, and without a slot
pub lacking_told : (seat : Seat) (s : CompactSet) (part : ℕ) (bits : List ℕ) → told_lacking (compact_set seat s) part bits ≡ staging.lacking_told bits part (entry_of s) (compact.chunks_of s)
lacking_told seat s part bits = filter_same _ _ (2048 * part) (part_end (compact.chunks_of s) part - 2048 * part)
    (λ c low high. ahead_is seat s (told_by bits part) c (inside c low high))
  where
    inside : (c : ℕ) → 2048 * part ≤ c → c < 2048 * part + (part_end (compact.chunks_of s) part - 2048 * part) → c < compact.chunks_of s
    inside c low high = omega (arith, low, high)

pub counted_as : {E : Type 0} (r : Result ℕ E) (a b : ℕ) → a ≡ b → IfOk r (λ n. n ≡ a) → IfOk r (λ n. n ≡ b)
counted_as (Ok n) a b is e = e ∙ is
counted_as (Err x) a b is e = tt

-- the bits of a part tell which chunks are split, and behind the last chunk none
pub tells_split : (s : CompactSet) (part : ℕ) (out : List ℕ) → AreFormed (entry_of s) (compact.chunks_of s) → ((i : ℕ) → i < 2048 → bit_of out i ≡ eqb (state_by (entry_of s (2048 * part + i))) 2)
    → ((i : ℕ) → compact.chunks_of s ≤ 2048 * part + i → bit_of out i ≡ false) → (i : ℕ) → i < 2048 → bit_of out i ≡ eqb ((memory_map s).state (2048 * part + i)) 2
tells_split s part out form bits behind i low = elim (cases_lt (2048 * part + i) (compact.chunks_of s)) [
  | inl lt ↦ bits i low ∙ ap (λ (k : ℕ). eqb k 2) (sym (memory_state s form (2048 * part + i) lt))
  | inr le ↦ behind i le ∙ ap (λ (k : ℕ). eqb k 2) (sym (past_map s.own (compact.chunks_of s) (entry_of s) (2048 * part + i) le))
]
