-- Slots and their bytes.
use Rattle.std.proofs.Common.{◌≡◌, ℕ, ◌+◌, ◌*◌, ◌<◌, ◌≤◌, List, [], ◌∷◌, ◌++◌, length, get_or, take, drop, refl, sym, ◌∙◌, ap, arith}
use Rattle.std.specs.Prelude.{All}
use Rattle.std.specs.List.{flat_map, range_with_len}
use Rattle.std.proofs.Math.Seq.{drop-append-add}
use Rattle.std.proofs.lemmas.List.{length-append, length-take-le, take_at, drop-drop, take_more, flat_map_more}
use Rattle.std.proofs.lemmas.List.Elements.{All-map}
use Rattle.std.proofs.lemmas.List.FromFn.{fill_by_all}
use Rattle.avs_seg.specs.Image.{Block}
use Rattle.avs_code.specs.Bytes.{zeros, u32_bytes, u64_bytes}
use Rattle.avs_code.specs.Slot.{slot_bytes, slot_at, slot_place, slots_at, SlotFits, no_slot}
use Rattle.avs_code.specs.declared.slot_table.Slot.{Slot}
use Rattle.avs_code.proofs.Numbers.{u32_at-fits}

pub length-slot_bytes : (s : Slot) → length (slot_bytes s) ≡ 24
unfolding slot_bytes zeros u32_bytes u64_bytes
length-slot_bytes s = refl

pub length-flat_map-slot_bytes : (ss : List Slot) → length (flat_map slot_bytes ss) ≡ 24 * length ss
length-flat_map-slot_bytes [] = refl
length-flat_map-slot_bytes (s ∷ ss) =
    let first = length-slot_bytes s in
    let rest = length-flat_map-slot_bytes ss in
    omega (arith, length-append (slot_bytes s) (flat_map slot_bytes ss))

-- bytes that are written over the first of those that follow a front
pub written_over : (out old front more : List ℕ) (at k : ℕ) → out ≡ front ++ drop at old → length front ≡ at → (take at out ++ more) ++ drop (at + k) out ≡ (front ++ more) ++ drop (at + k) old
written_over out old front more at k is place =
    let head : take at out ≡ front = rw is (take_at front (drop at old) at place) in
    let skip : drop (at + k) (front ++ drop at old) ≡ drop k (drop at old) = rw (← place) (drop-append-add front (drop (length front) old) k) in
    let tail : drop (at + k) out ≡ drop (at + k) old = rw is (skip ∙ drop-drop k at old) in
    rw (head, tail) refl

-- one slot more
pub slots_more : (old out new part : List ℕ) (ss : List Slot) (i : ℕ) → length ss ≡ 16 → i < 16 → 16 ≤ length old → part ≡ slot_bytes (get_or ss i no_slot) → out ≡ (take 16 old ++ flat_map slot_bytes (take i ss)) ++ drop (16 + 24 * i) old → new ≡ (take (16 + 24 * i) out ++ part) ++ drop (16 + 24 * i + length part) out → new ≡ (take 16 old ++ flat_map slot_bytes (take (i + 1) ss)) ++ drop (16 + 24 * (i + 1)) old
slots_more old out new part ss i count below room slot so_far is =
    let s : Slot = get_or ss i no_slot in
    let front : List ℕ = take 16 old ++ flat_map slot_bytes (take i ss) in
    let place : length front ≡ 16 + 24 * i =
    omega (arith, length-append (take 16 old) (flat_map slot_bytes (take i ss)), length-take-le 16 old room, length-flat_map-slot_bytes (take i ss), length-take-le i ss (omega arith)) in
    let now = is ∙ written_over out old front part (16 + 24 * i) (length part) so_far place in
    let slots : take (i + 1) ss ≡ take i ss ++ s ∷ [] = take_more ss i no_slot (omega arith) in
    let behind : 16 + 24 * i + length part ≡ 16 + 24 * (i + 1) = omega (arith, ap length slot, length-slot_bytes s) in
    let bytes : (take 16 old ++ flat_map slot_bytes (take i ss)) ++ part ≡ take 16 old ++ flat_map slot_bytes (take (i + 1) ss) =
    ap (λ (p : List ℕ). front ++ p) slot ∙ flat_map_more slot_bytes (take 16 old) (take i ss) s ∙ ap (λ (xs : List Slot). take 16 old ++ flat_map slot_bytes xs) (sym slots) in
    now ∙ ap (λ (p : List ℕ). p ++ drop (16 + 24 * i + length part) old) bytes ∙ ap (λ (n : ℕ). (take 16 old ++ flat_map slot_bytes (take (i + 1) ss)) ++ drop n old) behind

-- every slot that lies in bytes fits
pub slot_at-fits : (block : Block) (at : ℕ) → ((i : ℕ) → get_or block i 0 < 256) → SlotFits (slot_at at block)
slot_at-fits block at bytes = record { need = u32_at-fits block (at + 4) bytes; slots = u32_at-fits block (at + 8) bytes }

-- a list that holds each slot of a block
pub slots_at-filled : (block : Block) (items : List Slot) (n : ℕ) → 16 ≤ n → length items ≡ 16 → ((k : ℕ) → k < n → get_or items k no_slot ≡ slot_at (slot_place k) block) → items ≡ slots_at block
unfolding slots_at
slots_at-filled block items n all count each = fill_by_all (λ i. slot_at (slot_place i) block) items 16 no_slot count (λ k below. each k (omega arith))

pub slots_at-fit : (block : Block) → ((i : ℕ) → get_or block i 0 < 256) → All SlotFits (slots_at block)
unfolding slots_at
slots_at-fit block bytes = All-map SlotFits (λ i. slot_at (slot_place i) block) (range_with_len 0 16) (λ k d below. slot_at-fits block (slot_place (get_or (range_with_len 0 16) k d)) bytes)
