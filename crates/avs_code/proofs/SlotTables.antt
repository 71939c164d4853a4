-- Slots that are read from bytes.
use Rattle.std.proofs.Common.{◌≡◌, ℕ, ◌+◌, ◌<◌, ◌≤◌, ◌^◌, Bool, true, List, [], ◌∷◌, ◌++◌, length, get_or, take, drop, map, zero, suc, refl, sym, ◌∙◌, ap, subst, arith}
use Rattle.std.specs.Prelude.{nat_lt, nat_le, ◌&&◌, All}
use Rattle.std.specs.Bool.{Decides}
use Rattle.std.specs.List.{flat_map, list_all, range_with_len}
use Rattle.std.proofs.Math.Seq.{drop-append-add}
use Rattle.std.proofs.lemmas.Nat.{from_be_bytes-to_be_bytes_4, from_be_bytes-to_be_bytes_8}
use Rattle.std.proofs.lemmas.List.{append_assoc, append-nil, length-append, get_or-append-add}
use Rattle.std.proofs.lemmas.List.Elements.{All-nil, All-cons, All-head, All-tail}
use Rattle.std.proofs.lemmas.List.FromFn.{length-map-range_with_len}
use Rattle.std.proofs.lemmas.Bool.Decides.{Decides-and, Decides-ltb}
use Rattle.std.specs.Cmp.Derive.{both_true}
use Rattle.avs_code.specs.Bytes.{zeros, all_zero, u32_bytes, u64_bytes, u32_at, u64_at}
use Rattle.avs_code.specs.Slot.{slot_bytes, slot_at, slot_holds, slot_keeps_rules, slot_place, slots_at, slots_hold, SlotKeeps, SlotFits}
use Rattle.avs_code.specs.declared.slot_table.Slot.{Slot}
use Rattle.avs_code.proofs.Ruled.{both, Decides-leb}
use Rattle.avs_code.proofs.Numbers.{front-u32, front-u64, front-gap, front-byte, front_at}
use Rattle.avs_code.proofs.SlotBytes.{length-slot_bytes}

slot_rules_decide : (s : Slot) → Decides (slot_keeps_rules s) ((s.flags < 32) × (s.kind ≤ 3) × (s.stamp ≤ 2 ^ 62))
slot_rules_decide s =
    let all = Decides-and (nat_lt s.flags 32 && nat_le s.kind 3) (nat_le s.stamp (2 ^ 62)) (Decides-and (nat_lt s.flags 32) (nat_le s.kind 3) (Decides-ltb s.flags 32) (Decides-leb s.kind 3)) (Decides-leb s.stamp (2 ^ 62)) in
    (λ holds. ((all.0 holds).0.0, (all.0 holds).0.1, (all.0 holds).1), λ is. all.1 ((is.0, is.1), is.2))

-- bytes that begin as xs does, and the slot that xs goes on with
pub front-slot : (front xs : List ℕ) (at : ℕ) → front ≡ take at xs → at + 24 ≤ length xs → ((i : ℕ) → get_or xs i 0 < 256) → slot_holds at xs ≡ true → front ++ slot_bytes (slot_at at xs) ≡ take (at + 24) xs
unfolding slot_bytes
front-slot front xs at same within bytes holds =
    let s : Slot = slot_at at xs in
    let first : Bool = all_zero (take 2 (drop (at + 2) xs)) in
    let last : Bool = all_zero (take 4 (drop (at + 20) xs)) in
    let gaps = both first last (both (first && last) (slot_keeps_rules s) holds).0 in
    let f1 = front-byte front xs at same (omega arith) in
    let f2 = front_at _ xs (at + 1 + 1) (at + 2) (omega arith) (front-byte _ xs (at + 1) f1 (omega arith)) in
    let f3 = front_at _ xs (at + 2 + 2) (at + 4) (omega arith) (front-gap _ xs (at + 2) 2 f2 (omega arith) gaps.0) in
    let f4 = front_at _ xs (at + 4 + 4) (at + 8) (omega arith) (front-u32 _ xs (at + 4) f3 (omega arith) bytes) in
    let f5 = front_at _ xs (at + 8 + 4) (at + 12) (omega arith) (front-u32 _ xs (at + 8) f4 (omega arith) bytes) in
    let f6 = front_at _ xs (at + 12 + 8) (at + 20) (omega arith) (front-u64 _ xs (at + 12) f5 (omega arith) bytes) in
    let f7 = front_at _ xs (at + 20 + 4) (at + 24) (omega arith) (front-gap _ xs (at + 20) 4 f6 (omega arith) gaps.1) in
    let regroup : front ++ (s.flags ∷ s.kind ∷ [] ++ zeros 2 ++ u32_bytes s.need ++ u32_bytes s.slots ++ u64_bytes s.stamp ++ zeros 4) ≡ ((((((front ++ s.flags ∷ []) ++ s.kind ∷ []) ++ zeros 2) ++ u32_bytes s.need) ++ u32_bytes s.slots) ++ u64_bytes s.stamp) ++ zeros 4 = simp append_assoc in
    regroup ∙ f7

-- the numbers behind a front
u32_at-behind : (front ys : List ℕ) (at i : ℕ) → length front ≡ at → u32_at (at + i) (front ++ ys) ≡ u32_at i ys
unfolding u32_at
u32_at-behind front ys at i place = rw (← place, drop-append-add front ys i) refl

u64_at-behind : (front ys : List ℕ) (at i : ℕ) → length front ≡ at → u64_at (at + i) (front ++ ys) ≡ u64_at i ys
unfolding u64_at
u64_at-behind front ys at i place = rw (← place, drop-append-add front ys i) refl

-- the slot whose bytes stand first
slot_at-slot_bytes : (s : Slot) (rest : List ℕ) → SlotKeeps s → SlotFits s → slot_at 0 (slot_bytes s ++ rest) ≡ s
unfolding slot_bytes zeros u32_bytes u64_bytes u32_at u64_at
slot_at-slot_bytes s rest keeps fits =
    let need : u32_at 4 (slot_bytes s ++ rest) ≡ s.need = from_be_bytes-to_be_bytes_4 s.need fits.need in
    let slots : u32_at 8 (slot_bytes s ++ rest) ≡ s.slots = from_be_bytes-to_be_bytes_4 s.slots fits.slots in
    let stamp : u64_at 12 (slot_bytes s ++ rest) ≡ s.stamp = from_be_bytes-to_be_bytes_8 s.stamp (omega (arith, keeps.stamp)) in
    rw (need, slots, stamp) refl

slot_at-behind : (front ys : List ℕ) (at : ℕ) → length front ≡ at → slot_at at (front ++ ys) ≡ slot_at 0 ys
slot_at-behind front ys at place =
    let flags : get_or (front ++ ys) at 0 ≡ get_or ys 0 0 = ap (λ (i : ℕ). get_or (front ++ ys) i 0) (omega arith) ∙ get_or-append-add front ys 0 0 in
    let kind : get_or (front ++ ys) (at + 1) 0 ≡ get_or ys 1 0 = ap (λ (i : ℕ). get_or (front ++ ys) i 0) (omega arith) ∙ get_or-append-add front ys 1 0 in
    rw (flags, kind, u32_at-behind front ys at 4 place, u32_at-behind front ys at 8 place, u64_at-behind front ys at 12 place) refl

-- the bytes between its fields
first_gap : (s : Slot) (rest : List ℕ) → all_zero (take 2 (drop 2 (slot_bytes s ++ rest))) ≡ true
unfolding slot_bytes zeros
first_gap s rest = refl

last_gap : (s : Slot) (rest : List ℕ) → all_zero (take 4 (drop 20 (slot_bytes s ++ rest))) ≡ true
unfolding slot_bytes zeros u32_bytes u64_bytes
last_gap s rest = refl

-- and it keeps its rules
slot_holds-slot_bytes : (s : Slot) (front rest : List ℕ) (at : ℕ) → length front ≡ at → SlotKeeps s → SlotFits s → slot_holds at (front ++ (slot_bytes s ++ rest)) ≡ true
slot_holds-slot_bytes s front rest at place keeps fits =
    let ys : List ℕ = slot_bytes s ++ rest in
    let slot : slot_at at (front ++ ys) ≡ s = slot_at-behind front ys at place ∙ slot_at-slot_bytes s rest keeps fits in
    let skip : (i : ℕ) → drop (at + i) (front ++ ys) ≡ drop i ys = λ i. rw (← place) (drop-append-add front ys i) in
    let first : all_zero (take 2 (drop (at + 2) (front ++ ys))) ≡ true = rw (skip 2) (first_gap s rest) in
    let last : all_zero (take 4 (drop (at + 20) (front ++ ys))) ≡ true = rw (skip 20) (last_gap s rest) in
    let rules : slot_keeps_rules (slot_at at (front ++ ys)) ≡ true = ap slot_keeps_rules slot ∙ (slot_rules_decide s).1 (keeps.flags, keeps.kind, keeps.stamp) in
    both_true (both_true first last) rules

-- bytes that begin as xs does, and n slots that xs goes on with
pub front-slots : (front xs : List ℕ) (k n : ℕ) → front ≡ take (slot_place k) xs → slot_place (k + n) ≤ length xs → ((i : ℕ) → get_or xs i 0 < 256) → list_all (λ i. slot_holds (slot_place i) xs) (range_with_len k n) ≡ true → front ++ flat_map slot_bytes (map (λ i. slot_at (slot_place i) xs) (range_with_len k n)) ≡ take (slot_place (k + n)) xs
front-slots front xs k zero same within bytes all = append-nil front ∙ front_at front xs (slot_place k) (slot_place (k + zero)) (omega arith) same
front-slots front xs k (suc n) same within bytes all =
    let s : Slot = slot_at (slot_place k) xs in
    let others : List Slot = map (λ i. slot_at (slot_place i) xs) (range_with_len (k + 1) n) in
    let hold = both (slot_holds (slot_place k) xs) (list_all (λ i. slot_holds (slot_place i) xs) (range_with_len (k + 1) n)) all in
    let one = front_at _ xs (slot_place k + 24) (slot_place (k + 1)) (omega arith) (front-slot front xs (slot_place k) same (omega arith) bytes hold.0) in
    let more = front-slots (front ++ slot_bytes s) xs (k + 1) n one (omega arith) bytes hold.1 in
    sym (append_assoc front (slot_bytes s) (flat_map slot_bytes others)) ∙ front_at _ xs (slot_place (k + 1 + n)) (slot_place (k + suc n)) (omega arith) more

-- the slots whose bytes stand one after another behind a front
pub slots_behind : (front rest : List ℕ) (ss : List Slot) (k : ℕ) → length front ≡ slot_place k → All SlotKeeps ss → All SlotFits ss → map (λ i. slot_at (slot_place i) ((front ++ flat_map slot_bytes ss) ++ rest)) (range_with_len k (length ss)) ≡ ss
slots_behind front rest [] k place keep fit = refl
slots_behind front rest (s ∷ ss) k place keep fit =
    let flat : List ℕ = flat_map slot_bytes ss in
    let block : List ℕ = (front ++ (slot_bytes s ++ flat)) ++ rest in
    let first : block ≡ front ++ (slot_bytes s ++ (flat ++ rest)) = simp append_assoc in
    let again : ((front ++ slot_bytes s) ++ flat) ++ rest ≡ block = simp append_assoc in
    let head : slot_at (slot_place k) block ≡ s =
    ap (slot_at (slot_place k)) first ∙ slot_at-behind front (slot_bytes s ++ (flat ++ rest)) (slot_place k) place ∙ slot_at-slot_bytes s (flat ++ rest) (All-head SlotKeeps s ss keep) (All-head SlotFits s ss fit) in
    let next : length (front ++ slot_bytes s) ≡ slot_place (k + 1) = omega (arith, length-append front (slot_bytes s), length-slot_bytes s) in
    let tail = slots_behind (front ++ slot_bytes s) rest ss (k + 1) next (All-tail SlotKeeps s ss keep) (All-tail SlotFits s ss fit) in
    let tail' : map (λ i. slot_at (slot_place i) block) (range_with_len (k + 1) (length ss)) ≡ ss =
    subst (λ b. map (λ i. slot_at (slot_place i) b) (range_with_len (k + 1) (length ss)) ≡ ss) again tail in
    rw (head, tail') refl

-- and each keeps its rules
pub slots_hold-behind : (front rest : List ℕ) (ss : List Slot) (k : ℕ) → length front ≡ slot_place k → All SlotKeeps ss → All SlotFits ss → list_all (λ i. slot_holds (slot_place i) ((front ++ flat_map slot_bytes ss) ++ rest)) (range_with_len k (length ss)) ≡ true
slots_hold-behind front rest [] k place keep fit = refl
slots_hold-behind front rest (s ∷ ss) k place keep fit =
    let flat : List ℕ = flat_map slot_bytes ss in
    let block : List ℕ = (front ++ (slot_bytes s ++ flat)) ++ rest in
    let first : block ≡ front ++ (slot_bytes s ++ (flat ++ rest)) = simp append_assoc in
    let again : ((front ++ slot_bytes s) ++ flat) ++ rest ≡ block = simp append_assoc in
    let head : slot_holds (slot_place k) block ≡ true =
    ap (slot_holds (slot_place k)) first ∙ slot_holds-slot_bytes s front (flat ++ rest) (slot_place k) place (All-head SlotKeeps s ss keep) (All-head SlotFits s ss fit) in
    let next : length (front ++ slot_bytes s) ≡ slot_place (k + 1) = omega (arith, length-append front (slot_bytes s), length-slot_bytes s) in
    let tail = slots_hold-behind (front ++ slot_bytes s) rest ss (k + 1) next (All-tail SlotKeeps s ss keep) (All-tail SlotFits s ss fit) in
    both_true head (subst (λ b. list_all (λ i. slot_holds (slot_place i) b) (range_with_len (k + 1) (length ss)) ≡ true) again tail)

pub slots_count : (block : List ℕ) → length (slots_at block) ≡ 16
unfolding slots_at
slots_count block = length-map-range_with_len (λ i. slot_at (slot_place i) block) 0 16

-- the slots of a block in which each keeps its rules
slots_keep_from : (block : List ℕ) (k n : ℕ) → list_all (λ i. slot_holds (slot_place i) block) (range_with_len k n) ≡ true → All SlotKeeps (map (λ i. slot_at (slot_place i) block) (range_with_len k n))
slots_keep_from block k zero all = All-nil SlotKeeps
slots_keep_from block k (suc n) all =
    let s : Slot = slot_at (slot_place k) block in
    let hold = both (slot_holds (slot_place k) block) (list_all (λ i. slot_holds (slot_place i) block) (range_with_len (k + 1) n)) all in
    let gaps : Bool = all_zero (take 2 (drop (slot_place k + 2) block)) && all_zero (take 4 (drop (slot_place k + 20) block)) in
    let rules = (slot_rules_decide s).0 (both gaps (slot_keeps_rules s) hold.0).1 in
    All-cons SlotKeeps s _ (record { flags = rules.0; kind = rules.1; stamp = rules.2 }) (slots_keep_from block (k + 1) n hold.1)

pub slots_keep : (block : List ℕ) → slots_hold block ≡ true → All SlotKeeps (slots_at block)
unfolding slots_at slots_hold
slots_keep block hold = slots_keep_from block 0 16 hold

-- what lies in a block are the slots whose bytes stand there
pub slots_at-behind : (block front rest : List ℕ) (ss : List Slot) → block ≡ (front ++ flat_map slot_bytes ss) ++ rest → length front ≡ 16 → length ss ≡ 16 → All SlotKeeps ss → All SlotFits ss → slots_at block ≡ ss
unfolding slots_at
slots_at-behind block front rest ss is place count keep fit =
    let slots : List ℕ → ℕ → List Slot = λ b n. map (λ i. slot_at (slot_place i) b) (range_with_len 0 n) in
    let there : slots block (length ss) ≡ ss = subst (λ b. slots b (length ss) ≡ ss) (sym is) (slots_behind front rest ss 0 place keep fit) in
    subst (λ n. slots block n ≡ ss) count there

pub slots_hold-there : (block front rest : List ℕ) (ss : List Slot) → block ≡ (front ++ flat_map slot_bytes ss) ++ rest → length front ≡ 16 → length ss ≡ 16 → All SlotKeeps ss → All SlotFits ss → slots_hold block ≡ true
unfolding slots_hold
slots_hold-there block front rest ss is place count keep fit =
    let hold : List ℕ → ℕ → Bool = λ b n. list_all (λ i. slot_holds (slot_place i) b) (range_with_len 0 n) in
    let there : hold block (length ss) ≡ true = subst (λ b. hold b (length ss) ≡ true) (sym is) (slots_hold-behind front rest ss 0 place keep fit) in
    subst (λ n. hold block n ≡ true) count there
