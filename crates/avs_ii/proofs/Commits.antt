-- What a write of a block makes of a state disk, and of a group.
use Rattle.std.proofs.Common.{◌≡◌, ◌⊎◌, inl, inr, ℕ, zero, suc, ◌+◌, ◌^◌, ◌%◌, ◌<◌, ◌≤◌, nat_lt, Bool, true, false, cond, eqb, ◌&&◌, IsTrue, All, List, [], ◌∷◌, ◌++◌, length, map, Option, None, Some, is_some, slice_index, Result, Ok, Err, OnErr, refl, sym, ◌∙◌, ap, subst, arith, OnOk}
use Rattle.std.specs.Bool.{⊤}
use Rattle.std.specs.List.{list_all, flat_map}
use Rattle.std.specs.Cmp.Lexicographic.{pointwise}
use Rattle.std.proofs.lemmas.Bool.{eqb-true, eq-eqb}
use Rattle.avs_seg.specs.Image.{Block, Image, block_at, blocks_of, put, IsMix}
use Rattle.avs_seg.proofs.Bytes.{blocks_of_one}
use Rattle.avs_seg.proofs.Puts.{put_one}
use Rattle.avs_seg.specs.Causes.{Rose}
use Rattle.avs_chunk.specs.ChunkSet.{disks_there}
use Rattle.avs_dev.specs.Seen.{Seen, IsTold, Writes, IsSpared}
use Rattle.avs_dev.specs.Below.{IsNoteTold, SetsNote}
use Rattle.avs_dev.specs.Devices.{HasOneCause}
use Rattle.avs_code.specs.Label.{IsLabel, label_block}
use Rattle.avs_code.specs.Slot.{SlotKeeps, SlotFits}
use Rattle.avs_code.specs.GroupBlock.{IsGroupBlock, GroupBlockKeeps, GroupBlockFits, group_block}
use Rattle.avs_code.specs.declared.slot_table.Slot.{Slot}
use Rattle.avs_code.specs.declared.group_blocks.GroupBlock.{GroupBlock}
use Rattle.avs_code.proofs.GroupBlocks.{group_block_at-is}
use Rattle.avs_ii.specs.Held.{HeldSet, IiDisks}
use Rattle.avs_ii.specs.Meaning.{kept_on}
use Rattle.avs_ii.specs.Kept.{IsKept}
use Rattle.avs_ii.specs.Sound.{state_label, IsSound, AreSound}
use Rattle.avs_ii.specs.AsBelow.{below_of, same_byte, is_spelled, stored_on, same_slot}
use Rattle.avs_ii.proofs.Several.{fell_cons, fell_same, rose_here, tear_here}
use Rattle.avs_ii.proofs.OpenSets.{lt_is, lt_true}
use Rattle.avs_ii.proofs.Making.{label_keeps, label_fits}
use Rattle.avs_ii.proofs.Belows.{as_group}

-- ---- slots that are the same

both : (a b : Bool) → (a && b) ≡ true → (a ≡ true) × (b ≡ true)
both true true t = (refl, refl)
both true false t = cc
both false b t = cc

same_slot-is : (a b : Slot) → same_slot a b ≡ true → a ≡ b
same_slot-is a b t =
    let four = both (eqb a.flags b.flags && eqb a.kind b.kind && eqb a.need b.need && eqb a.slots b.slots) (eqb a.stamp b.stamp) t in
    let three = both (eqb a.flags b.flags && eqb a.kind b.kind && eqb a.need b.need) (eqb a.slots b.slots) four.0 in
    let two = both (eqb a.flags b.flags && eqb a.kind b.kind) (eqb a.need b.need) three.0 in
    let one = both (eqb a.flags b.flags) (eqb a.kind b.kind) two.0 in
    λ i. record {
      flags = eqb-true a.flags b.flags one.0 i;
      kind = eqb-true a.kind b.kind one.1 i;
      need = eqb-true a.need b.need two.1 i;
      slots = eqb-true a.slots b.slots three.1 i;
      stamp = eqb-true a.stamp b.stamp four.1 i;
    }

slot-same : (a : Slot) → same_slot a a ≡ true
slot-same a = rw (eq-eqb a.flags a.flags refl, eq-eqb a.kind a.kind refl, eq-eqb a.need a.need refl, eq-eqb a.slots a.slots refl, eq-eqb a.stamp a.stamp refl) refl

pub same_slots : (a b : List Slot) → pointwise same_slot a b ≡ true → a ≡ b
same_slots [] [] t = refl
same_slots [] (y ∷ b) t = cc
same_slots (x ∷ a) [] t = cc
same_slots (x ∷ a) (y ∷ b) t =
    let p = both (same_slot x y) (pointwise same_slot a b) t in
    ap (λ (s : Slot). s ∷ a) (same_slot-is x y p.0) ∙ ap (λ (l : List Slot). y ∷ l) (same_slots a b p.1)

pub slots_same : (a : List Slot) → pointwise same_slot a a ≡ true
slots_same [] = refl
slots_same (x ∷ a) = ap (λ (t : Bool). t && pointwise same_slot a a) (slot-same x) ∙ slots_same a

-- ---- bytes

bytes_same : (l : List ℕ) → pointwise same_byte l l ≡ true
bytes_same [] = refl
bytes_same (x ∷ l) = ap (λ (t : Bool). t && pointwise same_byte l l) (eq-eqb x x refl) ∙ bytes_same l

same_bytes : (a b : List ℕ) → pointwise same_byte a b ≡ true → a ≡ b
same_bytes [] [] t = refl
same_bytes [] (y ∷ b) t = cc
same_bytes (x ∷ a) [] t = cc
same_bytes (x ∷ a) (y ∷ b) t =
    let p = both (eqb x y) (pointwise same_byte a b) t in
    ap (λ (n : ℕ). n ∷ a) (eqb-true x y p.0) ∙ ap (λ (l : List ℕ). y ∷ l) (same_bytes a b p.1)

are_small : (l : List ℕ) → ((i : ℕ) → slice_index l i < 256) → list_all (λ byte. nat_lt byte 256) l ≡ true
are_small [] small = refl
are_small (x ∷ l) small = ap (λ (t : Bool). t && list_all (λ byte. nat_lt byte 256) l) (lt_is x 256 (small 0)) ∙ are_small l (λ i. small (suc i))

small_at : (l : List ℕ) → list_all (λ byte. nat_lt byte 256) l ≡ true → (i : ℕ) → slice_index l i < 256
small_at [] t i = omega arith
small_at (x ∷ l) t zero = lt_true x 256 (both (nat_lt x 256) (list_all (λ byte. nat_lt byte 256) l) t).0
small_at (x ∷ l) t (suc i) = small_at l (both (nat_lt x 256) (list_all (λ byte. nat_lt byte 256) l) t).1 i

-- ---- what a state disk holds

and_true : (a b : Bool) → a ≡ true → b ≡ true → (a && b) ≡ true
and_true true b p q = q
and_true false b p q = cc

spelled_is : (slots : List Slot) (block : Block) (x : GroupBlock) → IsGroupBlock block x → x.slots ≡ slots → is_spelled slots block x ≡ true
spelled_is slots block x is same =
    and_true _ _ (and_true _ _ (and_true _ _ (and_true _ _ (and_true _ _
    (eq-eqb x.version 1 is.keeps.version)
    (lt_is x.sequence (2 ^ 64) is.fits.sequence))
    (subst (λ (l : List Slot). pointwise same_slot x.slots l ≡ true) same (slots_same x.slots)))
    (eq-eqb (length x.note) 64 is.fits.note_len))
    (are_small x.note is.fits.note))
    (subst (λ (l : List ℕ). pointwise same_byte block l ≡ true) is.spelled (bytes_same block))

-- the slots keep their rules, and fit
pub record SlotsKeep (slots : List Slot) : Type 0 where
  pub keep : All SlotKeeps slots
  pub fit : All SlotFits slots
  pub count : length slots ≡ 16

pub slots_keep : (block : GroupBlock) → GroupBlockKeeps block → GroupBlockFits block → SlotsKeep block.slots
slots_keep block keeps fits = record { keep = keeps.slots; fit = fits.slots; count = fits.slot_count }

record Spelled (slots : List Slot) (block : Block) (x : GroupBlock) : Type 0 where
  pub slots_are : x.slots ≡ slots
  pub is : IsGroupBlock block x

is_block : (slots : List Slot) (block : Block) (x : GroupBlock) → SlotsKeep slots → is_spelled slots block x ≡ true → Spelled slots block x
is_block slots block x of t =
    let five = both (eqb x.version 1 && nat_lt x.sequence (2 ^ 64) && pointwise same_slot x.slots slots && eqb (length x.note) 64 && list_all (λ byte. nat_lt byte 256) x.note) (pointwise same_byte block (group_block x)) t in
    let four = both (eqb x.version 1 && nat_lt x.sequence (2 ^ 64) && pointwise same_slot x.slots slots && eqb (length x.note) 64) (list_all (λ byte. nat_lt byte 256) x.note) five.0 in
    let three = both (eqb x.version 1 && nat_lt x.sequence (2 ^ 64) && pointwise same_slot x.slots slots) (eqb (length x.note) 64) four.0 in
    let two = both (eqb x.version 1 && nat_lt x.sequence (2 ^ 64)) (pointwise same_slot x.slots slots) three.0 in
    let one = both (eqb x.version 1) (nat_lt x.sequence (2 ^ 64)) two.0 in
    let slots' : x.slots ≡ slots = same_slots x.slots slots two.1 in
    record {
      slots_are = slots';
      is = record {
        keeps = record { version = eqb-true x.version 1 one.0; slots = subst (λ (l : List Slot). All SlotKeeps l) (sym slots') of.keep };
        fits = record {
          sequence = lt_true x.sequence (2 ^ 64) one.1;
          slot_count = ap (λ (l : List Slot). length l) slots' ∙ of.count;
          slots = subst (λ (l : List Slot). All SlotFits l) (sym slots') of.fit;
          note_len = eqb-true (length x.note) 64 three.1;
          note = small_at x.note four.1;
        };
        spelled = same_bytes block (group_block x) five.1;
      };
    }

-- the note on a state disk that has its label and holds a block
pub stored_is : (d : Seen) (block : GroupBlock) (slots : List Slot) → IsTold d → IsLabel (block_at d.image 0) state_label → IsGroupBlock (block_at d.image 1) block → block.slots ≡ slots → stored_on slots d ≡ Some block.note
stored_is d block slots told label holds is =
    ap (λ (x : GroupBlock). cond (eqb (length d.image) d.size && pointwise same_byte (block_at d.image 0) (label_block state_label) && is_spelled slots (block_at d.image 1) x) (Some x.note) None) (group_block_at-is (block_at d.image 1) block holds)
    ∙ ap (λ (t : Bool). cond t (Some block.note) None) (and_true _ _ (and_true _ _
    (eq-eqb (length d.image) d.size told)
    (subst (λ (l : List ℕ). pointwise same_byte (block_at d.image 0) l ≡ true) label.spelled (bytes_same (block_at d.image 0))))
    (spelled_is slots (block_at d.image 1) block holds is))

pub record Stored (slots : List Slot) (d : Seen) : Type 0 where
  pub told : IsTold d
  pub label : IsLabel (block_at d.image 0) state_label
  pub slots_are : (kept_on d).slots ≡ slots
  pub holds : IsGroupBlock (block_at d.image 1) (kept_on d)
  pub note_is : stored_on slots d ≡ Some (kept_on d).note

pub stored_some : (slots : List Slot) (d : Seen) → SlotsKeep slots → IsTrue (is_some (stored_on slots d)) → Stored slots d
stored_some slots d of some =
    let all = tests (eqb (length d.image) d.size && pointwise same_byte (block_at d.image 0) (label_block state_label) && is_spelled slots (block_at d.image 1) (kept_on d)) some in
    let two = both (eqb (length d.image) d.size && pointwise same_byte (block_at d.image 0) (label_block state_label)) (is_spelled slots (block_at d.image 1) (kept_on d)) all in
    let one = both (eqb (length d.image) d.size) (pointwise same_byte (block_at d.image 0) (label_block state_label)) two.0 in
    let spelled = is_block slots (block_at d.image 1) (kept_on d) of two.1 in
    record {
      told = eqb-true (length d.image) d.size one.0;
      label = record { keeps = label_keeps; fits = label_fits; spelled = same_bytes (block_at d.image 0) (label_block state_label) one.1 };
      slots_are = spelled.slots_are;
      holds = spelled.is;
      note_is = ap (λ (t : Bool). cond t (Some (kept_on d).note) None) all;
    }
  where
    tests : (t : Bool) → IsTrue (is_some (cond t (Some (kept_on d).note) None)) → t ≡ true
    tests true some = refl
    tests false some = cc

-- all disks but the state disk
abbrev others : List Seen → List HeldSet → List Seen
others V sets = V ++ flat_map (λ (s : HeldSet). disks_there s.chunks) sets

-- ---- the state disk

module _ (state state' : Seen) (next : GroupBlock) (room : 1 < state.size) (len : length (group_block next) ≡ 512) (is : IsGroupBlock (group_block next) next) where
  one_block : blocks_of (group_block next) ≡ group_block next ∷ []
  one_block = blocks_of_one (group_block next) len

  module _ {T E : Type 0} where
    now_ok : (x : T) → Writes {T = T} {E = E} state 1 (group_block next) (Ok x) state' → IsTold state → block_at state'.image 1 ≡ group_block next
    now_ok x w told = ap (λ (i : Image). block_at i 1) (w.done told ∙ ap (λ (bs : Image). put state.image 1 bs) one_block) ∙ put_one state.image 1 (group_block next) 1 refl (omega (arith, told, room))

    now_err : (f : E) → Writes {T = T} {E = E} state 1 (group_block next) (Err f) state' → IsTold state → (block_at state'.image 1 ≡ block_at state.image 1) ⊎ (block_at state'.image 1 ≡ group_block next)
    now_err f w told =
        let mix : IsMix state.image 1 (group_block next ∷ []) state'.image = subst (λ (bs : Image). IsMix state.image 1 bs state'.image) one_block (w.failed told) in
        mix.inside 1 (omega arith) (omega arith)

    -- the first block stays
    label_kept : (r : Result T E) → Writes state 1 (group_block next) r state' → IsTold state → block_at state'.image 0 ≡ block_at state.image 0
    label_kept r w told = (w.within told).outside 0 (inl (omega arith))

    still_labelled : (r : Result T E) → Writes state 1 (group_block next) r state' → IsTold state → IsLabel (block_at state.image 0) state_label → IsLabel (block_at state'.image 0) state_label
    still_labelled r w told label = subst (λ (b : Block). IsLabel b state_label) (sym (label_kept r w told)) label

  holds_next : block_at state'.image 1 ≡ group_block next → IsGroupBlock (block_at state'.image 1) next
  holds_next now = subst (λ (b : Block). IsGroupBlock b next) (sym now) is

  -- ---- the note

  module _ (block : GroupBlock) (V : List Seen) (sets : List HeldSet) (slots : next.slots ≡ block.slots) where
    abbrev k : IiDisks
    k = as_group state block V sets

    stored_before : IsNoteTold (below_of k) → Stored block.slots state
    stored_before told = stored_some block.slots state (subst (λ (l : List Slot). SlotsKeep l) slots (slots_keep next is.keeps is.fits)) told

    cause_ok : {T E : Type 0} (r : Result T E) → state.faults ≤ state'.faults → OnOk r (IsSpared state state') → OnErr r (Rose state.faults state'.faults) → HasOneCause (below_of k).faults (state'.faults ∷ map (λ (d : Seen). d.faults) (others V sets)) r
    cause_ok (Ok x) later spared c = record { later = fell_cons _ _ _ _ later (fell_same _); failed = tt; same = ap (λ (n : ℕ). n ∷ map (λ (d : Seen). d.faults) (others V sets)) spared.faults }
    cause_ok (Err f) later spared c = record { later = fell_cons _ _ _ _ later (fell_same _); failed = rose_here _ _ _ _ c; same = tt }

    steady_kept : state'.steady ≡ state.steady → list_all (λ (d : Seen). d.steady) (state' ∷ others V sets) ≡ list_all (λ (d : Seen). d.steady) (state ∷ others V sets)
    steady_kept same = ap (λ (t : Bool). t && list_all (λ (d : Seen). d.steady) (others V sets)) same

    first_steady : (a b : Bool) → IsTrue (a && b) → IsTrue a
    first_steady true b t = refl
    first_steady false b t = cc

    pub sets_note_ok : {T E : Type 0} (x : T) → Writes {T = T} {E = E} state 1 (group_block next) (Ok x) state' → SetsNote {T = T} {E = E} ⊤ (below_of k) next.note (Ok x) (below_of (as_group state' next V sets))
    sets_note_ok x w = record {
      images = λ _. refl;
      sizes = refl;
      steady = steady_kept w.steady;
      cause = cause_ok (Ok x) w.cause.later w.goes.done tt;
      done = refl;
      failed = tt;
      stored = λ told. stored told;
      left = λ told. tt;
      told = λ told. subst (λ (o : Option (List ℕ)). IsTrue (is_some o)) (sym (stored told)) refl;
      still_armed = ap (λ (t : Bool). t ∷ map (λ (d : Seen). d.armed) (others V sets)) w.still_armed;
      spent = λ steady. tt;
    }
      where
        stored : IsNoteTold (below_of k) → stored_on next.slots state' ≡ Some next.note
        stored told = let s = stored_before told in stored_is state' next next.slots (w.told s.told) (still_labelled (Ok x) w s.told s.label) (holds_next (now_ok x w s.told)) refl

    pub sound_note_ok : {T E : Type 0} (x : T) → Writes {T = T} {E = E} state 1 (group_block next) (Ok x) state' → IsSound k → IsSound (as_group state' next V sets)
    sound_note_ok x w sound =
        let told = sound.holds.told in
        record {
          holds = record { told = w.told told; label = still_labelled (Ok x) w told sound.holds.label; holds = holds_next (now_ok x w told) };
          disks = subst (λ (l : List Slot). AreSound l V sets) (sym slots) sound.disks;
        }

    pub sets_note_err : {T E T' E' : Type 0} (f : E) (f' : E') → Writes {T = T} {E = E} state 1 (group_block next) (Err f) state' → SetsNote {T = T'} {E = E'} ⊤ (below_of k) next.note (Err f') (below_of (as_group state' block V sets))
    sets_note_err {T' = T'} {E' = E'} f f' w = record {
      images = λ _. refl;
      sizes = refl;
      steady = steady_kept w.steady;
      cause = cause_ok (Err f') w.cause.later tt w.cause.failed;
      done = tt;
      failed = inl refl;
      stored = λ told. tt;
      left = λ told. left told;
      told = λ told. elim (left told) [
        | inl same ↦ subst (λ (o : Option (List ℕ)). IsTrue (is_some o)) (sym same) told
        | inr new ↦ subst (λ (o : Option (List ℕ)). IsTrue (is_some o)) (sym new) refl
      ];
      still_armed = tt;
      spent = λ steady. tear_here state state' _ _ (w.spent (first_steady state.steady _ steady)) refl;
    }
      where
        left : IsNoteTold (below_of k) → (stored_on block.slots state' ≡ stored_on block.slots state) ⊎ (stored_on block.slots state' ≡ Some next.note)
        left told =
            let s = stored_before told in
            let label = still_labelled (Err f) w s.told s.label in
            elim (now_err f w s.told) [
              | inl old ↦ inl (stored_is state' (kept_on state) block.slots (w.told s.told) label (subst (λ (b : Block). IsGroupBlock b (kept_on state)) (sym old) s.holds) s.slots_are ∙ sym s.note_is)
              | inr new ↦ inr (stored_is state' next block.slots (w.told s.told) label (holds_next new) slots)
            ]

-- ---- what a group keeps

pub kept_state : (state state' : Seen) (block : GroupBlock) (V : List Seen) (sets : List HeldSet) → state'.size ≡ state.size → IsKept state block V sets → IsKept state' block V sets
kept_state state state' block V sets size kept = record { room = omega (arith, kept.room, size); keeps = kept.keeps; fits = kept.fits; count = kept.count; held = kept.held }

-- the note changes, and the sequence
pub kept_note : (state state' : Seen) (block : GroupBlock) (V : List Seen) (sets : List HeldSet) (note : List ℕ) → state'.size ≡ state.size → length note ≡ 64 → ((i : ℕ) → slice_index note i < 256) → IsKept state block V sets → IsKept state' (record block { sequence = (block.sequence + 1) % (2 ^ 64); note = note }) V sets
kept_note state state' block V sets note size len bytes kept = record {
  room = omega (arith, kept.room, size);
  keeps = record { version = kept.keeps.version; slots = kept.keeps.slots };
  fits = record { sequence = omega arith; slot_count = kept.fits.slot_count; slots = kept.fits.slots; note_len = len; note = bytes };
  count = kept.count;
  held = kept.held;
}

pub is_next : (block : GroupBlock) → GroupBlockKeeps block → GroupBlockFits block → IsGroupBlock (group_block block) block
is_next block keeps fits = record { keeps = keeps; fits = fits; spelled = refl }
