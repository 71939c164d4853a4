-- A group's state and its block.
use Rattle.std.proofs.Common.{◌≡◌, ℕ, ◌*◌, ◌<◌, true, List, ◌++◌, length, get_or, take, drop, refl, sym, ◌∙◌, ap, arith}
use Rattle.std.specs.Prelude.{nat_eq, codes, ◌==◌, None}
use Rattle.std.specs.List.{starts_with, flat_map}
use Rattle.std.proofs.Math.Seq.{take-add}
use Rattle.std.proofs.lemmas.Bool.Decides.{Decides-eqb}
use Rattle.std.proofs.lemmas.Nat.{from_be_bytes-to_be_bytes_4, from_be_bytes-to_be_bytes_8}
use Rattle.std.proofs.lemmas.List.{append_assoc, length-append, take_at, drop_at}
use Rattle.avs_seg.specs.Image.{Block}
use Rattle.avs_code.specs.Bytes.{zeros, all_zero, u32_bytes, u64_bytes, u32_at, u64_at}
use Rattle.avs_code.specs.Rules.{first_broken}
use Rattle.avs_code.specs.Slot.{slot_bytes, slots_at, slots_hold}
use Rattle.avs_code.specs.GroupBlock.{group_block, group_block_at, group_block_rules, GroupBlockKeeps, GroupBlockFits, IsGroupBlock}
use Rattle.avs_code.specs.declared.group_blocks.GroupBlock.{GroupBlock}
use Rattle.avs_code.proofs.Ruled.{first_broken-None, first_broken-all}
use Rattle.avs_code.proofs.Numbers.{front-u32, front-u64, front-zeros, front-magic, all_zero-zeros, u64_at-fits, length-u32_bytes, length-u64_bytes, part_bytes, length_part, Begins, written}
use Rattle.avs_code.proofs.SlotBytes.{length-flat_map-slot_bytes, slots_at-fit}
use Rattle.avs_code.proofs.SlotTables.{front-slots, slots_at-behind, slots_hold-there, slots_count, slots_keep}

-- what is written field by field is the block
pub group_block-written : (x : GroupBlock) (b0 b1 b2 b3 b4 : Block) → GroupBlockFits x → b0 ≡ codes "AVSG" ++ zeros 508 → b1 ≡ (take 4 b0 ++ u32_bytes x.version) ++ drop 8 b0 → b2 ≡ (take 8 b1 ++ u64_bytes x.sequence) ++ drop 16 b1 → b3 ≡ (take 16 b2 ++ flat_map slot_bytes x.slots) ++ drop 400 b2 → b4 ≡ (take 400 b3 ++ x.note) ++ drop 464 b3 → b4 ≡ group_block x
unfolding group_block
group_block-written x b0 b1 b2 b3 b4 fits e0 e1 e2 e3 e4 =
    let slots : length (flat_map slot_bytes x.slots) ≡ 384 = length-flat_map-slot_bytes x.slots ∙ ap (λ (n : ℕ). 24 * n) fits.slot_count in
    let f0 : Begins b0 (codes "AVSG") 4 508 = record { bytes = e0; place = refl } in
    let f1 = written b1 (u32_bytes x.version) 4 4 504 f0 (length-u32_bytes _) e1 in
    let f2 = written b2 (u64_bytes x.sequence) 8 8 496 f1 (length-u64_bytes _) e2 in
    let f3 = written b3 (flat_map slot_bytes x.slots) 16 384 112 f2 slots e3 in
    let f4 = written b4 x.note 400 64 48 f3 fits.note_len e4 in
    f4.bytes

-- the bytes in front of the slots, and up to the note
module _ (x : GroupBlock) (keeps : GroupBlockKeeps x) (fits : GroupBlockFits x) where
  front : List ℕ
  front = codes "AVSG" ++ u32_bytes x.version ++ u64_bytes x.sequence

  front_len : length front ≡ 16
  unfolding u32_bytes u64_bytes front
  front_len = refl

  spelled_front : group_block x ≡ (front ++ flat_map slot_bytes x.slots) ++ (x.note ++ zeros 48)
  unfolding group_block front
  spelled_front = simp append_assoc

  to_note : length (front ++ flat_map slot_bytes x.slots) ≡ 400
  to_note = omega (arith, length-append front (flat_map slot_bytes x.slots), front_len, length-flat_map-slot_bytes x.slots, fits.slot_count)

  version_at : u32_at 4 (group_block x) ≡ x.version
  unfolding u32_bytes u64_bytes u32_at group_block
  version_at = from_be_bytes-to_be_bytes_4 x.version (omega (arith, keeps.version))

  sequence_at : u64_at 8 (group_block x) ≡ x.sequence
  unfolding u32_bytes u64_bytes u64_at group_block
  sequence_at = from_be_bytes-to_be_bytes_8 x.sequence fits.sequence

  slots_at-group_block : slots_at (group_block x) ≡ x.slots
  slots_at-group_block = slots_at-behind (group_block x) front (x.note ++ zeros 48) x.slots spelled_front front_len fits.slot_count keeps.slots fits.slots

  slots_hold-group_block : slots_hold (group_block x) ≡ true
  slots_hold-group_block = slots_hold-there (group_block x) front (x.note ++ zeros 48) x.slots spelled_front front_len fits.slot_count keeps.slots fits.slots

  note_at : take 64 (drop 400 (group_block x)) ≡ x.note
  note_at =
      let behind : drop 400 (group_block x) ≡ x.note ++ zeros 48 = ap (drop 400) spelled_front ∙ drop_at (front ++ flat_map slot_bytes x.slots) (x.note ++ zeros 48) 400 to_note in
      ap (take 64) behind ∙ take_at x.note (zeros 48) 64 fits.note_len

  rest_at : drop 464 (group_block x) ≡ zeros 48
  unfolding group_block front
  rest_at =
      let before : List ℕ = front ++ flat_map slot_bytes x.slots ++ x.note in
      drop_at before (zeros 48) 464 (omega (arith, length-append (front ++ flat_map slot_bytes x.slots) x.note, to_note, fits.note_len))

  magic_at : starts_with nat_eq (group_block x) (codes "AVSG") ≡ true
  unfolding group_block
  magic_at = refl

  group_block_at-group_block : group_block_at (group_block x) ≡ x
  group_block_at-group_block = rw (version_at, sequence_at, slots_at-group_block, note_at) refl

pub group_block_at-is : (block : Block) (x : GroupBlock) → IsGroupBlock block x → group_block_at block ≡ x
group_block_at-is block x is = ap group_block_at is.spelled ∙ group_block_at-group_block x is.keeps is.fits

-- where the block stands for a state every rule holds
pub rules-is_group_block : (block : Block) (x : GroupBlock) → IsGroupBlock block x → first_broken (group_block_rules block) ≡ None
rules-is_group_block block x is =
    let magic : starts_with nat_eq block (codes "AVSG") ≡ true = rw is.spelled (magic_at x is.keeps is.fits) in
    let version : (u32_at 4 block == 1) ≡ true = rw is.spelled ((Decides-eqb (u32_at 4 (group_block x)) 1).1 (version_at x is.keeps is.fits ∙ is.keeps.version)) in
    let slots : slots_hold block ≡ true = rw is.spelled (slots_hold-group_block x is.keeps is.fits) in
    let rest : all_zero (drop 464 block) ≡ true = rw is.spelled (ap all_zero (rest_at x is.keeps is.fits) ∙ all_zero-zeros 48) in
    first_broken-all (group_block_rules block) (magic, (version, (refl, (slots, (refl, (rest, tt))))))

-- the block of the fields that lie in a block
group_block-group_block_at : (block : Block) → length block ≡ 512 → ((i : ℕ) → get_or block i 0 < 256) → starts_with nat_eq block (codes "AVSG") ≡ true → slots_hold block ≡ true → all_zero (drop 464 block) ≡ true → block ≡ group_block (group_block_at block)
unfolding group_block slots_at slots_hold
group_block-group_block_at block len bytes magic hold zero =
    let f0 = front-magic block (codes "AVSG") magic in
    let f1 = front-u32 _ block 4 f0 (omega arith) bytes in
    let f2 = front-u64 _ block 8 f1 (omega arith) bytes in
    let f3 = front-slots _ block 0 16 f2 (omega arith) bytes hold in
    let f4 = ap (λ (p : List ℕ). p ++ take 64 (drop 400 block)) f3 ∙ sym (take-add 400 64 block) in
    sym (front-zeros _ block 464 48 f4 zero len)

-- where every rule holds the block stands for the fields that lie in it
pub is_group_block : (block : Block) → length block ≡ 512 → ((i : ℕ) → get_or block i 0 < 256) → first_broken (group_block_rules block) ≡ None → IsGroupBlock block (group_block_at block)
is_group_block block len bytes none =
    let hold = first_broken-None (group_block_rules block) none in
    record {
      keeps = record { version = (Decides-eqb (u32_at 4 block) 1).0 hold.1.0; slots = slots_keep block hold.1.1.1.0 };
      fits = record {
        sequence = u64_at-fits block 8 bytes;
        slot_count = slots_count block;
        slots = slots_at-fit block bytes;
        note_len = length_part block 400 64 (omega arith);
        note = part_bytes block 400 64 bytes;
      };
      spelled = group_block-group_block_at block len bytes hold.0 hold.1.1.1.0 hold.1.1.1.1.1.0;
    }
