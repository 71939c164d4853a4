-- A configuration's header and its block.
use Rattle.std.proofs.Common.{◌≡◌, ℕ, ◌*◌, ◌<◌, true, length, get_or, take, drop, refl, sym, ◌∙◌, ap, subst, arith}
use Rattle.std.specs.Prelude.{nat_eq, codes, ◌++◌, None}
use Rattle.std.specs.List.{starts_with}
use Rattle.std.proofs.lemmas.Bool.Decides.{Decides-eqb}
use Rattle.std.proofs.lemmas.Nat.{from_be_bytes-to_be_bytes_4, from_be_bytes-to_be_bytes_8}
use Rattle.avs_seg.specs.Image.{Block}
use Rattle.avs_code.specs.Bytes.{zeros, all_zero, u32_bytes, u64_bytes, u32_at, u64_at}
use Rattle.avs_code.specs.Rules.{first_broken}
use Rattle.avs_code.specs.ConfigHeader.{config_header_block, config_header_at, config_field_rules, config_header_rules, ConfigHeaderKeeps, ConfigHeaderFits, IsConfigHeader}
use Rattle.avs_code.specs.declared.config_headers.ConfigHeader.{ConfigHeader}
use Rattle.avs_code.proofs.Ruled.{AllHold, first_broken-None, first_broken-all, Decides-leb}
use Rattle.avs_code.proofs.Numbers.{front-u32, front-u64, front-zeros, front-magic, all_zero-zeros, u64_at-fits, length-u32_bytes, length-u64_bytes, Begins, written}

-- what is written field by field is the block
pub config_header_block-written : (x : ConfigHeader) (b0 b1 b2 b3 b4 : Block) → b0 ≡ codes "AVSC" ++ zeros 508 → b1 ≡ (take 4 b0 ++ u32_bytes x.version) ++ drop 8 b0 → b2 ≡ (take 8 b1 ++ u64_bytes x.sequence) ++ drop 16 b1 → b3 ≡ (take 16 b2 ++ u32_bytes x.area) ++ drop 20 b2 → b4 ≡ (take 20 b3 ++ u32_bytes x.bytes) ++ drop 24 b3 → b4 ≡ config_header_block x
unfolding config_header_block
config_header_block-written x b0 b1 b2 b3 b4 e0 e1 e2 e3 e4 =
    let f0 : Begins b0 (codes "AVSC") 4 508 = record { bytes = e0; place = refl } in
    let f1 = written b1 (u32_bytes x.version) 4 4 504 f0 (length-u32_bytes _) e1 in
    let f2 = written b2 (u64_bytes x.sequence) 8 8 496 f1 (length-u64_bytes _) e2 in
    let f3 = written b3 (u32_bytes x.area) 16 4 492 f2 (length-u32_bytes _) e3 in
    let f4 = written b4 (u32_bytes x.bytes) 20 4 488 f3 (length-u32_bytes _) e4 in
    f4.bytes

-- what lies in the block are the fields
config_header_at-config_header_block : (x : ConfigHeader) → ConfigHeaderKeeps x → ConfigHeaderFits x → config_header_at (config_header_block x) ≡ x
unfolding u32_bytes u64_bytes u32_at u64_at config_header_block
config_header_at-config_header_block x keeps fits =
    let version : u32_at 4 (config_header_block x) ≡ x.version = from_be_bytes-to_be_bytes_4 x.version (omega arith) in
    let sequence : u64_at 8 (config_header_block x) ≡ x.sequence = from_be_bytes-to_be_bytes_8 x.sequence (omega arith) in
    let area : u32_at 16 (config_header_block x) ≡ x.area = from_be_bytes-to_be_bytes_4 x.area (omega arith) in
    let bytes : u32_at 20 (config_header_block x) ≡ x.bytes = from_be_bytes-to_be_bytes_4 x.bytes (omega arith) in
    rw (version, sequence, area, bytes) refl

pub config_header_at-is : (block : Block) (x : ConfigHeader) → IsConfigHeader block x → config_header_at block ≡ x
config_header_at-is block x is = ap config_header_at is.spelled ∙ config_header_at-config_header_block x is.keeps is.fits

-- the block of the fields that lie in a block
config_header_block-config_header_at : (block : Block) → length block ≡ 512 → ((i : ℕ) → get_or block i 0 < 256) → starts_with nat_eq block (codes "AVSC") ≡ true → all_zero (drop 24 block) ≡ true → block ≡ config_header_block (config_header_at block)
unfolding config_header_block
config_header_block-config_header_at block len bytes magic zero =
    let f0 = front-magic block (codes "AVSC") magic in
    let f1 = front-u32 _ block 4 f0 (omega arith) bytes in
    let f2 = front-u64 _ block 8 f1 (omega arith) bytes in
    let f3 = front-u32 _ block 16 f2 (omega arith) bytes in
    let f4 = front-u32 _ block 20 f3 (omega arith) bytes in
    sym (front-zeros _ block 24 488 f4 zero len)

rules-keeps : (x : ConfigHeader) → ConfigHeaderKeeps x → AllHold (config_field_rules x)
rules-keeps x keeps = (
  (Decides-eqb x.version 1).1 keeps.version,
  (
    refl,
    (
      (Decides-leb x.area 1).1 keeps.area,
      ((Decides-leb x.bytes (1023 * 512)).1 keeps.bytes, tt),
    ),
  ),
)

keeps-rules : (x : ConfigHeader) → AllHold (config_field_rules x) → ConfigHeaderKeeps x
keeps-rules x hold = record {
  version = (Decides-eqb x.version 1).0 hold.0;
  area = (Decides-leb x.area 1).0 hold.1.1.0;
  bytes = (Decides-leb x.bytes (1023 * 512)).0 hold.1.1.1.0;
}

-- where every rule holds the block stands for the fields that lie in it
pub is_config_header : (block : Block) → length block ≡ 512 → ((i : ℕ) → get_or block i 0 < 256) → first_broken (config_header_rules block) ≡ None → IsConfigHeader block (config_header_at block)
is_config_header block len bytes none =
    let hold = first_broken-None (config_header_rules block) none in
    record {
      keeps = keeps-rules (config_header_at block) (hold.1.0, (hold.1.1.0, (hold.1.1.1.0, (hold.1.1.1.1.0, tt))));
      fits = record { sequence = u64_at-fits block 8 bytes };
      spelled = config_header_block-config_header_at block len bytes hold.0 hold.1.1.1.1.1.0;
    }

-- the magic bytes and the rest of the block
magic-config_header_block : (x : ConfigHeader) → starts_with nat_eq (config_header_block x) (codes "AVSC") ≡ true
unfolding config_header_block
magic-config_header_block x = refl

rest-config_header_block : (x : ConfigHeader) → all_zero (drop 24 (config_header_block x)) ≡ true
unfolding u32_bytes u64_bytes config_header_block
rest-config_header_block x = all_zero-zeros 488

-- and where the block stands for a value every rule holds
pub rules-is_config_header : (block : Block) (x : ConfigHeader) → IsConfigHeader block x → first_broken (config_header_rules block) ≡ None
rules-is_config_header block x is =
    let rules = subst (λ y. AllHold (config_field_rules y)) (sym (config_header_at-is block x is)) (rules-keeps x is.keeps) in
    let magic : starts_with nat_eq block (codes "AVSC") ≡ true = rw is.spelled (magic-config_header_block x) in
    let rest : all_zero (drop 24 block) ≡ true = rw is.spelled (rest-config_header_block x) in
    first_broken-all (config_header_rules block) (magic, (rules.0, (rules.1.0, (rules.1.1.0, (rules.1.1.1.0, (rest, tt))))))
