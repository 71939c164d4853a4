-- The header of a configuration volume.
use Rattle.std.specs.Prelude.{◌≡◌, ◌*◌, ◌<◌, ◌≤◌, ◌^◌, ◌==◌, nat_eq, nat_le, Bool, true, List, [], ◌∷◌, ◌++◌, drop, codes}
use Rattle.std.specs.List.{starts_with}
use Rattle.avs_seg.specs.Image.{Block}
use Rattle.avs_code.specs.Bytes.{zeros, all_zero, u32_bytes, u64_bytes, u32_at, u64_at}
use Rattle.avs_code.specs.declared.config_headers.ConfigHeader.{ConfigHeader}

-- the block that stands for a configuration's header
unfoldable pub config_header_block : ConfigHeader → Block
config_header_block x = codes "AVSC" ++ u32_bytes x.version ++ u64_bytes x.sequence ++ u32_bytes x.area ++ u32_bytes x.bytes ++ zeros 488

-- Each field keeps its rule. A text fits its area of 1,023 blocks.
pub record ConfigHeaderKeeps (x : ConfigHeader) : Type 0 where
  pub version : x.version ≡ 1
  pub area : x.area ≤ 1
  pub bytes : x.bytes ≤ 1023 * 512

-- the field without a rule fits its bytes
pub record ConfigHeaderFits (x : ConfigHeader) : Type 0 where
  pub sequence : x.sequence < 2 ^ 64

-- the block stands for the configuration's header
pub record IsConfigHeader (block : Block) (x : ConfigHeader) : Type 0 where
  pub keeps : ConfigHeaderKeeps x
  pub fits : ConfigHeaderFits x
  pub spelled : block ≡ config_header_block x

-- the fields as they lie in a block
abbrev pub config_header_at : Block → ConfigHeader
config_header_at block = record { version = u32_at 4 block; sequence = u64_at 8 block; area = u32_at 16 block; bytes = u32_at 20 block }

-- whether each field keeps its rule
abbrev pub config_field_rules : ConfigHeader → List Bool
config_field_rules x = (x.version == 1) ∷ true ∷ nat_le x.area 1 ∷ nat_le x.bytes (1023 * 512) ∷ []

-- the same of the fields that lie in a block, with the magic bytes before them and the rest of the block behind
abbrev pub config_header_rules : Block → List Bool
config_header_rules block = starts_with nat_eq block (codes "AVSC") ∷ config_field_rules (config_header_at block) ++ all_zero (drop 24 block) ∷ []
