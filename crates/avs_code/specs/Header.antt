-- The header of an entry, landed or in a queue.
use Rattle.std.specs.Prelude.{◌≡◌, ℕ, ◌<◌, ◌≤◌, ◌^◌, ◌==◌, nat_eq, nat_le, min, Bool, true, ◌&&◌, if◌then◌else◌, List, [], ◌∷◌, ◌++◌, drop, codes}
use Rattle.std.specs.List.{starts_with}
use Rattle.avs_seg.specs.Image.{Block}
use Rattle.avs_code.specs.Bytes.{zeros, all_zero, u32_bytes, u64_bytes, u32_at, u64_at}
use Rattle.avs_code.specs.declared.land_headers.LandHeader.{LandHeader}
use Rattle.avs_code.specs.declared.land_headers.EntryHeader.{EntryHeader}

-- how many blocks an entry of a kind has at most: a write, a copy, and else none
abbrev pub most_len : ℕ → ℕ
most_len kind = if kind == 1 then 256 else (if kind == 2 then 64 else 0)

-- the block that stands for a header, behind these magic bytes
unfoldable pub header_block : List ℕ → LandHeader → Block
header_block magic x = magic ++ u32_bytes x.version ++ u64_bytes x.session ++ u64_bytes x.place ++ u32_bytes x.kind ++ u32_bytes x.set ++ u32_bytes x.at ++ u32_bytes x.len ++ zeros 472

-- each field keeps its rule
pub record HeaderKeeps (x : LandHeader) : Type 0 where
  pub version : x.version ≡ 1
  pub session : x.session ≤ 2 ^ 62
  pub place : x.place ≤ 2 ^ 62
  pub kind : x.kind ≤ 3
  pub len_some : min (most_len x.kind) 1 ≤ x.len
  pub len : x.len ≤ most_len x.kind

-- the fields without a rule fit their bytes
pub record HeaderFits (x : LandHeader) : Type 0 where
  pub set : x.set < 2 ^ 32
  pub at : x.at < 2 ^ 32

-- the block stands for the header, behind these magic bytes
pub record IsHeader (magic : List ℕ) (block : Block) (x : LandHeader) : Type 0 where
  pub keeps : HeaderKeeps x
  pub fits : HeaderFits x
  pub spelled : block ≡ header_block magic x

-- each field of the header of a landed entry keeps its rule
abbrev pub LandHeaderKeeps : LandHeader → Type 0
LandHeaderKeeps = HeaderKeeps

-- the block stands for the header of a landed entry
abbrev pub IsLandHeader : Block → LandHeader → Type 0
IsLandHeader = IsHeader (codes "AVSL")

-- the header of a landed entry with the fields of one in a queue
abbrev pub land_of : EntryHeader → LandHeader
land_of x = record { version = x.version; session = x.session; place = x.place; kind = x.kind; set = x.set; at = x.at; len = x.len }

-- each field of the header of an entry in a queue keeps its rule
abbrev pub EntryHeaderKeeps : EntryHeader → Type 0
EntryHeaderKeeps x = HeaderKeeps (land_of x)

-- the block stands for the header of an entry in a queue
abbrev pub IsEntryHeader : Block → EntryHeader → Type 0
IsEntryHeader block x = IsHeader (codes "AVSE") block (land_of x)

-- the fields as they lie in a block
abbrev pub header_at : Block → LandHeader
header_at block = record { version = u32_at 4 block; session = u64_at 8 block; place = u64_at 16 block; kind = u32_at 24 block; set = u32_at 28 block; at = u32_at 32 block; len = u32_at 36 block }

-- an entry of that kind may have so many blocks
abbrev pub is_len : ℕ → ℕ → Bool
is_len kind len = nat_le (min (most_len kind) 1) len && nat_le len (most_len kind)

-- whether each field keeps its rule
abbrev pub header_field_rules : LandHeader → List Bool
header_field_rules x = (x.version == 1) ∷ nat_le x.session (2 ^ 62) ∷ nat_le x.place (2 ^ 62) ∷ nat_le x.kind 3 ∷ true ∷ true ∷ is_len x.kind x.len ∷ []

-- the same of the fields that lie in a block, with the magic bytes before them and the rest of the block behind
abbrev pub header_rules : List ℕ → Block → List Bool
header_rules magic block = starts_with nat_eq block magic ∷ header_field_rules (header_at block) ++ all_zero (drop 40 block) ∷ []

-- of the header of a landed entry
abbrev pub land_header_rules : Block → List Bool
land_header_rules = header_rules (codes "AVSL")

-- of the header of an entry in a queue
abbrev pub entry_header_rules : Block → List Bool
entry_header_rules = header_rules (codes "AVSE")
