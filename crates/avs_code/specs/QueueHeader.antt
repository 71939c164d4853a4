-- The header of a queue volume.
use Rattle.std.specs.Prelude.{◌≡◌, ◌+◌, ◌<◌, ◌≤◌, ◌^◌, ◌==◌, nat_eq, nat_le, Bool, true, List, [], ◌∷◌, ◌++◌, drop, codes}
use Rattle.std.specs.List.{starts_with}
use Rattle.avs_seg.specs.Image.{Block}
use Rattle.avs_code.specs.Bytes.{zeros, all_zero, u32_bytes, u64_bytes, u32_at, u64_at}
use Rattle.avs_code.specs.declared.queue_headers.QueueHeader.{QueueHeader}

-- the block that stands for a queue's header
unfoldable pub queue_header_block : QueueHeader → Block
queue_header_block x = codes "AVSQ" ++ u32_bytes x.version ++ u64_bytes x.session ++ u64_bytes x.first ++ u64_bytes x.next ++ u32_bytes x.head ++ u32_bytes x.used ++ zeros 472

-- Each field keeps its rule. The first and the next place may be one that is not given yet.
pub record QueueHeaderKeeps (x : QueueHeader) : Type 0 where
  pub version : x.version ≡ 1
  pub session : x.session ≤ 2 ^ 62
  pub first : x.first ≤ 2 ^ 62 + 1
  pub next : x.next ≤ 2 ^ 62 + 1

-- the fields without a rule fit their bytes
pub record QueueHeaderFits (x : QueueHeader) : Type 0 where
  pub head : x.head < 2 ^ 32
  pub used : x.used < 2 ^ 32

-- the block stands for the queue's header
pub record IsQueueHeader (block : Block) (x : QueueHeader) : Type 0 where
  pub keeps : QueueHeaderKeeps x
  pub fits : QueueHeaderFits x
  pub spelled : block ≡ queue_header_block x

-- the fields as they lie in a block
abbrev pub queue_header_at : Block → QueueHeader
queue_header_at block = record { version = u32_at 4 block; session = u64_at 8 block; first = u64_at 16 block; next = u64_at 24 block; head = u32_at 32 block; used = u32_at 36 block }

-- whether each field keeps its rule
abbrev pub queue_field_rules : QueueHeader → List Bool
queue_field_rules x = (x.version == 1) ∷ nat_le x.session (2 ^ 62) ∷ nat_le x.first (2 ^ 62 + 1) ∷ nat_le x.next (2 ^ 62 + 1) ∷ true ∷ true ∷ []

-- the same of the fields that lie in a block, with the magic bytes before them and the rest of the block behind
abbrev pub queue_header_rules : Block → List Bool
queue_header_rules block = starts_with nat_eq block (codes "AVSQ") ∷ queue_field_rules (queue_header_at block) ++ all_zero (drop 40 block) ∷ []
