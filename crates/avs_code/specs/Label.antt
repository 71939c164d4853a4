-- The label of a volume.
use Rattle.std.specs.Prelude.{◌≡◌, ◌≢◌, ◌⊎◌, ℕ, ◌<◌, ◌≤◌, ◌^◌, ◌==◌, nat_eq, nat_le, Bool, true, ◌&&◌, ◌||◌, if◌then◌else◌, Option, None, Some, Result, Ok, IfOk, IfErr, List, [], ◌∷◌, ◌++◌, drop, codes}
use Rattle.std.specs.List.{starts_with}
use Rattle.avs_seg.specs.Image.{Block}
use Rattle.avs_code.specs.Bytes.{zeros, all_zero, u32_bytes, u64_bytes, u32_at, u64_at}
use Rattle.avs_code.specs.Rules.{first_broken}
use Rattle.avs_code.specs.declared.labels.Label.{Label}
use Rattle.avs_code.specs.declared.labels.LabelUse.{LabelUse}
use Rattle.avs_code.specs.declared.records.BadRecord.{BadRecord}

-- the block that stands for a label
unfoldable pub label_block : Label → Block
label_block x = codes "AVSVOL01" ++ u32_bytes x.version ++ u32_bytes x.kind ++ u32_bytes x.blocks ++ u32_bytes x.segments ++ u64_bytes x.stamp ++ zeros 480

-- each field keeps its rule
pub record LabelKeeps (x : Label) : Type 0 where
  pub version : x.version ≡ 1
  pub kind_some : 0 < x.kind
  pub kind : x.kind ≤ 9
  pub stamp : x.stamp ≤ 2 ^ 62
  pub stamp_none : x.kind ≢ 9 → x.stamp ≡ 0

-- the fields without a rule fit their bytes
pub record LabelFits (x : Label) : Type 0 where
  pub blocks : x.blocks < 2 ^ 32
  pub segments : x.segments < 2 ^ 32

-- the block stands for the label
pub record IsLabel (block : Block) (x : Label) : Type 0 where
  pub keeps : LabelKeeps x
  pub fits : LabelFits x
  pub spelled : block ≡ label_block x

-- the fields as they lie in a block
abbrev pub label_at : Block → Label
label_at block = record { version = u32_at 8 block; kind = u32_at 12 block; blocks = u32_at 16 block; segments = u32_at 20 block; stamp = u64_at 24 block }

-- there is such a kind of label
abbrev pub is_label_kind : ℕ → Bool
is_label_kind kind = nat_le 1 kind && nat_le kind 9

-- a label of that kind may have the stamp
abbrev pub is_label_stamp : ℕ → ℕ → Bool
is_label_stamp kind stamp = nat_le stamp (2 ^ 62) && (kind == 9 || stamp == 0)

-- whether each field keeps its rule
abbrev pub label_field_rules : Label → List Bool
label_field_rules x = (x.version == 1) ∷ is_label_kind x.kind ∷ true ∷ true ∷ is_label_stamp x.kind x.stamp ∷ []

-- the same of the fields that lie in a block, with the magic bytes before them and the rest of the block behind
abbrev pub label_rules : Block → List Bool
label_rules block = starts_with nat_eq block (codes "AVSVOL01") ∷ label_field_rules (label_at block) ++ all_zero (drop 32 block) ∷ []

-- the label of a use, with that stamp
abbrev pub label_for : LabelUse → ℕ → Label
label_for wanted stamp = record { version = 1; kind = wanted.kind; blocks = wanted.blocks; segments = wanted.segments; stamp = stamp }

-- the first field by which a label is that of another use: its kind, its blocks or its segments
abbrev pub other_field : LabelUse → Label → Option ℕ
other_field wanted x = if x.kind == wanted.kind then (if x.blocks == wanted.blocks then (if x.segments == wanted.segments then None else Some 4) else Some 3) else Some 2

-- the block is a label, but that of another use
pub record IsOther (block : Block) (wanted : LabelUse) (field : ℕ) : Type 0 where
  pub label : Label
  pub is : IsLabel block label
  pub differs : other_field wanted label ≡ Some field

-- the field by which a block is no label of that use
abbrev pub IsBadLabel : Block → LabelUse → ℕ → Type 0
IsBadLabel block wanted field = (first_broken (label_rules block) ≡ Some field) ⊎ IsOther block wanted field

-- What a reader of labels of one use answers: the label, whatever its stamp is, or the field by which the block is none.
pub record ReadsUse (wanted : LabelUse) (block : Block) (result : Result Label BadRecord) : Type 0 where
  pub ok : IfOk result (λ x. IsLabel block x × (x ≡ label_for wanted x.stamp))
  pub unstamped : wanted.kind ≢ 9 → IfOk result (λ x. x.stamp ≡ 0)
  pub exact : (stamp : ℕ) → IsLabel block (label_for wanted stamp) → result ≡ Ok (label_for wanted stamp)
  pub bad : IfErr result (λ e. IsBadLabel block wanted e.0)
