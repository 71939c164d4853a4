-- Which field of a block breaks its rule, and what a reader of records answers.
use Rattle.std.specs.Prelude.{◌≡◌, ℕ, Bool, not, List, Option, None, Some, Result, Ok, IfOk, MatchResult, position}
use Rattle.avs_seg.specs.Image.{Block}
use Rattle.avs_code.specs.declared.records.BadRecord.{BadRecord}

-- the place of the first rule that does not hold, counted from 0
abbrev pub first_broken : List Bool → Option ℕ
first_broken rules = position (λ holds. not holds) rules

-- What a reader answers for a block: the one value that the block stands for, or the number of the
-- first field whose rule does not hold.
pub record Reads {X : Type 0} (Is : Block → X → Type 0) (rules : Block → List Bool) (block : Block) (result : Result X BadRecord) : Type 0 where
  pub ok : IfOk result (λ x. Is block x)
  pub exact : (x : X) → Is block x → result ≡ Ok x
  pub field : MatchResult result (λ _. first_broken (rules block) ≡ None) (λ e. first_broken (rules block) ≡ Some e.0)

-- a block stands for at most one value of a record, and a value has at most one block
pub record OneSpelling {X : Type 0} (Is : Block → X → Type 0) : Type 0 where
  pub value : (block : Block) (x y : X) → Is block x → Is block y → x ≡ y
  pub block : (x : X) (a b : Block) → Is a x → Is b x → a ≡ b
