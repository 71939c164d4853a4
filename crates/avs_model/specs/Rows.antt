-- Refusals as rows. A table is a list of rows; a row is a refusal where its cause holds, and nothing else; the first row that refuses
-- is the answer. A row over several sets is a column: it refuses for the first of the sets of which its cause holds.
use Rattle.std.specs.Prelude.{Bool, true, false, is_some, Option, None, List, [], ◌∷◌, find}
use Rattle.std.specs.Option.{option_or, option_map, option_flatten}
use Rattle.avs_model.specs.declared.answer.Role.{Role}
use Rattle.avs_model.specs.declared.answer.Role.TheVariants.{Away, Mirror, Master, Shadow, Bitmap, Overflow, Queue, Import, Plain}
use Rattle.avs_model.specs.declared.answer.Word.{Word}
use Rattle.avs_model.specs.declared.answer.Word.TheVariants as word
use Rattle.avs_model.specs.declared.shadow.Kind.{Kind}
use Rattle.avs_model.specs.declared.shadow.Kind.TheVariants as kind
use Rattle.avs_model.specs.declared.facts.Lack.{Lack}
use Rattle.avs_model.specs.declared.answer.Refusal.{Refusal}
use Rattle.avs_model.specs.declared.answer.Refusal.TheVariants.{WrongState, Offline}

-- the first row that refuses
abbrev pub first_row : List (Option Refusal) → Option Refusal
first_row [] = None
first_row (row ∷ rows) = option_or row (first_row rows)

-- the refusal of the first set of which the cause holds
abbrev pub of_first : {F : Type 0} → List F → (F → Bool) → (F → Refusal) → Option Refusal
of_first sets cause refusal = option_map refusal (find cause sets)

-- what the first set tells that tells anything
abbrev pub first_told : {F T : Type 0} → List F → (F → Option T) → Option T
first_told sets told = option_flatten (option_map told (find (λ s. is_some (told s)) sets))

-- a row that is asked only where that holds
abbrev pub row_where : Bool → Option Refusal → Option Refusal
row_where true row = row
row_where false row = None

-- the state of a half that excludes the event, where there is one
abbrev pub half_row : Option Word → Option Refusal
half_row half = option_map (λ state. WrongState state) half

-- the numbers of a set that is offline, where it is
abbrev pub offline_row : Option Lack → Option Refusal
offline_row lack = option_map (λ numbers. Offline numbers.need numbers.slots) lack

-- how the kind of a set is told
abbrev pub kind_word : Kind → Word
kind_word kind.Ind = word.Ind
kind_word kind.Dep = word.Dep
kind_word kind.Compact = word.Compact

-- the kind of a set that excludes the event, where there is one
abbrev pub kind_row : Option Kind → Option Refusal
kind_row told = option_map (λ kind. WrongState (kind_word kind)) told

abbrev pub is_ind : Kind → Bool
is_ind kind.Ind = true
is_ind kind.Dep = false
is_ind kind.Compact = false

abbrev pub is_small : Kind → Bool
is_small kind.Ind = false
is_small kind.Dep = false
is_small kind.Compact = true

-- what a volume serves as: nothing; nothing, or as the master of a set; something that does not exclude reads and writes
abbrev pub has_no_role : Role → Bool
has_no_role Away = false
has_no_role Mirror = false
has_no_role Master = false
has_no_role Shadow = false
has_no_role Bitmap = false
has_no_role Overflow = false
has_no_role Queue = false
has_no_role Import = false
has_no_role Plain = true

abbrev pub may_lead : Role → Bool
may_lead Away = false
may_lead Mirror = false
may_lead Master = true
may_lead Shadow = false
may_lead Bitmap = false
may_lead Overflow = false
may_lead Queue = false
may_lead Import = false
may_lead Plain = true

abbrev pub takes_io : Role → Bool
takes_io Away = true
takes_io Mirror = true
takes_io Master = true
takes_io Shadow = true
takes_io Bitmap = false
takes_io Overflow = false
takes_io Queue = false
takes_io Import = true
takes_io Plain = true

abbrev pub is_overflow : Role → Bool
is_overflow Away = false
is_overflow Mirror = false
is_overflow Master = false
is_overflow Shadow = false
is_overflow Bitmap = false
is_overflow Overflow = true
is_overflow Queue = false
is_overflow Import = false
is_overflow Plain = false

abbrev pub tells_away : Role → Bool
tells_away Away = true
tells_away Mirror = false
tells_away Master = false
tells_away Shadow = false
tells_away Bitmap = false
tells_away Overflow = false
tells_away Queue = false
tells_away Import = false
tells_away Plain = false
