-- What an update or a full copy of several sets is refused for.
use Rattle.std.specs.Prelude.{◌≡◌, true, not, nat_lt, ◌||◌, ◌&&◌, Bool, Option, None, List, [], ◌∷◌}
use Rattle.std.specs.Bool.{then_some}
use Rattle.avs_model.specs.Rows.{of_first, first_told, row_where, half_row, offline_row}
use Rattle.avs_model.specs.declared.command_facts.UpdateFacts.{UpdateFacts}
use Rattle.avs_model.specs.declared.command_facts.NamedSetFacts.{NamedSetFacts}
use Rattle.avs_model.specs.declared.answer.Word.TheVariants.{Exported}
use Rattle.avs_model.specs.declared.answer.Refusal.{Refusal}
use Rattle.avs_model.specs.declared.answer.Refusal.TheVariants.{Down, NoSet, NoGroup, Unlike, WrongState, Copying, NoContents}

-- a set that is not there
abbrev pub missing : List NamedSetFacts → Option Refusal
missing sets = of_first sets (λ s. not s.set.there) (λ s. NoSet)

-- a set that is named already, or is of another group; and, where the masters are updated, a set of a master that is named already
abbrev pub is_excluded : Bool → NamedSetFacts → Bool
is_excluded to_master s = s.again || s.is_other || (to_master && s.master_again)

abbrev pub excluded : Bool → List NamedSetFacts → Option Refusal
excluded to_master sets = of_first sets (is_excluded to_master) (λ s. Unlike s.word)

-- a set that is exported
abbrev pub exported : List NamedSetFacts → Option Refusal
exported sets = of_first sets (λ s. s.set.exported) (λ s. WrongState Exported)

-- a set whose master is not in logging
abbrev pub held : List NamedSetFacts → Option Refusal
held sets = half_row (first_told sets (λ s. s.set.half))

-- a set of a master with chunks that lie on a shadow alone
abbrev pub copying : List NamedSetFacts → Option Refusal
copying sets = of_first sets (λ s. nat_lt 0 s.set.back) (λ s. Copying s.set.back)

-- a set whose master has no contents
abbrev pub emptied : List NamedSetFacts → Option Refusal
emptied sets = of_first sets (λ s. s.set.master_empty) (λ s. NoContents)

-- a set that is offline
abbrev pub lacking : List NamedSetFacts → Option Refusal
lacking sets = offline_row (first_told sets (λ s. s.set.offline))

abbrev pub update_rows : UpdateFacts → List NamedSetFacts → List (Option Refusal)
update_rows f sets =
    then_some (not f.host.up) (Down f.host.name)
    ∷ missing sets
    ∷ then_some (not f.group_there) NoGroup
    ∷ excluded f.to_master sets
    ∷ exported sets
    ∷ row_where f.to_master (held sets)
    ∷ copying sets
    ∷ row_where (not f.to_master) (emptied sets)
    ∷ row_where f.to_master (lacking sets)
    ∷ []

-- what is known where no row refuses
pub record UpdatePasses (f : UpdateFacts) (sets : List NamedSetFacts) : Type 0 where
  pub up : f.host.up ≡ true
  pub group : f.group_there ≡ true
  pub there : missing sets ≡ None
  pub allowed : excluded f.to_master sets ≡ None
  pub here : exported sets ≡ None
  pub half : row_where f.to_master (held sets) ≡ None
  pub back : copying sets ≡ None
  pub filled : row_where (not f.to_master) (emptied sets) ≡ None
  pub online : row_where f.to_master (lacking sets) ≡ None
