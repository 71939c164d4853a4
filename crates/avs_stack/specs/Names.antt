-- The names of a host: a list in order of making.
use Rattle.std.specs.Prelude.{ℕ, Bool, false, not, if◌then◌else◌, Option, None, List, [], ◌∷◌, ◌++◌, map, filter, find, is_some}
use Rattle.std.specs.List.{IsDistinct}
use Rattle.std.specs.Option.{option_map}
use Rattle.std.specs.Str.{bytes_eq}
use Rattle.avs_stack.specs.declared.roles.Roles.{Roles}

-- a volume: its name, the number that was given to it, and its roles
pub record Named : Type 0 where
  pub name : List ℕ
  pub number : ℕ
  pub roles : Roles

-- the roles of a new volume
abbrev pub no_roles : Roles
no_roles = record {
  mirror = false;
  master = false;
  shadow = false;
  bitmap = false;
  overflow = false;
  queue = false;
  import = false;
  away = None;
  imported = false;
  spent = false;
}

-- no name is there twice
abbrev pub AreApart : List Named → Type 0
AreApart stack = IsDistinct bytes_eq (map (λ volume. volume.name) stack)

abbrev pub is_named : List ℕ → Named → Bool
is_named name volume = bytes_eq name volume.name

abbrev pub named_in : List Named → List ℕ → Option Named
named_in stack name = find (λ volume. is_named name volume) stack

abbrev pub has_name : List Named → List ℕ → Bool
has_name stack name = is_some (named_in stack name)

abbrev pub number_of : List Named → List ℕ → Option ℕ
number_of stack name = option_map (λ volume. volume.number) (named_in stack name)

abbrev pub roles_of : List Named → List ℕ → Option Roles
roles_of stack name = option_map (λ volume. volume.roles) (named_in stack name)

-- with a new volume behind the others, where the name is not taken
abbrev pub with_name : List Named → List ℕ → ℕ → List Named
with_name stack name number =
    if has_name stack name then stack else stack ++ record { name = name; number = number; roles = no_roles } ∷ []

-- with these roles at a name
abbrev pub with_roles : List Named → List ℕ → Roles → List Named
with_roles stack name roles = map (λ volume. if is_named name volume then record volume { roles = roles } else volume) stack

-- without a name
abbrev pub without_name : List Named → List ℕ → List Named
without_name stack name = filter (λ volume. not (is_named name volume)) stack
