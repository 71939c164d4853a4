-- Names of hosts, volumes, groups and disks.
use Rattle.std.specs.Prelude.{ℕ, ◌≤◌, IsTrue, ◌==◌, Bool, ◌&&◌, ◌||◌, nat_le, nat_eq, Option, None, Some, List, length, drop, slice_index, if◌then◌else◌}
use Rattle.std.specs.List.{list_all, starts_with}
use Rattle.std.specs.Str.{bytes_eq}
use lib.Chars.{codes}
use Rattle.avs_model.specs.declared.event.Host.{Host}
use Rattle.avs_model.specs.declared.event.Host.TheVariants.{P, S}
use Rattle.avs_model.specs.declared.event.ArmTarget.{ArmTarget}
use Rattle.avs_model.specs.declared.event.ArmTarget.TheVariants.{Volume, StateOf}

-- the host that a word names
abbrev pub host_named : List ℕ → Option Host
host_named word = if bytes_eq word (codes "p") then Some P else (if bytes_eq word (codes "s") then Some S else None)

abbrev pub is_digit : ℕ → Bool
is_digit b = nat_le 48 b && nat_le b 57

abbrev pub is_letter : ℕ → Bool
is_letter b = (nat_le 97 b && nat_le b 122) || (nat_le 65 b && nat_le b 90)

-- a letter, a digit, or one of `/ . _ -`
abbrev pub is_name_byte : ℕ → Bool
is_name_byte b = is_letter b || is_digit b || b == 47 || b == 46 || b == 95 || b == 45

-- `/` and then 1 to 63 such bytes
abbrev pub is_volume_name : List ℕ → Bool
is_volume_name word = nat_le 2 (length word) && (nat_le (length word) 64 && (slice_index word 0 == 47 && list_all is_name_byte word))

-- the volume's name that a word is
abbrev pub volume_named : List ℕ → Option (List ℕ)
volume_named word = if is_volume_name word then Some word else None

-- 1 to 16 letters, digits, `_` or `-`
abbrev pub is_tag : List ℕ → Bool
is_tag word = nat_le 1 (length word) && (nat_le (length word) 16 && list_all (λ b. is_letter b || is_digit b || b == 95 || b == 45) word)

-- a group's name: such a word, or that of a lone shadow set or of a lone mirror set
abbrev pub is_group_name : List ℕ → Bool
is_group_name word = is_tag word || is_volume_name word || (starts_with nat_eq word (codes "s:") && is_volume_name (drop 2 word))

-- the disk that a word names: a volume's, or `state:` and a group's
abbrev pub disk_named : List ℕ → Option ArmTarget
disk_named word =
    if is_volume_name word then Some (Volume word)
    else (if starts_with nat_eq word (codes "state:") && is_group_name (drop 6 word) then Some (StateOf (drop 6 word)) else None)

-- a volume's name, with its least and its greatest length
pub record IsVolumeName (name : List ℕ) : Type 0 where
  pub spelled : IsTrue (is_volume_name name)
  pub least : 2 ≤ length name
  pub most : length name ≤ 64
