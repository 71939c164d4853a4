-- What the statements on a host, its volumes and its disks are refused for.
use Rattle.std.specs.Prelude.{ℕ, ◌≡◌, ◌≤◌, ◌+◌, Bool, true, false, not, ◌||◌, ◌&&◌, nat_lt, Option, List, [], ◌∷◌, ◌++◌}
use Rattle.std.specs.Bool.{then_some}
use Rattle.avs_model.specs.Limits.{least_volume, largest_volume, all_volumes, most_texts, most_lines}
use Rattle.avs_model.specs.Rows.{has_no_role, tells_away}
use Rattle.avs_model.specs.declared.facts.HostFacts.{HostFacts}
use Rattle.avs_model.specs.declared.event_facts.MakeFacts.{MakeFacts}
use Rattle.avs_model.specs.declared.event_facts.ArmFacts.{ArmFacts}
use Rattle.avs_model.specs.declared.event_facts.MoveFacts.{MoveFacts}
use Rattle.avs_model.specs.declared.event_facts.AttachTapFacts.{AttachTapFacts}
use Rattle.avs_model.specs.declared.event_facts.DropTapFacts.{DropTapFacts}
use Rattle.avs_model.specs.declared.event_facts.TextFacts.{TextFacts}
use Rattle.avs_model.specs.declared.answer.Word.TheVariants.{Up, Unarmed}
use Rattle.avs_model.specs.declared.answer.Refusal.{Refusal}
use Rattle.avs_model.specs.declared.answer.Refusal.TheVariants.{Down, BadWord, NoVolume, NoGroup, NoTap, Exists, BusyVolume, Size, Limit, WrongState}

-- a volume that is made
abbrev pub make_rows : MakeFacts → List (Option Refusal)
make_rows f =
    then_some (not f.host.up) (Down f.host.name)
    ∷ then_some f.taken Exists
    ∷ then_some (nat_lt f.blocks least_volume) (Size least_volume f.blocks)
    ∷ then_some (nat_lt largest_volume f.blocks) (Limit largest_volume)
    ∷ then_some (nat_lt all_volumes (f.all_blocks + f.blocks)) (Limit all_volumes)
    ∷ []

-- a host that is brought down, or tells of its volumes or of its sets
abbrev pub host_rows : HostFacts → List (Option Refusal)
host_rows f = then_some (not f.up) (Down f.name) ∷ []

-- a host that is brought up
abbrev pub recover_rows : HostFacts → List (Option Refusal)
recover_rows f = then_some f.up (WrongState Up) ∷ []

-- words that are no command from that one on
abbrev pub word_rows : HostFacts → ℕ → List (Option Refusal)
word_rows f word = then_some (not f.up) (Down f.name) ∷ then_some true (BadWord word) ∷ []

-- a disk that is to fail, before it is asked
abbrev pub arm_early : ArmFacts → List (Option Refusal)
arm_early f =
    then_some (not f.host.up) (Down f.host.name)
    ∷ then_some (not f.of_group && not f.there) NoVolume
    ∷ then_some (f.of_group && not f.there) NoGroup
    ∷ []

-- and with its answer
abbrev pub arm_rows : ArmFacts → Bool → List (Option Refusal)
arm_rows f armed = arm_early f ++ then_some (not armed) (WrongState Unarmed) ∷ []

-- a volume that moves to the other host
abbrev pub move_rows : MoveFacts → List (Option Refusal)
move_rows f =
    then_some (not f.from.up) (Down f.from.name)
    ∷ then_some (not f.to.up) (Down f.to.name)
    ∷ then_some (not f.volume.there) NoVolume
    ∷ then_some f.taken Exists
    ∷ then_some (not (has_no_role f.volume.role) && (f.volume.imported || not (tells_away f.volume.role))) (BusyVolume f.volume.role)
    ∷ []

-- a tap that is attached, and one that is dropped
abbrev pub attach_tap_rows : AttachTapFacts → List (Option Refusal)
attach_tap_rows f =
    then_some (not f.host.up) (Down f.host.name)
    ∷ then_some (not f.there) NoVolume
    ∷ then_some (not f.listed) (NoTap f.tap)
    ∷ []

abbrev pub drop_tap_rows : DropTapFacts → List (Option Refusal)
drop_tap_rows f =
    then_some (not f.host.up) (Down f.host.name)
    ∷ then_some (not f.there) NoVolume
    ∷ then_some (not f.attached) (NoTap 0)
    ∷ []

-- one more line of a text
abbrev pub text_rows : TextFacts → List (Option Refusal)
text_rows f =
    then_some (f.is_new && not (nat_lt f.texts most_texts)) (Limit most_texts)
    ∷ then_some (not (nat_lt f.lines most_lines)) (Limit most_lines)
    ∷ []

-- what is known where no row refuses: of a volume that is made,
pub record MakePasses (f : MakeFacts) : Type 0 where
  pub up : f.host.up ≡ true
  pub free : f.taken ≡ false
  pub least : least_volume ≤ f.blocks
  pub most : f.blocks ≤ largest_volume
  pub all : f.all_blocks + f.blocks ≤ all_volumes

-- and of one that moves
pub record MovePasses (f : MoveFacts) : Type 0 where
  pub up : f.from.up ≡ true
  pub other_up : f.to.up ≡ true
  pub there : f.volume.there ≡ true
  pub free : f.taken ≡ false
