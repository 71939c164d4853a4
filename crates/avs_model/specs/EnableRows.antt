-- What enabling a shadow set is refused for.
use Rattle.std.specs.Prelude.{ℕ, ◌≡◌, ◌<◌, ◌≤◌, true, false, not, ◌||◌, ◌&&◌, nat_lt, is_some, Option, List, [], ◌∷◌, ◌++◌}
use Rattle.std.specs.Bool.{then_some}
use Rattle.avs_model.specs.Limits.{most_group_sets, most_groups}
use Rattle.avs_model.specs.ShadowSets.{kind_of, bitmap_blocks_of}
use Rattle.avs_model.specs.Rows.{has_no_role, may_lead}
use Rattle.avs_model.specs.declared.command_facts.EnableFacts.{EnableFacts}
use Rattle.avs_model.specs.declared.answer.Role.TheVariants.{Import}
use Rattle.avs_model.specs.declared.answer.Refusal.{Refusal}
use Rattle.avs_model.specs.declared.answer.Refusal.TheVariants.{Down, NoVolume, BusyVolume, Size, Limit, Unlike, Copying, NoContents}

-- the blocks that the bitmap of the new set needs
abbrev pub bitmap_need : EnableFacts → ℕ
bitmap_need f = bitmap_blocks_of (kind_of f.dependent f.shadow.blocks f.master.blocks) f.master.blocks

-- before the label of the shadow is looked at
abbrev pub enable_early : EnableFacts → List (Option Refusal)
enable_early f =
    then_some (not f.host.up) (Down f.host.name)
    ∷ then_some (not (f.master.there && f.shadow.there && f.bitmap.there)) NoVolume
    ∷ then_some (not (may_lead f.master.role)) (BusyVolume f.master.role)
    ∷ then_some (not (has_no_role f.shadow.role) || f.shadow_twice) (BusyVolume f.shadow.role)
    ∷ []

-- and then: the stamp of the shadow where it last served as the bitmap of an import
abbrev pub enable_late : EnableFacts → Option ℕ → List (Option Refusal)
enable_late f stamp =
    then_some (is_some stamp) (BusyVolume Import)
    ∷ then_some (not (has_no_role f.bitmap.role) || f.bitmap_twice) (BusyVolume f.bitmap.role)
    ∷ then_some (not f.dependent && nat_lt f.shadow.blocks f.master.blocks) (Size f.master.blocks f.shadow.blocks)
    ∷ then_some (nat_lt f.bitmap.blocks (bitmap_need f)) (Size (bitmap_need f) f.bitmap.blocks)
    ∷ then_some (not (nat_lt f.group.sets most_group_sets)) (Limit most_group_sets)
    ∷ then_some (f.group.is_new && not (nat_lt f.group.groups most_groups)) (Limit most_groups)
    ∷ then_some f.group.is_other (Unlike 0)
    ∷ then_some (nat_lt 0 f.back) (Copying f.back)
    ∷ then_some f.master.empty NoContents
    ∷ []

abbrev pub enable_rows : EnableFacts → Option ℕ → List (Option Refusal)
enable_rows f stamp = enable_early f ++ enable_late f stamp

-- what is known of the three volumes where no row refuses before the look
pub record EnableStarts (f : EnableFacts) : Type 0 where
  pub up : f.host.up ≡ true
  pub there : (f.master.there && f.shadow.there && f.bitmap.there) ≡ true
  pub leads : may_lead f.master.role ≡ true
  pub shadow_plain : has_no_role f.shadow.role ≡ true
  pub shadow_once : f.shadow_twice ≡ false

-- and behind it
pub record EnablePasses (f : EnableFacts) : Type 0 where
  pub bitmap_plain : has_no_role f.bitmap.role ≡ true
  pub bitmap_once : f.bitmap_twice ≡ false
  pub large : (not f.dependent && nat_lt f.shadow.blocks f.master.blocks) ≡ false
  pub noted : bitmap_need f ≤ f.bitmap.blocks
  pub room : f.group.sets < most_group_sets
  pub same : f.group.is_other ≡ false
  pub back : f.back ≡ 0
  pub filled : f.master.empty ≡ false
