-- A group in memory that holds one enabled set.
use Rattle.std.proofs.Common.{◌≡◌, ◌≢◌, ℕ, Bool, true, false, ◌==◌, Option, Some, None, List, [], ◌∷◌, map, get_or, refl, ◌∙◌, ap}
use Rattle.std.specs.Prelude.{if◌then◌else◌}
use Rattle.std.specs.List.{find, slice_get, position}
use Rattle.std.specs.Option.{option_map, option_map_or}
use Rattle.std.specs.Str.{bytes_eq}
use Rattle.std.proofs.lemmas.Bool.{cond-true, cond-false, eq-eqb, eqb-true, ne_eqb}
use Rattle.std.proofs.lemmas.Option.{same_Some}
use Rattle.avs_dev.specs.Seen.{Seen}
use Rattle.avs_code.specs.declared.slot_table.Slot.{Slot}
use Rattle.avs_model.specs.Shadows.{ShadowState, blocks_at}
use Rattle.avs_model.specs.State.{HostState, VolumeState}
use Rattle.avs_world.specs.declared.group.Part.{Part}
use Rattle.avs_world.specs.declared.group.Part.TheVariants.{Master, Shadow, Bitmap, Plain}
use Rattle.avs_model.specs.declared.shadow.Kind.TheVariants.{Dep}
use Rattle.avs_ii.specs.SetDisks.{SetDisks}
use Rattle.avs_ii.specs.Held.{HeldSet, IiDisks, is_live, enabled_in, set_at}
use Rattle.avs_ii.specs.Meaning.{meaning, kept_on, shadow_by}
use Rattle.avs_ii.specs.Parts.{PartDisks, parts_of, set_parts}
use Rattle.avs_world.specs.declared.place.Place.{Place}
use Rattle.avs_world.specs.declared.group.ShadowSet.{ShadowSet}
use Rattle.avs_world.specs.Views.{FourDisks, one_set}
use Rattle.avs_world.specs.Ranges.{role_in}
use Rattle.avs_world.specs.Holds.{gone, kept, plain, plain_or_gone, expected, shown_with, IsSetOf, is_enabled}
use Rattle.avs_world.proofs.Holding.{Found, found, are_places, shown_master, shown_shadow, shown_bitmap}

-- a list from which f makes one element
pub one_element : {X Y : Type 0} (f : X → Y) (xs : List X) (y : Y) → map f xs ≡ y ∷ [] → (x : X) × ((xs ≡ x ∷ []) × (f x ≡ y))
one_element f [] y is = absurd (cc)
one_element f (x ∷ []) y is = (x, (refl, ap (λ l. get_or l 0 y) is))
one_element f (x ∷ z ∷ xs) y is = absurd (cc)

-- an option of which f makes something
pub one_there : {X Y : Type 0} (f : X → Y) (o : Option X) (y : Y) → option_map f o ≡ Some y → (x : X) × (o ≡ Some x) × (f x ≡ y)
one_there f None y is = let e : None ≡ Some y = is in absurd (cc)
one_there f (Some x) y is = (x, refl, same_Some (f x) y is)

-- the group with its one set
pub record IsOneSet (set : ShadowSet) (disks : FourDisks) (held : IiDisks) : Type 0 where
  pub state : held.state ≡ disks.state
  pub volumes : held.volumes ≡ disks.master ∷ []
  pub one : HeldSet
  pub sets : held.sets ≡ one ∷ []
  pub slot : one.slot ≡ set.slot
  pub kind : one.chunks.kind ≡ Dep
  pub master : one.master ≡ 0
  pub shadow : one.chunks.shadow ≡ Some disks.shadow
  pub bitmap : one.chunks.areas.disk ≡ disks.bitmap

pub one_held : (set : ShadowSet) (disks : FourDisks) (held : IiDisks) → parts_of held ≡ one_set set.slot disks → IsOneSet set disks held
one_held set disks held is =
    let wanted : SetDisks = record { slot = set.slot; kind = Dep; master = 0; shadow = Some disks.shadow; bitmap = disks.bitmap; over = None } in
    let only = one_element set_parts held.sets wanted (ap (λ (p : PartDisks). p.sets) is) in
    record {
      state = ap (λ (p : PartDisks). p.state) is;
      volumes = ap (λ (p : PartDisks). p.volumes) is;
      one = only.0;
      sets = only.1.0;
      slot = ap (λ (s : SetDisks). s.slot) only.1.1;
      kind = ap (λ (s : SetDisks). s.kind) only.1.1;
      master = ap (λ (s : SetDisks). s.master) only.1.1;
      shadow = ap (λ (s : SetDisks). s.shadow) only.1.1;
      bitmap = ap (λ (s : SetDisks). s.bitmap) only.1.1;
    }

module _ (set : ShadowSet) (disks : FourDisks) (held : IiDisks) (is : IsOneSet set disks held) where
  -- where the slots say that it is enabled
  pub one_enabled : (slots : List Slot) → is_live slots set.slot ≡ true → enabled_in slots held.sets ≡ is.one ∷ []
  one_enabled slots live = ap (enabled_in slots) is.sets ∙ cond-true (is_live slots is.one.slot) (is.one ∷ []) [] (ap (is_live slots) is.slot ∙ live)

  same_slot : (is.one.slot == set.slot) ≡ true
  same_slot = eq-eqb is.one.slot set.slot is.slot

  pub set_there : is_live held.block.slots set.slot ≡ true → set_at held set.slot ≡ Some is.one
  set_there live =
      ap (find (λ (s : HeldSet). s.slot == set.slot)) (one_enabled held.block.slots live) ∙ cond-true (is.one.slot == set.slot) (Some is.one) None same_slot

  -- the set in the group's state
  pub sets_meant : is_enabled set (parts_of held) ≡ true → (meaning held).sets ≡ shadow_by (kept_on held.state).slots held.volumes is.one ∷ []
  sets_meant live = ap (map (λ (s : HeldSet). shadow_by (kept_on held.state).slots held.volumes s)) (one_enabled (kept_on held.state).slots live)

  pub blocks_meant : is_enabled set (parts_of held) ≡ true → blocks_at (meaning held).sets set.slot ≡ is.one.chunks.blocks
  blocks_meant live =
      let shadow : ShadowState = shadow_by (kept_on held.state).slots held.volumes is.one in
      ap (λ (sets : List ShadowState). blocks_at sets set.slot) (sets_meant live)
      ∙ ap (λ (o : Option ShadowState). option_map_or (λ (s : ShadowState). s.blocks) o 0) (cond-true (is.one.slot == set.slot) (Some shadow) None same_slot)

-- the places of the volumes of a set by what they serve as
module _ (set : ShadowSet) (k : ℕ) where
  cases_role : (m s b : Bool) (role : Part) → (k == set.master) ≡ m → (k == set.shadow) ≡ s → (k == set.bitmap) ≡ b → (if m then Master else if s then Shadow else if b then Bitmap else Plain) ≡ role
      → ((role ≡ Master → k ≡ set.master) × ((role ≡ Shadow → k ≡ set.shadow) × (role ≡ Bitmap → k ≡ set.bitmap)))
  cases_role true s b role at_m at_s at_b is = (λ _. eqb-true k set.master at_m, (λ e. absurd (cc), λ e. absurd (cc)))
  cases_role false true b role at_m at_s at_b is = (λ e. absurd (cc), (λ _. eqb-true k set.shadow at_s, λ e. absurd (cc)))
  cases_role false false true role at_m at_s at_b is = (λ e. absurd (cc), (λ e. absurd (cc), λ _. eqb-true k set.bitmap at_b))
  cases_role false false false role at_m at_s at_b is = (λ e. absurd (cc), (λ e. absurd (cc), λ e. absurd (cc)))

  all_roles : (role_in set k ≡ Master → k ≡ set.master) × ((role_in set k ≡ Shadow → k ≡ set.shadow) × (role_in set k ≡ Bitmap → k ≡ set.bitmap))
  all_roles = cases_role (k == set.master) (k == set.shadow) (k == set.bitmap) (role_in set k) refl refl refl refl

  pub at_master : role_in set k ≡ Master → k ≡ set.master
  at_master = all_roles.0

  pub at_shadow : role_in set k ≡ Shadow → k ≡ set.shadow
  at_shadow = all_roles.1.0

  pub at_bitmap : role_in set k ≡ Bitmap → k ≡ set.bitmap
  at_bitmap = all_roles.1.1

-- and what they serve as
pub role_master : (set : ShadowSet) → role_in set set.master ≡ Master
role_master set = cond-true (set.master == set.master) Master _ (eq-eqb set.master set.master refl)

pub role_shadow : (set : ShadowSet) → set.shadow ≢ set.master → role_in set set.shadow ≡ Shadow
role_shadow set differs = cond-false (set.shadow == set.master) Master _ (ne_eqb set.shadow set.master differs) ∙ cond-true (set.shadow == set.shadow) Shadow _ (eq-eqb set.shadow set.shadow refl)

pub role_bitmap : (set : ShadowSet) → set.bitmap ≢ set.master → set.bitmap ≢ set.shadow → role_in set set.bitmap ≡ Bitmap
role_bitmap set master shadow =
    cond-false (set.bitmap == set.master) Master _ (ne_eqb set.bitmap set.master master)
    ∙ cond-false (set.bitmap == set.shadow) Shadow _ (ne_eqb set.bitmap set.shadow shadow)
    ∙ cond-true (set.bitmap == set.bitmap) Bitmap Plain (eq-eqb set.bitmap set.bitmap refl)

-- the volumes of an enabled set, found under their names
module _ (steady : Bool) (names : List (List ℕ)) (host : HostState) (places : List (Place Seen)) (set : ShadowSet) (disks : FourDisks) (live : Bool)
    (same : names ≡ map (λ (v : VolumeState). v.name) host.volumes) (shows : shown_with places set disks live ≡ map (expected steady) host.volumes) (set_of : IsSetOf names set) (enabled : live ≡ true)
    (name : List ℕ) (k : ℕ) (sought : position (bytes_eq name) names ≡ Some k) where
  pub found_master : role_in set k ≡ Master → Found steady host name k (kept disks.master)
  found_master role =
      let all = shown_with places set disks live in
      let at = are_places steady names host places set disks live same shows set_of in
      found steady names host all name k (kept disks.master) same shows sought
      (ap (slice_get all) (at_master set k role) ∙ shown_master places set disks live at.master set_of.shadow_differs ∙ ap (λ (b : Bool). Some (if b then kept disks.master else plain disks.master)) enabled)

  pub found_shadow : role_in set k ≡ Shadow → Found steady host name k (kept disks.shadow)
  found_shadow role =
      let all = shown_with places set disks live in
      let at = are_places steady names host places set disks live same shows set_of in
      found steady names host all name k (kept disks.shadow) same shows sought
      (ap (slice_get all) (at_shadow set k role) ∙ shown_shadow places set disks live at.shadow ∙ ap (λ (b : Bool). Some (if b then kept disks.shadow else plain_or_gone set.spent disks.shadow)) enabled)

  pub found_bitmap : role_in set k ≡ Bitmap → Found steady host name k (gone disks.bitmap)
  found_bitmap role =
      let all = shown_with places set disks live in
      let at = are_places steady names host places set disks live same shows set_of in
      found steady names host all name k (gone disks.bitmap) same shows sought
      (ap (slice_get all) (at_bitmap set k role) ∙ shown_bitmap places set disks live at.bitmap set_of.bitmap_differs set_of.bitmap_differs_too)
