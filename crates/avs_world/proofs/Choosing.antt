-- Which refusal of enabling a set is the first, by what a world finds.
use Rattle.std.proofs.Common.{◌≡◌, ◌⊎◌, ℕ, ◌+◌, ◌<◌, ◌≤◌, Bool, true, false, not, ◌==◌, ◌||◌, Some, None, List, [], ◌∷◌, ◌++◌, length, refl, sym, ◌∙◌, ap, subst, inl, inr, arith}
use Rattle.std.specs.Prelude.{◌&&◌, nat_lt, if◌then◌else◌}
use Rattle.std.specs.List.{sum_by, slice_get, position}
use Rattle.std.specs.Option.{is_some}
use Rattle.std.specs.Str.{bytes_eq}
use Rattle.std.proofs.Math.Bool.{or_assoc}
use Rattle.std.proofs.lemmas.Bool.{false≢true, cases_Bool, cond-true, cond-false, ltb-true, ltb-false, eqb-false, not-false}
use Rattle.avs_dev.specs.Seen.{Seen}
use Rattle.avs_model.specs.Limits.{bitmap_blocks, most_sets}
use Rattle.avs_model.specs.State.{State, HostState, VolumeState, ShadowGroup, Use, volume_of, size_of, is_spent, use_of, role_of, are_disks_used}
use Rattle.avs_model.specs.State as state
use Rattle.avs_model.specs.Refusals.{enable_causes, first_cause, may_be_master, is_alone, sets_on}
use Rattle.avs_world.specs.declared.group.Part.{Part}
use Rattle.avs_world.specs.declared.group.Part.TheVariants.{Master, Shadow, Bitmap, Plain}
use Rattle.avs_model.specs.declared.answer.Refusal.{Refusal}
use Rattle.avs_model.specs.declared.answer.Refusal.TheVariants.{NoVolume, BusyVolume, Size, Limit, NoContents}
use Rattle.avs_world.specs.declared.place.Place.{Place}
use Rattle.avs_world.specs.declared.place.Place.TheVariants.{Here, Spent, Lent}
use Rattle.avs_world.specs.declared.ranges.Target.{Target}
use Rattle.avs_ii.specs.Held.{IiDisks}
use Rattle.avs_world.specs.declared.group.ShadowSet.{ShadowSet}
use Rattle.avs_world.specs.Views.{GroupView, NoGroup, FreeDisk, InMemory, OnDisks, StoreView}
use Rattle.avs_world.specs.Holds.{Shown, shown, Holds, HoldsBy, AreHere, IsPhase, name_at, disks_made}
use Rattle.avs_world.specs.Ranges.{role_by, is_gone, reach_by, reach, told_as}
use Rattle.avs_world.specs.Places.{place_of}
use Rattle.avs_world.specs.Enabling.{IsNamedTarget, IsFree, HasNoFree, GroupRefused, IsChosen, may_lead, is_plain, role_causes, target_causes, size_causes}
use Rattle.avs_world.proofs.Holding.{element, use_as, use_by_place, volume_named, name_there, is_at, found_plain}
use Rattle.avs_world.proofs.Holding.{open_groups, size_at, gone_at}
use Rattle.avs_world.proofs.Ready.{master_size}

-- a list of causes in two parts
first_here : (xs ys : List (Bool × Refusal)) (why : Refusal) → first_cause xs ≡ Some why → first_cause (xs ++ ys) ≡ Some why
first_here [] ys why is = absurd (cc)
first_here (x ∷ xs) ys why is = elim (cases_Bool x.0) [
  | inl hit ↦ cond-true x.0 (Some x.1) (first_cause (xs ++ ys)) hit ∙ sym (cond-true x.0 (Some x.1) (first_cause xs) hit) ∙ is
  | inr miss ↦ cond-false x.0 (Some x.1) (first_cause (xs ++ ys)) miss ∙ first_here xs ys why (sym (cond-false x.0 (Some x.1) (first_cause xs) miss) ∙ is)
]

first_there : (xs ys : List (Bool × Refusal)) → first_cause xs ≡ None → first_cause (xs ++ ys) ≡ first_cause ys
first_there [] ys is = refl
first_there (x ∷ xs) ys is = elim (cases_Bool x.0) [
  | inl hit ↦ let e : Some x.1 ≡ None = sym (cond-true x.0 (Some x.1) (first_cause xs) hit) ∙ is in absurd (cc)
  | inr miss ↦ cond-false x.0 (Some x.1) (first_cause (xs ++ ys)) miss ∙ first_there xs ys (sym (cond-false x.0 (Some x.1) (first_cause xs) miss) ∙ is)
]

-- what a use says of a role
leads : (role : Part) → may_be_master (use_as role) ≡ may_lead role
leads Master = refl
leads Shadow = refl
leads Bitmap = refl
leads Plain = refl

alone : (role : Part) → is_alone (use_as role) ≡ is_plain role
alone Master = refl
alone Shadow = refl
alone Bitmap = refl
alone Plain = refl

same_role : (role : Part) → state.role_by (use_as role) ≡ told_as role
same_role Master = refl
same_role Shadow = refl
same_role Bitmap = refl
same_role Plain = refl

-- the last two causes: there are as many sets as may be, and the master's contents are gone
abbrev pub last_causes : HostState → List ℕ → List (Bool × Refusal)
last_causes held master = (not (nat_lt (sets_on held) most_sets), Limit most_sets) ∷ (is_spent held master, NoContents) ∷ []

-- the causes where the three volumes are there, by their roles
causes_by : (held : HostState) (master shadow bitmap : List ℕ) (m s b : Part) (s_twice b_twice : Bool) → is_some (volume_of held master) ≡ true → is_some (volume_of held shadow) ≡ true → is_some (volume_of held bitmap) ≡ true
    → use_of held master ≡ use_as m → use_of held shadow ≡ use_as s → use_of held bitmap ≡ use_as b → bytes_eq shadow master ≡ s_twice → (bytes_eq bitmap master || bytes_eq bitmap shadow) ≡ b_twice
    → first_cause (enable_causes held master shadow bitmap)
    ≡ first_cause (role_causes m s b s_twice b_twice ++ size_causes (size_of held master) (size_of held shadow) (size_of held bitmap) ++ last_causes held master)
causes_by held master shadow bitmap m s b s_twice b_twice has_m has_s has_b use_m use_s use_b twice_s twice_b =
    let lead : may_be_master (use_of held master) ≡ may_lead m = ap may_be_master use_m ∙ leads m in
    let alone_s : is_alone (use_of held shadow) ≡ is_plain s = ap is_alone use_s ∙ alone s in
    let alone_b : is_alone (use_of held bitmap) ≡ is_plain b = ap is_alone use_b ∙ alone b in
    let role_m : role_of held master ≡ told_as m = ap state.role_by use_m ∙ same_role m in
    let role_s : role_of held shadow ≡ told_as s = ap state.role_by use_s ∙ same_role s in
    let role_b : role_of held bitmap ≡ told_as b = ap state.role_by use_b ∙ same_role b in
    let busy : ((not (is_alone (use_of held bitmap)) || bytes_eq bitmap master) || bytes_eq bitmap shadow) ≡ (not (is_plain b) || b_twice) =
    or_assoc (not (is_alone (use_of held bitmap))) (bytes_eq bitmap master) (bytes_eq bitmap shadow) ∙ (λ i. not (alone_b i) || twice_b i) in
    let rest = size_causes (size_of held master) (size_of held shadow) (size_of held bitmap) ++ last_causes held master in
    (λ i. first_cause (
    (not ((has_m i && has_s i) && has_b i), NoVolume) ∷ (not (lead i), BusyVolume (role_m i)) ∷ (not (alone_s i) || twice_s i, BusyVolume (role_s i)) ∷ (busy i, BusyVolume (role_b i)) ∷ rest
    ))

-- two names are the same exactly where their places are
same_place : (names : List (List ℕ)) (a b : List ℕ) (i j : ℕ) → position (bytes_eq a) names ≡ Some i → position (bytes_eq b) names ≡ Some j → name_at names j ≡ b → bytes_eq a b ≡ (i == j)
same_place names a b i j at_a at_b named =
    subst (λ (n : List ℕ). bytes_eq a n ≡ (i == j)) named (is_at names a i j at_a (subst (λ (n : List ℕ). position (bytes_eq n) names ≡ Some j) (sym named) at_b))

-- the name at the place of a name
pub named_there : (steady : Bool) (store : StoreView) (state : State) (name : List ℕ) (k : ℕ) → Holds steady store state → position (bytes_eq name) store.names ≡ Some k → name_at store.names k ≡ name
named_there steady store state name k holds sought =
    let v = volume_named store.names state.p holds.same_names name k sought in
    name_there store.names state.p holds.same_names k v.volume v.there ∙ v.is_name

-- a volume that is not there
not_all : (a b c : Bool) → ((a ≡ false) ⊎ (b ≡ false)) ⊎ (c ≡ false) → not ((a && b) && c) ≡ true
not_all a b c (inl (inl is)) = ap (λ x. not ((x && b) && c)) is
not_all true b c (inl (inr is)) = ap (λ x. not (x && c)) is
not_all false b c (inl (inr is)) = refl
not_all true true c (inr is) = ap not is
not_all true false c (inr is) = refl
not_all false b c (inr is) = refl

-- one of three volumes is not there
pub choose_none : (held : HostState) (master shadow bitmap : List ℕ) → ((volume_of held master ≡ None) ⊎ (volume_of held shadow ≡ None)) ⊎ (volume_of held bitmap ≡ None)
    → first_cause (enable_causes held master shadow bitmap) ≡ Some NoVolume
choose_none held master shadow bitmap none =
    let missing = not_all (is_some (volume_of held master)) (is_some (volume_of held shadow)) (is_some (volume_of held bitmap)) (each none) in
    cond-true (not ((is_some (volume_of held master) && is_some (volume_of held shadow)) && is_some (volume_of held bitmap))) (Some NoVolume) _ missing
  where
    each : ((volume_of held master ≡ None) ⊎ (volume_of held shadow ≡ None)) ⊎ (volume_of held bitmap ≡ None)
        → ((is_some (volume_of held master) ≡ false) ⊎ (is_some (volume_of held shadow) ≡ false)) ⊎ (is_some (volume_of held bitmap) ≡ false)
    each (inl (inl m)) = inl (inl (ap is_some m))
    each (inl (inr s)) = inl (inr (ap is_some s))
    each (inr b) = inr (ap is_some b)

-- What three volumes that pass serve as, and how many blocks they have.

-- a list of causes of which none holds
first_none : (x : Bool × Refusal) (xs : List (Bool × Refusal)) → first_cause (x ∷ xs) ≡ None → (x.0 ≡ false) × (first_cause xs ≡ None)
first_none x xs is = elim (cases_Bool x.0) [
  | inl hit ↦ let e : Some x.1 ≡ None = sym (cond-true x.0 (Some x.1) (first_cause xs) hit) ∙ is in absurd (cc)
  | inr miss ↦ (miss, sym (cond-false x.0 (Some x.1) (first_cause xs) miss) ∙ is)
]

neither : (a b : Bool) → (a || b) ≡ false → (a ≡ false) × (b ≡ false)
neither false b is = (refl, is)
neither true b is = absurd (false≢true (sym is))

-- the volumes may be those of a set, and they differ
record MayServe (m s b : Part) (s_twice b_twice : Bool) : Type 0 where
  master : may_lead m ≡ true
  shadow : is_plain s ≡ true
  bitmap : is_plain b ≡ true
  shadow_once : s_twice ≡ false
  bitmap_once : b_twice ≡ false

may_serve : (m s b : Part) (s_twice b_twice : Bool) → first_cause (role_causes m s b s_twice b_twice) ≡ None → MayServe m s b s_twice b_twice
may_serve m s b s_twice b_twice is =
    let for_shadow : Bool × Refusal = (not (is_plain s) || s_twice, BusyVolume (told_as s)) in
    let for_bitmap : Bool × Refusal = (not (is_plain b) || b_twice, BusyVolume (told_as b)) in
    let first = first_none (not (may_lead m), BusyVolume (told_as m)) (for_shadow ∷ for_bitmap ∷ []) is in
    let second = first_none for_shadow (for_bitmap ∷ []) first.1 in
    let third = first_none for_bitmap [] second.1 in
    let shadows = neither (not (is_plain s)) s_twice second.0 in
    let bitmaps = neither (not (is_plain b)) b_twice third.0 in
    record {
      master = not-false (may_lead m) first.0;
      shadow = not-false (is_plain s) shadows.0;
      bitmap = not-false (is_plain b) bitmaps.0;
      shadow_once = shadows.1;
      bitmap_once = bitmaps.1;
    }

role_plain : (role : Part) → is_plain role ≡ true → role ≡ Plain
role_plain Plain is = refl
role_plain Master is = absurd (false≢true is)
role_plain Shadow is = absurd (false≢true is)
role_plain Bitmap is = absurd (false≢true is)

role_leads : (role : Part) → may_lead role ≡ true → (role ≡ Plain) ⊎ (role ≡ Master)
role_leads Plain is = inl refl
role_leads Master is = inr refl
role_leads Shadow is = absurd (false≢true is)
role_leads Bitmap is = absurd (false≢true is)

-- they are large enough
large_enough : (master shadow bitmap : ℕ) → first_cause (size_causes master shadow bitmap) ≡ None → (master ≤ shadow) × (bitmap_blocks master ≤ bitmap)
large_enough master shadow bitmap is =
    let for_bitmap : Bool × Refusal = (nat_lt bitmap (bitmap_blocks master), Size (bitmap_blocks master) bitmap) in
    let first = first_none (nat_lt shadow master, Size master shadow) (for_bitmap ∷ []) is in
    let second = first_none for_bitmap [] first.1 in
    (ltb-false shadow master first.0, ltb-false bitmap (bitmap_blocks master) second.0)

-- the disk at a place has a block where one is shown
some_shown : (p : Place Seen) → (shown p).some ≡ true → 0 < (shown p).size
some_shown (Here d) some = ltb-true 0 d.size some
some_shown (Spent d) some = ltb-true 0 d.size some
some_shown Lent some = absurd (false≢true some)

-- a disk with a block is here
record IsHere (p : Place Seen) : Type 0 where
  spent : Bool
  disk : Seen
  is : p ≡ place_of spent disk
  size : (shown p).size ≡ disk.size

is_here : (p : Place Seen) → 0 < (shown p).size → IsHere p
is_here (Here d) some = record { spent = false; disk = d; is = refl; size = refl }
is_here (Spent d) some = record { spent = true; disk = d; is = refl; size = refl }
is_here Lent some = absurd (omega arith)

-- and where its contents are not gone
filled_here : (p : Place Seen) → 0 < (shown p).size → is_gone (Some p) ≡ false → (d : Seen) × ((p ≡ Here d) × ((shown p).size ≡ d.size))
filled_here (Here d) some filled = (d, (refl, refl))
filled_here (Spent d) some filled = absurd (false≢true (sym filled))
filled_here Lent some filled = absurd (omega arith)

-- where there is no group
module _ (steady : Bool) (names : List (List ℕ)) (places : List (Place Seen)) where
  pub no_groups : (group : GroupView) (volumes : List VolumeState) (groups : List ShadowGroup) → IsFree group → HoldsBy steady names places group volumes groups → groups ≡ []
  no_groups NoGroup volumes groups free by = by.1
  no_groups (FreeDisk disk) volumes groups free by = by.1.0
  no_groups (InMemory set held) volumes groups free by = absurd free
  no_groups (OnDisks set parts) volumes groups free by = absurd free

  pub all_here : (group : GroupView) (volumes : List VolumeState) (groups : List ShadowGroup) → IsFree group → HoldsBy steady names places group volumes groups → AreHere steady places volumes
  all_here NoGroup volumes groups free by = by.0
  all_here (FreeDisk disk) volumes groups free by = by.0
  all_here (InMemory set held) volumes groups free by = absurd free
  all_here (OnDisks set parts) volumes groups free by = absurd free

  -- a group in memory has one set
  one_set_on : (set : ShadowSet) (held : IiDisks) (host : HostState) → HoldsBy steady names places (InMemory set held) host.volumes host.groups → sets_on host ≡ 1
  one_set_on set held host by =
      let are = open_groups steady names places set held host.volumes host.groups by.0 by.1 in
      ap (λ (groups : List ShadowGroup). sum_by (λ (g : ShadowGroup). length g.sets) groups) are.1

  -- there can be no group more
  full : (group : GroupView) (host : HostState) (why : Refusal) → GroupRefused group why → IsPhase true group → HoldsBy steady names places group host.volumes host.groups → (why ≡ Limit most_sets) × (sets_on host ≡ 1)
  full NoGroup host why refused phase by = absurd refused
  full (FreeDisk disk) host why refused phase by = absurd (omega (arith, refused, by.1.1.0.room))
  full (InMemory set held) host why refused phase by = (refused, one_set_on set held host by)
  full (OnDisks set parts) host why refused phase by = let e : true ≡ false = phase in absurd (false≢true (sym e))

-- the disks that were made for states: none where there was no group, and else one, which is free
pub no_disk : (group : GroupView) (host : HostState) → IsFree group → HasNoFree group → disks_made group ≡ host.state_disks → host.groups ≡ [] → are_disks_used host ≡ true
no_disk NoGroup host free needed same none = (λ i. sym same i == length (none i))
no_disk (FreeDisk disk) host free needed same none = absurd needed
no_disk (InMemory set held) host free needed same none = absurd free
no_disk (OnDisks set parts) host free needed same none = absurd free

pub one_disk : (group : GroupView) (host : HostState) → IsFree group → disks_made group ≡ host.state_disks → host.groups ≡ [] → 1 ≡ (if are_disks_used host then host.state_disks + 1 else host.state_disks)
one_disk NoGroup host free same none = (λ i. if same i == length (sym none i) then same i + 1 else same i)
one_disk (FreeDisk disk) host free same none = (λ i. if same i == length (sym none i) then same i + 1 else same i)
one_disk (InMemory set held) host free same none = absurd free
one_disk (OnDisks set parts) host free same none = absurd free

pub free_plain : (group : GroupView) (k : ℕ) → IsFree group → role_by group k ≡ Plain
free_plain NoGroup k free = refl
free_plain (FreeDisk disk) k free = refl
free_plain (InMemory set held) k free = absurd free
free_plain (OnDisks set parts) k free = absurd free

-- Three volumes as they are found.

module _ (steady : Bool) (store : StoreView) (state : State) (master shadow bitmap : List ℕ) (m s b : Target) (at_m : IsNamedTarget store master m) (at_s : IsNamedTarget store shadow s) (at_b : IsNamedTarget store bitmap b)
    (holds : Holds steady store state) (phase : IsPhase true store.group) where
  abbrev sizes_of : List (Bool × Refusal)
  sizes_of = size_causes (size_of state.p master) (size_of state.p shadow) (size_of state.p bitmap)

  used : (name : List ℕ) (t : Target) → IsNamedTarget store name t → use_of state.p name ≡ use_as t.role
  used name t at = use_by_place steady store state name t.place holds phase at.at ∙ ap use_as (sym at.is)

  is_there : (name : List ℕ) (t : Target) → IsNamedTarget store name t → is_some (volume_of state.p name) ≡ true
  is_there name t at = ap is_some (volume_named store.names state.p holds.same_names name t.place at.at).named

  same : (a b : List ℕ) (i j : Target) → IsNamedTarget store a i → IsNamedTarget store b j → bytes_eq a b ≡ (i.place == j.place)
  same a b i j at_a at_b = same_place store.names a b i.place j.place at_a.at at_b.at (named_there steady store state b j.place holds at_b.at)

  -- the causes by what the three volumes serve as
  causes_are : first_cause (enable_causes state.p master shadow bitmap) ≡ first_cause (target_causes m s b ++ sizes_of ++ last_causes state.p master)
  causes_are =
      causes_by state.p master shadow bitmap m.role s.role b.role (s.place == m.place) (b.place == m.place || b.place == s.place) (is_there master m at_m) (is_there shadow s at_s) (is_there bitmap b at_b)
      (used master m at_m) (used shadow s at_s) (used bitmap b at_b) (same shadow master s m at_s at_m)
      (λ i. same bitmap master b m at_b at_m i || same bitmap shadow b s at_b at_s i)

  pub choose_busy : (why : Refusal) → first_cause (target_causes m s b) ≡ Some why → first_cause (enable_causes state.p master shadow bitmap) ≡ Some why
  choose_busy why is = causes_are ∙ first_here (target_causes m s b) (sizes_of ++ last_causes state.p master) why is

  -- the volumes that pass by what they serve as
  serve : first_cause (target_causes m s b) ≡ None → MayServe m.role s.role b.role (s.place == m.place) (b.place == m.place || b.place == s.place)
  serve passes = may_serve m.role s.role b.role (s.place == m.place) (b.place == m.place || b.place == s.place) passes

  plain_reach : (name : List ℕ) (t : Target) → IsNamedTarget store name t → t.role ≡ Plain → reach store t ≡ size_of state.p name
  plain_reach name t at plain =
      let p = element store.places t.place at.there in
      ap (reach_by store t.place) plain ∙ size_at store.places t.place p.0 p.1 ∙ (found_plain steady store state name t.place p.0 holds (sym at.is ∙ plain) at.at p.1).size

  master_reach : (name : List ℕ) (t : Target) → IsNamedTarget store name t → (t.role ≡ Plain) ⊎ (t.role ≡ Master) → reach store t ≡ size_of state.p name
  master_reach name t at (inl plain) = plain_reach name t at plain
  master_reach name t at (inr leads) =
      ap (reach_by store t.place) leads ∙ sym (master_size steady store.names store.places state.p name t.place holds.same_names at.at store.group holds.by phase (sym at.is ∙ leads)).0

  -- they have the blocks of their volumes
  same_sizes : first_cause (target_causes m s b) ≡ None → size_causes (reach store m) (reach store s) (reach store b) ≡ sizes_of
  same_sizes passes =
      let may = serve passes in
      let at_master = master_reach master m at_m (role_leads m.role may.master) in
      let at_shadow = plain_reach shadow s at_s (role_plain s.role may.shadow) in
      let at_bitmap = plain_reach bitmap b at_b (role_plain b.role may.bitmap) in
      (λ i. size_causes (at_master i) (at_shadow i) (at_bitmap i))

  pub choose_small : (why : Refusal) → first_cause (target_causes m s b) ≡ None → first_cause (size_causes (reach store m) (reach store s) (reach store b)) ≡ Some why → first_cause (enable_causes state.p master shadow bitmap) ≡ Some why
  choose_small why passes is =
      causes_are ∙ first_there (target_causes m s b) (sizes_of ++ last_causes state.p master) passes
      ∙ first_here sizes_of (last_causes state.p master) why (ap first_cause (sym (same_sizes passes)) ∙ is)

  -- the last two causes, where the others do not hold
  last : first_cause (target_causes m s b) ≡ None → first_cause (size_causes (reach store m) (reach store s) (reach store b)) ≡ None
      → first_cause (enable_causes state.p master shadow bitmap) ≡ first_cause (last_causes state.p master)
  last passes fits =
      causes_are ∙ first_there (target_causes m s b) (sizes_of ++ last_causes state.p master) passes
      ∙ first_there sizes_of (last_causes state.p master) (ap first_cause (sym (same_sizes passes)) ∙ fits)

  pub choose_full : (why : Refusal) → first_cause (target_causes m s b) ≡ None → first_cause (size_causes (reach store m) (reach store s) (reach store b)) ≡ None → GroupRefused store.group why
      → first_cause (enable_causes state.p master shadow bitmap) ≡ Some why
  choose_full why passes fits refused =
      let is = full steady store.names store.places store.group state.p why refused phase holds.by in
      last passes fits
      ∙ ap (λ n. first_cause ((not (nat_lt n most_sets), Limit most_sets) ∷ (is_spent state.p master, NoContents) ∷ [])) is.1
      ∙ ap Some (sym is.0)

  -- where there is no group the contents of the master alone count
  free : first_cause (target_causes m s b) ≡ None → first_cause (size_causes (reach store m) (reach store s) (reach store b)) ≡ None → IsFree store.group
      → first_cause (enable_causes state.p master shadow bitmap) ≡ (if is_gone (slice_get store.places m.place) then Some NoContents else None)
  free passes fits is_free =
      let none = no_groups steady store.names store.places store.group state.p.volumes state.p.groups is_free holds.by in
      let p = element store.places m.place at_m.there in
      let f = found_plain steady store state master m.place p.0 holds (free_plain store.group m.place is_free) at_m.at p.1 in
      let spent : is_spent state.p master ≡ is_gone (slice_get store.places m.place) = sym f.spent ∙ sym (gone_at store.places m.place p.0 p.1) in
      last passes fits
      ∙ (λ i. first_cause ((not (nat_lt (sum_by (λ (g : ShadowGroup). length g.sets) (none i)) most_sets), Limit most_sets) ∷ (spent i, NoContents) ∷ []))

  pub choose_spent : first_cause (target_causes m s b) ≡ None → first_cause (size_causes (reach store m) (reach store s) (reach store b)) ≡ None → IsFree store.group
      → is_gone (slice_get store.places m.place) ≡ true → first_cause (enable_causes state.p master shadow bitmap) ≡ Some NoContents
  choose_spent passes fits is_free gone = free passes fits is_free ∙ cond-true (is_gone (slice_get store.places m.place)) (Some NoContents) None gone

  pub choose_passes : first_cause (target_causes m s b) ≡ None → first_cause (size_causes (reach store m) (reach store s) (reach store b)) ≡ None → IsFree store.group
      → is_gone (slice_get store.places m.place) ≡ false → first_cause (enable_causes state.p master shadow bitmap) ≡ None
  choose_passes passes fits is_free filled = free passes fits is_free ∙ cond-false (is_gone (slice_get store.places m.place)) (Some NoContents) None filled

  -- each volume has a block
  pub choose_some : IsFree store.group → first_cause (target_causes m s b) ≡ None → reach store m < 1 → ⊥
  choose_some is_free passes none =
      let may = serve passes in
      let p = element store.places m.place at_m.there in
      let plain = free_plain store.group m.place is_free in
      let f = found_plain steady store state master m.place p.0 holds plain at_m.at p.1 in
      let some = some_shown p.0 (ap (λ (t : Shown). t.some) f.is) in
      omega (arith, none, some, ap (reach_by store m.place) (at_m.is ∙ plain), size_at store.places m.place p.0 p.1)

-- the three volumes that pass
pub is_chosen : (store : StoreView) (master shadow bitmap : List ℕ) (m s b : Target) → IsNamedTarget store master m → IsNamedTarget store shadow s → IsNamedTarget store bitmap b → first_cause (target_causes m s b) ≡ None
    → first_cause (size_causes (reach store m) (reach store s) (reach store b)) ≡ None → IsFree store.group → is_gone (slice_get store.places m.place) ≡ false → 0 < reach store m
    → IsChosen store master shadow bitmap (record { master = m.place; shadow = s.place; bitmap = b.place })
is_chosen store master shadow bitmap m s b at_m at_s at_b passes fits is_free filled some =
    let may = may_serve m.role s.role b.role (s.place == m.place) (b.place == m.place || b.place == s.place) passes in
    let large = large_enough (reach store m) (reach store s) (reach store b) fits in
    let pm = element store.places m.place at_m.there in
    let ps = element store.places s.place at_s.there in
    let pb = element store.places b.place at_b.there in
    let size_m : reach store m ≡ (shown pm.0).size = ap (reach_by store m.place) (at_m.is ∙ free_plain store.group m.place is_free) ∙ size_at store.places m.place pm.0 pm.1 in
    let size_s : reach store s ≡ (shown ps.0).size = ap (reach_by store s.place) (role_plain s.role may.shadow) ∙ size_at store.places s.place ps.0 ps.1 in
    let size_b : reach store b ≡ (shown pb.0).size = ap (reach_by store b.place) (role_plain b.role may.bitmap) ∙ size_at store.places b.place pb.0 pb.1 in
    let hm = filled_here pm.0 (omega (arith, some, size_m)) (ap is_gone (sym pm.1) ∙ filled) in
    let hs = is_here ps.0 (omega (arith, some, size_s, large.0)) in
    let hb = is_here pb.0 (omega (arith, size_b, large.1)) in
    let twice = neither (b.place == m.place) (b.place == s.place) may.bitmap_once in
    let same : reach store m ≡ hm.0.size = size_m ∙ hm.1.1 in
    record {
      at_master = at_m.at;
      at_shadow = at_s.at;
      at_bitmap = at_b.at;
      three = record {
        shadow_differs = eqb-false s.place m.place may.shadow_once;
        bitmap_differs = eqb-false b.place m.place twice.0;
        bitmap_differs_too = eqb-false b.place s.place twice.1;
        master_disk = hm.0;
        shadow_disk = hs.disk;
        bitmap_disk = hb.disk;
        shadow_spent = hs.spent;
        bitmap_spent = hb.spent;
        master_here = pm.1 ∙ ap Some hm.1.0;
        shadow_here = ps.1 ∙ ap Some hs.is;
        bitmap_here = pb.1 ∙ ap Some hb.is;
        some = omega (arith, some, same);
        shadow_room = omega (arith, same, size_s, hs.size, large.0);
        bitmap_room = subst (λ n. bitmap_blocks n ≤ hb.disk.size) same (omega (arith, size_b, hb.size, large.1));
      };
      free = is_free;
    }
