-- The tables over the facts of a state of one set a host answer what that state's own refusals are. This file goes with that state.
use Rattle.std.proofs.Common.{◌≡◌, ℕ, ◌+◌, Bool, true, false, not, cond, List, [], ◌∷◌, ◌++◌, length, map, refl, sym, ◌∙◌, ap}
use Rattle.std.specs.Prelude.{Option, Some, None, nat_lt, is_some, ◌||◌, ◌&&◌, if◌then◌else◌}
use Rattle.std.specs.Bool.{then_some}
use Rattle.std.specs.Option.{option_or}
use Rattle.std.specs.List.{sum_by}
use Rattle.std.specs.Str.{bytes_eq}
use Rattle.avs_model.specs.Limits.{longest_read, longest_write, most_sets, most_groups, bitmap_blocks}
use Rattle.avs_model.specs.ShadowSets.{kind_of, bitmap_blocks_of}
use Rattle.avs_model.specs.State.{State, HostState, VolumeState, ShadowGroup, Use, Alone, MasterIn, ShadowIn, BitmapIn, host_of, volume_of, size_of, reach_of, is_spent, use_of, role_of, role_by, all_blocks}
use Rattle.avs_model.specs.Refusals.{first_cause, causes, refusal, has_volume, has_group, is_bitmap, is_alone, may_be_master, sets_on}
use Rattle.avs_model.specs.Rows.{first_row, takes_io, has_no_role, may_lead}
use Rattle.avs_model.specs.RangeRows.{range_rows}
use Rattle.avs_model.specs.EnableRows.{enable_early, enable_rows, bitmap_need}
use Rattle.avs_model.specs.HostRows.{make_rows, arm_early, host_rows, recover_rows}
use Rattle.avs_model.specs.declared.answer.Refusal.{Refusal}
use Rattle.avs_model.specs.declared.answer.Refusal.TheVariants.{Down, NoVolume, BusyVolume, Length, Range, Size, Limit, NoContents, WrongState}
use Rattle.avs_model.specs.declared.answer.Word.TheVariants.{Up}
use Rattle.avs_model.specs.declared.answer.Role.TheVariants.{Bitmap, Plain}
use Rattle.avs_model.specs.declared.event.Host.{Host}
use Rattle.avs_model.specs.declared.event.ArmTarget.{ArmTarget}
use Rattle.avs_model.specs.declared.event.ArmTarget.TheVariants as disk
use Rattle.avs_model.specs.declared.event.IiCommand.TheVariants as command
use Rattle.avs_model.specs.declared.event.Event.TheVariants.{Volume, Write, Read, Ii, Arm, Crash, Recover}
use Rattle.avs_model.specs.declared.shadow.Kind.TheVariants.{Dep, Compact}
use Rattle.avs_model.specs.declared.facts.HostFacts.{HostFacts}
use Rattle.avs_model.specs.declared.facts.VolumeFacts.{VolumeFacts}
use Rattle.avs_model.specs.declared.facts.GroupFacts.{GroupFacts}
use Rattle.avs_model.specs.declared.event_facts.MakeFacts.{MakeFacts}
use Rattle.avs_model.specs.declared.event_facts.RangeFacts.{RangeFacts}
use Rattle.avs_model.specs.declared.event_facts.AccessFacts.{AccessFacts}
use Rattle.avs_model.specs.declared.event_facts.ArmFacts.{ArmFacts}
use Rattle.avs_model.specs.declared.command_facts.EnableFacts.{EnableFacts}
use Rattle.avs_model.proofs.Rows.{first_row-append}

-- ---- the facts of a state

abbrev pub host_facts : State → Host → HostFacts
host_facts state host = record { name = host; up = (host_of state host).up }

abbrev pub facts_by : HostState → List ℕ → Option VolumeState → VolumeFacts
facts_by held name None = record { there = false; role = Plain; imported = false; keeps_import = false; blocks = 0; reach = 0; empty = false }
facts_by held name (Some volume) = record {
  there = true;
  role = role_of held name;
  imported = false;
  keeps_import = false;
  blocks = size_of held name;
  reach = reach_of held name;
  empty = is_spent held name;
}

abbrev pub volume_facts : HostState → List ℕ → VolumeFacts
volume_facts held name = facts_by held name (volume_of held name)

abbrev pub make_facts : State → Host → List ℕ → ℕ → MakeFacts
make_facts state host name blocks = record { host = host_facts state host; taken = has_volume state host name; blocks = blocks; all_blocks = all_blocks state }

abbrev pub range_facts : State → Host → VolumeFacts → ℕ → ℕ → ℕ → RangeFacts
range_facts state host volume at len longest = record { host = host_facts state host; volume = volume; at = at; len = len; longest = longest; place = 0 }

abbrev pub access_facts : VolumeFacts → AccessFacts
access_facts volume = record { is_away = false; half = None; empty = volume.empty; offline = None }

abbrev pub arm_facts : State → Host → ArmTarget → ArmFacts
arm_facts state host (disk.Volume name) = record { host = host_facts state host; of_group = false; there = has_volume state host name }
arm_facts state host (disk.StateOf group) = record { host = host_facts state host; of_group = true; there = has_group state host group }

-- of the group that a new set joins: where the host has none yet, it is new
abbrev pub group_facts : HostState → GroupFacts
group_facts held = record { is_new = true; is_other = false; sets = 0; groups = length held.groups }

abbrev pub enable_by : State → Host → Bool → List ℕ → List ℕ → List ℕ → VolumeFacts → VolumeFacts → VolumeFacts → EnableFacts
enable_by state host dependent master shadow bitmap for_master for_shadow for_bitmap = record {
  host = host_facts state host;
  dependent = dependent;
  master = for_master;
  shadow = for_shadow;
  bitmap = for_bitmap;
  shadow_twice = bytes_eq shadow master;
  bitmap_twice = bytes_eq bitmap master || bytes_eq bitmap shadow;
  group = group_facts (host_of state host);
  back = 0;
}

abbrev pub enable_facts : State → Host → Bool → List ℕ → List ℕ → List ℕ → EnableFacts
enable_facts state host dependent master shadow bitmap =
    let held = host_of state host in
    enable_by state host dependent master shadow bitmap (volume_facts held master) (volume_facts held shadow) (volume_facts held bitmap)

-- ---- causes as rows

abbrev row : Bool × Refusal → Option Refusal
row cause = then_some cause.0 cause.1

one_row : (holds : Bool) (why : Refusal) (rest : Option Refusal) → cond holds (Some why) rest ≡ option_or (then_some holds why) rest
one_row true why rest = refl
one_row false why rest = refl

pub rows_of : (causes : List (Bool × Refusal)) → first_cause causes ≡ first_row (map row causes)
rows_of [] = refl
rows_of (cause ∷ causes) = one_row cause.0 cause.1 (first_cause causes) ∙ ap (option_or (row cause)) (rows_of causes)

-- ---- what a use says of a role

busy_io : (serves : Use) → then_some (is_bitmap serves) (BusyVolume Bitmap) ≡ then_some (not (takes_io (role_by serves)) || false) (BusyVolume (role_by serves))
busy_io Alone = refl
busy_io (MasterIn group volume) = refl
busy_io (ShadowIn group set) = refl
busy_io (BitmapIn group set) = refl

leads : (serves : Use) → may_be_master serves ≡ may_lead (role_by serves)
leads Alone = refl
leads (MasterIn group volume) = refl
leads (ShadowIn group set) = refl
leads (BitmapIn group set) = refl

alone : (serves : Use) → is_alone serves ≡ has_no_role (role_by serves)
alone Alone = refl
alone (MasterIn group volume) = refl
alone (ShadowIn group set) = refl
alone (BitmapIn group set) = refl

-- ---- the events

pub make_same : (state : State) (host : Host) (name : List ℕ) (blocks : ℕ) → refusal state (Volume host name blocks) ≡ first_row (make_rows (make_facts state host name blocks))
make_same state host name blocks = rows_of (causes state (Volume host name blocks))

-- a range of a volume, by whether it is there
abbrev causes_by : State → Host → HostState → List ℕ → Option VolumeState → ℕ → ℕ → ℕ → List (Bool × Refusal)
causes_by state host held name found at len longest =
    (not (host_of state host).up, Down host)
    ∷ (not (is_some found), NoVolume)
    ∷ (is_bitmap (use_of held name), BusyVolume Bitmap)
    ∷ (nat_lt len 1 || nat_lt longest len, Length len)
    ∷ (nat_lt (reach_of held name) (at + len), Range (reach_of held name))
    ∷ (is_spent held name, NoContents)
    ∷ []

abbrev range_row_by : State → Host → VolumeFacts → ℕ → ℕ → ℕ → Option Refusal
range_row_by state host volume at len longest = first_row (range_rows (range_facts state host volume at len longest) None (access_facts volume))

range_by : (state : State) (host : Host) (held : HostState) (name : List ℕ) (found : Option VolumeState) (at len longest : ℕ)
    → first_cause (causes_by state host held name found at len longest) ≡ range_row_by state host (facts_by held name found) at len longest
range_by state host held name None at len longest = rows_of (causes_by state host held name None at len longest)
range_by state host held name (Some volume) at len longest =
    rows_of (causes_by state host held name (Some volume) at len longest)
    ∙ ap (λ busy. first_row
    (then_some (not (host_of state host).up) (Down host)
    ∷ None
    ∷ busy
    ∷ then_some (nat_lt len 1 || nat_lt longest len) (Length len)
    ∷ then_some (nat_lt (reach_of held name) (at + len)) (Range (reach_of held name))
    ∷ then_some (is_spent held name) NoContents
    ∷ []))
    (busy_io (use_of held name))

abbrev pub range_refused : State → Host → List ℕ → ℕ → ℕ → ℕ → Option Refusal
range_refused state host name at len longest = range_row_by state host (volume_facts (host_of state host) name) at len longest

pub read_same : (state : State) (host : Host) (name : List ℕ) (at len : ℕ) → refusal state (Read host name at len) ≡ range_refused state host name at len longest_read
read_same state host name at len = range_by state host (host_of state host) name (volume_of (host_of state host) name) at len longest_read

pub write_same : (state : State) (host : Host) (name : List ℕ) (at len : ℕ) (pattern : List ℕ) → refusal state (Write host name at len pattern) ≡ range_refused state host name at len longest_write
write_same state host name at len pattern = range_by state host (host_of state host) name (volume_of (host_of state host) name) at len longest_write

pub arm_same : (state : State) (host : Host) (target : ArmTarget) (skip first count : ℕ) → refusal state (Arm host target skip first count) ≡ first_row (arm_early (arm_facts state host target))
arm_same state host (disk.Volume name) skip first count = rows_of (causes state (Arm host (disk.Volume name) skip first count))
arm_same state host (disk.StateOf group) skip first count = rows_of (causes state (Arm host (disk.StateOf group) skip first count))

pub crash_same : (state : State) (host : Host) → refusal state (Crash host) ≡ first_row (host_rows (host_facts state host))
crash_same state host = rows_of (causes state (Crash host))

not_not : (b : Bool) → not (not b) ≡ b
not_not true = refl
not_not false = refl

pub recover_same : (state : State) (host : Host) → refusal state (Recover host) ≡ first_row (recover_rows (host_facts state host))
recover_same state host = rows_of (causes state (Recover host)) ∙ ap (λ up. first_row (then_some up (WrongState Up) ∷ [])) (not_not (host_of state host).up)

-- ---- enabling

-- of three, the last two together
or_three : (a b c : Bool) → (a || b || c) ≡ (a || (b || c))
or_three true b c = refl
or_three false b c = refl

neither_small : (dependent small : Bool) → small ≡ false → (not dependent && small) ≡ false
neither_small true small is = refl
neither_small false small is = is

-- a set is not compact whose shadow is not the smaller
plain_bitmap : (dependent : Bool) (have blocks : ℕ) → nat_lt have blocks ≡ false → bitmap_blocks_of (kind_of dependent have blocks) blocks ≡ bitmap_blocks blocks
plain_bitmap true have blocks is = ap (λ x. bitmap_blocks_of (if x then Compact else Dep) blocks) is
plain_bitmap false have blocks is = refl

-- the causes of enabling, by whether the three volumes are there
abbrev enable_causes_by : State → Host → List ℕ → List ℕ → List ℕ → Option VolumeState → Option VolumeState → Option VolumeState → List (Bool × Refusal)
enable_causes_by state host master shadow bitmap m s b =
    let held = host_of state host in
    let blocks = size_of held master in
    (not held.up, Down host)
    ∷ (not (is_some m && is_some s && is_some b), NoVolume)
    ∷ (not (may_be_master (use_of held master)), BusyVolume (role_of held master))
    ∷ (not (is_alone (use_of held shadow)) || bytes_eq shadow master, BusyVolume (role_of held shadow))
    ∷ (not (is_alone (use_of held bitmap)) || bytes_eq bitmap master || bytes_eq bitmap shadow, BusyVolume (role_of held bitmap))
    ∷ (nat_lt (size_of held shadow) blocks, Size blocks (size_of held shadow))
    ∷ (nat_lt (size_of held bitmap) (bitmap_blocks blocks), Size (bitmap_blocks blocks) (size_of held bitmap))
    ∷ (not (nat_lt (sets_on held) most_sets), Limit most_sets)
    ∷ (is_spent held master, NoContents)
    ∷ []

abbrev enable_facts_by : State → Host → Bool → List ℕ → List ℕ → List ℕ → Option VolumeState → Option VolumeState → Option VolumeState → EnableFacts
enable_facts_by state host dependent master shadow bitmap m s b =
    let held = host_of state host in
    enable_by state host dependent master shadow bitmap (facts_by held master m) (facts_by held shadow s) (facts_by held bitmap b)

-- what the landed state refuses beyond the tables: more than one set, and then a master without contents
abbrev last_rows : HostState → List ℕ → List (Option Refusal)
last_rows held master = then_some (not (nat_lt (sets_on held) most_sets)) (Limit most_sets) ∷ then_some (is_spent held master) NoContents ∷ []

-- the rows of the table before the sizes, and before the limits of groups
abbrev pub use_rows : EnableFacts → List (Option Refusal)
use_rows f = enable_early f ++ None ∷ then_some (not (has_no_role f.bitmap.role) || f.bitmap_twice) (BusyVolume f.bitmap.role) ∷ []

abbrev pub front_rows : EnableFacts → List (Option Refusal)
front_rows f =
    use_rows f
    ++ then_some (not f.dependent && nat_lt f.shadow.blocks f.master.blocks) (Size f.master.blocks f.shadow.blocks)
    ∷ then_some (nat_lt f.bitmap.blocks (bitmap_need f)) (Size (bitmap_need f) f.bitmap.blocks)
    ∷ []

module _ (state : State) (host : Host) (dependent : Bool) (master shadow bitmap : List ℕ) where
  -- the three volumes are there, and the shadow is not smaller than its master
  there_same : (m s b : VolumeState) → nat_lt (size_of (host_of state host) shadow) (size_of (host_of state host) master) ≡ false
      → first_cause (enable_causes_by state host master shadow bitmap (Some m) (Some s) (Some b))
      ≡ first_row (front_rows (enable_facts_by state host dependent master shadow bitmap (Some m) (Some s) (Some b)) ++ last_rows (host_of state host) master)
  there_same m s b large =
      let held = host_of state host in
      let blocks = size_of held master in
      let have = size_of held shadow in
      let busy = or_three (not (is_alone (use_of held bitmap))) (bytes_eq bitmap master) (bytes_eq bitmap shadow) ∙ ap (λ x. not x || (bytes_eq bitmap master || bytes_eq bitmap shadow)) (alone (use_of held bitmap)) in
      let need : bitmap_blocks blocks ≡ bitmap_blocks_of (kind_of dependent have blocks) blocks = sym (plain_bitmap dependent have blocks large) in
      rows_of (enable_causes_by state host master shadow bitmap (Some m) (Some s) (Some b))
      ∙ (λ i. first_row
      (then_some (not held.up) (Down host)
      ∷ None
      ∷ then_some (not (leads (use_of held master) i)) (BusyVolume (role_of held master))
      ∷ then_some (not (alone (use_of held shadow) i) || bytes_eq shadow master) (BusyVolume (role_of held shadow))
      ∷ then_some (busy i) (BusyVolume (role_of held bitmap))
      ∷ then_some ((large ∙ sym (neither_small dependent (nat_lt have blocks) large)) i) (Size blocks have)
      ∷ then_some (nat_lt (size_of held bitmap) (need i)) (Size (need i) (size_of held bitmap))
      ∷ last_rows held master))

  -- whatever volumes are there
  front_same : (m s b : Option VolumeState) → nat_lt (size_of (host_of state host) shadow) (size_of (host_of state host) master) ≡ false
      → first_cause (enable_causes_by state host master shadow bitmap m s b)
      ≡ first_row (front_rows (enable_facts_by state host dependent master shadow bitmap m s b) ++ last_rows (host_of state host) master)
  front_same None s b large = rows_of (enable_causes_by state host master shadow bitmap None s b)
  front_same (Some m) None b large = rows_of (enable_causes_by state host master shadow bitmap (Some m) None b)
  front_same (Some m) (Some s) None large = rows_of (enable_causes_by state host master shadow bitmap (Some m) (Some s) None)
  front_same (Some m) (Some s) (Some b) large = there_same m s b large

  -- the facts of the three volumes as they are
  abbrev facts : EnableFacts
  facts = enable_facts state host dependent master shadow bitmap

  abbrev found : List ℕ → Option VolumeState
  found name = volume_of (host_of state host) name

  -- the rest of the table, where the host has no group
  rest_same : (m s b : Option VolumeState) → (host_of state host).groups ≡ []
      → first_row (front_rows (enable_facts_by state host dependent master shadow bitmap m s b) ++ last_rows (host_of state host) master)
      ≡ first_row (enable_rows (enable_facts_by state host dependent master shadow bitmap m s b) None)
  rest_same None s b none = refl
  rest_same (Some m) None b none = refl
  rest_same (Some m) (Some s) None none = refl
  rest_same (Some m) (Some s) (Some b) none =
      let held = host_of state host in
      let front = front_rows (enable_facts_by state host dependent master shadow bitmap (Some m) (Some s) (Some b)) in
      let few : not (nat_lt (sets_on held) most_sets) ≡ false = ap (λ (groups : List ShadowGroup). not (nat_lt (sum_by (λ (g : ShadowGroup). length g.sets) groups) most_sets)) none in
      let roomy : not (nat_lt (length held.groups) most_groups) ≡ false = ap (λ (groups : List ShadowGroup). not (nat_lt (length groups) most_groups)) none in
      (λ i. first_row (front ++ then_some (few i) (Limit most_sets) ∷ then_some (is_spent held master) NoContents ∷ []))
      ∙ sym (λ i. first_row (front ++ then_some (roomy i) (Limit most_groups) ∷ then_some (is_spent held master) NoContents ∷ []))

  -- the first set of a host, whose shadow is not smaller than its master
  pub enable_same : (host_of state host).groups ≡ [] → nat_lt (size_of (host_of state host) shadow) (size_of (host_of state host) master) ≡ false
      → refusal state (Ii host (command.Enable dependent master shadow bitmap)) ≡ first_row (enable_rows facts None)
  enable_same none large = front_same (found master) (found shadow) (found bitmap) large ∙ rest_same (found master) (found shadow) (found bitmap) none

  -- where there is one already the landed limit stands in the place of the rows behind the sizes
  pub enable_again : not (nat_lt (sets_on (host_of state host)) most_sets) ≡ true → nat_lt (size_of (host_of state host) shadow) (size_of (host_of state host) master) ≡ false
      → refusal state (Ii host (command.Enable dependent master shadow bitmap)) ≡ first_row (front_rows facts ++ Some (Limit most_sets) ∷ [])
  enable_again many large =
      let held = host_of state host in
      front_same (found master) (found shadow) (found bitmap) large
      ∙ first_row-append (front_rows facts) (last_rows held master)
      ∙ ap (λ full. option_or (first_row (front_rows facts)) (first_row (then_some full (Limit most_sets) ∷ then_some (is_spent held master) NoContents ∷ []))) many
      ∙ sym (first_row-append (front_rows facts) (Some (Limit most_sets) ∷ []))

  -- and a shadow that is smaller is refused there
  smaller_by : (m s b : Option VolumeState) → nat_lt (size_of (host_of state host) shadow) (size_of (host_of state host) master) ≡ true
      → first_cause (enable_causes_by state host master shadow bitmap m s b)
      ≡ first_row (use_rows (enable_facts_by state host dependent master shadow bitmap m s b) ++ Some (Size (size_of (host_of state host) master) (size_of (host_of state host) shadow)) ∷ [])
  smaller_by None s b small = rows_of (enable_causes_by state host master shadow bitmap None s b)
  smaller_by (Some m) None b small = rows_of (enable_causes_by state host master shadow bitmap (Some m) None b)
  smaller_by (Some m) (Some s) None small = rows_of (enable_causes_by state host master shadow bitmap (Some m) (Some s) None)
  smaller_by (Some m) (Some s) (Some b) small =
      let held = host_of state host in
      let blocks = size_of held master in
      let have = size_of held shadow in
      let busy = or_three (not (is_alone (use_of held bitmap))) (bytes_eq bitmap master) (bytes_eq bitmap shadow) ∙ ap (λ x. not x || (bytes_eq bitmap master || bytes_eq bitmap shadow)) (alone (use_of held bitmap)) in
      rows_of (enable_causes_by state host master shadow bitmap (Some m) (Some s) (Some b))
      ∙ (λ i. first_row
      (then_some (not held.up) (Down host)
      ∷ None
      ∷ then_some (not (leads (use_of held master) i)) (BusyVolume (role_of held master))
      ∷ then_some (not (alone (use_of held shadow) i) || bytes_eq shadow master) (BusyVolume (role_of held shadow))
      ∷ then_some (busy i) (BusyVolume (role_of held bitmap))
      ∷ then_some (small i) (Size blocks have)
      ∷ then_some (nat_lt (size_of held bitmap) (bitmap_blocks blocks)) (Size (bitmap_blocks blocks) (size_of held bitmap))
      ∷ last_rows held master))

  pub enable_smaller : nat_lt (size_of (host_of state host) shadow) (size_of (host_of state host) master) ≡ true
      → refusal state (Ii host (command.Enable dependent master shadow bitmap))
      ≡ first_row (use_rows facts ++ Some (Size (size_of (host_of state host) master) (size_of (host_of state host) shadow)) ∷ [])
  enable_smaller small = smaller_by (found master) (found shadow) (found bitmap) small
