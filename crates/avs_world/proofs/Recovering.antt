-- What a recovery tells of, and the state that it leaves.
use Rattle.std.proofs.Common.{◌≡◌, ℕ, Bool, true, false, not, cond, Option, Some, None, Result, Ok, Err, List, [], ◌∷◌, ◌++◌, length, map, replicate, refl, sym, ◌∙◌, ap, subst, inl, inr}
use Rattle.std.specs.Prelude.{find, ◌==◌, ◌||◌, if◌then◌else◌, IsTrue}
use Rattle.std.specs.List.{flat_map}
use Rattle.std.specs.Option.{option_map, option_map_or, unwrap_or}
use Rattle.std.specs.Result.{IfOk, OnOk}
use Rattle.std.proofs.lemmas.Bool.{false≢true, cases_Bool}
use Rattle.std.proofs.lemmas.List.{length-set}
use Rattle.avs_seg.specs.Image.{Image}
use Rattle.avs_dev.specs.Seen.{Seen}
use Rattle.avs_model.specs.Shadows.{ShadowState, to_copy, to_copy_at}
use Rattle.avs_model.specs.State.{State, VolumeState, HostState, ShadowGroup, is_set, has_set, use_of, image_of, image_by, Use, Alone, MasterIn, ShadowIn, BitmapIn, host_of, disk_place, DiskPlace, OfVolume, OfState}
use Rattle.avs_model.specs.Stages.{StoppedIn, stages, stopped_stages, after_stage, new_group, Stage, Make, Spend, Enable, ArmTear, GoDown, InStage}
use Rattle.avs_model.specs.Recovery.{group_line, set_lines, second_of, is_write, is_command, reads_disks, standing}
use Rattle.avs_model.specs.Filling.{fill}
use Rattle.avs_model.specs.Refusals.{refusal}
use Rattle.avs_model.specs.Good.{Step}
use Rattle.avs_model.specs.Next.{brought_up}
use Rattle.avs_model.specs.declared.event.Host.TheVariants.{P, S}
use Rattle.avs_model.specs.declared.event.Host.{Host}
use Rattle.avs_model.specs.declared.event.IiCommand.{IiCommand}
use Rattle.avs_model.specs.declared.event.IiCommand.TheVariants as command
use Rattle.avs_model.specs.declared.event.Event.{Event}
use Rattle.avs_model.specs.declared.event.Event.TheVariants.{Volume, Write, Read, Ii, Arm, Crash, Recover}
use Rattle.avs_model.specs.declared.recovered.Second.{Second}
use Rattle.avs_model.specs.declared.recovered.Second.TheVariants.{Torn, Kept, Done, Clean}
use Rattle.avs_model.specs.declared.recovered.Recovered.{Recovered}
use Rattle.avs_world.specs.declared.group.Part.{Part}
use Rattle.avs_model.specs.declared.answer.Word.TheVariants.{Up}
use Rattle.avs_model.specs.declared.answer.Refusal.TheVariants.{WrongState}
use Rattle.avs_model.specs.declared.answer.Answer.{Answer}
use Rattle.avs_model.specs.declared.answer.Answer.TheVariants as answers
use Rattle.avs_ii.specs.Held.{IiDisks}
use Rattle.avs_ii.specs.Meaning.{meaning}
use Rattle.avs_ii.specs.Parts.{PartDisks, meaning_of_parts}
use Rattle.avs_world.specs.declared.place.Place.{Place}
use Rattle.avs_world.specs.declared.group.ShadowSet.{ShadowSet}
use Rattle.avs_world.specs.declared.group.Group.{Group}
use Rattle.avs_world.specs.declared.group.Group.TheVariants as group
use Rattle.avs_world.specs.declared.stopped.Stopped.{Stopped}
use Rattle.avs_world.specs.declared.stopped.Stopped.TheVariants as stopped
use Rattle.avs_world.specs.declared.stopped.StoppedWrite.{StoppedWrite}
use Rattle.avs_world.specs.declared.world.World.{World}
use Rattle.avs_world.specs.Views.{GroupView, NoGroup, FreeDisk, InMemory, OnDisks, StoreView, store_view, group_view, view_of, closed, SameApart}
use Rattle.avs_world.specs.Holds.{group_with, name_at, is_enabled, AreGroups, HoldsBy, Holds, IsPhase}
use Rattle.avs_world.specs.Causes.{DiskRose, FaultHasCause}
use Rattle.avs_world.specs.World.{Stands, StopsCommand, Keeps, IsThere, IsExplained, event_of}
use Rattle.avs_world.specs.Calls.{IsEnabled}
use Rattle.avs_world.specs.Recovering.{FailsFinding, IsWaiting, second_by}
use Rattle.avs_world.proofs.Holding.{use_alone, use_in_set, use_as, holds_same_state}
use Rattle.avs_world.proofs.EnableSteps.{rose_closed}
use Rattle.avs_world.proofs.Holding.{open_groups}
use Rattle.avs_world.proofs.OneSet.{role_shadow}
use Rattle.avs_world.proofs.Standing.{explained_apart, stands_up, stands_down}
use Rattle.avs_world.proofs.Writing.{enabled_up}

-- The lines of groups and of sets.

-- where a group is in memory
pub open_lines : (steady : Bool) (names : List (List ℕ)) (places : List (Place Seen)) (set : ShadowSet) (held : IiDisks) (volumes : List VolumeState) (groups : List ShadowGroup)
    → HoldsBy steady names places (InMemory set held) volumes groups
    → (map group_line groups ≡ record { group = set.name; session = 0; place = 0 } ∷ []) × (flat_map set_lines groups ≡ record { set = set.name; left = to_copy_at (meaning held).sets set.slot } ∷ [])
open_lines steady names places set held volumes groups by =
    let is = open_groups steady names places set held volumes groups by.0 by.1 in (
      ap (map group_line) is.1,
      ap (flat_map set_lines) is.1 ∙ ap (λ (n : List ℕ). record { set = n; left = to_copy_at (meaning held).sets set.slot } ∷ []) (sym by.1.set_of.named),
    )

-- none is told of where no group is in memory
pub no_groups : {D : Type 0} (seen : D → Seen) (steady : Bool) (names : List (List ℕ)) (places : List (Place Seen)) (held : Group D) (volumes : List VolumeState) (groups : List ShadowGroup)
    → HoldsBy steady names places (group_view seen held) volumes groups → IsPhase true (group_view seen held) → ((set : ShadowSet) (disks : IiDisks) → held ≡ group.Open set disks → ⊥) → groups ≡ []
no_groups seen steady names places group.None volumes groups by phase other = by.1
no_groups seen steady names places (group.Free disk) volumes groups by phase other = by.1.0
no_groups seen steady names places (group.Open set disks) volumes groups by phase other = absurd (other set disks refl)
no_groups seen steady names places (group.Closed set parts) volumes groups by phase other = absurd (false≢true (sym phase))

pub copied : (o : Option ℕ) (sets : List ShadowState) (slot : ℕ) → o ≡ option_map to_copy (find (λ (s : ShadowState). s.slot == slot) sets) → unwrap_or o 0 ≡ to_copy_at sets slot
copied o sets slot is = ap (λ (x : Option ℕ). unwrap_or x 0) is ∙ by (find (λ (s : ShadowState). s.slot == slot) sets)
  where
    by : (x : Option ShadowState) → unwrap_or (option_map to_copy x) 0 ≡ option_map_or to_copy x 0
    by None = refl
    by (Some s) = refl

-- The host is up again.

-- what is told then
abbrev pub lines : Second → State → Recovered
lines second left = record { host = P; second = second; groups = map group_line left.p.groups; sets = flat_map set_lines left.p.groups }

pub recover_passes : (s : State) → s.p.up ≡ false → refusal s (Recover P) ≡ None
recover_passes s down = ap (λ b. cond (not (not b)) (Some (WrongState Up)) None) down

pub up_again : {D : Type 0} (seen : D → Seen) (steady : Bool) (world : World D) (s left : State) (second : Second) (answer : Answer) → s.p.up ≡ false → StoppedIn s (stopped_stages s P) left
    → second ≡ second_of s.p.stopped (brought_up left P).p → world.up ≡ true → world.stopped ≡ None → Holds steady (view_of seen world) left → IsPhase true (view_of seen world).group → answer ≡ answers.Up (lines second left)
    → (next : State) × (Step steady s (Recover P) answer next) × (Stands seen steady world next)
up_again seen steady world s left second answer down stopped told up none holds phase is = (
  brought_up left P,
  subst (λ (a : Answer). Step steady s (Recover P) a (brought_up left P)) (sym is) (record {
    right = (recover_passes s down, (lines second left, refl, refl));
    next = record { left = left; done = stopped; up = refl; tells = ap (λ (x : Second). lines x left) told };
  }),
  stands_up seen steady world (brought_up left P) up refl refl none (holds_same_state steady (view_of seen world) left (brought_up left P) refl refl refl refl holds) phase,
)

-- the host is down, its disks hold what the stages of a stopped event leave, and that is told of the event
pub record Leaves (steady : Bool) (store : StoreView) (s : State) (second : Second) : Type 0 where
  pub down : s.p.up ≡ false
  pub left : State
  pub stopped : StoppedIn s (stopped_stages s P) left
  pub holds : Holds steady store left
  pub phase : IsPhase true store.group
  pub told : second ≡ second_of s.p.stopped (brought_up left P).p

-- whatever was known of the states before
pub brought : {D E : Type 0} (seen : D → Seen) (Was : Bool → State → Type 0) (mid new : World D) (second : Second) (r : Result Answer E)
    → IfOk r (λ answer. (steady : Bool) (state : State) → Holds steady (view_of seen mid) state → IsPhase true (view_of seen mid).group → answer ≡ answers.Up (lines second state)) → OnOk r (new.up ≡ true)
    → new.shelf ≡ mid.shelf → new.group ≡ mid.group → new.stopped ≡ mid.stopped → mid.stopped ≡ None
    → ((steady : Bool) (s : State) → Was steady s → Leaves steady (view_of seen mid) s second)
    → IfOk r (λ answer. (steady : Bool) (s : State) → Was steady s → (next : State) × (Step steady s (Recover P) answer next) × (Stands seen steady new next))
brought seen Was mid new second (Err e) told up shelf group same_stopped none leaves = tt
brought seen Was mid new second (Ok answer) told up shelf group same_stopped none leaves = λ steady s was.
    let leave = leaves steady s was in
    let view : view_of seen new ≡ view_of seen mid = λ i. store_view seen (shelf i) (group i) in
    up_again seen steady new s leave.left second answer leave.down leave.stopped leave.told up (same_stopped ∙ none)
    (subst (λ (v : StoreView). Holds steady v leave.left) (sym view) leave.holds)
    (subst (λ (v : StoreView). IsPhase true v.group) (sym view) leave.phase)
    (told steady leave.left leave.holds leave.phase)

-- no event was stopped of which something is told
pub second_clean : (stopped : Option Event) (held : HostState) → is_write stopped ≡ false → is_command stopped ≡ false → Clean ≡ second_of stopped held
second_clean None held write command = refl
second_clean (Some (Volume host name blocks)) held write command = refl
second_clean (Some (Write host name at len pattern)) held write command = absurd (false≢true (sym write))
second_clean (Some (Read host name at len)) held write command = refl
second_clean (Some (Ii host c)) held write command = absurd (false≢true (sym command))
second_clean (Some (Arm host target skip first count)) held write command = refl
second_clean (Some (Crash host)) held write command = refl
second_clean (Some (Recover host)) held write command = refl

-- A command was stopped.

has_none : (host : HostState) (name : List ℕ) → host.groups ≡ [] → has_set host name ≡ false
has_none host name none = ap is_set (use_alone host name none)

module _ (s left : State) (dependent : Bool) (master shadow bitmap : List ℕ) (none : s.p.groups ≡ []) where
  -- a group is there only where all is done, and it has the name of the shadow
  enabled_name : (g : ShadowGroup) → StoppedIn s (Spend P bitmap ∷ Enable P dependent master shadow bitmap ∷ []) left → left.p.groups ≡ g ∷ [] → g.name ≡ shadow
  enabled_name g (inl same) is = let e : [] ≡ g ∷ [] = sym (ap (λ (t : State). t.p.groups) same ∙ none) ∙ is in absurd (cc)
  enabled_name g (inr (inl part)) is = absurd part
  enabled_name g (inr (inr (inl same))) is = let e : [] ≡ g ∷ [] = sym (ap (λ (t : State). t.p.groups) same ∙ none) ∙ is in absurd (cc)
  enabled_name g (inr (inr (inr (inl part)))) is = absurd part
  enabled_name g (inr (inr (inr (inr same)))) is =
      let spent = after_stage s (Spend P bitmap) in
      let e : g ∷ [] ≡ new_group spent.p dependent master shadow bitmap ∷ [] =
      sym is ∙ ap (λ (t : State). t.p.groups) same ∙ ap (λ (gs : List ShadowGroup). gs ++ new_group spent.p dependent master shadow bitmap ∷ []) none in
      let f : g ≡ new_group spent.p dependent master shadow bitmap = cc in
      ap (λ (h : ShadowGroup). h.name) f

  command_by : (steady : Bool) (names : List (List ℕ)) (places : List (Place Seen)) (group : GroupView) → HoldsBy steady names places group left.p.volumes left.p.groups → IsPhase true group
      → StoppedIn s (Spend P bitmap ∷ Enable P dependent master shadow bitmap ∷ []) left → second_by group ≡ (if has_set left.p shadow then Done else Kept)
  command_by steady names places NoGroup by phase stopped = sym (ap (λ (b : Bool). if b then Done else Kept) (has_none left.p shadow by.1))
  command_by steady names places (FreeDisk disk) by phase stopped = sym (ap (λ (b : Bool). if b then Done else Kept) (has_none left.p shadow by.1.0))
  command_by steady names places (InMemory set held) by phase stopped =
      let is = open_groups steady names places set held left.p.volumes left.p.groups by.0 by.1 in
      let set_of = by.1.set_of in
      let name : shadow ≡ name_at names set.shadow = sym (enabled_name (group_with names set (meaning held) is.0) stopped is.1) ∙ set_of.named in
      let used = use_in_set names left.p set (meaning held) is.0 is.1 (name_at names set.shadow) set.shadow set_of set_of.shadow_there in
      let has : has_set left.p shadow ≡ true = ap (has_set left.p) name ∙ ap is_set used ∙ ap (λ (r : Part). is_set (use_as r)) (role_shadow set set_of.shadow_differs) in
      sym (ap (λ (b : Bool). if b then Done else Kept) has)
  command_by steady names places (OnDisks set parts) by phase stopped = absurd (false≢true (sym phase))

pub second_command : (steady : Bool) (store : StoreView) (s left : State) → StopsCommand s.p → StoppedIn s (stopped_stages s P) left → Holds steady store left → IsPhase true store.group
    → second_by store.group ≡ second_of s.p.stopped (brought_up left P).p
second_command steady store s left stops stopped holds phase = of stops.command stops.is
  where
    of : (command : IiCommand) → s.p.stopped ≡ Some (Ii P command) → second_by store.group ≡ second_of s.p.stopped (brought_up left P).p
    of (command.Enable dependent master shadow bitmap) is =
        command_by s left dependent master shadow bitmap stops.none steady store.names store.places store.group holds.by phase
        (subst (λ (o : Option Event). StoppedIn s (option_map_or (stages s) o []) left) is stopped)
        ∙ ap (λ (o : Option Event). second_of o (brought_up left P).p) (sym is)

-- No command was stopped: the set is enabled.
pub enabled : (group : GroupView) (held : HostState) → IsPhase false group → IsExplained group held → is_command held.stopped ≡ false → IsEnabled group
enabled NoGroup held phase explained none = tt
enabled (FreeDisk disk) held phase explained none = tt
enabled (InMemory set disks) held phase explained none = absurd (false≢true phase)
enabled (OnDisks set parts) held phase explained none = elim (cases_Bool (is_enabled set parts)) [
  | inl is ↦ is
  | inr other ↦ absurd (false≢true (sym none ∙ explained other))
]

-- A fault was answered: disks are read.

one_stage : (s left : State) (stage : Stage) → (InStage s stage left → ⊥) → length (after_stage s stage).p.groups ≡ length s.p.groups → StoppedIn s (stage ∷ []) left → length left.p.groups ≡ length s.p.groups
one_stage s left stage none kept (inl same) = ap (λ (t : State). length t.p.groups) same
one_stage s left stage none kept (inr (inl part)) = absurd (none part)
one_stage s left stage none kept (inr (inr same)) = ap (λ (t : State). length t.p.groups) same ∙ kept

made : (s : State) (host : Host) (name : List ℕ) (blocks : ℕ) → length (after_stage s (Make host name blocks)).p.groups ≡ length s.p.groups
made s P name blocks = refl
made s S name blocks = refl

armed : (s : State) (host : Host) (disk : DiskPlace) → length (after_stage s (ArmTear host disk)).p.groups ≡ length s.p.groups
armed s P (OfVolume name) = refl
armed s S (OfVolume name) = refl
armed s P (OfState group) = length-set s.p.groups group _
armed s S (OfState group) = refl

down : (s : State) (host : Host) → length (after_stage s (GoDown host)).p.groups ≡ length s.p.groups
down s P = refl
down s S = refl

-- an event that is no write and no command makes no group
groups_kept : (s left : State) (o : Option Event) → is_write o ≡ false → is_command o ≡ false → StoppedIn s (option_map_or (stages s) o []) left → length left.p.groups ≡ length s.p.groups
groups_kept s left None write command stopped = ap (λ (t : State). length t.p.groups) stopped
groups_kept s left (Some (Volume host name blocks)) write command stopped = one_stage s left (Make host name blocks) (λ part. part) (made s host name blocks) stopped
groups_kept s left (Some (Write host name at len pattern)) write command stopped = absurd (false≢true (sym write))
groups_kept s left (Some (Read host name at len)) write command stopped = ap (λ (t : State). length t.p.groups) stopped
groups_kept s left (Some (Ii host c)) write command stopped = absurd (false≢true (sym command))
groups_kept s left (Some (Arm host target skip first count)) write command stopped =
    one_stage s left (ArmTear host (disk_place (host_of s host) target)) (λ part. part) (armed s host (disk_place (host_of s host) target)) stopped
groups_kept s left (Some (Crash host)) write command stopped = one_stage s left (GoDown host) (λ part. part) (down s host) stopped
groups_kept s left (Some (Recover host)) write command stopped = ap (λ (t : State). length t.p.groups) stopped

pub reads_write : (s : State) → is_write s.p.stopped ≡ true → IsTrue (reads_disks s.p)
reads_write s write = λ i. write i || is_command s.p.stopped || not (length s.p.groups == 0)

-- where a set is not enabled a command was stopped; and else its group is there
pub reads_group : (steady : Bool) (store : StoreView) (s left : State) (set : ShadowSet) (parts : PartDisks) → store.group ≡ OnDisks set parts → StoppedIn s (stopped_stages s P) left → Holds steady store left
    → IsExplained store.group s.p → IsTrue (reads_disks s.p)
reads_group steady store s left set parts is stopped holds explained = elim (cases_Bool (is_write s.p.stopped)) [
  | inl write ↦ reads_write s write
  | inr no_write ↦ elim (cases_Bool (is_command s.p.stopped)) [
    | inl command ↦ (λ i. no_write i || command i || not (length s.p.groups == 0))
    | inr no_command ↦
        let count : length s.p.groups ≡ 1 = sym (groups_kept s left s.p.stopped no_write no_command stopped) ∙ there no_command in
        (λ i. no_write i || no_command i || not (count i == 0))
  ]
]
  where
    there : is_command s.p.stopped ≡ false → length left.p.groups ≡ 1
    there none =
        let by = subst (λ (g : GroupView). HoldsBy steady store.names store.places g left.p.volumes left.p.groups) is holds.by in
        let on = enabled (OnDisks set parts) s.p refl (subst (λ (g : GroupView). IsExplained g s.p) is explained) none in
        let are = subst (λ (b : Bool). AreGroups steady store.names set (meaning_of_parts parts) by.1.disks.state b left.p.groups) on by.1.are in
        ap (λ (gs : List ShadowGroup). length gs) are.1

-- the host stays down, with the event that was stopped before
pub stays_down : (steady : Bool) (s : State) → s.p.up ≡ false → IsTrue (reads_disks s.p) → steady ≡ false → Step steady s (Recover P) (answers.Faulted P) s
stays_down steady s is_down reads other = record {
  right = record { passes = recover_passes s is_down; uses = (refl, reads); may_fail = inl other };
  next = record { left = s; tear = inr (other, refl); down = (λ i. record s { p = record s.p { up = is_down i } }) };
}

-- the world then stands for the same
pub unfound_stands : {D : Type 0} (seen : D → Seen) (steady : Bool) (old new : World D) (s : State) → Stands seen steady old s → old.up ≡ false → new.up ≡ old.up → new.stopped ≡ old.stopped
    → FailsFinding (view_of seen old) (view_of seen new) → (next : State) × (Step steady s (Recover P) (answers.Faulted P) next) × (Stands seen steady new next)
unfound_stands seen steady old new s stands is_down same_up same_stopped fails =
    let explained : IsExplained (OnDisks fails.set fails.parts) s.p = subst (λ (g : GroupView). IsExplained g s.p) fails.was stands.explained in (
      s,
      stays_down steady s (sym stands.up ∙ is_down) (reads_group steady (view_of seen old) s stands.left fails.set fails.parts fails.was stands.stopped stands.holds stands.explained) (fails.unsteady steady stands.left stands.holds),
      record {
        up = same_up ∙ stands.up;
        none_stopped = stands.none_stopped;
        keeps = subst (λ (o : Option Stopped). Keeps o s.p) (sym same_stopped) stands.keeps;
        left = stands.left;
        stopped = stands.stopped;
        there = subst (λ (o : Option Stopped). IsThere o stands.left) (sym same_stopped) stands.there;
        holds = fails.holds steady stands.left stands.holds;
        phase = subst (IsPhase new.up) (sym fails.is) (same_up ∙ is_down);
        explained = subst (λ (g : GroupView). IsExplained g s.p) (sym fails.is) (λ off. explained (sym fails.enabled ∙ off));
      },
    )

-- A write was stopped.

image_by_up : (held : HostState) (name : List ℕ) (use_is : Use) → image_by (record held { up = true; stopped = None }) name use_is ≡ image_by held name use_is
image_by_up held name Alone = refl
image_by_up held name (MasterIn group volume) = refl
image_by_up held name (ShadowIn group set) = refl
image_by_up held name (BitmapIn group set) = refl

-- these of its blocks stand
pub second_write : (s left : State) (write : StoppedWrite) (blocks : List ℕ) → s.p.stopped ≡ Some (event_of write) → blocks ≡ standing (image_of left.p write.volume) write.at (replicate write.len (fill write.pattern))
    → Torn write.volume write.at blocks ≡ second_of s.p.stopped (brought_up left P).p
second_write s left write blocks kept is =
    ap (Torn write.volume write.at) (is ∙ ap (λ (img : Image). standing img write.at (replicate write.len (fill write.pattern))) (sym (image_by_up left.p write.volume (use_of left.p write.volume))))
    ∙ ap (λ (o : Option Event). second_of o (brought_up left P).p) (sym kept)

-- its blocks could not be read: all stays
pub write_unread : {D : Type 0} (seen : D → Seen) (steady : Bool) (store mid : StoreView) (new : World D) (s : State) (write : StoppedWrite) (answer : Answer) (waiting : IsWaiting steady store write s) → Holds steady mid waiting.left
    → IsPhase true mid.group → steady ≡ false → SameApart mid.group → view_of seen new ≡ record mid { group = closed mid.group } → new.up ≡ false → new.stopped ≡ Some (stopped.Write write) → answer ≡ answers.Faulted P
    → (next : State) × (Step steady s (Recover P) answer next) × (Stands seen steady new next)
write_unread seen steady store mid new s write answer waiting holds phase other same view is_down kept is = (
  s,
  subst (λ (a : Answer). Step steady s (Recover P) a s) (sym is) (stays_down steady s waiting.down (reads_write s (ap is_write waiting.is)) other),
  stands_down seen steady new s mid waiting.left is_down waiting.down view same (subst (λ (o : Option Stopped). Keeps o s.p) (sym kept) waiting.is) waiting.stopped
      (subst (λ (o : Option Stopped). IsThere o waiting.left) (sym kept) waiting.there) holds (explained_apart mid.group s.p (enabled_up steady mid waiting.left holds phase)),
)

-- the disks of a group that is taken apart have failed as often
pub rose_apart : (old mid new : StoreView) (answer : Answer) → SameApart mid.group → new ≡ record mid { group = closed mid.group } → answer ≡ answers.Faulted P → DiskRose old mid → FaultHasCause old new answer
rose_apart old mid new answer same view is rose =
    subst (λ (a : Answer). FaultHasCause old new a) (sym is) (subst (λ (v : StoreView). DiskRose old v) (sym view) (rose_closed old mid mid.group same rose))
