-- What each event of a script keeps.
use Rattle.std.proofs.Common.{◌≡◌, ℕ, Bool, true, false, cond, Option, None, Some, List, [], ◌∷◌, length, drop, refl, sym, ◌∙◌, ap, subst, inl, inr}
use Rattle.std.proofs.lemmas.Bool.{cases_Bool, cond-true, cond-false, and_parts, leb-true}
use Rattle.std.specs.Prelude.{nat_le, nat_eq, ◌&&◌}
use Rattle.std.specs.List.{starts_with}
use Rattle.std.specs.Option.{option_map, option_and_then}
use Rattle.std.specs.Str.{bytes_eq}
use lib.Chars.{codes}
use Rattle.avs_model.specs.Names.{host_named, is_volume_name, volume_named, IsVolumeName, is_group_name, disk_named}
use Rattle.avs_model.specs.Words.{number, pattern}
use Rattle.avs_model.specs.Script.{at_volume, volume_event, write_event, read_event, dependent_named, enable_command, ii_command, ii_event, host_alone, arm_event, fault_event, words_event, built}
use Rattle.avs_model.specs.Fits.{IsDiskName, IsNamedCommand, IsNamed, Fits}
use Rattle.avs_model.specs.declared.event.Host.{Host}
use Rattle.avs_model.specs.declared.event.ArmTarget.{ArmTarget}
use Rattle.avs_model.specs.declared.event.ArmTarget.TheVariants as disk
use Rattle.avs_model.specs.declared.event.Event.{Event}
use Rattle.avs_model.specs.declared.event.Event.TheVariants.{Volume, Write, Read, Ii, Arm, Crash, Recover}
use Rattle.avs_model.specs.declared.event.IiCommand.{IiCommand}
use Rattle.avs_model.specs.declared.event.IiCommand.TheVariants.{Enable}

-- some value is handed on
abbrev Passes : {A B : Type 0} → (A → Option B) → Option A → B → Type 0
Passes {A} f o y = (x : A) × (o ≡ Some x) × (f x ≡ Some y)

passes : {A B : Type 0} (f : A → Option B) (o : Option A) (y : B) → option_and_then f o ≡ Some y → Passes f o y
passes f None y is = absurd (cc)
passes f (Some x) y is = (x, refl, is)

mapped : {A B : Type 0} (f : A → B) (o : Option A) (y : B) → option_map f o ≡ Some y → (x : A) × (f x ≡ y)
mapped f None y is = absurd (cc)
mapped f (Some x) y is = (x, cc)

mapped_some : {A B : Type 0} (f : A → B) (o : Option A) (y : B) → option_map f o ≡ Some y → (x : A) × (o ≡ Some x) × (f x ≡ y)
mapped_some f None y is = absurd (cc)
mapped_some f (Some x) y is = (x, refl, cc)

-- one, or else another
either : {A : Type 0} (a : Bool) (x other : Option A) (y : A) (Kept : Type 0) → (x ≡ Some y → Kept) → (other ≡ Some y → Kept) → cond a x other ≡ Some y → Kept
either true x other y Kept in_x in_other is = in_x is
either false x other y Kept in_x in_other is = in_other is

is_volume_name-parts : (name : List ℕ) → is_volume_name name ≡ true → IsVolumeName name
is_volume_name-parts name is =
    let long = and_parts (nat_le 2 (length name)) _ is in
    let short = and_parts (nat_le (length name) 64) _ long.1 in
    record {
      spelled = is;
      least = leb-true 2 (length name) long.0;
      most = leb-true (length name) 64 short.0;
    }

volume_named-some : (word name : List ℕ) → volume_named word ≡ Some name → (is_volume_name word ≡ true) × (word ≡ name)
volume_named-some word name is = elim (cases_Bool (is_volume_name word)) [
  | inl spelled ↦
      let e : Some word ≡ Some name = sym (cond-true (is_volume_name word) (Some word) None spelled) ∙ is in
      (spelled, cc)
  | inr other ↦
      let o : Option (List ℕ) = None in
      let e : o ≡ Some name = sym (cond-false (is_volume_name word) (Some word) None other) ∙ is in absurd (cc)
]

-- what stands at a volume is an event: the volume has a name, and the words behind it make the event of the two
record AtVolume (volume : List ℕ) (made : Host → List ℕ → Option Event) (event : Event) : Type 0 where
  host : Host
  named : IsVolumeName volume
  is : made host volume ≡ Some event

at_volume-some : (host volume : List ℕ) (made : Host → List ℕ → Option Event) (event : Event) → at_volume host volume made ≡ Some event → AtVolume volume made event
at_volume-some host volume made event is =
    let at_host = passes (λ h. option_and_then (λ v. made h v) (volume_named volume)) (host_named host) event is in
    let at_name = passes (λ v. made at_host.0 v) (volume_named volume) event at_host.2 in
    let name = volume_named-some volume at_name.0 at_name.1 in
    record {
      host = at_host.0;
      named = is_volume_name-parts volume name.0;
      is = ap (made at_host.0) name.1 ∙ at_name.2;
    }

volume_event-named : (words : List (List ℕ)) (event : Event) → volume_event words ≡ Some event → IsNamed event
volume_event-named [] event is = absurd (cc)
volume_event-named (a ∷ []) event is = absurd (cc)
volume_event-named (a ∷ b ∷ []) event is = absurd (cc)
volume_event-named (host ∷ volume ∷ blocks ∷ []) event is =
    let at = at_volume-some host volume _ event is in
    let made = mapped (λ n. Volume at.host volume n) (number blocks) event at.is in
    subst (λ e. IsNamed e) made.1 at.named
volume_event-named (a ∷ b ∷ c ∷ d ∷ words) event is = absurd (cc)

write_event-named : (words : List (List ℕ)) (event : Event) → write_event words ≡ Some event → IsNamed event
write_event-named [] event is = absurd (cc)
write_event-named (a ∷ []) event is = absurd (cc)
write_event-named (a ∷ b ∷ []) event is = absurd (cc)
write_event-named (a ∷ b ∷ c ∷ []) event is = absurd (cc)
write_event-named (a ∷ b ∷ c ∷ d ∷ []) event is = absurd (cc)
write_event-named (host ∷ volume ∷ at ∷ len ∷ hex ∷ []) event is =
    let volumes = at_volume-some host volume _ event is in
    let places = passes _ (number at) event volumes.is in
    let lengths = passes _ (number len) event places.2 in
    let made = mapped (λ p. Write volumes.host volume places.0 lengths.0 p) (pattern hex) event lengths.2 in
    subst (λ e. IsNamed e) made.1 volumes.named
write_event-named (a ∷ b ∷ c ∷ d ∷ e ∷ f ∷ words) event is = absurd (cc)

read_event-named : (words : List (List ℕ)) (event : Event) → read_event words ≡ Some event → IsNamed event
read_event-named [] event is = absurd (cc)
read_event-named (a ∷ []) event is = absurd (cc)
read_event-named (a ∷ b ∷ []) event is = absurd (cc)
read_event-named (a ∷ b ∷ c ∷ []) event is = absurd (cc)
read_event-named (host ∷ volume ∷ at ∷ len ∷ []) event is =
    let volumes = at_volume-some host volume _ event is in
    let places = passes _ (number at) event volumes.is in
    let made = mapped (λ n. Read volumes.host volume places.0 n) (number len) event places.2 in
    subst (λ e. IsNamed e) made.1 volumes.named
read_event-named (a ∷ b ∷ c ∷ d ∷ e ∷ words) event is = absurd (cc)

named-volume : (word name : List ℕ) → volume_named word ≡ Some name → IsVolumeName name
named-volume word name is =
    let spelled = volume_named-some word name is in
    subst (λ n. IsVolumeName n) spelled.1 (is_volume_name-parts word spelled.0)

enable_command-named : (words : List (List ℕ)) (command : IiCommand) → enable_command words ≡ Some command → IsNamedCommand command
enable_command-named [] command is = absurd (cc)
enable_command-named (a ∷ []) command is = absurd (cc)
enable_command-named (a ∷ b ∷ []) command is = absurd (cc)
enable_command-named (a ∷ b ∷ c ∷ []) command is = absurd (cc)
enable_command-named (kind ∷ master ∷ shadow ∷ bitmap ∷ []) command is =
    let kinds = passes _ (dependent_named kind) command is in
    let masters = passes _ (volume_named master) command kinds.2 in
    let shadows = passes _ (volume_named shadow) command masters.2 in
    let made = mapped_some (λ b. Enable kinds.0 masters.0 shadows.0 b) (volume_named bitmap) command shadows.2 in
    subst (λ c. IsNamedCommand c) made.2
    (record {
      first = named-volume master masters.0 masters.1;
      second = named-volume shadow shadows.0 shadows.1;
      third = named-volume bitmap made.0 made.1;
    })
enable_command-named (a ∷ b ∷ c ∷ d ∷ e ∷ words) command is = absurd (cc)

ii_command-named : (words : List (List ℕ)) (command : IiCommand) → ii_command words ≡ Some command → IsNamedCommand command
ii_command-named [] command is = absurd (cc)
ii_command-named (letter ∷ words) command is =
    either (bytes_eq letter (codes "-e")) (enable_command words) None command _ (enable_command-named words command) (λ none. absurd (cc)) is

pub ii_event-named : (words : List (List ℕ)) (event : Event) → ii_event words ≡ Some event → IsNamed event
ii_event-named [] event is = absurd (cc)
ii_event-named (host ∷ words) event is =
    let hosts = passes _ (host_named host) event is in
    let made = mapped_some (λ c. Ii hosts.0 c) (ii_command words) event hosts.2 in
    subst (λ e. IsNamed e) made.2 (ii_command-named words made.0 made.1)

-- the disk of a group's state that a word names
abbrev disk_of_state : List ℕ → Option ArmTarget
disk_of_state word = cond (starts_with nat_eq word (codes "state:") && is_group_name (drop 6 word)) (Some (disk.StateOf (drop 6 word))) None

state_named-some : (word : List ℕ) (target : ArmTarget) → disk_of_state word ≡ Some target → IsDiskName target
state_named-some word target is = elim (cases_Bool (starts_with nat_eq word (codes "state:") && is_group_name (drop 6 word))) [
  | inl group ↦
      let e : Some (disk.StateOf (drop 6 word)) ≡ Some target =
      sym (cond-true (starts_with nat_eq word (codes "state:") && is_group_name (drop 6 word)) (Some (disk.StateOf (drop 6 word))) None group) ∙ is in
      let same : disk.StateOf (drop 6 word) ≡ target = cc in
      subst (λ (t : ArmTarget). IsDiskName t) same (and_parts (starts_with nat_eq word (codes "state:")) (is_group_name (drop 6 word)) group).1
  | inr none ↦
      let o : Option ArmTarget = None in
      let e : o ≡ Some target = sym (cond-false (starts_with nat_eq word (codes "state:") && is_group_name (drop 6 word)) (Some (disk.StateOf (drop 6 word))) o none) ∙ is in absurd (cc)
]

-- the disk that a word names has a volume's or a group's name
disk_named-some : (word : List ℕ) (target : ArmTarget) → disk_named word ≡ Some target → IsDiskName target
disk_named-some word target is = elim (cases_Bool (is_volume_name word)) [
  | inl volume ↦
      let e : Some (disk.Volume word) ≡ Some target = sym (cond-true (is_volume_name word) (Some (disk.Volume word)) (disk_of_state word) volume) ∙ is in
      let same : disk.Volume word ≡ target = cc in
      subst (λ (t : ArmTarget). IsDiskName t) same (is_volume_name-parts word volume)
  | inr none ↦ state_named-some word target (sym (cond-false (is_volume_name word) (Some (disk.Volume word)) (disk_of_state word) none) ∙ is)
]

arm_event-named : (words : List (List ℕ)) (event : Event) → arm_event words ≡ Some event → IsNamed event
arm_event-named [] event is = absurd (cc)
arm_event-named (a ∷ []) event is = absurd (cc)
arm_event-named (a ∷ b ∷ []) event is = absurd (cc)
arm_event-named (a ∷ b ∷ c ∷ []) event is = absurd (cc)
arm_event-named (a ∷ b ∷ c ∷ d ∷ []) event is = absurd (cc)
arm_event-named (host ∷ word ∷ skip ∷ first ∷ count ∷ []) event is =
    let hosts = passes _ (host_named host) event is in
    let skips = passes _ (number skip) event hosts.2 in
    let firsts = passes _ (number first) event skips.2 in
    let counts = passes _ (number count) event firsts.2 in
    let made = mapped_some (λ d. Arm hosts.0 d skips.0 firsts.0 counts.0) (disk_named word) event counts.2 in
    subst (λ e. IsNamed e) made.2 (disk_named-some word made.0 made.1)
arm_event-named (a ∷ b ∷ c ∷ d ∷ e ∷ f ∷ words) event is = absurd (cc)

crash-named : (host : Option Host) (event : Event) → option_map Crash host ≡ Some event → IsNamed event
crash-named host event is = let made = mapped Crash host event is in subst (λ e. IsNamed e) made.1 tt

recover-named : (host : Option Host) (event : Event) → option_map Recover host ≡ Some event → IsNamed event
recover-named host event is = let made = mapped Recover host event is in subst (λ e. IsNamed e) made.1 tt

-- one of three, or else another
chosen : (a b c : Bool) (x y z other : Option Event) (event : Event) (Kept : Type 0)
    → (x ≡ Some event → Kept) → (y ≡ Some event → Kept) → (z ≡ Some event → Kept) → (other ≡ Some event → Kept) → cond a x (cond b y (cond c z other)) ≡ Some event → Kept
chosen true b c x y z other event Kept in_x in_y in_z in_other is = in_x is
chosen false true c x y z other event Kept in_x in_y in_z in_other is = in_y is
chosen false false true x y z other event Kept in_x in_y in_z in_other is = in_z is
chosen false false false x y z other event Kept in_x in_y in_z in_other is = in_other is

fault_event-named : (word : List ℕ) (words : List (List ℕ)) (event : Event) → fault_event word words ≡ Some event → IsNamed event
fault_event-named word words event is =
    chosen (bytes_eq word (codes "arm")) (bytes_eq word (codes "crash")) (bytes_eq word (codes "recover")) (arm_event words) (option_map Crash (host_alone words)) (option_map Recover (host_alone words)) None event _
    (arm_event-named words event) (crash-named (host_alone words) event) (recover-named (host_alone words) event) (λ none. absurd (cc)) is

pub words_event-named : (word : List ℕ) (words : List (List ℕ)) (event : Event) → words_event word words ≡ Some event → IsNamed event
words_event-named word words event is =
    chosen (bytes_eq word (codes "volume")) (bytes_eq word (codes "write")) (bytes_eq word (codes "read")) (volume_event words) (write_event words) (read_event words)
    (cond (bytes_eq word (codes "iiadm")) (ii_event words) (fault_event word words)) event _
    (volume_event-named words event) (write_event-named words event) (read_event-named words event)
    (either (bytes_eq word (codes "iiadm")) (ii_event words) (fault_event word words) event _ (ii_event-named words event) (fault_event-named word words event)) is

-- an event that is there, with names
pub built-fits : (event : Event) → built event ≡ true → IsNamed event → Fits event
built-fits event is named = record { there = is; named = named }
