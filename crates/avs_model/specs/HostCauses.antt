-- What an event on one host is refused for: the first row of its table, over the facts of the host.
use Rattle.std.specs.Prelude.{ℕ, ◌+◌, Bool, true, is_some, Option, None, List, []}
use Rattle.avs_model.specs.Limits.{longest_write, longest_read}
use Rattle.avs_model.specs.Terms.{Terms, Chosen, lets_arm}
use Rattle.avs_model.specs.Hosts.{HostState, group_of}
use Rattle.avs_model.specs.HostFacts.{host_facts, enable_facts, disable_facts, one_set_facts, named_sets, update_facts, overflow_facts, attach_facts, slots_facts, export_facts, import_facts, join_facts, make_facts, range_facts, access_facts, room_facts, arm_facts, kept_stamp}
use Rattle.avs_model.specs.HostEvents.{sets_of_target}
use Rattle.avs_model.specs.Rows.{first_row}
use Rattle.avs_model.specs.EnableRows.{enable_early, enable_rows}
use Rattle.avs_model.specs.UpdateRows.{update_rows}
use Rattle.avs_model.specs.SetRows.{disable_rows, abort_rows, copy_rows, status_rows, overflow_rows, slots_rows, attach_rows, detach_rows, export_rows, import_early, import_rows, join_early, join_rows}
use Rattle.avs_model.specs.RangeRows.{range_rows, write_rows}
use Rattle.avs_model.specs.HostRows.{make_rows, host_rows, recover_rows, word_rows, arm_rows}
use Rattle.avs_model.specs.declared.answer.Refusal.{Refusal}
use Rattle.avs_model.specs.declared.event.Host.{Host}
use Rattle.avs_model.specs.declared.product.Elsewhere.{Elsewhere}
use Rattle.avs_model.specs.declared.product.IiTarget.{IiTarget}
use Rattle.avs_model.specs.declared.product.IiTarget.TheVariants.{Sets, Group}
use Rattle.avs_model.specs.declared.product.IiCommand.{IiCommand}
use Rattle.avs_model.specs.declared.product.IiCommand.TheVariants.{Enable, Disable, Update, Abort, Finish, MakeOverflow, Attach, Detach, OverflowStatus, Export, Import, Join, List as ListSets, Status}
use Rattle.avs_model.specs.declared.product.Event.{Event}
use Rattle.avs_model.specs.declared.product.Event.TheVariants.{Volume, Write, Read, Ii, IiBad, Copy, Arm, Crash, Recover, Move}

-- the number of the word of the first set of an update, which stands behind the words before the command, the command and the way; a
-- group has none
abbrev pub first_word : IiTarget → ℕ → ℕ
first_word (Sets names) shift = shift + 2
first_word (Group group) shift = 0

abbrev pub is_target_there : HostState → IiTarget → Bool
is_target_there host (Sets names) = true
is_target_there host (Group group) = is_some (group_of host group)

-- the rows of a command
abbrev pub command_causes : Host → HostState → IiCommand → List (Option Refusal)
command_causes name host (Enable group tag dependent master shadow bitmap) =
    enable_rows (enable_facts name host group dependent master shadow bitmap) (kept_stamp host shadow)
command_causes name host (Disable volume) = disable_rows (disable_facts name host volume)
command_causes name host (Update way whole target shift) =
    update_rows (update_facts name host way (is_target_there host target)) (named_sets host (first_word target shift) (sets_of_target host target))
command_causes name host (Abort set) = abort_rows (one_set_facts name host set)
command_causes name host (Finish set) = copy_rows (one_set_facts name host set)
command_causes name host (MakeOverflow volume) = overflow_rows (overflow_facts name host volume)
command_causes name host (Attach volume set) = attach_rows (attach_facts name host volume set)
command_causes name host (Detach set) = detach_rows (one_set_facts name host set)
command_causes name host (OverflowStatus volume) = slots_rows (slots_facts name host volume)
command_causes name host (Export set) = export_rows (export_facts name host set)
command_causes name host (Import volume bitmap) = import_rows (import_facts name host volume bitmap) (kept_stamp host bitmap)
command_causes name host (Join set bitmap) = join_rows (join_facts name host set bitmap) (kept_stamp host bitmap)
command_causes name host ListSets = host_rows (host_facts name host)
command_causes name host (Status set) = status_rows (one_set_facts name host set)

-- the rows of an event on one host; a volume that moves is refused by two
abbrev pub causes : Terms → Elsewhere → Chosen → HostState → Event → List (Option Refusal)
causes terms other chosen host (Volume name volume blocks) = make_rows (make_facts other.name host other.blocks volume blocks)
causes terms other chosen host (Write name volume at len pattern) =
    write_rows (range_facts other.name host volume at len longest_write) None (access_facts host volume) (room_facts host volume at len)
causes terms other chosen host (Read name volume at len) = range_rows (range_facts other.name host volume at len longest_read) None (access_facts host volume)
causes terms other chosen host (Ii name command) = command_causes other.name host command
causes terms other chosen host (IiBad name word) = word_rows (host_facts other.name host) word
causes terms other chosen host (Copy name set) = copy_rows (one_set_facts other.name host set)
causes terms other chosen host (Arm name target skip first count) = arm_rows (arm_facts other.name host target) (lets_arm terms chosen)
causes terms other chosen host (Crash name) = host_rows (host_facts other.name host)
causes terms other chosen host (Recover name) = recover_rows (host_facts other.name host)
causes terms other chosen host (Move volume from to) = []

-- the refusal of an event
abbrev pub refusal : Terms → Elsewhere → Chosen → HostState → Event → Option Refusal
refusal terms other chosen host event = first_row (causes terms other chosen host event)

-- The rows that are asked before a disk is read: a command may look at the label of a volume, and a write to a shadow at what was written
-- before. Where that fails, the rows behind it are not known. Of all others these are all rows.
abbrev pub early_command_causes : Host → HostState → IiCommand → List (Option Refusal)
early_command_causes name host (Enable group tag dependent master shadow bitmap) =
    enable_early (enable_facts name host group dependent master shadow bitmap)
early_command_causes name host (Import volume bitmap) = import_early (import_facts name host volume bitmap)
early_command_causes name host (Join set bitmap) = join_early (join_facts name host set bitmap)
early_command_causes name host command = command_causes name host command

abbrev pub early_causes : Terms → Elsewhere → Chosen → HostState → Event → List (Option Refusal)
early_causes terms other chosen host (Write name volume at len pattern) =
    range_rows (range_facts other.name host volume at len longest_write) None (access_facts host volume)
early_causes terms other chosen host (Ii name command) = early_command_causes other.name host command
early_causes terms other chosen host event = causes terms other chosen host event

abbrev pub early_refusal : Terms → Elsewhere → Chosen → HostState → Event → Option Refusal
early_refusal terms other chosen host event = first_row (early_causes terms other chosen host event)
