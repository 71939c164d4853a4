-- The facts that refusals ask of a host.
use Rattle.std.specs.Prelude.{ℕ, ◌+◌, ◌==◌, ◌&&◌, ◌||◌, nat_lt, Bool, true, false, not, is_some, is_none, if◌then◌else◌, Option, None, Some, List, [], ◌∷◌, ◌++◌, length, find}
use Rattle.std.specs.List.{list_any, count_by}
use Rattle.std.specs.Option.{option_map, option_map_or, option_and_then}
use Rattle.std.specs.Str.{bytes_eq}
use Rattle.avs_model.specs.ShadowSets.{ChunkList, chunks_among, ShadowState, Standing, Online, Offline, Exported, chunks_in, is_exported}
use Rattle.avs_model.specs.GroupStates.{GroupState, has_master, set_at}
use Rattle.avs_model.specs.Room.{beyond, has_room, gone_with}
use Rattle.avs_model.specs.Hosts.{Name, AwayMark, ShadowGroup, HostState, is_up, has_volume, blocks_of_volume, marks_of, group_at, group_of, number_in, name_at, set_of, has_set, set_state, is_imported, keeps_import, blocks_on}
use Rattle.avs_model.specs.HostPlaces.{Where, InGroup, where_is, role_of, reach_of, is_marked_away}
use Rattle.avs_model.specs.GroupWork.{ShadowDisk}
use Rattle.avs_seg.specs.Segment.{touch}
use Rattle.avs_model.specs.declared.event.Host.{Host}
use Rattle.avs_model.specs.declared.event.ArmTarget.{ArmTarget}
use Rattle.avs_model.specs.declared.event.ArmTarget.TheVariants as target
use Rattle.avs_model.specs.declared.shadow.Kind.TheVariants.{Ind}
use Rattle.avs_model.specs.declared.product.Way.{Way}
use Rattle.avs_model.specs.declared.product.Way.TheVariants.{ToShadow, ToMaster}
use Rattle.avs_model.specs.declared.facts.HostFacts.{HostFacts}
use Rattle.avs_model.specs.declared.facts.VolumeFacts.{VolumeFacts}
use Rattle.avs_model.specs.declared.facts.SetFacts.{SetFacts}
use Rattle.avs_model.specs.declared.facts.GroupFacts.{GroupFacts}
use Rattle.avs_model.specs.declared.facts.Lack.{Lack}
use Rattle.avs_model.specs.declared.command_facts.EnableFacts.{EnableFacts}
use Rattle.avs_model.specs.declared.command_facts.NamedSetFacts.{NamedSetFacts}
use Rattle.avs_model.specs.declared.command_facts.UpdateFacts.{UpdateFacts}
use Rattle.avs_model.specs.declared.command_facts.OneSetFacts.{OneSetFacts}
use Rattle.avs_model.specs.declared.command_facts.DisableFacts.{DisableFacts}
use Rattle.avs_model.specs.declared.command_facts.OverflowFacts.{OverflowFacts}
use Rattle.avs_model.specs.declared.command_facts.AttachFacts.{AttachFacts}
use Rattle.avs_model.specs.declared.command_facts.SlotsFacts.{SlotsFacts}
use Rattle.avs_model.specs.declared.command_facts.ExportFacts.{ExportFacts}
use Rattle.avs_model.specs.declared.command_facts.ImportFacts.{ImportFacts}
use Rattle.avs_model.specs.declared.command_facts.JoinFacts.{JoinFacts}
use Rattle.avs_model.specs.declared.event_facts.MakeFacts.{MakeFacts}
use Rattle.avs_model.specs.declared.event_facts.RangeFacts.{RangeFacts}
use Rattle.avs_model.specs.declared.event_facts.AccessFacts.{AccessFacts}
use Rattle.avs_model.specs.declared.event_facts.RoomFacts.{RoomFacts}
use Rattle.avs_model.specs.declared.event_facts.ArmFacts.{ArmFacts}
use Rattle.avs_model.specs.declared.event_facts.MoveFacts.{MoveFacts}

abbrev pub host_facts : Host → HostState → HostFacts
host_facts name host = record { name = name; up = is_up host }

-- of the volume of a name: it is empty where its contents are gone
abbrev pub volume_facts : HostState → Name → VolumeFacts
volume_facts host name = record {
  there = has_volume host name;
  role = role_of host name;
  imported = is_imported host name;
  keeps_import = keeps_import host name;
  blocks = blocks_of_volume host name;
  reach = reach_of host name;
  empty = (marks_of host name).spent;
}

-- ---- of a shadow set

-- the two numbers of a set that is offline
abbrev pub lack_of : Standing → Option Lack
lack_of Online = None
lack_of (Offline need slots) = Some (record { need = need; slots = slots })
lack_of (Exported stamp) = None

-- how many chunks of a set lie on its shadow alone; and of the first set of a master that has such chunks
abbrev pub back_count : ShadowState → ℕ
back_count set = chunks_in set.size.blocks set.lists.back

abbrev pub has_back : ShadowState → Bool
has_back set = nat_lt 0 (back_count set)

abbrev pub back_in : GroupState → ℕ → ℕ
back_in group master = option_map_or back_count (find (λ set. has_master master set && has_back set) group.sets) 0

abbrev pub master_is_empty : HostState → ShadowGroup → ShadowState → Bool
master_is_empty host group set = (marks_of host (name_at group.volumes set.master)).spent

-- of no set
abbrev pub no_set : SetFacts
no_set = record { there = false; kind = Ind; exported = false; stopped = false; offline = None; back = 0; left = 0; attached = false; used = 0; master_empty = false; half = None }

abbrev pub facts_of_set : HostState → ShadowGroup → ShadowState → SetFacts
facts_of_set host group set = record {
  there = true;
  kind = set.kind;
  exported = is_exported set.standing;
  stopped = set.lists.stopped;
  offline = lack_of set.standing;
  back = back_in group.state set.master;
  left = chunks_in set.size.blocks set.lists.left;
  attached = is_some set.over;
  used = if is_some set.over then beyond set else 0;
  master_empty = master_is_empty host group set;
  half = None;
}

-- of the set of a name
abbrev pub set_facts : HostState → Name → SetFacts
set_facts host name =
    option_map_or (λ place. option_map_or (facts_of_set host (group_at host place.group)) (set_state host name) no_set) (set_of host name) no_set

-- ---- of commands

-- The group that a new set joins: the one that is named; else the one of which its master is a volume; else the one that has the name of
-- the shadow, which is new where there is none.
abbrev pub led_by : HostState → Name → Option ShadowGroup
led_by host master = find (λ group. is_some (number_in group.volumes master)) host.groups

abbrev pub joined_group : HostState → Option Name → Name → Name → Name
joined_group host (Some group) master shadow = group
joined_group host None master shadow = option_map_or (λ group. group.name) (led_by host master) shadow

abbrev pub sets_in : HostState → Name → ℕ
sets_in host name = option_map_or (λ place. length (group_at host place).sets) (group_of host name) 0

-- a set of another group has that master
abbrev pub leads_elsewhere : HostState → Name → Name → Bool
leads_elsewhere host master name = option_map_or (λ group. not (bytes_eq group.name name)) (led_by host master) false

abbrev pub group_facts : HostState → Name → Name → GroupFacts
group_facts host name master = record {
  is_new = is_none (group_of host name);
  is_other = leads_elsewhere host master name;
  sets = sets_in host name;
  groups = length host.groups;
}

-- how many chunks of a set of that master lie on its shadow alone
abbrev pub back_of_master : HostState → Name → ℕ
back_of_master host master =
    option_map_or (λ group. option_map_or (λ number. back_in group.state number) (number_in group.volumes master) 0) (led_by host master) 0

abbrev pub enable_facts : Host → HostState → Option Name → Bool → Name → Name → Name → EnableFacts
enable_facts name host group dependent master shadow bitmap = record {
  host = host_facts name host;
  dependent = dependent;
  master = volume_facts host master;
  shadow = volume_facts host shadow;
  bitmap = volume_facts host bitmap;
  shadow_twice = bytes_eq shadow master;
  bitmap_twice = bytes_eq bitmap master || bytes_eq bitmap shadow;
  group = group_facts host (joined_group host group master shadow) master;
  back = back_of_master host master;
}

abbrev pub one_set_facts : Host → HostState → Name → OneSetFacts
one_set_facts name host set = record { host = host_facts name host; set = set_facts host set }

abbrev pub disable_facts : Host → HostState → Name → DisableFacts
disable_facts name host set = record { host = host_facts name host; is_import = is_imported host set; set = set_facts host set }

-- ---- of the sets of an update

-- the group and the master of a set, or none
abbrev pub group_name_of : HostState → Name → Name
group_name_of host set = option_map_or (λ place. (group_at host place.group).name) (set_of host set) []

abbrev pub master_of : HostState → Name → Option ℕ
master_of host set = option_map (λ state. state.master) (set_state host set)

abbrev pub same_number : Option ℕ → Option ℕ → Bool
same_number (Some a) (Some b) = a == b
same_number a b = false

-- of a set with those before it; the first of all says the group
abbrev pub named_set_facts : HostState → Name → List Name → ℕ → Name → NamedSetFacts
named_set_facts host first before word set = record {
  set = set_facts host set;
  word = word;
  again = list_any (λ other. bytes_eq set other) before;
  is_other = not (bytes_eq (group_name_of host set) (group_name_of host first));
  master_again = list_any (λ other. same_number (master_of host set) (master_of host other)) before;
}

-- the number of the word of each: those of named sets rise by one, and a group has none
abbrev pub next_word : ℕ → ℕ
next_word word = if word == 0 then 0 else word + 1

abbrev pub named_sets_from : HostState → Name → List Name → ℕ → List Name → List NamedSetFacts
named_sets_from host first before word [] = []
named_sets_from host first before word (set ∷ sets) =
    named_set_facts host first before word set ∷ named_sets_from host first (before ++ set ∷ []) (next_word word) sets

abbrev pub named_sets : HostState → ℕ → List Name → List NamedSetFacts
named_sets host word [] = []
named_sets host word (set ∷ sets) = named_sets_from host set [] word (set ∷ sets)

abbrev pub goes_to_master : Way → Bool
goes_to_master ToShadow = false
goes_to_master ToMaster = true

abbrev pub update_facts : Host → HostState → Way → Bool → UpdateFacts
update_facts name host way group_there = record { host = host_facts name host; to_master = goes_to_master way; group_there = group_there }

-- ---- of overflow volumes, exports and imports

abbrev pub overflow_facts : Host → HostState → Name → OverflowFacts
overflow_facts name host volume = record {
  host = host_facts name host;
  volume = volume_facts host volume;
  overflows = count_by (λ one. one.marks.overflow) host.volumes;
}

-- the volume is attached in a group that is not the set's
abbrev pub attached_elsewhere : HostState → Name → Name → Bool
attached_elsewhere host volume set =
    list_any (λ group. is_some (number_in group.overs volume) && not (bytes_eq group.name (group_name_of host set))) host.groups

abbrev pub attach_facts : Host → HostState → Name → Name → AttachFacts
attach_facts name host volume set = record {
  host = host_facts name host;
  volume = volume_facts host volume;
  elsewhere = attached_elsewhere host volume set;
  set = set_facts host set;
}

abbrev pub slots_facts : Host → HostState → Name → SlotsFacts
slots_facts name host volume = record { host = host_facts name host; volume = volume_facts host volume }

abbrev pub export_facts : Host → HostState → Name → ExportFacts
export_facts name host set = record { host = host_facts name host; set = set_facts host set; stamp = host.stamp }

-- the stamp of a volume that was imported since it was given away
abbrev pub imported_stamp : Option AwayMark → Option ℕ
imported_stamp (Some away) = if away.imported then Some away.stamp else None
imported_stamp None = None

abbrev pub import_facts : Host → HostState → Name → Name → ImportFacts
import_facts name host volume bitmap = record {
  host = host_facts name host;
  volume = volume_facts host volume;
  again = imported_stamp (marks_of host volume).away;
  bitmap = volume_facts host bitmap;
  bitmap_twice = bytes_eq bitmap volume;
  imports = length host.imports;
}

-- the stamp that a volume keeps that last served as the bitmap of an import
abbrev pub kept_stamp : HostState → Name → Option ℕ
kept_stamp host name = option_map (λ bits. bits.stamp) (marks_of host name).bits

-- the stamp with which a set is exported
abbrev pub stamp_of_standing : Standing → ℕ
stamp_of_standing Online = 0
stamp_of_standing (Offline need slots) = 0
stamp_of_standing (Exported stamp) = stamp

abbrev pub set_stamp : HostState → Name → ℕ
set_stamp host set = option_map_or (λ state. stamp_of_standing state.standing) (set_state host set) 0

-- its volume is here, was imported since its export, and is not imported now
abbrev pub came_back : HostState → Name → Bool
came_back host set = is_some (imported_stamp (marks_of host set).away) && not (is_imported host set)

abbrev pub join_facts : Host → HostState → Name → Name → JoinFacts
join_facts name host set bitmap = record {
  host = host_facts name host;
  set = set_facts host set;
  is_back = came_back host set;
  stamp = set_stamp host set;
  bitmap = volume_facts host bitmap;
}

-- ---- of the other statements

-- the name is that of a volume, or of an exported set whose volume was moved away
abbrev pub is_taken : HostState → Name → Bool
is_taken host name = has_volume host name || has_set host name

abbrev pub make_facts : Host → HostState → ℕ → Name → ℕ → MakeFacts
make_facts name host elsewhere volume blocks = record {
  host = host_facts name host;
  taken = is_taken host volume;
  blocks = blocks;
  all_blocks = blocks_on host + elsewhere;
}

abbrev pub range_facts : Host → HostState → Name → ℕ → ℕ → ℕ → RangeFacts
range_facts name host volume at len longest = record {
  host = host_facts name host;
  volume = volume_facts host volume;
  at = at;
  len = len;
  longest = longest;
  place = 0;
}

-- the volume is away, and no import lets it be read and written here
abbrev pub is_gone_away : HostState → Name → Bool
is_gone_away host volume = is_marked_away host volume && not (is_imported host volume)

-- the numbers of a shadow whose set is offline: it cannot be read
abbrev pub lack_at : HostState → Where → Option Lack
lack_at host (InGroup place (ShadowDisk slot)) = option_and_then (λ set. lack_of set.standing) (set_at (group_at host place).state slot)
lack_at host place = None

abbrev pub access_facts : HostState → Name → AccessFacts
access_facts host volume = record {
  is_away = is_gone_away host volume;
  half = None;
  empty = (marks_of host volume).spent;
  offline = lack_at host (where_is host volume);
}

-- a write to a shadow would need more than there is
abbrev pub write_lack : GroupState → ChunkList → ShadowState → Option Lack
write_lack group chunks set =
    if has_room group chunks set then None else let gone = gone_with group chunks set in Some (record { need = gone.need; slots = gone.slots })

abbrev pub room_lack : HostState → Where → List ℕ → Option Lack
room_lack host (InGroup place (ShadowDisk slot)) chunks =
    option_and_then (λ set. write_lack (group_at host place).state (chunks_among chunks) set) (set_at (group_at host place).state slot)
room_lack host place chunks = None

abbrev pub room_facts : HostState → Name → ℕ → ℕ → RoomFacts
room_facts host volume at len = record { offline = room_lack host (where_is host volume) (touch at len); full = None }

-- the disk that is to fail
abbrev pub arm_facts : Host → HostState → ArmTarget → ArmFacts
arm_facts name host (target.Volume volume) = record { host = host_facts name host; of_group = false; there = has_volume host volume }
arm_facts name host (target.StateOf group) = record { host = host_facts name host; of_group = true; there = is_some (group_of host group) }

-- a volume that goes from one host to the other. It may be there a set of its name, whose volume it is
abbrev pub move_facts : Host → HostState → Host → HostState → Name → MoveFacts
move_facts from_name from to_name to volume = record {
  from = host_facts from_name from;
  to = host_facts to_name to;
  volume = volume_facts from volume;
  taken = has_volume to volume;
}
