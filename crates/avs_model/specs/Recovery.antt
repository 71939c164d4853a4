-- What is told of a host that is up again.
use Rattle.std.specs.Prelude.{ℕ, ◌+◌, ◌||◌, ◌==◌, not, Bool, true, false, Option, Some, List, length, map, replicate, if◌then◌else◌}
use Rattle.std.specs.List.{filter, flat_map, range_with_len}
use Rattle.std.specs.Str.{bytes_eq}
use Rattle.avs_seg.specs.Image.{Image, block_at}
use Rattle.avs_model.specs.Filling.{fill}
use Rattle.avs_model.specs.Shadows.{to_copy_at}
use Rattle.avs_model.specs.State.{State, HostState, ShadowGroup, host_of, image_of, has_set}
use Rattle.avs_model.specs.declared.event.Host.{Host}
use Rattle.avs_model.specs.declared.event.IiCommand.{IiCommand}
use Rattle.avs_model.specs.declared.event.IiCommand.TheVariants as command
use Rattle.avs_model.specs.declared.event.Event.{Event}
use Rattle.avs_model.specs.declared.event.Event.TheVariants.{Write, Ii}
use Rattle.avs_model.specs.declared.recovered.GroupLine.{GroupLine}
use Rattle.avs_model.specs.declared.recovered.SetLine.{SetLine}
use Rattle.avs_model.specs.declared.recovered.Second.{Second}
use Rattle.avs_model.specs.declared.recovered.Second.TheVariants.{Torn, Kept, Done, Clean}
use Rattle.avs_model.specs.declared.recovered.Recovered.{Recovered}

-- those of these blocks, counted from 0, that the image now has from that place on
abbrev pub standing : Image → ℕ → Image → List ℕ
standing img at blocks = filter (λ i. bytes_eq (block_at img (at + i)) (block_at blocks i)) (range_with_len 0 (length blocks))

-- whether what a command commits stands
abbrev pub is_committed : IiCommand → HostState → Bool
is_committed (command.Enable dependent master shadow bitmap) held = has_set held shadow

-- the line on the event in which a fault stopped the host, or none
abbrev pub second_of : Option Event → HostState → Second
second_of (Some (Write host name at len pattern)) held = Torn name at (standing (image_of held name) at (replicate len (fill pattern)))
second_of (Some (Ii host command)) held = if is_committed command held then Done else Kept
second_of stopped held = Clean

-- the line of a group: no session was begun in it yet
abbrev pub group_line : ShadowGroup → GroupLine
group_line group = record { group = group.name; session = 0; place = 0 }

-- the lines of its sets, each with how many of its chunks are to be copied
abbrev pub set_lines : ShadowGroup → List SetLine
set_lines group = map (λ set. record { set = set.shadow; left = to_copy_at group.state.sets set.slot }) group.sets

-- all lines
abbrev pub told_of : Option Event → Host → State → Recovered
told_of stopped host new =
    let held = host_of new host in
    record { host = host; second = second_of stopped held; groups = map group_line held.groups; sets = flat_map set_lines held.groups }

-- a write was stopped, of which recovery reads the blocks
abbrev pub is_write : Option Event → Bool
is_write (Some (Write host name at len pattern)) = true
is_write stopped = false

-- a command was stopped
abbrev pub is_command : Option Event → Bool
is_command (Some (Ii host command)) = true
is_command stopped = false

-- recovery reads disks: the written blocks, or those of groups
abbrev pub reads_disks : HostState → Bool
reads_disks held = is_write held.stopped || is_command held.stopped || not (length held.groups == 0)
