use Rattle.std.proofs.Common.{◌≡◌, ◌<◌, length, map, refl, sym, ◌∙◌}
use Rattle.avs_ii.specs.SetDisks.{set_disks}
use Rattle.avs_ii.specs.Parts.{size_of}
use Rattle.avs_ii.proofs.OpenSets.{no_block, placed_slot, some_size, size_seen, size_placed, size_there}
use Rattle.avs_ii.proofs.held.placed_blocks.Goals as goal

pub returns-then-blocks-eq0-clause-odd : goal.returns-then-blocks-eq0-clause-odd
returns-then-blocks-eq0-clause-odd g c =
    let seen = g.D.Disk.seen in
    let slots = c.args.block.now.slots in
    let volumes = map seen c.args.volumes.now in
    let s = set_disks seen c.args.part.now in
    let placed = size_placed seen c.args.volumes.now slots s (sym c.is_placed.ensures ∙ c.if-not-is_placed.false) in
    let there : c.args.part.now.master < length c.args.volumes.now = size_there seen c.args.volumes.now slots s placed in
    let size : c.blocks-blocks.result ≡ size_of volumes c.args.part.now.master = c.blocks-blocks.ensures ∙ sym (size_seen seen c.args.volumes.now c.args.part.now.master c.index-volumes-part.result there c.index-volumes-part.is) in
    no_block slots volumes s (sym size ∙ c.if-blocks-eq0.true)

pub returns-clause-placed : goal.returns-clause-placed
returns-clause-placed g c =
    let seen = g.D.Disk.seen in
    let slots = c.args.block.now.slots in
    let volumes = map seen c.args.volumes.now in
    let s = set_disks seen c.args.part.now in
    let placed = size_placed seen c.args.volumes.now slots s (sym c.is_placed.ensures ∙ c.if-not-is_placed.false) in
    let there : c.args.part.now.master < length c.args.volumes.now = size_there seen c.args.volumes.now slots s placed in
    let size : c.blocks-blocks.result ≡ size_of volumes c.args.part.now.master = c.blocks-blocks.ensures ∙ sym (size_seen seen c.args.volumes.now c.args.part.now.master c.index-volumes-part.result there c.index-volumes-part.is) in
    record { placed = placed; slot = placed_slot slots volumes s placed; size = size; some = some_size c.blocks-blocks.result c.blocks-blocks.result c.if-blocks-eq0.false refl }
