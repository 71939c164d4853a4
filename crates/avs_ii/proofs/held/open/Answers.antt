use Rattle.std.proofs.Common.{ℕ, ◌<◌, map, sym, subst}
use Rattle.std.specs.Option.{option_map}
use Rattle.avs_dev.specs.declared.back.Why.{Why}
use Rattle.avs_ii.specs.SetDisks.{set_disks}
use Rattle.avs_ii.specs.Parts.{size_of}
use Rattle.avs_ii.specs.Opening.{OpensChunks, ChunksRefused, SetRefused, IsPlacedOn}
use Rattle.avs_ii.proofs.OpenSets.{opens_set, refused_set}
use Rattle.avs_ii.proofs.held.open.Goals as goal

pub returns-in-Ok-clause-opens : goal.returns-in-Ok-clause-opens
returns-in-Ok-clause-opens g c =
    let seen = g.D.Disk.seen in
    let slots = c.args.block.now.slots in
    let volumes = map seen c.args.volumes.now in
    let s = set_disks seen c.args.part in
    let on : IsPlacedOn slots volumes s c.in-Some.blocks = c.in-Some.ensures.placed in
    let some : 0 < size_of volumes s.master = subst (λ (n : ℕ). 0 < n) on.size on.some in
    opens_set slots volumes s c.in-Ok.chunks on.placed some (subst (λ (n : ℕ). OpensChunks slots s.slot s.kind s.shadow s.bitmap n c.in-Ok.chunks) on.size c.in-Ok.ensures.opens)

pub returns-in-Err-clause-refused : goal.returns-in-Err-clause-refused
returns-in-Err-clause-refused g c =
    let seen = g.D.Disk.seen in
    let slots = c.args.block.now.slots in
    let volumes = map seen c.args.volumes.now in
    let s = set_disks seen c.args.part in
    let on : IsPlacedOn slots volumes s c.in-Some.blocks = c.in-Some.ensures.placed in
    let some : 0 < size_of volumes s.master = subst (λ (n : ℕ). 0 < n) on.size on.some in
    let parts = c.in-Err.refused.parts in
    subst (λ (y : Why). SetRefused slots volumes s y (record s { shadow = option_map seen parts.0; bitmap = seen parts.1 })) (sym c.between.ensures)
    (refused_set slots volumes s on.placed some c.in-Err.refused.why (option_map seen parts.0) (seen parts.1)
    (subst (λ (n : ℕ). ChunksRefused slots s.slot s.shadow s.bitmap n c.in-Err.refused.why (seen parts.1)) on.size c.in-Err.ensures.refused)
    c.in-Err.ensures.shadow_back c.in-Err.ensures.bitmap_back c.in-Err.ensures.later)
