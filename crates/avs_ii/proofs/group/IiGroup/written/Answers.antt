use Rattle.std.proofs.Common.{rules, ◌≡◌, ◌-◌, ◌<◌, ◌≤◌, ◌∙◌, ℕ, vec_len, length, ap, arith}
use Rattle.avs_chunk.specs.Arming.{written_of}
use Rattle.avs_ii.proofs.Arming.{volume_written_as, none_written_as, set_written_as}
use Rattle.avs_ii.proofs.group.IiGroup.written.Goals as goal

pub returns-then-place-len : goal.returns-then-place-len
returns-then-place-len g c =
    let i = c.self.inside in
    let place : ℕ = c.args.disk - 1 in
    let lt : place < length i.volumes.items = search rules in
    volume_written_as g.D.Disk.seen (g.D.Disk.seen i.state) i.block i.volumes.items i.set c.args.self.now c.self.view_is c.args.disk place (omega (arith, c.if-disk-eq0.false)) c.index.result.now c.index.ensures lt c.written-then-place-len.result c.written-then-place-len.ensures

pub returns-in-Some : goal.returns-in-Some
returns-in-Some g c =
    let i = c.self.inside in
    let place : ℕ = c.args.disk - 1 in
    let le : length i.volumes.items ≤ place = search rules in
    let long : vec_len i.volumes ≡ length i.volumes.items = search rules in
    set_written_as g.D.Disk.seen (g.D.Disk.seen i.state) i.block i.volumes.items i.set c.args.self.now c.self.view_is c.args.disk place (omega (arith, c.if-disk-eq0.false)) c.in-Some.held c.in-Some.is le c.written-in-Some.result
    (c.written-in-Some.ensures ∙ ap (λ (k : ℕ). written_of c.in-Some.held.chunks (place - k)) (c.len-in-Some.ensures ∙ long))

pub returns : goal.returns
returns g c =
    let i = c.self.inside in
    let place : ℕ = c.args.disk - 1 in
    let le : length i.volumes.items ≤ place = search rules in
    none_written_as g.D.Disk.seen (g.D.Disk.seen i.state) i.block i.volumes.items i.set c.args.self.now c.self.view_is c.args.disk place (omega (arith, c.if-disk-eq0.false)) c.in_default.is le
