use Rattle.std.proofs.Common.{rules, ◌<◌, length, sym, ap, subst, ◌∙◌, arith}
use Rattle.std.proofs.lemmas.List.{length-map}
use Rattle.avs_ii.specs.Held.{IiDisks}
use Rattle.avs_ii.specs.Opened.{sets_of}
use Rattle.avs_ii.specs.Calls.{blocks_at}
use Rattle.avs_ii.proofs.TakenApart.{blocks_seen}
use Rattle.avs_ii.proofs.group.IiGroup.volume_size.Goals as goal

pub returns-then-place-len-clause-there : goal.returns-then-place-len-clause-there
returns-then-place-len-clause-there g c =
    let i = c.self.inside in
    let seen = g.D.Disk.seen in
    let lt : c.args.volume < length i.volumes.items = search rules in (
      subst (λ (d : IiDisks). c.args.volume < length d.volumes) c.self.view_is (omega (arith, lt, length-map i.volumes.items seen)),
      c.blocks-then-place-len.ensures ∙ sym (blocks_seen seen (seen i.state) i.block i.volumes.items (sets_of i.set) c.args.volume c.index.result.now lt c.index.ensures) ∙ ap (λ (d : IiDisks). blocks_at d c.args.volume) c.self.view_is,
    )
