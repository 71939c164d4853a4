use Rattle.std.proofs.Common.{Ok, List, [], map, sym, subst, arith}
use Rattle.avs_code.specs.declared.group_blocks.GroupBlock.{GroupBlock}
use Rattle.avs_ii.specs.Kept.{IsKept}
use Rattle.avs_ii.specs.Making.{Opens, Formats, empty_block}
use Rattle.avs_ii.proofs.Making.{opens_new, kept_new}
use Rattle.avs_ii.proofs.group.IiGroup.new.Goals as goal

pub invariant_of-result : goal.invariant_of-result
invariant_of-result g c =
    let old = g.D.Disk.seen c.args.state in
    let new = g.D.Disk.seen c.format.new.state in
    let is = c.empty_block-block.ensures.is in
    let formats = subst (λ (b : GroupBlock). Formats old b (Ok c.in-Ok.field-0) new) is c.in-Ok.ensures in
    let kept = kept_new old new c.requires formats in (
      subst (λ (b : GroupBlock). IsKept new b (map g.D.Disk.seen c.new.result.items) []) (sym is)
          (subst (λ (l : List g.row.D.Denot). IsKept new empty_block (map g.D.Disk.seen l) []) (sym c.new.ensures.items) kept),
      record { empty = c.new-in-Ok.ensures.len; place = omega arith; none = c.new-in-Ok-2.ensures.len },
    )

pub returns-in-Ok-clause-opens : goal.returns-in-Ok-clause-opens
returns-in-Ok-clause-opens g c =
    let old = g.D.Disk.seen c.args.state in
    let new = g.D.Disk.seen c.format.new.state in
    let is = c.empty_block-block.ensures.is in
    let formats = subst (λ (b : GroupBlock). Formats old b (Ok c.in-Ok.field-0) new) is c.in-Ok.ensures in
    subst (λ (b : GroupBlock). Opens old (record { state = new; block = b; volumes = map g.D.Disk.seen c.new.result.items; sets = [] })) (sym is)
    (subst (λ (l : List g.row.D.Denot). Opens old (record { state = new; block = empty_block; volumes = map g.D.Disk.seen l; sets = [] })) (sym c.new.ensures.items) (opens_new old new c.requires formats))
