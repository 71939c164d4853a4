use Rattle.std.proofs.Common.{subst, sym, arith}
use Rattle.std.proofs.lemmas.Result.{on_ok_weaker}
use Rattle.avs_code.specs.Label.{IsLabel}
use Rattle.avs_code.specs.declared.labels.Label.{Label}
use Rattle.avs_over.proofs.Labels.{labelled}
use Rattle.avs_over.proofs.formats.format.Goals as goal

pub returns-clause-labelled : goal.returns-clause-labelled
returns-clause-labelled g c told =
    let is = subst (λ (x : Label). IsLabel c.put_label.new.out x) c.over_label.ensures.is c.put_label.ensures in
    on_ok_weaker c.write.result (labelled (g.D.Disk.seen c.args.disk.now) (g.D.Disk.seen c.write.new.self).image c.put_label.new.out told c.requires c.put_label.array_long is) (c.write.ensures.done told)
