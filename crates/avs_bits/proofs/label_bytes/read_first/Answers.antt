use Rattle.std.proofs.Common.{arith}
use Rattle.std.proofs.lemmas.Result.{on_ok_weaker}
use Rattle.avs_bits.proofs.SomeBits.{first_shown, held_shown}
use Rattle.avs_bits.proofs.label_bytes.read_first.Goals as goal

pub returns-clause-label : goal.returns-clause-label
returns-clause-label g c told = on_ok_weaker c.read.result (λ shown. first_shown (g.D.Disk.seen c.args.disk.now).image c.read.new.out shown (omega arith)) (c.read.ensures.shows told)

pub returns-clause-held : goal.returns-clause-held
returns-clause-held g c told n inside = on_ok_weaker c.read.result (λ shown. held_shown (g.D.Disk.seen c.args.disk.now).image c.read.new.out shown n (omega arith) (omega arith)) (c.read.ensures.shows told)
