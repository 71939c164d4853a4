use Rattle.std.proofs.Common.{arith}
use Rattle.avs_over.proofs.over.Over.lies_on_disk.Goals as goal

pub returns : goal.returns
returns g c = rw (← c.self.view_is) (record { each = λ slot lt. omega (arith, lt, c.self.invariant.long, c.self.invariant.some) })
