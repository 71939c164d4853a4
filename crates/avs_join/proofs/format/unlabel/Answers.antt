use Rattle.std.proofs.Common.{refl}
use Rattle.avs_join.proofs.Formatted.{zeros_no_label}
use Rattle.avs_join.proofs.format.unlabel.Goals as goal

pub returns : goal.returns
returns g c = record { block = _; is = zeros_no_label; size = refl; writes = c.write.ensures }
