use Rattle.avs_seg.proofs.PairLaws.{run-own, stopped-own}
use Rattle.avs_seg.proofs.stages.parts_see_their_stages.Goals as goal

pub returns-clause-run : goal.returns-clause-run
returns-clause-run g c = run-own g.A.InParts.parts g.A.InParts.are_apart g.A.InParts.does

pub returns-clause-stopped : goal.returns-clause-stopped
returns-clause-stopped g c = stopped-own g.A.InParts.parts g.A.InParts.are_apart g.A.InParts.does
