use Rattle.avs_chunks.proofs.StageWork.{saved_work, copied_work}
use Rattle.avs_chunks.proofs.laws.work_is_that_of_stages.Goals as goal

pub returns-clause-saved : goal.returns-clause-saved
returns-clause-saved c = λ s set st chunk lt d. saved_work s set st chunk lt d

pub returns-clause-copied : goal.returns-clause-copied
returns-clause-copied c = λ s set st chunk lt due d. copied_work s set st chunk lt due d
