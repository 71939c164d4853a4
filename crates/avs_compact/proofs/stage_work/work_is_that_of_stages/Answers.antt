use Rattle.avs_compact.proofs.Work.{save_less, both_work}
use Rattle.avs_compact.proofs.StageWork.{marks_so_many, brings_so_many, puts_so_many, copies_so_many}
use Rattle.avs_compact.proofs.stage_work.work_is_that_of_stages.Goals as goal

pub returns-clause-saved : goal.returns-clause-saved
returns-clause-saved c = λ s set st online chunk lt d spot at. marks_so_many s set st chunk lt online d spot at

pub returns-clause-brought : goal.returns-clause-brought
returns-clause-brought c = λ s set st chunk lt back d spot at. brings_so_many s set st chunk lt back d spot at

pub returns-clause-put : goal.returns-clause-put
returns-clause-put c = λ set n d spot at. puts_so_many set n d spot at

pub returns-clause-ahead : goal.returns-clause-ahead
returns-clause-ahead c = λ s set st told d spot at. copies_so_many s set st told d spot at

pub returns-clause-most : goal.returns-clause-most
returns-clause-most c = λ own state slot len d. save_less own state slot len d

pub returns-clause-both : goal.returns-clause-both
returns-clause-both c = λ own slot len. both_work own slot len
