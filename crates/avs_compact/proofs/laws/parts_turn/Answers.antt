use Rattle.avs_compact.proofs.PartsTurned.{copies_begin, copies_next, stages_begin, stages_then, parts_entries, parts_leave}
use Rattle.avs_compact.proofs.PartsSeen.{parts_seen}
use Rattle.avs_compact.proofs.laws.parts_turn.Goals as goal

pub returns-clause-none_copied : goal.returns-clause-none_copied
returns-clause-none_copied c = λ s o m bits. copies_begin s o m bits

pub returns-clause-copied : goal.returns-clause-copied
returns-clause-copied c = λ old now new o o1 o2 m m1 m2 bits part inside so next. copies_next old now new o o1 o2 m m1 m2 bits part inside so next

pub returns-clause-none_staged : goal.returns-clause-none_staged
returns-clause-none_staged c = λ s bits. stages_begin s bits

pub returns-clause-staged : goal.returns-clause-staged
returns-clause-staged c = λ mid now new bits part so next. stages_then mid now new bits part so next

pub returns-clause-entries : goal.returns-clause-entries
returns-clause-entries c = λ old new o o2 bits u placed chunk lt. parts_entries old new o o2 bits u placed chunk lt

pub returns-clause-slots : goal.returns-clause-slots
returns-clause-slots c = λ old new o o2 bits u placed. parts_leave old new o o2 bits u placed

pub returns-clause-seen : goal.returns-clause-seen
returns-clause-seen c = λ old new o o2 bits u known placed told back. parts_seen old new o o2 bits u known placed told back
