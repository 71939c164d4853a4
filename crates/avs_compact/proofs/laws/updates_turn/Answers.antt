use Rattle.avs_compact.proofs.Updated.{updated_known, updated_entries, entries_zero, master_placed, placed_entries, master_leaves, given_up}
use Rattle.avs_compact.proofs.laws.updates_turn.Goals as goal

pub returns-clause-known : goal.returns-clause-known
returns-clause-known c = λ old mid new to o st tn keep ts tb to'. updated_known old mid new to st tn keep o ts tb to'

pub returns-clause-entries : goal.returns-clause-entries
returns-clause-entries c = λ old mid new to st tn keep chunk lt. updated_entries old mid new to st tn keep chunk lt

pub returns-clause-shadow : goal.returns-clause-shadow
returns-clause-shadow c = λ own n. entries_zero own n

pub returns-clause-master : goal.returns-clause-master
returns-clause-master c = λ f own n set owners p. master_placed f own n set owners p

pub returns-clause-placed : goal.returns-clause-placed
returns-clause-placed c = λ f own n set owners p. placed_entries f own n set owners p

pub returns-clause-slots : goal.returns-clause-slots
returns-clause-slots c = λ old mid new o st tn placed. master_leaves old mid new o st tn placed

pub returns-clause-given_up : goal.returns-clause-given_up
returns-clause-given_up c = λ old mid new o o2 st tn gives. given_up old mid new o o2 st tn gives
