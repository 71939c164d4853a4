use Rattle.std.proofs.Common.{rules, refl, ◌∙◌, ap}
use Rattle.avs_entries.specs.Entries.{entry_in}
use Rattle.avs_entries.proofs.EntryBytes.{entry_in-zeros}
use Rattle.avs_entries.proofs.Marking.{marks_zeros}
use Rattle.avs_entries.proofs.marks.mark_anew.Goals as goal

pub returns-in-Err-clause-marked : goal.returns-in-Err-clause-marked
returns-in-Err-clause-marked c = marks_zeros (entry_in c.fill-in-Err-2.new.self) _ _ c.fill-in-Err.new.self _ (search rules) (search rules) (λ k. ap (λ l. entry_in l k) (c.fill-in-Err-2.ensures.after (λ y is. is)) ∙ entry_in-zeros _ k) refl refl

pub returns-in-Err-clause-broken : goal.returns-in-Err-clause-broken
returns-in-Err-clause-broken c = λ bad k. ap (λ l. entry_in l k) (c.fill-in-Err-2.ensures.after (λ y is. is)) ∙ entry_in-zeros _ k

pub returns-in-Err-clause-zeros : goal.returns-in-Err-clause-zeros
returns-in-Err-clause-zeros c = λ k zero. ap (λ l. entry_in l k) (c.fill-in-Err-2.ensures.after (λ y is. is)) ∙ entry_in-zeros _ k
