use Rattle.std.proofs.Common.{◌∙◌, sym}
use Rattle.avs_text.proofs.WordsOf.{words_of-none, begins_with}
use Rattle.avs_text.proofs.words.WordReader.next.Goals as goal

pub returns-in_err-word_start-clause-none : goal.returns-in_err-word_start-clause-none
returns-in_err-word_start-clause-none c =
    rw c.from_residual.ensures (sym c.self.view_is ∙ words_of-none c.self.inside.rest.now (sym c.in_err-word_start.ensures.first))

pub returns-in_err-word_start-clause-ended : goal.returns-in_err-word_start-clause-ended
returns-in_err-word_start-clause-ended c =
    rw c.from_residual.ensures (sym c.self.view_is ∙ words_of-none c.self.inside.rest.now (sym c.in_err-word_start.ensures.first))

pub returns-clause-word : goal.returns-clause-word
returns-clause-word c =
    let begins = begins_with c.self.inside.rest.now c.in_ok-word_start.field-0 (sym c.in_ok-word_start.ensures.first) in
    rw (← c.self.view_is, c.split_word.ensures.word, c.split_word.ensures.after, c.split_at.ensures.back) begins.words

pub returns-clause-is_word : goal.returns-clause-is_word
returns-clause-is_word c =
    let begins = begins_with c.self.inside.rest.now c.in_ok-word_start.field-0 (sym c.in_ok-word_start.ensures.first) in
    rw (c.split_word.ensures.word, c.split_at.ensures.back) begins.is_word
