-- The word that a state is told by.
use Rattle.avs_model.specs.declared.answer.Word.{Word}
use Rattle.avs_model.specs.declared.answer.Word.TheVariants as word
use Rattle.avs_model.specs.declared.half.State.{State}
use Rattle.avs_model.specs.declared.half.State.TheVariants.{Logging, Syncing, Receiving, Replicating, Queuing}

abbrev pub word_of : State → Word
word_of Logging = word.Logging
word_of Syncing = word.Syncing
word_of Receiving = word.Receiving
word_of Replicating = word.Replicating
word_of Queuing = word.Queuing
