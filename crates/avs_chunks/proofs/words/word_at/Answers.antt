use Rattle.std.proofs.Common.{◌+◌, refl, arith}
use Rattle.avs_chunks.proofs.WordStates.{state_at}
use Rattle.avs_chunks.proofs.words.word_at.Goals as goal

pub returns : goal.returns
returns c = λ j lt. state_at c.args.bytes.now c.copy_from_slice.new.self c.args.at (c.args.at + 8) c.from_le_bytes.result refl c.copy_from_slice.ensures.after c.copy_from_slice.ensures.len (λ i. omega (arith, c.type_inv.bytes i)) c.from_le_bytes.ensures j lt
