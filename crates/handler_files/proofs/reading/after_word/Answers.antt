use Rattle.std.proofs.Common.{[], ◌∷◌}
use Rattle.handler_files.proofs.ReadingLemmas.{none_first, word_second}
use Rattle.handler_files.proofs.reading.after_word.Goals as goal

pub returns-in_err-space : goal.returns-in_err-space
returns-in_err-space c = rw c.from_residual.ensures (none_first (32 ∷ []) c.args.word.now c.args.text.now c.in_err-space.ensures)

pub returns : goal.returns
returns c = word_second (32 ∷ []) c.args.word.now c.args.text.now c.in_ok-space.space.now c.after-2.result c.in_ok-space.ensures c.after-2.ensures
