use Rattle.std.proofs.Common.{subst}
use Rattle.memory_replies.specs.Answers.{AnswersWith}
use Rattle.memory_replies.proofs.SymbolLemmas.{without_debug}
use Rattle.memory_replies.proofs.symbol.print_symbol.Goals as goal

pub returns : goal.returns
returns g c =
    let told = c.print_symbol_with_debug.ensures in
    (told.0, (subst (λ answer. AnswersWith c.print_symbol_with_debug.result answer told.0) (without_debug c.args.image.now c.args.address) told.1.0, told.1.1), told.2)
