use Rattle.std.proofs.Common.{ap, cond, sym, ◌∙◌}
use Rattle.script_words.specs.Printing.{shown}
use Rattle.script_streams.specs.PrintLaws.{prints_as}
use Rattle.group_tables.specs.Words.{name_text}
use Rattle.group_tables.proofs.words.print_word.Goals as goal

pub returns-then-word : goal.returns-then-word
returns-then-word g c =
    let text = c.args.word.now.text.items in
    prints_as (ap shown c.as_slice-text.ensures.value ∙ ap (λ t. cond t (shown text) (name_text text)) (sym c.if-word.true)) c.print_text.ensures
