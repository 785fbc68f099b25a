use Rattle.std.proofs.Common.{[], ◌∷◌, ◌++◌, sym}
use Rattle.crash_signatures.specs.WordViews.{said}
use Rattle.script_streams.specs.PrintLaws.{prints_as, prints_nothing, prints_then}
use Rattle.group_tables.specs.Words.{word_text}
use Rattle.group_tables.proofs.RowLemmas.{text_more}
use Rattle.group_tables.proofs.identity.print_word_lines.Goals as goal

pub loop-word-init : goal.loop-word-init
loop-word-init g c = prints_nothing

pub loop-word-preserved : goal.loop-word-preserved
loop-word-preserved g c =
    prints_as (sym (text_more said c.args.words.now c.loop-word.word-index c.word-item.result c.loop-word-test.true c.word-item.is (λ w. word_text w ++ 10 ∷ [])))
    (prints_then c.loop-word.invariant (prints_then c.print_word.ensures c.print.ensures))
