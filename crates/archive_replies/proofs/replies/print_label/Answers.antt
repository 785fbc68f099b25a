use Rattle.std.proofs.Common.{cond, ap, sym, [], ◌∷◌}
use Rattle.std.proofs.lemmas.Bool.{ne_eqb}
use Rattle.script_words.specs.Printing.{shown}
use Rattle.archive_replies.specs.Texts.{label_word}
use Rattle.script_streams.specs.PrintLaws.{prints_then, prints_as, prints_nothing}
use Rattle.archive_replies.proofs.replies.print_label.Goals as goal

pub returns-then-version-eq2 : goal.returns-then-version-eq2
returns-then-version-eq2 g c =
    prints_as (ap (λ v. label_word v c.args.label.now) (sym c.if-version-eq2.true)) (prints_then c.print.ensures c.print_text.ensures)

pub returns-else-version-eq2 : goal.returns-else-version-eq2
returns-else-version-eq2 g c =
    prints_as (ap (λ t. cond t (32 ∷ shown c.args.label.now) []) (sym (ne_eqb c.args.version 2 c.if-version-eq2.false))) prints_nothing
