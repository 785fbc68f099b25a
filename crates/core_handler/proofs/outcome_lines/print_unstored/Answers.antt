use Rattle.std.proofs.Common.{ap, sym}
use Rattle.script_streams.specs.PrintLaws.{prints_as}
use Rattle.core_handler.specs.Printing.{unstored_words}
use Rattle.core_handler.proofs.outcome_lines.print_unstored.Goals as goal

pub returns-in-Lost : goal.returns-in-Lost
unfolding unstored_words
returns-in-Lost g c = prints_as (ap (λ p. unstored_words p c.args.name.now) (sym c.in-Lost.is)) c.print_place.ensures

pub returns-in-Kept : goal.returns-in-Kept
unfolding unstored_words
returns-in-Kept g c = prints_as (ap (λ p. unstored_words p c.args.name.now) (sym c.in-Kept.is)) c.print_place-in-Kept.ensures
