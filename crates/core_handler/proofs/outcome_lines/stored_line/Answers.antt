use Rattle.std.proofs.Common.{[], rules}
use Rattle.script_streams.specs.PrintLaws.{prints_then}
use Rattle.core_handler.specs.Printing.{stored_words}
use Rattle.core_handler.proofs.outcome_lines.stored_line.Goals as goal

pub returns : goal.returns
unfolding stored_words
returns c =
    let told = prints_then c.print.ensures (prints_then c.print_number.ensures (prints_then c.print_archive.ensures (prints_then c.print_mode.ensures c.print-2.ensures))) in
    let all = told _ _ _ [] c.new-reply.ensures.told in
    let taken = c.finish.ensures.delivered _ _ _ _ all in
    (c.replies_outcome-outcome.result.name.now, c.text.result.now, c.text-2.result.now, (c.new-line.result.failures, (c.finish.result, search (all.same, c.finish.ensures.same, taken, c.new-line.ensures, rules))))
