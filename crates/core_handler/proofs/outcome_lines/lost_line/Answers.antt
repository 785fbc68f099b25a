use Rattle.std.proofs.Common.{[], rules}
use Rattle.script_streams.specs.PrintLaws.{prints_then}
use Rattle.core_handler.specs.Printing.{lost_words}
use Rattle.core_handler.proofs.outcome_lines.lost_line.Goals as goal

pub returns : goal.returns
unfolding lost_words
returns c =
    let told = prints_then c.print_unstored.ensures (prints_then c.print_why.ensures (prints_then c.print_mode.ensures c.print.ensures)) in
    let all = told _ _ _ [] c.new-reply.ensures.told in
    let taken = c.finish.ensures.delivered _ _ _ _ all in
    (c.text.result.now, (c.new-line.result.failures, (c.finish.result, search (all.same, c.finish.ensures.same, taken, c.new-line.ensures, rules))))
