use Rattle.std.proofs.Common.{[], ap, rules}
use Rattle.std.specs.Prelude.{decimal}
use Rattle.script_streams.specs.PrintLaws.{prints_as, prints_then}
use Rattle.script_streams.specs.Printing.{Prints, sink}
use Rattle.case_listing.specs.Digests.{digest_line}
use Rattle.case_listing.proofs.digest_command.print_line.Goals as goal

pub returns : goal.returns
returns g c =
    let told : Prints (sink g.O.Output c.new-reply.result) (sink g.O.Output c.print-3.new.self) (digest_line c.args.seq c.args.digest) =
    prints_then c.print_hex.ensures
    (prints_then c.print.ensures
    (prints_then (prints_as (ap decimal c.from.ensures) c.print_decimal.ensures)
    (prints_then c.print-2.ensures
    (prints_then (prints_as (ap decimal c.from-2.ensures) c.print_decimal-2.ensures) c.print-3.ensures)))) in
    let all = told _ _ _ [] c.new-reply.ensures.told in
    let sent = c.finish.ensures.delivered _ _ _ _ all in
    search (all.same, c.finish.ensures.same, sent, rules)
