use Rattle.std.proofs.Common.{[], rules}
use Rattle.script_streams.specs.PrintLaws.{prints_then}
use Rattle.script_streams.specs.Printing.{Prints, sink}
use Rattle.case_unpacking.specs.Told.{unpacked_text}
use Rattle.case_unpacking.proofs.printing.print_unpacked.Goals as goal

pub returns : goal.returns
returns g c =
    let told : Prints (sink g.O.Output c.new-reply.result) (sink g.O.Output c.print-2.new.self) (unpacked_text c.args.named.now c.args.places.now c.args.folder.now) =
    prints_then c.print_places.ensures (prints_then c.print.ensures (prints_then c.print_text.ensures c.print-2.ensures)) in
    let all = told _ _ _ [] c.new-reply.ensures.told in
    let sent = c.finish.ensures.delivered _ _ _ _ all in
    search (all.same, c.finish.ensures.same, sent, rules)
