use Rattle.std.proofs.Common.{[], ◌++◌, refl, rules}
use Rattle.script_streams.specs.PrintLaws.{prints_then}
use Rattle.salvage.proofs.PrintLemmas.{told_both}
use Rattle.salvage.proofs.printing.print_cases.Goals as goal

pub returns : goal.returns
returns g c =
    let copied = c.print_copied.ensures in
    let lost = c.print_lost.ensures in
    let whole = prints_then c.print_front.ensures (told_both copied.0 lost.0 copied.2 lost.2) in
    let all = whole _ _ _ [] c.new-reply.ensures.told in
    let sent = c.finish-sent.ensures.delivered _ _ _ _ all in (
      copied.0 ++ lost.0,
      c.finish-sent.result,
      record { copied = copied.0; lost = lost.0; each_copied = copied.1; each_lost = lost.1; all = refl },
      search (all.same, c.finish-sent.ensures.same, sent, rules),
      c.is_ok.ensures.value,
    )
