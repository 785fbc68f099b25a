use Rattle.std.proofs.Common.{◌∙◌, ◌≤◌, ap, drop, arith}
use Rattle.case_journal.proofs.EntryLemmas.{live_removed, first_removed}
use Rattle.case_journal.proofs.live_entries.take_one.Goals as goal

pub returns-then-place-gt0-clause-left : goal.returns-then-place-gt0-clause-left
returns-then-place-gt0-clause-left c =
    ap (drop c.args.first) c.remove.ensures.items ∙ live_removed c.args.entries.now.items c.args.first c.args.place c.requires

pub returns-clause-left : goal.returns-clause-left
returns-clause-left c =
    let low : c.args.place ≤ 0 = omega arith in
    first_removed c.args.entries.now.items c.args.first c.args.place low
