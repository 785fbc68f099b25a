use Rattle.std.proofs.Common.{Option, Some, sym, ap, ◌∙◌}
use Rattle.journal_layout.specs.declared.entry.Entry.{Entry}
use Rattle.journal_layout.specs.Case.{Case, case_of}
use Rattle.case_journal.proofs.EntryLemmas.{found_at}
use Rattle.case_journal.proofs.live_entries.find_entry.Goals as goal

pub returns-in-Some : goal.returns-in-Some
returns-in-Some c =
    let e = c.index-entries-place.result in
    let found = c.in-Some.ensures.found in
    let some : Entry → Option Case = λ (x : Entry). Some (case_of x) in
    ap some c.index-entries-place.is ∙ sym (found_at 0 c.args.seq c.args.entries.now c.in-Some.place e c.requires found.0 (found.1 e))
