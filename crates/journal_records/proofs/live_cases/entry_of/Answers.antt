use Rattle.std.proofs.Common.{Option, Some, sym, ap, ◌∙◌}
use Rattle.journal_layout.specs.declared.entry.Entry.{Entry}
use Rattle.journal_records.specs.Stored.{has_number}
use Rattle.journal_records.proofs.StoredLemmas.{staying_found}
use Rattle.journal_records.proofs.live_cases.entry_of.Goals as goal

pub returns-in-Some : goal.returns-in-Some
returns-in-Some c =
    let e = c.index-stored-place.result in
    let found = c.in-Some.ensures.found in
    let some : Entry → Option Entry = λ (x : Entry). Some x in
    ap some c.index-stored-place.is ∙ sym (staying_found (has_number c.args.ended.now) 0 c.args.seq c.args.stored.now c.in-Some.place e c.requires found.0 (found.1 e) c.in-Some.ensures.live)
