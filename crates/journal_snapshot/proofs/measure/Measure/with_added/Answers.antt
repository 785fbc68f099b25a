use Rattle.std.proofs.Common.{ℕ, ◌∙◌, subst}
use Rattle.journal_snapshot.specs.Measuring.{Grows}
use Rattle.journal_snapshot.proofs.MeasureLemmas.{case_length}
use Rattle.journal_snapshot.proofs.measure.Measure.with_added.Goals as goal

pub returns-in-Store : goal.returns-in-Store
returns-in-Store c =
    rw c.in-Store.is
    (subst (λ (n : ℕ). Grows c.args.self n c.args.half c.with.result)
    (c.case_size.ensures c.in-Store.field-0 ∙ case_length c.in-Store.field-0 c.in-Store.entry.now c.in-Store.entry.now.pinned c.in-Store.entry.now.label.items)
    c.with.ensures)
