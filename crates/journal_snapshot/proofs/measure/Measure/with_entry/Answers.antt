use Rattle.std.proofs.Common.{◌∙◌, ℕ, List, Bool, Option, length, sym, ap, subst}
use Rattle.journal_layout.specs.Case.{case_of}
use Rattle.journal_snapshot.specs.Changing.{label_after}
use Rattle.journal_snapshot.specs.Writing.{written_case, written_flag, written_entry}
use Rattle.journal_snapshot.specs.Measuring.{Grows}
use Rattle.journal_snapshot.proofs.MeasureLemmas.{case_length, grows_nothing}
use Rattle.journal_snapshot.proofs.measure.Measure.with_entry.Goals as goal

pub returns-in-Some : goal.returns-in-Some
returns-in-Some c =
    let e = c.args.entry.now in
    let text : List ℕ = label_after c.args.change.now (case_of e) in
    subst (λ (n : ℕ). Grows c.args.self n c.args.half c.with.result)
    (c.case_size.ensures e.seq
    ∙ case_length e.seq e c.in-Some.field-0 c.label_of.result.now.items
    ∙ ap (λ (l : List ℕ). length (written_case e.seq e c.in-Some.field-0 l)) c.label_of.ensures
    ∙ ap (λ (o : Option Bool). length (written_flag e o text)) (sym c.in-Some.is ∙ c.flag_of.ensures))
    c.with.ensures

pub returns-in-None : goal.returns-in-None
returns-in-None c =
    let text : List ℕ = label_after c.args.change.now (case_of c.args.entry.now) in
    grows_nothing c.args.self (written_entry c.args.change.now c.args.entry.now) c.args.half
    (ap (λ (o : Option Bool). written_flag c.args.entry.now o text) (sym c.in-None.is ∙ c.flag_of.ensures)) c.requires.in_half
