use Rattle.std.proofs.Common.{◌≡◌, ◌∙◌, ap, sym, subst, map, Ok, Err}
use Rattle.std.proofs.lemmas.Result.{err_from_is_err_and}
use Rattle.journal_layout.specs.Case.{case_of}
use Rattle.journal_snapshot.specs.declared.change.Change.TheVariants as change
use Rattle.journal_snapshot.specs.Measuring.{AreShort}
use Rattle.case_journal.specs.Journaled.{Journaled}
use Rattle.case_journal.specs.Compacting.{MeasuresSnapshot}
use Rattle.case_journal.proofs.CompactLemmas.{live_short}
use Rattle.case_journal.proofs.AppendLemmas.{overflow_found, measure_snapshot_is}
use Rattle.case_journal.proofs.journal.Journal.check_fit.Goals as goal

pub measure_snapshot-requires-clause-short : goal.measure_snapshot-requires-clause-short
measure_snapshot-requires-clause-short c =
    let j = c.self.inside in
    subst AreShort (sym c.as_slice.ensures) (live_short j.shape.data_blocks j.next j.entries.entries c.self.invariant.live)

pub returns-in_err-measure_snapshot : goal.returns-in_err-measure_snapshot
returns-in_err-measure_snapshot c =
    let p = err_from_is_err_and c.from_residual.result c.from_residual.ensures.1 in
    let s = c.args.self.now.standing in
    let f = c.in_err-measure_snapshot.field-0.0 in
    let same : s.cases ≡ map case_of c.as_slice.result.now = ap (λ (j : Journaled). j.standing.cases) (sym c.self.view_is) ∙ ap (map case_of) (sym c.as_slice.ensures) in
    let found : MeasuresSnapshot s.shape s.generation (change.Store 0 c.args.entry) c.as_slice.result.now (Err f) =
    subst (λ (j : Journaled). MeasuresSnapshot j.standing.shape j.standing.generation (change.Store 0 c.args.entry) c.as_slice.result.now (Err f)) c.self.view_is c.in_err-measure_snapshot.ensures in
    rw (p.1, p.2) (overflow_found s c.as_slice.result.now c.args.entry same c.requires.no_label c.args.size f c.requires.size (sym c.fits.ensures.in_half ∙ c.if-not-fits.true) found)

pub returns-in_ok-measure_snapshot : goal.returns-in_ok-measure_snapshot
returns-in_ok-measure_snapshot c =
    let s = c.args.self.now.standing in
    let m = c.in_ok-measure_snapshot.field-0 in
    let same : s.cases ≡ map case_of c.as_slice.result.now = ap (λ (j : Journaled). j.standing.cases) (sym c.self.view_is) ∙ ap (map case_of) (sym c.as_slice.ensures) in
    let found : MeasuresSnapshot s.shape s.generation (change.Store 0 c.args.entry) c.as_slice.result.now (Ok m) =
    subst (λ (j : Journaled). MeasuresSnapshot j.standing.shape j.standing.generation (change.Store 0 c.args.entry) c.as_slice.result.now (Ok m)) c.self.view_is c.in_ok-measure_snapshot.ensures in
    measure_snapshot_is s c.as_slice.result.now c.args.entry same c.requires.no_label m found
