use Rattle.std.proofs.Common.{sym, ap, ◌∙◌, subst, length, List, Bool, ◌++◌}
use Rattle.extents.specs.Runs.{run_blocks}
use Rattle.extents.specs.FreeLaws.{length_without}
use Rattle.journal_records.specs.Taken.{Accounts}
use Rattle.journal_records.proofs.RunLemmas.{good, accounts_more, refused}
use Rattle.journal_records.proofs.runs.take_run.Goals as goal

pub returns-in-Ok-clause-taken : goal.returns-in-Ok-clause-taken
returns-in-Ok-clause-taken c = λ used accounts.
    let marks = c.in-Ok.ensures in
    let old = c.args.free.now in (
      good used old c.args.end c.args.run accounts c.if-run-eq0.false marks.0 (sym c.is_adjoining.ensures ∙ c.if-is_adjoining.false) marks.1,
      subst (λ (flags : List Bool). Accounts (used ++ run_blocks c.args.run) flags) (sym marks.2) (accounts_more used old c.args.run accounts marks.1),
    )

pub returns-in-Ok-clause-size : goal.returns-in-Ok-clause-size
returns-in-Ok-clause-size c = ap length c.in-Ok.ensures.2 ∙ length_without c.args.free.now c.args.run

pub returns-in-Err-clause-taken : goal.returns-in-Err-clause-taken
returns-in-Err-clause-taken c = λ used accounts. refused used c.args.free.now c.args.end c.args.run c.in-Err.field-0 c.mark_used.new.self c.in-Err.ensures accounts
