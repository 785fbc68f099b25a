use Rattle.std.proofs.lemmas.Result.{err_from_is_err_and}
use Rattle.case_journal.specs.Opening.{journal_of}
use Rattle.case_journal.specs.Viewing.{ShowsOpening}
use Rattle.case_journal.proofs.OpenLemmas.{some_view, view_after, view_before, finds_by, keeps_by, live_by, labels_by}
use Rattle.case_journal.proofs.SettleLemmas.{last_by}
use Rattle.case_journal.proofs.journal.Journal.open.Goals as goal
use Rattle.case_journal.proofs.journal.Journal.open.Given as given

pub returns-in_err-settle-clause-gives : goal.returns-in_err-settle-clause-gives
returns-in_err-settle-clause-gives g c =
    let p = err_from_is_err_and c.from_residual.result c.from_residual.ensures.1 in
    let b = some_view g.D.Disk c.args.disk.now (g.met.D.Disk.whole c.args.disk.now) in
    rw (p.1, p.2, c.in_err-settle.ensures.only) (record { shown = b.0; view = b.1; gives = tt })

shows : (g : given.Over) (c : goal.After-read_journal g) → ShowsOpening g.D.Disk c.args.disk.now (journal_of c.read_journal.result)
shows g c =
    let b = some_view g.D.Disk c.args.disk.now (g.met.D.Disk.whole c.args.disk.now) in
    let quiet = c.settle.ensures.quiet in
    let s = c.read_journal.ensures.shows b.0 (view_after g.D.Disk c.args.disk.now c.settle.new.disk b.0 quiet b.1) in
    record { shown = s.shown; view = view_before g.D.Disk c.args.disk.now c.settle.new.disk s.shown quiet (view_before g.D.Disk c.settle.new.disk c.read_journal.new.disk s.shown c.read_journal.ensures.quiet s.view); gives = s.gives }

pub returns-clause-gives : goal.returns-clause-gives
returns-clause-gives g c = shows g c

pub returns-clause-found : goal.returns-clause-found
returns-clause-found g c s honest stands = finds_by g.D.Disk c.args.disk.now (journal_of c.read_journal.result) s honest (shows g c) stands

pub returns-clause-keeps : goal.returns-clause-keeps
returns-clause-keeps g c =
    keeps_by g.D.Disk c.args.disk.now c.settle.new.disk c.read_journal.new.disk c.read_journal.result c.settle.ensures.quiet c.read_journal.ensures.quiet
    c.in_ok-settle.ensures.settled (shows g c) c.read_journal.ensures.size

pub returns-clause-live : goal.returns-clause-live
returns-clause-live g c = live_by g.D.Disk c.args.disk.now c.read_journal.result (shows g c)

pub returns-clause-labels : goal.returns-clause-labels
returns-clause-labels g c = labels_by g.D.Disk c.args.disk.now c.read_journal.result (shows g c)

pub returns-clause-last : goal.returns-clause-last
returns-clause-last g c =
    let b = some_view g.D.Disk c.args.disk.now (g.met.D.Disk.whole c.args.disk.now) in
    last_by g.D.Disk c.args.disk.now c.settle.new.disk c.read_journal.new.disk c.read_journal.result c.settle.ensures.quiet c.read_journal.ensures.quiet
    (c.read_journal.ensures.last b.0 (view_after g.D.Disk c.args.disk.now c.settle.new.disk b.0 c.settle.ensures.quiet b.1))
