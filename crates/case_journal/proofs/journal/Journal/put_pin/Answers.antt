use Rattle.std.proofs.Common.{subst, sym}
use Rattle.journal_layout.specs.LabelledLaws.{labelled_pinned}
use Rattle.journal_layout.specs.Live.{AreLive, AreLabelled}
use Rattle.journal_layout.specs.LiveLaws.{live_pinned}
use Rattle.case_journal.specs.Journaled.{Journaled}
use Rattle.case_journal.proofs.PutLemmas.{snapshot_runs}
use Rattle.journal_layout.specs.Record.{Pin}
use Rattle.case_journal.proofs.journal.Journal.put_pin.Goals as goal

pub put_snapshot-requires-clause-live : goal.put_snapshot-requires-clause-live
put_snapshot-requires-clause-live g c = live_pinned _ _ _ c.args.seq c.args.flag (subst (λ (j : Journaled). AreLive j.standing.shape.data_blocks j.standing.cases j.standing.next) c.self.view_is c.self.invariant.live)

pub put_snapshot-requires-clause-labels : goal.put_snapshot-requires-clause-labels
put_snapshot-requires-clause-labels g c =
    labelled_pinned _ c.args.seq c.args.flag _ (subst (λ (j : Journaled). AreLabelled j.standing.version j.standing.cases) c.self.view_is c.self.invariant.labels)

pub returns-then-not-fits-clause-run : goal.returns-then-not-fits-clause-run
returns-then-not-fits-clause-run g c =
    let s = c.args.self.now.standing in
    snapshot_runs s (Pin c.args.seq c.args.flag) g.D.Disk c.args.disk.now c.put_snapshot.new.disk (sym c.if-not-fits.ensures.in_half) c.put_snapshot.ensures.run
