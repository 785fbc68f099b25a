use Rattle.std.proofs.Common.{subst, sym, ◌+◌, ◌∙◌, ℕ, nat_lt, ap}
use Rattle.journal_layout.specs.LabelledLaws.{labelled_dropped}
use Rattle.journal_layout.specs.Live.{AreLive, AreLabelled}
use Rattle.journal_layout.specs.LiveLaws.{live_dropped}
use Rattle.journal_layout.specs.Record.{Drop}
use Rattle.case_journal.specs.Journaled.{Journaled}
use Rattle.case_journal.proofs.PutLemmas.{nothing_runs, snapshot_runs}
use Rattle.journal_layout.specs.Layout.{half_length}
use Rattle.case_journal.proofs.journal.Journal.put_drop.Goals as goal

pub put_snapshot-requires-clause-live : goal.put_snapshot-requires-clause-live
put_snapshot-requires-clause-live g c = live_dropped _ _ _ c.args.seqs.now (subst (λ (j : Journaled). AreLive j.standing.shape.data_blocks j.standing.cases j.standing.next) c.self.view_is c.self.invariant.live)

pub returns-in_err-record-clause-run : goal.returns-in_err-record-clause-run
returns-in_err-record-clause-run g c = nothing_runs g.D.Disk c.args.disk.now c.args.self.now (Drop c.args.seqs.now) (g.met.D.Disk.only_now c.args.disk.now) c.requires.keeps c.requires.runs

pub put_snapshot-requires-clause-labels : goal.put_snapshot-requires-clause-labels
put_snapshot-requires-clause-labels g c =
    labelled_dropped _ c.args.seqs.now _ (subst (λ (j : Journaled). AreLabelled j.standing.version j.standing.cases) c.self.view_is c.self.invariant.labels)

pub returns-then-not-fits-clause-run : goal.returns-then-not-fits-clause-run
returns-then-not-fits-clause-run g c =
    let s = c.args.self.now.standing in
    snapshot_runs s (Drop c.args.seqs.now) g.D.Disk c.args.disk.now c.put_snapshot.new.disk (ap (λ (n : ℕ). nat_lt (s.used + n) (half_length s.shape)) (sym c.drop_size-size.ensures) ∙ sym c.if-not-fits.ensures.in_half) c.put_snapshot.ensures.run
