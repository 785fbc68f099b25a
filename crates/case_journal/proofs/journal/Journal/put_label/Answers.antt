use Rattle.std.proofs.Common.{subst, sym, ◌+◌, ◌∙◌, ℕ, nat_lt, ap, List}
use Rattle.journal_layout.specs.Live.{AreLive}
use Rattle.journal_layout.specs.LiveLaws.{live_labelled}
use Rattle.journal_layout.specs.LabelledLaws.{labelled_two}
use Rattle.case_journal.specs.Journaled.{Journaled}
use Rattle.case_journal.proofs.PutLemmas.{snapshot_runs}
use Rattle.journal_layout.specs.Layout.{half_length}
use Rattle.journal_layout.specs.Rewriting.{fits}
use Rattle.journal_layout.specs.Record.{Label}
use Rattle.case_journal.proofs.journal.Journal.put_label.Goals as goal

pub put_snapshot-requires-clause-live : goal.put_snapshot-requires-clause-live
put_snapshot-requires-clause-live g c =
    live_labelled _ _ _ c.args.seq c.args.label.now.items (subst (λ (j : Journaled). AreLive j.standing.shape.data_blocks j.standing.cases j.standing.next) c.self.view_is c.self.invariant.live) c.requires.sound.3

pub put_snapshot-requires-clause-labels : goal.put_snapshot-requires-clause-labels
put_snapshot-requires-clause-labels g c = labelled_two _ _ c.requires.sound.0

pub returns-then-not-fits-clause-run : goal.returns-then-not-fits-clause-run
returns-then-not-fits-clause-run g c =
    let s = c.args.self.now.standing in
    snapshot_runs s (Label c.args.seq c.args.label.now.items) g.D.Disk c.args.disk.now c.put_snapshot.new.disk (ap (λ (l : List ℕ). fits s (Label c.args.seq l)) (sym c.as_slice.ensures.value) ∙ ap (λ (n : ℕ). nat_lt (s.used + n) (half_length s.shape)) (sym (c.label_size.ensures.record c.args.seq)) ∙ sym c.if-not-fits.ensures.in_half) c.put_snapshot.ensures.run
