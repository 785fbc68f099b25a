use Rattle.journal_layout.specs.Record.{Label}
use Rattle.journal_layout.specs.Rewriting.{appended}
use Rattle.case_journal.proofs.LabelLemmas.{still_stands}
use Rattle.case_journal.proofs.journal.Journal.append_label.Goals as goal

pub returns-then-self-ne-LABELS-clause-any_moment : goal.returns-then-self-ne-LABELS-clause-any_moment
returns-then-self-ne-LABELS-clause-any_moment g c honest runs =
    still_stands g.D.Disk c.args.disk.now c.args.self.now (appended c.args.self.now.standing (Label c.args.seq c.args.label.now)) (g.met.D.Disk.only_now c.args.disk.now) c.requires.keeps runs honest
