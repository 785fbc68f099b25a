use Rattle.journal_layout.specs.Record.{Label}
use Rattle.case_journal.proofs.PutLemmas.{nothing_runs}
use Rattle.case_journal.proofs.journal.Journal.put_label_behind.Goals as goal

pub returns-in_err-record-clause-run : goal.returns-in_err-record-clause-run
returns-in_err-record-clause-run g c =
    nothing_runs g.D.Disk c.args.disk.now c.args.self.now (Label c.args.seq c.args.label.now) (g.met.D.Disk.only_now c.args.disk.now) c.requires.keeps c.requires.runs
