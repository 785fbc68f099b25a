use Rattle.std.proofs.Common.{◌≡◌, ◌∙◌, false, ap, sym, subst}
use Rattle.case_journal.specs.Journaled.{Journaled}
use Rattle.case_journal.specs.Keeping.{Keeps}
use Rattle.case_journal.proofs.PutLemmas.{refused_keeps}
use Rattle.case_journal.proofs.journal.Journal.append_pin.Goals as goal

pub returns-in-Err-clause-keeps : goal.returns-in-Err-clause-keeps
returns-in-Err-clause-keeps g c =
    let runs : c.args.self.now.stopped ≡ false = ap (λ (x : Journaled). x.stopped) (sym c.self.view_is) ∙ c.if-self.false in
    let run = c.put_pin.ensures.run in
    subst (Keeps g.D.Disk c.put_pin.new.disk) (sym c.note_fault.ensures)
    (refused_keeps c.args.self.now runs g.D.Disk c.args.disk.now c.put_pin.new.disk c.in-Err.fault c.requires.keeps run.fills.size run.fills.honesty run.doubts c.in-Err.ensures.untouched)
