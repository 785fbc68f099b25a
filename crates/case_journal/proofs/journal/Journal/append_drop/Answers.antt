use Rattle.std.proofs.Common.{ap, sym, ◌∙◌, ◌≡◌, false, subst}
use Rattle.case_journal.specs.Journaled.{Journaled}
use Rattle.case_journal.proofs.PutLemmas.{full_by_generation, refused_keeps}
use Rattle.case_journal.specs.Keeping.{Keeps}
use Rattle.case_journal.proofs.journal.Journal.append_drop.Goals as goal

pub returns-in-Err-clause-generation : goal.returns-in-Err-clause-generation
returns-in-Err-clause-generation g c is honest =
    full_by_generation g.D.Disk c.args.disk.now c.args.self.now c.args.seqs.now c.requires.keeps (ap (λ (j : Journaled). j.stopped) (sym c.self.view_is) ∙ c.if-self.false) honest (g.met.D.Disk.seen_may_stay c.args.disk.now honest) c.requires.droppable c.in-Err.fault c.in-Err.ensures.step is

pub returns-in-Err-clause-keeps : goal.returns-in-Err-clause-keeps
returns-in-Err-clause-keeps g c =
    let runs : c.args.self.now.stopped ≡ false = ap (λ (x : Journaled). x.stopped) (sym c.self.view_is) ∙ c.if-self.false in
    let run = c.put_drop.ensures.run in
    subst (Keeps g.D.Disk c.put_drop.new.disk) (sym c.note_fault.ensures)
    (refused_keeps c.args.self.now runs g.D.Disk c.args.disk.now c.put_drop.new.disk c.in-Err.fault c.requires.keeps run.fills.size run.fills.honesty run.doubts c.in-Err.ensures.untouched)
