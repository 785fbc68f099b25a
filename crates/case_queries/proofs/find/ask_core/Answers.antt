use Rattle.std.proofs.Common.{subst, sym}
use Rattle.case_queries.specs.Asking.{asking_of}
use Rattle.case_queries.specs.Finding.{AsksFront}
use Rattle.case_queries.specs.declared.asked.Asked.{Asked}
use Rattle.case_queries.proofs.find.ask_core.Goals as goal

pub returns-in-Sought-clause-answers : goal.returns-in-Sought-clause-answers
returns-in-Sought-clause-answers g c before reads =
    let told = c.find_collected.ensures.answers before reads in
    (told.0, subst (λ (a : Asked). AsksFront g.D.Disk before c.args.image (asking_of a) told.0 c.find_collected.new.archive) (sym c.in-Sought.is) told.1, told.2, told.3)

pub returns-in-Files-clause-answers : goal.returns-in-Files-clause-answers
returns-in-Files-clause-answers g c before reads =
    let told = c.answer_by_build.ensures.answers before reads in
    (told.0, subst (λ (a : Asked). AsksFront g.D.Disk before c.args.image (asking_of a) told.0 c.answer_by_build.new.archive) (sym c.in-Files.is) told.1, told.2, told.3)
