use Rattle.std.proofs.Common.{Result, subst}
use Rattle.elf_view.specs.declared.faults.ElfFault.{ElfFault}
use Rattle.elf_view.specs.declared.view.Header.{Header}
use Rattle.case_screens.specs.declared.answer.CaseAnswers.TheVariants.{Exec}
use Rattle.case_info.specs.Screens.{IsScreenBy}
use Rattle.case_info.proofs.case.exec_screen.Goals as goal

pub returns : goal.returns
returns g c = λ plain.
    let seen = c.in_ok-front.ensures in
    let same = (rw c.deref.ensures.value at c.header_in.ensures) seen.0 seen.2 in
    (seen.0, seen.1, subst (λ (h : Result Header ElfFault). IsScreenBy c.args.zone c.front_of.new.archive c.args.seq (Exec h) c.in_ok-put_text.field-0) same (c.in_ok-put_text.ensures plain))
