use Rattle.std.proofs.Common.{map}
use Rattle.journal_layout.specs.Case.{case_of}
use Rattle.inspector_cli.proofs.FitLemmas.{core_goes, case_goes, none_goes}
use Rattle.inspector_cli.proofs.GoingLemmas.{all_pinned}
use Rattle.inspector_cli.proofs.fitting.next_of.Goals as goal

pub returns-in-Some-clause-next : goal.returns-in-Some-clause-next
returns-in-Some-clause-next c = core_goes c.args.order c.args.cases.now c.in-Some.core.now c.in-Some.ensures

pub returns-in-Some-first_loose-clause-next : goal.returns-in-Some-first_loose-clause-next
returns-in-Some-first_loose-clause-next c = case_goes c.args.order c.args.cases.now c.in-Some-first_loose.case.now c.in-None.ensures c.in-Some-first_loose.ensures

pub returns-in-None-first_loose-clause-none : goal.returns-in-None-first_loose-clause-none
returns-in-None-first_loose-clause-none c = λ is. all_pinned c.args.order (map case_of c.args.cases.now) (none_goes c.args.order c.args.cases.now c.in-None.ensures c.in-None-first_loose.ensures)
