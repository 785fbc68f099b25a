use Rattle.std.proofs.Common.{List, map, subst}
use Rattle.case_info.specs.Gathering.{SeesEach, files_view, listed_view}
use Rattle.case_info.specs.declared.gathering.ListedCase.{ListedCase}
use Rattle.case_info.proofs.gathering.gather.Goals as goal

pub returns : goal.returns
returns g c = record {
  cases = c.in_ok-cases.ensures;
  files = subst (λ (cs : List ListedCase). SeesEach g.D.Disk c.args.archive.now (map listed_view cs) (map files_view c.in_ok-files.files.items) c.files_of_cases.new.archive) c.deref.ensures.value c.in_ok-files.ensures;
}
