use Rattle.std.proofs.Common.{◌++◌, ◌∷◌, [], List, map, take, refl, sym, subst, arith}
use Rattle.std.proofs.lemmas.List.{take_all}
use Rattle.case_info.specs.Gathering.{CaseValue, FileValue, SeesEach, files_view, listed_view}
use Rattle.case_info.specs.declared.gathering.ListedCase.{ListedCase}
use Rattle.case_info.proofs.GatherLemmas.{next_listed, sees_more}
use Rattle.case_info.proofs.gathering.files_of_cases.Goals as goal

pub loop-case-init : goal.loop-case-init
loop-case-init g c = subst (λ fs. SeesEach g.D.Disk c.args.archive.now [] (map files_view fs) c.args.archive.now) (sym c.new-files.ensures.items) refl

pub loop-case-preserved : goal.loop-case-preserved
loop-case-preserved g c =
    let old = c.args.archive.now in
    let new = c.files_of_case.new.archive in
    let cs = c.args.cases.now in
    let i = c.loop-case.case-index in
    let x = c.case-item.result in
    let seen = map files_view c.loop-case.files.items in
    let kept = files_view c.in_ok-kept.kept in
    let more = sees_more g.D.Disk (map listed_view (take i cs)) seen old c.loop-case.archive new (listed_view x) kept c.loop-case.invariant c.in_ok-kept.ensures in
    subst (λ (vs : List CaseValue). SeesEach g.D.Disk old vs (map files_view c.push_files.new.cores.items) new) (next_listed cs i x c.loop-case-test.true c.case-item.is)
    (subst (λ (fs : List (List FileValue)). SeesEach g.D.Disk old (map listed_view (take i cs) ++ listed_view x ∷ []) fs new) (sym c.in_ok-push_files.ensures) more)

pub returns : goal.returns
returns g c =
    subst (λ (cs : List ListedCase). SeesEach g.D.Disk c.args.archive.now (map listed_view cs) (map files_view c.loop-case.files.items) c.loop-case.archive)
    (take_all c.loop-case.case-index c.args.cases.now (omega (arith, c.loop-case-test.false))) c.loop-case.invariant
