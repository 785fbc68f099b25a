use Rattle.std.proofs.Common.{[], List, map, take, sym, subst, ap, ◌∙◌, arith}
use Rattle.std.proofs.lemmas.List.{take_all}
use Rattle.pruning.specs.declared.cases.LiveCase.{LiveCase}
use Rattle.case_info.specs.Gathering.{FileValue, listed_view}
use Rattle.case_info.specs.Planning.{AreSeenAs, mapped_view}
use Rattle.case_info.specs.declared.gathering.ListedCase.{ListedCase}
use Rattle.case_info.proofs.PlanLemmas.{seen_next}
use Rattle.case_info.proofs.plan.live_cases.Goals as goal

pub loop-i-init : goal.loop-i-init
loop-i-init c = λ files count same. subst (λ (ls : List LiveCase). AreSeenAs [] [] ls) (sym c.new-live.ensures.items) tt

pub loop-i-preserved : goal.loop-i-preserved
loop-i-preserved c = λ files count same.
    seen_next c.args.cases.now c.args.lent.now files c.loop-i.i c.index-cases-i.result c.index-lent-i.result c.loop-i.live.items c.push.new.self.items c.live_case.result c.loop-i-test.true c.requires c.index-cases-i.is c.index-lent-i.is
    (λ kept is. c.live_case.ensures kept (ap (map mapped_view) c.deref.ensures.value ∙ is)) c.in_ok-push.ensures.items count same (c.loop-i.invariant files count same)

pub returns : goal.returns
returns c = λ files count same.
    let i = c.loop-i.i in
    let cs = c.args.cases.now in
    subst (λ (xs : List ListedCase). AreSeenAs (map listed_view xs) files c.loop-i.live.items) (take_all i cs (omega (arith, c.loop-i-test.false)))
    (subst (λ (fs : List (List FileValue)). AreSeenAs (map listed_view (take i cs)) fs c.loop-i.live.items) (take_all i files (omega (arith, c.loop-i-test.false, count))) (c.loop-i.invariant files count same))
