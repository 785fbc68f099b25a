use Rattle.std.proofs.Common.{◌≡◌, List, length, map, ap, subst, ◌∙◌, arith}
use Rattle.pruning.specs.Pruning.{IsPruning}
use Rattle.pruning.specs.declared.cases.LiveCase.{LiveCase}
use Rattle.case_info.specs.Gathering.{files_view, listed_view}
use Rattle.case_info.specs.Planning.{AreSeenAs, lent_view, mapped_of}
use Rattle.case_info.specs.declared.gathering.ListedCase.{ListedCase}
use Rattle.case_info.proofs.PlanLemmas.{as_many, length_of}
use Rattle.case_info.proofs.plan.planned.Goals as goal

pub live_cases-requires : goal.live_cases-requires
live_cases-requires c =
    let many = as_many c.in_ok-lent.lent.items c.deref.result.now c.in_ok-lent.ensures in
    let first = ap length c.deref.ensures.value in
    let second = ap length c.deref-2.ensures.value in
    let third = ap length c.deref-3.ensures.value in
    omega (arith, many, first, second, third, c.if-len.false, c.len.ensures, c.len-2.ensures)

pub returns : goal.returns
returns c =
    let files = map files_view c.args.gathered.now.files.items in
    let same = ap (map lent_view) c.deref-3.ensures.value ∙ c.in_ok-lent.ensures ∙ ap (λ fs. map (map mapped_of) (map files_view fs)) c.deref.ensures.value in
    let one = length_of files_view c.args.gathered.now.files.items in
    let second = ap length c.deref-2.ensures.value in
    let count : length files ≡ length c.deref-2.result.now = omega (arith, one, second, c.if-len.false, c.len.ensures, c.len-2.ensures) in
    let seen = c.in_ok-live.ensures files count same in (
      c.in_ok-live.live.items,
      subst (λ (cs : List ListedCase). AreSeenAs (map listed_view cs) files c.in_ok-live.live.items) c.deref-2.ensures.value seen,
      subst (λ (ls : List LiveCase). IsPruning c.args.policy.now ls c.in_ok-prune.field-0.dropped.items c.in_ok-prune.field-0.unmet) c.deref-5.ensures.value c.in_ok-prune.ensures,
    )
