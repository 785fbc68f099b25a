use Rattle.std.proofs.Common.{map, ◌∙◌, arith}
use Rattle.std.proofs.lemmas.Result.{IfOk-weaker}
use Rattle.serde_json.proofs.Views.{view-Array}
use Rattle.serde_json.specs.View.{view}
use Rattle.journal_layout.specs.Case.{case_of}
use Rattle.std.specs.String.{string_bytes}
use Rattle.case_tables.proofs.HiddenLemmas.{prints}
use Rattle.case_tables.proofs.JsonLemmas.{one_case_more, all_cases, shallow}
use Rattle.case_tables.proofs.objects.json_of.Goals as goal

pub loop-case-preserved : goal.loop-case-preserved
loop-case-preserved c =
    one_case_more c.args.cases.now c.loop-case.case-index c.case-item.result (map view c.loop-case.values.items) (map view c.push_case.new.values.items)
    c.loop-case-test.true c.case-item.is c.loop-case.invariant c.in_ok-push_case.ensures

pub returns : goal.returns
returns c =
    let same = view-Array c.loop-case.values ∙ all_cases c.args.cases.now c.loop-case.case-index (map view c.loop-case.values.items) (omega (arith, c.loop-case-test.false)) c.loop-case.invariant in
    IfOk-weaker c.json_text.result _ _ (λ s printed. prints _ _ (string_bytes s) (shallow (map (λ e. case_of e.now) c.args.cases.now) _ same) same printed) c.json_text.ensures
