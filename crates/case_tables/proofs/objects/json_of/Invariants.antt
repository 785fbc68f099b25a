use Rattle.std.proofs.Common.{◌≡◌, take, map}
use Rattle.serde_json.specs.View.{view}
use Rattle.journal_layout.specs.Case.{case_of}
use Rattle.case_tables.specs.Json.{case_json}
use Rattle.case_tables.proofs.objects.json_of.Given as goal

abbrev pub invariant-loop-case : goal.invariant-loop-case
invariant-loop-case l = map view l.values.items ≡ map (λ e. case_json (case_of e.now)) (take l.case-index l.cases)
