use Rattle.std.proofs.Common.{ap, ◌∙◌}
use Rattle.script_streams.specs.PrintLaws.{prints_as, prints_then}
use Rattle.serde_json.specs.Written.{has_float}
use Rattle.journal_layout.specs.Case.{case_of}
use Rattle.case_tables.proofs.HiddenLemmas.{printed_exactly}
use Rattle.case_tables.proofs.LineLemmas.{none_case}
use Rattle.case_tables.proofs.lines.print_case_line.Goals as goal

pub returns : goal.returns
returns g c =
    let same = c.in_ok-value.ensures in
    let text = printed_exactly _ _ _ (ap has_float same ∙ none_case (case_of c.args.case.now)) same c.in_ok-text.ensures in
    prints_then (prints_as (c.as_bytes.ensures.value ∙ text) c.print.ensures) c.print-2.ensures
