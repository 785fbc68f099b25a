use Rattle.std.proofs.Common.{List, ℕ, subst, sym}
use Rattle.case_tables.specs.Hidden.{Prints}
use Rattle.case_tables.specs.Json.{cases_json}
use Rattle.case_listing.proofs.listing.print_json.Goals as goal

pub returns-clause-told : goal.returns-clause-told
returns-clause-told g c =
    let told = c.in_ok-text.ensures.is_json in
    (told.0, told.1, (c.as_bytes.result.now, subst (λ (t : List ℕ). Prints (cases_json told.0) t) (sym c.as_bytes.ensures.value) told.2, c.in_ok-print_line.ensures))
