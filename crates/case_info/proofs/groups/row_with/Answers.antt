use Rattle.std.proofs.Common.{rules, tests}
use Rattle.std.proofs.lemmas.Iterator.{YieldsList-from_slice}
use Rattle.std.proofs.lemmas.Iterator.Search.{find_from_yields_List}
use Rattle.group_tables.specs.Values.{row_said}
use Rattle.group_tables.specs.declared.rows.GroupRow.{GroupRow}
use Rattle.case_info.specs.Groups.{has_member}
use Rattle.case_info.proofs.GroupLemmas.{found_mapped}
use Rattle.case_info.proofs.groups.row_with.Goals as goal

pub returns : goal.returns
returns c =
    found_mapped c.args.seq c.args.rows.now c.find.result
    (find_from_yields_List (λ (r : GroupRow). has_member c.args.seq (row_said r)) _ _ c.find.result c.find.ensures.ran (YieldsList-from_slice c.args.rows.now cc) (λ x b q k. search (rules, tests)))
