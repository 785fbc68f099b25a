use Rattle.std.proofs.Common.{List, [], ◌∷◌, ◌++◌, sym, ap, ◌∙◌}
use Rattle.crash_signatures.specs.Grouping.{group_said}
use Rattle.journal_layout.specs.Case.{case_of}
use Rattle.group_tables.specs.Rows.{member_of, members_of}
use Rattle.group_tables.specs.Values.{MemberSaid}
use Rattle.group_tables.proofs.RowLemmas.{filter_map_more}
use Rattle.group_tables.proofs.rows.members_of.Goals as goal

pub loop-case-preserved : goal.loop-case-preserved
loop-case-preserved c =
    c.in_ok-add_member.ensures
    ∙ ap (λ (ms : List MemberSaid). ms ++ members_of (case_of c.case-item.result ∷ []) (group_said c.args.group.now)) c.loop-case.invariant
    ∙ sym (filter_map_more case_of c.args.cases.now c.loop-case.case-index c.case-item.result c.loop-case-test.true c.case-item.is (member_of (group_said c.args.group.now)))
