use Rattle.std.proofs.Common.{rules, tests, sym, ◌∙◌}
use Rattle.std.proofs.lemmas.Iterator.{YieldsList-from_slice}
use Rattle.std.proofs.lemmas.Iterator.Search.{any_from_yields_List}
use Rattle.group_tables.specs.Values.{member_said}
use Rattle.group_tables.specs.declared.rows.GroupMember.{GroupMember}
use Rattle.case_info.specs.Groups.{is_member}
use Rattle.case_info.proofs.GroupLemmas.{any_mapped}
use Rattle.case_info.proofs.groups.has_member.Goals as goal

pub returns : goal.returns
returns c =
    any_from_yields_List (λ (m : GroupMember). is_member c.args.seq (member_said m)) _ _ _ c.any.ensures.ran (YieldsList-from_slice c.args.row.now.members.items cc) (λ x b q k. search (rules, tests))
    ∙ sym (any_mapped (is_member c.args.seq) member_said c.args.row.now.members.items)
