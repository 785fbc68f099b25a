use Rattle.std.proofs.Common.{[], ◌∷◌, ◌++◌, map, refl, sym, ap, ◌∙◌}
use Rattle.std.proofs.lemmas.List.{append-nil, map_push}
use Rattle.std.proofs.lemmas.Option.{slice_get_past, slice_get_read}
use Rattle.std.specs.List.{cons_option}
use Rattle.crash_signatures.specs.Grouping.{group_said}
use Rattle.journal_layout.specs.Case.{case_of}
use Rattle.group_tables.specs.Rows.{row_with}
use Rattle.group_tables.specs.Values.{crash_said, row_said}
use Rattle.group_tables.proofs.rows.add_row.Goals as goal

pub returns-in_default : goal.returns-in_default
returns-in_default c =
    let none = slice_get_past c.args.cores.now c.args.group.now.signature c.in_default.ensures.lookup.3 in
    sym (ap (λ o. map row_said c.args.rows.now.items ++ cons_option (row_with (map case_of c.args.cases.now) (group_said c.args.group.now) o) []) none
    ∙ append-nil (map row_said c.args.rows.now.items))

pub returns : goal.returns
returns c =
    let got = c.in-Some.ensures.lookup.3 in
    let some = slice_get_read c.args.cores.now _ c.args.group.now.signature c.in-Some.core.now refl got.0 (got.1 c.in-Some.core.now) in
    ap (map row_said) c.in_ok-push.ensures.items ∙ map_push row_said c.args.rows.now.items _
    ∙ ap (λ ms. map row_said c.args.rows.now.items ++ record { crash = crash_said c.in-Some.core.now.crash; members = ms } ∷ []) c.in_ok-members.ensures
    ∙ sym (ap (λ o. map row_said c.args.rows.now.items ++ cons_option (row_with (map case_of c.args.cases.now) (group_said c.args.group.now) o) []) some)
