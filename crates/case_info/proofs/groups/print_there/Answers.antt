use Rattle.std.proofs.Common.{List, map, arith, rules, subst, ◌∙◌}
use Rattle.std.proofs.lemmas.Fn.{filter_same}
use Rattle.group_tables.specs.declared.numbers.CrashedCore.{CrashedCore}
use Rattle.intake.specs.Parts.{state_of}
use Rattle.journal_layout.specs.Case.{Case, case_of}
use Rattle.case_info.specs.Groups.{IsTextOf, is_there, there}
use Rattle.case_info.specs.Screens.{held}
use Rattle.case_info.proofs.GroupLemmas.{some_of}
use Rattle.case_info.proofs.groups.print_there.Goals as goal

pub returns-in-Ok : goal.returns-in-Ok
returns-in-Ok g c =
    let s = state_of c.args.archive.now in
    let left = c.retain.new.self in
    let kept = filter_same _ (is_there s) _ (λ x b f' k. search rules) _ _ c.retain.ensures.filtered in
    let text = held c.in_ok-put_groups-in-Ok.field-0 in
    record {
      text = λ plain.
          subst (λ (cs : List Case). IsTextOf cs (there s c.args.crashes.items) c.args.form text) c.in-Ok.ensures.1
          (subst (λ (ks : List CrashedCore). IsTextOf (map case_of c.in-Ok.cases.now) ks c.args.form text) (c.deref.ensures.value ∙ kept) (c.in_ok-put_groups-in-Ok.ensures plain));
      some = some_of left.len left.items _ _ c.is_empty.ensures (omega (arith, left.ok)) kept;
    }
