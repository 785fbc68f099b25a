use Rattle.std.proofs.Common.{inl, inr, [], refl, sym, ◌∙◌}
use Rattle.archive_replies.specs.Texts.{retire_reply}
use Rattle.intake.specs.Parts.{state_of}
use Rattle.script_streams.specs.PrintLaws.{prints_nothing}
use Rattle.inspector_cli.proofs.RetiredLemmas.{retired_runs}
use Rattle.inspector_cli.proofs.retiring.retire_for_name.Goals as goal

pub returns-in_default : goal.returns-in_default
returns-in_default g c =
    let none = c.in_default.ensures in
    ([], inl (refl, none.0, refl, none.1, none.2), prints_nothing)

pub returns : goal.returns
returns g c =
    let call = c.in-Some.ensures in
    let made = c.is_ok-is_carried_out.ensures.value in (
      retire_reply c.in-Some.outcome,
      inr ((c.in-Some.outcome, call.0, refl), made, λ done. retired_runs (state_of c.args.archive.now) (state_of c.retire_for.new.self) c.args.policy c.args.name.now.items c.in-Some.outcome call.0.step call.1 (sym done ∙ made)),
      c.print_retired.ensures,
    )
