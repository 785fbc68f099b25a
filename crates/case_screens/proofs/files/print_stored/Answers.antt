use Rattle.std.proofs.Common.{ap, map, sym, ◌∙◌}
use Rattle.build_replies.specs.ChoosingWords.{chosen_view}
use Rattle.build_replies.specs.Mapped.{build_view}
use Rattle.build_replies.specs.declared.choosing.ChosenFile.{ChosenFile}
use Rattle.journal_layout.specs.Case.{case_of}
use Rattle.script_streams.specs.PrintLaws.{prints_as}
use Rattle.case_screens.specs.Files.{chosen_text, has_build, other_text, store_text, used_text}
use Rattle.case_screens.proofs.files.print_stored.Goals as goal

pub returns-in-ByBuild : goal.returns-in-ByBuild
returns-in-ByBuild g c =
    let v = build_view c.args.file.now in
    prints_as (ap (λ n. used_text n (map case_of c.args.cases.now) v.debug) c.stored_number.ensures ∙ ap (λ (k : ChosenFile). chosen_text (map case_of c.args.cases.now) v.name v.core v.debug (chosen_view k)) (sym c.in-ByBuild.is)) c.print_used.ensures

pub returns-in-ByPath : goal.returns-in-ByPath
returns-in-ByPath g c =
    let v = build_view c.args.file.now in
    prints_as (ap (λ n. used_text n (map case_of c.args.cases.now) v.debug) c.stored_number-in-ByPath.ensures ∙ ap (λ (k : ChosenFile). chosen_text (map case_of c.args.cases.now) v.name v.core v.debug (chosen_view k)) (sym c.in-ByPath.is)) c.print_used-in-ByPath.ensures

pub returns-in-Other : goal.returns-in-Other
returns-in-Other g c =
    let v = build_view c.args.file.now in
    prints_as (ap other_text c.stored_number-in-Other.ensures ∙ ap (λ (k : ChosenFile). chosen_text (map case_of c.args.cases.now) v.name v.core v.debug (chosen_view k)) (sym c.in-Other.is)) c.print_other.ensures

pub returns-in-Nothing : goal.returns-in-Nothing
returns-in-Nothing g c =
    let v = build_view c.args.file.now in
    prints_as (ap (λ told. store_text told v.name) (c.has_build.ensures ∙ ap has_build c.id.ensures) ∙ ap (λ (k : ChosenFile). chosen_text (map case_of c.args.cases.now) v.name v.core v.debug (chosen_view k)) (sym c.in-Nothing.is)) c.print_store_text.ensures
