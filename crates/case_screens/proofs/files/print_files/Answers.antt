use Rattle.std.proofs.Common.{List, Option, Result, Ok, ap, map, sym, ◌∙◌}
use Rattle.std.specs.Borrow.{Bor}
use Rattle.std.specs.Option.{option_map}
use Rattle.std.specs.Prelude.{codes}
use Rattle.build_replies.specs.declared.answers.BuildAnswer.{BuildAnswer}
use Rattle.image_replies.specs.declared.core_image.CoreFault.{CoreFault}
use Rattle.image_replies.specs.declared.core_image.CoreImage.{CoreImage}
use Rattle.journal_layout.specs.Case.{case_of}
use Rattle.script_streams.specs.PrintLaws.{prints_as}
use Rattle.case_screens.specs.Core.{notes_read}
use Rattle.case_screens.specs.Files.{files_text}
use Rattle.case_screens.specs.Texts.{refused_line}
use Rattle.case_screens.proofs.files.print_files.Goals as goal

pub returns-in-Err-default : goal.returns-in-Err-default
returns-in-Err-default g c =
    let cases = map case_of c.args.cases.now in
    let rows = option_map (λ (b : Bor (List BuildAnswer)). b.now) c.args.builds in
    prints_as (ap (refused_line (codes "files     ")) c.core_reason.ensures ∙ ap (λ (r : Result CoreImage CoreFault). files_text cases (notes_read r) rows) (sym c.in-Err-default.is-0))
    c.print_refused.ensures

pub returns-in-Ok-Some : goal.returns-in-Ok-Some
returns-in-Ok-Some g c =
    let cases = map case_of c.args.cases.now in
    let rows = option_map (λ (b : Bor (List BuildAnswer)). b.now) c.args.builds in
    let core : Result CoreImage CoreFault = Ok c.in-Ok-Some.field-0-0 in
    prints_as
    (ap (λ (o : Option (Bor (List BuildAnswer))). files_text cases (notes_read core) (option_map (λ (b : Bor (List BuildAnswer)). b.now) o)) (sym c.in-Ok-Some.is-1)
    ∙ ap (λ (r : Result CoreImage CoreFault). files_text cases (notes_read r) rows) (sym c.in-Ok-Some.is-0))
    c.print_first.ensures

pub returns-in-Ok-None : goal.returns-in-Ok-None
returns-in-Ok-None g c =
    let cases = map case_of c.args.cases.now in
    let rows = option_map (λ (b : Bor (List BuildAnswer)). b.now) c.args.builds in
    let core : Result CoreImage CoreFault = Ok c.in-Ok-None.field-0-0 in
    prints_as
    (ap (refused_line (codes "files     ")) c.missing.ensures
    ∙ ap (λ (o : Option (Bor (List BuildAnswer))). files_text cases (notes_read core) (option_map (λ (b : Bor (List BuildAnswer)). b.now) o)) (sym c.in-Ok-None.is-1)
    ∙ ap (λ (r : Result CoreImage CoreFault). files_text cases (notes_read r) rows) (sym c.in-Ok-None.is-0))
    c.print_refused-in-Ok-None.ensures
