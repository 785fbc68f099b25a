use Rattle.std.proofs.Common.{◌≡◌, ap, ◌∙◌, length, map, min, take, arith}
use Rattle.std.proofs.lemmas.List.{take_min}
use Rattle.image_replies.specs.Lines.{numbered_lines}
use Rattle.journal_layout.specs.Case.{case_of}
use Rattle.script_streams.specs.PrintLaws.{prints_then, prints_as}
use Rattle.case_screens.specs.Files.{file_row}
use Rattle.case_screens.proofs.files.print_first.Goals as goal

pub returns : goal.returns
returns g c =
    let row = file_row (map case_of c.args.cases.now) in
    let rows = c.args.rows.now in
    let most : c.min.result ≡ min 256 (length rows) = omega (arith, c.min.ensures) in
    let shown = c.split_at.ensures.front ∙ ap (λ n. take n rows) most ∙ take_min 256 rows in
    prints_then (prints_as (ap (numbered_lines row 0) shown) c.print_rows.ensures) c.print_rest_after.ensures
