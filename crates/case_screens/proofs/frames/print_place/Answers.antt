use Rattle.std.proofs.Common.{ap, cond, sym}
use Rattle.std.specs.Option.{option_map}
use Rattle.std.specs.Prelude.{codes}
use Rattle.core_notes.specs.FileWords.{file_view}
use Rattle.script_streams.specs.PrintLaws.{prints_as}
use Rattle.case_screens.specs.Frames.{function_text}
use Rattle.case_screens.proofs.frames.print_place.Goals as goal

pub returns-then-frame : goal.returns-then-frame
returns-then-frame g c =
    let f = c.args.frame.now in
    prints_as (ap (λ t. cond t (codes "signal") (function_text f.function (option_map file_view c.args.file) f.pc)) (sym c.if-frame.true)) c.print.ensures

pub returns-else-frame : goal.returns-else-frame
returns-else-frame g c =
    let f = c.args.frame.now in
    prints_as (ap (λ t. cond t (codes "signal") (function_text f.function (option_map file_view c.args.file) f.pc)) (sym c.if-frame.false)) c.print_function.ensures
