use Rattle.std.proofs.Common.{Option, ap, sym}
use Rattle.std.specs.Option.{option_map}
use Rattle.core_notes.specs.FileWords.{file_view}
use Rattle.core_notes.specs.declared.file_list.FileMap.{FileMap}
use Rattle.script_streams.specs.PrintLaws.{prints_then, prints_as}
use Rattle.case_screens.specs.Frames.{in_file}
use Rattle.case_screens.proofs.threads.print_file.Goals as goal

pub returns-in-Some : goal.returns-in-Some
returns-in-Some g c =
    prints_as (ap (λ (f : Option FileMap). in_file (option_map file_view f)) (sym c.in-Some.is))
    (prints_then c.print.ensures (prints_then c.print_name.ensures c.print-in-Some.ensures))
