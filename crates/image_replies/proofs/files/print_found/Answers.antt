use Rattle.std.proofs.Common.{Option, ap, sym}
use Rattle.std.specs.Option.{option_map}
use Rattle.std.specs.List.{flat_map}
use Rattle.core_notes.specs.declared.file_list.Files.{Files}
use Rattle.core_notes.specs.FileWords.{files_bytes}
use Rattle.script_streams.specs.Replies.{reply_of}
use Rattle.script_streams.specs.PrintLaws.{prints_then, prints_as}
use Rattle.image_replies.specs.Lines.{if_there}
use Rattle.image_replies.specs.Files.{file_line, file_lines}
use Rattle.image_replies.proofs.files.print_found.Goals as goal

pub returns-in-Some-clause-states : goal.returns-in-Some-clause-states
returns-in-Some-clause-states g c =
    prints_as (ap (λ (o : Option Files). reply_of (if_there (option_map files_bytes o) file_lines)) (sym c.in-Some.is))
    (prints_then (prints_as (ap (flat_map file_line) c.maps.ensures) c.print_file_lines.ensures) c.print_ok.ensures)

pub returns-in-None-clause-states : goal.returns-in-None-clause-states
returns-in-None-clause-states g c =
    prints_as (ap (λ (o : Option Files). reply_of (if_there (option_map files_bytes o) file_lines)) (sym c.in-None.is)) c.print_no.ensures
