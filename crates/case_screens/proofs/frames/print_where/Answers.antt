use Rattle.std.proofs.Common.{Option, ap, sym, ◌∙◌}
use Rattle.std.specs.Option.{option_map}
use Rattle.core_notes.specs.FileWords.{file_view}
use Rattle.core_notes.specs.declared.file_list.FileMap.{FileMap}
use Rattle.case_tables.specs.Table.{spaces}
use Rattle.script_streams.specs.PrintLaws.{prints_as, prints_then}
use Rattle.case_screens.specs.Frames.{place_text, where_text}
use Rattle.case_screens.proofs.frames.print_where.Goals as goal

pub returns-in-Some : goal.returns-in-Some
returns-in-Some g c =
    let f = c.args.frame.now in
    prints_as (ap (λ (m : Option FileMap). where_text f (option_map file_view m)) (sym c.in-Some.is))
    (prints_then
    (prints_then (prints_as (ap (λ (m : Option FileMap). place_text f (option_map file_view m)) c.in-Some.is) c.print_place.ensures)
    (prints_then (prints_as (ap spaces c.room_of.ensures) c.print_spaces.ensures) c.print.ensures))
    c.print_name.ensures)

pub returns-in_default : goal.returns-in_default
returns-in_default g c =
    let f = c.args.frame.now in
    prints_as (ap (λ (m : Option FileMap). place_text f (option_map file_view m)) c.in_default.is ∙ ap (λ (m : Option FileMap). where_text f (option_map file_view m)) (sym c.in_default.is))
    c.print_place.ensures
