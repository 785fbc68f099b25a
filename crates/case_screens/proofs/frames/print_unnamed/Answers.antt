use Rattle.std.proofs.Common.{Option, ap, sym, ◌∙◌}
use Rattle.std.specs.Option.{option_map}
use Rattle.core_notes.specs.FileWords.{file_view}
use Rattle.core_notes.specs.declared.file_list.FileMap.{FileMap}
use Rattle.script_streams.specs.PrintLaws.{prints_as}
use Rattle.case_screens.specs.Frames.{unnamed_text}
use Rattle.case_screens.specs.Texts.{name_text}
use Rattle.case_screens.proofs.frames.print_unnamed.Goals as goal

pub returns-in-Some : goal.returns-in-Some
returns-in-Some g c =
    prints_as (ap name_text (c.deref.ensures.0 ∙ c.file_place.ensures) ∙ ap (λ (m : Option FileMap). unnamed_text (option_map file_view m) c.args.pc) (sym c.in-Some.is)) c.print_name.ensures

pub returns-in-None : goal.returns-in-None
returns-in-None g c = prints_as (ap (λ (m : Option FileMap). unnamed_text (option_map file_view m) c.args.pc) (sym c.in-None.is)) c.print.ensures
