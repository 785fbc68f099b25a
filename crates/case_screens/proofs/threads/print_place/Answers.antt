use Rattle.std.proofs.Common.{ap, option_map, sym, ◌∙◌}
use Rattle.core_notes.specs.FileWords.{files_bytes}
use Rattle.script_streams.specs.PrintLaws.{prints_as}
use Rattle.case_screens.specs.Core.{files_in}
use Rattle.case_screens.specs.Frames.{first_place, pc_place}
use Rattle.case_screens.proofs.threads.print_place.Goals as goal

pub returns-in-Some : goal.returns-in-Some
returns-in-Some g c =
    let files = files_in (option_map files_bytes c.args.files) in
    prints_as (ap (first_place files) c.deref.ensures.value ∙ ap (pc_place files) (sym c.in-Some.is)) c.print_first.ensures
