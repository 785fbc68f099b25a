use Rattle.std.proofs.Common.{ap, option_map, sym, ◌∙◌}
use Rattle.std.specs.Prelude.{codes}
use Rattle.core_notes.specs.FileWords.{files_bytes}
use Rattle.script_streams.specs.PrintLaws.{prints_as}
use Rattle.case_screens.specs.Core.{files_in}
use Rattle.case_screens.specs.Frames.{frames_text}
use Rattle.case_screens.specs.Texts.{refused_line}
use Rattle.case_screens.proofs.frames.print_frames.Goals as goal

pub returns-in-Some : goal.returns-in-Some
returns-in-Some g c = prints_as (ap (frames_text (files_in (option_map files_bytes c.args.files))) (sym c.in-Some.is)) c.print_known_frames.ensures

pub returns-in-None : goal.returns-in-None
returns-in-None g c =
    prints_as (ap (refused_line (codes "frames    ")) c.no_thread.ensures ∙ ap (frames_text (files_in (option_map files_bytes c.args.files))) (sym c.in-None.is))
    c.print_refused.ensures
