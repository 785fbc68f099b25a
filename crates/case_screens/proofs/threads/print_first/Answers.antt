use Rattle.std.proofs.Common.{◌≡◌, ◌≤◌, List, [], ◌∷◌, ◌++◌, ap, arith, get_or, length, option_map, refl}
use Rattle.core_notes.specs.FileList.{FileView}
use Rattle.core_notes.specs.FileWords.{files_bytes}
use Rattle.frame_replies.specs.declared.values.FrameAnswer.{FrameAnswer}
use Rattle.script_streams.specs.PrintLaws.{prints_as, prints_then}
use Rattle.case_screens.specs.Core.{files_in}
use Rattle.case_screens.specs.Frames.{first_place, frame_file, in_file, in_function}
use Rattle.case_screens.proofs.threads.print_first.Goals as goal

one : (files : List FileView) (fs : List FrameAnswer) (f : FrameAnswer) → 1 ≤ length fs → in_function (get_or fs 0 f) ++ in_file (frame_file files (get_or fs 0 f)) ≡ first_place files fs
one files [] f some = absurd (omega (arith, some))
one files (x ∷ xs) f some = refl

pub returns-in-len1-up : goal.returns-in-len1-up
returns-in-len1-up g c =
    prints_as (one (files_in (option_map files_bytes c.args.files)) c.args.frames.now _ c.in-len1-up.len_at_least)
    (prints_then c.print_function.ensures (prints_as (ap in_file c.frame_file.ensures) c.print_file.ensures))
