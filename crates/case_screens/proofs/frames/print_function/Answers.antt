use Rattle.std.proofs.Common.{Option, ap, sym}
use Rattle.std.specs.Option.{option_map}
use Rattle.core_notes.specs.FileWords.{file_view}
use Rattle.memory_replies.specs.declared.named.Location.{Location}
use Rattle.script_streams.specs.PrintLaws.{prints_then, prints_as}
use Rattle.case_screens.specs.Frames.{function_text}
use Rattle.case_screens.proofs.frames.print_function.Goals as goal

pub returns-in-Some : goal.returns-in-Some
returns-in-Some g c =
    prints_as (ap (λ (l : Option Location). function_text l (option_map file_view c.args.file) c.args.pc) (sym c.in-Some.is))
    (prints_then c.print_name.ensures (prints_then c.print.ensures c.print_hexadecimal.ensures))

pub returns-in-None : goal.returns-in-None
returns-in-None g c =
    prints_as (ap (λ (l : Option Location). function_text l (option_map file_view c.args.file) c.args.pc) (sym c.in-None.is))
    c.print_unnamed.ensures
