use Rattle.std.proofs.Common.{Option, ap, sym}
use Rattle.std.specs.Borrow.{Bor}
use Rattle.std.specs.Option.{option_map}
use Rattle.std.specs.Prelude.{decimal}
use Rattle.frame_replies.specs.LineWords.{source_view}
use Rattle.frame_replies.specs.declared.source_line.SourceLine.{SourceLine}
use Rattle.script_streams.specs.PrintLaws.{prints_as, prints_then}
use Rattle.case_screens.specs.Frames.{source_text}
use Rattle.case_screens.specs.Texts.{name_text}
use Rattle.case_screens.proofs.frames.print_source.Goals as goal

pub returns-in-Some : goal.returns-in-Some
returns-in-Some g c =
    prints_as (ap (λ (l : Option (Bor SourceLine)). source_text (option_map (λ (line : Bor SourceLine). source_view line.now) l)) (sym c.in-Some.is))
    (prints_then c.print.ensures
    (prints_then (prints_as (ap name_text c.deref.ensures.value) c.print_name.ensures)
    (prints_then c.print-in-Some.ensures (prints_as (ap decimal c.from.ensures) c.print_decimal.ensures))))
