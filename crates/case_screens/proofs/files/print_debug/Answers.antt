use Rattle.std.proofs.Common.{Option, map, ap, sym}
use Rattle.std.specs.Option.{option_map}
use Rattle.address_space.specs.SpaceWords.{attached_view}
use Rattle.address_space.specs.declared.attached.Attached.{Attached}
use Rattle.journal_layout.specs.Case.{case_of}
use Rattle.script_streams.specs.PrintLaws.{prints_as, prints_then}
use Rattle.case_screens.specs.Files.{debug_text, number_text}
use Rattle.case_screens.proofs.files.print_debug.Goals as goal

pub returns-in-Some : goal.returns-in-Some
returns-in-Some g c =
    prints_as (ap (λ (d : Option Attached). debug_text (map case_of c.args.cases.now) (option_map attached_view d)) (sym c.in-Some.is))
    (prints_then c.print.ensures (prints_as (ap number_text c.stored_number.ensures) c.print_number.ensures))
