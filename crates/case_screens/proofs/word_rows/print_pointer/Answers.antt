use Rattle.std.proofs.Common.{Option, ap, sym}
use Rattle.std.specs.Option.{option_map}
use Rattle.address_space.specs.SpaceWords.{space_of}
use Rattle.image_replies.specs.CoreWords.{core_bytes}
use Rattle.memory_replies.specs.NamedWords.{place_view}
use Rattle.memory_replies.specs.declared.named.Location.{Location}
use Rattle.script_streams.specs.PrintLaws.{prints_as, prints_then}
use Rattle.case_screens.specs.WordRows.{pointer_text}
use Rattle.case_screens.proofs.word_rows.print_pointer.Goals as goal

pub returns-in-Some : goal.returns-in-Some
returns-in-Some g c =
    prints_as (ap (λ (l : Option Location). pointer_text (core_bytes c.args.memory.core.now) (space_of c.args.memory.space.now) (option_map place_view l) c.args.address) (sym c.in-Some.is))
    (prints_then c.print.ensures c.print_place.ensures)

pub returns-in-None : goal.returns-in-None
returns-in-None g c =
    prints_as (ap (λ (l : Option Location). pointer_text (core_bytes c.args.memory.core.now) (space_of c.args.memory.space.now) (option_map place_view l) c.args.address) (sym c.in-None.is))
    c.print_unnamed.ensures
