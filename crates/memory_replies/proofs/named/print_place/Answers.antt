use Rattle.std.proofs.Common.{Option, ap, sym}
use Rattle.std.specs.Option.{option_map}
use Rattle.script_streams.specs.PrintLaws.{prints_then, prints_as}
use Rattle.memory_replies.specs.NamedWords.{place_view}
use Rattle.memory_replies.specs.Places.{place_words}
use Rattle.memory_replies.specs.declared.named.Location.{Location}
use Rattle.memory_replies.proofs.named.print_place.Goals as goal

pub returns-in-Some : goal.returns-in-Some
returns-in-Some g c =
    prints_as (ap (λ (p : Option Location). place_words (option_map place_view p)) (sym c.in-Some.is))
    (prints_then c.print_text.ensures (prints_then c.print.ensures c.print_hexadecimal.ensures))

pub returns-in-None : goal.returns-in-None
returns-in-None g c =
    prints_as (ap (λ (p : Option Location). place_words (option_map place_view p)) (sym c.in-None.is)) c.print-in-None.ensures
