use Rattle.std.proofs.Common.{Option, ap, sym}
use Rattle.std.specs.Option.{option_map}
use Rattle.address_space.specs.SourceWords.{spot_view}
use Rattle.address_space.specs.declared.source.FileSpot.{FileSpot}
use Rattle.script_streams.specs.PrintLaws.{prints_then, prints_as}
use Rattle.memory_replies.specs.Words.{spot_words}
use Rattle.memory_replies.proofs.words.print_spot.Goals as goal

pub returns-in-Some : goal.returns-in-Some
unfolding spot_words
returns-in-Some g c =
    prints_as (ap (λ (s : Option FileSpot). spot_words (option_map spot_view s)) (sym c.in-Some.is))
    (prints_then c.print_hex_word.ensures c.print_text.ensures)

pub returns-in-None : goal.returns-in-None
unfolding spot_words
returns-in-None g c =
    prints_as (ap (λ (s : Option FileSpot). spot_words (option_map spot_view s)) (sym c.in-None.is)) c.print.ensures
