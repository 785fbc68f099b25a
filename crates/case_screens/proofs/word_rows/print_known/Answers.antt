use Rattle.std.proofs.Common.{ap, map, sym}
use Rattle.address_space.specs.SpaceWords.{space_of}
use Rattle.image_replies.specs.CoreWords.{core_bytes}
use Rattle.memory_replies.specs.NamingWords.{named_file}
use Rattle.script_streams.specs.PrintLaws.{prints_as, prints_then}
use Rattle.case_screens.specs.WordRows.{known_text}
use Rattle.case_screens.proofs.word_rows.print_known.Goals as goal

pub returns-in-Some : goal.returns-in-Some
returns-in-Some g c =
    let memory = c.args.memory in
    prints_as (ap (known_text (core_bytes memory.core.now) (space_of memory.space.now) (map named_file memory.named.now)) (sym c.in-Some.is))
    (prints_then c.print_digits.ensures c.print_target.ensures)
