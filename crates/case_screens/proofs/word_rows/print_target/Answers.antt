use Rattle.std.proofs.Common.{ap}
use Rattle.address_space.specs.SpaceWords.{space_of}
use Rattle.image_replies.specs.CoreWords.{core_bytes}
use Rattle.script_streams.specs.PrintLaws.{prints_as}
use Rattle.case_screens.specs.WordRows.{pointer_text}
use Rattle.case_screens.proofs.word_rows.print_target.Goals as goal

pub returns : goal.returns
returns g c =
    let memory = c.args.memory in
    prints_as (ap (λ place. pointer_text (core_bytes memory.core.now) (space_of memory.space.now) place c.args.address) c.function_of-place.ensures) c.print_pointer.ensures
