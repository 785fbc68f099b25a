use Rattle.std.proofs.Common.{◌≡◌, ap, arith, ◌∙◌}
use Rattle.address_space.specs.Source.{value_of}
use Rattle.script_streams.specs.PrintLaws.{prints_as}
use Rattle.memory_replies.proofs.TextLemmas.{shown_one}
use Rattle.memory_replies.proofs.texts.print_shown.Goals as goal

pub returns-in-1 : goal.returns-in-1
returns-in-1 g c =
    let one : c.args.count ≡ 1 = omega arith in
    prints_as (shown_one _ c.args.start _ _ one (c.value.ensures ∙ ap value_of c.at.ensures)) c.print_alone.ensures
