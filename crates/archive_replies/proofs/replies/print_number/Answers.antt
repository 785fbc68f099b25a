use Rattle.std.proofs.Common.{ap}
use Rattle.std.specs.Prelude.{decimal}
use Rattle.script_streams.specs.PrintLaws.{prints_then, prints_as}
use Rattle.archive_replies.proofs.replies.print_number.Goals as goal

pub returns : goal.returns
returns g c = prints_then (prints_as (ap decimal c.from.ensures) c.print_decimal.ensures) c.print.ensures
