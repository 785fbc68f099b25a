use Rattle.std.proofs.Common.{ap, sym}
use Rattle.script_streams.specs.PrintLaws.{prints_as, prints_nothing}
use Rattle.group_tables.specs.Identity.{missing_line}
use Rattle.group_tables.proofs.identity.print_end.Goals as goal

pub returns-then-is_missing : goal.returns-then-is_missing
returns-then-is_missing g c = prints_as (ap missing_line (sym c.if-is_missing.true)) c.print.ensures

pub returns-else-is_missing : goal.returns-else-is_missing
returns-else-is_missing g c = prints_as (ap missing_line (sym c.if-is_missing.false)) prints_nothing
