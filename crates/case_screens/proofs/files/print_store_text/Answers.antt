use Rattle.std.proofs.Common.{ap, sym}
use Rattle.script_streams.specs.PrintLaws.{prints_as}
use Rattle.case_screens.specs.Files.{store_text}
use Rattle.case_screens.proofs.files.print_store_text.Goals as goal

pub returns-then-has_id : goal.returns-then-has_id
returns-then-has_id g c = prints_as (ap (λ t. store_text t c.args.name.now) (sym c.if-has_id.true)) c.print.ensures

pub returns-else-has_id : goal.returns-else-has_id
returns-else-has_id g c = prints_as (ap (λ t. store_text t c.args.name.now) (sym c.if-has_id.false)) c.print_exec_text.ensures
