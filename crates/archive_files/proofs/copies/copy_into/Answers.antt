use Rattle.std.proofs.Common.{◌∙◌, sym}
use Rattle.archive_files.proofs.copies.copy_into.Goals as goal

pub returns-in-Ok-settle_made-clause-copied : goal.returns-in-Ok-settle_made-clause-copied
returns-in-Ok-settle_made-clause-copied g c =
    let copied = c.copy_counted-from.ensures in
    (_, c.copy_counted-from.result.2, (copied.0, copied.1, sym c.in-Ok-settle_made.ensures.done ∙ copied.2))
