use Rattle.std.proofs.Common.{refl}
use Rattle.archive_files.proofs.over_disk.ask_over.Goals as goal

pub returns : goal.returns
returns g c = (
  c.open_and_ask-asked.result.0,
  c.open_and_ask-asked.ensures.outcome,
  (λ naming line by_path one is. (_, c.open_and_ask-asked.ensures.crash_safe naming line by_path one is, refl)),
  c.ask_told.ensures,
)
