use Rattle.std.proofs.Common.{ap, ◌∙◌}
use Rattle.crash_signatures.specs.Tables.{is_death}
use Rattle.crash_signatures.proofs.steps.ends_process.Goals as goal

pub returns : goal.returns
returns c = c.is_death.ensures ∙ ap is_death c.as_slice.ensures.value
