use Rattle.std.proofs.Common.{map, ap, ◌∙◌}
use Rattle.journal_layout.specs.Case.{case_of}
use Rattle.fair_share.specs.Owners.{program_of, user_of}
use Rattle.fair_share.proofs.WeighLemmas.{step_by_step}
use Rattle.fair_share.proofs.choosing.fairest.Goals as goal

pub returns : goal.returns
returns c =
    step_by_step (map case_of c.args.cases.now) (case_of c.in_ok-user.user.now) (case_of c.in_ok-program.program.now) c.user_of.result.now c.program_of.result.now _
    c.in_ok-user.ensures (c.user_of.ensures ∙ ap user_of c.deref.ensures.0) c.in_ok-program.ensures (c.program_of.ensures ∙ ap program_of c.deref-2.ensures.0) c.inner.ensures
