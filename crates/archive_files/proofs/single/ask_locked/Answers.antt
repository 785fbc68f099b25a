use Rattle.std.proofs.Common.{inl, inr, refl}
use Rattle.script_lines.specs.Commands.{question_said}
use Rattle.archive_files.proofs.HoldLemmas.{answers_held}
use Rattle.archive_files.proofs.single.ask_locked.Goals as goal

pub returns-in-Ok-finish : goal.returns-in-Ok-finish
returns-in-Ok-finish g c =
    answers_held (question_said c.args.question) _ _ _ _ _ _ c.ask_over-disk.result.0 c.new-reply.ensures.taken c.ask_over-disk.ensures (inl refl)

pub returns : goal.returns
returns g c =
    answers_held (question_said c.args.question) _ _ _ _ _ _ c.ask_over-disk.result.0 c.new-reply.ensures.taken c.ask_over-disk.ensures (inr refl)
