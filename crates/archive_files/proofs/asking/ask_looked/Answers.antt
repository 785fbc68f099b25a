use Rattle.std.proofs.Common.{Ok, Err, refl, ap, Some}
use Rattle.script_lines.specs.Commands.{question_said}
use Rattle.archive_files.specs.declared.failures.Failure.TheVariants.{Refused}
use Rattle.archive_files.proofs.AskLemmas.{asks_from}
use Rattle.archive_files.proofs.asking.ask_looked.Goals as goal

pub returns-in-Ok-ask_unlocked : goal.returns-in-Ok-ask_unlocked
returns-in-Ok-ask_unlocked g c =
    rw c.in-Ok.is (
      c.text.result.now,
      c.new-reply.result.failures,
      c.ask_unlocked.new.output.failures,
      Ok c.in-Ok-ask_unlocked.is_done,
      rw (c.new-reply.ensures, c.text.ensures) at c.in-Ok-ask_unlocked.ensures,
      c.deliver.ensures,
    )

pub returns : goal.returns
returns g c =
    rw c.in-Ok.is (
      c.ask_unlocked.new.output.text.items,
      c.new-reply.result.failures,
      c.ask_unlocked.new.output.failures,
      Err c.in-Err-ask_unlocked.fault,
      asks_from g.S.SharedDisk _ c.in-Ok.looked.shared (question_said c.args.question) _ _ (Some c.ask_unlocked.new.output.text.items) c.new-reply.result.failures c.ask_unlocked.new.output.failures (Err c.in-Err-ask_unlocked.fault)
          c.new-reply.ensures c.in-Err-ask_unlocked.ensures,
      (ap (λ x. Err (Refused x)) c.unasked.ensures, refl, refl),
    )
