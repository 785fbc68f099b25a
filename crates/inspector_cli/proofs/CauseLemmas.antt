-- Each fault of a session has its cause, and each reply to the end of a stream its answer.
use Rattle.std.proofs.Common.{◌≡◌, ℕ, Ok, Err, sym, subst}
use Rattle.std.proofs.lemmas.Option.{same_Some, none-some}
use Rattle.disk_model.specs.declared.disk.Disk as disk
use Rattle.intake.specs.Calls.{FinishCall}
use Rattle.intake.specs.Parts.{Parts}
use Rattle.archive_replies.specs.Texts.{end_reply}
use Rattle.inspector_cli.specs.Causes.{AReadFailed, ReadsWereMany, AWriteFailed, StoredIsAnswered, RefusedIsAnswered}

module _ {D : Type 0} (g : disk.Ghosts D) where
  pub read_failed : AReadFailed g
  read_failed naming t old new (read, out, stages, end, consumes, appends, answers, drops, found, failed) = failed

  pub reads_were_many : ReadsWereMany g
  reads_were_many naming t old new (read, out, stages, end, consumes, appends, answers, drops, found, many) = (read, consumes, many)

  pub write_failed : AWriteFailed g
  write_failed naming t old new ends = ends.lost

  pub stored_answered : StoredIsAnswered g
  stored_answered old new slot seq reply (Ok n, call, text, stored) =
      let same = same_Some seq n stored in
      subst (λ (m : ℕ). FinishCall g old slot (Ok m) new × (reply ≡ end_reply (Ok m))) (sym same) (call, text)
  stored_answered old new slot seq reply (Err fault, call, text, stored) = absurd (none-some seq (sym stored))

  pub refused_answered : RefusedIsAnswered g
  refused_answered old new slot reply (Ok n, call, text, stored) = absurd (none-some n stored)
  refused_answered old new slot reply (Err fault, call, text, stored) = (fault, call, text)
