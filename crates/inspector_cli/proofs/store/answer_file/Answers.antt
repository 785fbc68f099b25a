use Rattle.std.proofs.Common.{refl, ◌++◌, None, Some, Ok, Err, ap}
use Rattle.std.specs.List.{flat_map}
use Rattle.std.specs.Prelude.{codes}
use Rattle.inspector_cli.specs.declared.store.TakeStop.TheVariants.{File, Refused, Cut, Differs}
use Rattle.inspector_cli.specs.Fitting.{going_text}
use Rattle.intake.specs.Parts.{state_of}
use Rattle.inspector_cli.specs.Storing.{difference_reason}
use Rattle.script_streams.specs.Replies.{no_reply}
use Rattle.archive_replies.specs.Reasons.{reason_of}
use Rattle.script_streams.specs.PrintLaws.{prints_as, prints_then}
use Rattle.inspector_cli.proofs.SpentLemmas.{ended_spent, file_unspent, difference_unspent, refused_spent}
use Rattle.inspector_cli.proofs.store.answer_file.Goals as goal

pub returns-in-Err-File : goal.returns-in-Err-File
returns-in-Err-File g c =
    let t = rw c.in-Err-File.field-0-is at c.in-Err-File.ensures.all in (
      flat_map going_text t.0 ++ no_reply (codes "File"),
      (t.0, None, c.fill_stream.new.archive, no_reply (codes "File"), refl, t.3, (Err File, t.2, (refl, refl, refl), refl), λ fits was. file_unspent c.args.order (state_of c.fill_stream.new.archive), t.4),
      prints_then t.1 c.print_no.ensures,
    )

pub returns-in-Err-Refused : goal.returns-in-Err-Refused
returns-in-Err-Refused g c =
    let t = rw c.in-Err-Refused.field-0-is at c.in-Err-Refused.ensures.all in (
      flat_map going_text t.0 ++ no_reply (reason_of c.in-Err-Refused.fault),
      (
        t.0,
        None,
        c.fill_stream.new.archive,
        no_reply (reason_of c.in-Err-Refused.fault),
        refl,
        t.3,
        (Err (Refused c.in-Err-Refused.fault), t.2, (refl, refl, refl), refl),
        λ fits was. refused_spent c.args.order c.in-Err-Refused.fault (state_of c.fill_stream.new.archive) (rw c.in-Err-Refused.field-0-is at (c.in-Err-Refused.ensures.served fits was)),
        t.4,
      ),
      prints_then t.1 (prints_as (ap no_reply c.reason.ensures) c.print_no-in-Err-Refused.ensures),
    )

pub returns-in-Err-Differs : goal.returns-in-Err-Differs
returns-in-Err-Differs g c =
    let t = rw c.in-Err-Differs.field-0-is at c.in-Err-Differs.ensures.all in (
      flat_map going_text t.0 ++ no_reply (difference_reason c.in-Err-Differs.fault),
      (
        t.0,
        None,
        c.fill_stream.new.archive,
        no_reply (difference_reason c.in-Err-Differs.fault),
        refl,
        t.3,
        (Err (Differs c.in-Err-Differs.fault), t.2, (refl, refl, refl), refl),
        λ fits was. difference_unspent c.args.order c.in-Err-Differs.fault (state_of c.fill_stream.new.archive),
        t.4,
      ),
      prints_then t.1 (prints_as (ap no_reply c.difference_reason.ensures) c.print_no-in-Err-Differs.ensures),
    )

pub returns-in-Ok : goal.returns-in-Ok
returns-in-Ok g c =
    let t = c.in-Ok.ensures.all in (
      flat_map going_text t.0 ++ c.answer_end.ensures.0,
      (
        t.0,
        None,
        c.fill_stream.new.archive,
        c.answer_end.ensures.0,
        refl,
        t.3,
        (Ok tt, t.2, c.answer_end.ensures.1, refl),
        λ fits was. (let s = c.in-Ok.ensures.served fits was in let e = c.answer_end.ensures.1 in
            rw e.2 (ended_spent c.args.order (state_of c.fill_stream.new.archive) (state_of c.answer_end.new.archive) e.0 s.0 s.1 e.1.step)),
        t.4,
      ),
      prints_then t.1 c.answer_end.ensures.2,
    )

pub returns-in-Err-Cut : goal.returns-in-Err-Cut
returns-in-Err-Cut g c =
    let t = rw c.in-Err-Cut.field-0-is at c.in-Err-Cut.ensures.all in
    let a = c.answer_front.ensures in (
      flat_map going_text t.0 ++ a.0,
      (
        t.0,
        Some c.in-Err-Cut.kept,
        c.fill_stream.new.archive,
        a.1.0,
        ap (λ (x : _). flat_map going_text t.0 ++ x) a.1.1,
        t.3,
        (Err (Cut c.in-Err-Cut.kept), t.2, a.1.2, refl),
        λ fits was. (let s = rw c.in-Err-Cut.field-0-is at (c.in-Err-Cut.ensures.served fits was) in let e = a.1.2 in
            rw e.2 (ended_spent c.args.order (state_of c.fill_stream.new.archive) (state_of c.answer_front.new.archive) e.0 s.0 s.1 e.1.step)),
        t.4,
      ),
      prints_then t.1 a.2,
    )
